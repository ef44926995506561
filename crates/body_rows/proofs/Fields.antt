-- Of Fields: the theorems that rest on a declaration which an edit of a definition in specs/ refuses. The definitions and the other theorems stand in
-- specs/Fields.antt. Assumes nothing.
use Rattle.std.specs.Prelude.{ℕ, suc, ◌+◌, ◌<◌, ◌≤◌, ◌≡◌, refl, List, [], ◌∷◌, ◌++◌, Bool, true, false, cond, leb, eqb, length, take, drop, None, Option, Some}
use Prim.Native.Char.{code}
use Rattle.std.proofs.Common.{arith, sym, ap, ◌∙◌, inl, inr, leb-true, leb-false, eqb-true, ne_eqb, le-leb}
use Rattle.std.proofs.Math.Seq.{take-append_seam, drop-append-add}
use Rattle.std.proofs.lemmas.Bool.{lt-leb}
use Rattle.lex.specs.Text.{number_of, before}
use Rattle.forms.specs.declared.Cell.{Cell}
use Rattle.forms.specs.Form.{cell, valued, named, letter_of, optional_of, tag_of, tagged_of, resolution_of, behind_of, pair_of, read_as}
use Rattle.output.specs.Output.{number_text}
use Rattle.well_formed.specs.Parsed.{by_test, either, read_filled}
use Rattle.body_rows.specs.Text.{tag_letter, resolution_text, field_text, most_number, IsRes, IsOptional, Writable}
use Rattle.body_rows.specs.Numbers.{number_digits, number_filled}
use Rattle.body_rows.proofs.Numbers.{number_read, number_only}
use Rattle.body_rows.specs.Joined.{before_part}
use Rattle.body_rows.specs.Fields.{Spells, Tagged, bad_spells, binary_read, binary_spells, cell_eq, colon_parts, digits_letter, digits_without, is_spells, letter_is, named_only, no_way, res_filled, tag_only, tag_read, unary_read, unary_spells, valued_only, way_cases}

-- ── written, then read ──

-- RES
res_read : (b v : ℕ) → IsRes b v → resolution_of (resolution_text b v) ≡ Some (cell 0 b v)
unfolding resolution_text tagged_of
res_read b v (inl (p, h, s)) = rw (tag_read b p (omega arith), ne_eqb b 0 (λ e. omega (arith, e)), le-leb b 4 h, number_read v s)
res_read b v (inr (p, h, e)) = rw (tag_read b (omega arith) h, ne_eqb b 0 (λ e. omega (arith, e)), lt-leb b 4 p, e)

-- a number or `-`
optional_read : (b v : ℕ) → IsOptional b v
    → optional_of (letter_of (cond (eqb b 0) (code "-" ∷ []) (number_text v))) (cond (eqb b 0) (code "-" ∷ []) (number_text v)) ≡ Some (cell 0 b v)
unfolding optional_of letter_of
optional_read b v (inl (p, q)) = rw (p, q)
optional_read b v (inr (p, h)) =
    rw p (rw (ne_eqb (letter_of (number_text v)) 45 (digits_letter (number_text v) (number_digits v)), number_read v h))

-- a name, a colon, and what stands behind them
pair_read : (p : Bool) (a : ℕ) (t : List ℕ) → a ≤ most_number → pair_of p (number_text a ++ 58 ∷ t) ≡ named (Some a) (behind_of p t)
unfolding pair_of
pair_read p a t h =
    let b : before 58 (number_text a ++ 58 ∷ t) ≡ length (number_text a) = before_part 58 (number_text a) t (digits_without (number_text a) (number_digits a)) in
    rw (b, take-append_seam (number_text a) (58 ∷ t), drop-append-add (number_text a) (58 ∷ t) 1, number_read a h)

-- the text of a cell reads back as the cell
pub field_read : (c : ℕ) (x : Cell) → Writable c x → read_as c (field_text c x) ≡ Some x
unfolding Writable read_as field_text
field_read c x =
    way_cases (λ (c : ℕ). Writable c x → read_as c (field_text c x) ≡ Some x)
    (λ w. absurd w)
    (λ w. rw (number_read x.value w.2) (ap Some (cell_eq x 0 1 x.value w.0 w.1 refl)))
    (λ w. optional_read x.tag x.value w.1 ∙ ap Some (cell_eq x 0 x.tag x.value w.0 refl refl))
    (λ w. pair_read false x.name (number_text x.value) w.0 ∙ rw (number_read x.value w.2) (ap Some (cell_eq x x.name 1 x.value refl w.1 refl)))
    (λ w. binary_read x.value w.2 ∙ ap Some (cell_eq x 0 1 x.value w.0 w.1 refl))
    (λ w. unary_read x.value w.2 ∙ ap Some (cell_eq x 0 1 x.value w.0 w.1 refl))
    (λ w. res_read x.tag x.value w.1 ∙ ap Some (cell_eq x 0 x.tag x.value w.0 refl refl))
    (λ w. pair_read true x.name (resolution_text x.tag x.value) w.0 ∙ rw (res_read x.tag x.value w.1))
    (λ c h w. absurd (no_way c x h w))
    c

-- ── read, then written ──

-- a number
number_spells : (s : List ℕ) → Spells 1 s (valued 1 (number_of s))
unfolding Writable field_text
number_spells s x e =
    let v = valued_only 1 (number_of s) x e in
    let r = number_only s v.0 v.1 in
    rw (← v.2) ((refl, refl, r.0), r.1)

-- a number or `-`
optional_spells : (s : List ℕ) → Spells 2 s (optional_of (letter_of s) s)
unfolding optional_of Writable field_text
optional_spells s =
    by_test (Spells 2 s) (eqb (letter_of s) (code "-")) _ _
    (λ h. is_spells 2 s (cell 0 0 0) (refl, inl (refl, refl)) (sym (letter_is s 45 (omega arith) (eqb-true (letter_of s) 45 h))))
    (λ h x e.
    let v = valued_only 1 (number_of s) x e in
    let r = number_only s v.0 v.1 in
    rw (← v.2) ((refl, inr (refl, r.0)), r.1))

-- RES
res_only : (s : List ℕ) (x : Cell) → resolution_of s ≡ Some x → (x.name ≡ 0) × IsRes x.tag x.value × (resolution_text x.tag x.value ≡ s)
unfolding tag_of tagged_of resolution_text
res_only [] x e = let z : ◌≡◌ {A = ℕ} 0 1 = cc in absurd (omega arith)
res_only (y ∷ s) x e = by (tag_of y) (tag_only y) e
  where
    done : (r v : ℕ) (c : Cell) → cell 0 r v ≡ c → IsRes r v → resolution_text r v ≡ y ∷ s → (c.name ≡ 0) × IsRes c.tag c.value × (resolution_text c.tag c.value ≡ y ∷ s)
    done r v c q i t = rw (← q) (refl, i, t)

    low : (r : ℕ) → 0 < r → r ≤ 4 → tag_letter r ≡ y → valued r (number_of s) ≡ Some x → (x.name ≡ 0) × IsRes x.tag x.value × (resolution_text x.tag x.value ≡ y ∷ s)
    low r p h t e =
        let v = valued_only r (number_of s) x e in
        let m = number_only s v.0 v.1 in
        done r v.0 x v.2 (inl (p, h, m.0)) (rw (t, le-leb r 4 h, m.1))

    empty : (t : List ℕ) → eqb (suc (length t)) 1 ≡ true → t ≡ []
    empty [] h = refl
    empty (z ∷ t) h = absurd (omega (arith, eqb-true (suc (suc (length t))) 1 h))

    high : (r : ℕ) → 4 < r → r < 7 → tag_letter r ≡ y → (b : Bool) → eqb (suc (length s)) 1 ≡ b → cond b (Some (cell 0 r 0)) None ≡ Some x
        → (x.name ≡ 0) × IsRes x.tag x.value × (resolution_text x.tag x.value ≡ y ∷ s)
    high r p h t true b e = let q : cell 0 r 0 ≡ x = cc in done r 0 x q (inr (p, h, refl)) (rw (t, lt-leb r 4 p, empty s b))
    high r p h t false b e = let z : ◌≡◌ {A = ℕ} 0 1 = cc in absurd (omega arith)

    either : (r : ℕ) → 0 < r → r < 7 → tag_letter r ≡ y → (b : Bool) → leb r 4 ≡ b
        → cond b (valued r (number_of s)) (cond (eqb (suc (length s)) 1) (Some (cell 0 r 0)) None) ≡ Some x
        → (x.name ≡ 0) × IsRes x.tag x.value × (resolution_text x.tag x.value ≡ y ∷ s)
    either r p h t true b e = low r p (leb-true r 4 b) t e
    either r p h t false b e = high r (leb-false r 4 b) h t (eqb (suc (length s)) 1) refl e

    by : (r : ℕ) → Tagged y r → tagged_of r (y ∷ s) ≡ Some x → (x.name ≡ 0) × IsRes x.tag x.value × (resolution_text x.tag x.value ≡ y ∷ s)
    by r (inl q) e = let f : None ≡ Some x = rw q at e in let z : ◌≡◌ {A = ℕ} 0 1 = cc in absurd (omega arith)
    by r (inr (p, h, t)) e = either r p h t (leb r 4) refl (rw (ne_eqb r 0 (λ q. omega (arith, q))) at e)

-- NAME:NUMBER
pair_spells : (s : List ℕ) → Spells 3 s (pair_of false s)
unfolding pair_of Writable field_text
pair_spells s x e =
    let b : ℕ = before 58 s in
    let p = named_only (number_of (take b s)) (valued 1 (number_of (drop (b + 1) s))) x e in
    let v = valued_only 1 (number_of (drop (b + 1) s)) p.1 p.3 in
    finish p.0 v.0 p.1 v.2 p.4 (number_only (take b s) p.0 p.2) (number_only (drop (b + 1) s) v.0 v.1)
  where
    finish : (a n : ℕ) (y : Cell) → cell 0 1 n ≡ y → cell a y.tag y.value ≡ x → (a ≤ most_number) × (number_text a ≡ take (before 58 s) s)
        → (n ≤ most_number) × (number_text n ≡ drop (before 58 s + 1) s) → Writable 3 x × (field_text 3 x ≡ s)
    finish a n y q r h g =
        let f : cell a 1 n ≡ x = ap (λ (c : Cell). cell a c.tag c.value) q ∙ r in
        rw (← f) ((h.0, refl, g.0), rw (h.1, g.1) (colon_parts s (λ z. omega (arith, number_filled n, ap length (g.1 ∙ z)))))

-- NAME:RES
segment_spells : (s : List ℕ) → Spells 7 s (pair_of true s)
unfolding pair_of Writable field_text
segment_spells s x e =
    let b : ℕ = before 58 s in
    let p = named_only (number_of (take b s)) (resolution_of (drop (b + 1) s)) x e in
    finish p.0 p.1 p.4 (number_only (take b s) p.0 p.2) (res_only (drop (b + 1) s) p.1 p.3)
  where
    finish : (a : ℕ) (y : Cell) → cell a y.tag y.value ≡ x → (a ≤ most_number) × (number_text a ≡ take (before 58 s) s)
        → (y.name ≡ 0) × IsRes y.tag y.value × (resolution_text y.tag y.value ≡ drop (before 58 s + 1) s) → Writable 7 x × (field_text 7 x ≡ s)
    finish a y r h g =
        rw (← r) ((h.0, g.1), rw (h.1, g.2) (colon_parts s (λ z. omega (arith, res_filled y.tag y.value, ap length (g.2 ∙ z)))))

-- a field that reads as a cell is the text of that cell
pub field_only : (c : ℕ) (s : List ℕ) (x : Cell) → read_as c s ≡ Some x → Writable c x × (field_text c x ≡ s)
unfolding read_as Writable field_text
field_only c s =
    at 1 _ _ (number_spells s)
    (at 2 _ _ (optional_spells s)
    (at 3 _ _ (pair_spells s)
    (at 4 _ _ (binary_spells s)
    (at 5 _ _ (unary_spells s)
    (at 6 _ _ res_spells
    (at 7 _ _ (segment_spells s) (bad_spells c s)))))))
  where
    at : (n : ℕ) (r q : Option Cell) → Spells n s r → Spells c s q → Spells c s (cond (eqb c n) r q)
    at n r q h g = by_test (Spells c s) (eqb c n) r q (λ e. rw (eqb-true c n e) h) (λ e. g)

    res_spells : Spells 6 s (resolution_of s)
    res_spells x e = let r = res_only s x e in ((r.0, r.1), r.2)

-- ── the bytes of a field ──

-- the text of a cell is not empty
pub field_filled : (c : ℕ) (x : Cell) → Writable c x → 0 < length (field_text c x)
field_filled c x w = read_filled c (field_text c x) x (field_read c x w)
