-- What the promises of the texts rest on, over plain variables.
use Rattle.std.specs.Prelude.{◌≡◌, refl, ◌≢◌, List, [], ◌∷◌, ◌++◌, Bool, true, false, ℕ, suc, zero, ◌+◌, ◌*◌, ◌-◌, ◌≤◌, ◌<◌, length, replicate, ltb, None, Option}
use Rattle.std.proofs.Common.{sym, ap, subst, ◌∙◌, inr, append_assoc, append-nil, arith}
use Rattle.std.proofs.Math.Path.{fun_ext}
use Rattle.std.proofs.Math.Option.{none, some}
use Rattle.std.proofs.lemmas.List.{length-replicate}
use Rattle.std.proofs.Math.Decide.{dec_lt}
use borrow.Author.Tests.{lt-ltb, ne_eqb}
use Rattle.theory.specs.Rules.{Pair}
use Rattle.theory.specs.Basics.{All, clash}
use Rattle.type_table.specs.declared.Counts.{Counts}
use Rattle.type_table.specs.Memory.{pick, cell}
use Rattle.record.specs.Own.{log_at}
use Rattle.lex.specs.Text.{text}
use Rattle.conflict_theory.specs.Code.{search_in}
use Rattle.output.specs.Output.{number_text, newline, zeros, Output, output, ended, full, Written, Appends, Finishes}
use Rattle.output.specs.Appending.{started, then, append_none}
use Rattle.conflict_set.specs.declared.Outcome.{Outcome}
use Rattle.conflict_set.specs.declared.Outcome.TheVariants as outcome
use Rattle.conflict_set.specs.declared.Lines.{Lines}
use Rattle.conflict_set.specs.declared.Lines.TheVariants as lines
use Rattle.conflict_set.specs.declared.Sought.{Sought}
use Rattle.conflict_set.specs.declared.Sought.TheVariants as sought
use Rattle.conflict_set.specs.declared.Searched.{Searched}
use Rattle.conflict_set.specs.In.{Whole, Kept, pair_in, node_in, cells_from, list_in, is_failed, first_behind, worked_in, plain_to, conflict_in, ScannedBy}
use Rattle.conflict_set.specs.Text.{line_text, line_in, set_text, told, by_ending, told_of, WrittenBy, ConflictPut, shortest_text, BelowPut, SearchedPut, ShortestPut, SoughtPut, conflict_text, ConflictBy}
use Rattle.conflict_set.specs.Laws.{cells_last, kept_self, kept_on, whole_on, pairs_on, nodes_on}
use Rattle.conflict_set.specs.Searching.{ok_in, searched_of, SearchedBy, shortest_in}
use Rattle.conflict_set.specs.SearchLaws.{cells_length, ok_on, plain_on, plain_each}

-- a number found not below another is not
pub not-below : (i k : ℕ) → ltb i k ≡ false → k ≤ i
not-below i k e = by (dec_lt i k)
  where
    by : Dec (i < k) → k ≤ i
    by (yes h) = let z = lt-ltb i k h in clash (cc)
    by (no h) = omega arith

set_both : (f : ℕ → List ℕ) (l : List ℕ) (i : ℕ) → set_text f (l ++ i ∷ []) ≡ set_text f l ++ f i
unfolding set_text
set_both f [] i = append-nil (f i)
set_both f (x ∷ l) i = ap (λ t. f x ++ t) (set_both f l i) ∙ sym (append_assoc (f x) (set_text f l) (f i))

-- the same set with lines that agree on its numbers
pub set_same : (R : ℕ → Type 0) (f g : ℕ → List ℕ) → ((i : ℕ) → R i → f i ≡ g i) → (l : List ℕ) → All R l → set_text f l ≡ set_text g l
unfolding set_text
set_same R f g e [] h = refl
set_same R f g e (i ∷ l) h = rw (e i h.0, set_same R f g e l h.1) refl

module _ (f : ℕ → List ℕ) where
  -- one line more
  pub set_next : (s : List ℕ) (i q c d e : ℕ) (x y z : List ℕ) → q ≡ cell s i → Appends (set_text f (list_in s i)) c x d y → Appends (f q) d y e z → Appends (set_text f (list_in s (i + 1))) c x e z
  set_next s i q c d e x y z p a b =
      let k : i + 1 ≡ suc i = omega arith in
      let j : 0 + i ≡ i = omega arith in
      rw (k, cells_last s 0 i, j, ← p, set_both f (list_in s i) q) (then a b)

  pub set_none : (s : List ℕ) (c : ℕ) (x : List ℕ) → Appends (set_text f (list_in s 0)) c x c x
  unfolding set_text cells_from
  set_none s c x = append_none c x

  pub set_all : (s : List ℕ) (i k c d : ℕ) (x y : List ℕ) → i ≤ k → k ≤ i → Appends (set_text f (list_in s i)) c x d y → Appends (set_text f (list_in s k)) c x d y
  set_all s i k c d x y a b h = let e : i ≡ k = omega arith in rw e at h

-- the lines stay
lines_on : (m : List ℕ) (c : Counts) (w : List ℕ) (l : Lines) → Kept m c w → Whole m c → line_in w c l ≡ line_in m c l
lines_on m c w l k h = fun_ext (λ i. ap (λ (f : ℕ → ℕ). line_text l (f i) (pair_in w c i) i) (nodes_on m c w k h) ∙ ap (λ (f : ℕ → Pair). line_text l (node_in m i) (f i) i) (pairs_on m c w k h))

-- the line of a number alone
pub line_number : (m : List ℕ) (c : Counts) (l : Lines) (i : ℕ) {d e : ℕ} {x y : List ℕ} → l ≡ lines.Numbers → Appends (line_text lines.Numbers 0 (0, 0) i) d x e y → Appends (line_in m c l i) d x e y
line_number m c l i e a = rw e a

-- the line with its place
pub line_place : (m : List ℕ) (c : Counts) (l : Lines) (i n p q : ℕ) {d e : ℕ} {x y : List ℕ} → l ≡ lines.Places → n ≡ node_in m i → p ≡ (pair_in m c i).0 → q ≡ (pair_in m c i).1 → Appends (line_text lines.Places n (p, q) i) d x e y → Appends (line_in m c l i) d x e y
line_place m c l i n p q e f g h a = rw (e, ← f, ← g, ← h) a

-- ── the end ──

pub written_law : (c : ℕ) (x : List ℕ) (d : Option ℕ) (y : List ℕ) (r : Outcome) → Finishes c x d y → r ≡ by_ending d → WrittenBy c x r y
unfolding told_of
written_law c x d y r f e = record { by = λ t o w. let q = f.finishes t o w in rw e (ap (λ (z : Output). told (by_ending z.ending) z.bytes) q) }

-- nothing fits behind a full output
pub nothing_law : (x : List ℕ) (d : Option ℕ) (y : List ℕ) → Finishes full x d y → told outcome.Nothing y ≡ told_of none x
unfolding told_of ended
nothing_law x d y f =
    let t = replicate {A = ℕ} (suc (length x)) 0 in
    let n = length-replicate {A = ℕ} (suc (length x)) 0 in
    let q = f.finishes t x (inr (refl, omega arith, refl)) in
    let p : ended t x ≡ output None (zeros x) = rw (lt-ltb (length x) (length t) (omega arith)) refl in
    ap (λ (z : Output). told outcome.Nothing z.bytes) (q ∙ p)

-- ── f ──

pub put_law : (m : List ℕ) (c : Counts) (n : ℕ) (l : Lines) (s w t : List ℕ) (k : ℕ) (x : List ℕ) (d : ℕ) (y z : List ℕ) (r : Outcome) → length s ≡ 2048 → ScannedBy m c n s w t k → Appends (set_text (line_in w c l) (list_in t k)) 0 x d y → WrittenBy d y r z
    → ConflictPut m c n l x w r z
put_law m c n l s w t k x d y z r size a b f =
    record {
      by = λ h i.
          let g = a.by h (omega arith) in
          (g.0, f.by (set_text (line_in m c l) (conflict_in m c n)) x (subst (λ (t : List ℕ). Written t x d y) (ap (set_text (line_in w c l)) g.1 ∙ ap (λ u. set_text u (conflict_in m c n)) (lines_on m c w l g.0 h)) (b.appends [] x (started x))));
    }

first_most : (f : ℕ → Bool) (i n : ℕ) → first_behind f i n ≤ i + n
unfolding first_behind
first_most f i zero = omega arith
first_most f i (suc n) = by (f i) (first_most f (suc i) n)
  where
    by : (b : Bool) → first_behind f (suc i) n ≤ suc i + n → pick b (suc i) (first_behind f (suc i) n) ≤ i + suc n
    by true h = omega arith
    by false h = omega arith

-- no more are worked on than there are
pub worked_most : (m : List ℕ) (q : ℕ) → worked_in m q ≤ q
unfolding worked_in
worked_most m q = omega (arith, first_most (λ i. is_failed (cell m (log_at + i * 3 + 2))) 0 q)

-- ── n ──

-- a set, the line `below=`, and the end
pub below_law : (m : List ℕ) (c : Counts) (l : Lines) (s : List ℕ) (b : ℕ) (x : List ℕ) (d : ℕ) (y : List ℕ) (e : ℕ) (z : List ℕ) (r : Outcome) (u : List ℕ) → Appends (set_text (line_in m c l) s) 0 x d y
    → Appends ((text "below=" ++ number_text b) ++ newline) d y e z → WrittenBy e z r u → BelowPut m c l s b x r u
below_law m c l s b x d y e z r u p q w = record { by = w.by (shortest_text (line_in m c l) (s, b)) x ((then p q).appends [] x (started x)) }

module _ (m : List ℕ) (c : Counts) (l : Lines) (s : List ℕ) (k : ℕ) (t : List ℕ) (a : Searched) (x : List ℕ) (r : Outcome) (y : List ℕ) where
  pub searched_found : a.found ≡ true → BelowPut m c l (list_in t a.below) a.below x r y → SearchedPut m c l s k t a x r y
  searched_found e p = record { by = rw e p.by }

  pub searched_kept : a.found ≡ false → BelowPut m c l (list_in s k) a.below x r y → SearchedPut m c l s k t a x r y
  searched_kept e p = record { by = rw e p.by }

pub shortest_law : (m : List ℕ) (c : Counts) (n : ℕ) (l : Lines) (b : ℕ) (s w t : List ℕ) (k : ℕ) (s' t' v u v' : List ℕ) (a : Searched) (x : List ℕ) (r : Outcome) (y : List ℕ) → length s ≡ 2048 → length s' ≡ 2048 → length t' ≡ 2048
    → ScannedBy m c n s w t k → SearchedBy w c s' t' k n b v u v' a → SearchedPut v c l t k u a x r y → ShortestPut m c n l b x v r y
shortest_law m c n l b s w t k s' t' v u v' a x r y e d o f g p =
    record {
      by = λ h z q.
          let i = f.by h (omega arith) in
          let j = g.by (whole_on m c w i.0 h) (plain_on m c h w i.0 n (plain_each m c n q)) (omega (arith, f.most)) (omega (arith, f.most)) f.most in
          let set = conflict_in m c n in
          let size : length set ≡ k = ap length (sym i.1) ∙ cells_length t 0 k in
          let kept = kept_on m c w v i.0 j.0 in
          let found : searched_of a u (list_in t k) ≡ shortest_in m c n b = ap (searched_of a u) i.1 ∙ j.1 set ∙ ap (λ (f : List ℕ → Bool). search_in f n 1 (k - 1) b set) (ok_on m c h w i.0) ∙ ap (λ y. search_in (ok_in m c) n 1 (y - 1) b set) (sym size) in
          (kept, p.by ∙ ap (λ y. told_of (some (shortest_text (line_in v c l) y)) x) found ∙ ap (λ f. told_of (some (shortest_text f (shortest_in m c n b))) x) (lines_on m c v l kept h));
    }

-- ── both ──

module _ (m : List ℕ) (c : Counts) (n : ℕ) (q : Sought) (x w : List ℕ) (r : Outcome) (y : List ℕ) where
  pub sought_minimal : (l : Lines) → q ≡ sought.Minimal l → ConflictPut m c n l x w r y → SoughtPut m c n q x w r y
  sought_minimal l e p = record { by = λ h k d. rw e (p.by h k) }

  pub sought_shortest : (l : Lines) (b : ℕ) → q ≡ sought.Shortest l b → ShortestPut m c n l b x w r y → SoughtPut m c n q x w r y
  sought_shortest l b e p = record { by = λ h k d. rw e (p.by h k d) }

module _ (m : List ℕ) (c : Counts) (e n : ℕ) (q : Sought) (x : List ℕ) (i : n ≡ worked_in m e) where
  -- there are so few rows
  few : Whole m c → c.types ≤ 65535
  few h = omega (arith, h.types)

  pub conflict_none : (r : Outcome) (y : List ℕ) → n ≡ 0 → told r y ≡ told_of none x → ConflictBy m c e q x m r y
  unfolding conflict_text
  conflict_none r y z t = record { by = λ h k. (kept_self m c, rw (← i, z) t) }

  pub conflict_rough : (r : Outcome) (y : List ℕ) → n ≢ 0 → (c.types ≤ 65535 → false ≡ plain_to m c n) → told r y ≡ told_of none x → ConflictBy m c e q x m r y
  unfolding conflict_text
  conflict_rough r y z p t = record { by = λ h k. let d = p (few h) in (kept_self m c, rw (← i, ne_eqb n 0 z, ← d) t) }

  pub conflict_put : (w : List ℕ) (r : Outcome) (y : List ℕ) → n ≢ 0 → (c.types ≤ 65535 → true ≡ plain_to m c n) → SoughtPut m c n q x w r y → ConflictBy m c e q x w r y
  unfolding conflict_text
  conflict_put w r y z p t = record { by = λ h b. let k = worked_most m e in let d = p (few h) in let g = t.by h (omega arith) (sym d) in (g.0, rw (← i, ne_eqb n 0 z, ← d) g.1) }
