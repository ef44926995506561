-- What each return and turn of a function that writes a line shows, over plain variables. Assumes nothing.
use native.Mathlib.Omega.{arith}
use native.Mathlib.Numerals.{add-one}
use mathlib.Core.Path.{◌≡◌, refl, sym, ap, ◌∙◌}
use mathlib.Core.List.{List, [], ◌∷◌, ◌++◌, append_assoc, append-nil}
use mathlib.Core.Bool.{Bool, true, false}
use Prim.Native.Nat.{ℕ, ◌+◌, ◌-◌, ◌*◌, ◌≤◌, ◌<◌}
use lib.ListN.{length, take, drop, get_or, length-drop, drop_of_length-le}
use lib.Dec.{eqb}
use lib.Seq.{take-suc, take_all, take-nil}
use borrow.Author.Tests.{eq-eqb, ne_eqb}
use Rattle.theory.specs.Rules.{bool, nil, float, double, uint, int, base, fun, err, div}
use Rattle.type_table.specs.Memory.{pick, cell, width_of, shape_of}
use Rattle.lex.specs.Text.{text}
use Rattle.tables.specs.Types.{inputs_from_lem}
use Rattle.tables.specs.Read.{cells_at, made_at}
use Rattle.output.specs.Output.{Appends, number_text}
use Rattle.output.specs.Appending.{append_none, then, appends_as}
use Rattle.error_lines.specs.ErrorLines.{each_text}
use Rattle.report_text.specs.Lines.{option_text, option_at, type_text, lambda_text}

-- ── a number that may be absent ──

-- it is there
pub option_there : {c d e : ℕ} {x y z : List ℕ} (s t : List ℕ) (i a n : ℕ) → a ≡ cell t i → a ≡ 1 → n ≡ cell t (i + 1) → Appends s c x d y → Appends (number_text n) d y e z → Appends (s ++ option_text (option_at t i)) c x e z
option_there s t i a n p q r f g = rw (← p, ← r, eq-eqb a 1 q) (then f g)

-- it is not
pub option_absent : {c d e : ℕ} {x y z : List ℕ} (s t : List ℕ) (i a : ℕ) → a ≡ cell t i → (a ≡ 1 → ⊥) → Appends s c x d y → Appends (text "-") d y e z → Appends (s ++ option_text (option_at t i)) c x e z
option_absent s t i a p q f g = rw (← p, ne_eqb a 1 q) (then f g)

-- ── numbers after commas ──

-- one number more
each_more : (l : List ℕ) (x : ℕ) → each_text (l ++ (x ∷ [])) ≡ each_text l ++ (text "," ++ number_text x)
unfolding each_text
each_more [] x = append-nil (text "," ++ number_text x)
each_more (y ∷ l) x = ap (λ u. text "," ++ number_text y ++ u) (each_more l x) ∙ sym (append_assoc (text "," ++ number_text y) (each_text l) (text "," ++ number_text x))

pub each_none : (l : List ℕ) (c : ℕ) (x : List ℕ) → Appends (each_text (take 0 l)) c x c x
unfolding each_text
each_none l c x = append_none c x

pub each_next : {c d e : ℕ} {x y z : List ℕ} (l : List ℕ) (i : ℕ) → i < length l → Appends (each_text (take i l)) c x d y → Appends (text "," ++ number_text (get_or l i 0)) d y e z → Appends (each_text (take (i + 1) l)) c x e z
each_next l i lt f g = appends_as (sym (each_more (take i l) (get_or l i 0)) ∙ ap each_text (sym (take-suc l i 0 lt)) ∙ ap (λ k. each_text (take k l)) (sym (add-one i))) (then f g)

-- a part of a table that begins past its end
pub part_none : (t : List ℕ) (f k : ℕ) (c : ℕ) (x : List ℕ) → length t < f → Appends (each_text (cells_at t f k)) c x c x
unfolding each_text
part_none t f k c x h = appends_as (ap each_text (sym (take-nil k) ∙ ap (take k) (sym (drop_of_length-le t (past h))))) (append_none c x)
  where
    past : length t < f → length t ≤ f
    past h = omega (arith, h)

-- a part that ends at the end
pub part-rest : {c d : ℕ} {x y : List ℕ} (t : List ℕ) (f k : ℕ) → length t - f < k → Appends (each_text (take (length t - f) (drop f t))) c x d y → Appends (each_text (cells_at t f k)) c x d y
part-rest t f k h p = appends_as (ap each_text (take_all (length t - f) (drop f t) (omega (arith, length-drop f t)) ∙ sym (take_all k (drop f t) (omega (arith, h, length-drop f t))))) p

-- a part inside
pub part_inside : {c d : ℕ} {x y : List ℕ} (t : List ℕ) (f k : ℕ) → Appends (each_text (take (f + k - f) (drop f t))) c x d y → Appends (each_text (cells_at t f k)) c x d y
part_inside t f k p = appends_as (ap (λ j. each_text (take j (drop f t))) (less f k)) p
  where
    less : (f k : ℕ) → f + k - f ≡ k
    less f k = omega arith

-- ── made types ──

-- what a row with a head other than those of made types is
pub made_other : (t : List ℕ) (i h : ℕ) → h ≡ cell t (i * 5) → ((((((Unit {0} × (h ≡ 5 → ⊥)) × (h ≡ 7 → ⊥)) × (h ≡ 8 → ⊥)) × (h ≡ 12 → ⊥)) × (h ≡ 13 → ⊥)) × (h ≡ 14 → ⊥)) → text "-" ≡ type_text (made_at t i)
unfolding made_at shape_of
made_other t i h e n =
    rw (← e, ne_eqb h 5 n.0.0.0.0.0.1, ne_eqb h 7 n.0.0.0.0.1, ne_eqb h 8 n.0.0.0.1, ne_eqb h 12 n.0.0.1, ne_eqb h 13 n.0.1, ne_eqb h 14 n.1)
    (by (eqb h 0) (eqb h 1) (eqb h 2) (eqb h 3) (eqb h 4) (eqb h 6) (eqb h 10) (eqb h 11))
  where
    by : (p0 p1 p2 p3 p4 p6 p10 p11 : Bool) → text "-" ≡ type_text (pick p0 (base bool) (pick p1 (base (uint (width_of (cell t (i * 5 + 1))))) (pick p2 (base (int (width_of (cell t (i * 5 + 1))))) (pick p3 (base float) (pick p4 (base double) (pick p6 (fun (cell t (i * 5 + 1)) (cell t (i * 5 + 2)) (cells_at t (inputs_from_lem + cell t (i * 5 + 3)) (cell t (i * 5 + 4)))) (pick p10 err (pick p11 div (base nil)))))))))
    by true p1 p2 p3 p4 p6 p10 p11 = refl
    by false true p2 p3 p4 p6 p10 p11 = refl
    by false false true p3 p4 p6 p10 p11 = refl
    by false false false true p4 p6 p10 p11 = refl
    by false false false false true p6 p10 p11 = refl
    by false false false false false true p10 p11 = refl
    by false false false false false false true p11 = refl
    by false false false false false false false true = refl
    by false false false false false false false false = refl

-- what a lambda is
pub made_lambda : {c d : ℕ} {x y : List ℕ} (t : List ℕ) (i h : ℕ) → h ≡ cell t (i * 5) → h ≡ 13 → Appends (lambda_text t i) c x d y → Appends (text "type=" ++ type_text (made_at t i)) c x d y
unfolding lambda_text made_at shape_of each_text
made_lambda t i h e k p =
    rw (← e, k) (appends_as (append_assoc (text "type=lambda," ++ number_text (cell t (i * 5 + 1))) (text "," ++ number_text (cell t (i * 5 + 2))) (each_text (cells_at t (inputs_from_lem + cell t (i * 5 + 3)) (cell t (i * 5 + 4))))) p)
