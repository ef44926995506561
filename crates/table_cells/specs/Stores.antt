-- Stores in a row: two runs of them are one, and a run as long as the table is all that it holds. Assumes nothing.
use Rattle.std.specs.Prelude.{◌≡◌, List, [], ◌∷◌, ◌++◌, ℕ, suc, ◌+◌, ◌≤◌, length, set}
use Rattle.std.proofs.Common.{sym, ap, ◌∙◌, append-nil, arith, drop_of_length-le}
use Rattle.std.proofs.lemmas.List.Edits.{sets, sets-eq}

-- two runs of stores, the second right behind the first, are one
sets_append : (t : List ℕ) (i : ℕ) (xs ys : List ℕ) → sets (sets t i xs) (i + length xs) ys ≡ sets t i (xs ++ ys)
sets_append t i [] ys = let z : i + 0 ≡ i = omega arith in rw z
sets_append t i (a ∷ xs) ys = let z : i + suc (length xs) ≡ suc i + length xs = omega arith in rw z (sets_append (set t i a) (suc i) xs ys)

-- the same, where the second begins at j
pub sets_behind : (t : List ℕ) (i j : ℕ) (xs ys : List ℕ) → i + length xs ≡ j → sets (sets t i xs) j ys ≡ sets t i (xs ++ ys)
sets_behind t i j xs ys e = ap (λ (k : ℕ). sets (sets t i xs) k ys) (sym e) ∙ sets_append t i xs ys

-- a run of stores that is as long as the table is all that it holds then
pub sets_whole : (t xs : List ℕ) → length xs ≡ length t → sets t 0 xs ≡ xs
sets_whole t xs e =
    let h : length t ≤ 0 + length xs = omega (arith, e) in
    sets-eq xs t 0 (omega (arith, e)) ∙ ap (λ (r : List ℕ). xs ++ r) (drop_of_length-le t h) ∙ append-nil xs
