-- What a number, a field and a word of a line are, over the bytes of the line's value.
-- Assumes nothing.
use Rattle.std.specs.Prelude.{ℕ, zero, suc, ◌+◌, ◌*◌, ◌-◌, List, [], ◌∷◌, Bool, true, false, cond, leb, ltb, eqb, length, get_or, take, drop, None, Option, Some}
use Prim.Native.String.{String, len, char_at}
use Prim.Native.Char.{code}

-- the number of the digits xs behind digits of the value a; a number is at most 65,535
unfoldable pub digits_from : ℕ → List ℕ → Option ℕ
digits_from a [] = cond (leb a 65535) (Some a) None
digits_from a (x ∷ xs) = cond (leb 48 x) (cond (leb x 57) (digits_from (a * 10 + (x - 48)) xs) None) None

-- a number has at least one digit and no leading zero: behind a first 0 nothing stands
unfoldable pub number_of : List ℕ → Option ℕ
number_of [] = None
number_of (x ∷ []) = digits_from 0 (x ∷ [])
number_of (x ∷ y ∷ ys) = cond (eqb x 48) None (digits_from 0 (x ∷ y ∷ ys))

-- the byte x before the first of some parts
abbrev pub onto : ℕ → List (List ℕ) → List (List ℕ)
onto x [] = (x ∷ []) ∷ []
onto x (f ∷ fs) = (x ∷ f) ∷ fs

-- the parts between the separators c
unfoldable pub split : ℕ → List ℕ → List (List ℕ)
split c [] = [] ∷ []
split c (x ∷ xs) = cond (eqb x c) ([] ∷ split c xs) (onto x (split c xs))

-- the parts from the place p on; behind the end there are none
unfoldable pub parts_from : ℕ → ℕ → List ℕ → List (List ℕ)
parts_from c p v = cond (leb p (length v)) (split c (drop p v)) []

-- the fields from the place p on, parted by commas
abbrev pub fields_from : ℕ → List ℕ → List (List ℕ)
fields_from p v = parts_from 44 p v

-- how many bytes stand before the first c, all of them where there is none
unfoldable pub before : ℕ → List ℕ → ℕ
before c [] = 0
before c (x ∷ xs) = cond (eqb x c) 0 (suc (before c xs))

-- a field read as a number, with the place e of its end
abbrev pub numbered : Option ℕ → ℕ → Option (ℕ × ℕ)
numbered (Some n) e = Some (n, e)
numbered None e = None

-- what one pass over the field from the place p on finds: a number that does not begin with 0, and the place of its end; anything else is None
unfoldable pub scan_of : List ℕ → ℕ → Option (ℕ × ℕ)
scan_of s p = cond (eqb (get_or s p 0) 48) None (numbered (number_of (take (before 44 (drop p s)) (drop p s))) (p + before 44 (drop p s)))

-- n letters of a text from the place i on, as bytes
abbrev pub letters_from : ℕ → ℕ → String → List ℕ
letters_from zero i s = []
letters_from (suc n) i s = code (char_at s i) ∷ letters_from n (i + 1) s

-- the bytes of a text
abbrev pub text : String → List ℕ
text s = letters_from (len s) 0 s

-- two words are the same
unfoldable pub same : List ℕ → List ℕ → Bool
same [] [] = true
same [] (y ∷ ys) = false
same (x ∷ xs) [] = false
same (x ∷ xs) (y ∷ ys) = cond (eqb x y) (same xs ys) false

-- a byte that a word may have, as far as words are numbers: not 0
unfoldable pub letter : ℕ → Bool
letter x = cond (eqb x 0) false (ltb x 256)

-- the letters of a word as one number, base 256, behind letters of the value a: at most eight letters; 0 where it is no such word
unfoldable pub pack_from : ℕ → List ℕ → ℕ
pack_from a [] = a
pack_from a (x ∷ xs) = cond (ltb a 72057594037927936) (cond (letter x) (pack_from (a * 256 + x) xs) 0) 0

-- a word as one number
abbrev pub pack : List ℕ → ℕ
pack w = pack_from 0 w
