-- A text as a list of bytes, and what a lent output is with a text written over its first bytes. Definitions alone.
use Rattle.std.specs.Prelude.{◌≡◌, List, [], ◌∷◌, ◌++◌, ◌⊎◌, cond, ℕ, zero, suc, ◌+◌, ◌/◌, ◌%◌, ◌≤◌, ◌<◌, length, replicate, drop, ltb, None, Option, Some}

-- ── texts ──

-- the decimal digits of n, at most k of them, the last ones
unfoldable pub digits_of : ℕ → ℕ → List ℕ
digits_of zero n = []
digits_of (suc k) n = cond (ltb n 10) ((48 + n % 10) ∷ []) (digits_of k (n / 10) ++ ((48 + n % 10) ∷ []))

-- a number below 2 to the 64 has at most twenty digits
abbrev pub number_text : ℕ → List ℕ
number_text n = digits_of 20 n

-- a line feed
abbrev pub newline : List ℕ
newline = 10 ∷ []

-- ── an output ──

-- a zero for each byte
abbrev pub zeros : List ℕ → List ℕ
zeros o = replicate (length o) 0

-- where a text ends, and the bytes of the output
pub record Output : Type 0 where
  pub ending : Option ℕ
  pub bytes : List ℕ

abbrev pub output : Option ℕ → List ℕ → Output
output e x = record { ending = e; bytes = x }

-- the output o once the text t is written: its first bytes are t, those after it unchanged; zeros throughout where t has no room
unfoldable pub ended : List ℕ → List ℕ → Output
ended t o = cond (ltb (length o) (length t)) (output None (zeros o)) (output (Some (length t)) (t ++ drop (length t) o))

-- ── while a text is written ──

-- the cursor behind a byte that had no room
abbrev pub full : ℕ
full = 18446744073709551615

-- the text t was written over the output o, and has room; c is the next place, and x what the output is now
abbrev pub Fits : List ℕ → List ℕ → ℕ → List ℕ → Type 0
Fits t o c x = (c ≡ length t) × (length t ≤ length o) × (x ≡ t ++ drop (length t) o)

-- the text t has no room in the output o
abbrev pub Exceeds : List ℕ → List ℕ → ℕ → List ℕ → Type 0
Exceeds t o c x = (c ≡ full) × (length o < length t) × (length x ≡ length o)

-- as far as it goes, the text t was written over the output o
abbrev pub Written : List ℕ → List ℕ → ℕ → List ℕ → Type 0
Written t o c x = Fits t o c x ⊎ Exceeds t o c x

-- from the cursor c and the output x to d and y, the text u came behind what was written, whatever that was
pub record Appends (u : List ℕ) (c : ℕ) (x : List ℕ) (d : ℕ) (y : List ℕ) : Type 0 where
  pub appends : (t o : List ℕ) → Written t o c x → Written (t ++ u) o d y

-- whatever text was written, it is ended
pub record Finishes (c : ℕ) (x : List ℕ) (d : Option ℕ) (y : List ℕ) : Type 0 where
  pub finishes : (t o : List ℕ) → Written t o c x → output d y ≡ ended t o
