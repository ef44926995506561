-- Texts one behind the other. Assumes nothing.
use Rattle.std.proofs.Common.{arith, sym, subst, inl, append_assoc, append-nil}
use Rattle.std.specs.Prelude.{◌≡◌, refl, List, [], ◌++◌, ℕ, Option}
use Rattle.output.specs.Output.{Written, Appends, Finishes, output, ended}

-- nothing is written yet
pub started : (o : List ℕ) → Written [] o 0 o
started o = inl (refl, omega arith, refl)

-- no text
pub append_none : (c : ℕ) (x : List ℕ) → Appends [] c x c x
append_none c x = record { appends = λ t o w. subst (λ s. Written s o c x) (sym (append-nil t)) w }

-- one text, then another
pub then : {u v : List ℕ} {c d e : ℕ} {x y z : List ℕ} → Appends u c x d y → Appends v d y e z → Appends (u ++ v) c x e z
then {u = u} {v = v} {e = e} {z = z} p q =
    record { appends = λ t o w. subst (λ s. Written s o e z) (append_assoc t u v) (q.appends (t ++ u) o (p.appends t o w)) }

-- an equal text
pub appends_as : {u v : List ℕ} {c d : ℕ} {x y : List ℕ} → u ≡ v → Appends u c x d y → Appends v c x d y
appends_as {c = c} {d = d} {x = x} {y = y} e p = subst (λ u. Appends u c x d y) e p

-- a whole text into an output, and its end
pub whole : {u : List ℕ} {c : ℕ} {d : Option ℕ} {x y z : List ℕ} → Appends u 0 x c y → Finishes c y d z → output d z ≡ ended u x
whole {x = x} p q = q.finishes _ _ (p.appends [] x (started x))
