-- What the memory of a walk has of its log, if it encodes the state in which the walk ends: the equations that f) works on, their sides, and whether these are plain.
use Rattle.std.specs.Prelude.{◌≡◌, Bool, ℕ, suc, zero, ◌+◌, ◌-◌, ◌*◌, ◌/◌, ◌%◌, ◌≤◌, ◌<◌, get_or}
use Rattle.std.proofs.Math.Path.{refl, sym, ap}
use Rattle.std.proofs.Common.{subst, ◌∙◌, lt-ltb}
use mathlib.Core.List.{List, [], ◌∷◌, ◌++◌}
use Rattle.std.proofs.Math.Option.{Option, none, some}
use Rattle.std.proofs.Math.Bool.{true, false}
use native.Mathlib.Omega.{arith}
use Rattle.std.proofs.Math.Decide.{dec_lt}
use Rattle.std.proofs.Math.ListN.{length, length-append, get_or-append}
use Rattle.theory.specs.Rules.{Shape, Out, success, mismatch, refused12, refused13, dry, Pair}
use Rattle.theory.specs.Program.{Equation, clip}
use Rattle.theory.specs.Basics.{All, clash}
use Rattle.theory.specs.Keep.{Ended}
use Rattle.type_table.specs.declared.Counts.{Counts}
use Rattle.type_table.specs.Memory.{pick, cell}
use Rattle.record.specs.Own.{log_at}
use Rattle.record.specs.Encodes.{answer_number, answer_word, Logged}
use Rattle.conflict_theory.specs.Worked.{there, earlier, until_failed, in_order, nodes_in_order, sides_of, sides_at, at_past}
use Rattle.conflict_theory.specs.Worked.{is_failed as isFailed·T}
use Rattle.conflict_theory.specs.Plains.{are_plain, all_plain}
use Rattle.conflict_set.specs.In.{pair_in, node_in, is_failed, first_behind, worked_in, all_from}

-- ── how many ──

-- the first number, if it is not 0
abbrev or_else : ℕ → ℕ → ℕ
or_else zero b = b
or_else (suc a) b = suc a

first_last : (f : ℕ → Bool) (i n : ℕ) → first_behind f i (suc n) ≡ or_else (first_behind f i n) (pick (f (i + n)) (suc (i + n)) 0)
unfolding first_behind
first_last f i zero = let z : i + 0 ≡ i = omega arith in rw z refl
first_last f i (suc n) = let z : i + suc n ≡ suc i + n = omega arith in by (f i) (rw (← z) at (first_last f (suc i) n))
  where
    by : (b : Bool) → first_behind f (suc i) (suc n) ≡ or_else (first_behind f (suc i) n) (pick (f (i + suc n)) (suc (i + suc n)) 0) → pick b (suc i) (first_behind f (suc i) (suc n)) ≡ or_else (pick b (suc i) (first_behind f (suc i) n)) (pick (f (i + suc n)) (suc (i + suc n)) 0)
    by true h = refl
    by false h = h

-- how many equations a log has, 0 without one
abbrev pub count_of : Option (List Equation) → ℕ
count_of none = 0
count_of (some k) = length k

-- the number of an answer behind its node
low : (a n : ℕ) → a < 16 → (a + n * 16) % 16 ≡ a
low a n h = omega (arith, h)

failed_same : (o : Out) (n : ℕ) → Ended o → is_failed (answer_word (answer_number o) n) ≡ isFailed·T o
unfolding is_failed
failed_same success n e = rw (low 0 (n % 4096) (omega arith)) refl
failed_same mismatch n e = rw (low 1 (n % 4096) (omega arith)) refl
failed_same refused12 n e = rw (low 12 (n % 4096) (omega arith)) refl
failed_same refused13 n e = rw (low 13 (n % 4096) (omega arith)) refl
failed_same dry n e = absurd e

-- what the log at the first failure is to the whole log
pub record Until (m : List ℕ) (l k : List Equation) : Type 0 where
  pub filled : 0 < length k
  pub most : length k ≤ length l
  pub logged : Logged m k

pub until : (m : List ℕ) (l k : List Equation) → Logged m l → until_failed l ≡ some k → Until m l k
unfolding until_failed Logged
until m [] k h e = clash (cc)
until m (q ∷ l) k h e = by (until_failed l) refl (isFailed·T q.answer) (λ j p. until m l j h.1 p) e
  where
    grow : (j : List Equation) → Until m l j → Until m (q ∷ l) j
    grow j u = record { filled = u.filled; most = omega (arith, u.most); logged = u.logged }

    by : (o : Option (List Equation)) → until_failed l ≡ o → (b : Bool) → ((j : List Equation) → until_failed l ≡ some j → Until m l j) → earlier o (there b (q ∷ l)) ≡ some k → Until m (q ∷ l) k
    by (some j) p b r d = let g : j ≡ k = cc in subst (Until m (q ∷ l)) g (grow j (r j p))
    by none p false r d = clash (cc)
    by none p true r d = let g : q ∷ l ≡ k = cc in let u : Until m (q ∷ l) (q ∷ l) = record { filled = omega arith; most = omega arith; logged = h } in subst (Until m (q ∷ l)) g u

module _ (m : List ℕ) where
  -- the answer of the equation i failed
  abbrev failed_at : ℕ → Bool
  failed_at i = is_failed (cell m (log_at + i * 3 + 2))

  worked_from : (l : List Equation) → log_at + length l * 3 ≤ length m → Logged m l → All (λ (q : Equation). Ended q.answer) l → first_behind failed_at 0 (length l) ≡ count_of (until_failed l)
  unfolding first_behind until_failed Logged
  worked_from [] r h e = refl
  worked_from (q ∷ l) r h e =
      let z : 0 + length l ≡ length l = omega arith in
      let f : failed_at (length l) ≡ isFailed·T q.answer = ap is_failed (h.0 (omega arith)).2 ∙ failed_same q.answer q.node e.0 in
      first_last failed_at 0 (length l) ∙ rw (z, worked_from l (omega arith) h.1 e.1, f) (by (until_failed l) refl (isFailed·T q.answer) (λ k p. (until m l k h.1 p).filled))
    where
      by : (o : Option (List Equation)) → until_failed l ≡ o → (b : Bool) → ((k : List Equation) → until_failed l ≡ some k → 0 < length k) → or_else (count_of o) (pick b (suc (length l)) 0) ≡ count_of (earlier o (there b (q ∷ l)))
      by none p true f = refl
      by none p false f = refl
      by (some []) p b f = absurd (omega (arith, f [] p))
      by (some (x ∷ k)) p b f = refl

  -- the equations that f) works on are those of the log at the first failure
  pub worked_is : (l : List Equation) → log_at + length l * 3 ≤ length m → Logged m l → All (λ (q : Equation). Ended q.answer) l → worked_in m (length l) ≡ count_of (until_failed l)
  unfolding worked_in
  worked_is = worked_from

-- ── their sides ──

-- as many as the log has
pub order_length : (l : List Equation) → length (in_order l) ≡ length l
unfolding in_order
order_length [] = refl
order_length (q ∷ l) = omega (arith, length-append (in_order l) (sides_of q ∷ []), order_length l)

module _ (m : List ℕ) (c : Counts) where
  clipped : (x y : ℕ) → x ≡ y → y < c.types → clip c.types x ≡ y
  clipped x y e h = rw (e, lt-ltb y c.types h) refl

  -- the sides of each equation stand in the memory
  pub pair_is : (l : List Equation) → log_at + length l * 3 ≤ length m → Logged m l → All (λ (q : Equation). (q.expected < c.types) × (q.got < c.types)) l → (i : ℕ) → i < length (in_order l) → pair_in m c i ≡ sides_at (in_order l) i
  unfolding in_order Logged pair_in
  pair_is [] r h g i z = absurd (omega arith)
  pair_is (q ∷ l) r h g i z = by (dec_lt i (length l)) (pair_is l (omega arith) h.1 g.1 i)
    where
      by : Dec (i < length l) → (i < length (in_order l) → pair_in m c i ≡ sides_at (in_order l) i) → pair_in m c i ≡ sides_at (in_order l ++ sides_of q ∷ []) i
      by (yes k) f = let n = order_length l in f (omega arith) ∙ sym (get_or-append (in_order l) (sides_of q ∷ []) (0, 0) i (omega arith))
      by (no k) f =
          let n = order_length l in
          let y = length-append (in_order l) (sides_of q ∷ []) in
          let e : i ≡ length l = omega arith in
          let d : i ≡ length (in_order l) = omega arith in
          let w = h.0 (omega arith) in
          let p : pair_in m c (length l) ≡ sides_of q = rw (clipped (cell m (log_at + length l * 3)) q.expected w.0 g.0.0, clipped (cell m (log_at + length l * 3 + 1)) q.got w.1 g.0.1) refl in
          ap (pair_in m c) e ∙ p ∙ sym (ap (sides_at (in_order l ++ sides_of q ∷ [])) d ∙ at_past (in_order l) (sides_of q) [] (0, 0))

-- as many as the log has
pub nodes_length : (l : List Equation) → length (nodes_in_order l) ≡ length l
unfolding nodes_in_order
nodes_length [] = refl
nodes_length (q ∷ l) = omega (arith, length-append (nodes_in_order l) (q.node ∷ []), nodes_length l)

-- an answer and a node in one cell, taken apart
high : (o : Out) (n : ℕ) → n < 4096 → answer_word (answer_number o) n / 16 ≡ n
high success n h = omega (arith, h)
high mismatch n h = omega (arith, h)
high refused12 n h = omega (arith, h)
high refused13 n h = omega (arith, h)
high dry n h = omega (arith, h)

-- the node of each equation stands in the memory
pub node_is : (m : List ℕ) (l : List Equation) → log_at + length l * 3 ≤ length m → Logged m l → All (λ (q : Equation). q.node < 4096) l → (i : ℕ) → i < length l → node_in m i ≡ get_or (nodes_in_order l) i 0
unfolding nodes_in_order Logged node_in
node_is m [] r h g i z = absurd (omega arith)
node_is m (q ∷ l) r h g i z = by (dec_lt i (length l)) (node_is m l (omega arith) h.1 g.1 i)
  where
    by : Dec (i < length l) → (i < length l → node_in m i ≡ get_or (nodes_in_order l) i 0) → node_in m i ≡ get_or (nodes_in_order l ++ q.node ∷ []) i 0
    by (yes k) f = let n = nodes_length l in f k ∙ sym (get_or-append (nodes_in_order l) (q.node ∷ []) 0 i (omega arith))
    by (no k) f =
        let n = nodes_length l in
        let e : i ≡ length l = omega arith in
        let d : i ≡ length (nodes_in_order l) = omega arith in
        let w = h.0 (omega arith) in
        let p : node_in m (length l) ≡ q.node = rw w.2 (high q.answer q.node g.0) in
        ap (node_in m) e ∙ p ∙ sym (ap (λ j. get_or (nodes_in_order l ++ q.node ∷ []) j 0) d ∙ at_past (nodes_in_order l) q.node [] 0)

-- ── plain sides ──

pub all_list : (f : ℕ → Bool) (rows : List Shape) (l : List Pair) (i : ℕ) → ((j : ℕ) → j < length l → f (i + j) ≡ are_plain rows (sides_at l j)) → all_from f i (length l) ≡ all_plain rows l
unfolding all_from
all_list f rows [] i h = refl
all_list f rows (p ∷ l) i h =
    let z : i + 0 ≡ i = omega arith in
    rw (rw z at (h 0 (omega arith)), all_list f rows l (suc i) (λ j k. let y : suc i + j ≡ i + suc j = omega arith in rw y (h (suc j) (omega arith)))) refl
