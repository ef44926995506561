-- Inputs that are pushed, and the lambda or function that is then made of them. Over plain variables.
use mathlib.Core.Path.{◌≡◌, refl, sym, ap, ◌∙◌}
use mathlib.Core.List.{List, [], ◌∷◌, ◌++◌, map, append-nil, append_assoc}
use mathlib.Core.Option.{Option, none, some}
use mathlib.Core.Bool.{true, ◌&&◌}
use Prim.Native.Nat.{ℕ, suc, ◌+◌, ◌-◌, ◌≤◌, ◌<◌}
use native.Mathlib.Omega.{arith}
use native.Mathlib.Nat.{zero-add}
use lib.ListN.{length, length-append, length-map, get_or}
use lib.Dec.{ltb}
use borrow.Author.Tests.{lt-leb, lt-ltb, le-ltb}
use Rattle.theory.specs.Rules.{Shape, fun, lam, lambda_head, param_head}
use Rattle.theory.specs.Program.{clip, all_below, sane, made_of, interned, run}
use Rattle.theory.specs.Demand.{clip_in}
use Rattle.type_table.specs.declared.Counts.{Counts}
use Rattle.type_table.specs.declared.Made.{Made}
use Rattle.type_table.specs.Memory.{most_types, most_inputs, counts, inputs_from, rows_of}
use Rattle.type_table.specs.Made.{made, Counting, pushed, push_in, parts_in}
use Rattle.type_table.specs.Pool.{first-none}
use Rattle.type_table.specs.Sound.{Sound, state_of, answered}
use Rattle.type_table.specs.Keeps.{push_last}
use Rattle.type_table.specs.Promises.{push_step, push_keeps, lambda_step, lambda_keeps, function_step, function_keeps}
use Rattle.nodes.specs.declared.Items.{Items}
use Rattle.nodes.specs.Nodes.{item, numbers_from, items_of}
use Rattle.record.specs.declared.Record.{Record}
use Rattle.record.specs.declared.Given.{Given}
use Rattle.record.specs.Own.{Own, own_of, raws_of}
use Rattle.record.specs.Steps.{State, or_nil, param_type, make_lambda, make_function}
use Rattle.record.specs.Encodes.{input_count, input_total, Encodes, Fits, Runs, Gives}
use Rattle.record.specs.Operations.{with_made}
use Rattle.record.specs.Answers.{type_in, push_all}
use Rattle.record.specs.Regions.{all_raws_kept}
use Rattle.record.specs.InTables.{InTables, tables_same, tables_on, tables_push, beside_parts}
use Rattle.record.specs.Pooled.{interned_not, interned_more}
use Rattle.record.specs.Grows.{total-append}
use Rattle.record.specs.Runs.{rows_are}
use Rattle.record.proofs.TableLaws.{rows_counted, given}

-- ── the inputs that are pushed ──

-- r is left by pushing xs, where there is room
record Pushes (m : List ℕ) (c : Counts) (xs : List ℕ) (r : Counting) : Type 0 where
  -- the tables are sound
  sound : Sound r.memory r.counts
  -- and as they were
  state : (s : State) → state_of r.memory r.counts s ≡ state_of m c s
  -- so is what is behind them
  in_tables : InTables m r.memory
  -- the rows are as many
  types : r.counts.types ≡ c.types
  -- the inputs are more
  inputs : r.counts.inputs ≡ c.inputs + length xs
  -- the last inputs are those that were pushed
  last : (f k : ℕ) → f + k ≡ c.inputs → inputs_from r.memory f (k + length xs) ≡ inputs_from m f k ++ map (clip c.types) xs

-- an input is counted
pushed_one : (m : List ℕ) (c : Counts) (x : ℕ) → c.inputs < most_inputs → ((push_in m c x).counts.types ≡ c.types) × ((push_in m c x).counts.inputs ≡ c.inputs + 1)
unfolding push_in
pushed_one m c x room = rw (lt-leb most_inputs c.inputs room) (refl, refl)

-- inputs are pushed
pushes : (m : List ℕ) (c : Counts) (xs : List ℕ) → Sound m c → c.inputs + length xs ≤ most_inputs → Pushes m c xs (push_all m c xs)
unfolding push_all
pushes m c [] sound room =
    record { sound = sound; state = λ s. refl; in_tables = tables_same m; types = refl; inputs = omega arith; last = λ f k e. let z : k + 0 ≡ k = omega arith in rw (z, append-nil (inputs_from m f k)) }
pushes m c (x ∷ xs) sound room = by (pushed_one m c x (omega arith)) (λ h. pushes (push_in m c x).memory (push_in m c x).counts xs (push_keeps sound x) h)
  where
    u : List ℕ
    u = (push_in m c x).memory

    d : Counts
    d = (push_in m c x).counts

    by : (d.types ≡ c.types) × (d.inputs ≡ c.inputs + 1) → (d.inputs + length xs ≤ most_inputs → Pushes u d xs (push_all u d xs)) → Pushes m c (x ∷ xs) (push_all u d xs)
    by n rest =
        let p = rest (omega (arith, n.1, room)) in
        record {
          sound = p.sound;
          state = λ s. p.state s ∙ push_step sound s x;
          in_tables = tables_on (tables_push m c x) p.in_tables;
          types = p.types ∙ n.0;
          inputs = p.inputs ∙ omega (arith, n.1);
          last = λ f k e.
              let z : k + suc (length xs) ≡ k + 1 + length xs = omega arith in
              let q = p.last f (k + 1) (omega (arith, n.1, e)) in
              let l = push_last sound.laid x (omega (arith, room)) f k e in
              rw z (q ∙ rw (l, n.0, append_assoc (inputs_from m f k) (clip c.types x ∷ []) (map (clip c.types) xs)));
        }

-- ── a type is made of them ──

-- what is clipped names a row
clipped_below : (n : ℕ) (xs : List ℕ) → 0 < n → all_below n (map (clip n) xs) ≡ true
clipped_below n [] h = refl
clipped_below n (x ∷ xs) h = rw (lt-ltb (clip n x) n (clip_in n x h), clipped_below n xs h)

-- the inputs from the first pushed on
pushed_are : (m u : List ℕ) (c : Counts) (xs : List ℕ) → ((f k : ℕ) → f + k ≡ c.inputs → inputs_from u f (k + length xs) ≡ inputs_from m f k ++ map (clip c.types) xs) → inputs_from u c.inputs (length xs) ≡ map (clip c.types) xs
unfolding inputs_from
pushed_are m u c xs last = rw zero-add at (last c.inputs 0 (omega arith))

-- T of its inputs is a type with the output o, and is made of no number
module _ (T : List ℕ → Shape) (o : ℕ) (parts : (n : ℕ) (i : List ℕ) → sane n (T i) ≡ (ltb o n && all_below n i)) (unmade : (i : List ℕ) → made_of (T i) ≡ none) (count : (i : List ℕ) → input_count (T i) ≡ length i)
    (m : List ℕ) (c : Record) (xs : List ℕ) (s : State) (e : Encodes m c s) where
  -- the inputs that it has
  abbrev ins : List ℕ
  ins = map (clip c.counts.types) xs

  -- of an output that is no row nothing is made
  pub parts_none : c.counts.types ≤ o → (i : List ℕ) → interned (T i) s ≡ (0, s)
  parts_none l i = rw e.tables at (interned_not (T i) m c.counts s (parts c.counts.types i ∙ rw (le-ltb o c.counts.types l)))

  -- of a row there is one row more
  parts_more : o < c.counts.types → (interned (T ins) s).1.rows ≡ s.rows ++ T ins ∷ []
  parts_more l =
      let n = c.counts.types in
      let whole : sane n (T ins) ≡ true = parts n ins ∙ rw (lt-ltb o n l, clipped_below n xs (omega (arith, e.sound.laid.fixed))) in
      (rw e.tables at (interned_more (T ins) m c.counts s whole (first-none 0 (rows_of m n) (T ins) (unmade ins)))) ∙ ap (λ (rows : List Shape). rows ++ T ins ∷ []) (sym (rows_are e))

  -- its inputs are pushed to u, and then it is made
  pub parts_gives : (h a : ℕ) (u m' : List ℕ) (d : Counts) (x : Made) (r : Given) → r ≡ with_made c x → o < c.counts.types → pushed d u ≡ push_all m c.counts xs → made x m' ≡ parts_in u d h a o c.counts.inputs (length xs)
      → (Sound u d → Sound (parts_in u d h a o c.counts.inputs (length xs)).memory (parts_in u d h a o c.counts.inputs (length xs)).counts)
      → (Sound u d → d.types < most_types → c.counts.inputs + length xs ≤ d.inputs → answered (parts_in u d h a o c.counts.inputs (length xs)) s ≡ interned (T (inputs_from u c.counts.inputs (length xs))) (state_of u d s))
      → Fits (interned (T ins) s).1 → (◌≡◌ {A = Option ℕ} (some (interned (T ins) s).0) (some r.ty.0)) × Encodes m' r.record (interned (T ins) s).1
  unfolding input_total
  parts_gives h a u m' d x r q l p is keeps law f = by (rw (← p) at (pushes m c.counts xs e.sound room))
    where
      total : input_total (interned (T ins) s).1.rows ≡ c.counts.inputs + length xs
      total = ap input_total (parts_more l) ∙ total-append s.rows (T ins ∷ []) ∙ omega (arith, e.inputs, count ins, length-map xs (clip c.counts.types))

      room : c.counts.inputs + length xs ≤ most_inputs
      room = omega (arith, total, f.inputs)

      free : c.counts.types < most_types
      free = omega (arith, ap length (parts_more l), length-append s.rows (T ins ∷ []), rows_counted e, f.rows)

      by : Pushes m c.counts xs (pushed d u) → (◌≡◌ {A = Option ℕ} (some (interned (T ins) s).0) (some r.ty.0)) × Encodes m' r.record (interned (T ins) s).1
      by g =
          let b = beside_parts u d h a o c.counts.inputs (length xs) in
          let same : inputs_from u c.counts.inputs (length xs) ≡ ins = pushed_are m u c.counts xs g.last in
          let step = law g.sound (omega (arith, g.types, free)) (omega (arith, g.inputs)) in
          let made_so : answered (parts_in u d h a o c.counts.inputs (length xs)) s ≡ interned (T ins) s = rw (same, g.state s, e.tables) at step in
          given e is q (tables_on g.in_tables b.in_tables) (keeps g.sound) (interned (T ins) s) made_so (b.inputs ∙ g.inputs ∙ sym total)

-- ── a lambda ──

-- RAW of each node is that of the memory
raws_are : {m : List ℕ} {c : Record} {s : State} → Encodes m c s → s.own.raw ≡ raws_of m
unfolding own_of
raws_are e = ap (λ (o : Own). o.raw) e.own

-- the type of a node is that of the memory
type_is : {m : List ℕ} {c : Record} {s : State} → Encodes m c s → (p : ℕ) → or_nil (get_or s.own.raw p none) ≡ type_in m p
unfolding type_in
type_is e p = ap (λ (raws : List (Option ℕ)). or_nil (get_or raws p none)) (raws_are e)

-- the type of a param
param : {m : List ℕ} {c : Record} {s : State} → Encodes m c s → (p : ℕ) → param_type s p ≡ clip c.counts.types (type_in m p)
unfolding param_type
param {m} {c} {s} e p = ap (λ (n : ℕ). clip n (or_nil (get_or s.own.raw p none))) (rows_counted e) ∙ ap (clip c.counts.types) (type_is e p)

-- the inputs of a lambda are the types of its params
params : {m : List ℕ} {c : Record} {s : State} (e : Encodes m c s) (ps : List ℕ) → map (param_type s) ps ≡ map (clip c.counts.types) (map (type_in m) ps)
params e [] = refl
params e (p ∷ ps) = rw (param e p, params e ps)

-- the inputs are pushed, and a lambda is made of them
pub lambda_gives : (m u m' : List ℕ) (c : Record) (d : Counts) (x : Made) (r : Given) (a o k : ℕ) (ps : List ℕ) → r ≡ with_made c x → o < c.counts.types → length ps ≡ k → pushed d u ≡ push_all m c.counts (map (type_in m) ps)
    → made x m' ≡ parts_in u d lambda_head a o c.counts.inputs k → Gives m c m' r (make_lambda a o ps)
unfolding make_lambda run
lambda_gives m u m' c d x r a o k ps q l n p is = record {
  ran = λ s e f. let xs = map (type_in m) ps in
      let i = c.counts.inputs in
      let z : k ≡ length xs = sym (length-map ps (type_in m) ∙ n) in
      rw (params e ps)
      (parts_gives (lam a o) o (λ n i. refl) (λ i. refl) (λ i. refl) m c xs s e lambda_head a u m' d x r q l p (rw z at is) (λ h. lambda_keeps h a o i (length xs)) (λ h room inputs. lambda_step h s a o i (length xs) room inputs) (rw (params e ps) at f));
}

-- a lambda whose output is no row is not made
pub lambda_none : (m : List ℕ) (c : Record) (a o : ℕ) (ps : List ℕ) → c.counts.types ≤ o → Runs m c m c (make_lambda a o ps) 0
unfolding make_lambda run
lambda_none m c a o ps l = record { ran = λ s e f. rw (parts_none (lam a o) o (λ n i. refl) (λ i. refl) (λ i. refl) m c [] s e l (map (param_type s) ps)) (refl, e) }

-- ── a function ──

-- the inputs are pushed, and a function is made of them
pub function_gives : (m u m' : List ℕ) (c : Record) (d : Counts) (x : Made) (r : Given) (a o k : ℕ) (xs : List ℕ) → r ≡ with_made c x → o < c.counts.types → length xs ≡ k → pushed d u ≡ push_all m c.counts xs
    → made x m' ≡ parts_in u d param_head a o c.counts.inputs k → Gives m c m' r (make_function a o xs)
unfolding make_function run
function_gives m u m' c d x r a o k xs q l n p is = record {
  ran = λ s e f. let i = c.counts.inputs in
      rw (rows_counted e)
      (parts_gives (fun a o) o (λ n i. refl) (λ i. refl) (λ i. refl) m c xs s e param_head a u m' d x r q l p (rw (← n) at is) (λ h. function_keeps h a o i (length xs)) (λ h room inputs. function_step h s a o i (length xs) room inputs) (rw (rows_counted e) at f));
}

-- a function whose output is no row is not made
pub function_none : (m : List ℕ) (c : Record) (a o : ℕ) (xs : List ℕ) → c.counts.types ≤ o → Runs m c m c (make_function a o xs) 0
unfolding make_function run
function_none m c a o xs l = record { ran = λ s e f. rw (parts_none (fun a o) o (λ n i. refl) (λ i. refl) (λ i. refl) m c [] s e l (map (clip (length s.rows)) xs)) (refl, e) }

-- ── the loops that push ──

-- the items from i on are pushed, each as g has it
abbrev pub rest_pushed : (ℕ → ℕ) → List ℕ → Counts → List ℕ → Items → ℕ → ℕ → Counting
rest_pushed g m d cells t k i = push_all m d (map g (numbers_from cells (t.first + t.from + i) (k - i)))

-- at first all items are to be pushed
pub rest_first : (g : ℕ → ℕ) (m : List ℕ) (d : Counts) (cells : List ℕ) (t : Items) → rest_pushed g m d cells t t.count 0 ≡ push_all m d (map g (items_of cells t))
rest_first g m d cells t =
    let z : t.first + t.from + 0 ≡ t.first + t.from = omega arith in
    let y : t.count - 0 ≡ t.count = omega arith in
    rw (z, y)

-- at the end none is
pub rest_last : (g : ℕ → ℕ) (m : List ℕ) (d : Counts) (cells : List ℕ) (t : Items) (k i : ℕ) → k ≤ i → pushed d m ≡ rest_pushed g m d cells t k i
unfolding push_all numbers_from
rest_last g m d cells t k i h = let z : k - i ≡ 0 = omega arith in rw z

-- an item is pushed
pub rest_more : (g : ℕ → ℕ) (m m' : List ℕ) (d d' : Counts) (cells : List ℕ) (t : Items) (k i x : ℕ) → i < k → x ≡ g (item cells t i) → pushed d' m' ≡ push_in m d x → rest_pushed g m' d' cells t k (i + 1) ≡ rest_pushed g m d cells t k i
unfolding push_all numbers_from item
rest_more g m m' d d' cells t k i x h q p =
    let j = t.first + t.from in
    let z : k - i ≡ suc (k - (i + 1)) = omega arith in
    let y : j + (i + 1) ≡ suc (j + i) = omega arith in
    rw (z, y, ← q) (ap (λ (r : Counting). push_all r.memory r.counts (map g (numbers_from cells (suc (j + i)) (k - (i + 1))))) p)

-- an item's type is that of the node at first
pub type_kept : (m₀ m : List ℕ) (n n' x : ℕ) → InTables m₀ m → n ≡ n' → x ≡ or_nil (get_or (raws_of m) n none) → x ≡ type_in m₀ n'
unfolding type_in
type_kept m₀ m n n' x b p q = q ∙ ap (λ (y : ℕ). or_nil (get_or (raws_of m) y none)) p ∙ ap (λ (raws : List (Option ℕ)). or_nil (get_or raws n' none)) (all_raws_kept m₀ m (λ j l r. b.same j l))

-- a push keeps what is behind the tables
pub push_in_tables : (m₀ m m' : List ℕ) (d d' : Counts) (x : ℕ) → InTables m₀ m → pushed d' m' ≡ push_in m d x → InTables m₀ m'
push_in_tables m₀ m m' d d' x b p = tables_on b (rw (← p) at (tables_push m d x))

-- a map that changes nothing
pub map_same : (l : List ℕ) → map (λ x. x) l ≡ l
map_same [] = refl
map_same (x ∷ xs) = ap (λ (z : List ℕ). x ∷ z) (map_same xs)

-- at first all items are to be pushed, as they are
pub rest_same : (m : List ℕ) (d : Counts) (cells : List ℕ) (t : Items) → rest_pushed (λ x. x) m d cells t t.count 0 ≡ push_all m d (items_of cells t)
rest_same m d cells t = rest_first (λ x. x) m d cells t ∙ ap (push_all m d) (map_same (items_of cells t))
