-- What is claimed of `conflict_in` over the memory in which a walk ends: its text is what requests f) and n) say of the equations that the walk raised. Start here. Each assumption
-- is an argument: the memory encodes the state `s` in which the walk ends and reaches over its log, demand 3's invariant holds of it (`Claim`, which `track` of crate
-- `theory` gives of every walk), no equation was refused 13 (`calm`), and each was raised at a node (`placed`). `conflict_text` is what the contract says, `text_of` what the requests say.
use Rattle.std.specs.Prelude.{◌≡◌, ◌≢◌, List, ◌++◌, Bool, true, false, cond, ℕ, ◌+◌, ◌*◌, ◌≤◌, ◌<◌, length, get_or}
use Rattle.std.proofs.Math.Path.{refl, ap}
use Rattle.std.proofs.Common.{sym, ◌∙◌, ne_eqb}
use Rattle.std.proofs.Math.Option.{Option, none, some}
use native.Mathlib.Omega.{arith}
use Rattle.theory.specs.Program.{Equation}
use Rattle.theory.specs.Basics.{All, all_map}
use Rattle.theory.specs.Ways.{Kinded, Inside}
use Rattle.theory.specs.Demand.{Claim}
use Rattle.type_table.specs.Sound.{state_of}
use Rattle.type_table.specs.Tables.{length-rows}
use Rattle.record.specs.declared.Record.{Record}
use Rattle.record.specs.Own.{log_at}
use Rattle.record.specs.Steps.{State}
use Rattle.record.specs.Encodes.{Encodes}
use Rattle.unify.specs.Promise.{rows_in, kinds_in}
use Rattle.conflict_theory.specs.Sets.{Part, all_part}
use Rattle.conflict_theory.specs.Deletion.{left_part}
use Rattle.conflict_theory.specs.Worked.{until_failed, in_order, nodes_in_order, sides_at, numbers, PlainPair, conflict_of, None13, until_failed_part, from_below}
use Rattle.conflict_theory.specs.Plains.{are_plain, all_plain, all_exactly}
use Rattle.conflict_theory.specs.Shortest.{shortest_of}
use Rattle.conflict_theory.specs.Claims as named
use Rattle.conflict_theory.proofs.Claims as theory
use Rattle.lex.specs.Text.{text}
use Rattle.output.specs.Output.{number_text, newline}
use Rattle.conflict_set.specs.declared.Lines.{Lines}
use Rattle.conflict_set.specs.declared.Sought.{Sought}
use Rattle.conflict_set.specs.declared.Sought.TheVariants as sought
use Rattle.conflict_set.specs.In.{Whole, pair_in, node_in, worked_in, plain_to, conflict_in}
use Rattle.conflict_set.specs.Searching.{shortest_in}
use Rattle.conflict_set.specs.Text.{line_in, line_of, set_text, shortest_text, sought_text, sought_in, conflict_text, unless14, text_by, text_of}
use Rattle.conflict_set.specs.TextLaws.{set_same}
use Rattle.conflict_set.specs.Encoded.{count_of, Until, until, worked_is, order_length, pair_is, node_is, all_list}

module _ (m : List ℕ) (c : Record) (s : State) (enc : Encodes m c s) (room : log_at + length s.log * 3 ≤ length m) (claim : Claim s.rows s.kinds s.mem.binds s.log) (calm : None13 s.log) (placed : All (λ (q : Equation). q.node < 4096) s.log) where
  -- the memory is as the contract asks
  pub whole : Whole m c.counts
  whole = record { size = enc.sound.laid.size; types = enc.sound.laid.types; vars = enc.sound.laid.vars }

  rows_are : rows_in m c.counts ≡ s.rows
  unfolding state_of
  rows_are = ap (λ (t : State). t.rows) enc.tables

  kinds_are : kinds_in m c.counts ≡ s.kinds
  unfolding state_of
  kinds_are = ap (λ (t : State). t.kinds) enc.tables

  worked : worked_in m c.equations ≡ count_of (until_failed s.log)
  worked = ap (worked_in m) enc.equations ∙ worked_is m s.log room enc.logged claim.ended

  module _ (k : List Equation) (e : until_failed s.log ≡ some k) where
    -- the log at the first failure
    part : Until m s.log k
    part = until m s.log k enc.logged e

    -- how many they are
    count : worked_in m c.equations ≡ length (in_order k)
    count = worked ∙ ap count_of e ∙ sym (order_length k)

    count_some : length (in_order k) ≢ 0
    count_some z = let n = order_length k in omega (arith, part.filled)

    types_are : length s.rows ≡ c.counts.types
    types_are = ap length (sym rows_are) ∙ length-rows m c.counts.types

    sides : (i : ℕ) → i < length (in_order k) → pair_in m c.counts i ≡ sides_at (in_order k) i
    sides = pair_is m c.counts k (omega (arith, part.most)) part.logged (all_map (Inside s.rows) (λ (q : Equation). (q.expected < c.counts.types) × (q.got < c.counts.types)) k (λ q i. rw types_are at i) (until_failed_part (Inside s.rows) s.log k e claim.inside))

    nodes : (i : ℕ) → i < length (in_order k) → node_in m i ≡ get_or (nodes_in_order k) i 0
    nodes i h = node_is m k (omega (arith, part.most)) part.logged (until_failed_part (λ (q : Equation). q.node < 4096) s.log k e placed) i (omega (arith, h, order_length k))

    lines_are : (l : Lines) (i : ℕ) → i < length (in_order k) → line_in m c.counts l i ≡ line_of l k i
    lines_are l i h = rw (nodes i h, sides i h) refl

    plain_is : plain_to m c.counts (length (in_order k)) ≡ all_plain s.rows (in_order k)
    unfolding plain_to
    plain_is = all_list (λ i. are_plain (rows_in m c.counts) (pair_in m c.counts i)) s.rows (in_order k) 0 (λ j l. let z : 0 + j ≡ j = omega arith in rw (z, rows_are, sides j l) refl)

    module _ (plain : All (PlainPair s.rows) (in_order k)) where
      -- f)'s set
      abbrev set : List ℕ
      set = conflict_of s.rows s.kinds (in_order k)

      set_is : conflict_in m c.counts (length (in_order k)) ≡ set
      set_is = rw (rows_are, kinds_are) (theory.code_conflict s.rows s.kinds s.mem.binds s.log claim calm k e plain (pair_in m c.counts) sides)

      numbers_all : (r : List ℕ) → Part r (numbers (in_order k)) → All (λ i. i < length (in_order k)) r
      numbers_all r p = all_part (λ i. i < length (in_order k)) r (numbers (in_order k)) p (from_below 0 (length (in_order k)) (length (in_order k)) (omega arith))

      same_lines : (l : Lines) (r : List ℕ) → Part r (numbers (in_order k)) → set_text (line_in m c.counts l) r ≡ set_text (line_of l k) r
      same_lines l r p = set_same (λ i. i < length (in_order k)) (line_in m c.counts l) (line_of l k) (lines_are l) r (numbers_all r p)

      set_part : Part set (numbers (in_order k))
      set_part = left_part (Kinded s.kinds) (named.Met s.rows s.kinds s.mem.binds s.log claim calm k e plain) (numbers (in_order k)) set (theory.conflict_left s.rows s.kinds s.mem.binds s.log claim calm k e plain)

      -- n)'s answer
      abbrev best : ℕ → List ℕ × ℕ
      best b = shortest_of s.rows s.kinds (in_order k) b

      best-is : (b : ℕ) → shortest_in m c.counts (length (in_order k)) b ≡ best b
      best-is b = rw (set_is, rows_are, kinds_are) (theory.code_shortest s.rows s.kinds s.mem.binds s.log claim calm k e plain (pair_in m c.counts) sides b)

      best_part : (b : ℕ) → Part (best b).0 (numbers (in_order k))
      best_part b = theory.shortest_part s.rows s.kinds s.mem.binds s.log claim calm k e plain b

      sought_text_lem : (q : Sought) → sought_in m c.counts (length (in_order k)) q ≡ sought_text q s.rows s.kinds k
      sought_text_lem (sought.Minimal l) = ap (set_text (line_in m c.counts l)) set_is ∙ same_lines l set set_part
      sought_text_lem (sought.Shortest l b) = ap (shortest_text (line_in m c.counts l)) (best-is b) ∙ ap (λ t. t ++ ((text "below=" ++ number_text (best b).1) ++ newline)) (same_lines l (best b).0 (best_part b))

    by_plain : (q : Sought) (b : Bool) → all_plain s.rows (in_order k) ≡ b → unless14 (length (in_order k)) b (sought_in m c.counts (length (in_order k)) q) ≡ cond b (some (sought_text q s.rows s.kinds k)) none
    by_plain q true p = rw (ne_eqb (length (in_order k)) 0 count_some) (ap some (sought_text_lem ((all_exactly s.rows claim.lower (in_order k)).0 p) q))
    by_plain q false p = rw (ne_eqb (length (in_order k)) 0 count_some) refl

    some_text : (q : Sought) → conflict_text m c.counts c.equations q ≡ text_by q s.rows s.kinds (some k)
    unfolding conflict_text
    some_text q = rw (count, plain_is) (by_plain q (all_plain s.rows (in_order k)) refl)

  none_text : (q : Sought) → until_failed s.log ≡ none → conflict_text m c.counts c.equations q ≡ none
  unfolding conflict_text
  none_text q e = rw (worked, e) refl

  -- the text that the contract of `conflict_in` names is that of the requests
  pub text_is : (q : Sought) → conflict_text m c.counts c.equations q ≡ text_of q s.rows s.kinds s.log
  unfolding text_of
  text_is q = by (until_failed s.log) refl
    where
      by : (o : Option (List Equation)) → until_failed s.log ≡ o → conflict_text m c.counts c.equations q ≡ text_by q s.rows s.kinds o
      by none e = none_text q e
      by (some k) e = some_text k e q
