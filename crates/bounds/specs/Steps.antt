-- What each step of a typing rule adds to the tables, and what a loop adds. Assumes nothing.
use Rattle.std.specs.Prelude.{◌≡◌, refl, List, [], ◌∷◌, map, Bool, true, false, cond, ℕ, suc, zero, ◌+◌, ◌*◌, ◌<◌, length, get_or, set, ltb}
use Rattle.std.proofs.Common.{ap, arith, add-mul, suc-mul, rules, length-set}
use Rattle.std.proofs.Math.Option.{Option, none, some}
use Rattle.theory.specs.Rules.{Shape, Kind, inst, base, arr, ref, fn, fun, lam}
use Rattle.theory.specs.Program.{clip, done, refuse, intern, run, solved}
use Rattle.nodes.specs.Nodes.{is_some}
use Rattle.record.specs.declared.Extra.{Extra}
use Rattle.record.specs.declared.TypingError.{TypingError}
use Rattle.record.specs.Own.{Own, typed, marked, resolved}
use Rattle.record.specs.Steps.{Walk, Step, change, set_node_type, set_extra, set_final, node_type_lem, shape_of_lem, all_types, output, new_infer_var, array_of, ref_to_lem, fn_def_lem, instance, param_type, make_lambda, make_function, mark_var, error, caused, equation, for_each}
use Rattle.record.specs.Encodes.{input_count}
use Rattle.bounds.specs.Adds.{Cost, cost, nothing, both, Within, Adds, Kept, kept_same, same_larger, larger_within, drawn_larger, interned_larger, emitted_larger, written_larger, refused_larger, marking_larger, equated_larger, adds_within, adds_any, then}

-- ── costs ──

-- a variable and its row
abbrev pub one_var : Cost
one_var = cost 1 1 0 0 0

-- a row
abbrev pub one_row : Cost
one_row = cost 0 1 0 0 0

-- a row of k inputs
abbrev pub row_of_lem : ℕ → Cost
row_of_lem k = cost 0 1 k 0 0

-- an error
abbrev pub one_error : Cost
one_error = cost 0 0 0 1 0

-- an equation and its error
abbrev pub one_equation_lem : Cost
one_equation_lem = cost 0 0 0 1 1

-- k times a cost
abbrev pub times : ℕ → Cost → Cost
times k c = cost (k * c.vars) (k * c.rows) (k * c.inputs) (k * c.errors) (k * c.equations)

-- ── steps that add nothing ──

module _ {A : Type 0} where
  -- an answer
  pub done_adds : (a : A) → Adds nothing (done a)
  unfolding run
  done_adds a = record { larger = λ s. same_larger s }

  -- a refusal
  pub refuse_adds : (k n : ℕ) → Adds {A = A} nothing (refuse k n)
  unfolding run
  refuse_adds k n = record { larger = λ s. refused_larger k n s }

  -- of two programs each of which adds at most c, the one that is chosen
  pub cond_adds : {c : Cost} (b : Bool) {p q : Walk A} → Adds c p → Adds c q → Adds c (cond b p q)
  cond_adds true P Q = P
  cond_adds false P Q = Q

-- a change of the walk's own
change_adds : (f : Own → Own) → ((o : Own) → Kept o (f o)) → Adds nothing (change f)
unfolding run change
change_adds f h = record { larger = λ s. written_larger (f s.own) s (h s.own) }

-- one number more in a list
pub set_some : (l : List (Option ℕ)) (n t i : ℕ) → is_some (get_or l i none) ≡ true → is_some (get_or (set l n (some t)) i none) ≡ true
set_some [] n t i h = h
set_some (x ∷ l) zero t zero h = refl
set_some (x ∷ l) zero t (suc i) h = h
set_some (x ∷ l) (suc n) t zero h = h
set_some (x ∷ l) (suc n) t (suc i) h = set_some l n t i h

-- RAW of a node
pub set_node_type_adds : (n t : ℕ) → Adds nothing (set_node_type n t)
unfolding set_node_type typed
set_node_type_adds n t = change_adds (typed n t) (λ o. record { places = length-set o.raw n (some t); typed = set_some o.raw n t })

-- EXTRA of a node
pub set_extra_adds : (n : ℕ) (e : Extra) → Adds nothing (set_extra n e)
unfolding set_extra marked
set_extra_adds n e = change_adds (marked n e) (λ o. kept_same refl)

-- FINAL of a node
pub set_final_adds : (n t : ℕ) → Adds nothing (set_final n t)
unfolding set_final resolved
set_final_adds n t = change_adds (resolved n t) (λ o. kept_same refl)

-- RAW of a node, as it stands
pub node_type_adds : (n : ℕ) → Adds nothing (node_type_lem n)
unfolding run node_type_lem
node_type_adds n = record { larger = λ s. same_larger s }

-- a type, taken apart
pub shape_of_adds : (x : ℕ) → Adds nothing (shape_of_lem x)
unfolding run shape_of_lem
shape_of_adds x = record { larger = λ s. same_larger s }

-- all types
pub all_types_adds : Adds nothing all_types
unfolding run all_types
all_types_adds = record { larger = λ s. same_larger s }

-- the type that `return` answers to
pub output_adds : Adds nothing output
unfolding run output
output_adds = record { larger = λ s. same_larger s }

-- a mark
pub mark_var_adds : (v : ℕ) → Adds nothing (mark_var v)
unfolding run mark_var
mark_var_adds v = record { larger = λ s. marking_larger v s }

-- ── steps that add ──

-- a variable
pub new_infer_var_adds : (k : Kind) (o : Option ℕ) → Adds one_var (new_infer_var k o)
unfolding run new_infer_var
new_infer_var_adds k o = record { larger = λ s. drawn_larger k o s }

-- a made type
intern_adds : (t : Shape) → Adds (row_of_lem (input_count t)) (intern t done)
unfolding run
intern_adds t = record { larger = λ s. interned_larger t s }

-- an array
pub array_of_adds : (e : ℕ) → Adds one_row (array_of e)
unfolding array_of
array_of_adds e = intern_adds (arr e)

-- a reference
pub ref_to_adds : (e : ℕ) → Adds one_row (ref_to_lem e)
unfolding ref_to_lem
ref_to_adds e = intern_adds (ref e)

-- a definition's type
pub fn_def_adds : (d : ℕ) → Adds one_row (fn_def_lem d)
unfolding fn_def_lem
fn_def_adds d = cond_adds (ltb d 256) (intern_adds (fn d)) (adds_any (done_adds 0))

-- an instance
pub instance_adds : (k : ℕ) → Adds one_row (instance k)
unfolding instance
instance_adds k = cond_adds (ltb k 64) (intern_adds (base (inst k))) (adds_any (done_adds 0))

-- a list has as many numbers as what is made of each
map_length : (f : ℕ → ℕ) (l : List ℕ) → length (map f l) ≡ length l
map_length f [] = refl
map_length f (x ∷ l) = ap suc (map_length f l)

-- a lambda has an input for each param
pub make_lambda_adds : (n o : ℕ) (ps : List ℕ) → Adds (row_of_lem (length ps)) (make_lambda n o ps)
unfolding run make_lambda
make_lambda_adds n o ps = record {
  larger = λ s.
      let e : length (map (param_type s) ps) ≡ length ps = map_length (param_type s) ps in
      larger_within (search rules) ((intern_adds (lam n o (map (param_type s) ps))).larger s);
}

-- a function type has its inputs
pub make_function_adds : (a o : ℕ) (is : List ℕ) → Adds (row_of_lem (length is)) (make_function a o is)
unfolding run make_function
make_function_adds a o is = record {
  larger = λ s.
      let e : length (map (clip (length s.rows)) is) ≡ length is = map_length (clip (length s.rows)) is in
      larger_within (search rules) ((intern_adds (fun a o (map (clip (length s.rows)) is))).larger s);
}

-- an error
pub error_adds : (e : TypingError) → Adds one_error (error e)
unfolding run error
error_adds e = record { larger = λ s. emitted_larger e s }

-- an equation
pub equation_adds : (n x y : ℕ) (e : TypingError) → Adds one_equation_lem (equation n x y e)
unfolding run equation
equation_adds n x y e = record {
  larger = λ s.
      let a = clip (length s.rows) x in
      let b = clip (length s.rows) y in
      equated_larger n a b (solved a b s) (caused e) s;
}

-- ── loops ──

-- the sum of c over k numbers from i on
unfoldable pub sum_from : ℕ → ℕ → (ℕ → ℕ) → ℕ
sum_from i zero c = 0
sum_from i (suc k) c = c i + sum_from (suc i) k c

-- a loop whose turns add at most so many times u each adds at most their sum
pub each_adds : (u : Cost) (c : ℕ → ℕ) (i k : ℕ) (f : ℕ → Step) → ((j : ℕ) → j < i + k → Adds (times (c j) u) (f j)) → Adds (times (sum_from i k c) u) (for_each i k f)
unfolding for_each sum_from
each_adds u c i zero f h = adds_any (done_adds tt)
each_adds u c i (suc k) f h = adds_within sum_within (then _ (h i (omega arith)) (λ x. each_adds u c (suc i) k f (λ j l. h j (omega arith))))
  where
    sum_within : Within (both (times (c i) u) (times (sum_from (suc i) k c) u)) (times (c i + sum_from (suc i) k c) u)
    sum_within = record {
      vars = omega (arith, add-mul (c i) (sum_from (suc i) k c) u.vars);
      rows = omega (arith, add-mul (c i) (sum_from (suc i) k c) u.rows);
      inputs = omega (arith, add-mul (c i) (sum_from (suc i) k c) u.inputs);
      errors = omega (arith, add-mul (c i) (sum_from (suc i) k c) u.errors);
      equations = omega (arith, add-mul (c i) (sum_from (suc i) k c) u.equations);
    }

-- a loop of k turns that add at most u each adds at most k times u
pub each_same : (u : Cost) (i k : ℕ) (f : ℕ → Step) → ((j : ℕ) → j < i + k → Adds u (f j)) → Adds (times k u) (for_each i k f)
unfolding for_each
each_same u i zero f h = adds_any (done_adds tt)
each_same u i (suc k) f h = adds_within sum_within (then _ (h i (omega arith)) (λ x. each_same u (suc i) k f (λ j l. h j (omega arith))))
  where
    sum_within : Within (both u (times k u)) (times (suc k) u)
    sum_within = record {
      vars = omega (arith, suc-mul k u.vars);
      rows = omega (arith, suc-mul k u.rows);
      inputs = omega (arith, suc-mul k u.inputs);
      errors = omega (arith, suc-mul k u.errors);
      equations = omega (arith, suc-mul k u.equations);
    }
