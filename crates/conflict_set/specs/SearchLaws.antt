-- What the promises of the search rest on, over plain variables.
use Rattle.std.specs.Prelude.{◌≡◌, ◌≢◌, ◌⊎◌, Bool, true, false, cond, length, ltb, None, Option as Option·R, Some}
use Rattle.std.proofs.Math.Path.{refl, sym, ap}
use Rattle.std.proofs.Common.{◌∙◌, inl, inr}
use mathlib.Core.List.{List, [], ◌∷◌, ◌++◌, append_assoc, append-nil}
use Rattle.std.proofs.Math.Option.{Option, none, some}
use Prim.Native.Nat.{ℕ, suc, zero, ◌+◌, ◌-◌, ◌*◌, ◌≤◌, ◌<◌}
use native.Mathlib.Omega.{arith}
use Rattle.std.proofs.Math.Decide.{dec_lt, ℕ_discrete}
use Rattle.std.proofs.Math.ListN.{set, length-set, get_or-eq_default}
use Rattle.std.proofs.Math.Seq.{get_or-set_same, get_or-set_other}
use Rattle.std.proofs.Math.Dec.{eqb}
use borrow.Author.Tests.{lt-ltb, le-ltb, lt-leb, eq-eqb, ne_eqb}
use Rattle.theory.specs.Rules.{Base, Shape, base, var, arr, div, regular, integer, floating, kind, is_regular, success, Mem, Pair, Res, row, bound}
use Rattle.theory.specs.Program.{fuel}
use Rattle.theory.specs.Solve.{solves}
use Rattle.theory.specs.Basics.{All, clash, and_both, eqb-true}
use Rattle.theory.specs.Ways.{Plain, plain_base, plain_var, plain_array}
use Rattle.type_table.specs.declared.Counts.{Counts}
use Rattle.type_table.specs.declared.TypeId.{TypeId}
use Rattle.type_table.specs.declared.VarId.{VarId}
use Rattle.type_table.specs.declared.Kind.{Kind as Kind-as-C}
use Rattle.type_table.specs.declared.Kind.TheVariants as kinds
use Rattle.type_table.specs.Memory.{pick, cell, most_vars, head_at, number_at, output_at, first_at, count_at, inputs_from, shape_of, binding_at, mark_at, binds_of, marks_of, mem_of, var_cell, kind_of, kind_at}
use Rattle.type_table.specs.View.{bound_code}
use Rattle.type_table.specs.View as view
use Rattle.type_table.specs.Tables.{length_binds, bound_at, kind_at_lem, tab_set, tab_ext}
use Rattle.type_table.specs.Frames.{cell_other}
use Rattle.type_table.specs.Heads.{head_low, shape_cases, row_by}
use Rattle.unify.specs.Promise.{rows_in, kinds_in, mem_in}
use Rattle.unify.specs.Steps.{steps, fuel_is}
use Rattle.unify.specs.Leaf.{kind_k}
use Rattle.conflict_theory.specs.Test.{is_success, blank, unified, ok}
use Rattle.conflict_theory.specs.Worked.{PlainPair, from, from_below}
use Rattle.conflict_theory.specs.Subsets.{next, next_below}
use Rattle.conflict_theory.specs.Search.{tested, onward_to}
use Rattle.conflict_theory.specs.Code.{added, unified_last, ok_stays, on_next, tries_in, search_in}
use Rattle.conflict_theory.specs.OneBound.{end_var, end_shape, open_end, opened, is_some, bound_one, set_open, PlainBinds, bound_by, unified_plain, added_back}
use Rattle.conflict_theory.specs.Free.{free_vars, free_expected, free_got, kinds_meet, can_meet}
use Rattle.conflict_theory.specs.Marks.{Unmarked}
use Rattle.conflict_theory.specs.Plains.{are_plain, sides_plain}
use Rattle.conflict_set.specs.declared.Lead.{Lead}
use Rattle.conflict_set.specs.declared.Lead.TheVariants as lead
use Rattle.conflict_set.specs.declared.Tried.{Tried}
use Rattle.conflict_set.specs.declared.Tried.TheVariants as tried
use Rattle.conflict_set.specs.declared.Searched.{Searched}
use Rattle.conflict_set.specs.In.{Whole, Kept, pair_in, cells_from, list_in, all_from, plain_to, added_in, unified_in, reopened, Told, AddedBy}
use Rattle.conflict_set.specs.Laws.{kept_self, kept_on, whole_on, rows_on, kinds_on, pairs_on, cells_last, list_last, reopened_kept, reopened_mem, kinds_count}
use Rattle.conflict_set.specs.Searching.{lead_var, lead_in, var_number, open_end_in, if_bound, bound_end, opened_in, ok_in, PushedIs, PushedBy, Stacked, PlainPlaces, PushedFrom, PoppedBy, free_leads, free_in, LastTo, LastTested, SetTo, SetTested, FollowedBy, AdvancedBy, outcome_of, PlainTo, NumbersBelow, TriedBy, FirstTriedBy, SearchedBy}

-- ── ends ──

-- where a row leads, in the rules' words
abbrev pub by_lead : (ℕ → Option ℕ) → Lead → Option ℕ
by_lead f (lead.On z) = f z.0
by_lead f (lead.Open v) = some v.0
by_lead f lead.Nowhere = none

lead_var_lem : (b : List (Option ℕ)) (f : ℕ → Option ℕ) (v : ℕ) (o : Option ℕ) → by_lead f (lead_var v o) ≡ end_var [] b f v o
lead_var_lem b f v none = refl
lead_var_lem b f v (some r) = refl

end_shape_lem : (rows : List Shape) (b : List (Option ℕ)) (g : ℕ → Option ℕ) (h a o : ℕ) (i : List ℕ) → h < 15 → end_shape rows b g (shape_of h a o i) ≡ pick (eqb h 8) (g a) (pick (eqb h 12) (end_var rows b g a (bound b a)) none)
end_shape_lem rows b g h a o i l = shape_cases h a o i l (λ s. end_shape rows b g s ≡ pick (eqb h 8) (g a) (pick (eqb h 12) (end_var rows b g a (bound b a)) none)) (λ e. rw e refl) (λ e. rw e refl) (λ e. rw e refl) (λ e. rw e refl) (λ e. rw e refl) (λ e. rw e refl) (λ e. rw e refl) (λ e. rw e refl) (λ e. rw e refl) (λ e. rw e refl) (λ e. rw e refl) (λ e. rw e refl) (λ e. rw e refl) (λ e. rw e refl) (λ e. rw e refl)

by_cases : (f : ℕ → Option ℕ) (b c : Bool) (x y z : Lead) → by_lead f (pick b x (pick c y z)) ≡ pick b (by_lead f x) (pick c (by_lead f y) (by_lead f z))
by_cases f true c x y z = refl
by_cases f false true x y z = refl
by_cases f false false x y z = refl

-- the row of a binding
abbrev row_of : Option·R TypeId → ℕ
row_of (Some x) = x.0
row_of None = 0

module _ (m : List ℕ) (c : Counts) where
  -- the open end of a row in so many steps
  abbrev pub end_to : ℕ → ℕ → Option ℕ
  end_to n y = open_end (rows_in m c) (mem_in m c).binds n y

  end_step : (n y : ℕ) → end_to (suc n) y ≡ by_lead (end_to n) (lead_in m c y)
  unfolding open_end lead_in mem_of
  end_step n y =
      let h = head_at m c.types y in
      let a = number_at m c.types y in
      ap (end_shape (rows_in m c) (binds_of m c.vars) (end_to n)) (row_by m c.types y)
      ∙ end_shape_lem (rows_in m c) (binds_of m c.vars) (end_to n) h a (output_at m c.types y) (inputs_from m (first_at m c.types y) (count_at m c.types y)) (head_low m c.types y)
      ∙ sym (by_cases (end_to n) (eqb h 8) (eqb h 12) (lead.On (view.type a)) (lead_var a (binding_at m c.vars a)) lead.Nowhere ∙ rw (bound_at m c.vars a) (ap (λ z. pick (eqb h 8) (end_to n a) (pick (eqb h 12) z none)) (lead_var_lem (binds_of m c.vars) (end_to n) a (binding_at m c.vars a))))

  -- from the row y, with n steps left
  abbrev pub Leads : ℕ → ℕ → ℕ → Type 0
  Leads x y n = var_number (end_to n y) ≡ open_end_in m c x

  pub leads_start : (x n : ℕ) → n ≡ steps c → Leads x x n
  unfolding open_end_in
  leads_start x n e = rw (fuel_is m c, e) refl

  module _ (x y n k : ℕ) (z : 0 < n) (e : k ≡ n - 1) (g : Leads x y n) where
    step_is : end_to n y ≡ by_lead (end_to k) (lead_in m c y)
    step_is = let d : n ≡ suc k = omega arith in rw d (end_step k y)

    pub leads_on : (w : TypeId) → lead.On w ≡ lead_in m c y → Leads x w.0 k
    leads_on w p = sym (ap var_number (step_is ∙ ap (by_lead (end_to k)) (sym p))) ∙ g

    pub leads_open : (v : VarId) → lead.Open v ≡ lead_in m c y → v.0 ≡ open_end_in m c x
    leads_open v p = sym (ap var_number (step_is ∙ ap (by_lead (end_to k)) (sym p))) ∙ g

    pub leads_nowhere : lead.Nowhere ≡ lead_in m c y → 65535 ≡ open_end_in m c x
    leads_nowhere p = sym (ap var_number (step_is ∙ ap (by_lead (end_to k)) (sym p))) ∙ g

  pub leads_end : (x y n : ℕ) → n ≤ 0 → Leads x y n → 65535 ≡ open_end_in m c x
  unfolding open_end
  leads_end x y n z g = let d : n ≡ 0 = omega arith in rw d at g

  module _ (y h : ℕ) (p : h ≡ head_at m c.types y) where
    pub lead_array : h ≡ 8 → (x : TypeId) → x.0 ≡ number_at m c.types y → lead.On x ≡ lead_in m c y
    unfolding lead_in
    lead_array e x q = rw (← p, e, ← q) refl

    pub lead_bound : h ≢ 8 → h ≡ 12 → (v : VarId) (b : Option·R TypeId) → v.0 ≡ number_at m c.types y → b ≡ view.bound_in m c v → (x : TypeId) → b ≡ Some x → lead.On x ≡ lead_in m c y
    unfolding lead_in view.bound_in
    lead_bound k e v b q r x t = rw (← p, ne_eqb h 8 k, e, ← q) (by (binding_at m c.vars v.0) (sym t ∙ r))
      where
        by : (o : Option ℕ) → Some x ≡ bound_code o → lead.On x ≡ lead_var v.0 o
        by none d = clash (cc)
        by (some r) d = ap (λ z. lead.On (view.type z)) (ap row_of d)

    pub lead_open : h ≢ 8 → h ≡ 12 → (v : VarId) (b : Option·R TypeId) → v.0 ≡ number_at m c.types y → b ≡ view.bound_in m c v → b ≡ None → lead.Open v ≡ lead_in m c y
    unfolding lead_in view.bound_in
    lead_open k e v b q r t = rw (← p, ne_eqb h 8 k, e, ← q) (by (binding_at m c.vars v.0) (sym t ∙ r))
      where
        by : (o : Option ℕ) → None ≡ bound_code o → lead.Open v ≡ lead_var v.0 o
        by none d = refl
        by (some r) d = clash (cc)

    pub lead_nowhere : h ≢ 8 → h ≢ 12 → lead.Nowhere ≡ lead_in m c y
    unfolding lead_in
    lead_nowhere k e = rw (← p, ne_eqb h 8 k, ne_eqb h 12 e) refl

-- of two ends, the one that is bound
pub bound_first : (m : List ℕ) (c : Counts) (v : VarId) (a b : ℕ) (r : Option·R TypeId) (x : ℕ) → v.0 ≡ a → r ≡ view.bound_in m c v → r ≡ Some (view.type x) → a ≡ bound_end m c a b
unfolding bound_end view.bound_in
bound_first m c v a b r x s e t = by (binding_at m c.vars a) (sym t ∙ e ∙ ap (λ i. bound_code (binding_at m c.vars i)) s)
  where
    by : (o : Option ℕ) → Some (view.type x) ≡ bound_code o → a ≡ if_bound o a b
    by none d = clash (cc)
    by (some r) d = refl

pub bound_second : (m : List ℕ) (c : Counts) (v : VarId) (a b : ℕ) (r : Option·R TypeId) → v.0 ≡ a → r ≡ view.bound_in m c v → r ≡ None → b ≡ bound_end m c a b
unfolding bound_end view.bound_in
bound_second m c v a b r s e t = by (binding_at m c.vars a) (sym t ∙ e ∙ ap (λ i. bound_code (binding_at m c.vars i)) s)
  where
    by : (o : Option ℕ) → None ≡ bound_code o → b ≡ if_bound o a b
    by none d = refl
    by (some r) d = clash (cc)

-- ── one equation more ──

-- what is no variable is not bound
past_open : (b : List (Option ℕ)) (v : ℕ) → length b ≤ v → bound b v ≡ none
past_open b v h = get_or-eq_default b none {n = v} h

if_number : (b : List (Option ℕ)) (e g : Option ℕ) → length b ≤ 65535 → if_bound (bound b (var_number e)) (var_number e) (var_number g) ≡ var_number (bound_one b e g)
if_number b none g h = rw (past_open b 65535 h) refl
if_number b (some v) g h = by (bound b v)
  where
    by : (o : Option ℕ) → if_bound o v (var_number g) ≡ var_number (cond (is_some o) (some v) g)
    by none = refl
    by (some r) = refl

bound_in_lem : (w : List ℕ) (c : Counts) (v : ℕ) → bound (mem_in w c).binds v ≡ binding_at w c.vars v
unfolding mem_of
bound_in_lem w c v = bound_at w c.vars v

few_vars : (w : List ℕ) (c : Counts) → c.vars ≤ most_vars → length (mem_in w c).binds ≤ 65535
unfolding mem_of
few_vars w c h = omega (arith, length_binds w c.vars)

module _ (m : List ℕ) (c : Counts) (i : ℕ) (x y a b : ℕ) (p : x ≡ (pair_in m c i).0) (q : y ≡ (pair_in m c i).1) (e : a ≡ open_end_in m c x) (g : b ≡ open_end_in m c y) (w : List ℕ) where
  pub push_bound : (v : ℕ) → AddedBy m c i w true → v ≡ bound_end w c a b → PushedBy m c i w (Some v)
  unfolding bound_end bound_by open_end_in
  push_bound v t d =
      record {
        by = λ h.
            let k = t.by h in
            let n = few_vars w c h.vars in
            (k, d ∙ ap (λ (o : Option ℕ). if_bound o a b) (sym (bound_in_lem w c a)) ∙ rw (e, g, p, q) (if_number (mem_in w c).binds (open_end (rows_in m c) (mem_in m c).binds (fuel (rows_in m c) (mem_in m c)) (pair_in m c i).0) (open_end (rows_in m c) (mem_in m c).binds (fuel (rows_in m c) (mem_in m c)) (pair_in m c i).1) n) ∙ ap (λ (z : Mem). var_number (bound_one z.binds (open_end (rows_in m c) (mem_in m c).binds (fuel (rows_in m c) (mem_in m c)) (pair_in m c i).0) (open_end (rows_in m c) (mem_in m c).binds (fuel (rows_in m c) (mem_in m c)) (pair_in m c i).1))) k.memory);
      }

  pub push_failed : AddedBy m c i w false → PushedBy m c i w None
  push_failed t = record { by = λ h. t.by h }

-- ── opened again ──

module _ (m : List ℕ) (c : Counts) (v : ℕ) where
  opened_binds : c.vars * 5 ≤ length m → binds_of (set m (v * 5 + 2) 0) c.vars ≡ set (binds_of m c.vars) v none
  unfolding binds_of binding_at
  opened_binds room =
      let n = c.vars in
      let w = set m (v * 5 + 2) 0 in
      tab_set (λ x. pick (eqb (var_cell m n x 2) 1) (some (var_cell m n x 3)) none) (λ x. pick (eqb (var_cell w n x 2) 1) (some (var_cell w n x 3)) none) n v none
      (λ x h q. rw (get_or-set_other m (v * 5 + 2) (x * 5 + 2) 0 0 (λ r. q (omega arith)), cell_other m v 2 0 (omega arith) n 3 (omega arith) (λ r. omega arith) x h) refl)
      (λ h. rw (lt-leb n v h, get_or-set_same m (v * 5 + 2) 0 0 (omega arith)) refl)

  opened_marks : marks_of (set m (v * 5 + 2) 0) c.vars ≡ marks_of m c.vars
  unfolding marks_of mark_at
  opened_marks = let n = c.vars in tab_ext (λ x. eqb (var_cell m n x 4) 1) (λ x. eqb (var_cell (set m (v * 5 + 2) 0) n x 4) 1) n (λ x h. rw (cell_other m v 2 0 (omega arith) n 4 (omega arith) (λ r. omega arith) x h) refl)

  pub opened_memory : Whole m c → mem_in (opened_in m c.vars v) c ≡ opened (some v) (mem_in m c)
  unfolding opened_in mem_of
  opened_memory h = by (dec_lt v c.vars)
    where
      by : Dec (v < c.vars) → mem_of (pick (ltb v c.vars) (set m (v * 5 + 2) 0) m) c.vars ≡ opened (some v) (mem_of m c.vars)
      by (yes l) = rw (lt-ltb v c.vars l, opened_binds (omega (arith, h.size, h.vars)), opened_marks) refl
      by (no l) = rw (le-ltb v c.vars (omega arith), set_open (binds_of m c.vars) v (past_open (binds_of m c.vars) v (omega (arith, length_binds m c.vars)))) refl

  pub opened_kept : Kept m c (opened_in m c.vars v)
  unfolding opened_in
  opened_kept = by (dec_lt v c.vars)
    where
      by : Dec (v < c.vars) → Kept m c (pick (ltb v c.vars) (set m (v * 5 + 2) 0) m)
      by (yes l) = rw (lt-ltb v c.vars l) (record { size = length-set m (v * 5 + 2) 0; same = λ i o. get_or-set_other m (v * 5 + 2) i 0 0 (o v 2 l (omega arith) (omega arith)) })
      by (no l) = rw (le-ltb v c.vars (omega arith)) (kept_self m c)

  pub opened_yes : (n : ℕ) (w : List ℕ) → v < n → w ≡ set m (v * 5 + 2) 0 → w ≡ opened_in m n v
  unfolding opened_in
  opened_yes n w l e = rw (lt-ltb v n l) e

  pub opened_no : (n : ℕ) → n ≤ v → m ≡ opened_in m n v
  unfolding opened_in
  opened_no n l = rw (le-ltb v n l) refl

-- ── free rows ──

shape_var : (h a o : ℕ) (i : List ℕ) (v : ℕ) → h < 15 → shape_of h a o i ≡ var v → h ≡ 12
shape_var h a o i v l = shape_cases h a o i l (λ s. s ≡ var v → h ≡ 12) (λ e p. clash (cc)) (λ e p. clash (cc)) (λ e p. clash (cc)) (λ e p. clash (cc)) (λ e p. clash (cc)) (λ e p. clash (cc)) (λ e p. clash (cc)) (λ e p. clash (cc)) (λ e p. clash (cc)) (λ e p. clash (cc)) (λ e p. clash (cc)) (λ e p. clash (cc)) (λ e p. e) (λ e p. clash (cc)) (λ e p. clash (cc))

shape_array : (h a o : ℕ) (i : List ℕ) (z : ℕ) → h < 15 → shape_of h a o i ≡ arr z → h ≡ 8
shape_array h a o i z l = shape_cases h a o i l (λ s. s ≡ arr z → h ≡ 8) (λ e p. clash (cc)) (λ e p. clash (cc)) (λ e p. clash (cc)) (λ e p. clash (cc)) (λ e p. clash (cc)) (λ e p. clash (cc)) (λ e p. clash (cc)) (λ e p. clash (cc)) (λ e p. e) (λ e p. clash (cc)) (λ e p. clash (cc)) (λ e p. clash (cc)) (λ e p. clash (cc)) (λ e p. clash (cc)) (λ e p. clash (cc))

module _ (m : List ℕ) (c : Counts) (y : ℕ) where
  -- the row's head and number
  abbrev its_head : ℕ
  its_head = head_at m c.types y

  -- its number
  abbrev its_number : ℕ
  its_number = number_at m c.types y

  row_is : row (rows_in m c) y ≡ shape_of its_head its_number (output_at m c.types y) (inputs_from m (first_at m c.types y) (count_at m c.types y))
  row_is = row_by m c.types y

  -- a row that leads to an open variable is that variable's
  open_is : (v : ℕ) → lead_in m c y ≡ lead.Open (view.variable v) → (row (rows_in m c) y ≡ var v) × (bound (mem_in m c).binds v ≡ none)
  unfolding lead_in shape_of
  open_is v e = by (eqb its_head 8) refl (eqb its_head 12) refl e
    where
      variable : (o : Option ℕ) → binding_at m c.vars its_number ≡ o → its_head ≡ 12 → lead_var its_number o ≡ lead.Open (view.variable v) → (row (rows_in m c) y ≡ var v) × (bound (mem_in m c).binds v ≡ none)
      variable (some r) b h d = clash (cc)
      variable none b h d = let s : some its_number ≡ some v = ap (by_lead (λ z. none)) d in let q : its_number ≡ v = cc in (row_is ∙ rw (h, q) refl, bound_in_lem m c v ∙ rw q at b)

      by : (p : Bool) → eqb its_head 8 ≡ p → (q : Bool) → eqb its_head 12 ≡ q → pick p (lead.On (view.type its_number)) (pick q (lead_var its_number (binding_at m c.vars its_number)) lead.Nowhere) ≡ lead.Open (view.variable v) → (row (rows_in m c) y ≡ var v) × (bound (mem_in m c).binds v ≡ none)
      by true i q j d = clash (cc)
      by false i true j d = variable (binding_at m c.vars its_number) refl (eqb-true its_head 12 j) d
      by false i false j d = clash (cc)

  -- a row that leads nowhere is neither a variable's nor an array
  nowhere_is : lead_in m c y ≡ lead.Nowhere → (its_head ≢ 8) × (its_head ≢ 12)
  unfolding lead_in
  nowhere_is e = (λ h. eight h, λ h. twelve h (binding_at m c.vars its_number) refl)
    where
      eight : its_head ≡ 8 → ⊥
      eight h = let d = rw h at e in clash (cc)

      twelve : its_head ≡ 12 → (o : Option ℕ) → binding_at m c.vars its_number ≡ o → ⊥
      twelve h none b = let d = rw (h, b) at e in clash (cc)
      twelve h (some r) b = let d = rw (h, b) at e in clash (cc)

  -- such a plain row is a base type
  base_is : lead_in m c y ≡ lead.Nowhere → Plain (rows_in m c) y → (b : Base) × (row (rows_in m c) y ≡ base b)
  base_is e (plain_base b p) = (b, p)
  base_is e (plain_var v p) = absurd ((nowhere_is e).1 (shape_var its_head its_number (output_at m c.types y) (inputs_from m (first_at m c.types y) (count_at m c.types y)) v (head_low m c.types y) (sym row_is ∙ p)))
  base_is e (plain_array z p k) = absurd ((nowhere_is e).0 (shape_array its_head its_number (output_at m c.types y) (inputs_from m (first_at m c.types y) (count_at m c.types y)) z (head_low m c.types y) (sym row_is ∙ p)))

-- the equation of free rows is met
free_met : (m : List ℕ) (c : Counts) (i : ℕ) → Unmarked (mem_in m c) → PlainPair (rows_in m c) (pair_in m c i) → free_in m c (pair_in m c i).0 (pair_in m c i).1 ≡ true → (added_in m c i).0 ≡ success
unfolding free_in
free_met m c i u p f = by (lead_in m c x) refl (lead_in m c y) refl f
  where
    x : ℕ
    x = (pair_in m c i).0

    y : ℕ
    y = (pair_in m c i).1

    got : lead_in m c y ≡ lead.Nowhere → Plain (rows_in m c) y ⊎ (row (rows_in m c) y ≡ div) → ((b : Base) × (row (rows_in m c) y ≡ base b)) ⊎ (row (rows_in m c) y ≡ div)
    got e (inl k) = inl (base_is m c y e k)
    got e (inr k) = inr k

    by : (l : Lead) → lead_in m c x ≡ l → (k : Lead) → lead_in m c y ≡ k → free_leads (kinds_in m c) l k ≡ true → (added_in m c i).0 ≡ success
    by (lead.On z) e k d t = clash (cc)
    by (lead.Open a) e (lead.On z) d t = clash (cc)
    by (lead.Open a) e (lead.Open b) d t = let q = open_is m c x a.0 e in let r = open_is m c y b.0 d in free_vars (rows_in m c) (kinds_in m c) (mem_in m c) u x y a.0 b.0 q.0 r.0 q.1 r.1 t
    by (lead.Open a) e lead.Nowhere d t = let q = open_is m c x a.0 e in free_expected (rows_in m c) (kinds_in m c) (mem_in m c) u x y a.0 q.0 q.1 t (got d p.1)
    by lead.Nowhere e (lead.On z) d t = clash (cc)
    by lead.Nowhere e (lead.Open b) d t = let r = open_is m c y b.0 d in let q = base_is m c x e p.0 in free_got (rows_in m c) (kinds_in m c) (mem_in m c) u x y b.0 q.0 q.1 r.0 r.1 t
    by lead.Nowhere e lead.Nowhere d t = clash (cc)

-- ── a stack of equations ──

module _ (m₀ : List ℕ) (c : Counts) (h : Whole m₀ c) where
  -- what is unified does not depend on bindings and marks
  same_unified : (m : List ℕ) → Kept m₀ c m → (i : ℕ) → added_in m c i ≡ added (rows_in m₀ c) (kinds_in m₀ c) (pair_in m₀ c) (mem_in m c) i
  same_unified m k i = rw (rows_on m₀ c m k h, kinds_on m₀ c m k h, pairs_on m₀ c m k h) refl

  same_bound : (m : List ℕ) → Kept m₀ c m → (i : ℕ) → bound_by (rows_in m c) (kinds_in m c) (pair_in m c) (mem_in m c) i ≡ bound_by (rows_in m₀ c) (kinds_in m₀ c) (pair_in m₀ c) (mem_in m c) i
  same_bound m k i = rw (rows_on m₀ c m k h, kinds_on m₀ c m k h, pairs_on m₀ c m k h) refl

  opened_number : (m : Mem) (o : Option ℕ) → length m.binds ≤ 65535 → opened (some (var_number o)) m ≡ opened o m
  opened_number m none l = rw (set_open m.binds 65535 (past_open m.binds 65535 l)) refl
  opened_number m (some v) l = refl

  module _ (s t : List ℕ) (j : ℕ) (m : List ℕ) (x : Stacked m₀ c s t j m) (q : ℕ) (e : q ≡ cell s j) (w : List ℕ) where
    -- the numbers with one more
    list_next : list_in s (suc j) ≡ list_in s j ++ q ∷ []
    list_next = let z : 0 + j ≡ j = omega arith in rw (cells_last s 0 j, z, e) refl

    -- what comes of it
    abbrev on_top : Res
    on_top = added (rows_in m₀ c) (kinds_in m₀ c) (pair_in m₀ c) (unified_in m₀ c (list_in s j)).1 q

    next-is : unified_in m₀ c (list_in s (suc j)) ≡ on_top
    next-is = ap (unified_in m₀ c) list_next ∙ unified_last (rows_in m₀ c) (kinds_in m₀ c) (pair_in m₀ c) (list_in s j) q (x.solved j (omega arith))

    told_is : (r : Bool) → Told m c w r (added_in m c q) → (r ≡ is_success on_top.0) × (mem_in w c ≡ on_top.1)
    told_is r k = let z : added_in m c q ≡ on_top = same_unified m x.kept q ∙ ap (λ u. added (rows_in m₀ c) (kinds_in m₀ c) (pair_in m₀ c) u q) x.memory in (k.answer ∙ ap (λ (u : Res). is_success u.0) z, k.memory ∙ ap (λ (u : Res). u.1) z)

    ok_next : (r : Bool) → Told m c w r (added_in m c q) → ok_in m₀ c (list_in s (suc j)) ≡ r
    unfolding ok
    ok_next r k = ap (λ (u : Res). is_success u.0) next-is ∙ sym (told_is r k).0

    ok_top : is_success on_top.0 ≡ true → ok_in m₀ c (list_in s (suc j)) ≡ true
    unfolding ok
    ok_top k = ap (λ (u : Res). is_success u.0) next-is ∙ k

    kept_next : (r : Bool) → Told m c w r (added_in m c q) → Kept m₀ c w
    kept_next r k = kept_on m₀ c m w x.kept k.kept

    module _ (plain : PlainPlaces m₀ c s (suc j)) where
      -- the equation of a number in one of these places
      abbrev Placed : ℕ → Type 0
      Placed i = PlainPair (rows_in m₀ c) (pair_in m₀ c i)

      cells_all : (P : ℕ → Type 0) (i n : ℕ) → ((k : ℕ) → i ≤ k → k < i + n → P (cell s k)) → All P (cells_from s i n)
      unfolding cells_from
      cells_all P i zero f = tt
      cells_all P i (suc n) f = (f i (omega arith) (omega arith), cells_all P (suc i) n (λ k a b. f k (omega arith) (omega arith)))

      placed : All Placed (list_in s j)
      placed = cells_all Placed 0 j (λ k a b. plain k (omega arith))

      back_next : Told m c w true (added_in m c q) → (v : ℕ) → v ≡ var_number (bound_by (rows_in m c) (kinds_in m c) (pair_in m c) (mem_in m c) q) → opened (some v) (unified_in m₀ c (list_in s (suc j))).1 ≡ (unified_in m₀ c (list_in s j)).1
      back_next k v d =
          let u = (unified_in m₀ c (list_in s j)).1 in
          let y = unified_plain (rows_in m₀ c) (kinds_in m₀ c) (pair_in m₀ c) Placed (λ i p. p) (list_in s j) placed (x.solved j (omega arith)) in
          let o = bound_by (rows_in m₀ c) (kinds_in m₀ c) (pair_in m₀ c) u q in
          let g : v ≡ var_number o = d ∙ ap var_number (same_bound m x.kept q ∙ ap (λ z. bound_by (rows_in m₀ c) (kinds_in m₀ c) (pair_in m₀ c) z q) x.memory) in
          let b = added_back (rows_in m₀ c) (kinds_in m₀ c) (pair_in m₀ c) Placed (λ i p. p) u q y.0 y.1 (rw e (plain j (omega arith))) (sym (told_is true k).0) in
          rw (next-is, g) (opened_number on_top.1 o (rw (← (told_is true k).1) (few_vars w c h.vars)) ∙ b)

      -- one more is solved
      pub stacked_next : (u : List ℕ) → j < length t → (v : ℕ) → u ≡ set t j v → PushedIs m c q w (Some v) → Stacked m₀ c s u (j + 1) w
      stacked_next u l v f k =
          let z : j + 1 ≡ suc j = omega arith in
          rw z (record {
            kept = kept_next true k.0;
            memory = (told_is true k.0).1 ∙ ap (λ (r : Res). r.1) (sym next-is);
            solved = λ i a. old i (dec_lt i (suc j)) a;
            back = λ i a. mine i (ℕ_discrete i j) a;
          })
        where
          old : (i : ℕ) → Dec (i < suc j) → i ≤ suc j → ok_in m₀ c (list_in s i) ≡ true
          old i (yes a) b = x.solved i (omega arith)
          old i (no a) b = let z : i ≡ suc j = omega arith in rw z (ok_next true k.0)

          mine : (i : ℕ) → Dec (i ≡ j) → i < suc j → opened (some (cell u i)) (unified_in m₀ c (list_in s (suc i))).1 ≡ (unified_in m₀ c (list_in s i)).1
          mine i (yes z) b = rw (z, f, get_or-set_same t j v 0 l) (back_next k.0 v k.1)
          mine i (no z) b = rw (f, get_or-set_other t j i v 0 z) (x.back i (omega arith))

      -- the equation is tested and taken back
      pub tested_back : (v : ℕ) (w' : List ℕ) → w' ≡ opened_in w c.vars v → PushedIs m c q w (Some v) → LastTo true m₀ c s t j w'
      tested_back v w' f k = (
        record {
          kept = kept_on m₀ c w w' (kept_next true k.0) (rw f (opened_kept w c v));
          memory = rw f (opened_memory w c v (whole_on m₀ c w (kept_next true k.0) h)) ∙ ap (opened (some v)) ((told_is true k.0).1 ∙ ap (λ (r : Res). r.1) (sym next-is)) ∙ back_next k.0 v k.1;
          solved = x.solved;
          back = x.back;
        },
        ok_next true k.0,
      )

      -- it is met for certain
      pub tested_free : free_in m c (pair_in m c q).0 (pair_in m c q).1 ≡ true → LastTo true m₀ c s t j m
      tested_free f = (x, ok_free)
        where
          y : PlainBinds (rows_in m₀ c) (kinds_in m₀ c) (unified_in m₀ c (list_in s j)).1.binds × Unmarked (unified_in m₀ c (list_in s j)).1
          y = unified_plain (rows_in m₀ c) (kinds_in m₀ c) (pair_in m₀ c) Placed (λ i p. p) (list_in s j) placed (x.solved j (omega arith))

          pairs : pair_in m c q ≡ pair_in m₀ c q
          pairs = ap (λ (g : ℕ → Pair). g q) (pairs_on m₀ c m x.kept h)

          met : (added_in m c q).0 ≡ success
          met = free_met m c q (rw x.memory y.1) (rw (rows_on m₀ c m x.kept h, pairs, e) (plain j (omega arith))) f

          ok_free : ok_in m₀ c (list_in s (suc j)) ≡ true
          ok_free = ok_yes_of (same_unified m x.kept q ∙ ap (λ u. added (rows_in m₀ c) (kinds_in m₀ c) (pair_in m₀ c) u q) x.memory) met
            where
              ok_yes_of : added_in m c q ≡ on_top → (added_in m c q).0 ≡ success → ok_in m₀ c (list_in s (suc j)) ≡ true
              ok_yes_of z k = ok_top (ap (λ (r : Res). is_success r.0) (sym z) ∙ ap is_success k)

    -- one more has no solution
    pub stacked_failed : PushedIs m c q w None → Kept m₀ c w × (ok_in m₀ c (list_in s (suc j)) ≡ false)
    stacked_failed k = (kept_next false k, ok_next false k)

-- ── pushed ──

module _ (m₀ : List ℕ) (c : Counts) (s : List ℕ) where
  ok_longer : (d i : ℕ) → ok_in m₀ c (list_in s i) ≡ false → ok_in m₀ c (list_in s (i + d)) ≡ false
  ok_longer zero i e = let z : i + 0 ≡ i = omega arith in rw z e
  ok_longer (suc d) i e = let z : i + suc d ≡ suc (i + d) = omega arith in rw (z, cells_last s 0 (i + d)) (ok_stays (rows_in m₀ c) (kinds_in m₀ c) (pair_in m₀ c) (list_in s (i + d)) (cell s (0 + (i + d))) (ok_longer d i e))

module _ (me : List ℕ) (c : Counts) (s t₀ : List ℕ) (j k : ℕ) where
  -- those of the places before i
  abbrev pub Pushes : List ℕ → List ℕ → ℕ → Type 0
  Pushes m t i = (m₀ : List ℕ) → Whole m₀ c → PlainPlaces m₀ c s k → k ≤ length t₀ → j ≤ k → Stacked m₀ c s t₀ j me → Stacked m₀ c s t i m

  pub pushes_start : Pushes me t₀ j
  pushes_start m₀ h p l a x = x

  module _ (m t : List ℕ) (i q : ℕ) (size : length t ≡ length t₀) (less : i < k) (e : q ≡ cell s i) (g : Pushes m t i) (w : List ℕ) where
    pub pushes_on : (v : ℕ) (u : List ℕ) → u ≡ set t i v → PushedBy m c q w (Some v) → Pushes w u (i + 1)
    pushes_on v u f b m₀ h p l a x =
        let y = g m₀ h p l a x in
        stacked_next m₀ c h s t i m y q e w (λ n d. p n (omega arith)) u (omega arith) v f (b.by (whole_on m₀ c m y.kept h))

    pub pushes_stop : PushedBy m c q w None → PushedFrom me c s t₀ j k w t false
    pushes_stop b =
        record {
          size = size;
          by = λ m₀ h p l a x.
              let y = g m₀ h p l a x in
              let f = stacked_failed m₀ c h s t i m y q e w (b.by (whole_on m₀ c m y.kept h)) in
              let z : suc i + (k - suc i) ≡ k = omega arith in
              (f.0, rw z at (ok_longer m₀ c s (k - suc i) (suc i) f.1));
        }

  pub pushes_end : (m t : List ℕ) (i : ℕ) → length t ≡ length t₀ → (j ≤ k → i ≤ k) → k ≤ i → Pushes m t i → PushedFrom me c s t₀ j k m t true
  pushes_end m t i size most l g = record { size = size; by = λ m₀ h p d a x. let z : i ≡ k = let n = most a in omega arith in rw z at (g m₀ h p d a x) }

-- ── tested ──

module _ (m : List ℕ) (c : Counts) (i : ℕ) where
  pub last_free : (x y : ℕ) → x ≡ (pair_in m c i).0 → y ≡ (pair_in m c i).1 → true ≡ free_in m c x y → LastTested m c i m true
  last_free x y p q f = record { by = λ m₀ s t j h d e k. tested_free m₀ c h s t j m k i e m d (rw (← p, ← q) (sym f)) }

  pub last_bound : (v : ℕ) (w w' : List ℕ) → PushedBy m c i w (Some v) → w' ≡ opened_in w c.vars v → LastTested m c i w' true
  last_bound v w w' b f = record { by = λ m₀ s t j h d e k. tested_back m₀ c h s t j m k i e w d v w' f (b.by (whole_on m₀ c m k.kept h)) }

  pub last_failed : (w : List ℕ) → PushedBy m c i w None → LastTested m c i w false
  last_failed w b = record { by = λ m₀ s t j h d e k. stacked_failed m₀ c h s t j m k i e w (b.by (whole_on m₀ c m k.kept h)) }

module _ (m : List ℕ) (c : Counts) (s t : List ℕ) (j k : ℕ) (pos : 0 < k) (w u : List ℕ) where
  pub set_last : (q : ℕ) (w' : List ℕ) (r : Bool) → PushedFrom m c s t j (k - 1) w u true → q ≡ cell s (k - 1) → LastTested w c q w' r → SetTested m c s t j k w' u r
  set_last q w' r p e l = record { size = p.size; by = λ m₀ h d a b x. by r m₀ (l.by m₀ s u (k - 1) h (λ i f. d i (omega arith)) e (p.by m₀ h (λ i f. d i (omega arith)) (omega arith) b x)) }
    where
      by : (r : Bool) (m₀ : List ℕ) → LastTo r m₀ c s u (k - 1) w' → SetTo r m₀ c s u k w'
      by true m₀ y = let z : suc (k - 1) ≡ k = omega arith in (y.0, rw z at y.1)
      by false m₀ y = let z : suc (k - 1) ≡ k = omega arith in (y.0, rw z at y.1)

  pub set_failed : PushedFrom m c s t j (k - 1) w u false → SetTested m c s t j k w u false
  set_failed p = record { size = p.size; by = λ m₀ h d a b x. let y = p.by m₀ h (λ i f. d i (omega arith)) (omega arith) b x in let z : k - 1 + 1 ≡ k = omega arith in (y.0, rw z at (ok_longer m₀ c s 1 (k - 1) y.1)) }

-- ── popped ──

module _ (me : List ℕ) (c : Counts) (t : List ℕ) (p k : ℕ) where
  -- those of the places from i on are taken back
  abbrev pub Pops : List ℕ → ℕ → Type 0
  Pops m i = (m₀ s : List ℕ) → Whole m₀ c → p ≤ k → Stacked m₀ c s t k me → Stacked m₀ c s t i m

  pub pops_start : Pops me k
  pops_start m₀ s h a x = x

  pub pops_on : (m : List ℕ) (i j v : ℕ) (w : List ℕ) → p < i → j ≡ i - 1 → v ≡ cell t j → w ≡ opened_in m c.vars v → Pops m i → Pops w j
  pops_on m i j v w l e f d g m₀ s h a x =
      let y = g m₀ s h a x in
      let z : i ≡ suc j = omega arith in
      let u = rw z at y.memory in
      record {
        kept = kept_on m₀ c m w y.kept (rw d (opened_kept m c v));
        memory = rw d (opened_memory m c v (whole_on m₀ c m y.kept h)) ∙ ap (opened (some v)) u ∙ rw f (y.back j (omega arith));
        solved = λ n b. y.solved n (omega arith);
        back = λ n b. y.back n (omega arith);
      }

  pub pops_end : (m : List ℕ) (i : ℕ) → (p ≤ k → p ≤ i) → i ≤ p → Pops m i → PoppedBy me c t p k m
  pops_end m i least l g = record { by = λ m₀ s h a x. let z : i ≡ p = let n = least a in omega arith in rw z at (g m₀ s h a x) }

-- ── the next set ──

-- the last of numbers that follow one another
from_last : (a n : ℕ) → from a (suc n) ≡ from a n ++ (a + n) ∷ []
unfolding from
from_last a zero = let z : a + 0 ≡ a = omega arith in rw z refl
from_last a (suc n) = let z : a + suc n ≡ suc a + n = omega arith in rw z (ap (λ l. a ∷ l) (from_last (suc a) n))

module _ (s₀ : List ℕ) (p k f : ℕ) where
  -- after those below i
  abbrev pub Follows : List ℕ → ℕ → Type 0
  Follows s i = ((n : ℕ) → n < p → cell s n ≡ cell s₀ n) × (k ≤ length s₀ → list_in s i ≡ list_in s₀ p ++ from f (i - p))

  pub follows_start : Follows s₀ p
  unfolding from
  follows_start = (λ n l. refl, λ h. let d : p - p ≡ 0 = omega arith in rw d (sym (append-nil (list_in s₀ p))))

  pub follows_on : (s t : List ℕ) (i x : ℕ) → length s ≡ length s₀ → p ≤ i → i < k → x ≡ f + (i - p) → t ≡ set s i x → Follows s i → Follows t (i + 1)
  follows_on s t i x l a b e d g =
      let z : i + 1 - p ≡ suc (i - p) = omega arith in (
        λ n q. rw d (get_or-set_other s i n x 0 (λ r. omega arith)) ∙ g.0 n q,
        λ h. rw (list_last s t i x (omega arith) d, g.1 h, z, from_last f (i - p), e) (append_assoc (list_in s₀ p) (from f (i - p)) ((f + (i - p)) ∷ [])),
      )

  pub follows_end : (s : List ℕ) (i : ℕ) → length s ≡ length s₀ → i ≤ k → k ≤ i → Follows s i → FollowedBy s₀ p k f s
  follows_end s i l a b g = record { size = l; before = g.0; by = λ h. let e : i ≡ k = omega arith in rw e at (g.1 h) }

next-front : (n : ℕ) (xs c d : List ℕ) → next n c ≡ some d → next n (xs ++ c) ≡ some (xs ++ d)
unfolding next
next-front n [] c d e = e
next-front n (x ∷ xs) c d e = rw (next-front n xs c d e) refl

cells_both : (s : List ℕ) (i a b n j : ℕ) → n ≡ a + b → j ≡ i + a → cells_from s i n ≡ cells_from s i a ++ cells_from s j b
unfolding cells_from
cells_both s i zero b n j e d = let x : n ≡ b = omega arith in let y : j ≡ i = omega arith in rw (x, y) refl
cells_both s i (suc a) b zero j e d = absurd (omega arith)
cells_both s i (suc a) b (suc n) j e d = ap (λ l. cell s i ∷ l) (cells_both s (suc i) a b n j (omega arith) (omega arith))

-- as many numbers as places
pub cells_length : (s : List ℕ) (i n : ℕ) → length (cells_from s i n) ≡ n
unfolding cells_from
cells_length s i zero = refl
cells_length s i (suc n) = ap suc (cells_length s (suc i) n)

module _ (s : List ℕ) (k n : ℕ) where
  -- those from p on cannot be raised
  abbrev pub Last : ℕ → Type 0
  Last p = next n (cells_from s p (k - p)) ≡ none

  pub last_start : Last k
  unfolding next cells_from
  last_start = let d : k - k ≡ 0 = omega arith in rw d refl

  module _ (p q x : ℕ) (e : q ≡ p - 1) (z : 0 < p) (h : p ≤ k) (r : x ≡ cell s q) (l : Last p) where
    at_q : next n (cells_from s q (k - q)) ≡ cond (ltb (suc x + (k - p)) n) (some (from (suc x) (suc (k - p)))) none
    unfolding next cells_from
    at_q =
        let d : k - q ≡ suc (k - p) = omega arith in
        let y : suc q ≡ p = omega arith in
        rw (d, y, l, ← r, cells_length s p (k - p)) refl

    pub last_on : n < x + (k - q) + 1 → Last q
    last_on g = at_q ∙ rw (le-ltb (suc x + (k - p)) n (omega arith)) refl

    pub advance_found : (t : List ℕ) (f : ℕ) → x + (k - q) + 1 ≤ n → f ≡ x + 1 → FollowedBy s q k f t → AdvancedBy s k n t (Some q)
    advance_found t f g i w =
        record {
          size = w.size;
          within = omega arith;
          by = λ m.
              let a : next n (cells_from s q (k - q)) ≡ some (from (suc x) (suc (k - p))) = rw (lt-ltb (suc x + (k - p)) n (omega arith)) at at_q in
              let b = next-front n (list_in s q) (cells_from s q (k - q)) (from (suc x) (suc (k - p))) a in
              let j : f ≡ suc x = omega arith in
              let o : k - q ≡ suc (k - p) = omega arith in
              let y = rw (j, o) at (w.by m) in
              (w.before, rw (cells_both s 0 q (k - q) k q (omega arith) (omega arith), y) b);
        }

  pub advance_none : (p : ℕ) → p ≤ 0 → Last p → AdvancedBy s k n s None
  advance_none p z l = record { size = refl; within = tt; by = λ m. let y : p ≡ 0 = omega arith in let d : k - p ≡ k = omega arith in (refl, rw (d, y) at l) }

-- ── subset by subset ──

cells_alike : (s t : List ℕ) (i n : ℕ) → ((k : ℕ) → i ≤ k → k < i + n → cell t k ≡ cell s k) → cells_from t i n ≡ cells_from s i n
unfolding cells_from
cells_alike s t i zero f = refl
cells_alike s t i (suc n) f = rw (f i (omega arith) (omega arith), cells_alike s t (suc i) n (λ k a b. f k (omega arith) (omega arith))) refl

cells_each : (P : ℕ → Type 0) (s : List ℕ) (i n : ℕ) → All P (cells_from s i n) → (k : ℕ) → i ≤ k → k < i + n → P (cell s k)
unfolding cells_from
cells_each P s i zero h k a b = absurd (omega arith)
cells_each P s i (suc n) h k a b = by (ℕ_discrete k i) (cells_each P s (suc i) n h.1 k)
  where
    by : Dec (k ≡ i) → (suc i ≤ k → k < suc i + n → P (cell s k)) → P (cell s k)
    by (yes e) f = rw e h.0
    by (no e) f = f (omega arith) (omega arith)

cells_every : (P : ℕ → Type 0) (s : List ℕ) (i n : ℕ) → ((k : ℕ) → i ≤ k → k < i + n → P (cell s k)) → All P (cells_from s i n)
unfolding cells_from
cells_every P s i zero f = tt
cells_every P s i (suc n) f = (f i (omega arith) (omega arith), cells_every P s (suc i) n (λ k a b. f k (omega arith) (omega arith)))

-- a set that is the same before p
restacked : (m₀ : List ℕ) (c : Counts) (s s' t : List ℕ) (p : ℕ) (m : List ℕ) → ((i : ℕ) → i < p → cell s' i ≡ cell s i) → Stacked m₀ c s t p m → Stacked m₀ c s' t p m
restacked m₀ c s s' t p m f x =
    record {
      kept = x.kept;
      memory = rw (list p (omega arith)) x.memory;
      solved = λ i a. rw (list i a) (x.solved i a);
      back = λ i a. rw (list (suc i) (omega arith), list i (omega arith)) (x.back i a);
    }
  where
    list : (i : ℕ) → i ≤ p → list_in s' i ≡ list_in s i
    list i a = cells_alike s s' 0 i (λ k b d. f k (omega arith))

module _ (me : List ℕ) (c : Counts) (s₀ t₀ : List ℕ) (k n b : ℕ) where
  -- so many may still be tested, and those before j are solved
  abbrev pub Tries : List ℕ → List ℕ → List ℕ → ℕ → ℕ → Type 0
  Tries m s t left j = (m₀ : List ℕ) → Whole m₀ c → PlainTo m₀ c n → k ≤ length s₀ → k ≤ length t₀ → NumbersBelow s₀ k n → Stacked m₀ c s₀ t₀ 0 me
      → Stacked m₀ c s t j m × NumbersBelow s k n × (tries_in (ok_in m₀ c) n left (list_in s k) ≡ tries_in (ok_in m₀ c) n b (list_in s₀ k))

  pub tries_start : Tries me s₀ t₀ b 0
  tries_start m₀ h p l d a x = (x, a, refl)

  module _ (m s t : List ℕ) (left j : ℕ) (size : length s ≡ length s₀) (room : length t ≡ length t₀) (g : Tries m s t left j) where
    pub tries_out : left ≡ 0 → TriedBy me c s₀ t₀ k n b m s t tried.Out
    unfolding tries_in
    tries_out z = record { size = size; room = room; by = λ m₀ h p l d a x. let y = g m₀ h p l d a x in (y.0.kept, rw z at y.2) }

    module _ (rest : ℕ) (w u : List ℕ) (z : left ≢ 0) (e : rest ≡ left - 1) (most : j ≤ k - 1) (r : Bool) (q : SetTested m c s t j k w u r) where
      module _ (m₀ : List ℕ) (h : Whole m₀ c) (p : PlainTo m₀ c n) (l : k ≤ length s₀) (d : k ≤ length t₀) (a : NumbersBelow s₀ k n) (x : Stacked m₀ c s₀ t₀ 0 me) where
        tested_is : SetTo r m₀ c s u k w
        tested_is = let y = g m₀ h p l d a x in q.by m₀ h (λ i f. p (cell s i) (y.1 i f)) (omega arith) most y.0

        tries_is : (o : Bool) → ok_in m₀ c (list_in s k) ≡ o → tested o (list_in s k) (on_next (tries_in (ok_in m₀ c) n rest) rest (next n (list_in s k))) ≡ tries_in (ok_in m₀ c) n b (list_in s₀ k)
        unfolding tries_in
        tries_is o f = let y = g m₀ h p l d a x in let v : left ≡ suc rest = omega arith in rw (v, f) at y.2

      sized : length u ≡ length t₀
      sized = q.size ∙ room

    pub tries_found : (rest : ℕ) (w u : List ℕ) → left ≢ 0 → rest ≡ left - 1 → j ≤ k - 1 → SetTested m c s t j k w u false → TriedBy me c s₀ t₀ k n b w s u tried.Found
    tries_found rest w u z e most q = record { size = size; room = sized rest w u z e most false q; by = λ m₀ h p l d a x. let y = tested_is rest w u z e most false q m₀ h p l d a x in (y.0, tries_is rest w u z e most false q m₀ h p l d a x false y.1) }

    module _ (rest : ℕ) (w u : List ℕ) (z : left ≢ 0) (e : rest ≡ left - 1) (most : j ≤ k - 1) (q : SetTested m c s t j k w u true) (s' : List ℕ) where
      pub tries_through : AdvancedBy s k n s' None → TriedBy me c s₀ t₀ k n b w s' u (tried.Through rest)
      tries_through v =
          record {
            size = v.size ∙ size;
            room = sized rest w u z e most true q;
            by = λ m₀ h p l d a x.
                let y = tested_is rest w u z e most true q m₀ h p l d a x in
                let f = v.by (omega arith) in
                (y.0.kept, rw f.1 at (tries_is rest w u z e most true q m₀ h p l d a x true y.1));
          }

      pub tries_on : (i : ℕ) (w' : List ℕ) → AdvancedBy s k n s' (Some i) → PoppedBy w c u i (k - 1) w' → Tries w' s' u rest i
      tries_on i w' v o m₀ h p l d a x =
          let y = tested_is rest w u z e most true q m₀ h p l d a x in
          let f = v.by (omega arith) in
          let below = (g m₀ h p l d a x).1 in (
            restacked m₀ c s s' u i w' f.0 (o.by m₀ s h (omega (arith, v.within)) y.0),
            (λ j b. cells_each (λ x. x < n) s' 0 k (next_below n (list_in s k) (list_in s' k) f.1 (cells_every (λ x. x < n) s 0 k (λ j b d. below j (omega arith)))) j (omega arith) (omega arith)),
            rw f.1 at (tries_is rest w u z e most true q m₀ h p l d a x true y.1),
          )

-- from the first set, with nothing bound
pub first_law : (m : List ℕ) (c : Counts) (s t : List ℕ) (k n b : ℕ) (s₁ m₁ w u v : List ℕ) (r : Tried) → FollowedBy s 0 k 0 s₁ → m₁ ≡ reopened m c.vars → TriedBy m₁ c s₁ t k n b w u v r → FirstTriedBy m c s t k n b w u v r
unfolding cells_from ok unified solves
first_law m c s t k n b s₁ m₁ w u v r f e a =
    record {
      size = a.size ∙ f.size;
      room = a.room;
      by = λ h p l d g.
          let z : k - 0 ≡ k = omega arith in
          let y = rw z at (f.by l) in
          let x = a.by m h p (omega (arith, f.size)) d (λ i q. cells_each (λ x. x < n) s₁ 0 k (rw y (from_below 0 k n (omega arith))) i (omega arith) (omega arith)) (record {
            kept = rw e (reopened_kept m c c.vars (omega arith));
            memory = ap (λ z. mem_of z c.vars) e ∙ reopened_mem m c.vars ∙ ap blank (sym (kinds_count m c));
            solved = λ i q. let z : i ≡ 0 = omega arith in rw z refl;
            back = λ i q. absurd (omega arith);
          }) in
          (x.0, rw y at x.1);
    }

-- ── sizes ──

module _ (m₀ : List ℕ) (c : Counts) (h : Whole m₀ c) (m : List ℕ) (k : Kept m₀ c m) where
  -- the test does not depend on bindings and marks
  pub ok_on : ok_in m c ≡ ok_in m₀ c
  ok_on = rw (rows_on m₀ c m k h, kinds_on m₀ c m k h, pairs_on m₀ c m k h) refl

  -- nor do the sides
  pub plain_on : (n : ℕ) → PlainTo m₀ c n → PlainTo m c n
  plain_on n p = rw (rows_on m₀ c m k h, pairs_on m₀ c m k h) p

module _ (m₀ : List ℕ) (c : Counts) (s₀ t₀ : List ℕ) (most n b : ℕ) where
  -- from the size k on
  abbrev pub Searches : List ℕ → ℕ → ℕ → Type 0
  Searches m k left = Whole m₀ c → PlainTo m₀ c n → most ≤ length s₀ → most ≤ length t₀ → most ≤ n → Kept m₀ c m × ((f : List ℕ) → search_in (ok_in m₀ c) n k (most - k) left f ≡ search_in (ok_in m₀ c) n 1 (most - 1) b f)

  pub searches_start : Searches m₀ 1 b
  searches_start h p l d a = (kept_self m₀ c, λ f. refl)

  pub searches_end : (m s t : List ℕ) (k left : ℕ) (r : Searched) → most ≤ k → r.found ≡ false → r.below ≡ k → Searches m k left → SearchedBy m₀ c s₀ t₀ most n b m s t r
  unfolding search_in
  searches_end m s t k left r a p q g = record { by = λ h o l d i. let x = g h o l d i in let z : most - k ≡ 0 = omega arith in (x.0, λ f. rw (p, q) (rw z at (x.1 f))) }

  module _ (m s t : List ℕ) (k left : ℕ) (w u v : List ℕ) (e : length s ≡ length s₀) (z : length t ≡ length t₀) (less : k < most) (g : Searches m k left) where
    module _ (h : Whole m₀ c) (p : PlainTo m₀ c n) (l : most ≤ length s₀) (d : most ≤ length t₀) (i : most ≤ n) (o : Tried) (a : FirstTriedBy m c s t k n left w u v o) where
      -- so far
      kept : Kept m₀ c m
      kept = (g h p l d i).0

      tried_is : Kept m c w × (outcome_of o (list_in u k) ≡ tries_in (ok_in m c) n left (from 0 k))
      tried_is = a.by (whole_on m₀ c m kept h) (plain_on m₀ c h m kept n p) (omega arith) (omega arith) (omega arith)

      w_to : Kept m₀ c w
      w_to = kept_on m₀ c m w kept tried_is.0

      search_is : (f : List ℕ) → onward_to (ok_in m₀ c) (λ j. search_in (ok_in m₀ c) n (suc k) (most - (k + 1)) j f) k f (outcome_of o (list_in u k)) ≡ search_in (ok_in m₀ c) n 1 (most - 1) b f
      unfolding search_in
      search_is f =
          let x : most - k ≡ suc (most - (k + 1)) = omega arith in
          let y : outcome_of o (list_in u k) ≡ tries_in (ok_in m₀ c) n left (from 0 k) = tried_is.1 ∙ ap (λ (q : List ℕ → Bool). tries_in q n left (from 0 k)) (ok_on m₀ c h m kept) in
          rw y (rw x at ((g h p l d i).1 f))

    pub searches_found : (r : Searched) → FirstTriedBy m c s t k n left w u v tried.Found → r.found ≡ true → r.below ≡ k → SearchedBy m₀ c s₀ t₀ most n b w u v r
    searches_found r a p q = record { by = λ h o l d i. (w_to h o l d i tried.Found a, λ f. rw (p, q) (search_is h o l d i tried.Found a f)) }

    pub searches_out : (r : Searched) → FirstTriedBy m c s t k n left w u v tried.Out → r.found ≡ false → r.below ≡ k → SearchedBy m₀ c s₀ t₀ most n b w u v r
    searches_out r a p q = record { by = λ h o l d i. (w_to h o l d i tried.Out a, λ f. rw (p, q) (search_is h o l d i tried.Out a f)) }

    pub searches_on : (j : ℕ) → FirstTriedBy m c s t k n left w u v (tried.Through j) → Searches w (k + 1) j
    searches_on j a h o l d i = let x : suc k ≡ k + 1 = omega arith in (w_to h o l d i (tried.Through j) a, λ f. rw x at (search_is h o l d i (tried.Through j) a f))

all_each : (f : ℕ → Bool) (i n : ℕ) → all_from f i n ≡ true → (k : ℕ) → i ≤ k → k < i + n → f k ≡ true
unfolding all_from
all_each f i zero e k a b = absurd (omega arith)
all_each f i (suc n) e k a b = by (ℕ_discrete k i) (all_each f (suc i) n (and_both (f i) (all_from f (suc i) n) e).1 k)
  where
    by : Dec (k ≡ i) → (suc i ≤ k → k < suc i + n → f k ≡ true) → f k ≡ true
    by (yes z) g = rw z (and_both (f i) (all_from f (suc i) n) e).0
    by (no z) g = g (omega arith) (omega arith)

-- equations that pass the test of plain sides have them
pub plain_each : (m : List ℕ) (c : Counts) (n : ℕ) → plain_to m c n ≡ true → PlainTo m c n
unfolding plain_to
plain_each m c n e i l = sides_plain (rows_in m c) (pair_in m c i) (all_each (λ i. are_plain (rows_in m c) (pair_in m c i)) 0 n e i (omega arith) (omega arith))

-- ── kinds, and free rows as the code finds them ──

kind_code_lem : (k : ℕ) → kind_k (view.kind_code k) ≡ kind_of k
unfolding view.kind_code
kind_code_lem k = by (eqb k 1) (eqb k 2)
  where
    by : (p q : Bool) → kind_k (pick p kinds.Integer (pick q kinds.Float kinds.Regular)) ≡ pick p integer (pick q floating regular)
    by true q = refl
    by false true = refl
    by false false = refl

kind_in_lem : (m : List ℕ) (c : Counts) (v : VarId) → kind_k (view.kind_in m c v) ≡ kind (kinds_in m c) v.0
unfolding view.kind_in kind_at
kind_in_lem m c v = kind_code_lem (var_cell m c.vars v.0 0) ∙ sym (kind_at_lem m c.vars v.0)

pub regular_law : (m : List ℕ) (c : Counts) (v : VarId) (k l : Kind-as-C) (r : Bool) → k ≡ view.kind_in m c v → k ≡ l → r ≡ is_regular (kind_k l) → r ≡ is_regular (kind (kinds_in m c) v.0)
regular_law m c v k l r e d t = t ∙ ap (λ z. is_regular (kind_k z)) (sym d ∙ e) ∙ ap is_regular (kind_in_lem m c v)

pub meet_same : (m : List ℕ) (c : Counts) (a b : ℕ) → a ≡ b → false ≡ can_meet (kinds_in m c) a b
meet_same m c a b e = rw (eq-eqb a b e) refl

pub meet_law : (m : List ℕ) (c : Counts) (v w : VarId) (k l : Kind-as-C) (r : Bool) → v.0 ≢ w.0 → k ≡ view.kind_in m c v → l ≡ view.kind_in m c w → r ≡ kinds_meet (kind_k k) (kind_k l) → r ≡ can_meet (kinds_in m c) v.0 w.0
meet_law m c v w k l r d e f t = rw (ne_eqb v.0 w.0 d) (t ∙ ap (λ z. kinds_meet (kind_k z) (kind_k l)) e ∙ ap (λ z. kinds_meet (kind_k (view.kind_in m c v)) (kind_k z)) f ∙ rw (kind_in_lem m c v, kind_in_lem m c w) refl)

module _ (m : List ℕ) (c : Counts) (x y : ℕ) (l : Lead) (e : l ≡ lead_in m c x) where
  pub free_on : (z : TypeId) → l ≡ lead.On z → false ≡ free_in m c x y
  unfolding free_in
  free_on z d = ap (λ l. free_leads (kinds_in m c) l (lead_in m c y)) (sym d ∙ e)

  pub free_law : (k : Lead) → k ≡ lead_in m c y → (p q : Lead) → l ≡ p → k ≡ q → (r : Bool) → r ≡ free_leads (kinds_in m c) p q → r ≡ free_in m c x y
  unfolding free_in
  free_law k f p q d g r t = t ∙ ap (λ l. free_leads (kinds_in m c) l q) (sym d ∙ e) ∙ ap (free_leads (kinds_in m c) (lead_in m c x)) (sym g ∙ f)
