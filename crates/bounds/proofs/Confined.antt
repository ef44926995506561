-- Of Confined: the theorems that rest on a declaration which an edit of a definition in specs/ refuses. The definitions and the other theorems stand in
-- specs/Confined.antt. Assumes nothing.
use Rattle.std.specs.Prelude.{ltb}
use Prim.Native.Nat.{ℕ, ◌-◌, ◌<◌}
use Rattle.std.proofs.Common.{arith}
use borrow.Author.Tests.{ltb-true}
use Rattle.theory.specs.Rules.{inst}
use Rattle.refs.specs.declared.Counts.{Counts}
use Rattle.nodes.specs.declared.Items.{Items}
use Rattle.nodes.specs.declared.Res.{Res}
use Rattle.nodes.specs.declared.Res.TheVariants as res
use Rattle.nodes.specs.Nodes.{Body, method, is_partly_failed, segment_name, segment_res}
use Rattle.record.specs.Steps.{instance}
use Rattle.rules.specs.Rules as rule
use Rattle.bounds.specs.Refers.{ResLower, SegmentsLower, Refers}
use Rattle.bounds.specs.Confined.{Confined, Known, Numbers, all_types_confined, cond_confined, done_confined, fn_def_confined, instance_confined, local_or_refuse_confined, node_type_confined, path_method_confined, refuse_10_confined, set_extra_confined, test_confined, then_confined}

-- ── programs ──

module _ {N : Counts} {W : Numbers} where
  -- ── steps ──

  module _ {b : Body} (K : Known N b W) where
    -- ── the rules that type no other node ──

    -- RES
    type_res_confined : (n : ℕ) (r : Res) → n < N.nodes → ResLower N r → Confined N W W.type (rule.type_res n r)
    unfolding rule.type_res
    type_res_confined n (res.Local l) h k = then_confined _ (node_type_confined l.0) (λ t q. (local_or_refuse_confined K) n t h q)
    type_res_confined n (res.Fn d) h k = fn_def_confined K d.0 (K.def d.0 k)
    type_res_confined n (res.Ctor d) h k = fn_def_confined K d.0 (K.def d.0 k)
    type_res_confined n (res.Inst i) h k = instance_confined K i.0 (K.inst i.0 k)
    type_res_confined n res.Error h k = done_confined _ (K.type 12 (omega arith))
    type_res_confined n res.Other h k = refuse_10_confined n h

    -- a path without a failed segment
    whole_path_confined : (n : ℕ) (r : Res) → n < N.nodes → ResLower N r → Confined N W W.type (rule.whole_path n r)
    unfolding rule.whole_path
    whole_path_confined n r h k = then_confined _ (type_res_confined n r h k) (λ t q. then_confined _ (set_extra_confined n _) (λ u z. done_confined t q))

    module _ (R : Refers N b) where
      -- a path of an instance
      path_of_confined : (n k : ℕ) (t : Items) → n < N.nodes → SegmentsLower N b.cells t → 0 < t.count → Confined N W W.type (rule.path_of b n k t)
      unfolding rule.path_of rule.path_found
      path_of_confined n k t h S l =
          then_confined _ (type_res_confined n (segment_res b.cells t (t.count - 1)) h (S (t.count - 1) (omega arith)))
          (λ x q. then_confined _ all_types_confined (λ ts z. (path_method_confined K) n x _ (method ts b x (segment_name b.cells t k)) (R.methods ts x _)))

      -- a partly failed path
      failed_path_confined : (n : ℕ) (r : Res) (k : ℕ) (t : Items) → n < N.nodes → SegmentsLower N b.cells t → Confined N W W.type (rule.failed_path b n r k t)
      unfolding rule.failed_path rule.inst_path
      failed_path_confined n (res.Local l) k t h S = refuse_10_confined n h
      failed_path_confined n (res.Fn d) k t h S = refuse_10_confined n h
      failed_path_confined n (res.Ctor d) k t h S = refuse_10_confined n h
      failed_path_confined n (res.Inst i) k t h S = test_confined (ltb k t.count) (λ e. path_of_confined n k t h S (omega (arith, ltb-true k t.count e))) (refuse_10_confined n h)
      failed_path_confined n res.Error k t h S = then_confined _ (set_extra_confined n _) (λ u q. done_confined _ (K.type 12 (omega arith)))
      failed_path_confined n res.Other k t h S = refuse_10_confined n h

      -- a path
      pub path_confined : (n : ℕ) (r : Res) (k : ℕ) (t : Items) → n < N.nodes → ResLower N r → SegmentsLower N b.cells t → Confined N W W.type (rule.path b n r k t)
      unfolding rule.path
      path_confined n r k t h c S = cond_confined (is_partly_failed b.cells t) (failed_path_confined n r k t h S) (whole_path_confined n r h c)
