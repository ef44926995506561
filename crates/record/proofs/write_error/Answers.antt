use native.Mathlib.Omega.{arith}
use Rattle.record.proofs.Cells.{error_stores}
use Rattle.record.proofs.write_error.Goals as goal

pub overflow_add-at-8 : goal.overflow_add-at-8
overflow_add-at-8 c = omega (arith, c.ranges.i)

pub overflow_add-at-9 : goal.overflow_add-at-9
overflow_add-at-9 c = omega (arith, c.ranges.i)

pub returns : goal.returns
returns c = error_stores _ _ _ _ _ _ _ _ _ _ _ _ _ _ _ _ _ c.kind_number.ensures c.span_tag.ensures c.span_value.ensures c.second_tag.ensures c.second_value.ensures c.write.ensures c.write-2.ensures c.write-3.ensures c.write-4.ensures c.write-5.ensures c.write-6.ensures c.write-7.ensures c.write-8.ensures c.write-9.ensures
