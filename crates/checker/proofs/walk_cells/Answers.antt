use Rattle.checker.proofs.Laws.{few_cells, cells_walked, part_length}
use Rattle.checker.proofs.walk_cells.Goals as goal

pub returns-then-cells-b : goal.returns-then-cells-b
returns-then-cells-b c = few_cells _ _ _ _ (c.cells_end-b.result) (c.cells_end-b.ensures) c.if-cells-b.true

pub slice_bounds-read_and_type-end-2 : goal.slice_bounds-read_and_type-end-2
slice_bounds-read_and_type-end-2 c = part_length (c.args.cells.now) (c.zero_from.new.t) (c.cells_end-b.result) (c.if-cells-b.false) (c.zero_from.auto.t)

pub returns : goal.returns
returns c = cells_walked (c.args.s.now) (c.args.rows.now) (c.args.cells.now) (c.args.memory.now) (c.zero_from.new.t) (c.read_and_type.result) (c.read_and_type.new.rows) (c.read_and_type.new.cells) (c.read_and_type.new.memory) (c.cells_end-b.result) (c.cells_end-b.ensures) (c.zero_from.ensures) (c.read_and_type.auto.cells) (c.read_and_type.ensures)
