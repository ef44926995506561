use Rattle.checker.proofs.Laws.{few_rows, rows_walked, part_length}
use Rattle.checker.proofs.walk_file.Goals as goal

pub returns-then-rows-a : goal.returns-then-rows-a
returns-then-rows-a c = few_rows _ _ _ _ (c.rows_end-a.result) (c.rows_end-a.ensures) c.if-rows-a.true

pub slice_bounds-walk_cells-end-2 : goal.slice_bounds-walk_cells-end-2
slice_bounds-walk_cells-end-2 c = part_length (c.args.rows.now) (c.zero_from.new.t) (c.rows_end-a.result) (c.if-rows-a.false) (c.zero_from.auto.t)

pub returns : goal.returns
returns c = rows_walked (c.args.s.now) (c.args.rows.now) (c.args.cells.now) (c.args.memory.now) (c.zero_from.new.t) (c.walk_cells.result) (c.walk_cells.new.rows) (c.walk_cells.new.cells) (c.walk_cells.new.memory) (c.rows_end-a.result) (c.rows_end-a.ensures) (c.zero_from.ensures) (c.walk_cells.auto.rows) (c.walk_cells.ensures)
