use Rattle.std.proofs.Common.{rules, sym}
use Rattle.body.proofs.Laws.{too_long, short_rows, short_cells, good_body, bad_body}
use Rattle.body.proofs.read_body.Goals as goal

pub returns-then-s-gt-MOST_BYTES : goal.returns-then-s-gt-MOST_BYTES
returns-then-s-gt-MOST_BYTES c = sym (search (rules, too_long))

pub returns-then-rows-lt-ROWS : goal.returns-then-rows-lt-ROWS
returns-then-rows-lt-ROWS c = sym (search (rules, short_rows))

pub returns-then-cells-lt-CELLS : goal.returns-then-cells-lt-CELLS
returns-then-cells-lt-CELLS c = sym (search (rules, short_cells))

pub returns-in-Ok : goal.returns-in-Ok
returns-in-Ok c = sym (good_body c.args.s.now c.args.rows.now c.args.cells.now c.if-s-gt-MOST_BYTES.false c.if-rows-lt-ROWS.false c.if-cells-lt-CELLS.false _ _ _ c.lines.new.rows c.lines.new.cells (search rules) (search rules) c.lines.ensures _ c.in-Ok.is)

pub returns-in-Err : goal.returns-in-Err
returns-in-Err c = sym (bad_body c.args.s.now c.args.rows.now c.args.cells.now c.if-s-gt-MOST_BYTES.false c.if-rows-lt-ROWS.false c.if-cells-lt-CELLS.false _ _ _ c.lines.new.rows c.lines.new.cells (search rules) (search rules) c.lines.ensures _ _ _ _ c.in-Err.is (search rules) (search rules))
