use Rattle.tables.proofs.TypeLaws.{fitted_small, fitted_large}
use Rattle.tables.proofs.fitted_cell.Goals as goal

pub returns-then-k-lt65536 : goal.returns-then-k-lt65536
returns-then-k-lt65536 c = fitted_small _ c.if-k-lt65536.true

pub returns-else-k-lt65536 : goal.returns-else-k-lt65536
returns-else-k-lt65536 c = fitted_large _ c.if-k-lt65536.false
