-- `checks::free_at` meets its contract: outside, then by the cell. Assumes nothing.
use Rattle.std.proofs.Common.{◌*◌, ◌∙◌}
use borrow.Author.Tests.{le-ltb}
use Rattle.checks.proofs.Laws.{free_out, free_in}
use Rattle.checks.proofs.free_at.Goals as goal

pub returns-then-c-w : goal.returns-then-c-w
returns-then-c-w c =
    let a = c.args in
    free_in a.w a.h a.blocked.now a.p c.cell_of-c.result c.cell_of-c.ensures c.if-c-w.true

pub returns-else-c-w : goal.returns-else-c-w
returns-else-c-w c =
    let a = c.args in
    le-ltb c.cell_of-c.result (a.w * a.h) c.if-c-w.false ∙ free_out a.w a.h a.blocked.now a.p c.cell_of-c.result c.cell_of-c.ensures c.if-c-w.false
