-- `faults::row_fault` meets its contract: the word, then the cells. Assumes nothing.
use mathlib.Core.Path.{sym, ◌∙◌}
use Rattle.faults.proofs.Steps.{row_other, row_cells}
use Rattle.faults.proofs.row_fault.Goals as goal

pub returns-in-Some : goal.returns-in-Some
returns-in-Some c =
    let p = c.in-Some.ensures.cases in
    c.cells_fault.ensures ∙ sym (row_cells c.args.s.now c.args.w p.0 c.in-Some.cells.now p.1)

pub returns-in-None : goal.returns-in-None
returns-in-None c = sym (row_other c.args.s.now c.args.w c.in-None.ensures.cases)
