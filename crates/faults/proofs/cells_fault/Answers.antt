-- `faults::cells_fault` meets its contract: the rest of the row is looked at from here on. Assumes nothing.
use mathlib.Core.Path.{sym, ap, ◌∙◌}
use native.Mathlib.Omega.{arith}
use Rattle.faults.specs.Faults.{counted}
use Rattle.faults.proofs.Steps.{cells_end, cells_newline, cells_letter, cells_more}
use Rattle.faults.proofs.cells_fault.Goals as goal

pub returns-then-b-eq10 : goal.returns-then-b-eq10
returns-then-b-eq10 c =
    let k = c.loop-k.k in
    c.count_fault.ensures ∙ sym (cells_newline c.args.s.now k c.args.w k (omega arith) c.if-b-eq10.true) ∙ c.loop-k.invariant

pub returns-then-not-is_cell : goal.returns-then-not-is_cell
returns-then-not-is_cell c =
    let k = c.loop-k.k in
    sym (cells_letter c.args.s.now k c.args.w k (omega arith) c.if-b-eq10.false (sym c.is_cell.ensures ∙ c.if-not-is_cell.true)) ∙ c.loop-k.invariant

pub loop-k-preserved : goal.loop-k-preserved
loop-k-preserved c =
    let k = c.loop-k.k in
    sym (cells_more c.args.s.now k c.args.w k (omega arith) c.if-b-eq10.false (sym c.is_cell.ensures ∙ c.if-not-is_cell.false)) ∙ c.loop-k.invariant

pub returns : goal.returns
returns c =
    let k = c.loop-k.k in
    c.count_fault-2.ensures ∙ ap (counted c.args.w) (omega arith) ∙ sym (cells_end c.args.s.now k c.args.w k (omega arith)) ∙ c.loop-k.invariant
