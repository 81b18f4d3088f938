-- `faults::line_fault` meets its contract: the rest of the line is looked at from here on. Assumes nothing.
use mathlib.Core.Path.{sym, ◌∙◌}
use native.Mathlib.Omega.{arith}
use Rattle.faults.proofs.Steps.{line_end, line_newline, line_return, line_more}
use Rattle.faults.proofs.line_fault.Goals as goal

pub returns-then-b-eq10 : goal.returns-then-b-eq10
returns-then-b-eq10 c = sym (line_newline c.args.s.now c.loop-b.b-index c.args.other (omega arith) c.if-b-eq10.true) ∙ c.loop-b.invariant

pub returns-then-b-eq13 : goal.returns-then-b-eq13
returns-then-b-eq13 c = sym (line_return c.args.s.now c.loop-b.b-index c.args.other (omega arith) c.if-b-eq10.false c.if-b-eq13.true) ∙ c.loop-b.invariant

pub loop-b-preserved : goal.loop-b-preserved
loop-b-preserved c = sym (line_more c.args.s.now c.loop-b.b-index c.args.other (omega arith) c.if-b-eq10.false c.if-b-eq13.false) ∙ c.loop-b.invariant

pub returns : goal.returns
returns c = sym (line_end c.args.s.now c.loop-b.b-index c.args.other (omega arith)) ∙ c.loop-b.invariant
