-- `faults::line_fault` meets its contract: the rest of the line is looked at from here on. Assumes nothing.
use mathlib.Core.Path.{◌≡◌}
use lib.ListN.{drop}
use Rattle.faults.specs.Faults.{line_fault}
use Rattle.faults.proofs.line_fault.Given as goal

abbrev pub invariant-loop-b : goal.invariant-loop-b
invariant-loop-b l = line_fault l.other (drop l.b-index l.s) ≡ line_fault l.other l.s
