-- `faults::from_line` meets its contract: from here on the same line is left to be found. Assumes nothing.
use mathlib.Core.Path.{◌≡◌}
use lib.ListN.{drop}
use Rattle.faults.specs.Faults.{from_line}
use Rattle.faults.proofs.from_line.Given as goal

abbrev pub invariant-loop-i : goal.invariant-loop-i
invariant-loop-i l = from_line l.left (drop l.i l.s) ≡ from_line l.line l.s
