-- `faults::cells_fault` meets its contract: the rest of the row is looked at from here on. Assumes nothing.
use mathlib.Core.Path.{◌≡◌}
use lib.ListN.{drop}
use Rattle.faults.specs.Faults.{cells_fault}
use Rattle.faults.proofs.cells_fault.Given as goal

abbrev pub invariant-loop-k : goal.invariant-loop-k
invariant-loop-k l = cells_fault l.w l.k (drop l.k l.s) ≡ cells_fault l.w 0 l.s
