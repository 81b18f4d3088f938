-- `text::more` meets its contract: what is read from each place on is what is read from the start. Assumes nothing.
use mathlib.Core.Path.{◌≡◌}
use Prim.Native.Nat.{◌≤◌}
use lib.ListN.{drop}
use Rattle.text.specs.Grammar.{more_of}
use Rattle.text.proofs.more.Given as goal

abbrev pub invariant-loop-i : goal.invariant-loop-i
invariant-loop-i l = (l.value ≤ l.limit) × (more_of l.limit l.value l.i (drop l.i l.s) ≡ more_of l.limit l.first 1 (drop 1 l.s))
