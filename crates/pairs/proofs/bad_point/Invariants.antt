-- `pairs::bad_point` meets its contract: no point before this one is bad. Assumes nothing.
use Rattle.std.proofs.Common.{◌≡◌, ◌*◌, drop}
use Rattle.pairs.specs.Pairs.{first_bad}
use Rattle.pairs.proofs.bad_point.Given as goal

abbrev pub invariant-loop-i : goal.invariant-loop-i
invariant-loop-i l = first_bad (drop (2 * l.i) l.list) ≡ first_bad l.list
