-- `successors::next_of` meets its contract. The invariant: the mask has none of the directions that were passed (`Clear`). Assumes nothing.
use Rattle.successors.specs.Successors.{Clear}
use Rattle.successors.proofs.next_of.Given as goal

abbrev pub invariant-loop-e : goal.invariant-loop-e
invariant-loop-e l = Clear l.mask l.from l.e
