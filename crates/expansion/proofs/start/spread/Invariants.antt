-- `expansion::start::spread` meets its contract. The invariant: what is left to offer gives the answer (`Rounds`). Assumes nothing.
use Rattle.offers.proofs.Rounds.{Rounds}
use Rattle.starts.specs.Start.{toward_of}
use Rattle.expansion.proofs.start.spread.Given as goal

abbrev pub invariant-loop-d : goal.invariant-loop-d
invariant-loop-d l = Rounds l.goals l.p (toward_of l.blocked l.goals l.p l.from l.k) l.initial.work l.work l.d
