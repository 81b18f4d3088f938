-- `points::Direction::rotate_cw` meets its contract: each turn goes on by an eighth. Assumes nothing.
use Rattle.std.proofs.Common.{◌≡◌, ◌+◌, ◌%◌}
use Rattle.points.proofs.Direction.rotate_cw.Given as goal

abbrev pub invariant-loop : goal.invariant-loop
invariant-loop l = l.number ≡ (l.fn.self.number + l.counter) % 8
