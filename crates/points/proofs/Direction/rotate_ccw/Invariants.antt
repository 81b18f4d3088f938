-- `points::Direction::rotate_ccw` meets its contract: each turn goes back by an eighth. Assumes nothing.
use Rattle.std.proofs.Common.{◌≡◌, ◌+◌, ◌-◌, ◌%◌}
use Rattle.points.proofs.Direction.rotate_ccw.Given as goal

abbrev pub invariant-loop : goal.invariant-loop
invariant-loop l = l.number ≡ (l.fn.self.number % 8 + 8 - l.counter) % 8
