-- `answers::put_points` meets its contract: the lines that are yet to be stored give them all. Assumes nothing.
use Rattle.std.proofs.Common.{◌≡◌, ◌+◌, ◌-◌, ◌*◌, ◌≤◌, None, length, drop}
use Rattle.std.proofs.lemmas.List.Edits.{sets}
use Rattle.pairs.specs.Pairs.{first_bad}
use Rattle.answers.specs.Answers.{points_text}
use Rattle.answers.proofs.put_points.Given as goal

abbrev pub invariant-loop-i : goal.invariant-loop-i
invariant-loop-i l = (length l.buf ≡ length l.initial.buf) × (first_bad (drop (2 * l.i) l.list) ≡ None)
    × (l.end + 10 * (length l.list - 2 * l.i) ≤ length l.buf)
    × (l.end + length (points_text (drop (2 * l.i) l.list)) ≡ l.at + length (points_text l.list))
    × (sets l.buf l.end (points_text (drop (2 * l.i) l.list)) ≡ sets l.initial.buf l.at (points_text l.list))
