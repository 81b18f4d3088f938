-- `starts::free_cell` meets its contract. Assumes nothing.
use mathlib.Core.Path.{sym, ◌∙◌}
use Rattle.stops.proofs.Laws.{placed, free_inside}
use Rattle.starts.specs.Start.{free_cell}
use Rattle.starts.proofs.free_cell.Goals as goal

pub number-requires : goal.number-requires
number-requires c = placed c.requires.wide c.requires.high (free_inside c.args.blocked.now _ _ _ _ (sym c.is_free.ensures ∙ c.if-is_free.true))

pub returns-then-is_free : goal.returns-then-is_free
unfolding free_cell
returns-then-is_free c = rw (sym c.is_free.ensures ∙ c.if-is_free.true, c.number.ensures)

pub returns-else-is_free : goal.returns-else-is_free
unfolding free_cell
returns-else-is_free c = rw (sym c.is_free.ensures ∙ c.if-is_free.false)
