-- `stops::Cell::is_free` meets its contract. Assumes nothing.
use mathlib.Core.Path.{sym, ◌∙◌}
use Rattle.stops.specs.Stops.{free_at}
use Rattle.stops.proofs.Laws.{held, within_inside}
use Rattle.stops.proofs.Cell.is_free.Goals as goal

pub byte-requires : goal.byte-requires
byte-requires c = held c.requires (within_inside _ _ _ _ (sym c.inside.ensures ∙ c.if-inside.true))

pub returns-then-inside : goal.returns-then-inside
unfolding free_at
returns-then-inside c = rw (← c.inside.ensures, c.if-inside.true, ← c.byte.ensures)

pub returns-else-inside : goal.returns-else-inside
unfolding free_at
returns-else-inside c = rw (← c.inside.ensures, c.if-inside.false)
