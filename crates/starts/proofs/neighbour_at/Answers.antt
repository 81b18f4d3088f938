-- `starts::neighbour_at` meets its contract. Assumes nothing.
use mathlib.Core.Path.{ap, sym, ◌∙◌}
use mir.Syntax.{w32}
use mir.Facts.{to_z-of_z}
use Rattle.starts.specs.Start.{side_of, neighbour_of}
use Rattle.starts.proofs.Starts.{neighbour_is}
use Rattle.starts.proofs.neighbour_at.Goals as goal

pub returns-then-barred : goal.returns-then-barred
unfolding neighbour_of
returns-then-barred c = rw (sym c.barred.ensures ∙ c.if-barred.true)

pub returns : goal.returns
returns c =
    c.free_cell.ensures
    ∙ neighbour_is _ _ _ _ _ _ (sym c.barred.ensures ∙ c.if-barred.false) c.stepped-at.ensures
    (c.side_of.ensures ∙ ap side_of (to_z-of_z {w = w32} {z = c.stepped-at.result.x} (record { sfits = c.struct_told-1.given.0.1 })))
    (c.side_of-2.ensures ∙ ap side_of (to_z-of_z {w = w32} {z = c.stepped-at.result.y} (record { sfits = c.struct_told-2-1.given.1.0.1 })))
