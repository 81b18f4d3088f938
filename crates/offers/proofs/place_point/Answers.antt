-- `offers::place_point` meets its contract: the place is the area, or a cell. Assumes nothing.
use mathlib.Core.Path.{sym, ◌∙◌}
use native.Mathlib.Omega.{arith}
use Rattle.offers.proofs.Laws.{area_is, cell_numbered, point_start, point_cell}
use Rattle.offers.proofs.place_point.Goals as goal

pub returns-then-place-p : goal.returns-then-place-p
returns-then-place-p c = point_start c.args.p c.args.place (c.if-place-p.true ∙ sym (area_is c.args.p))

pub point_of-requires : goal.point_of-requires
point_of-requires c = cell_numbered c.args.p c.args.place c.requires.0 (omega (arith, area_is c.args.p, c.requires.1, c.if-place-p.false))

pub returns : goal.returns
returns c = c.point_of.ensures ∙ point_cell c.args.p c.args.place (λ e. c.if-place-p.false (e ∙ area_is c.args.p))
