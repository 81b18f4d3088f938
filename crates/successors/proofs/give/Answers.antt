-- `successors::give` meets its contract. Assumes nothing.
use mathlib.Core.Path.{sym, ◌∙◌, ap}
use native.Mathlib.Omega.{arith}
use Rattle.goals.specs.Goals.{point_of}
use Rattle.offers.proofs.Laws.{area_is}
use Rattle.stops.proofs.Laws.{place_lt}
use Rattle.stops.proofs.Targets.{point_of_number}
use Rattle.successors.specs.Successors.{give_of}
use Rattle.successors.proofs.give.Goals as goal

pub offer-requires : goal.offer-requires
offer-requires c =
    let f = c.requires in
    (f.0, (omega (arith, place_lt f.1.0, area_is c.args.p, c.number-cell.ensures), (c.spot-at.ensures ∙ sym (point_of_number f.1.0) ∙ ap (point_of c.args.p.w) (sym c.number-cell.ensures), f.1.1)))

pub returns-clause-given : goal.returns-clause-given
unfolding give_of
returns-clause-given c = rw (← c.number-cell.ensures) c.offer.ensures.offered
