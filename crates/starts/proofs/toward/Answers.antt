-- `starts::toward` meets its contract. Assumes nothing.
use native.Mathlib.Omega.{arith}
use mathlib.Core.Path.{sym, ◌∙◌}
use Rattle.offers.proofs.Laws.{cell_numbered}
use Rattle.starts.proofs.Starts.{neighbour_lt, toward_none, toward_at}
use Rattle.starts.proofs.toward.Goals as goal

pub returns-in_default-clause-offered : goal.returns-in_default-clause-offered
returns-in_default-clause-offered c = toward_none _ _ _ _ _ _ _ (sym c.in_default.is ∙ c.neighbour_at.ensures)

pub point_of-at-requires : goal.point_of-at-requires
point_of-at-requires c =
    let f = c.requires in
    cell_numbered _ _ f.0.sides (neighbour_lt _ _ _ _ (sym (sym c.in-Some.is ∙ c.neighbour_at.ensures)))

pub offer-requires : goal.offer-requires
offer-requires c =
    let f = c.requires in
    (f.0, (neighbour_lt _ _ _ _ (sym (sym c.in-Some.is ∙ c.neighbour_at.ensures)), (c.point_of-at.ensures, (f.1.1.1.0, omega (arith, c.price_of-price.ensures, f.1.1.1.1)))))

pub returns-clause-offered : goal.returns-clause-offered
returns-clause-offered c = c.offer.ensures.offered ∙ toward_at _ _ _ _ _ _ _ _ _ (sym c.in-Some.is ∙ c.neighbour_at.ensures) c.price_of-price.ensures
