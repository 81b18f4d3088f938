-- `offers::Work::offer` meets its contract: by what recording says, an offer is refused, pushed or left. Assumes nothing.
use mathlib.Core.Path.{◌≡◌, sym, ◌∙◌, ap, subst}
use lib.Dec.{T}
use Rattle.points.specs.declared.Point.{Point}
use Rattle.points.specs.Plane.{legal}
use Rattle.goals.specs.Goals.{guess_of}
use Rattle.offers.specs.Search.{guess_at}
use native.Mathlib.Omega.{arith}
use Rattle.offers.proofs.Laws.{able, cell_in, cell_legal, places_low, index_small, offer_full, offer_pushed, offer_left}
use Rattle.offers.proofs.Work.offer.Goals as goal

pub note-r-requires : goal.note-r-requires
note-r-requires c = able c.requires.0 _ _ c.requires.1.0 c.requires.1.1.1.0

pub guess-h-requires : goal.guess-h-requires
guess-h-requires c = (c.requires.0.aimed, subst (λ (x : Point). T (legal x)) (sym c.requires.1.1.0) (cell_legal c.args.p c.args.cell c.requires.0.sides c.requires.1.0))

pub returns-then-p-self-clause-offered : goal.returns-then-p-self-clause-offered
returns-then-p-self-clause-offered c = offer_full _ _ _ _ _ _ _ c.note-r.ensures c.if-r.true c.if-p-self.true

pub overflow_cast-r : goal.overflow_cast-r
overflow_cast-r c =
    let l = cell_in c.requires.0 c.args.cell c.requires.1.0 in
    omega (arith, index_small _ _ _ _ _ c.note-r.ensures c.requires.0.fit.sound l, places_low c.requires.0)

pub returns-else-p-self-clause-offered : goal.returns-else-p-self-clause-offered
unfolding guess_at
returns-else-p-self-clause-offered c =
    offer_pushed _ _ _ _ _ _ _ c.note-r.ensures _ c.if-r.true c.if-p-self.false
    (c.push.ensures.0 ∙ rw (c.key_of-key.ensures, (let guessed' : c.guess-h.result ≡ guess_at c.args.goals.now c.args.p c.args.cell = c.guess-h.ensures.0 ∙ ap (guess_of c.args.goals.now c.args.p) c.requires.1.1.0 in guessed')))

pub returns-else-r-clause-offered : goal.returns-else-r-clause-offered
returns-else-r-clause-offered c = offer_left _ _ _ _ _ _ _ c.note-r.ensures c.if-r.false
