-- `expansion::start::spread` meets its contract. Assumes nothing.
use lib.ListN.{length}
use mathlib.Core.Path.{◌∙◌}
use Rattle.offers.proofs.Rounds.{passed_on, round_turn, round_halt, round_end}
use Rattle.starts.proofs.Starts.{toward_fit}
use Rattle.expansion.specs.Start.{spread_of}
use Rattle.expansion.proofs.start.spread.Goals as goal

pub returns-in_err-toward-clause-spread : goal.returns-in_err-toward-clause-spread
unfolding spread_of
returns-in_err-toward-clause-spread c = rw (passed_on c.from_residual.result c.in_err-toward.field-0.0 c.from_residual.ensures.1) (round_halt _ _ _ _ _ _ c.loop-d.invariant c.toward.new.work _ c.loop-d-test.true c.toward.ensures.offered _ c.in_err-toward.was)

pub loop-d-preserved : goal.loop-d-preserved
loop-d-preserved c =
    round_turn _ _ _ _ _ _ c.loop-d.invariant _ _ c.loop-d-test.true c.toward.ensures.offered _ c.in_ok-toward.was
    (λ u v f q e. toward_fit c.args.blocked.now c.args.goals.now c.args.p c.args.from c.args.k _ (length c.args.work.now.number.now) c.requires.0.floor u v f q e)
    c.toward.ensures.stays

pub returns-clause-spread : goal.returns-clause-spread
unfolding spread_of
returns-clause-spread c = round_end _ _ _ _ _ _ c.loop-d.invariant c.loop-d-test.false
