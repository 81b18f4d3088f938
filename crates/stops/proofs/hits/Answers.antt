-- `stops::hits` meets its contract. Assumes nothing.
use Rattle.stops.proofs.Targets.{target_is}
use Rattle.stops.proofs.hits.Goals as goal

pub returns-then-p : goal.returns-then-p
returns-then-p c =
    let f = c.requires in
    target_is _ _ _ f.1.1.1.1 f.1.1.1.0 c.if-p.true
