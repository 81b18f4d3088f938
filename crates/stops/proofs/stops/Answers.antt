-- `stops::stops` meets its contract. Assumes nothing.
use mathlib.Core.Path.{◌∙◌, ap}
use Rattle.stops.specs.Stops.{stops_in}
use Rattle.stops.proofs.Targets.{stops_in_lem}
use Rattle.stops.proofs.stops.Goals as goal

pub returns : goal.returns
returns c = c.stops_in.ensures ∙ ap (stops_in _ _ _ _) c.number.ensures ∙ stops_in_lem _ _ _ _ c.requires.1.1.1
