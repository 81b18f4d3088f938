-- `floors::refused` meets its contract: a new grid of 1 by 1. Assumes nothing.
use Rattle.floors.proofs.Laws.{new_one}
use Rattle.floors.specs.Floors.{origin}
use Rattle.std.specs.Prelude.{Err}
use Rattle.points.specs.declared.Refusal.TheVariants.{Map as MapBroken}
use mathlib.Core.Bool.{true}
use mathlib.Core.Path.{ap, ◌∙◌}
use Rattle.floors.proofs.refused.Goals as goal

pub returns : goal.returns
returns c =
    let n = c.args.line in
    λ i. record { outcome = Err (MapBroken n); grid = (ap (λ r. r.grid) c.new.ensures ∙ new_one) i; diagonal = true; start = origin; goal = origin }
