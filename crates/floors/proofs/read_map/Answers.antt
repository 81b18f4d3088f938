-- `floors::read_map` meets its contract: a bad text, then a map. Assumes nothing.
use Rattle.floors.proofs.Laws.{map_fair, fair_sides, read_is}
use Rattle.floors.specs.Floors.{floor_grid}
use Rattle.std.specs.Prelude.{Ok, Err}
use mathlib.Core.Path.{sym, ap, ◌∙◌}
use Rattle.floors.proofs.read_map.Goals as goal

pub floor-requires : goal.floor-requires
floor-requires c = fair_sides c.in-Ok.m (map_fair c.args.text.now c.in-Ok.m (sym c.read.ensures.0 ∙ c.in-Ok.is))

pub returns-in-Err : goal.returns-in-Err
returns-in-Err c = c.refused.ensures ∙ read_is c.args.text.now (Err c.in-Err.bad) (sym c.read.ensures.0 ∙ c.in-Err.is)

pub returns-in-Ok : goal.returns-in-Ok
returns-in-Ok c =
    let k = c.in-Ok.m in
    (λ i. record { outcome = Ok tt; grid = (c.floor.ensures ∙ ap (floor_grid k.width k.height) c.read.ensures.1) i; diagonal = k.diagonal; start = k.start; goal = k.goal })
    ∙ read_is c.args.text.now (Ok k) (sym c.read.ensures.0 ∙ c.in-Ok.is)
