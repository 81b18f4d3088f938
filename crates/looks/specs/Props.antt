-- That a scene's ghost field is a fact, with one proof at most. Assumes nothing.
use Rattle.std.specs.Prelude.{List, ℤ}
use Rattle.std.proofs.Props as std
use Rattle.goals.specs.declared.Goal.{Goal}
use Rattle.goals.specs.declared.Goal.TheVariants.{Exact, Near, Several}
use Rattle.goals.specs.Goals.{Placed}

pub placed_prop : (gs : List ℤ) (g : Goal) → IsProp (Placed gs g)
placed_prop gs (Exact q) = Prim.hlevel std.props
placed_prop gs (Near q) = Prim.hlevel std.props
placed_prop gs (Several n) = Prim.hlevel std.props

pub ruleset props = (placed_prop, std.props)
