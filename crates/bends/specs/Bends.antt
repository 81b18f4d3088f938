-- Straight and bent: what an answer says, and which differences are in line. Assumes nothing: these are definitions.
use Rattle.std.specs.Prelude.{Option, Some, None, Result, Ok, Err, Bool, true, false, ◌||◌, ℕ, eqb}
use Rattle.points.specs.declared.Direction.{Direction}
use Rattle.points.specs.declared.Refusal.{Refusal}
use Rattle.bends.specs.declared.Heading.{Heading}
use Rattle.bends.specs.declared.Heading.TheVariants.{Straight, Bent}

-- the direction, straight or bent; none where refused
abbrev pub way_of : Result Heading Refusal → Option Direction
way_of (Ok (Straight d n)) = Some d
way_of (Ok (Bent d n)) = Some d
way_of (Err r) = None

-- the length, or the larger difference; 0 where refused
abbrev pub steps_of : Result Heading Refusal → ℕ
steps_of (Ok (Straight d n)) = n
steps_of (Ok (Bent d n)) = n
steps_of (Err r) = 0

-- equal points are in line
abbrev pub bent_of : Result Heading Refusal → Bool
bent_of (Ok (Straight d n)) = false
bent_of (Ok (Bent d n)) = true
bent_of (Err r) = false

-- points so far apart are in line: one difference is 0, or both are equal in size
abbrev pub in_line : ℕ → ℕ → Bool
in_line across down = eqb across 0 || (eqb down 0 || eqb across down)
