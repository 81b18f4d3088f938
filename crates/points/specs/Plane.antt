-- The plane of integer points, which of them a call takes, and how large a grid can be. Assumes nothing: these are definitions.
use Rattle.std.specs.Prelude.{Bool, ◌&&◌, ℕ, ℤ, pos, negsuc}
use Rattle.std.specs.Int.Signed.{le_z}
use Rattle.points.specs.declared.Point.{Point}

-- coordinates -1,024 to 1,023
abbrev pub in_range : ℤ → Bool
in_range z = le_z (negsuc 1023) z && le_z z (pos 1023)

-- both coordinates are in range
abbrev pub legal : Point → Bool
legal p = in_range p.x && in_range p.y

-- the longest side of a grid
abbrev pub most_side : ℕ
most_side = 64
