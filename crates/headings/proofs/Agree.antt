-- The tables agree: a step in a direction heads that way, a diagonal's offset is that of its two cardinals, and the opposite undoes a step. Assumes nothing.
use mathlib.Core.Path.{◌≡◌, refl}
use Prim.Native.Nat.{ℕ, ◌<◌, ◌%◌, ◌+◌}
use lib.IntN.{pos, ◌+ℤ◌}
use Rattle.std.specs.Prelude.{Option, Some, None}
use Rattle.points.specs.declared.Direction.{Direction}
use Rattle.points.specs.Compass.{dx_of, dy_of, sign_of, split_at}
use Rattle.headings.specs.Headings.{compass_of}
use Rattle.directions.specs.Offsets.{off_x, off_y}
use Rattle.directions.proofs.Eight.{by_eight}

-- the direction of an offset is the direction that has it
pub heads : (d : ℕ) → d < 8 → compass_of (sign_of (dx_of d)) (sign_of (dy_of d)) ≡ d
unfolding off_x off_y
heads = by_eight (λ d. compass_of (sign_of (dx_of d)) (sign_of (dy_of d)) ≡ d) refl refl refl refl refl refl refl refl

-- a diagonal's x part has its x offset and no other, and its y part its y offset
abbrev SplitsAt : ℕ → Option (Direction × Direction) → Type 0
SplitsAt d (Some (a, b)) = (dx_of a.number ≡ dx_of d) × (dy_of a.number ≡ pos 0) × (dx_of b.number ≡ pos 0) × (dy_of b.number ≡ dy_of d)
SplitsAt d None = d % 2 ≡ 0

pub splits : (d : ℕ) → d < 8 → SplitsAt d (split_at d)
unfolding off_x off_y split_at
splits = by_eight (λ d. SplitsAt d (split_at d)) refl (refl, refl, refl, refl) refl (refl, refl, refl, refl) refl (refl, refl, refl, refl) refl (refl, refl, refl, refl)

-- the opposite direction undoes a step
pub undone : (d : ℕ) → d < 8 → (dx_of d +ℤ dx_of (d + 4) ≡ pos 0) × (dy_of d +ℤ dy_of (d + 4) ≡ pos 0)
unfolding off_x off_y
undone = by_eight (λ d. (dx_of d +ℤ dx_of (d + 4) ≡ pos 0) × (dy_of d +ℤ dy_of (d + 4) ≡ pos 0)) (refl, refl) (refl, refl) (refl, refl) (refl, refl) (refl, refl) (refl, refl) (refl, refl) (refl, refl)
