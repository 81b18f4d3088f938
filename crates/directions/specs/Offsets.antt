-- The pinned offsets of the eight directions. Assumes nothing: these are definitions.
use Rattle.std.specs.Prelude.{[], ◌∷◌, ℕ, get_or}

-- the offsets (pinned) of the directions 0 to 7, each one more than it is: 0 is (0,-1), then clockwise on a printed map
unfoldable pub off_x : ℕ → ℕ
off_x d = get_or (1 ∷ 2 ∷ 2 ∷ 2 ∷ 1 ∷ 0 ∷ 0 ∷ 0 ∷ []) d 1

unfoldable pub off_y : ℕ → ℕ
off_y d = get_or (0 ∷ 0 ∷ 1 ∷ 2 ∷ 2 ∷ 2 ∷ 1 ∷ 0 ∷ []) d 1
