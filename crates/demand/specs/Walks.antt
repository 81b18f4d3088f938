-- Joined by allowed moves: walks over the blocked cells alone, with no word of the tables that a grid keeps. Assumes nothing.
use Rattle.std.specs.Prelude.{◌≡◌, ◌⊎◌, Bool, true, List, [], ◌∷◌, ℕ, ◌+◌, ◌*◌, ◌≤◌, ◌<◌, get_or}

-- (x, y) is a cell of the grid, and free
pub record Free (w h : ℕ) (blocked : List ℕ) (x y : ℕ) : Type 0 where
  pub left : x < w
  pub down : y < h
  pub free : get_or blocked (y * w + x) 0 ≡ 0

-- (i, j) is at most one step from (x, y): a column, a row, or, with diagonals, both
pub record Step (diagonal : Bool) (x y i j : ℕ) : Type 0 where
  pub across : (i ≤ x + 1) × (x ≤ i + 1)
  pub along : (j ≤ y + 1) × (y ≤ j + 1)
  pub straight : (diagonal ≡ true) ⊎ ((x ≡ i) ⊎ (y ≡ j))

-- one allowed move, from the cell numbered a to the cell numbered c
pub record Move (w h : ℕ) (blocked : List ℕ) (diagonal : Bool) (a c : ℕ) : Type 0 where
  pub x : ℕ
  pub y : ℕ
  pub i : ℕ
  pub j : ℕ
  pub from : a ≡ y * w + x
  pub to : c ≡ j * w + i
  pub leaves : Free w h blocked x y
  pub enters : Free w h blocked i j
  pub step : Step diagonal x y i j

-- a walk of any number of moves. With none a cell is joined to itself, also a blocked one
pub data Walk (w h : ℕ) (blocked : List ℕ) (diagonal : Bool) : ℕ → ℕ → Type 0 where
  stay : {a : ℕ} → Walk w h blocked diagonal a a
  move : {a b c : ℕ} → Walk w h blocked diagonal a b → Move w h blocked diagonal b c → Walk w h blocked diagonal a c

-- what it does not do: enter a blocked cell, as from the left end of `.#.`
abbrev pub NotThrough : Type 0
NotThrough = (c : ℕ) → Walk 3 1 (0 ∷ 1 ∷ 0 ∷ []) true 0 c → c ≡ 0
