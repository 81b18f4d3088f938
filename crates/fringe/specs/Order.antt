-- What the laws of the fringe speak of. Assumes nothing.
use Rattle.std.specs.Prelude.{ℕ, ◌<◌, ◌≤◌, List, length}
use Rattle.sifts.specs.declared.Entry.{Entry}
use Rattle.sifts.specs.Sifts.{at, parent}

-- each entry of l is a P
abbrev pub Each : (Entry → Type 0) → List Entry → Type 0
Each P l = (i : ℕ) → i < length l → P (at l i)

-- no entry is above its parent
abbrev pub Ordered : List Entry → Type 0
Ordered l = (i : ℕ) → 0 < i → i < length l → (at l i).key ≤ (at l (parent i)).key
