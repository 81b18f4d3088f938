-- The search's order: the smallest estimate is popped first, on a tie the larger cost. Assumes nothing.
use Rattle.std.specs.Prelude.{ℕ, ◌+◌, ◌^◌, ◌<◌, ◌≡◌, ◌⊎◌}
use Rattle.sifts.specs.declared.Entry.{Entry}
use Rattle.keys.specs.Keys.{key_of, estimate_of, cost_of}

-- an entry's key holds a cost and a guess
pub record Packed (a : Entry) : Type 0 where
  pub cost : ℕ
  pub guess : ℕ
  pub low : cost + guess < 2 ^ 41
  pub near : guess < 2 ^ 23
  pub held : a.key ≡ key_of (cost + guess) guess

-- a is popped before b: its estimate is smaller, or the same and its cost larger
abbrev pub Before : Entry → Entry → Type 0
Before a b = (estimate_of a.key < estimate_of b.key) ⊎ ((estimate_of a.key ≡ estimate_of b.key) × (cost_of b.key < cost_of a.key))
