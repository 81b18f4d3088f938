-- What the key of an entry tells of the cost and the guess that it was made of. Assumes nothing.
use Rattle.std.specs.Prelude.{◌≡◌, ◌⊎◌, ℕ, ◌+◌, ◌^◌, ◌<◌, ◌≤◌}
use Rattle.keys.specs.Keys.{key_of, estimate_of, cost_of}

-- a cost and a guess that a key has room for; the estimate is their sum
pub record Fits (cost guess : ℕ) : Type 0 where
  pub low : cost + guess < 2 ^ 41
  pub near : guess < 2 ^ 23

-- two keys, made of the cost k with the guess h, and of the cost l with the guess g
pub record Tells (k h l g : ℕ) : Type 0 where
  -- the cost and the estimate come back
  pub cost : cost_of (key_of (k + h) h) ≡ k
  pub estimate : estimate_of (key_of (k + h) h) ≡ k + h
  -- the keys are equal exactly if the estimates and the costs are
  pub same : key_of (k + h) h ≡ key_of (l + g) g → (k + h ≡ l + g) × (k ≡ l)
  pub equal : k + h ≡ l + g → k ≡ l → key_of (k + h) h ≡ key_of (l + g) g
  -- the key that is no smaller has the smaller estimate, or the same and a cost that is no smaller
  pub above : key_of (l + g) g ≤ key_of (k + h) h → (k + h < l + g) ⊎ ((k + h ≡ l + g) × (l ≤ k))

-- THE KEYS: of every two costs and guesses
abbrev pub KeysTell : Type 0
KeysTell = (k h l g : ℕ) → Fits k h → Fits l g → Tells k h l g
