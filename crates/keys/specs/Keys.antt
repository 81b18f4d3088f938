-- The key of a fringe entry, and what comes back from it. Assumes nothing.
use Rattle.std.specs.Prelude.{ℕ, ◌+◌, ◌-◌, ◌*◌, ◌/◌, ◌%◌, ◌^◌}

-- the key of an estimate below 2 ^ 41 and of the guess in it, below 2 ^ 23: a smaller one of each makes a larger key
unfoldable pub key_of : ℕ → ℕ → ℕ
key_of e h = (2 ^ 41 - 1 - e) * 2 ^ 23 + (2 ^ 23 - 1 - h)

-- the estimate that a key holds
unfoldable pub estimate_of : ℕ → ℕ
estimate_of k = 2 ^ 41 - 1 - k / 2 ^ 23

-- the cost that a key holds: the estimate less the guess
unfoldable pub cost_of : ℕ → ℕ
cost_of k = 2 ^ 41 - 1 - k / 2 ^ 23 - (2 ^ 23 - 1 - k % 2 ^ 23)
