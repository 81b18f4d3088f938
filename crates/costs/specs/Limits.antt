-- The settings of a search: a new grid's, and which are in range. Assumes nothing: these are definitions.
use Rattle.std.specs.Prelude.{ℕ, Bool, true, ◌&&◌, nat_le}
use Rattle.costs.specs.declared.Settings.{Settings}
use Rattle.costs.specs.Scale.{in_bounds, one}

-- the largest limits
abbrev pub most_depth : ℕ
most_depth = 64

abbrev pub most_pops : ℕ
most_pops = 65535

abbrev pub most_fringe : ℕ
most_fringe = 8192

-- diagonals on, improved pruning on, factor 1, and the largest limits
abbrev pub new_settings : Settings
new_settings = record { factor = one; diagonal = true; improved = true; depth = most_depth; pops = most_pops; fringe = most_fringe }

-- the factor and the three limits are in their ranges
abbrev pub settings_ok : Settings → Bool
settings_ok s = in_bounds s.factor && (nat_le s.depth most_depth && (nat_le 1 s.pops && (nat_le s.pops most_pops && (nat_le 1 s.fringe && nat_le s.fringe most_fringe))))
