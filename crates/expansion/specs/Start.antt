-- The start's expansion, and with it that of every node. Assumes nothing: these are definitions.
use Rattle.std.specs.Prelude.{List, Option, Some, None, ℕ, ℤ}
use Rattle.goals.specs.declared.Plan.{Plan}
use Rattle.offers.specs.Search.{State, Out, each, Expansion}
use Rattle.starts.specs.Start.{toward_of}
use Rattle.successors.specs.Successors.{parent_of}
use Rattle.expansion.specs.Expand.{Tables, leap_from}

-- the start yields its free neighbours
unfoldable pub spread_of : List ℕ → List ℤ → Plan → Expansion
spread_of blocked goals p from k s = each (toward_of blocked goals p from k) 8 0 s

-- the start, which has no parent, yields its free neighbours; other cells yield jumps
abbrev pub yielded : Tables → Plan → ℕ → ℕ → State → Option ℕ → Out
yielded t p i k s None = spread_of t.blocked t.goals p i k s
yielded t p i k s (Some up) = leap_from t p up i k s

unfoldable pub yield_of : Tables → Plan → Expansion
yield_of t p i k s = yielded t p i k s (parent_of s.nodes.parent i)
