-- An entry that has its new value already. Assumes nothing.
use mathlib.Core.Path.{◌≡◌, sym, ap, ◌∙◌}
use mathlib.Core.List.{List}
use Prim.Native.Nat.{ℕ}
use lib.ListN.{get_or, set}
use lib.Seq.{set-get_or}

-- storing it would change nothing
pub kept : (l : List ℕ) (i v : ℕ) → get_or l i 0 ≡ v → l ≡ set l i v
kept l i v e = sym (set-get_or l i 0) ∙ ap (set l i) e
