-- What a rebuild and an update leave, as tables. Assumes nothing.
use mathlib.Core.Path.{◌≡◌, ap}
use mathlib.Core.Bool.{Bool, false}
use mathlib.Core.List.{List}
use Prim.Native.Nat.{ℕ}
use Rattle.components.specs.Components.{Links}
use Rattle.rebuilds.specs.Rebuilds.{rebuilt_links}
use Rattle.tables.specs.Tables.{Tables, rebuild_of}

-- what `rebuild` and `update` leave, as tables
pub rebuild_leaves : (w h : ℕ) (diagonal : Bool) (t : Tables) (p k : List ℕ)
    → ◌≡◌ {A = Links} (record { parent = p; rank = k }) (rebuilt_links w h diagonal t.blocked t.parent t.rank)
    → ◌≡◌ {A = Tables} (record { blocked = t.blocked; masks = t.masks; forced = t.forced; parent = p; rank = k; dirty = false }) (rebuild_of w h diagonal t)
unfolding rebuild_of
rebuild_leaves w h diagonal t p k e = rw (ap (λ (v : Links). v.parent) e, ap (λ (v : Links). v.rank) e)
