-- The tables of a grid, and what the calls that change them make of them: new, an edit, a rebuild, an update.
-- w and h, the sides, are parameters. A cell (x, y) has the number y * w + x. Assumes nothing.
use Rattle.std.specs.Prelude.{Bool, false, not, cond, ◌||◌, List, ℕ, ◌+◌, ◌*◌, ◌≤◌, length, set}
use Rattle.components.specs.Components.{Links}
use Rattle.fills.specs.Fills.{new_blocked, new_masks, new_forced, new_parent}
use Rattle.refresh.specs.Refresh.{blocks, masks_after, forced_after}
use Rattle.joins.specs.Joins.{around, joined_to}
use Rattle.rebuilds.specs.Rebuilds.{rebuilt_links}

-- the tables of a grid: which cells are blocked (0 is free), the neighbour masks, the forced masks, the union-find's parents and ranks, and the mark
pub record Tables : Type 0 where
  pub blocked : List ℕ
  pub masks : List ℕ
  pub forced : List ℕ
  pub parent : List ℕ
  pub rank : List ℕ
  pub dirty : Bool

-- what the components of a grid are made of
abbrev pub links_of : Tables → Links
links_of t = record { parent = t.parent; rank = t.rank }

-- `set`: a free cell that becomes blocked marks dirty and joins nothing; every other edit joins the cell with its free neighbours. Then the masks and the cell
unfoldable pub edit_of : ℕ → ℕ → Bool → Tables → ℕ → ℕ → Bool → Tables
edit_of w h diagonal t x y b = record {
  blocked = set t.blocked (y * w + x) (cond b 1 0);
  masks = masks_after w h t.masks x y (not b);
  forced = forced_after w h diagonal t.masks t.forced x y (not b);
  parent = (cond (blocks w t.blocked x y b) (links_of t) (joined_to w h t.blocked x y (around diagonal) (links_of t))).parent;
  rank = (cond (blocks w t.blocked x y b) (links_of t) (joined_to w h t.blocked x y (around diagonal) (links_of t))).rank;
  dirty = blocks w t.blocked x y b || t.dirty;
}

-- a rebuild: from singletons, column by column; the mark is cleared
unfoldable pub rebuild_of : ℕ → ℕ → Bool → Tables → Tables
rebuild_of w h diagonal t = record {
  blocked = t.blocked;
  masks = t.masks;
  forced = t.forced;
  parent = (rebuilt_links w h diagonal t.blocked t.parent t.rank).parent;
  rank = (rebuilt_links w h diagonal t.blocked t.parent t.rank).rank;
  dirty = false;
}

-- `update` rebuilds if dirty
unfoldable pub update_of : ℕ → ℕ → Bool → Tables → Tables
update_of w h diagonal t = cond t.dirty (rebuild_of w h diagonal t) t

-- a new grid in the room t: all free, singletons, not dirty
unfoldable pub new_of : ℕ → ℕ → Tables → Tables
new_of w h t = record {
  blocked = new_blocked w h t.blocked;
  masks = new_masks w h t.blocked t.masks;
  forced = new_forced w h t.blocked t.masks t.forced;
  parent = new_parent w h t.parent;
  rank = new_blocked w h t.rank;
  dirty = false;
}

-- every table has a place for each cell
pub record Room (w h : ℕ) (t : Tables) : Type 0 where
  pub blocked : w * h ≤ length t.blocked
  pub masks : w * h ≤ length t.masks
  pub forced : w * h ≤ length t.forced
  pub parent : w * h ≤ length t.parent
  pub rank : w * h ≤ length t.rank
