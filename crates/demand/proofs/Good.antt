-- What every grid that the calls make has: room, right masks, and a light forest. Assumes nothing.
use mathlib.Core.Path.{◌≡◌, refl}
use mathlib.Core.Bool.{Bool, true, false, not, cond}
use mathlib.Core.List.{List}
use Prim.Native.Nat.{ℕ, ◌+◌, ◌*◌, ◌^◌, ◌≤◌, ◌<◌}
use native.Mathlib.Omega.{arith}
use lib.ListN.{length, get_or, length-set}
use Rattle.components.specs.Components.{Links, Light}
use Rattle.components.proofs.Weight
use Rattle.masks.specs.Masks.{forced_of}
use Rattle.fills.specs.Fills.{MasksRight, fill_to, mask_at, new_blocked, new_parent}
use Rattle.cells.proofs.Cell.{cell_lt}
use Rattle.fills.proofs.Fills.{length_fill_to, get_fill_to, fill_right}
use Rattle.rebuilds.specs.Rebuilds.{singles}
use Rattle.tables.specs.Tables.{Tables, Room, links_of, new_of, edit_of, rebuild_of, update_of}
use Rattle.refresh.specs.Refresh.{blocks}
use Rattle.joins.specs.Joins.{around, joined_to}
use Rattle.joins.proofs.Joins.{Held, held_joined}
use Rattle.rebuilds.proofs.Rebuilds.{held_columns, held_singles}
use Rattle.demand.proofs.Masks.{Follows, forced_kept, right_small, length_masks, length_forced, fill_follows, edit_right}

pub record Good (m w h : ℕ) (t : Tables) : Type 0 where
  pub room : Room w h t
  pub masks : MasksRight w h t.blocked t.masks
  pub forced : Follows (w * h) t.masks t.forced
  pub light : Light m (w * h) t.parent t.rank

-- the tables of some cells: the masks that they give, and each cell its own component
abbrev pub filled : ℕ → ℕ → Tables → Tables
filled w h t = record {
  blocked = t.blocked;
  masks = fill_to (mask_at w h t.blocked) t.masks (w * h);
  forced = fill_to (λ i. forced_of (get_or (fill_to (mask_at w h t.blocked) t.masks (w * h)) i 0)) t.forced (w * h);
  parent = new_parent w h t.parent;
  rank = t.rank;
  dirty = t.dirty;
}

-- the union-find after an edit
abbrev pub edit_links : ℕ → ℕ → Bool → Tables → ℕ → ℕ → Bool → Links
edit_links w h diagonal t x y b = cond (blocks w t.blocked x y b) (links_of t) (joined_to w h t.blocked x y (around diagonal) (links_of t))

pub edit_either : (P : Links → Type 0) (w h : ℕ) (diagonal : Bool) (t : Tables) (x y : ℕ) (b : Bool)
    → P (links_of t) → P (joined_to w h t.blocked x y (around diagonal) (links_of t)) → P (edit_links w h diagonal t x y b)
edit_either P w h diagonal t x y b p q = go (blocks w t.blocked x y b)
  where
    go : (s : Bool) → P (cond s (links_of t) (joined_to w h t.blocked x y (around diagonal) (links_of t)))
    go true = p
    go false = q

module _ {m : ℕ} (w h : ℕ) (small : m ≤ 254) where
  pub held_self : {t : Tables} → Good m w h t → Held m (w * h) (links_of t) (links_of t)
  held_self G = record { light = G.light; long_p = refl; long_k = refl }

  pub held_edit : (diagonal : Bool) (t : Tables) (x y : ℕ) (b : Bool) → x < w → y < h → Good m w h t → Held m (w * h) (links_of t) (edit_links w h diagonal t x y b)
  held_edit diagonal t x y b hx hy G =
      edit_either (Held m (w * h) (links_of t)) w h diagonal t x y b (held_self G)
      (held_joined small w h t.blocked (links_of t) x y (cell_lt w h x y hx hy) (around diagonal) (links_of t) (held_self G))

  pub good_edit : (diagonal : Bool) (t : Tables) (x y : ℕ) (b : Bool) → x < w → y < h → Good m w h t → Good m w h (edit_of w h diagonal t x y b)
  unfolding edit_of
  good_edit diagonal t x y b hx hy G =
      let R = G.room in
      let K = held_edit diagonal t x y b hx hy G in
      record {
        room = record {
          blocked = omega (arith, length-set t.blocked (y * w + x) (cond b 1 0), R.blocked);
          masks = omega (arith, length_masks w h t.masks x y (not b), R.masks);
          forced = omega (arith, length_forced w h diagonal t.masks t.forced x y (not b), R.forced);
          parent = omega (arith, K.long_p, R.parent);
          rank = omega (arith, K.long_k, R.rank);
        };
        masks = edit_right w h t.blocked t.masks x y b hx hy R.blocked R.masks G.masks;
        forced = forced_kept w h x y diagonal t.masks t.forced (not b) hx hy R.masks R.forced (right_small w h t.blocked t.masks (omega arith) G.masks) G.forced;
        light = K.light;
      }

  module _ (fits : w * h ≤ 2 ^ m) where
    pub held_new : (p k : List ℕ) → w * h ≤ length p → w * h ≤ length k → Held m (w * h) (record { parent = p; rank = k }) (singles w h p k)
    held_new p k hp hk = held_singles m w h p k hp hk fits

    pub good_rebuild : (diagonal : Bool) (t : Tables) → Good m w h t → Good m w h (rebuild_of w h diagonal t)
    unfolding rebuild_of
    good_rebuild diagonal t G =
        let R = G.room in
        let K = held_columns small w h t.blocked (links_of t) diagonal w (omega arith) (singles w h t.parent t.rank) (held_new t.parent t.rank R.parent R.rank) in
        record {
          room = record {
            blocked = R.blocked;
            masks = R.masks;
            forced = R.forced;
            parent = omega (arith, K.long_p, R.parent);
            rank = omega (arith, K.long_k, R.rank);
          };
          masks = G.masks;
          forced = G.forced;
          light = K.light;
        }

    pub good_update : (diagonal : Bool) (t : Tables) → Good m w h t → Good m w h (update_of w h diagonal t)
    unfolding update_of
    good_update diagonal t G = go t.dirty
      where
        go : (s : Bool) → Good m w h (cond s (rebuild_of w h diagonal t) t)
        go true = good_rebuild diagonal t G
        go false = G

    pub good_filled : 0 < w → (t : Tables) → Room w h t → ((i : ℕ) → i < w * h → get_or t.rank i 0 ≡ 0) → Good m w h (filled w h t)
    good_filled hw t R flat =
        let masks = fill_to (mask_at w h t.blocked) t.masks (w * h) in
        let own = length_fill_to (λ i. i) t.parent (w * h) in
        record {
          room = record {
            blocked = R.blocked;
            masks = omega (arith, length_fill_to (mask_at w h t.blocked) t.masks (w * h), R.masks);
            forced = omega (arith, length_fill_to (λ i. forced_of (get_or masks i 0)) t.forced (w * h), R.forced);
            parent = omega (arith, own, R.parent);
            rank = R.rank;
          };
          masks = fill_right w h t.blocked t.masks hw R.masks;
          forced = fill_follows (w * h) masks t.forced R.forced;
          light = Weight.singles_light m (w * h) (new_parent w h t.parent) t.rank (omega (arith, own, R.parent)) R.rank
              (λ i hi. get_fill_to (λ i. i) t.parent (w * h) i hi R.parent) flat fits;
        }

    pub good_new : 0 < w → (t : Tables) → Room w h t → Good m w h (new_of w h t)
    unfolding new_of
    good_new hw t R =
        good_filled hw
        (record { blocked = new_blocked w h t.blocked; masks = t.masks; forced = t.forced; parent = t.parent; rank = new_blocked w h t.rank; dirty = false })
        (record {
          blocked = omega (arith, length_fill_to (λ i. 0) t.blocked (w * h), R.blocked);
          masks = R.masks;
          forced = R.forced;
          parent = R.parent;
          rank = omega (arith, length_fill_to (λ i. 0) t.rank (w * h), R.rank);
        })
        (λ i hi. get_fill_to (λ i. 0) t.rank (w * h) i hi R.rank)
