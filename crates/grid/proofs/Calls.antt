-- What the calls that change a grid leave, by their tests' outcome. Assumes nothing.
use Rattle.std.specs.Prelude.{Ok, Err}
use mathlib.Core.Path.{◌≡◌, sym, ap, ◌∙◌}
use mathlib.Core.Bool.{Bool, true, false, cond}
use Prim.Native.Nat.{ℕ}
use Rattle.points.specs.declared.Point.{Point}
use Rattle.points.specs.declared.Refusal.{Refusal}
use Rattle.points.specs.declared.Refusal.TheVariants.{Size}
use Rattle.cells.specs.Cells.{sized_of, place_of}
use Rattle.tables.specs.Tables.{Tables, edit_of, update_of}
use Rattle.grid.specs.declared.Grid.{Grid}
use Rattle.grid.specs.declared.Change.{Change}
use Rattle.grid.specs.Grids.{tables_of, grid_of, stated_of, located_of, edit_grid, set_outcome, rebuild_grid, rebuild_outcome, update_grid, update_outcome, new_grid, new_outcome}

abbrev refused_with : Refusal → Grid → Change
refused_with r g = record { outcome = Err r; grid = g }

abbrev done_with : Grid → Change
done_with g = record { outcome = Ok (tt {0}); grid = g }

module _ (w h : ℕ) (g : Grid) where
  pub new_size : sized_of w h ≡ false → g ≡ new_grid 1 1 → refused_with Size g ≡ new_outcome w h
  unfolding new_outcome
  new_size e q = rw (e, q)

  pub new_done : sized_of w h ≡ true → g ≡ new_grid w h → done_with g ≡ new_outcome w h
  unfolding new_outcome
  new_done e q = rw (e, q)

module _ (g : Grid) (diagonal : Bool) where
  pub set_refused : (p : Point) (b : Bool) (r : Refusal) → Err r ≡ located_of g p → refused_with r g ≡ set_outcome g diagonal p b
  unfolding set_outcome
  set_refused p b r e = rw (← e)

  pub set_done : {i : ℕ} (p : Point) (b : Bool) → Ok i ≡ located_of g p → done_with (edit_grid g diagonal p b) ≡ set_outcome g diagonal p b
  unfolding set_outcome
  set_done p b e = rw (← e)

  pub set_edit : {i : ℕ} (p : Point) (b : Bool) (x y : ℕ) (t : Tables) → Ok i ≡ located_of g p → x ≡ place_of p.x g.width → y ≡ place_of p.y g.height
      → t ≡ edit_of g.width g.height diagonal (tables_of g) x y b → done_with (grid_of g.width g.height t) ≡ set_outcome g diagonal p b
  set_edit p b x y t e ex ey q =
      ap (λ (s : Tables). done_with (grid_of g.width g.height s)) (q ∙ rw (ex, ey)) ∙ set_done p b e

  pub rebuild_refused : (r : Refusal) → Err r ≡ stated_of g → refused_with r g ≡ rebuild_outcome g diagonal
  unfolding rebuild_outcome
  rebuild_refused r e = rw (← e)

  pub rebuild_done : {u : Unit} (n : Grid) → Ok u ≡ stated_of g → n ≡ rebuild_grid g diagonal → done_with n ≡ rebuild_outcome g diagonal
  unfolding rebuild_outcome
  rebuild_done n e q = rw (← e, q)

  pub update_refused : (r : Refusal) → Err r ≡ stated_of g → refused_with r g ≡ update_outcome g diagonal
  unfolding update_outcome
  update_refused r e = rw (← e)

  pub update_done : {u : Unit} (n : Grid) → Ok u ≡ stated_of g → n ≡ update_grid g diagonal → done_with n ≡ update_outcome g diagonal
  unfolding update_outcome
  update_done n e q = rw (← e, q)

  pick_dirty : (b : Bool) (s t : Tables) → b ≡ true → cond b s t ≡ s
  pick_dirty b s t e = rw e

  pub update_dirty : g.dirty ≡ true → rebuild_grid g diagonal ≡ update_grid g diagonal
  unfolding update_grid update_of rebuild_grid
  update_dirty d = ap (grid_of g.width g.height) (sym (pick_dirty g.dirty _ _ d))

  pub update_clean : g.dirty ≡ false → g ≡ update_grid g diagonal
  unfolding update_grid update_of
  update_clean d = rw d
