-- Laws of a rebuild's cells and columns: each keeps a light forest. Assumes nothing.
use mathlib.Core.Path.{◌≡◌, refl, ap, ◌∙◌}
use mathlib.Core.Bool.{Bool, true, false, cond}
use mathlib.Core.List.{List}
use Prim.Native.Nat.{ℕ, zero, suc, ◌+◌, ◌*◌, ◌^◌, ◌≤◌, ◌<◌}
use native.Mathlib.Omega.{arith}
use native.Mathlib.Numerals.{add-one}
use native.Mathlib.Nat.{mul-le-mul}
use lib.ListN.{length, get_or}
use lib.Dec.{eqb}
use borrow.Author.Tests.{eq-eqb}
use Rattle.components.specs.Components.{Links, Light}
use Rattle.components.proofs.Weight
use Rattle.cells.specs.Cells.{Sides}
use Rattle.cells.proofs.Cell.{cell_lt}
use Rattle.fills.specs.Fills.{new_parent, new_blocked}
use Rattle.fills.proofs.Fills.{length_fill_to, get_fill_to}
use Rattle.joins.specs.Joins.{ahead, joined_to}
use Rattle.joins.proofs.Joins.{Held, held_joined}
use Rattle.rebuilds.specs.Rebuilds.{cell_joined, column_to, columns_to, singles, most_rank}

-- a rebuild keeps a light forest, with the lengths of u
module _ {m : ℕ} (small : m ≤ 254) (w h : ℕ) (blocked : List ℕ) (u : Links) (diagonal : Bool) where
  pub held_cell : (x y : ℕ) → x < w → y < h → (v : Links) → Held m (w * h) u v → Held m (w * h) u (cell_joined w h diagonal blocked x y v)
  unfolding cell_joined
  held_cell x y hx hy v K = go (eqb (get_or blocked (y * w + x) 0) 0)
    where
      go : (t : Bool) → Held m (w * h) u (cond t (joined_to w h blocked x y (ahead diagonal) v) v)
      go true = held_joined small w h blocked u x y (cell_lt w h x y hx hy) (ahead diagonal) v K
      go false = K

  pub held_column : (x : ℕ) → x < w → (j : ℕ) → j ≤ h → (v : Links) → Held m (w * h) u v → Held m (w * h) u (column_to w h diagonal blocked x j v)
  unfolding column_to
  held_column x hx zero hj v K = K
  held_column x hx (suc j) hj v K = held_cell x j hx hj _ (held_column x hx j (omega arith) v K)

  pub held_columns : (i : ℕ) → i ≤ w → (v : Links) → Held m (w * h) u v → Held m (w * h) u (columns_to w h diagonal blocked i v)
  unfolding columns_to
  held_columns zero hi v K = K
  held_columns (suc i) hi v K = held_column i hi h (omega arith) _ (held_columns i (omega arith) v K)

-- the singletons
pub held_singles : (m w h : ℕ) (p k : List ℕ) → w * h ≤ length p → w * h ≤ length k → w * h ≤ 2 ^ m → Held m (w * h) (record { parent = p; rank = k }) (singles w h p k)
held_singles m w h p k hp hk small =
    record {
      light = Weight.singles_light m (w * h) (new_parent w h p) (new_blocked w h k)
          (omega (arith, length_fill_to (λ i. i) p (w * h)))
          (omega (arith, length_fill_to (λ i. 0) k (w * h)))
          (λ i hi. get_fill_to (λ i. i) p (w * h) i hi hp)
          (λ i hi. get_fill_to (λ i. 0) k (w * h) i hi hk)
          small;
      long_p = length_fill_to (λ i. i) p (w * h);
      long_k = length_fill_to (λ i. 0) k (w * h);
    }

-- a turn at a column, and at the columns
pub column_turn : (w h : ℕ) (diagonal : Bool) (blocked : List ℕ) (x j : ℕ) (u v q : Links)
    → v ≡ column_to w h diagonal blocked x j u → q ≡ cell_joined w h diagonal blocked x j v → q ≡ column_to w h diagonal blocked x (j + 1) u
unfolding column_to
column_turn w h diagonal blocked x j u v q e f = rw (add-one) (f ∙ ap (cell_joined w h diagonal blocked x j) e)

pub columns_turn : (w h : ℕ) (diagonal : Bool) (blocked : List ℕ) (i : ℕ) (u v q : Links)
    → v ≡ columns_to w h diagonal blocked i u → q ≡ column_to w h diagonal blocked i h v → q ≡ columns_to w h diagonal blocked (i + 1) u
unfolding columns_to
columns_turn w h diagonal blocked i u v q e f = rw (add-one) (f ∙ ap (column_to w h diagonal blocked i h) e)

pub column_none : (w h : ℕ) (diagonal : Bool) (blocked : List ℕ) (x : ℕ) (u : Links) → u ≡ column_to w h diagonal blocked x 0 u
unfolding column_to
column_none w h diagonal blocked x u = refl

pub columns_none : (w h : ℕ) (diagonal : Bool) (blocked : List ℕ) (u : Links) → u ≡ columns_to w h diagonal blocked 0 u
unfolding columns_to
columns_none w h diagonal blocked u = refl

pub cell_free : (w h : ℕ) (diagonal : Bool) (blocked : List ℕ) (x y : ℕ) (u : Links) → get_or blocked (y * w + x) 0 ≡ 0 → joined_to w h blocked x y (ahead diagonal) u ≡ cell_joined w h diagonal blocked x y u
unfolding cell_joined
cell_free w h diagonal blocked x y u e = rw (eq-eqb (get_or blocked (y * w + x) 0) 0 e)

pub light_as : {m n : ℕ} (p k q l : List ℕ) → q ≡ p → l ≡ k → Light m n p k → Light m n q l
light_as p k q l e f L = rw (e, f) L

-- the cells of a grid are few enough
pub fits : {w h : ℕ} → Sides w h → w * h ≤ 2 ^ most_rank
fits s = omega (arith, mul-le-mul s.wide s.high)
