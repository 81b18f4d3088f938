-- The test of a state in blocks: what a glance at a block shows, and what a block shows of the state. Assumes nothing.
use mathlib.Core.Path.{◌≡◌, refl}
use mathlib.Core.Logic.{⊎_elim, inl, inr}
use mathlib.Core.Bool.{Bool, true, false}
use mathlib.Core.List.{List}
use Prim.Native.Nat.{ℕ, zero, suc, ◌+◌, ◌-◌, ◌≤◌, ◌<◌}
use native.Mathlib.Omega.{arith}
use native.Mathlib.Nat.{eq-or-lt_of_le, le_of_suc-le-suc}
use lib.ListN.{get_or}
use lib.Dec.{ltb, leb}
use borrow.Author.Tests.{ltb-true, leb-true, leb-false}
use Rattle.states.specs.States.{all_to, cell_ok}
use Rattle.states.specs.Blocks.{Each, Near}
use Rattle.states.proofs.State.{all_at, all_of, cell_of, of_cell}

-- a cell near the root r of which no rank of its block is above top
pub glance : (n : ℕ) (p k : List ℕ) (r top i : ℕ) → r < n → top ≤ 200 → get_or k i 0 ≤ top → Near p r (ltb top (get_or k r 0)) i → cell_ok n p k i ≡ true
glance n p k r top i hr small low near =
    of_cell n p k i (omega arith)
    (⊎_elim (λ e. inl e) (λ w. let s = ltb-true top (get_or k r 0) w.1 in inr (rw w.0 hr, rw w.0 (omega (arith, low, s)))) near)

-- a block that passes, after cells that pass
pub all_block : (f : ℕ → Bool) (a d : ℕ) → all_to f a ≡ true → Each a d (λ i. f i ≡ true) → all_to f (a + d) ≡ true
all_block f a d e h = all_of f (a + d) (λ i l. go i l (leb a i) refl)
  where
    go : (i : ℕ) → i < a + d → (t : Bool) → leb a i ≡ t → f i ≡ true
    go i l true q =
        let g = leb-true a i q in
        let z : a + (i - a) ≡ i = omega (arith, g) in
        rw z at (h (i - a) (omega (arith, g, l)))
    go i l false q = all_at f a e i (leb-false a i q)

-- what fails early fails in the whole
pub all_more : (f : ℕ → Bool) (b n : ℕ) → b ≤ n → all_to f b ≡ false → all_to f n ≡ false
all_more f b zero h e = let q : b ≡ 0 = omega arith in rw q at e
all_more f b (suc n) h e =
    ⊎_elim (λ q. rw q at e) (λ l. rw (all_more f b n (le_of_suc-le-suc l) e)) (eq-or-lt_of_le h)

-- the root that a block's last cell has
pub last_root : (n b i : ℕ) (p k : List ℕ) → i < b → b ≤ n → all_to (cell_ok n p k) b ≡ true → get_or p i 0 < n
last_root n b i p k l le e = ⊎_elim (λ q. rw q (omega arith)) (λ w. w.0) (cell_of n p k i (all_at (cell_ok n p k) b e i l)).1
