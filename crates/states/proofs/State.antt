-- The test of a state: it says yes exactly of a legal state. Assumes nothing.
use Rattle.std.specs.List.{list_all, range_with_len}
use mathlib.Core.Path.{◌≡◌, refl, sym}
use mathlib.Core.Logic.{⊎_elim, inl, inr}
use mathlib.Core.Bool.{Bool, true, false, ◌&&◌, ◌||◌}
use mathlib.Core.List.{List}
use Prim.Native.Nat.{ℕ, zero, suc, ◌+◌, ◌≤◌, ◌<◌}
use native.Mathlib.Omega.{arith}
use native.Mathlib.Numerals.{add-one}
use native.Mathlib.Nat.{not-suc-le-zero, eq-or-lt_of_le, le_of_suc-le-suc}
use lib.ListN.{length, get_or}
use lib.Dec.{eqb, ltb}
use borrow.Author.Tests.{le-leb, lt-ltb, eq-eqb, leb-true, ltb-true, eqb-true}
use Rattle.components.specs.Components.{Up, Forest}
use Rattle.components.proofs.Loops.{and_true, or_true}
use Rattle.states.specs.States.{all_to, cell_ok, state_ok}

and_false : (a : Bool) → a && false ≡ false
and_false true = refl
and_false false = refl

or_right : (a b : Bool) → b ≡ true → a || b ≡ true
or_right true b e = refl
or_right false b e = e

-- a loop of tests that stops at one that fails
pub all_stop : (f : ℕ → Bool) (i : ℕ) → f i ≡ false → (n : ℕ) → i < n → all_to f n ≡ false
all_stop f i e zero h = absurd (not-suc-le-zero h)
all_stop f i e (suc n) h =
    ⊎_elim (λ q. rw (← q, e) (and_false (all_to f i)))
    (λ l. rw (all_stop f i e n l)) (eq-or-lt_of_le (le_of_suc-le-suc h))

pub all_at : (f : ℕ → Bool) (n : ℕ) → all_to f n ≡ true → (i : ℕ) → i < n → f i ≡ true
all_at f zero e i h = absurd (not-suc-le-zero h)
all_at f (suc n) e i h =
    ⊎_elim (λ q. rw q (and_true (all_to f n) (f n) e).1) (λ l. all_at f n (and_true (all_to f n) (f n) e).0 i l)
    (eq-or-lt_of_le (le_of_suc-le-suc h))

pub all_of : (f : ℕ → Bool) (n : ℕ) → ((i : ℕ) → i < n → f i ≡ true) → all_to f n ≡ true
all_of f zero h = refl
all_of f (suc n) h = rw (all_of f n (λ i l. h i (omega arith)), h n (omega arith))

pub cell_of : (n : ℕ) (p k : List ℕ) (i : ℕ) → cell_ok n p k i ≡ true → (get_or k i 0 ≤ 200) × Up n p k i
unfolding cell_ok
cell_of n p k i e =
    let a = and_true _ _ e in (
      leb-true _ _ a.0,
      ⊎_elim (λ q. inl (eqb-true _ _ q)) (λ q. let b = and_true _ _ q in inr (ltb-true _ _ b.0, ltb-true _ _ b.1)) (or_true _ _ a.1),
    )

pub of_cell : (n : ℕ) (p k : List ℕ) (i : ℕ) → get_or k i 0 ≤ 200 → Up n p k i → cell_ok n p k i ≡ true
unfolding cell_ok
of_cell n p k i l u =
    rw (le-leb (get_or k i 0) 200 l)
    (⊎_elim (λ e. rw (eq-eqb (get_or p i 0) i e))
    (λ w. or_right (eqb (get_or p i 0) i) (ltb (get_or p i 0) n && ltb (get_or k i 0) (get_or k (get_or p i 0) 0)) (rw (lt-ltb (get_or p i 0) n w.0, lt-ltb (get_or k i 0) (get_or k (get_or p i 0) 0) w.1))) u)

-- LAW: a state that passes is legal
pub state_of : (n : ℕ) (p k : List ℕ) → n ≤ length p → n ≤ length k → state_ok n p k ≡ true → Forest 200 n p k
state_of n p k hp hk e =
    record {
      in_p = hp;
      in_k = hk;
      low = λ i h. (cell_of n p k i (all_at (cell_ok n p k) n e i h)).0;
      up = λ i h. (cell_of n p k i (all_at (cell_ok n p k) n e i h)).1;
    }

-- LAW: a legal state passes
pub of_state : {b n : ℕ} {p k : List ℕ} → b ≤ 200 → Forest b n p k → state_ok n p k ≡ true
of_state {b} {n} {p} {k} small F = all_of (cell_ok n p k) n (λ i h. of_cell n p k i (omega (arith, F.low i h)) (F.up i h))

-- a chain of tests over the numbers from a on, where those below a pass
pub all_range : (f : ℕ → Bool) (a d : ℕ) → all_to f a ≡ true → list_all f (range_with_len a d) ≡ all_to f (a + d)
all_range f a zero e = let z : a + 0 ≡ a = omega arith in rw (z, e)
all_range f a (suc d) e = go (f a) refl (λ t. all_range f (a + 1) d t)
  where
    end : (a + 1) + d ≡ a + suc d
    end = omega arith

    go : (t : Bool) → f a ≡ t → (all_to f (a + 1) ≡ true → list_all f (range_with_len (a + 1) d) ≡ all_to f ((a + 1) + d)) → f a && list_all f (range_with_len (a + 1) d) ≡ all_to f (a + suc d)
    go true q ih = rw (q, ← end) (ih (rw (add-one, e) q))
    go false q ih = rw q (sym (all_stop f a q (a + suc d) (omega arith)))
