-- A test that antt computes at each number below a small one, and a lemma that carries it.
-- Assumes nothing.
use Prim.Native.Nat.{ℕ, zero, suc, ◌<◌}
use mathlib.Core.Path.{sym, subst}
use mathlib.Core.Bool.{Bool, true, false, ◌&&◌}
use mathlib.Core.Logic.{⊎_elim}
use native.Mathlib.Nat.{not-suc-le-zero, eq-or-lt_of_le, le_of_suc-le-suc}
use lib.Dec.{T}

pub both_left : (a b : Bool) → T (a && b) → T a
both_left true b t = tt
both_left false b t = t

pub both_right : (a b : Bool) → T (a && b) → T b
both_right true b t = t
both_right false b t = absurd t

-- the test f passes at each number below n
abbrev pub all : (ℕ → Bool) → ℕ → Bool
all f zero = true
all f (suc n) = ((f n) && (all f n))

pub of_all : (f : ℕ → Bool) (n : ℕ) → T (all f n) → (k : ℕ) → k < n → T (f k)
of_all f zero t k h = absurd (not-suc-le-zero h)
of_all f (suc n) t k h =
    ⊎_elim (λ e. subst (λ (i : ℕ). T (f i)) (sym e) (both_left (f n) (all f n) t))
    (λ l. of_all f n (both_right (f n) (all f n) t) k l) (eq-or-lt_of_le (le_of_suc-le-suc h))
