-- What two tests that pass together say, and what a loop leaves: laws that this crate's users want. Assumes nothing.
use mathlib.Core.Path.{◌≡◌, refl}
use mathlib.Core.Logic.{◌⊎◌, inl, inr}
use mathlib.Core.Bool.{Bool, true, false, ◌&&◌, ◌||◌}
use Prim.Native.Nat.{ℕ, ◌≤◌}
use native.Mathlib.Omega.{arith}

pub and_true : (a b : Bool) → a && b ≡ true → (a ≡ true) × (b ≡ true)
and_true true b e = (refl, e)
and_true false true e = (e, refl)
and_true false false e = (e, e)

pub or_true : (a b : Bool) → a || b ≡ true → (a ≡ true) ⊎ (b ≡ true)
or_true true b e = inl refl
or_true false b e = inr e

-- a loop that went by f up to n
pub ended : {A : Type 0} (f : ℕ → A) (n d : ℕ) (a : A) → d ≤ n → n ≤ d → a ≡ f d → a ≡ f n
ended f n d a le ge e = let q : d ≡ n = omega arith in rw q at e
