-- Keys tell estimates and costs: a key is one number written with two digits, the estimate's before the guess's. Assumes nothing.
use mathlib.Core.Path.{◌≡◌}
use mathlib.Core.Logic.{◌⊎◌, inl, inr}
use Prim.Native.Nat.{ℕ, ◌+◌, ◌<◌, ◌≤◌}
use native.Mathlib.Omega.{arith}
use Rattle.keys.specs.Keys.{key_of, estimate_of, cost_of}
use Rattle.keys.specs.Ties.{Fits, KeysTell}
use Rattle.sifts.proofs.Turns.{by_order}

module _ (k h l g : ℕ) (a : Fits k h) (b : Fits l g) where
  cost_back : cost_of (key_of (k + h) h) ≡ k
  unfolding key_of cost_of
  cost_back = omega (arith, a.low, a.near)

  estimate_back : estimate_of (key_of (k + h) h) ≡ k + h
  unfolding key_of estimate_of
  estimate_back = omega (arith, a.low, a.near)

  estimate_le : key_of (l + g) g ≤ key_of (k + h) h → k + h ≤ l + g
  unfolding key_of
  estimate_le q = omega (arith, a.low, a.near, b.low, b.near)

  tie_le : k + h ≡ l + g → key_of (l + g) g ≤ key_of (k + h) h → l ≤ k
  unfolding key_of
  tie_le e q = omega (arith, a.low, a.near, b.low, b.near)

  above : key_of (l + g) g ≤ key_of (k + h) h → (k + h < l + g) ⊎ ((k + h ≡ l + g) × (l ≤ k))
  above q =
      by_order (l + g) (k + h)
      (λ z. let e : k + h ≡ l + g = omega (arith, z, estimate_le q) in inr (e, tie_le e q))
      (λ z. inl z)

  same : key_of (k + h) h ≡ key_of (l + g) g → (k + h ≡ l + g) × (k ≡ l)
  unfolding key_of
  same q = let e : k + h ≡ l + g = omega (arith, a.low, a.near, b.low, b.near) in (e, omega (arith, a.near, b.near))

  equal : k + h ≡ l + g → k ≡ l → key_of (k + h) h ≡ key_of (l + g) g
  equal e q = let z : h ≡ g = omega arith in rw (e, z)

-- LAW: within their ranges, keys tell estimates and costs
pub keys_tell : KeysTell
keys_tell k h l g a b =
    record {
      cost = cost_back k h l g a b;
      estimate = estimate_back k h l g a b;
      same = same k h l g a b;
      equal = equal k h l g a b;
      above = above k h l g a b;
    }
