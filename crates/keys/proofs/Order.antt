-- The order of keys is that of the search: the smaller estimate, and on a tie the larger cost, which is the smaller guess. Assumes nothing.
use Prim.Native.Nat.{ℕ, ◌+◌, ◌-◌, ◌^◌, ◌<◌, ◌≤◌}
use mathlib.Core.Path.{◌≡◌, ap, ◌∙◌}
use mathlib.Core.List.{List}
use mathlib.Core.Logic.{⊎_elim, inl, inr}
use native.Mathlib.Omega.{arith}
use lib.ListN.{length}
use Rattle.sifts.specs.declared.Entry.{Entry}
use Rattle.sifts.specs.Sifts.{at}
use Rattle.fringe.specs.Fringe.{top}
use Rattle.fringe.specs.Order.{Each, Ordered}
use Rattle.fringe.proofs.Laws.{top_most}
use Rattle.keys.specs.Keys.{key_of, estimate_of, cost_of}
use Rattle.keys.specs.Order.{Packed, Before}
use Rattle.sifts.proofs.Turns.{by_order}

module _ (e h : ℕ) (he : e < 2 ^ 41) (hh : h < 2 ^ 23) where
  key_estimate : estimate_of (key_of e h) ≡ e
  unfolding key_of estimate_of
  key_estimate = omega arith

  pub key_cost : cost_of (key_of e h) ≡ e - h
  unfolding key_of cost_of
  key_cost = omega arith

  module _ (d g : ℕ) (hd : d < 2 ^ 41) (hg : g < 2 ^ 23) where
    key_less : d < e → key_of e h < key_of d g
    unfolding key_of
    key_less l = omega arith

    key_le : key_of e h < key_of d g → d ≤ e
    unfolding key_of
    key_le l = omega arith

tie_less : (e h g : ℕ) → h < 2 ^ 23 → g < 2 ^ 23 → g < h → key_of e h < key_of e g
unfolding key_of
tie_less e h g hh hg l = omega arith

less_tie : (e h g : ℕ) → h < 2 ^ 23 → g < 2 ^ 23 → key_of e h < key_of e g → g < h
unfolding key_of
less_tie e h g hh hg l = omega arith

-- what a packed entry gives back
module _ (a : Entry) (p : Packed a) where
  packed_estimate : estimate_of a.key ≡ p.cost + p.guess
  packed_estimate = ap estimate_of p.held ∙ key_estimate (p.cost + p.guess) p.guess p.low p.near

  packed_cost : cost_of a.key ≡ p.cost
  packed_cost =
      let q : cost_of a.key ≡ p.cost + p.guess - p.guess = ap cost_of p.held ∙ key_cost (p.cost + p.guess) p.guess p.low p.near in
      omega (arith, q)

-- the larger key is popped first, and that is exactly the search's order
module _ (a b : Entry) (p : Packed a) (q : Packed b) where
  pub before_key : Before a b → b.key < a.key
  before_key =
      ⊎_elim
      (λ l. less (omega (arith, l, packed_estimate a p, packed_estimate b q)))
      (λ w. tied (omega (arith, w.0, packed_estimate a p, packed_estimate b q)) (omega (arith, w.1, packed_cost a p, packed_cost b q)))
    where
      less : p.cost + p.guess < q.cost + q.guess → b.key < a.key
      less l =
          omega (arith, p.held, q.held, key_less (q.cost + q.guess) q.guess q.low q.near (p.cost + p.guess) p.guess p.low p.near l)

      tied : p.cost + p.guess ≡ q.cost + q.guess → q.cost < p.cost → b.key < a.key
      tied e l =
          omega (arith, p.held, ap (λ (x : ℕ). key_of x p.guess) e, q.held, tie_less (q.cost + q.guess) q.guess p.guess q.near p.near (omega (arith, e, l)))

  pub key_before : b.key < a.key → Before a b
  key_before l =
      let l' : key_of (q.cost + q.guess) q.guess < key_of (p.cost + p.guess) p.guess = omega (arith, l, p.held, q.held) in
      let le = key_le (q.cost + q.guess) q.guess q.low q.near (p.cost + p.guess) p.guess p.low p.near l' in
      by_order (q.cost + q.guess) (p.cost + p.guess)
      (λ h.
      let e : p.cost + p.guess ≡ q.cost + q.guess = omega (arith, h, le) in
      let g : p.guess < q.guess = less_tie (q.cost + q.guess) q.guess p.guess q.near p.near (omega (arith, l', ap (λ (x : ℕ). key_of x p.guess) e)) in
      inr (omega (arith, e, packed_estimate a p, packed_estimate b q), omega (arith, e, g, packed_cost a p, packed_cost b q)))
      (λ h. inl (omega (arith, h, packed_estimate a p, packed_estimate b q)))

-- no entry is to be popped before the one that is
pub top_first : (l : List Entry) → Ordered l → 0 < length l → Each Packed l → Each (λ x. Before x (top l) → ⊥) l
unfolding top
top_first l w pos k i h b = omega (arith, top_most l w i h, before_key (at l i) (at l 0) (k i h) (k 0 pos) b)
