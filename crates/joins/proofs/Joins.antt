-- Laws of the joins: what one does, and what a run of them does. Assumes nothing.
use mathlib.Core.Path.{◌≡◌, refl, sym, ap, ◌∙◌}
use mathlib.Core.Bool.{Bool, true, false, cond}
use mathlib.Core.List.{List, [], ◌∷◌}
use Prim.Native.Nat.{ℕ, ◌+◌, ◌*◌, ◌≤◌, ◌<◌}
use native.Mathlib.Omega.{arith}
use native.Mathlib.Numerals.{add-one}
use lib.ListN.{length, get_or, drop, drop_of_length-le}
use lib.Seq.{drop-cons}
use lib.Dec.{T, eqb, ltb, leb, ltb→lt, leb→le}
use borrow.Author.Tests.{lt-ltb, eq-eqb, ltb-true, eqb-true}
use Rattle.components.specs.Components.{Links, united, Forest, Light}
use Rattle.components.proofs.Roots
use Rattle.components.proofs.Weight
use Rattle.cells.specs.Cells.{cell_to}
use Rattle.cells.proofs.Small.{all, of_all}
use Rattle.joins.specs.Joins.{around, ahead, join_cell, joined_to, Ways}

-- the two ways of a join
pub join_cases : (P : Links → Type 0) (n : ℕ) (blocked : List ℕ) (i c : ℕ) (u : Links)
    → P u → (c < n → get_or blocked c 0 ≡ 0 → P (united u.parent u.rank i c)) → P (join_cell n blocked i c u)
unfolding join_cell
join_cases P n blocked i c u none some = go (ltb c n) (eqb (get_or blocked c 0) 0) refl refl
  where
    go : (s t : Bool) → ltb c n ≡ s → eqb (get_or blocked c 0) 0 ≡ t → P (cond s (cond t (united u.parent u.rank i c) u) u)
    go true true e₁ e₂ = some (ltb-true _ _ e₁) (eqb-true _ _ e₂)
    go true false e₁ e₂ = none
    go false t e₁ e₂ = none

pub join_free : (n : ℕ) (blocked : List ℕ) (i c : ℕ) (u : Links) → c < n → get_or blocked c 0 ≡ 0 → join_cell n blocked i c u ≡ united u.parent u.rank i c
unfolding join_cell
join_free n blocked i c u h e = rw (lt-ltb c n h, eq-eqb (get_or blocked c 0) 0 e)

-- a legal state with ranks at most b, and the lengths of u
pub record Kept (b n : ℕ) (u v : Links) : Type 0 where
  pub legal : Forest b n v.parent v.rank
  pub long_p : length v.parent ≡ length u.parent
  pub long_k : length v.rank ≡ length u.rank

pub kept_join : {b n : ℕ} (u v : Links) (blocked : List ℕ) (i c : ℕ) → Kept b n u v → b ≤ 254 → i < n → Kept (b + 1) n u (join_cell n blocked i c v)
kept_join {b} {n} u v blocked i c K small hi =
    join_cases (Kept (b + 1) n u) n blocked i c v
    (record { legal = Roots.weaken (b + 1) (omega arith) K.legal; long_p = K.long_p; long_k = K.long_k })
    (λ hc _.
    let J = Roots.united_law K.legal small i c hi hc in
    record { legal = J.legal; long_p = J.long_p ∙ K.long_p; long_k = J.long_k ∙ K.long_k })

-- one direction of a run
pub joined_turn : (w h : ℕ) (blocked : List ℕ) (x y : ℕ) (ds : List ℕ) (k : ℕ) (u v z : Links) → k < length ds
    → v ≡ join_cell (w * h) blocked (y * w + x) (cell_to w h x y (get_or ds k 0)) u
    → joined_to w h blocked x y (drop k ds) u ≡ z → joined_to w h blocked x y (drop (k + 1) ds) v ≡ z
unfolding joined_to
joined_turn w h blocked x y ds k u v z hk ev e = rw (ev, add-one) (sym (ap (λ (l : List ℕ). joined_to w h blocked x y l u) (drop-cons ds k 0 hk)) ∙ e)

pub joined_end : (w h : ℕ) (blocked : List ℕ) (x y : ℕ) (ds : List ℕ) (k : ℕ) (u z : Links) → length ds ≤ k
    → joined_to w h blocked x y (drop k ds) u ≡ z → u ≡ z
unfolding joined_to
joined_end w h blocked x y ds k u z le e = rw (drop_of_length-le ds le) at e

pub kept_turn : {n : ℕ} (k : ℕ) (u v q : Links) (blocked : List ℕ) (i c : ℕ) → Kept (200 + k) n u v → k < 8 → i < n → q ≡ join_cell n blocked i c v → Kept (200 + (k + 1)) n u q
kept_turn {n} k u v q blocked i c K small hi e =
    let J = kept_join u v blocked i c K (omega arith) hi in
    rw e (record { legal = Roots.weaken (200 + (k + 1)) (omega arith) J.legal; long_p = J.long_p; long_k = J.long_k })

-- a light forest, with the lengths of u
pub record Held (m n : ℕ) (u v : Links) : Type 0 where
  pub light : Light m n v.parent v.rank
  pub long_p : length v.parent ≡ length u.parent
  pub long_k : length v.rank ≡ length u.rank

module _ {m n : ℕ} (small : m ≤ 254) (u : Links) where
  pub held_join : (blocked : List ℕ) (i c : ℕ) (v : Links) → Held m n u v → i < n → Held m n u (join_cell n blocked i c v)
  held_join blocked i c v K hi =
      join_cases (Held m n u) n blocked i c v K
      (λ hc _.
      let J = Roots.united_law K.light.forest small i c hi hc in
      record { light = Weight.united_light K.light small i c hi hc; long_p = J.long_p ∙ K.long_p; long_k = J.long_k ∙ K.long_k })

module _ {m : ℕ} (small : m ≤ 254) (w h : ℕ) (blocked : List ℕ) (u : Links) where
  pub held_joined : (x y : ℕ) → y * w + x < w * h → (ds : List ℕ) (v : Links) → Held m (w * h) u v → Held m (w * h) u (joined_to w h blocked x y ds v)
  unfolding joined_to
  held_joined x y hi [] v K = K
  held_joined x y hi (d ∷ ds) v K = held_joined x y hi ds _ (held_join small u blocked (y * w + x) (cell_to w h x y d) v K hi)

-- a list of directions, told by a test
pub ways : (l : List ℕ) → T (leb (length l) 8) → T (all (λ i. ltb (get_or l i 0) 8) (length l)) → Ways l
ways l few each = record { few = leb→le (length l) 8 few; each = λ k h. ltb→lt _ 8 (of_all (λ i. ltb (get_or l i 0) 8) (length l) each k h) }

pub ways_around : (d : Bool) → Ways (around d)
unfolding around
ways_around true = ways _ tt tt
ways_around false = ways _ tt tt

pub ways_ahead : (d : Bool) → Ways (ahead d)
unfolding ahead
ways_ahead true = ways _ tt tt
ways_ahead false = ways _ tt tt
