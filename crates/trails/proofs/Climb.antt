-- The loops along the parents: the nodes passed, and the points written. Assumes nothing.
use mathlib.Core.Path.{◌≡◌, refl, ap, sym, ◌∙◌}
use mathlib.Core.Bool.{Bool, true, false, cond}
use mathlib.Core.List.{List, [], ◌∷◌}
use Prim.Native.Nat.{ℕ, zero, suc, ◌+◌, ◌-◌, ◌*◌, ◌^◌, ◌<◌, ◌≤◌}
use native.Mathlib.Nat.{le_refl}
use native.Mathlib.Omega.{arith}
use borrow.Author.Tests.{ne_eqb}
use lib.Dec.{eqb}
use lib.ListN.{length, get_or, set}
use lib.Seq.{sets, set_comm}
use lib.IntN.{ℤ}
use Rattle.points.specs.declared.Point.{Point}
use Rattle.goals.specs.declared.Plan.{Plan}
use Rattle.offers.specs.Search.{place_point}
use Rattle.trails.specs.Trail.{route_of, pairs, Climbs, Tall}

-- a route ends with what was there already
route_pick : (b : Bool) (i : ℕ) (acc l : List ℕ) → length acc + 1 ≤ length l → length acc + 1 ≤ length (cond b (i ∷ acc) l)
route_pick true i acc l h = omega arith
route_pick false i acc l h = h

route_long : (parent : List ℕ) (f i : ℕ) (acc : List ℕ) → length acc + 1 ≤ length (route_of parent f i acc)
unfolding route_of
route_long parent zero i acc = omega arith
route_long parent (suc f) i acc = let h = route_long parent f (get_or parent i 0) (i ∷ acc) in route_pick (eqb i 0) i acc (route_of parent f (get_or parent i 0) (i ∷ acc)) (omega arith)

-- at the start the route is done
route_end : (parent : List ℕ) (f : ℕ) (acc : List ℕ) → route_of parent f 0 acc ≡ 0 ∷ acc
unfolding route_of
route_end parent zero acc = refl
route_end parent (suc f) acc = refl

route_step : (parent : List ℕ) (f i : ℕ) (acc : List ℕ) → 0 < i → 0 < f → route_of parent f i acc ≡ route_of parent (f - 1) (get_or parent i 0) (i ∷ acc)
unfolding route_of
route_step parent zero i acc up h = absurd (omega arith)
route_step parent (suc f) i acc up h =
    let z : suc f - 1 ≡ f = omega arith in
    rw (z, ne_eqb i 0 (λ e. omega arith))

-- the nodes passed are in acc; the route from i over them is the answer
module _ (parent cost : List ℕ) (count : ℕ) (answer : List ℕ) where
  pub record Climbing (i n : ℕ) (acc : List ℕ) : Type 0 where
    pub inside : i < count
    pub fuel : ℕ
    pub enough : get_or cost i 0 ≤ fuel
    pub few : fuel + n < 2 ^ 41
    pub long : length acc + 1 ≡ n
    pub same : route_of parent fuel i acc ≡ answer

  pub climb_next : (a : Climbs parent cost count) (i n : ℕ) (acc : List ℕ) → Climbing i n acc → 0 < i → Climbing (get_or parent i 0) (n + 1) (i ∷ acc)
  climb_next a i n acc c h =
      let f = a.falls i c.inside h in
      let e = c.enough in
      record {
        inside = a.known i c.inside h;
        fuel = c.fuel - 1;
        enough = omega arith;
        few = omega (arith, c.few);
        long = omega (arith, c.long);
        same = sym (route_step parent c.fuel i acc h (omega arith)) ∙ c.same;
      }

  pub climb_end : (i n : ℕ) (acc : List ℕ) → Climbing i n acc → i ≤ 0 → 0 ∷ acc ≡ answer
  climb_end i n acc c h =
      let z : i ≡ 0 = omega arith in
      sym (route_end parent c.fuel acc) ∙ ap (λ (x : ℕ). route_of parent c.fuel x acc) (sym z) ∙ c.same

  pub climb_more : (i n : ℕ) (acc : List ℕ) → Climbs parent cost count → Climbing i n acc → 0 < i → n < length answer
  climb_more i n acc a c h =
      let d = climb_next a i n acc c h in
      omega (arith, c.long, route_long parent d.fuel (get_or parent i 0) (i ∷ acc), ap length d.same)

  pub record Stepping (i n : ℕ) : Type 0 where
    pub acc : List ℕ
    pub here : Climbing i n acc

  pub record Writing (p : Plan) (place : List ℕ) (out₀ out : List ℤ) (i j : ℕ) : Type 0 where
    pub acc : List ℕ
    pub count_down : ℕ
    pub here : Climbing i count_down acc
    pub some : 1 ≤ j
    pub back : j + count_down ≡ length answer + 1
    pub size : length out ≡ length out₀
    pub wrote : out ≡ sets out₀ (2 * j) (pairs p place acc)

-- a store below a run of stores
set_sets : (l : List ℤ) (i k : ℕ) (a : ℤ) (vs : List ℤ) → i < k → set (sets l k vs) i a ≡ sets (set l i a) k vs
set_sets l i k a [] h = refl
set_sets l i k a (v ∷ vs) h =
    let h' : i < suc k = omega arith in
    set_sets (set l k v) i (suc k) a vs h' ∙ ap (λ (x : List ℤ). sets x (suc k) vs) (set_comm l k i v a (λ e. omega arith))

-- two more in front
put_front : (l : List ℤ) (p : Plan) (j i : ℕ) (place acc : List ℕ)
    → set (set (sets l (2 * (j + 1)) (pairs p place acc)) (2 * j) (place_point p (get_or place i 0)).x) (2 * j + 1) (place_point p (get_or place i 0)).y ≡ sets l (2 * j) (pairs p place (i ∷ acc))
unfolding pairs
put_front l p j i place acc =
    let e1 : 2 * j + 1 ≡ suc (2 * j) = omega arith in
    let e2 : 2 * (j + 1) ≡ suc (suc (2 * j)) = omega arith in
    let h1 : 2 * j < suc (suc (2 * j)) = omega arith in
    let h2 : suc (2 * j) < suc (suc (2 * j)) = omega arith in
    rw (e1, e2)
    (ap (λ (x : List ℤ). set x (suc (2 * j)) (place_point p (get_or place i 0)).y) (set_sets l (2 * j) (suc (suc (2 * j))) (place_point p (get_or place i 0)).x (pairs p place acc) h1)
    ∙ set_sets (set l (2 * j) (place_point p (get_or place i 0)).x) (suc (2 * j)) (suc (suc (2 * j))) (place_point p (get_or place i 0)).y (pairs p place acc) h2)

module _ (p : Plan) (place parent cost : List ℕ) (count : ℕ) (answer : List ℕ) (a : Climbs parent cost count) (out₀ : List ℤ) where
  -- while there are points to write before the last, the node is not the start
  pub write_more : (out : List ℤ) (i j : ℕ) → Writing parent cost count answer p place out₀ out i j → 1 < j → 0 < i
  write_more out zero j x h = let r = climb_end parent cost count answer zero x.count_down x.acc x.here (omega arith) in omega (arith, x.back, x.here.long, ap length r)
  write_more out (suc i) j x h = omega arith

  pub write_next : (out out' : List ℤ) (i j : ℕ) (q : Point) → Writing parent cost count answer p place out₀ out i j → 1 < j → q ≡ place_point p (get_or place i 0)
      → out' ≡ set (set out (2 * (j - 1)) q.x) (2 * (j - 1) + 1) q.y → length out' ≡ length out
      → Writing parent cost count answer p place out₀ out' (get_or parent i 0) (j - 1)
  write_next out out' i j q x h is e l =
      let z : j - 1 + 1 ≡ j = omega arith in
      record {
        acc = i ∷ x.acc;
        count_down = x.count_down + 1;
        here = climb_next parent cost count answer a i x.count_down x.acc x.here (write_more out i j x h);
        some = omega arith;
        back = omega (arith, x.back);
        size = l ∙ x.size;
        wrote = e
            ∙ ap (λ (y : List ℤ). set (set y (2 * (j - 1)) q.x) (2 * (j - 1) + 1) q.y) (x.wrote ∙ ap (λ (y : ℕ). sets out₀ (2 * y) (pairs p place x.acc)) (sym z))
            ∙ ap (λ (u : Point). set (set (sets out₀ (2 * (j - 1 + 1)) (pairs p place x.acc)) (2 * (j - 1)) u.x) (2 * (j - 1) + 1) u.y) is
            ∙ put_front out₀ p (j - 1) i place x.acc;
      }

  pub write_end : (out out' : List ℤ) (i j : ℕ) (q : Point) → Writing parent cost count answer p place out₀ out i j → j ≤ 1 → q ≡ place_point p (get_or place 0 0)
      → out' ≡ set (set out 0 q.x) 1 q.y
      → out' ≡ sets out₀ 0 (pairs p place answer)
  write_end out out' i j q x h is e =
      let z : j ≡ 1 = omega (arith, x.some) in
      let r = climb_end parent cost count answer i x.count_down x.acc x.here (last i (λ m. climb_more parent cost count answer i x.count_down x.acc a x.here m) (omega (arith, x.back))) in
      e
      ∙ ap (λ (y : List ℤ). set (set y 0 q.x) 1 q.y) (x.wrote ∙ ap (λ (y : ℕ). sets out₀ (2 * y) (pairs p place x.acc)) z)
      ∙ ap (λ (u : Point). set (set (sets out₀ 2 (pairs p place x.acc)) 0 u.x) 1 u.y) is
      ∙ put_front out₀ p 0 0 place x.acc
      ∙ ap (λ (y : List ℕ). sets out₀ 0 (pairs p place y)) r
    where
      last : {n m : ℕ} (i : ℕ) → (0 < i → n < m) → m ≤ n → i ≤ 0
      last zero f l = omega arith
      last (suc i) f l = absurd (omega (arith, f (omega arith)))

module _ (parent cost : List ℕ) (count at : ℕ) (t : Tall cost count at) where
  pub climb_start : Climbing parent cost count (route_of parent (get_or cost at 0) at []) at 1 []
  climb_start =
      record { inside = t.inside; fuel = get_or cost at 0; enough = le_refl (get_or cost at 0); few = omega (arith, t.low); long = refl; same = refl }

  pub write_start : (p : Plan) (place : List ℕ) (n : ℕ) (out : List ℤ) → 1 ≤ n → n ≡ length (route_of parent (get_or cost at 0) at []) → Writing parent cost count (route_of parent (get_or cost at 0) at []) p place out out at n
  unfolding pairs
  write_start p place n out h e = record { acc = []; count_down = 1; here = climb_start; some = h; back = omega (arith, e); size = refl; wrote = refl }
