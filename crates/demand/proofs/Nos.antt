-- The dispatcher's rule: cells that a walk joins share a component, so no question about components says no of them; and a walk to another cell comes to it
-- from a neighbour, so no question about neighbours does. Assumes nothing.
use Rattle.std.specs.Prelude.{Result, Ok, Err}
use mathlib.Core.Path.{◌≡◌, refl, sym, ap, subst, ◌∙◌}
use mathlib.Core.Logic.{⊎_elim, inl, inr}
use mathlib.Core.Bool.{Bool, true, false, true≢false, not, ◌||◌}
use mathlib.Core.List.{List, [], ◌∷◌}
use Prim.Native.Nat.{ℕ, ◌+◌, ◌*◌, ◌/◌, ◌%◌, ◌<◌}
use native.Mathlib.Omega.{arith}
use native.Mathlib.Nat.{mul-add-mod_self_right, add-mul-div_right, mod-eq_of_lt, div-eq_of_lt, add_comm, zero-add}
use borrow.Author.Tests.{lt-ltb, lt-leb, eq-eqb}
use Rattle.components.specs.Components.{Same, root_of}
use Rattle.cells.specs.Cells.{cell_of, cell_to}
use Rattle.cells.proofs.Cell.{cell_lt, of_inside, same_cell}
use Rattle.tables.specs.Tables.{Tables}
use Rattle.joins.specs.Joins.{around}
use Rattle.questions.specs.Questions.{reachable_of, rooted_of, near_along, near_of, neighbours_reachable_of, neighbours_unreachable_of}
use Rattle.points.specs.declared.Refusal.{Refusal}
use Rattle.grid.specs.Grids.{grid_of, asked_of}
use Rattle.grid.specs.Questions.{answered, reachable_from, unreachable_from, neighbours_reachable_from, neighbours_unreachable_from}
use Rattle.demand.specs.Walks.{Free, Step, Walk, stay, move}
use Rattle.demand.specs.Calls.{begun}
use Rattle.demand.specs.Nos.{SaysNo, reachable, unreachable, neighbours_reachable, neighbours_unreachable, point, NoWalks, NoIsTrue}
use Rattle.demand.proofs.Walks.{step_back}
use Rattle.demand.proofs.Ways.{In, Way, step_around}
use Rattle.demand.proofs.Grids.{made}

-- a cell that is a point
pub at_point : (w h x y : ℕ) → x < w → y < h → cell_of w h (point x y) ≡ y * w + x
at_point w h x y hx hy = sym (of_inside w h (point x y) x y (rw (lt-ltb x w hx)) (rw (lt-ltb y h hy)) hx hy)

-- what an answer says
said : {A : Type 0} (o : Result A Refusal) (t b : Bool) → answered o t ≡ Ok b → t ≡ b
said (Ok a) t b e = cc
said (Err r) t b e = cc

or_right : (a b : Bool) → b ≡ true → a || b ≡ true
or_right true b e = refl
or_right false b e = e

module _ (w h : ℕ) (p : List ℕ) where
  rooted_yes : (r c : ℕ) → c < w * h → r ≡ root_of p c → rooted_of (w * h) p r c ≡ true
  unfolding rooted_of
  rooted_yes r c l e = rw (lt-ltb c (w * h) l, eq-eqb r (root_of p c) e)

  -- a listed direction that leads to a cell with the root r
  near_in : (r x y d : ℕ) (ds : List ℕ) → In d ds → rooted_of (w * h) p r (cell_to w h x y d) ≡ true → near_along w h p r x y ds ≡ true
  unfolding near_along
  near_in r x y d [] q e = absurd q
  near_in r x y d (k ∷ ds) (inl q) e = rw (subst (λ (m : ℕ). rooted_of (w * h) p r (cell_to w h x y m) ≡ true) q e)
  near_in r x y d (k ∷ ds) (inr q) e = or_right (rooted_of (w * h) p r (cell_to w h x y k)) (near_along w h p r x y ds) (near_in r x y d ds q e)

  module _ (a c : ℕ) (ha : a < w * h) (hc : c < w * h) where
    share_yes : Same p a c → reachable_of (w * h) p a c ≡ true
    unfolding reachable_of
    share_yes e = rw (lt-ltb a (w * h) ha) (rooted_yes (root_of p a) c hc e)

    near_yes : (diagonal : Bool) → near_of w h diagonal p a c ≡ true → neighbours_reachable_of w h diagonal p a c ≡ true
    unfolding neighbours_reachable_of
    near_yes diagonal e = rw (lt-leb (w * h) a ha, lt-leb (w * h) c hc) e

    near_no : (diagonal : Bool) → near_of w h diagonal p a c ≡ true → neighbours_unreachable_of w h diagonal p a c ≡ false
    unfolding neighbours_unreachable_of
    near_no diagonal e = rw (lt-leb (w * h) a ha, lt-leb (w * h) c hc, e)

-- tables whose components have the walks, and two free cells of them
module _ (w h : ℕ) (diagonal : Bool) (t : Tables) (joined : (a c : ℕ) → Walk w h t.blocked diagonal a c → Same t.parent a c)
    (x y i j : ℕ) (f : Free w h t.blocked x y) (g : Free w h t.blocked i j) where
  abbrev a : ℕ
  a = y * w + x

  abbrev c : ℕ
  c = j * w + i

  -- a walk to another cell comes to it from a neighbour
  arrives : {b : ℕ} → (a ≡ c → ⊥) → Walk w h t.blocked diagonal a b → b ≡ c → near_along w h t.parent (root_of t.parent a) i j (around diagonal) ≡ true
  arrives ne stay e = absurd (ne e)
  arrives ne (move {b = b} q m) e =
      let z = same_cell w m.i m.j i j m.enters.left g.left (sym m.to ∙ e) in
      let s : Step diagonal i j m.x m.y = rw (← z.0, ← z.1) (step_back m.step) in
      let l : m.y * w + m.x < w * h = cell_lt w h m.x m.y m.leaves.left m.leaves.down in
      ⊎_elim (λ (v : (i ≡ m.x) × (j ≡ m.y)). arrives ne q (m.from ∙ rw (v.0, v.1)))
      (λ (W : Way (around diagonal) w h i j m.x m.y).
      near_in w h t.parent (root_of t.parent a) i j W.d (around diagonal) W.listed
      (rooted_yes w h t.parent (root_of t.parent a) (cell_to w h i j W.d) (rw W.to l)
      (joined a b q ∙ ap (root_of t.parent) (m.from ∙ sym W.to))))
      (step_around w h diagonal i j m.x m.y g.left g.down m.leaves.left m.leaves.down s)

  walk_near : (a ≡ c → ⊥) → Walk w h t.blocked diagonal a c → near_of w h diagonal t.parent a c ≡ true
  unfolding near_of
  walk_near ne p =
      let hw : 0 < w = omega (arith, g.left) in
      let u : c % w ≡ i = mul-add-mod_self_right j w i ∙ mod-eq_of_lt g.left in
      let v : c / w ≡ j = rw (add_comm (j * w) i, add-mul-div_right i j hw, div-eq_of_lt g.left, zero-add) in
      rw (u, v) (arrives ne p refl)

  -- two different points are different cells
  apart : (point x y ≡ point i j → ⊥) → a ≡ c → ⊥
  apart ne e = let z = same_cell w x y i j f.left g.left e in ne (rw (z.0, z.1))

  ha : a < w * h
  ha = cell_lt w h x y f.left f.down

  hc : c < w * h
  hc = cell_lt w h i j g.left g.down

  abbrev asked : Result (ℕ × ℕ) Refusal
  asked = asked_of (grid_of w h t) (point x y) (point i j)

  no_walk : SaysNo (grid_of w h t) diagonal (point x y) (point i j) → Walk w h t.blocked diagonal a c → ⊥
  unfolding reachable_from unreachable_from neighbours_reachable_from neighbours_unreachable_from
  no_walk n p = go n (share_yes w h t.parent a c ha hc (joined a c p)) (at_point w h x y f.left f.down) (at_point w h i j g.left g.down)
    where
      go : SaysNo (grid_of w h t) diagonal (point x y) (point i j) → reachable_of (w * h) t.parent a c ≡ true
          → cell_of w h (point x y) ≡ a → cell_of w h (point i j) ≡ c → ⊥
      go (reachable e) q px pi = true≢false (sym q ∙ (rw (px, pi) at (said asked _ _ e)))
      go (unreachable e) q px pi = true≢false (sym (rw (px, pi) at (said asked _ _ e)) ∙ ap not q)
      go (neighbours_reachable ne e) q px pi =
          true≢false (sym (near_yes w h t.parent a c ha hc diagonal (walk_near (apart ne) p)) ∙ (rw (px, pi) at (said asked _ _ e)))
      go (neighbours_unreachable ne e) q px pi =
          true≢false (sym (rw (px, pi) at (said asked _ _ e)) ∙ near_no w h t.parent a c ha hc diagonal (walk_near (apart ne) p))

pub no_is_true : NoIsTrue
no_is_true s cs d g b es =
    let w = (begun s).width in
    let h = (begun s).height in
    let r = made s cs d g b es in
    subst (NoWalks w h d) (sym r.is) (no_walk w h d r.tables r.clauses.joined)
