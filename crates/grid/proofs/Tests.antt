-- The tests that come before each call: what each says, and what a call may rest on where they pass. Assumes nothing.
use Rattle.std.specs.Prelude.{Ok, Err}
use mathlib.Core.Path.{◌≡◌, refl, sym, ◌∙◌}
use mathlib.Core.Bool.{Bool, true, false, cond}
use Prim.Native.Nat.{ℕ, ◌*◌, ◌≤◌, ◌<◌}
use native.Mathlib.Omega.{arith}
use lib.ListN.{length}
use lib.Dec.{ltb}
use borrow.Author.Tests.{lt-ltb, le-ltb, ltb-true}
use Rattle.points.specs.Plane.{legal}
use Rattle.points.specs.declared.Point.{Point}
use Rattle.points.specs.declared.Refusal.{Refusal}
use Rattle.points.specs.declared.Refusal.TheVariants.{State, BadPoint}
use Rattle.components.specs.Components.{Forest}
use Rattle.states.specs.States.{state_ok}
use Rattle.components.proofs.Loops.{and_true}
use Rattle.states.proofs.State.{state_of, of_state}
use Rattle.cells.specs.Cells.{most_side, sized_of, Sides}
use Rattle.cells.proofs.Cell.{area, sides_of_lem}
use Rattle.grid.specs.declared.Grid.{Grid}
use Rattle.grid.specs.Grids.{Fits, legal_of, cell_in, stated_of, located_of, asked_of}

module _ (g : Grid) where
  pub bad_size : sized_of g.width g.height ≡ false → false ≡ legal_of g
  unfolding legal_of
  bad_size e = rw e

  pub good_size : sized_of g.width g.height ≡ true → state_ok (g.width * g.height) g.parent g.rank ≡ legal_of g
  unfolding legal_of
  good_size e = rw e

  -- what a legal grid value has
  pub record Fit : Type 0 where
    pub sides : Sides g.width g.height
    pub cells : g.width * g.height ≤ most_side * most_side
    pub state : state_ok (g.width * g.height) g.parent g.rank ≡ true

  pub of_legal_lem : legal_of g ≡ true → Fit
  unfolding legal_of
  of_legal_lem e =
      let a = and_true (sized_of g.width g.height) (state_ok (g.width * g.height) g.parent g.rank) e in
      let s = sides_of_lem a.0 in
      record { sides = s; cells = area g.width g.height s.wide s.high; state = a.1 }

  -- LAW: STATE is not refused exactly of a legal state
  pub forest : legal_of g ≡ true → most_side * most_side ≤ length g.parent → most_side * most_side ≤ length g.rank → Forest 200 (g.width * g.height) g.parent g.rank
  forest e hp hk = let f = of_legal_lem e in state_of _ _ _ (omega (arith, f.cells)) (omega (arith, f.cells)) f.state

  pub legal_of_lem : {b : ℕ} → b ≤ 200 → sized_of g.width g.height ≡ true → Forest b (g.width * g.height) g.parent g.rank → legal_of g ≡ true
  legal_of_lem small s F = sym (good_size s) ∙ of_state small F

  pub fits : legal_of g ≡ true → most_side * most_side ≤ length g.parent → most_side * most_side ≤ length g.rank → Fits g
  fits e hp hk = let f = of_legal_lem e in record { sides = f.sides; cells = f.cells; forest = forest e hp hk }

  pub stated_yes : legal_of g ≡ true → Ok (tt {0}) ≡ stated_of g
  unfolding stated_of
  stated_yes e = rw e

  pub stated_no : legal_of g ≡ false → Err State ≡ stated_of g
  unfolding stated_of
  stated_no e = rw e

  pub done_stated : {u : Unit} → Ok u ≡ stated_of g → legal_of g ≡ true
  unfolding stated_of
  done_stated {u} e = go (legal_of g) e
    where
      go : (b : Bool) → Ok u ≡ cond b (Ok (tt {0})) (Err State) → b ≡ true
      go true q = refl
      go false q = cc

  pub not_stated : {r : Refusal} → Err r ≡ stated_of g → (legal_of g ≡ false) × (r ≡ State)
  unfolding stated_of
  not_stated {r} e = go (legal_of g) e
    where
      go : (b : Bool) → Err r ≡ cond b (Ok (tt {0})) (Err State) → (b ≡ false) × (r ≡ State)
      go true q = cc
      go false q = (refl, cc)

  module _ (p : Point) where
    pub located_state : {r : Refusal} → Err r ≡ stated_of g → Err r ≡ located_of g p
    unfolding located_of
    located_state e = let q = not_stated e in rw (q.0, q.1)

    pub located_in : (i : ℕ) → legal_of g ≡ true → i ≡ cell_in g p → i < g.width * g.height → Ok i ≡ located_of g p
    unfolding located_of
    located_in i e q l = rw (e, ← q, lt-ltb i (g.width * g.height) l)

    pub located_out : (i : ℕ) → legal_of g ≡ true → i ≡ cell_in g p → g.width * g.height ≤ i → Err (BadPoint p) ≡ located_of g p
    unfolding located_of
    located_out i e q l = rw (e, ← q, le-ltb i (g.width * g.height) l)

    -- what is known of a cell that was located
    pub done_located : {i : ℕ} → Ok i ≡ located_of g p → (legal_of g ≡ true) × ((cell_in g p < g.width * g.height) × (i ≡ cell_in g p))
    unfolding located_of
    done_located {i} e =
        let r = go (legal_of g) (ltb (cell_in g p) (g.width * g.height)) e in
        (r.0, (ltb-true _ _ r.1.0, r.1.1))
      where
        go : (b t : Bool) → Ok i ≡ cond b (cond t (Ok (cell_in g p)) (Err (BadPoint p))) (Err State) → (b ≡ true) × ((t ≡ true) × (i ≡ cell_in g p))
        go true true q = (refl, (refl, cc))
        go true false q = cc
        go false t q = cc

  module _ (start goal : Point) where
    pub asked_state : {r : Refusal} → Err r ≡ stated_of g → Err r ≡ asked_of g start goal
    unfolding asked_of
    asked_state e = let q = not_stated e in rw (q.0, q.1)

    pub asked_start : legal_of g ≡ true → legal start ≡ false → Err (BadPoint start) ≡ asked_of g start goal
    unfolding asked_of
    asked_start e a = rw (e, a)

    pub asked_goal : legal_of g ≡ true → legal start ≡ true → legal goal ≡ false → Err (BadPoint goal) ≡ asked_of g start goal
    unfolding asked_of
    asked_goal e a b = rw (e, a, b)

    pub asked_done : {a c : ℕ} → legal_of g ≡ true → legal start ≡ true → legal goal ≡ true → a ≡ cell_in g start → c ≡ cell_in g goal → Ok (a, c) ≡ asked_of g start goal
    unfolding asked_of
    asked_done e a b p q = rw (e, a, b, p, q)

    -- what is known of the cells that were asked of
    pub done_asked : {q : ℕ × ℕ} → Ok q ≡ asked_of g start goal → (legal_of g ≡ true) × (q ≡ (cell_in g start, cell_in g goal))
    unfolding asked_of
    done_asked {q} e = go (legal_of g) (legal start) (legal goal) e
      where
        go : (b s t : Bool) → Ok q ≡ cond b (cond s (cond t (Ok (cell_in g start, cell_in g goal)) (Err (BadPoint goal))) (Err (BadPoint start))) (Err State) → (b ≡ true) × (q ≡ (cell_in g start, cell_in g goal))
        go true true true r = (refl, cc)
        go true true false r = cc
        go true false t r = cc
        go false s t r = cc
