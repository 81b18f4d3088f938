-- What a call on lent tables may rest on where the tests before it pass. Assumes nothing.
use mathlib.Core.Path.{◌≡◌, refl, sym}
use mathlib.Core.Bool.{Bool, true, false, cond}
use mathlib.Core.List.{List}
use Prim.Native.Nat.{ℕ, ◌*◌, ◌≤◌, ◌<◌}
use Rattle.std.specs.declared.result.Result.TheVariants.{Ok, Err}
use Rattle.std.specs.Prelude.{IfOk}
use Rattle.std.proofs.lemmas.Result.{IfOk-at_ok, IfOk-weaker}
use lib.ListN.{length}
use lib.Dec.{ltb, leb}
use borrow.Author.Tests.{ltb-true, leb-true}
use Rattle.points.specs.Plane.{legal}
use Rattle.points.specs.declared.Point.{Point}
use Rattle.points.specs.declared.Refusal.TheVariants.{State, BadPoint}
use Rattle.components.specs.Components.{Forest}
use Rattle.components.proofs.Loops.{and_true}
use Rattle.states.proofs.State.{state_of}
use Rattle.cells.specs.Cells.{most_side, sized_of, place_of, cell_of, Within}
use Rattle.cells.proofs.Cell.{area, places}
use Rattle.tables.specs.Tables.{Room}
use Rattle.cells.specs.Cells.{Sides}
use Rattle.cells.proofs.Cell.{sides_of_lem}
use Rattle.boundary.specs.Lent.{inside_of, links_ok, covers_ok, held_of, roomy_of, ground_ok, tables, located_of, asked_of}

-- ---- the tests

module _ (w h : ℕ) (p k : List ℕ) where
  -- what legal links have
  pub record Linked : Type 0 where
    pub sides : Sides w h
    pub cells : w * h ≤ most_side * most_side
    pub forest : Forest 200 (w * h) p k

  pub of_links : links_ok w h p k ≡ true → Linked
  unfolding links_ok
  of_links e =
      let a = and_true (sized_of w h) _ e in
      let b = and_true (leb (w * h) (length p)) _ a.1 in
      let c = and_true (leb (w * h) (length k)) _ b.1 in
      let s = sides_of_lem a.0 in
      record {
        sides = s;
        cells = area w h s.wide s.high;
        forest = state_of (w * h) p k (leb-true (w * h) (length p) b.0) (leb-true (w * h) (length k) c.0) c.1;
      }

module _ (w h : ℕ) (b p k : List ℕ) where
  -- what legal links with a table of cells have
  pub record Ground : Type 0 where
    pub linked : Linked w h p k
    pub table : w * h ≤ length b

  pub of_ground : ground_ok w h b p k ≡ true → Ground
  unfolding ground_ok
  of_ground e =
      let a = and_true (links_ok w h p k) _ e in
      record { linked = of_links w h p k a.0; table = leb-true (w * h) (length b) a.1 }

module _ (n : ℕ) (b e f : List ℕ) where
  -- tables of cells with their places
  pub record Covers : Type 0 where
    pub blocked : n ≤ length b
    pub masks : n ≤ length e
    pub forced : n ≤ length f

  pub of_covers : covers_ok n b e f ≡ true → Covers
  unfolding covers_ok
  of_covers q =
      let x = and_true (leb n (length b)) _ q in
      let y = and_true (leb n (length e)) _ x.1 in
      record { blocked = leb-true n (length b) x.0; masks = leb-true n (length e) y.0; forced = leb-true n (length f) y.1 }

module _ (w h : ℕ) (b e f p k : List ℕ) where
  -- what a lent grid has
  pub record Held : Type 0 where
    pub linked : Linked w h p k
    pub covers : Covers (w * h) b e f

  pub of_held : held_of w h b e f p k ≡ true → Held
  unfolding held_of
  of_held q =
      let a = and_true (links_ok w h p k) _ q in
      record { linked = of_links w h p k a.0; covers = of_covers (w * h) b e f a.1 }

  pub room : (dirty : Bool) → Held → Room w h (tables dirty b e f p k)
  room dirty a = record { blocked = a.covers.blocked; masks = a.covers.masks; forced = a.covers.forced; parent = a.linked.forest.in_p; rank = a.linked.forest.in_k }

pub of_roomy : (w h : ℕ) (b e f p k : List ℕ) → roomy_of (w * h) b e f p k ≡ true → Room w h (tables false b e f p k)
unfolding roomy_of
of_roomy w h b e f p k q =
    let x = and_true (leb (w * h) (length p)) _ q in
    let y = and_true (leb (w * h) (length k)) _ x.1 in
    let c = of_covers (w * h) b e f y.1 in
    record { blocked = c.blocked; masks = c.masks; forced = c.forced; parent = leb-true (w * h) (length p) x.0; rank = leb-true (w * h) (length k) y.0 }

-- ---- cells

-- the column and the row of a point that is a cell
pub within : (w h x y : ℕ) (q : Point) → cell_of w h q < w * h → x ≡ place_of q.x w → y ≡ place_of q.y h → Sides w h → Within w h x y
within w h x y q inside ex ey s = let a = places w h q inside in record { wide = s.wide; high = s.high; left = rw ex a.0; down = rw ey a.1 }

-- a point that is a cell
pub record Inside (w h : ℕ) (q : Point) (i : ℕ) : Type 0 where
  pub spot : i ≡ cell_of w h q
  pub cell : cell_of w h q < w * h

module _ (w h : ℕ) (q : Point) where
  inside_facts : IfOk (inside_of w h q) (Inside w h q)
  inside_facts = go (ltb (cell_of w h q) (w * h)) (ltb-true (cell_of w h q) (w * h))
    where
      go : (l : Bool) → (l ≡ true → cell_of w h q < w * h) → IfOk (cond l (Ok (cell_of w h q)) (Err (BadPoint q))) (Inside w h q)
      go true f = record { spot = refl; cell = f refl }
      go false f = tt

  pub of_inside : (i : ℕ) → Ok i ≡ inside_of w h q → Inside w h q i
  of_inside i e = IfOk-at_ok (Inside w h q) (sym e) inside_facts

-- a cell of a lent grid
pub record Located (w h : ℕ) (e p k : List ℕ) (q : Point) (i : ℕ) : Type 0 where
  pub ground : Ground w h e p k
  pub inside : Inside w h q i

module _ (w h : ℕ) (e p k : List ℕ) (q : Point) where
  located_facts : IfOk (located_of w h e p k q) (Located w h e p k q)
  unfolding located_of
  located_facts = go (ground_ok w h e p k) (of_ground w h e p k)
    where
      go : (s : Bool) → (s ≡ true → Ground w h e p k) → IfOk (cond s (inside_of w h q) (Err State)) (Located w h e p k q)
      go true g = IfOk-weaker (inside_of w h q) (Inside w h q) (Located w h e p k q) (λ (i : ℕ) (a : Inside w h q i). record { ground = g refl; inside = a }) (inside_facts w h q)
      go false g = tt

  pub of_located : (i : ℕ) → Ok i ≡ located_of w h e p k q → Located w h e p k q i
  of_located i z = IfOk-at_ok (Located w h e p k q) (sym z) located_facts

-- the links of a question that is answered
module _ (w h : ℕ) (p k : List ℕ) (s g : Point) where
  asked_facts : IfOk (asked_of w h p k s g) (λ _. Linked w h p k)
  unfolding asked_of
  asked_facts = go (links_ok w h p k) (legal s) (legal g) (of_links w h p k)
    where
      go : (l a b : Bool) → (l ≡ true → Linked w h p k)
          → IfOk {T = ℕ × ℕ} {E = ℕ} (cond l (cond a (cond b (Ok (cell_of w h s, cell_of w h g)) (Err 2259152797696)) (Err 1159641169920)) (Err 8589934592)) (λ _. Linked w h p k)
      go true true true f = f refl
      go true true false f = tt
      go true false b f = tt
      go false a b f = tt

  pub of_asked : (i : ℕ × ℕ) → Ok i ≡ asked_of w h p k s g → Linked w h p k
  of_asked i z = IfOk-at_ok (λ (_ : ℕ × ℕ). Linked w h p k) (sym z) asked_facts
