-- What the demand shuts out: one component for all and walks through a blocked cell, by a 3 by 1 grid with its middle blocked, and singletons for all,
-- by a free 2 by 1 grid.
-- Assumes nothing.
use Rattle.std.specs.Prelude.{Ok, Err}
use mathlib.Core.Path.{◌≡◌, refl, sym, ap, subst, ◌∙◌}
use mathlib.Core.Logic.{inl}
use mathlib.Core.Bool.{Bool, true, cond}
use mathlib.Core.List.{List, [], ◌∷◌}
use Prim.Native.Nat.{ℕ, ◌+◌, ◌*◌, ◌<◌}
use native.Mathlib.Omega.{arith}
use native.Mathlib.Decide.{ℕ_discrete}
use lib.ListN.{length, get_or, length-replicate, set}
use lib.Seq.{get_or-set_same}
use Rattle.cells.specs.Cells.{most_side, sized_of, cell_of}
use Rattle.fills.specs.Fills.{new_blocked}
use Rattle.fills.proofs.Fills.{length_fill_to, get_fill_to}
use Rattle.tables.specs.Tables.{new_of, edit_of, rebuild_of}
use Rattle.points.specs.declared.Refusal.TheVariants.{Size}
use Rattle.grid.specs.declared.Grid.{Grid}
use Rattle.grid.specs.declared.Change.{Change}
use Rattle.grid.specs.Grids.{new_grid, new_outcome, rebuild_outcome, zeros, empty}
use Rattle.demand.specs.Walks.{Free, Walk, stay, move, NotThrough}
use Rattle.demand.specs.Calls.{new, begun, Call, after, generated, Edit, after_edits}
use Rattle.demand.specs.Calls as Calls
use Rattle.demand.specs.Nos.{point}
use Rattle.demand.specs.Demand3.{Clauses, DemandOf, OneForAll, Singletons}
use Rattle.demand.proofs.Starts.{good_empty}
use Rattle.demand.proofs.Grids.{edit_is, edit_good, rebuilt_is}
use Rattle.demand.proofs.Nos.{at_point}

-- the demand on a new grid whose sides are in range
new_is : (w h : ℕ) → sized_of w h ≡ true → begun (new w h) ≡ new_grid w h
unfolding new_outcome
new_is w h ok = ap (λ (b : Bool). (cond {A = Change} b (record { outcome = Ok tt; grid = new_grid w h }) (record { outcome = Err Size; grid = new_grid 1 1 })).grid) ok

abbrev rebuilt : Bool → List Call → Grid → Grid
rebuilt d cs g = (rebuild_outcome (after g cs) d).grid

of_new : (component : Grid → ℕ → ℕ) → DemandOf component → (w h : ℕ) → sized_of w h ≡ true → (cs : List Call) (d : Bool) (es : List Edit)
    → Clauses component w h d es (after_edits d (rebuilt d cs (new_grid w h)) es)
unfolding new_grid
of_new component D w h ok cs d es = subst (λ (g : Grid). Clauses component g.width g.height d es (after_edits d (rebuilt d cs g) es)) (new_is w h ok) (D (new w h) cs d (rebuilt d cs (begun (new w h))) generated es)

two : sized_of 2 1 ≡ true
unfolding sized_of
two = refl

three : sized_of 3 1 ≡ true
unfolding sized_of
three = refl

-- a rebuilt new grid is free
fresh : (rebuilt true [] (new_grid 2 1)).blocked ≡ new_blocked 2 1 zeros
unfolding new_grid rebuild_of new_of
fresh = ap (λ (g : Grid). g.blocked) (rebuilt_is 2 1 two true (new_of 2 1 empty) (good_empty 2 1 two))

long : (w h : ℕ) → length (new_blocked w h zeros) ≡ most_side * most_side
long w h = length_fill_to (λ i. 0) zeros (w * h) ∙ length-replicate {A = ℕ} (most_side * most_side) 0

free : (x : ℕ) → x < 2 → Free 2 1 (new_blocked 2 1 zeros) x 0
free x l =
    let e : 0 * 2 + x ≡ x = omega arith in
    record {
      left = l;
      down = omega arith;
      free = rw e (get_fill_to (λ i. 0) zeros 2 x l (omega (arith, length-replicate {A = ℕ} (most_side * most_side) 0)));
    }

step : Walk 2 1 (new_blocked 2 1 zeros) true 0 1
step = move stay
    (record {
      x = 0;
      y = 0;
      i = 1;
      j = 0;
      from = refl;
      to = refl;
      leaves = free 0 (omega arith);
      enters = free 1 (omega arith);
      step = record { across = (omega arith, omega arith); along = (omega arith, omega arith); straight = inl refl };
    })

pub singletons : Singletons
singletons D =
    let z : ◌≡◌ {A = ℕ} 0 1 = (of_new (λ g a. a) D 2 1 two [] true []).joined 0 1 (subst (λ (l : List ℕ). Walk 2 1 l true 0 1) (sym fresh) step) in
    omega arith

-- 3x1 `.#.`, rebuilt
cut : List Call
cut = Calls.set true (point 1 0) true ∷ []

walled : (rebuilt true cut (new_grid 3 1)).blocked ≡ set (new_blocked 3 1 zeros) 1 1
unfolding cut new_grid rebuild_of new_of edit_of
walled =
    let G = good_empty 3 1 three in
    let l : cell_of 3 1 (point 1 0) < 3 * 1 = omega (arith, at_point 3 1 1 0 (omega arith) (omega arith)) in
    ap (λ (g : Grid). (rebuild_outcome g true).grid.blocked) (edit_is 3 1 three true (point 1 0) true (new_of 3 1 empty) G l)
    ∙ ap (λ (g : Grid). g.blocked) (rebuilt_is 3 1 three true (edit_of 3 1 true (new_of 3 1 empty) 1 0 true) (edit_good 3 1 three true (point 1 0) true (new_of 3 1 empty) G l))

-- a walk from the left end of `.#.` stays there
stuck : (l : List ℕ) → get_or l 1 0 ≡ 1 → {c : ℕ} → Walk 3 1 l true 0 c → c ≡ 0
stuck l e stay = refl
stuck l e (move {b = a} {c = c} p m) = go (stuck l e p) (ℕ_discrete m.i 1)
  where
    go : a ≡ 0 → Dec (m.i ≡ 1) → c ≡ 0
    go b (yes q) =
        let r : m.j * 3 + m.i ≡ 1 = omega (arith, m.enters.down) in
        absurd (omega (arith, ap (λ (n : ℕ). get_or l n 0) r, m.enters.free))
    go b (no n) = omega (arith, m.from, m.to, m.enters.down, m.step.across.0)

pub not_through : NotThrough
not_through c p = stuck (0 ∷ 1 ∷ 0 ∷ []) refl p

pub one_for_all : OneForAll
unfolding cut
one_for_all D =
    let p = (of_new (λ g a. 0) D 3 1 three cut true []).parted refl 0 2 (omega arith) (omega arith) refl in
    let q = subst (λ (l : List ℕ). Walk 3 1 l true 0 2) walled p in
    let z : ◌≡◌ {A = ℕ} 2 0 = stuck (set (new_blocked 3 1 zeros) 1 1) (get_or-set_same (new_blocked 3 1 zeros) 1 1 0 (omega (arith, long 3 1))) q in
    omega arith
