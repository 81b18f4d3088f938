-- `grid::set` meets its contract. Assumes nothing.
use mathlib.Core.Path.{◌≡◌, sym, ap, ◌∙◌}
use Prim.Native.Nat.{◌*◌}
use native.Mathlib.Omega.{arith}
use lib.IntN.{ℤ}
use lib.ListN.{length}
use mir.Syntax.{w32}
use mir.Facts.{to_z-of_z}
use Rattle.cells.specs.Cells.{most_side, place_of}
use Rattle.cells.proofs.Cell.{places}
use Rattle.grid.specs.Grids.{set_outcome}
use Rattle.grid.proofs.Tests
use Rattle.grid.proofs.Calls
use borrow.Author.Rules.{rules}
use Rattle.grid.proofs.set.Goals as goal

pub returns-in_err-located : goal.returns-in_err-located
unfolding set_outcome
returns-in_err-located c = search rules

pub invariant_of-at : goal.invariant_of-at
invariant_of-at c =
    let g = c.args.g.now in
    let d = Tests.done_located g c.args.p (sym c.in_ok-located.was ∙ c.located.ensures.is) in
    let f = Tests.of_legal_lem g d.0 in
    let ex = c.place-x.ensures ∙ ap (λ (z : ℤ). place_of z g.width) (to_z-of_z {w = w32} {z = c.args.p.x} (record { sfits = c.struct_told-1.given.0.1 })) in
    let ey = c.place-y.ensures ∙ ap (λ (z : ℤ). place_of z g.height) (to_z-of_z {w = w32} {z = c.args.p.y} (record { sfits = c.struct_told-2-1.given.1.0.1 })) in
    let q = places g.width g.height c.args.p d.1.0 in
    record { within = record { wide = f.sides.wide; high = f.sides.high; left = rw ex q.0; down = rw ey q.1 } }

pub edit-g-requires : goal.edit-g-requires
edit-g-requires c =
    let g = c.args.g.now in
    let d = Tests.done_located g c.args.p (sym c.in_ok-located.was ∙ c.located.ensures.is) in
    let f = Tests.of_legal_lem g d.0 in
    let lb : length g.blocked ≡ most_side * most_side = search rules in
    let ln : length g.neighbours ≡ most_side * most_side = search rules in
    let lf : length g.forced ≡ most_side * most_side = search rules in
    let lp : length g.parent ≡ most_side * most_side = search rules in
    let lk : length g.rank ≡ most_side * most_side = search rules in (
      record { blocked = omega (arith, f.cells); masks = omega (arith, f.cells); forced = omega (arith, f.cells); parent = omega (arith, f.cells); rank = omega (arith, f.cells) },
      Tests.forest g d.0 (omega arith) (omega arith),
    )

pub returns : goal.returns
returns c =
    let g = c.args.g.now in
    let ex = c.place-x.ensures ∙ ap (λ (z : ℤ). place_of z g.width) (to_z-of_z {w = w32} {z = c.args.p.x} (record { sfits = c.struct_told-1.given.0.1 })) in
    let ey = c.place-y.ensures ∙ ap (λ (z : ℤ). place_of z g.height) (to_z-of_z {w = w32} {z = c.args.p.y} (record { sfits = c.struct_told-2-1.given.1.0.1 })) in
    Calls.set_edit g c.args.diagonal c.args.p c.args.b _ _ _ (sym c.in_ok-located.was ∙ c.located.ensures.is) ex ey c.edit-g.ensures
