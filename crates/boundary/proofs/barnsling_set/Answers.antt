-- `boundary::barnsling_set` is safe: five tables that were tested are a grid, and a cell that is found is in them. Assumes nothing.
use mathlib.Core.Path.{◌≡◌, sym}
use mir.Facts.{to_z-of_z}
use Rattle.cells.specs.Cells.{place_of}
use Rattle.packing.specs.Packing.{point_of}
use Rattle.boundary.proofs.Lent as L
use Rattle.boundary.proofs.barnsling_set.Goals as goal

pub inside-requires : goal.inside-requires
inside-requires c = (L.of_held c.args.w c.args.h c.args.blocked.now c.args.neighbours.now c.args.forced.now c.args.parent.now c.args.rank.now (sym c.if-not-held.ensures)).linked.sides

pub invariant_of-at : goal.invariant_of-at
invariant_of-at c =
    let z = L.of_held c.args.w c.args.h c.args.blocked.now c.args.neighbours.now c.args.forced.now c.args.parent.now c.args.rank.now (sym c.if-not-held.ensures) in
    let a = L.of_inside c.args.w c.args.h c.point.result c.in_default.field-0 c.in_default.ensures in
    let ex : c.place-cx.result ≡ place_of c.args.x c.args.w = simp (to_z-of_z c.ranges.x) at c.place-cx.ensures in
    let ey : c.place-cy.result ≡ place_of c.args.y c.args.h = simp (to_z-of_z c.ranges.y) at c.place-cy.ensures in
    let e : c.point.result ≡ point_of c.args.x c.args.y = simp (to_z-of_z c.ranges.x, to_z-of_z c.ranges.y) at c.point.ensures in
    record { within = L.within c.args.w c.args.h _ _ (point_of c.args.x c.args.y) (rw (← e) a.cell) ex ey z.linked.sides }

pub edit-d-requires : goal.edit-d-requires
edit-d-requires c =
    let z = L.of_held c.args.w c.args.h c.args.blocked.now c.args.neighbours.now c.args.forced.now c.args.parent.now c.args.rank.now (sym c.if-not-held.ensures) in
    (L.room c.args.w c.args.h c.args.blocked.now c.args.neighbours.now c.args.forced.now c.args.parent.now c.args.rank.now _ z, z.linked.forest)
