-- `maps::read` meets its contract: the length, the header, then the rows. Assumes nothing.
use mathlib.Core.Path.{◌≡◌, sym, ap, ◌∙◌, subst}
use native.Mathlib.Omega.{arith}
use mathlib.Core.List.{List}
use Prim.Native.Nat.{ℕ}
use lib.ListN.{length}
use lib.Seq.{sets}
use Rattle.std.specs.Prelude.{Ok, Err}
use Rattle.std.proofs.Common.{rules}
use Rattle.cells.proofs.Cell.{area}
use Rattle.rows.specs.Rows.{rows_of, cells_of}
use Rattle.maps.specs.declared.Header.{Header}
use Rattle.maps.specs.Maps.{head_of, Fair}
use Rattle.maps.proofs.Laws.{HBounded, head_fair, side_most, map_long, map_head, map_rows, map_cells}
use Rattle.maps.proofs.read.Goals as goal

fair : (s : List ℕ) (m : Header) (k : ℕ) → head_of s ≡ Ok (m, k) → Fair m
fair s m k e = (subst (HBounded (length s)) e (head_fair s)).0

pub returns-then-s-gt-TEXT : goal.returns-then-s-gt-TEXT
returns-then-s-gt-TEXT c =
    let a = c.args in
    map_long a.s.now a.blocked.now c.if-s-gt-TEXT.true

pub returns-in_err-m : goal.returns-in_err-m
returns-in_err-m c =
    let a = c.args in
    let e : c.from_residual.result ≡ Err c.in_err-m.field-0.0 = search rules in
    let m = map_head a.s.now a.blocked.now c.if-s-gt-TEXT.false c.in_err-m.field-0.0 c.in_err-m.ensures in
    (e ∙ m.0, m.1)

pub read_rows-requires : goal.read_rows-requires
read_rows-requires c =
    let r = c.in_ok-m.ensures in
    let f = fair c.args.s.now c.in_ok-m.m r.0 r.1 in
    let w = side_most c.in_ok-m.m.width f.wide in
    let h = side_most c.in_ok-m.m.height f.high in
    (h, omega (arith, area c.in_ok-m.m.height c.in_ok-m.m.width h w, c.requires))

pub returns-in_err-read_rows : goal.returns-in_err-read_rows
returns-in_err-read_rows c =
    let a = c.args in
    let m = c.in_ok-m.m in
    let r = c.in_ok-m.ensures in
    let e : c.from_residual-in_err-read_rows.result ≡ Err c.in_err-read_rows.field-0.0 = search rules in (
      e ∙ map_rows a.s.now a.blocked.now c.if-s-gt-TEXT.false m r.0 r.1 (Err c.in_err-read_rows.field-0.0) (ap (rows_of m.height m.width 6) (sym r.2) ∙ sym c.in_err-read_rows.ensures.0),
      c.read_rows.ensures.1 ∙ ap (λ (l : List ℕ). sets a.blocked.now 0 (cells_of m.height m.width l)) r.2 ∙ map_cells a.s.now a.blocked.now c.if-s-gt-TEXT.false m r.0 r.1,
    )

pub returns : goal.returns
returns c =
    let a = c.args in
    let m = c.in_ok-m.m in
    let r = c.in_ok-m.ensures in (
      map_rows a.s.now a.blocked.now c.if-s-gt-TEXT.false m r.0 r.1 (Ok c.in_ok-read_rows.field-0) (ap (rows_of m.height m.width 6) (sym r.2) ∙ sym c.in_ok-read_rows.ensures.0),
      c.read_rows.ensures.1 ∙ ap (λ (l : List ℕ). sets a.blocked.now 0 (cells_of m.height m.width l)) r.2 ∙ map_cells a.s.now a.blocked.now c.if-s-gt-TEXT.false m r.0 r.1,
    )
