-- `rows::read_rows` meets its contract: the rows from here on give the answer and the cells of all rows. Assumes nothing.
use mathlib.Core.Path.{sym, ap, ◌∙◌}
use Prim.Native.Nat.{ℕ, ◌+◌, ◌-◌, ◌*◌}
use native.Mathlib.Nat.{suc-mul}
use native.Mathlib.Omega.{arith}
use lib.ListN.{length}
use borrow.Author.Tests.{eqb-true, eqb-false}
use Rattle.rows.specs.Rows.{rows_of}
use Rattle.rows.proofs.Laws.{rows_bad, rows_more, rows_rest, rows_good, cells_done, cells_bad, cells_more}
use Rattle.rows.proofs.read_rows.Goals as goal

pub returns-in_default : goal.returns-in_default
returns-in_default c =
    let a = c.args in
    let l = c.loop-i in (
      rows_bad l.rest.now a.w (6 + l.i) (a.h - l.i) (a.h - (l.i + 1)) (omega arith) c.in_default.ensures ∙ l.invariant.1,
      sym (cells_bad l.rest.now a.w l.blocked (l.i * a.w) (a.h - l.i) c.in_default.ensures) ∙ l.invariant.2,
    )

pub loop-i-preserved : goal.loop-i-preserved
loop-i-preserved c =
    let a = c.args in
    let l = c.loop-i in
    let r = c.in-Some.ensures in (
      c.fill_row.auto.blocked ∙ l.invariant.0,
      ap (λ (k : ℕ). rows_of (a.h - (l.i + 1)) a.w k c.in-Some.after.now) (omega arith)
          ∙ rows_more l.rest.now a.w (6 + l.i) (a.h - l.i) (a.h - (l.i + 1)) (omega arith) r.0 c.in-Some.after.now r.3 ∙ l.invariant.1,
      cells_more l.rest.now a.w l.blocked (l.i * a.w) (a.h - l.i) (a.h - (l.i + 1)) (omega arith) r.0 c.in-Some.cells.now c.in-Some.after.now c.fill_row.new.blocked ((l.i + 1) * a.w)
          r.1 r.2 r.3 c.fill_row.ensures (omega (arith, suc-mul l.i a.w)) ∙ l.invariant.2,
    )

pub returns-then-not-is_empty : goal.returns-then-not-is_empty
returns-then-not-is_empty c =
    let a = c.args in
    let l = c.loop-i in
    let some = eqb-false (length l.rest.now) 0 (sym c.is_empty.ensures ∙ c.if-not-is_empty.true) in (
      rows_rest l.rest.now a.w (6 + a.h) (a.h - l.i) (omega arith) (omega (arith, some)) ∙ ap (λ (k : ℕ). rows_of (a.h - l.i) a.w k l.rest.now) (omega arith) ∙ l.invariant.1,
      sym (cells_done l.rest.now a.w l.blocked (l.i * a.w) (a.h - l.i) (omega arith)) ∙ l.invariant.2,
    )

pub returns : goal.returns
returns c =
    let a = c.args in
    let l = c.loop-i in (
      rows_good l.rest.now a.w (6 + l.i) (a.h - l.i) (omega arith) (eqb-true (length l.rest.now) 0 (sym c.is_empty.ensures ∙ c.if-not-is_empty.false)) ∙ l.invariant.1,
      sym (cells_done l.rest.now a.w l.blocked (l.i * a.w) (a.h - l.i) (omega arith)) ∙ l.invariant.2,
    )
