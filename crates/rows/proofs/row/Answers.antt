-- `rows::row` meets its contract: the word, the cells, the newline. Assumes nothing.
use mathlib.Core.Bool.{true, false}
use mathlib.Core.Path.{sym, ap, ◌∙◌}
use lib.ListN.{take}
use native.Mathlib.Omega.{arith}
use Rattle.rows.proofs.Laws.{no_row, row_other, row_short, row_cells, row_end, after_row}
use Rattle.rows.proofs.row.Goals as goal

pub returns-in_err-strip_prefix : goal.returns-in_err-strip_prefix
returns-in_err-strip_prefix c = no_row c.args.w c.args.s.now _ c.from_residual.ensures (row_other c.args.w c.args.s.now c.in_err-strip_prefix.ensures.cases)

pub returns-in_err-cells : goal.returns-in_err-cells
returns-in_err-cells c =
    let p = c.in_ok-strip_prefix.ensures.cases in
    no_row c.args.w c.args.s.now _ c.from_residual-in_err-cells.ensures (row_short c.args.w c.args.s.now p.0 c.in_ok-strip_prefix.field-0.now p.1 c.in_err-cells.ensures.cases)

pub returns-then-not-are_cells : goal.returns-then-not-are_cells
returns-then-not-are_cells c =
    let p = c.in_ok-strip_prefix.ensures.cases in
    let q = c.in_ok-cells.ensures.cases in
    row_cells c.args.w c.args.s.now p.0 c.in_ok-strip_prefix.field-0.now p.1 c.in_ok-cells.cells.now q.1 false (sym c.are_cells.ensures ∙ c.if-not-are_cells.true)

pub returns-in_err-strip_prefix-2 : goal.returns-in_err-strip_prefix-2
returns-in_err-strip_prefix-2 c =
    let p = c.in_ok-strip_prefix.ensures.cases in
    let q = c.in_ok-cells.ensures.cases in
    no_row c.args.w c.args.s.now _ c.from_residual-in_err-strip_prefix-2.ensures
    (row_end c.args.w c.args.s.now p.0 c.in_ok-strip_prefix.field-0.now p.1 c.in_ok-cells.cells.now q.1 false (sym c.are_cells.ensures ∙ c.if-not-are_cells.false) c.in_ok-cells.rest.now q.2 c.in_err-strip_prefix-2.ensures.cases)

pub returns : goal.returns
returns c =
    let p = c.in_ok-strip_prefix.ensures.cases in
    let q = c.in_ok-cells.ensures.cases in
    let e = c.in_ok-strip_prefix-2.ensures.cases in (
      row_end c.args.w c.args.s.now p.0 c.in_ok-strip_prefix.field-0.now p.1 c.in_ok-cells.cells.now q.1 true (sym c.are_cells.ensures ∙ c.if-not-are_cells.false) c.in_ok-cells.rest.now q.2 e.0,
      q.1 ∙ ap (take c.args.w) p.1,
      q.3,
      after_row c.args.s.now c.in_ok-strip_prefix.field-0.now c.in_ok-cells.rest.now c.in_ok-strip_prefix-2.field-0.now c.args.w p.1 q.2 e.1,
      omega (arith, p.2, q.4, e.2),
    )
