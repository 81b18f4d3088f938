-- `lines::point_line` meets its contract: the word, the point, the newline. Assumes nothing.
use mathlib.Core.Bool.{true, false}
use Prim.Native.Nat.{◌+◌}
use native.Mathlib.Omega.{arith}
use lib.ListN.{length}
use Rattle.text.proofs.Steps.{reads_none}
use Rattle.lines.proofs.Laws.{point_line_other, point_line_none, point_line_some, after_line}
use Rattle.lines.proofs.point_line.Goals as goal

pub returns-in_err-strip_prefix : goal.returns-in_err-strip_prefix
returns-in_err-strip_prefix c =
    let a = c.args in
    reads_none a.s.now _ _ c.from_residual.ensures (point_line_other a.word.now a.s.now c.in_err-strip_prefix.ensures.cases)

pub returns-in_err-p : goal.returns-in_err-p
returns-in_err-p c =
    let a = c.args in
    let w = c.in_ok-strip_prefix.ensures.cases in
    reads_none a.s.now _ _ c.from_residual-in_err-p.ensures (point_line_none a.word.now a.s.now c.in_ok-strip_prefix.field-0.now w.0 w.1 c.in_err-p.ensures)

pub returns-in_err-strip_prefix-2 : goal.returns-in_err-strip_prefix-2
returns-in_err-strip_prefix-2 c =
    let a = c.args in
    let w = c.in_ok-strip_prefix.ensures.cases in
    let r = c.in_ok-p.ensures in
    reads_none a.s.now _ _ c.from_residual-in_err-strip_prefix-2.ensures
    (point_line_some a.word.now a.s.now c.in_ok-strip_prefix.field-0.now w.0 w.1 c.in_ok-p.p r.0 r.1 c.in_ok-p.rest.now r.2 false c.in_err-strip_prefix-2.ensures.cases)

pub returns : goal.returns
returns c =
    let a = c.args in
    let w = c.in_ok-strip_prefix.ensures.cases in
    let r = c.in_ok-p.ensures in
    let e = c.in_ok-strip_prefix-2.ensures.cases in (
      length a.word.now + r.0 + 1,
      point_line_some a.word.now a.s.now c.in_ok-strip_prefix.field-0.now w.0 w.1 c.in_ok-p.p r.0 r.1 c.in_ok-p.rest.now r.2 true e.0,
      after_line a.s.now c.in_ok-strip_prefix.field-0.now c.in_ok-p.rest.now c.in_ok-strip_prefix-2.field-0.now (length a.word.now) r.0 w.1 r.2 e.1,
      omega (arith, e.2, r.3, w.2),
    )
