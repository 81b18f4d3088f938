-- `faults::fault_of` meets its contract: the length, the mark, then the line where it begins. Assumes nothing.
use mathlib.Core.Path.{sym, ap, ◌∙◌}
use Prim.Native.Nat.{ℕ}
use native.Mathlib.Omega.{arith}
use lib.ListN.{length}
use borrow.Author.Tests.{eqb-true, eqb-false}
use Rattle.faults.specs.Faults.{line_fault, row_fault}
use Rattle.faults.specs.declared.Fault.{Fault}
use Rattle.faults.proofs.Steps.{too_long, marked, missing, there, head_line, too_many, row_line}
use Rattle.faults.proofs.fault_of.Goals as goal

pub returns-then-line-eq0 : goal.returns-then-line-eq0
returns-then-line-eq0 c = sym (too_long c.args.s.now c.args.line c.if-line-eq0.true)

pub returns-then-starts_with : goal.returns-then-starts_with
returns-then-starts_with c = sym (marked c.args.s.now c.args.line c.if-line-eq0.false (sym c.starts_with.ensures.value ∙ c.if-starts_with.true))

pub returns-then-is_empty : goal.returns-then-is_empty
returns-then-is_empty c =
    let l = c.from_line-rest.result.now in
    sym (missing c.args.s.now c.args.line l c.if-line-eq0.false (sym c.starts_with.ensures.value ∙ c.if-starts_with.false) c.from_line-rest.ensures (eqb-true (length l) 0 (sym c.is_empty.ensures ∙ c.if-is_empty.true)))

pub returns-then-line-lt6 : goal.returns-then-line-lt6
returns-then-line-lt6 c =
    let a = c.args in
    let l = c.from_line-rest.result.now in
    let e = there a.s.now a.line l c.if-line-eq0.false (sym c.starts_with.ensures.value ∙ c.if-starts_with.false) c.from_line-rest.ensures (eqb-false (length l) 0 (sym c.is_empty.ensures ∙ c.if-is_empty.false)) in
    c.line_fault.ensures ∙ sym (e ∙ head_line a.s.now a.line l c.if-line-lt6.true)

pub returns-then-said-line : goal.returns-then-said-line
returns-then-said-line c =
    let a = c.args in
    let l = c.from_line-rest.result.now in
    let e = there a.s.now a.line l c.if-line-eq0.false (sym c.starts_with.ensures.value ∙ c.if-starts_with.false) c.from_line-rest.ensures (eqb-false (length l) 0 (sym c.is_empty.ensures ∙ c.if-is_empty.false)) in
    sym (e ∙ too_many a.s.now a.line l c.if-line-lt6.false (omega (arith, c.if-said-line.true, c.said.ensures)))

pub returns : goal.returns
returns c =
    let a = c.args in
    let l = c.from_line-rest.result.now in
    let e = there a.s.now a.line l c.if-line-eq0.false (sym c.starts_with.ensures.value ∙ c.if-starts_with.false) c.from_line-rest.ensures (eqb-false (length l) 0 (sym c.is_empty.ensures ∙ c.if-is_empty.false)) in
    c.line_fault-2.ensures ∙ ap (λ (f : Fault). line_fault f l) (c.row_fault.ensures ∙ ap (λ (w : ℕ). row_fault w l) c.said-w.ensures)
    ∙ sym (e ∙ row_line a.s.now a.line l c.if-line-lt6.false (omega (arith, c.if-said-line.false, c.said.ensures)))
