-- `text::number` meets its contract, by the first byte. Assumes nothing.
use mathlib.Core.Path.{sym, ap, ◌∙◌}
use Prim.Native.Nat.{ℕ}
use lib.ListN.{drop}
use Rattle.text.specs.Grammar.{more_of}
use Rattle.text.proofs.Steps.{reads_none, reads_as, number_none, number_zero, number_wrong, number_more}
use Rattle.text.proofs.number.Goals as goal

pub returns-in_err-b : goal.returns-in_err-b
returns-in_err-b c = reads_none c.args.s.now _ _ c.from_residual.ensures (number_none c.args.limit c.args.s.now c.in_err-b.ensures.cases)

pub returns-then-b-eq48 : goal.returns-then-b-eq48
returns-then-b-eq48 c =
    let h = c.in_ok-b.ensures.cases in
    (1, number_zero c.args.limit c.args.s.now c.in_ok-b.field-0-0.now c.in_ok-b.rest.now h.0 c.if-b-eq48.true, sym (ap (drop 1) h.0), h.1)

pub returns-then-not-is_ascii_digit : goal.returns-then-not-is_ascii_digit
returns-then-not-is_ascii_digit c =
    let h = c.in_ok-b.ensures.cases in
    number_wrong c.args.limit c.args.s.now c.in_ok-b.field-0-0.now c.in_ok-b.rest.now h.0 c.if-b-eq48.false (sym c.is_ascii_digit.ensures.value ∙ c.if-not-is_ascii_digit.true)

pub returns : goal.returns
returns c =
    let h = c.in_ok-b.ensures.cases in
    reads_as c.args.s.now _ _ _
    (number_more c.args.limit c.args.s.now c.in_ok-b.field-0-0.now c.in_ok-b.rest.now h.0 c.if-b-eq48.false (sym c.is_ascii_digit.ensures.value ∙ c.if-not-is_ascii_digit.false)
    ∙ ap (λ (v : ℕ). more_of c.args.limit v 1 (drop 1 c.args.s.now)) (sym c.from.ensures))
    c.more.ensures
