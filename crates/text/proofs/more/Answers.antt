-- `text::more` meets its contract: what is read from each place on is what is read from the start. Assumes nothing.
use mathlib.Core.Path.{sym, ap, ◌∙◌}
use Prim.Native.Nat.{ℕ, ◌+◌, ◌*◌}
use native.Mathlib.Omega.{arith}
use lib.ListN.{length, drop}
use Rattle.std.specs.Prelude.{Some}
use Rattle.text.specs.Grammar.{more_of}
use Rattle.text.proofs.Steps.{reads_from, more_end, more_stop, more_over, more_step}
use Rattle.text.proofs.more.Goals as goal

pub returns-then-not-is_ascii_digit : goal.returns-then-not-is_ascii_digit
returns-then-not-is_ascii_digit c =
    let a = c.args in
    let l = c.loop-i in
    reads_from a.s.now _ l.value l.i (omega arith) (sym l.invariant.1 ∙ more_stop a.limit l.value l.i a.s.now l.i (omega arith) (sym c.is_ascii_digit.ensures.value ∙ c.if-not-is_ascii_digit.true))

pub returns-then-limit-value : goal.returns-then-limit-value
returns-then-limit-value c =
    let a = c.args in
    let l = c.loop-i in
    sym l.invariant.1 ∙ more_over a.limit l.value l.i a.s.now l.i (omega arith) (sym c.is_ascii_digit.ensures.value ∙ c.if-not-is_ascii_digit.false) (omega arith)

pub loop-i-preserved : goal.loop-i-preserved
loop-i-preserved c =
    let a = c.args in
    let l = c.loop-i in (
      omega arith,
      ap (λ (v : ℕ). more_of a.limit (l.value * 10 + v) (l.i + 1) (drop (l.i + 1) a.s.now)) c.from.ensures
          ∙ sym (more_step a.limit l.value l.i a.s.now l.i (omega arith) (sym c.is_ascii_digit.ensures.value ∙ c.if-not-is_ascii_digit.false) (omega arith)) ∙ l.invariant.1,
    )

pub returns : goal.returns
returns c =
    let a = c.args in
    let l = c.loop-i in
    let n = length a.s.now in
    reads_from a.s.now _ l.value n (omega arith) (sym l.invariant.1 ∙ more_end a.limit l.value l.i a.s.now l.i (omega arith) ∙ ap (λ (k : ℕ). Some (l.value, k)) (omega arith))
