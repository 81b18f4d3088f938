-- `text::coordinate` meets its contract: with a minus sign and without. Assumes nothing.
use mathlib.Core.Path.{◌≡◌, sym, ap, ◌∙◌, subst}
use Prim.Native.Nat.{ℕ, ◌+◌, ◌≤◌}
use native.Mathlib.Omega.{arith}
use lib.IntN.{ℤ}
use lib.Seq.{drop-drop}
use lib.ListN.{length, drop}
use mathlib.Core.List.{List}
use Rattle.std.specs.Prelude.{Some}
use Rattle.text.specs.Grammar.{number_of, plus, minus}
use Rattle.text.proofs.Steps.{reads_none, Bounded, number_bounded, coord_minus, coord_plus, small_sfits, small_read, minus_fits, minus_read}
use Rattle.text.proofs.coordinate.Goals as goal

small : (limit : ℕ) (s : List ℕ) (v n : ℕ) → 9 ≤ limit → number_of limit s ≡ Some (v, n) → v ≤ limit
small limit s v n h e = (subst (Bounded limit (length s)) e (number_bounded limit s h)).0

pub returns-in_err-v : goal.returns-in_err-v
returns-in_err-v c =
    let s = c.args.s.now in
    reads_none s _ _ c.from_residual.ensures (coord_plus s c.in_default.ensures.cases ∙ ap plus c.in_err-v.ensures)

pub overflow_cast-result : goal.overflow_cast-result
overflow_cast-result c =
    let h = c.in_ok-v.ensures in
    small_sfits c.in_ok-v.v (omega (arith, small 1023 c.args.s.now c.in_ok-v.v h.0 (omega arith) h.1))

pub returns-in_default : goal.returns-in_default
returns-in_default c =
    let s = c.args.s.now in
    let v = c.in_ok-v.v in
    let h = c.in_ok-v.ensures in (
      h.0,
      coord_plus s c.in_default.ensures.cases ∙ ap plus h.1 ∙ ap (λ (z : ℤ). Some (z, h.0)) (sym (small_read v (omega (arith, small 1023 s v h.0 (omega arith) h.1)))),
      h.2,
      h.3,
    )

pub returns-in_err-v-2 : goal.returns-in_err-v-2
returns-in_err-v-2 c =
    let s = c.args.s.now in
    let p = c.in-Some.ensures.cases in
    reads_none s _ _ c.from_residual-in_err-v-2.ensures (coord_minus s p.0 ∙ ap (λ (l : List ℕ). minus (number_of 1024 l)) (sym p.1) ∙ ap minus c.in_err-v-2.ensures)

pub returns-then-v-eq0 : goal.returns-then-v-eq0
returns-then-v-eq0 c =
    let s = c.args.s.now in
    let p = c.in-Some.ensures.cases in
    let h = c.in_ok-v-2.ensures in
    coord_minus s p.0 ∙ ap (λ (l : List ℕ). minus (number_of 1024 l)) (sym p.1) ∙ ap minus h.1 ∙ ap (λ (v : ℕ). minus (Some (v, h.0))) c.if-v-eq0.true

pub overflow_cast-result-2 : goal.overflow_cast-result-2
overflow_cast-result-2 c =
    let h = c.in_ok-v-2.ensures in
    small_sfits c.in_ok-v-2.v (small 1024 c.in-Some.digits.now c.in_ok-v-2.v h.0 (omega arith) h.1)

pub overflow_sub-result : goal.overflow_sub-result
overflow_sub-result c =
    let h = c.in_ok-v-2.ensures in
    minus_fits c.in_ok-v-2.v (small 1024 c.in-Some.digits.now c.in_ok-v-2.v h.0 (omega arith) h.1)

pub returns : goal.returns
returns c =
    let s = c.args.s.now in
    let p = c.in-Some.ensures.cases in
    let h = c.in_ok-v-2.ensures in
    let v = c.in_ok-v-2.v in (
      h.0 + 1,
      coord_minus s p.0 ∙ ap (λ (l : List ℕ). minus (number_of 1024 l)) (sym p.1) ∙ ap minus h.1
          ∙ sym (minus_read v h.0 c.if-v-eq0.false (small 1024 c.in-Some.digits.now v h.0 (omega arith) h.1)),
      h.2 ∙ ap (drop h.0) p.1 ∙ drop-drop h.0 1 s ∙ ap (λ (k : ℕ). drop k s) (omega arith),
      omega (arith, h.3, p.2),
    )
