-- `faults::from_line` meets its contract: from here on the same line is left to be found. Assumes nothing.
use mir.Val.{bool_byte}
use lib.Dec.{eqb}
use mathlib.Core.Bool.{Bool, true, false, cond}
use mathlib.Core.Path.{◌≡◌, refl, sym, ap, ◌∙◌}
use Prim.Native.Nat.{ℕ, ◌+◌, ◌-◌}
use native.Mathlib.Omega.{arith}
use lib.ListN.{length, drop, get_or}
use Rattle.text.proofs.Steps.{rest_is}
use Rattle.faults.specs.Faults.{from_line}
use Rattle.faults.proofs.Steps.{from_first, from_end, from_more}
use Rattle.faults.proofs.from_line.Goals as goal

one : (t : Bool) → bool_byte t ≡ cond t 1 0
one true = refl
one false = refl

pub returns-then-left-le1 : goal.returns-then-left-le1
returns-then-left-le1 c =
    let s = c.args.s.now in
    let l = c.loop-i in
    rest_is s l.i ∙ sym (from_first l.left (drop l.i s) (omega arith)) ∙ l.invariant

pub loop-i-preserved : goal.loop-i-preserved
loop-i-preserved c =
    let s = c.args.s.now in
    let l = c.loop-i in
    ap (λ (k : ℕ). from_line (l.left - k) (drop (l.i + 1) s)) (c.from-left.ensures ∙ one (eqb (get_or s l.i 0) 10)) ∙ sym (from_more s l.i l.left (omega arith) (omega arith)) ∙ l.invariant

pub returns : goal.returns
returns c =
    let s = c.args.s.now in
    let l = c.loop-i in
    rest_is s (length s) ∙ ap (λ (k : ℕ). drop k s) (omega arith) ∙ sym (from_end s l.i l.left (omega arith)) ∙ l.invariant
