-- `text::pair` meets its contract: a coordinate, a comma, a coordinate. Assumes nothing.
use mathlib.Core.Path.{sym, ap, ◌∙◌}
use Prim.Native.Nat.{◌+◌}
use native.Mathlib.Omega.{arith}
use mir.Syntax.{w32}
use mir.Val.{SFits}
use mir.Facts.{to_z-of_z}
use lib.Seq.{drop-drop}
use lib.ListN.{drop}
use Rattle.std.specs.Prelude.{Some}
use Rattle.std.proofs.Common.{rules}
use Rattle.text.specs.Grammar.{second}
use Rattle.text.proofs.Steps.{pair_comma}
use Rattle.text.proofs.pair.Goals as goal

pub returns : goal.returns
returns c =
    let s = c.args.s.now in
    let p = c.in_ok-x.ensures in
    let k = c.in_ok-strip_prefix.ensures.cases in
    let q = c.in_ok-y.ensures in
    let f : SFits w32 c.in_ok-x.x = search rules in
    let g : SFits w32 c.in_ok-y.y = search rules in (
      p.0 + 1 + q.0,
      pair_comma s c.in_ok-x.x p.0 p.1 c.in_ok-x.rest.now p.2 k.0 c.in_ok-strip_prefix.field-0.now k.1 ∙ ap (second c.in_ok-x.x p.0) q.1
          ∙ (λ j. Some (record { x = sym (to_z-of_z f) j; y = sym (to_z-of_z g) j }, p.0 + 1 + q.0)),
      q.2 ∙ ap (drop q.0) (k.1 ∙ ap (drop 1) p.2 ∙ drop-drop 1 p.0 s) ∙ drop-drop q.0 (p.0 + 1) s,
      omega (arith, q.3, k.2, p.3),
    )
