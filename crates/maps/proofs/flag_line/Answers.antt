-- `maps::flag_line` meets its contract: a number up to 1. Assumes nothing.
use mathlib.Core.Bool.{Bool, cond}
use mathlib.Core.Path.{ap, ◌∙◌}
use borrow.Author.Tests.{lt-leb, le-leb}
use Rattle.std.specs.Prelude.{Some, None}
use Rattle.text.proofs.Steps.{reads_none}
use Rattle.maps.proofs.Laws.{flag_by}
use Rattle.maps.proofs.flag_line.Goals as goal

pub returns-in_err-v : goal.returns-in_err-v
returns-in_err-v c = reads_none c.args.s.now _ _ c.from_residual.ensures (flag_by c.args.word.now c.args.s.now None c.in_err-v.ensures)

pub returns-then-v-gt1 : goal.returns-then-v-gt1
returns-then-v-gt1 c =
    let r = c.in_ok-v.ensures in
    let v = c.in_ok-v.v in
    flag_by c.args.word.now c.args.s.now (Some (v, r.0)) r.1 ∙ ap (λ (t : Bool). cond t (Some (v, r.0)) None) (lt-leb v 1 c.if-v-gt1.true)

pub returns : goal.returns
returns c =
    let r = c.in_ok-v.ensures in
    let v = c.in_ok-v.v in
    (r.0, flag_by c.args.word.now c.args.s.now (Some (v, r.0)) r.1 ∙ ap (λ (t : Bool). cond t (Some (v, r.0)) None) (le-leb v 1 c.if-v-gt1.false), r.2, r.3)
