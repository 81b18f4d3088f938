-- `maps::size_line` meets its contract: a number in the range of a side. Assumes nothing.
use mathlib.Core.Bool.{Bool, cond}
use mathlib.Core.Path.{sym, ap, ◌∙◌}
use Rattle.std.specs.Prelude.{Some, None}
use Rattle.text.proofs.Steps.{reads_none}
use Rattle.maps.proofs.Laws.{size_by, sized_one}
use Rattle.maps.proofs.size_line.Goals as goal

pub returns-in_err-v : goal.returns-in_err-v
returns-in_err-v c = reads_none c.args.s.now _ _ c.from_residual.ensures (size_by c.args.word.now c.args.s.now None c.in_err-v.ensures)

pub returns-then-not-sized : goal.returns-then-not-sized
returns-then-not-sized c =
    let r = c.in_ok-v.ensures in
    let v = c.in_ok-v.v in
    size_by c.args.word.now c.args.s.now (Some (v, r.0)) r.1 ∙ ap (λ (t : Bool). cond t (Some (v, r.0)) None) (sym (sized_one v) ∙ sym c.sized.ensures ∙ c.if-not-sized.true)

pub returns : goal.returns
returns c =
    let r = c.in_ok-v.ensures in
    let v = c.in_ok-v.v in (
      r.0,
      size_by c.args.word.now c.args.s.now (Some (v, r.0)) r.1 ∙ ap (λ (t : Bool). cond t (Some (v, r.0)) None) (sym (sized_one v) ∙ sym c.sized.ensures ∙ c.if-not-sized.false),
      r.2,
      r.3,
    )
