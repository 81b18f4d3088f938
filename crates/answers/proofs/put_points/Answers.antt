-- `answers::put_points` meets its contract: the lines that are yet to be stored give them all. Assumes nothing.
use Rattle.std.proofs.Common.{◌+◌, ◌*◌, ◌<◌, length, sym, ap, ◌∙◌, arith}
use Rattle.std.proofs.lemmas.List.Edits.{sets}
use Rattle.answers.proofs.Laws.{points_end, points_count, points_stores}
use Rattle.answers.specs.Answers.{point_word}
use Rattle.pairs.proofs.Laws.{legal_here, none_bad}
use Rattle.printing.proofs.Written.{point_text_length}
use Rattle.answers.proofs.put_points.Goals as goal

pub put_point_line-end-requires : goal.put_point_line-end-requires
put_point_line-end-requires c =
    let l = c.args.list.now in
    let i = c.loop-i.i in
    (legal_here l (2 * i) c.point_at.result c.point_at.ensures (none_bad l i (omega arith) c.loop-i.invariant.1).0, omega (arith, c.loop-i.invariant, c.loop-i-test.true, c.requires.0))

pub loop-i-preserved : goal.loop-i-preserved
loop-i-preserved c =
    let l = c.args.list.now in
    let i = c.loop-i.i in
    let z : 2 * i + 1 < length l = omega (arith, c.loop-i-test.true, c.requires.0) in (
      c.put_point_line-end.auto.buf ∙ c.loop-i.invariant.0,
      (none_bad l i z c.loop-i.invariant.1).1,
      omega (arith, c.put_point_line-end.auto.buf, c.put_point_line-end.ensures.0, point_text_length point_word c.point_at.result, c.loop-i.invariant, z),
      points_count l i c.point_at.result c.point_at.ensures z c.loop-i.end c.put_point_line-end.result c.put_point_line-end.ensures.0 ∙ c.loop-i.invariant.3,
      points_stores l i c.point_at.result c.point_at.ensures z c.loop-i.end c.put_point_line-end.result c.put_point_line-end.ensures.0 c.loop-i.buf c.put_point_line-end.new.buf c.put_point_line-end.ensures.1 ∙ c.loop-i.invariant.4,
    )

pub returns : goal.returns
returns c =
    let e = points_end c.args.list.now c.loop-i.i (omega arith) in
    (omega (arith, c.loop-i.invariant.3, ap length e), sym (ap (sets c.loop-i.buf c.loop-i.end) e) ∙ c.loop-i.invariant.4)
