-- `answers::put_answer` meets its contract: four lines and the points stored one after the other. Assumes nothing.
use Rattle.answers.specs.Answers.{result_word, pops_word, waypoints_word, clear_word, points_text, answer_text}
use Rattle.printing.proofs.Written.{flag_is, flag_most, Wrote, then, number_text_length}
use Rattle.printing.specs.Render.{number_text}
use lib.Seq.{sets}
use lib.ListN.{length}
use native.Mathlib.Omega.{arith}
use Prim.Native.Nat.{◌+◌, ◌/◌}
use mathlib.Core.Bool.{cond}
use mathlib.Core.Path.{◌∙◌}
use Rattle.answers.proofs.put_answer.Goals as goal

pub put_number_line-b-requires : goal.put_number_line-b-requires
put_number_line-b-requires c = (c.requires.1, omega (arith, c.put_number_line-a.ensures.0, c.put_number_line-a.auto.buf, number_text_length result_word c.args.number, c.requires))

pub put_number_line-c-requires : goal.put_number_line-c-requires
put_number_line-c-requires c = (omega (arith, c.requires), omega (arith, c.put_number_line-a.ensures.0, c.put_number_line-a.auto.buf, number_text_length result_word c.args.number, c.put_number_line-b.ensures.0, c.put_number_line-b.auto.buf, number_text_length pops_word c.args.pops, c.requires))

pub put_number_line-d-requires : goal.put_number_line-d-requires
put_number_line-d-requires c = (omega (arith, c.from.ensures, flag_is c.args.clear, flag_most c.args.clear), omega (arith, c.put_number_line-a.ensures.0, c.put_number_line-a.auto.buf, number_text_length result_word c.args.number, c.put_number_line-b.ensures.0, c.put_number_line-b.auto.buf, number_text_length pops_word c.args.pops, c.put_number_line-c.ensures.0, c.put_number_line-c.auto.buf, number_text_length waypoints_word (length c.args.list.now / 2), c.requires))

pub put_points-requires : goal.put_points-requires
put_points-requires c = (c.requires.3, c.requires.4, omega (arith, c.put_number_line-a.ensures.0, c.put_number_line-a.auto.buf, number_text_length result_word c.args.number, c.put_number_line-b.ensures.0, c.put_number_line-b.auto.buf, number_text_length pops_word c.args.pops, c.put_number_line-c.ensures.0, c.put_number_line-c.auto.buf, number_text_length waypoints_word (length c.args.list.now / 2), c.put_number_line-d.ensures.0, c.put_number_line-d.auto.buf, number_text_length clear_word c.from.result, c.requires))

pub returns : goal.returns
unfolding answer_text
returns c =
    let a = c.args in
    let w₁ : Wrote a.buf.now 0 (number_text result_word a.number) c.put_number_line-a.new.buf c.put_number_line-a.result = record { ends = c.put_number_line-a.ensures.0; holds = c.put_number_line-a.ensures.1 } in
    let w₂ : Wrote c.put_number_line-a.new.buf c.put_number_line-a.result (number_text pops_word a.pops) c.put_number_line-b.new.buf c.put_number_line-b.result = record { ends = c.put_number_line-b.ensures.0; holds = c.put_number_line-b.ensures.1 } in
    let w₃ : Wrote c.put_number_line-b.new.buf c.put_number_line-b.result (number_text waypoints_word (length a.list.now / 2)) c.put_number_line-c.new.buf c.put_number_line-c.result = record { ends = c.put_number_line-c.ensures.0; holds = c.put_number_line-c.ensures.1 } in
    let w₄ : Wrote c.put_number_line-c.new.buf c.put_number_line-c.result (number_text clear_word (cond a.clear 1 0)) c.put_number_line-d.new.buf c.put_number_line-d.result = record { ends = c.put_number_line-d.ensures.0 ∙ (λ i. c.put_number_line-c.result + length (number_text clear_word ((c.from.ensures ∙ flag_is a.clear) i))); holds = c.put_number_line-d.ensures.1 ∙ (λ i. sets c.put_number_line-c.new.buf c.put_number_line-c.result (number_text clear_word ((c.from.ensures ∙ flag_is a.clear) i))) } in
    let w₅ : Wrote c.put_number_line-d.new.buf c.put_number_line-d.result (points_text a.list.now) c.put_points.new.buf c.put_points.result = record { ends = c.put_points.ensures.0; holds = c.put_points.ensures.1 } in
    let whole = then w₁ (then w₂ (then w₃ (then w₄ w₅))) in
    (omega (arith, whole.ends), whole.holds)
