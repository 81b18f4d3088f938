-- `answers::put_bad` meets its contract: two lines stored one after the other. Assumes nothing.
use Rattle.answers.specs.Answers.{result_word, line_word, bad_text}
use Rattle.printing.proofs.Written.{Wrote, then, number_text_length}
use Rattle.printing.specs.Render.{number_text}
use native.Mathlib.Omega.{arith}
use Rattle.answers.proofs.put_bad.Goals as goal

pub put_number_line-requires : goal.put_number_line-requires
put_number_line-requires c = (c.requires.0, omega (arith, c.put_number_line-a.ensures.0, c.put_number_line-a.auto.buf, number_text_length result_word 12, c.requires.1))

pub returns : goal.returns
unfolding bad_text
returns c =
    let w₁ : Wrote c.args.buf.now 0 (number_text result_word 12) c.put_number_line-a.new.buf c.put_number_line-a.result = record { ends = c.put_number_line-a.ensures.0; holds = c.put_number_line-a.ensures.1 } in
    let w₂ : Wrote c.put_number_line-a.new.buf c.put_number_line-a.result (number_text line_word c.args.line) c.put_number_line.new.buf c.put_number_line.result = record { ends = c.put_number_line.ensures.0; holds = c.put_number_line.ensures.1 } in
    let whole = then w₁ w₂ in
    (omega (arith, whole.ends), whole.holds)
