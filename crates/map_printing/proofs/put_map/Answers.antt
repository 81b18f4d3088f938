-- `map_printing::put_map` meets its contract: six texts stored one after the other. Assumes nothing.
use Rattle.map_printing.proofs.Shows.{rows_text_length, rows_most}
use Rattle.maps.proofs.Laws.{side_most}
use Rattle.map_printing.specs.Shown.{rows_text, map_text}
use Rattle.maps.specs.Maps.{width_word, height_word, diagonal_word, start_word, goal_word}
use Rattle.printing.proofs.Written.{flag_is, flag_most, Wrote, then, number_text_length, point_text_length}
use Rattle.printing.specs.Render.{number_text, point_text}
use lib.Seq.{sets}
use lib.ListN.{length}
use native.Mathlib.Omega.{arith}
use Prim.Native.Nat.{ℕ, ◌+◌}
use mathlib.Core.Bool.{cond}
use mathlib.Core.Path.{sym, ap, ◌∙◌}
use Rattle.map_printing.proofs.put_map.Goals as goal

pub put_number_line-b-requires : goal.put_number_line-b-requires
put_number_line-b-requires c = (omega (arith, side_most c.args.m.height c.requires.0.high), omega (arith, c.put_number_line-a.ensures.0, c.put_number_line-a.auto.buf, number_text_length width_word c.args.m.width, c.requires.1))

pub put_number_line-c-requires : goal.put_number_line-c-requires
put_number_line-c-requires c = (omega (arith, c.from.ensures, flag_is c.args.m.diagonal, flag_most c.args.m.diagonal), omega (arith, c.put_number_line-a.ensures.0, c.put_number_line-a.auto.buf, number_text_length width_word c.args.m.width, c.put_number_line-b.ensures.0, c.put_number_line-b.auto.buf, number_text_length height_word c.args.m.height, c.requires.1))

pub put_point_line-d-requires : goal.put_point_line-d-requires
put_point_line-d-requires c = (c.requires.0.start, omega (arith, c.put_number_line-a.ensures.0, c.put_number_line-a.auto.buf, number_text_length width_word c.args.m.width, c.put_number_line-b.ensures.0, c.put_number_line-b.auto.buf, number_text_length height_word c.args.m.height, c.put_number_line-c.ensures.0, c.put_number_line-c.auto.buf, number_text_length diagonal_word c.from.result, c.requires.1))

pub put_point_line-e-requires : goal.put_point_line-e-requires
put_point_line-e-requires c = (c.requires.0.goal, omega (arith, c.put_number_line-a.ensures.0, c.put_number_line-a.auto.buf, number_text_length width_word c.args.m.width, c.put_number_line-b.ensures.0, c.put_number_line-b.auto.buf, number_text_length height_word c.args.m.height, c.put_number_line-c.ensures.0, c.put_number_line-c.auto.buf, number_text_length diagonal_word c.from.result, c.put_point_line-d.ensures.0, c.put_point_line-d.auto.buf, point_text_length start_word c.args.m.start, c.requires.1))

pub put_rows-requires : goal.put_rows-requires
put_rows-requires c = (omega (arith, c.put_number_line-a.ensures.0, c.put_number_line-a.auto.buf, number_text_length width_word c.args.m.width, c.put_number_line-b.ensures.0, c.put_number_line-b.auto.buf, number_text_length height_word c.args.m.height, c.put_number_line-c.ensures.0, c.put_number_line-c.auto.buf, number_text_length diagonal_word c.from.result, c.put_point_line-d.ensures.0, c.put_point_line-d.auto.buf, point_text_length start_word c.args.m.start, c.put_point_line-e.ensures.0, c.put_point_line-e.auto.buf, point_text_length goal_word c.args.m.goal, rows_most c.args.m.width c.args.m.height (side_most c.args.m.width c.requires.0.wide) (side_most c.args.m.height c.requires.0.high), c.requires.1), c.requires.2)

pub returns : goal.returns
unfolding map_text
returns c =
    let m = c.args.m in
    let b = c.args.blocked.now in
    let w₁ : Wrote c.args.buf.now 0 (number_text width_word m.width) c.put_number_line-a.new.buf c.put_number_line-a.result = record { ends = c.put_number_line-a.ensures.0; holds = c.put_number_line-a.ensures.1 } in
    let w₂ : Wrote c.put_number_line-a.new.buf c.put_number_line-a.result (number_text height_word m.height) c.put_number_line-b.new.buf c.put_number_line-b.result = record { ends = c.put_number_line-b.ensures.0; holds = c.put_number_line-b.ensures.1 } in
    let w₃ : Wrote c.put_number_line-b.new.buf c.put_number_line-b.result (number_text diagonal_word (cond m.diagonal 1 0)) c.put_number_line-c.new.buf c.put_number_line-c.result = record { ends = c.put_number_line-c.ensures.0 ∙ (λ i. c.put_number_line-b.result + length (number_text diagonal_word ((c.from.ensures ∙ flag_is m.diagonal) i))); holds = c.put_number_line-c.ensures.1 ∙ (λ i. sets c.put_number_line-b.new.buf c.put_number_line-b.result (number_text diagonal_word ((c.from.ensures ∙ flag_is m.diagonal) i))) } in
    let w₆ : Wrote c.put_point_line-e.new.buf c.put_point_line-e.result (rows_text m.height m.width b) c.put_rows.new.buf c.put_rows.result = record { ends = c.put_rows.ensures.0 ∙ ap (λ (n : ℕ). c.put_point_line-e.result + n) (sym (rows_text_length m.height m.width b c.requires.2)); holds = c.put_rows.ensures.1 } in
    let w₄ : Wrote c.put_number_line-c.new.buf c.put_number_line-c.result (point_text start_word m.start) c.put_point_line-d.new.buf c.put_point_line-d.result = record { ends = c.put_point_line-d.ensures.0; holds = c.put_point_line-d.ensures.1 } in
    let w₅ : Wrote c.put_point_line-d.new.buf c.put_point_line-d.result (point_text goal_word m.goal) c.put_point_line-e.new.buf c.put_point_line-e.result = record { ends = c.put_point_line-e.ensures.0; holds = c.put_point_line-e.ensures.1 } in
    let whole = then w₁ (then w₂ (then w₃ (then w₄ (then w₅ w₆)))) in
    (omega (arith, whole.ends), whole.holds)
