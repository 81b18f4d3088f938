-- `printing::put_point_line` meets its contract: the word, the coordinates with a comma, and the newline stored one after the other. Assumes nothing.
-- after the first coordinate
use Rattle.printing.proofs.Written.{coord_length, point_stores}
use Rattle.printing.specs.Render.{coord_text, pair_text}
use Rattle.points.proofs.Signed.{parts, reads, read_in}
use Rattle.points.specs.Plane.{in_range}
use lib.Seq.{sets}
use lib.ListN.{length, set, length-set, length-append}
use lib.Dec.{T}
use native.Mathlib.Omega.{arith}
use Prim.Native.Nat.{◌+◌}
use mathlib.Core.List.{[], ◌∷◌, ◌++◌}
use mathlib.Core.Path.{◌≡◌, sym, ◌∙◌}
use Rattle.printing.proofs.put_point_line.Goals as goal

pub bounds-buf-b : goal.bounds-buf-b
bounds-buf-b c = omega (arith, (let x_end' : c.put_coord-b.result ≡ c.args.at + length c.args.word.now + length ((coord_text c.args.p.x)) = c.put_coord-b.ensures.0 ∙ (λ i. c.put_word-a.ensures.0 i + length (coord_text (read_in c.args.p.x ((let in_x' : T (in_range c.args.p.x) = (parts c.args.p c.requires.0).0 in in_x')) i))) in x_end'), (let x_length' : length c.put_coord-b.new.buf ≡ length c.args.buf.now = c.put_coord-b.auto.buf ∙ c.put_word-a.auto.buf in x_length'), coord_length c.args.p.x, c.requires.1)

pub overflow_add-b : goal.overflow_add-b
overflow_add-b c = omega (arith, (let x_end' : c.put_coord-b.result ≡ c.args.at + length c.args.word.now + length ((coord_text c.args.p.x)) = c.put_coord-b.ensures.0 ∙ (λ i. c.put_word-a.ensures.0 i + length (coord_text (read_in c.args.p.x ((let in_x' : T (in_range c.args.p.x) = (parts c.args.p c.requires.0).0 in in_x')) i))) in x_end'), coord_length c.args.p.x, c.requires.1)

pub put_coord-c-requires : goal.put_coord-c-requires
put_coord-c-requires c = (reads c.args.p.y ((let in_y' : T (in_range c.args.p.y) = (parts c.args.p c.requires.0).1 in in_y')), omega (arith, (let x_end' : c.put_coord-b.result ≡ c.args.at + length c.args.word.now + length ((coord_text c.args.p.x)) = c.put_coord-b.ensures.0 ∙ (λ i. c.put_word-a.ensures.0 i + length (coord_text (read_in c.args.p.x ((let in_x' : T (in_range c.args.p.x) = (parts c.args.p c.requires.0).0 in in_x')) i))) in x_end'), (let x_length' : length c.put_coord-b.new.buf ≡ length c.args.buf.now = c.put_coord-b.auto.buf ∙ c.put_word-a.auto.buf in x_length'), coord_length c.args.p.x, length-set c.put_coord-b.new.buf c.put_coord-b.result 44, c.requires.1))

pub bounds-buf-c : goal.bounds-buf-c
bounds-buf-c c = omega (arith, (let y_end' : c.put_coord-c.result ≡ c.args.at + length c.args.word.now + length ((coord_text c.args.p.x)) + 1 + length ((coord_text c.args.p.y)) = c.put_coord-c.ensures.0 ∙ (λ i. (let x_end' : c.put_coord-b.result ≡ c.args.at + length c.args.word.now + length ((coord_text c.args.p.x)) = c.put_coord-b.ensures.0 ∙ (λ i. c.put_word-a.ensures.0 i + length (coord_text (read_in c.args.p.x ((let in_x' : T (in_range c.args.p.x) = (parts c.args.p c.requires.0).0 in in_x')) i))) in x_end') i + 1 + length (coord_text (read_in c.args.p.y ((let in_y' : T (in_range c.args.p.y) = (parts c.args.p c.requires.0).1 in in_y')) i))) in y_end'), (let y_length' : length c.put_coord-c.new.buf ≡ length c.args.buf.now = c.put_coord-c.auto.buf ∙ length-set c.put_coord-b.new.buf c.put_coord-b.result 44 ∙ (let x_length' : length c.put_coord-b.new.buf ≡ length c.args.buf.now = c.put_coord-b.auto.buf ∙ c.put_word-a.auto.buf in x_length') in y_length'), coord_length c.args.p.x, coord_length c.args.p.y, c.requires.1)

pub overflow_add-result : goal.overflow_add-result
overflow_add-result c = omega (arith, (let y_end' : c.put_coord-c.result ≡ c.args.at + length c.args.word.now + length ((coord_text c.args.p.x)) + 1 + length ((coord_text c.args.p.y)) = c.put_coord-c.ensures.0 ∙ (λ i. (let x_end' : c.put_coord-b.result ≡ c.args.at + length c.args.word.now + length ((coord_text c.args.p.x)) = c.put_coord-b.ensures.0 ∙ (λ i. c.put_word-a.ensures.0 i + length (coord_text (read_in c.args.p.x ((let in_x' : T (in_range c.args.p.x) = (parts c.args.p c.requires.0).0 in in_x')) i))) in x_end') i + 1 + length (coord_text (read_in c.args.p.y ((let in_y' : T (in_range c.args.p.y) = (parts c.args.p c.requires.0).1 in in_y')) i))) in y_end'), coord_length c.args.p.x, coord_length c.args.p.y, c.requires.1)

pub returns : goal.returns
returns c =
    let a = c.args in
    let W = a.word.now in (
      omega (arith, (let y_end' : c.put_coord-c.result ≡ c.args.at + length c.args.word.now + length ((coord_text c.args.p.x)) + 1 + length ((coord_text c.args.p.y)) = c.put_coord-c.ensures.0 ∙ (λ i. (let x_end' : c.put_coord-b.result ≡ c.args.at + length c.args.word.now + length ((coord_text c.args.p.x)) = c.put_coord-b.ensures.0 ∙ (λ i. c.put_word-a.ensures.0 i + length (coord_text (read_in c.args.p.x ((let in_x' : T (in_range c.args.p.x) = (parts c.args.p c.requires.0).0 in in_x')) i))) in x_end') i + 1 + length (coord_text (read_in c.args.p.y ((let in_y' : T (in_range c.args.p.y) = (parts c.args.p c.requires.0).1 in in_y')) i))) in y_end'), length-append W (pair_text a.p ++ (10 ∷ [])), length-append (pair_text a.p) (10 ∷ []), length-append ((coord_text c.args.p.x)) (44 ∷ (coord_text c.args.p.y))),
      (λ i. set ((let y_list' : c.put_coord-c.new.buf ≡ sets (set (sets (sets c.args.buf.now c.args.at c.args.word.now) (c.args.at + length c.args.word.now) ((coord_text c.args.p.x))) (c.args.at + length c.args.word.now + length ((coord_text c.args.p.x))) 44) (c.args.at + length c.args.word.now + length ((coord_text c.args.p.x)) + 1) ((coord_text c.args.p.y)) = c.put_coord-c.ensures.1 ∙ (λ i. sets (set ((let x_list' : c.put_coord-b.new.buf ≡ sets (sets c.args.buf.now c.args.at c.args.word.now) (c.args.at + length c.args.word.now) ((coord_text c.args.p.x)) = c.put_coord-b.ensures.1 ∙ (λ i. sets (c.put_word-a.ensures.1 i) (c.put_word-a.ensures.0 i) (coord_text (read_in c.args.p.x ((let in_x' : T (in_range c.args.p.x) = (parts c.args.p c.requires.0).0 in in_x')) i))) in x_list') i) ((let x_end' : c.put_coord-b.result ≡ c.args.at + length c.args.word.now + length ((coord_text c.args.p.x)) = c.put_coord-b.ensures.0 ∙ (λ i. c.put_word-a.ensures.0 i + length (coord_text (read_in c.args.p.x ((let in_x' : T (in_range c.args.p.x) = (parts c.args.p c.requires.0).0 in in_x')) i))) in x_end') i) 44) ((let x_end' : c.put_coord-b.result ≡ c.args.at + length c.args.word.now + length ((coord_text c.args.p.x)) = c.put_coord-b.ensures.0 ∙ (λ i. c.put_word-a.ensures.0 i + length (coord_text (read_in c.args.p.x ((let in_x' : T (in_range c.args.p.x) = (parts c.args.p c.requires.0).0 in in_x')) i))) in x_end') i + 1) (coord_text (read_in c.args.p.y ((let in_y' : T (in_range c.args.p.y) = (parts c.args.p c.requires.0).1 in in_y')) i))) in y_list') i) ((let y_end' : c.put_coord-c.result ≡ c.args.at + length c.args.word.now + length ((coord_text c.args.p.x)) + 1 + length ((coord_text c.args.p.y)) = c.put_coord-c.ensures.0 ∙ (λ i. (let x_end' : c.put_coord-b.result ≡ c.args.at + length c.args.word.now + length ((coord_text c.args.p.x)) = c.put_coord-b.ensures.0 ∙ (λ i. c.put_word-a.ensures.0 i + length (coord_text (read_in c.args.p.x ((let in_x' : T (in_range c.args.p.x) = (parts c.args.p c.requires.0).0 in in_x')) i))) in x_end') i + 1 + length (coord_text (read_in c.args.p.y ((let in_y' : T (in_range c.args.p.y) = (parts c.args.p c.requires.0).1 in in_y')) i))) in y_end') i) 10) ∙ sym (point_stores a.buf.now a.at W ((coord_text c.args.p.x)) ((coord_text c.args.p.y))),
    )
