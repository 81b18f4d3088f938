-- `printing::put_number_line` meets its contract: the word, the digits and the newline stored one after the other. Assumes nothing.
use Rattle.printing.proofs.Written.{digits_length, number_stores}
use Rattle.printing.specs.Render.{digits_of}
use lib.Seq.{sets}
use lib.ListN.{length, set, length-append}
use native.Mathlib.Omega.{arith}
use Prim.Native.Nat.{◌+◌}
use mathlib.Core.List.{[], ◌∷◌, ◌++◌}
use mathlib.Core.Path.{◌≡◌, sym, ◌∙◌}
use Rattle.printing.proofs.put_number_line.Goals as goal

pub bounds-buf-b : goal.bounds-buf-b
bounds-buf-b c = omega (arith, c.put_number-b.ensures.0, c.put_number-b.auto.buf, c.put_word-a.ensures.0, c.put_word-a.auto.buf, digits_length c.args.n, c.requires)

pub overflow_add-result : goal.overflow_add-result
overflow_add-result c = omega (arith, c.put_number-b.ensures.0, c.put_word-a.ensures.0, digits_length c.args.n, c.requires)

pub returns : goal.returns
returns c =
    let a = c.args in
    let W = a.word.now in
    let D = digits_of a.n in
    let end : c.put_number-b.result ≡ a.at + length W + length D = c.put_number-b.ensures.0 ∙ (λ i. c.put_word-a.ensures.0 i + length D) in
    let list : c.put_number-b.new.buf ≡ sets (sets a.buf.now a.at W) (a.at + length W) D = c.put_number-b.ensures.1 ∙ (λ i. sets (c.put_word-a.ensures.1 i) (c.put_word-a.ensures.0 i) D) in
    (omega (arith, end, length-append W (D ++ (10 ∷ [])), length-append D (10 ∷ [])), (λ i. set (list i) (end i) 10) ∙ sym (number_stores a.buf.now a.at W D))
