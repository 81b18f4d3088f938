-- `printing::put_number` meets its contract: the digits of the tenth part stand before the last one. The measure is the number. Assumes nothing.
use mathlib.Core.Path.{refl, sym, ◌∙◌}
use Prim.Native.Nat.{◌+◌, ◌/◌, ◌%◌}
use native.Mathlib.Omega.{arith}
use lib.ListN.{set}
use Rattle.printing.specs.Render.{digits_of}
use Rattle.printing.proofs.Written.{digits_one, digits_count, digits_stores, digits_length}
use Rattle.printing.proofs.+put_number.Goals as goal

pub returns-then-n-lt10 : goal.returns-then-n-lt10
returns-then-n-lt10 t c =
    let a = c.args in
    rw (digits_one a.n (omega arith)) (refl, refl)

pub bounds-buf-end : goal.bounds-buf-end
bounds-buf-end t c = omega (arith, c.put_number-end.ensures.0, c.put_number-end.auto.buf, digits_count c.args.n (omega arith) (omega (arith, c.requires.1)), digits_length c.args.n, c.requires.1)

pub overflow_add-result-2 : goal.overflow_add-result-2
overflow_add-result-2 t c = omega (arith, c.put_number-end.ensures.0, digits_count c.args.n (omega arith) (omega (arith, c.requires.1)), digits_length c.args.n, c.requires.1)

pub returns : goal.returns
returns t c =
    let n = c.args.n in
    let D = digits_of (n / 10) in (
      omega (arith, c.put_number-end.ensures.0, digits_count n (omega arith) (omega (arith, c.requires.1))),
      (λ i. set (c.put_number-end.ensures.1 i) (c.put_number-end.ensures.0 i) (n % 10 + 48)) ∙ sym (digits_stores n (omega arith) (omega (arith, c.requires.1)) c.args.buf.now c.args.at),
    )
