-- `checks::check_list` meets its contract: LIST, POINT, then the walk. Assumes nothing.
use Rattle.std.proofs.Common.{Ok, sym, ◌∙◌, arith}
use Rattle.std.proofs.lemmas.Result.{err_from_is_err_and}
use Rattle.legs.specs.Legs.{first_bent_of}
use Rattle.pairs.proofs.Taken.{taken_ok, taken_is, taken_err}
use Rattle.checks.specs.Checks.{clear_of, judged, check_in}
use Rattle.checks.proofs.check_list.Goals as goal

pub returns-in_err-checked : goal.returns-in_err-checked
unfolding check_in
returns-in_err-checked c =
    let a = c.args in
    let l = a.list.now in
    let p = err_from_is_err_and c.from_residual.result c.from_residual.ensures.1 in
    rw (p.1, p.2) (sym (taken_err l tt (Ok (judged (clear_of a.w a.h a.blocked.now l) (first_bent_of l))) c.in_err-checked.field-0.0 (sym c.checked.ensures ∙ c.in_err-checked.was)))

pub clear-requires : goal.clear-requires
clear-requires c =
    let k = taken_ok c.args.list.now (Ok tt) tt (sym c.checked.ensures ∙ c.in_ok-checked.was) in
    (c.requires.0, c.requires.1, c.requires.2, omega (arith, k.0.even), omega (arith, k.0.some), k.0.none)

pub returns : goal.returns
unfolding check_in
returns c =
    let a = c.args in
    let l = a.list.now in
    let k = taken_ok l (Ok tt) tt (sym c.checked.ensures ∙ c.in_ok-checked.was) in
    (λ i. Ok (judged (c.clear.ensures i) (c.first_bent.ensures i))) ∙ sym (taken_is l (Ok (judged (clear_of a.w a.h a.blocked.now l) (first_bent_of l))) k.0)
