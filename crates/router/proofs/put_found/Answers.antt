-- `router::put_found` meets its contract, by what the check says. Assumes nothing.
use Rattle.router.proofs.Laws.{Fine, checked_fine}
use native.Mathlib.Omega.{arith}
use Rattle.std.specs.Prelude.{Ok}
use mathlib.Core.Path.{sym, ◌∙◌, subst}
use Rattle.router.proofs.put_found.Goals as goal

pub put_answer-requires : goal.put_answer-requires
put_answer-requires c =
    let l = c.args.list.now in
    let f : Fine l (Ok c.in-Ok.checked) = subst (Fine l) (sym c.check_route.ensures ∙ c.in-Ok.is) (checked_fine c.args.g l) in
    (omega arith, c.requires.0, c.requires.1, f.0, f.1, c.requires.2)
