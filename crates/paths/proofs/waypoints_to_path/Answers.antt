-- `paths::waypoints_to_path` meets its contract: LIST, POINT, ROOM, then the path. Assumes nothing.
use Rattle.std.proofs.Common.{◌≡◌, ◌/◌, ℕ, Option, Some, Ok, length, refl, sym, ap, ◌∙◌, arith}
use Rattle.std.specs.Option.{ok_or}
use Rattle.std.specs.Result.{result_ok}
use Rattle.std.proofs.lemmas.Result.{err_from_is_err_and}
use Rattle.points.specs.declared.Refusal.TheVariants.{Room}
use Rattle.pairs.proofs.Taken.{taken_ok, taken_is, taken_err}
use Rattle.paths.specs.Walks.{counted_of, path_answer}
use Rattle.paths.proofs.Laws.{few_room}
use Rattle.paths.proofs.waypoints_to_path.Goals as goal

pub returns-in_err-checked : goal.returns-in_err-checked
unfolding path_answer
returns-in_err-checked c =
    let l = c.args.list.now in
    let p = err_from_is_err_and c.from_residual.result c.from_residual.ensures.1 in
    rw (p.1, p.2) (sym (taken_err l tt (ok_or (counted_of l (length c.args.out.now / 2)) Room) c.in_err-checked.field-0.0 (sym c.checked.ensures ∙ c.in_err-checked.was)), refl)

pub returns-in_err-n : goal.returns-in_err-n
unfolding path_answer
returns-in_err-n c =
    let l = c.args.list.now in
    let p = err_from_is_err_and c.from_residual-in_err-n.result c.from_residual-in_err-n.ensures.1 in
    let k = taken_ok l (Ok tt) tt (sym c.checked.ensures ∙ c.in_ok-checked.was) in
    rw (p.1, p.2) (sym c.in_err-n.was ∙ c.ok_or.ensures.value ∙ ap (λ (n : Option ℕ). ok_or n Room) c.count.ensures ∙ sym (taken_is l (ok_or (counted_of l (length c.args.out.now / 2)) Room) k.0), refl)

pub put_path-requires : goal.put_path-requires
put_path-requires c =
    let l = c.args.list.now in
    let k = taken_ok l (Ok tt) tt (sym c.checked.ensures ∙ c.in_ok-checked.was) in
    let n : counted_of l (length c.args.out.now / 2) ≡ Some c.in_ok-n.n = sym c.count.ensures ∙ c.ok_or.ensures.ok_part ∙ ap result_ok c.in_ok-n.was in
    (omega (arith, k.0.even), omega (arith, k.0.some), k.0.none, omega (arith, few_room l (length c.args.out.now / 2) c.in_ok-n.n n))

pub returns : goal.returns
unfolding path_answer
returns c =
    let l = c.args.list.now in
    let k = taken_ok l (Ok tt) tt (sym c.checked.ensures ∙ c.in_ok-checked.was) in
    (sym c.in_ok-n.was ∙ c.ok_or.ensures.value ∙ ap (λ (n : Option ℕ). ok_or n Room) c.count.ensures ∙ sym (taken_is l (ok_or (counted_of l (length c.args.out.now / 2)) Room) k.0), c.put_path.ensures)
