-- `router::route` meets its contract: reader, rebuild, search and writer composed. Assumes nothing.
-- a refused text
use Rattle.router.proofs.Laws.{by_text, few_pops, few_points, line_low, route_bad, route_done}
use Rattle.router.specs.Route.{Within, blank, exact_of, outcome_text, search_text, route_text}
use Rattle.floors.specs.Floors.{read_of}
use Rattle.answers.specs.Answers.{bad_text}
use Rattle.finder.specs.declared.Answer.{Answer}
use Rattle.std.specs.Prelude.{Err}
use Rattle.grid.specs.Grids.{rebuild_outcome}
use Rattle.cells.specs.Cells.{most_side}
use Rattle.points.specs.Refusals.{told_of}
use lib.ListN.{length}
use native.Mathlib.Omega.{arith}
use Prim.Native.Nat.{ℕ, ◌+◌, ◌≤◌}
use mathlib.Core.Path.{◌≡◌, sym, ap, ◌∙◌, subst}
use Rattle.router.proofs.route.Goals as goal

pub overflow_cast-line : goal.overflow_cast-line
overflow_cast-line c = omega (arith, (let low' : (told_of c.in-Err.r).line ≤ 6 + most_side = line_low c.args.text.now c.in-Err.r ((let refused_is' : (read_of c.args.text.now).outcome ≡ Err c.in-Err.r = ap (λ x. x.outcome) (sym c.read_map-m.ensures) ∙ c.in-Err.is in refused_is')) in low'), c.line.ensures)

pub put_bad-requires : goal.put_bad-requires
put_bad-requires c = (omega (arith, (let low' : (told_of c.in-Err.r).line ≤ 6 + most_side = line_low c.args.text.now c.in-Err.r ((let refused_is' : (read_of c.args.text.now).outcome ≡ Err c.in-Err.r = ap (λ x. x.outcome) (sym c.read_map-m.ensures) ∙ c.in-Err.is in refused_is')) in low'), c.line.ensures), omega (arith, c.requires))

pub returns-in-Err : goal.returns-in-Err
returns-in-Err c =
    let a = c.args in
    let t = a.text.now in
    by_text c.put_bad.result a.out.now c.put_bad.new.buf (bad_text c.line.result) (route_text t) (ap bad_text c.line.ensures ∙ route_bad t c.in-Err.r ((let refused_is' : (read_of c.args.text.now).outcome ≡ Err c.in-Err.r = ap (λ x. x.outcome) (sym c.read_map-m.ensures) ∙ c.in-Err.is in refused_is'))) c.put_bad.ensures

pub put_outcome-requires : goal.put_outcome-requires
put_outcome-requires c =
    let m = c.read_map-m.result in
    let g = c.generate_components.new.g in
    let n = length blank in (
      omega (arith, ap (λ (x : Answer). x.pops) c.searched-a.ensures.0, few_pops n g m.diagonal m.start m.goal),
      subst (λ (k : ℕ). Within k c.searched-a.result.outcome) (sym c.searched-a.auto.list) (subst (λ (x : Answer). Within n x.outcome) (sym c.searched-a.ensures.0) (few_points n (exact_of g m.diagonal m.start m.goal))),
      omega (arith, c.searched-a.auto.list),
      omega (arith, c.searched-a.auto.list, c.requires),
    )

pub returns : goal.returns
returns c =
    let a = c.args in
    let t = a.text.now in
    let m = c.read_map-m.result in
    by_text c.put_outcome.result a.out.now c.put_outcome.new.buf (outcome_text c.generate_components.new.g c.searched-a.new.list c.searched-a.result) (route_text t)
    ((λ i. outcome_text c.generate_components.new.g (c.searched-a.ensures.1 i) (c.searched-a.ensures.0 i))
    ∙ (λ i. search_text (c.generate_components.ensures i).grid m.diagonal m.start m.goal)
    ∙ (λ i. search_text (rebuild_outcome (c.read_map-m.ensures i).grid (c.read_map-m.ensures i).diagonal).grid (c.read_map-m.ensures i).diagonal (c.read_map-m.ensures i).start (c.read_map-m.ensures i).goal)
    ∙ route_done t (ap (λ x. x.outcome) (sym c.read_map-m.ensures) ∙ c.in_default.is)) c.put_outcome.ensures
