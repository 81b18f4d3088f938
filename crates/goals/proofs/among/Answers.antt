-- `goals::among` meets its contract: what is left of the list says the same as the whole. Assumes nothing.
use Rattle.std.proofs.Common.{sym, ap, ◌∙◌, arith}
use Rattle.goals.specs.Goals.{same_point, point_at}
use Rattle.goals.proofs.Points.{point_eq}
use Rattle.goals.proofs.Walks.{among_hit, among_next, among_end}
use Rattle.goals.proofs.among.Goals as goal

pub returns-then-eq : goal.returns-then-eq
unfolding point_at
returns-then-eq c =
    let a = c.args in
    let e = sym (c.eq.ensures ∙ point_eq a.at c.point_at.result ∙ ap (same_point a.at) c.point_at.ensures) ∙ c.if-eq.true in
    among_hit a.goals.now a.n c.loop-i.i a.at (omega arith) e ∙ c.loop-i.invariant

pub loop-i-preserved : goal.loop-i-preserved
unfolding point_at
loop-i-preserved c =
    let a = c.args in
    let e = sym (c.eq.ensures ∙ point_eq a.at c.point_at.result ∙ ap (same_point a.at) c.point_at.ensures) ∙ c.if-eq.false in
    among_next a.goals.now a.n c.loop-i.i a.at (omega arith) e ∙ c.loop-i.invariant

pub returns : goal.returns
unfolding point_at
returns c = among_end c.args.goals.now c.args.n c.loop-i.i c.args.at (omega arith) ∙ c.loop-i.invariant
