-- `pairs::bad_point` meets its contract: no point before this one is bad. Assumes nothing.
use Rattle.std.proofs.Common.{true, false, sym, ◌∙◌, arith}
use Rattle.pairs.proofs.Laws.{bad_by, bad_end}
use Rattle.pairs.proofs.bad_point.Goals as goal

pub returns-then-not-legal : goal.returns-then-not-legal
returns-then-not-legal c =
    bad_by c.args.list.now c.loop-i.i c.point_at-p.result false c.point_at-p.ensures (sym c.if-not-legal.true ∙ c.legal.ensures) (omega arith) ∙ c.loop-i.invariant

pub loop-i-preserved : goal.loop-i-preserved
loop-i-preserved c =
    bad_by c.args.list.now c.loop-i.i c.point_at-p.result true c.point_at-p.ensures (sym c.if-not-legal.false ∙ c.legal.ensures) (omega arith) ∙ c.loop-i.invariant

pub returns : goal.returns
returns c = sym (bad_end c.args.list.now c.loop-i.i (omega arith)) ∙ c.loop-i.invariant
