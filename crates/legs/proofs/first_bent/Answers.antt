-- `legs::first_bent` meets its contract: the first bent leg from here on is the whole list's. Assumes nothing.
use Rattle.std.proofs.Common.{◌*◌, true, false, sym, ◌∙◌, arith}
use Rattle.legs.proofs.Laws.{bent_begin, bent_end, bent_more}
use Rattle.pairs.proofs.Laws.{legal_here, none_bad}
use Rattle.legs.proofs.first_bent.Goals as goal

pub loop-k-init : goal.loop-k-init
loop-k-init c =
    let l = c.args.list.now in
    let n = none_bad l 0 (omega arith) c.requires.2 in
    (legal_here l 0 c.point_at-p.result c.point_at-p.ensures n.0, n.1, bent_begin l c.point_at-p.result c.point_at-p.ensures (omega arith))

pub direction_between-requires : goal.direction_between-requires
direction_between-requires c =
    let l = c.args.list.now in
    (c.loop-k.invariant.0, legal_here l (2 * c.loop-k.k) c.point_at-q.result c.point_at-q.ensures (none_bad l c.loop-k.k (omega arith) c.loop-k.invariant.1).0)

pub returns-then-bent : goal.returns-then-bent
returns-then-bent c =
    bent_more c.args.list.now c.loop-k.k c.loop-k.p c.point_at-q.result c.direction_between.result true c.point_at-q.ensures (omega arith) c.direction_between.ensures (sym c.if-bent.true ∙ c.bent.ensures) ∙ c.loop-k.invariant.2

pub loop-k-preserved : goal.loop-k-preserved
loop-k-preserved c =
    let l = c.args.list.now in
    let n = none_bad l c.loop-k.k (omega arith) c.loop-k.invariant.1 in (
      legal_here l (2 * c.loop-k.k) c.point_at-q.result c.point_at-q.ensures n.0,
      n.1,
      bent_more l c.loop-k.k c.loop-k.p c.point_at-q.result c.direction_between.result false c.point_at-q.ensures (omega arith) c.direction_between.ensures (sym c.if-bent.false ∙ c.bent.ensures) ∙ c.loop-k.invariant.2,
    )

pub returns : goal.returns
returns c = sym (bent_end c.args.list.now c.loop-k.k c.loop-k.p (omega arith)) ∙ c.loop-k.invariant.2
