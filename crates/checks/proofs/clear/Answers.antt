-- `checks::clear` meets its contract: the path from here on is as free as the whole. Assumes nothing.
use Rattle.std.proofs.Common.{◌*◌, true, false, sym, ◌∙◌, arith}
use Rattle.pairs.proofs.Laws.{legal_here, none_bad}
use Rattle.checks.proofs.Laws.{clear_begin, clear_end, clear_more}
use Rattle.checks.proofs.clear.Goals as goal

pub loop-k-init : goal.loop-k-init
loop-k-init c =
    let l = c.args.list.now in
    let n = none_bad l 0 (omega arith) c.requires.5 in
    (legal_here l 0 c.point_at-p.result c.point_at-p.ensures n.0, n.1, clear_begin c.args.w c.args.h c.args.blocked.now l c.point_at-p.result c.point_at-p.ensures (omega arith))

pub leg_clear-requires : goal.leg_clear-requires
leg_clear-requires c =
    let l = c.args.list.now in
    let k = c.loop-k.k in
    (c.requires.0, c.requires.1, c.requires.2, c.loop-k.invariant.0, legal_here l (2 * k) c.point_at-q.result c.point_at-q.ensures (none_bad l k (omega arith) c.loop-k.invariant.1).0)

pub returns-then-not-leg_clear : goal.returns-then-not-leg_clear
returns-then-not-leg_clear c =
    let a = c.args in
    clear_more a.w a.h a.blocked.now a.list.now c.loop-k.k c.loop-k.p c.point_at-q.result false c.point_at-q.ensures (omega arith) (sym c.if-not-leg_clear.true ∙ c.leg_clear.ensures)
    ∙ c.loop-k.invariant.2

pub loop-k-preserved : goal.loop-k-preserved
loop-k-preserved c =
    let a = c.args in
    let l = a.list.now in
    let k = c.loop-k.k in
    let n = none_bad l k (omega arith) c.loop-k.invariant.1 in (
      legal_here l (2 * k) c.point_at-q.result c.point_at-q.ensures n.0,
      n.1,
      clear_more a.w a.h a.blocked.now l k c.loop-k.p c.point_at-q.result true c.point_at-q.ensures (omega arith) (sym c.if-not-leg_clear.false ∙ c.leg_clear.ensures) ∙ c.loop-k.invariant.2,
    )

pub returns : goal.returns
returns c =
    let a = c.args in
    sym (clear_end a.w a.h a.blocked.now a.list.now c.loop-k.k c.loop-k.p (omega arith)) ∙ c.loop-k.invariant.2
