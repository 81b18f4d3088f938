-- `paths::count` meets its contract: the room that is left is held against the path from here on. Assumes nothing.
use Rattle.std.proofs.Common.{◌-◌, ◌*◌, length, refl, ap, ◌∙◌, arith}
use Rattle.pairs.specs.Pairs.{point_at}
use Rattle.pairs.proofs.Laws.{legal_here, none_bad}
use Rattle.paths.proofs.Laws.{length_here, path_end, path_length, room_none, room_some, counted_over, counted_few}
use Rattle.paths.proofs.count.Goals as goal

pub returns-in_err-left : goal.returns-in_err-left
returns-in_err-left c =
    let l = c.args.list.now in
    c.from_residual.ensures
    ∙ counted_over l c.args.room (omega (arith, path_length l (point_at l 0) refl (omega arith), room_none c.checked_sub.result 1 c.args.room c.checked_sub.ensures c.in_err-left.was))

pub loop-k-init : goal.loop-k-init
loop-k-init c =
    let l = c.args.list.now in
    let n = none_bad l 0 (omega arith) c.requires.2 in
    let r = room_some c.checked_sub.result 1 c.args.room c.in_ok-left.left c.checked_sub.ensures c.in_ok-left.was in
    (legal_here l 0 c.point_at-p.result c.point_at-p.ensures n.0, n.1, omega (arith, r.0, r.1), omega (arith, r.0, r.1, path_length l c.point_at-p.result c.point_at-p.ensures (omega arith)))

pub steps_between-requires : goal.steps_between-requires
steps_between-requires c =
    let l = c.args.list.now in
    (c.loop-k.invariant.0, legal_here l (2 * c.loop-k.k) c.point_at-q.result c.point_at-q.ensures (none_bad l c.loop-k.k (omega arith) c.loop-k.invariant.1).0)

pub returns-in_err-left-2 : goal.returns-in_err-left-2
returns-in_err-left-2 c =
    let l = c.args.list.now in
    let r = room_none c.checked_sub-in-loop-k.result c.steps_between.result c.loop-k.left c.checked_sub-in-loop-k.ensures c.in_err-left-2.was in
    c.from_residual-in_err-left-2.ensures
    ∙ counted_over l c.args.room (omega (arith, length_here l c.loop-k.k c.loop-k.p c.point_at-q.result c.point_at-q.ensures (omega arith), c.steps_between.ensures, r))

pub loop-k-preserved : goal.loop-k-preserved
loop-k-preserved c =
    let l = c.args.list.now in
    let k = c.loop-k.k in
    let n = none_bad l k (omega arith) c.loop-k.invariant.1 in
    let r = room_some c.checked_sub-in-loop-k.result c.steps_between.result c.loop-k.left c.in_ok-left-2.left c.checked_sub-in-loop-k.ensures c.in_ok-left-2.was in (
      legal_here l (2 * k) c.point_at-q.result c.point_at-q.ensures n.0,
      n.1,
      omega (arith, r.0, r.1),
      omega (arith, r.0, r.1, length_here l k c.loop-k.p c.point_at-q.result c.point_at-q.ensures (omega arith), c.steps_between.ensures),
    )

pub returns : goal.returns
returns c =
    let l = c.args.list.now in
    counted_few l c.args.room (c.args.room - c.loop-k.left) (omega (arith, ap length (path_end l c.loop-k.k c.loop-k.p (omega arith)))) (omega arith)
