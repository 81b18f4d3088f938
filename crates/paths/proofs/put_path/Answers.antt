-- `paths::put_path` meets its contract: the path from here on gives the whole. Assumes nothing.
use Rattle.std.proofs.Common.{◌*◌, drop, refl, sym, ap, ◌∙◌, arith}
use Rattle.std.proofs.lemmas.List.Edits.{sets}
use Rattle.pairs.proofs.Laws.{legal_here, none_bad}
use Rattle.paths.specs.Walks.{path_from}
use Rattle.paths.proofs.Laws.{length_here, stores_here, path_end, path_length, path_stores}
use Rattle.paths.proofs.put_path.Goals as goal

pub put-requires : goal.put-requires
put-requires c = omega (arith, path_length c.args.list.now c.point_at-p.result c.point_at-p.ensures (omega arith), c.requires)

pub loop-k-init : goal.loop-k-init
loop-k-init c =
    let l = c.args.list.now in
    let n = none_bad l 0 (omega arith) c.requires.2 in
    (legal_here l 0 c.point_at-p.result c.point_at-p.ensures n.0, n.1, refl, omega (arith, path_length l c.point_at-p.result c.point_at-p.ensures (omega arith), c.put.auto.out, c.requires), refl)

pub put_walk-at-requires : goal.put_walk-at-requires
put_walk-at-requires c =
    let l = c.args.list.now in
    let k = c.loop-k.k in (
      c.loop-k.invariant.0,
      legal_here l (2 * k) c.point_at-q.result c.point_at-q.ensures (none_bad l k (omega arith) c.loop-k.invariant.1).0,
      omega (arith, length_here l k c.loop-k.p c.point_at-q.result c.point_at-q.ensures (omega arith)),
    )

pub loop-k-preserved : goal.loop-k-preserved
loop-k-preserved c =
    let l = c.args.list.now in
    let k = c.loop-k.k in
    let n = none_bad l k (omega arith) c.loop-k.invariant.1 in (
      legal_here l (2 * k) c.point_at-q.result c.point_at-q.ensures n.0,
      n.1,
      c.put_walk-at.auto.out ∙ c.loop-k.invariant.2,
      omega (arith, c.put_walk-at.auto.out, length_here l k c.loop-k.p c.point_at-q.result c.point_at-q.ensures (omega arith), c.put_walk-at.ensures.0),
      stores_here l k c.loop-k.p c.point_at-q.result c.point_at-q.ensures c.loop-k.out c.put_walk-at.new.out c.loop-k.at c.put_walk-at.result c.put_walk-at.ensures.0 c.put_walk-at.ensures.1 (omega arith)
          ∙ c.loop-k.invariant.4,
    )

pub returns : goal.returns
returns c =
    let l = c.args.list.now in
    sym (ap (sets c.loop-k.out c.loop-k.at) (path_end l c.loop-k.k c.loop-k.p (omega arith)))
    ∙ c.loop-k.invariant.4
    ∙ (λ i. sets (c.put.ensures i) 2 (path_from c.point_at-p.result (drop 2 l)))
    ∙ sym (path_stores l c.args.out.now c.point_at-p.result c.point_at-p.ensures (omega arith))
