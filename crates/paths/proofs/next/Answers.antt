-- `paths::next` meets its contract: one step of each coordinate. Assumes nothing.
use Rattle.points.proofs.Signed.{parts, reads}
use Rattle.paths.proofs.next.Goals as goal

pub closer-requires-2 : goal.closer-requires-2
closer-requires-2 c =
    let p = parts c.args.p c.requires.0 in
    let q = parts c.args.q c.requires.1 in
    (reads c.args.p.y p.1, reads c.args.q.y q.1)
