-- `rooms::start_at`: the cleared room with the start as its only node is where the definition begins. Assumes nothing.
use mathlib.Core.Path.{◌≡◌, ap, ◌∙◌}
use Prim.Native.Nat.{ℕ, ◌+◌}
use lib.ListN.{length, replicate}
use Rattle.rooms.proofs.Begun.{able_start, nodes_none, begun}
use Rattle.offers.specs.Search.{area_of}
use Rattle.rooms.proofs.start_at.Goals as goal

pub note-r-requires : goal.note-r-requires
note-r-requires c = able_start _ _ _ _ c.requires.0 c.requires.1.0 c.requires.1.1.1 (c.fill.ensures.after (λ y q. q))

pub returns-clause-begun : goal.returns-clause-begun
returns-clause-begun c = begun _ _ _ _ _ _ c.note-r.ensures (nodes_none (area_of c.args.p + 1) c.fill.new.self c.args.work.now.place.now c.args.work.now.parent.now c.args.work.now.cost.now (c.fill.ensures.after (λ y q. q) ∙ ap (λ (x : ℕ). replicate x 0) c.requires.0.floor)) c.push.ensures.0 c.key_of-key.ensures
