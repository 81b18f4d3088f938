-- `fringe::push` meets its contract: the rise in the slices is the rise in the heap's own list. Assumes nothing.
use mathlib.Core.Path.{ap, ◌∙◌}
use Prim.Native.Nat.{◌+◌}
use lib.ListN.{take}
use Rattle.sifts.proofs.Lists.{length_entries}
use Rattle.fringe.proofs.Trim.{push_of}
use Rattle.fringe.proofs.push.Goals as goal

pub returns : goal.returns
returns c = (ap (take (c.args.n + 1)) c.rise.ensures.0 ∙ push_of _ _ _ (length_entries c.args.keys.now c.args.idx.now _ c.requires.0 c.requires.1), c.rise.ensures.1, c.rise.ensures.2)
