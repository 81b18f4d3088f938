-- `states::plain` meets its contract. Assumes nothing.
use Prim.Native.Nat.{◌+◌, ◌-◌, ◌<◌}
use lib.ListN.{length, take, drop, length-take, length-drop}
use native.Mathlib.Omega.{arith}
use Rattle.std.proofs.lemmas.List.Edits.{get_or-between}
use Rattle.states.proofs.Blocks.{glance}
use Rattle.states.proofs.plain.Goals as goal

pub returns-then-top-le200 : goal.returns-then-top-le200
returns-then-top-le200 c e j l =
    let a = c.args in
    let k = a.rank.now in
    let in_block : j < length (take ((a.from + 64) - a.from) (drop a.from k)) = omega (arith, length-take ((a.from + 64) - a.from) (drop a.from k), length-drop a.from k) in
    let low = c.highest-top.ensures j in_block in
    glance _ _ _ _ _ _ (omega arith) c.if-top-le200.true (omega (arith, low, get_or-between k a.from (a.from + 64) j 0 (omega arith))) (c.near.ensures e j l)
