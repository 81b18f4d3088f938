-- `states::next_root` meets its contract. Assumes nothing.
use Prim.Native.Nat.{◌+◌}
use mathlib.Core.Path.{sym, ◌∙◌}
use native.Mathlib.Omega.{arith}
use Rattle.states.specs.States.{cell_ok}
use Rattle.states.proofs.Blocks.{all_block, all_more, last_root}
use Rattle.states.proofs.next_root.Goals as goal

pub returns-then-plain : goal.returns-then-plain
returns-then-plain c = (
  omega arith,
  omega arith,
  all_block (cell_ok c.args.n c.args.parent.now c.args.rank.now) c.args.from 64 c.requires.6 (c.plain.ensures c.if-plain.true),
)

pub returns-then-cells_ok : goal.returns-then-cells_ok
returns-then-cells_ok c =
    let a = c.args in
    let all = sym c.cells_ok.ensures ∙ c.if-cells_ok.true in
    let below = last_root a.n (a.from + 64) (a.from + 63) a.parent.now a.rank.now (omega arith) (omega arith) all in
    (omega (arith, below, c.from.ensures), omega (arith, c.type_inv.parent (a.from + 63), c.from.ensures), all)

pub returns : goal.returns
returns c = all_more (cell_ok c.args.n c.args.parent.now c.args.rank.now) (c.args.from + 64) c.args.n (omega arith) (sym c.cells_ok.ensures ∙ c.if-cells_ok.false)
