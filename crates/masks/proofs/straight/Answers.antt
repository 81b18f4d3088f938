-- `masks::straight` meets its contract: each even direction by its number, and none other is one. Assumes nothing.
use Prim.Native.Nat.{◌%◌}
use native.Mathlib.Nat.{mod-lt}
use native.Mathlib.Omega.{arith}
use borrow.Author.Rules.{rules}
use lib.Dec.{lit<}
use Rattle.masks.proofs.Ands.{and_0, and_2, and_4, and_6, odd}
use Rattle.masks.proofs.straight.Goals as goal

pub returns-in-0 : goal.returns-in-0
returns-in-0 c = rw c.in-0.is (and_0 c.args.m (omega arith))

pub returns-in-2 : goal.returns-in-2
returns-in-2 c = rw c.in-2.is (and_2 c.args.m (omega arith))

pub returns-in-4 : goal.returns-in-4
returns-in-4 c = rw c.in-4.is (and_4 c.args.m (omega arith))

pub returns-in-6 : goal.returns-in-6
returns-in-6 c = rw c.in-6.is (and_6 c.args.m (omega arith))

pub returns-in_default : goal.returns-in_default
returns-in_default c = odd (c.args.d % 8) c.args.m (mod-lt c.args.d (lit< tt)) (search rules) (search rules) (search rules) (search rules)
