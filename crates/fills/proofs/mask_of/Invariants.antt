-- `fills::mask_of` meets its contract. Assumes nothing.
use Rattle.std.proofs.Common.{◌≡◌}
use Rattle.masks.specs.Masks.{mask_to}
use Rattle.fills.specs.Fills.{free_bit}
use Rattle.fills.proofs.mask_of.Given as goal

abbrev pub invariant-loop-d : goal.invariant-loop-d
invariant-loop-d l = l.m ≡ mask_to (free_bit l.at.w l.at.h l.blocked l.at.x l.at.y) l.d
