-- `fills::fill_zero` meets its contract. Assumes nothing.
use Rattle.std.proofs.Common.{rules}
use Rattle.fills.proofs.Fills.{filled_with}
use Rattle.fills.proofs.fill_zero.Goals as goal

pub returns : goal.returns
returns c = search (rules, filled_with)
