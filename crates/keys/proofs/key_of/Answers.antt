-- `keys::key_of` meets its contract. Assumes nothing.
use Rattle.keys.specs.Keys.{key_of}
use borrow.Author.Rules.{rules}
use Rattle.keys.proofs.key_of.Goals as goal

pub returns : goal.returns
unfolding key_of
returns c = search rules
