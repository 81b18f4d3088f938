-- `states::cells_ok` meets its contract: the chain tests each cell in turn. Assumes nothing.
use Rattle.std.proofs.Common.{rules, tests, ◌+◌, ◌-◌, refl}
use mathlib.Core.Path.{◌≡◌, ◌∙◌}
use native.Mathlib.Omega.{arith}
use Rattle.std.proofs.lemmas.Iterator.{YieldsList-from_range, serves_from_Range}
use Rattle.std.proofs.lemmas.Iterator.Search.{all_from_yields_List}
use Rattle.states.specs.States.{cell_ok}
use Rattle.states.proofs.State.{all_range}
use Rattle.states.proofs.cells_ok.Goals as goal

pub all-requires-clause-callable : goal.all-requires-clause-callable
all-requires-clause-callable c = serves_from_Range (λ x q k. search rules) (λ x lo hi. search rules)

pub returns : goal.returns
returns c =
    let a = c.args in
    let end : a.from + (a.to - a.from) ≡ a.to = omega arith in
    all_from_yields_List (cell_ok a.n a.parent.now a.rank.now) _ _ _ c.all.ensures.ran (YieldsList-from_range a.from a.to (a.to - a.from) refl refl) (λ x b q k. search (rules, tests))
    ∙ all_range (cell_ok a.n a.parent.now a.rank.now) a.from (a.to - a.from) c.requires.4
    ∙ rw end
