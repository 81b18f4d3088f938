-- `questions::near_along` meets its contract: the chain asks each direction in turn. Assumes nothing.
use Rattle.std.proofs.Common.{ℕ, ◌<◌, ◌*◌, rules, tests}
use mathlib.Core.Path.{◌∙◌}
use native.Mathlib.Omega.{arith}
use Rattle.std.proofs.lemmas.List.{get_or_default}
use Rattle.std.proofs.lemmas.Iterator.{YieldsList-from_slice}
use Rattle.std.proofs.lemmas.Iterator.Adapters.{serves_from_places}
use Rattle.std.proofs.lemmas.Iterator.Search.{any_from_yields_List}
use Rattle.cells.specs.Cells.{cell_to}
use Rattle.questions.specs.Questions.{rooted_of}
use Rattle.questions.proofs.Answers
use Rattle.questions.proofs.near_along.Goals as goal

pub any-requires-clause-callable : goal.any-requires-clause-callable
any-requires-clause-callable c =
    let a = c.args in
    serves_from_places (YieldsList-from_slice a.ds.now cc) (λ x q k. search rules)
    (λ x k l e.
    let low : x.now < 8 = omega (arith, e, get_or_default a.ds.now k x.now 0 l, c.requires.0.each k l) in
    search rules)

pub returns : goal.returns
returns c =
    let a = c.args in
    any_from_yields_List (λ (d : ℕ). rooted_of (a.at.w * a.at.h) a.parent.now a.r (cell_to a.at.w a.at.h a.at.x a.at.y d)) _ _ _ c.any.ensures.ran (YieldsList-from_slice a.ds.now cc) (λ x b q k. search (rules, tests))
    ∙ Answers.any_is a.at.w a.at.h a.parent.now a.r a.at.x a.at.y a.ds.now
