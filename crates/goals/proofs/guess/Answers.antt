-- `goals::guess` meets its contract: a scaled distance is at most 16 times the farthest. Assumes nothing.
use mathlib.Core.Path.{◌∙◌}
use native.Mathlib.Omega.{arith}
use Rattle.costs.specs.Scale.{scale_of}
use Rattle.goals.specs.Goals.{guess_of}
use Rattle.goals.proofs.guess.Goals as goal

pub returns : goal.returns
unfolding guess_of
returns c = (c.scale_by.ensures.0 ∙ (λ i. scale_of (c.left.ensures.0 i) c.args.p.settings.factor), omega (arith, c.scale_by.ensures.1, c.left.ensures.1))
