-- `router::searched` meets its contract: the search with a new grid's settings but for the diagonals. Assumes nothing.
use Rattle.router.specs.Route.{room, exact_of}
use Rattle.waypoints.specs.Waypoints.{single_of, single_plan}
use Rattle.finder.specs.Find.{answer_of, out_after}
use lib.ListN.{length}
use mathlib.Core.Bool.{false}
use mathlib.Core.Path.{◌∙◌}
use Rattle.router.proofs.searched.Goals as goal

pub returns : goal.returns
unfolding exact_of
returns c =
    let a = c.args in
    let l = a.list.now in (
      c.get_waypoints_single_goal.ensures.0 ∙ (λ i. answer_of (length l) (single_of a.g (record { factor = (c.new-s.ensures i).factor; diagonal = a.diagonal; improved = (c.new-s.ensures i).improved; depth = (c.new-s.ensures i).depth; pops = (c.new-s.ensures i).pops; fringe = (c.new-s.ensures i).fringe }) room false a.start a.goal)),
      c.get_waypoints_single_goal.ensures.1 ∙ (λ i. out_after l (single_plan a.g (record { factor = (c.new-s.ensures i).factor; diagonal = a.diagonal; improved = (c.new-s.ensures i).improved; depth = (c.new-s.ensures i).depth; pops = (c.new-s.ensures i).pops; fringe = (c.new-s.ensures i).fringe }) false a.start a.goal) (single_of a.g (record { factor = (c.new-s.ensures i).factor; diagonal = a.diagonal; improved = (c.new-s.ensures i).improved; depth = (c.new-s.ensures i).depth; pops = (c.new-s.ensures i).pops; fringe = (c.new-s.ensures i).fringe }) room false a.start a.goal)),
    )
