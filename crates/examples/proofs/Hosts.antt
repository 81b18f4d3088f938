-- What specs/Hosts.antt says a host is told, computed. Assumes nothing.
use mathlib.Core.Path.{refl}
use lib.Ieee.{le, lt, eq}
use Rattle.costs.specs.Scale.{in_bounds}
use Rattle.states.specs.States.{cell_ok}
use Rattle.cells.specs.Cells.{sized_of, cell_of}
use Rattle.plans.specs.Plans.{ready_of}
use Rattle.finder.specs.Find as finder
use Rattle.pairs.specs.Pairs.{first_bad}
use Rattle.checks.specs.Checks.{check_in}
use Rattle.boundary.specs.Lent as lent
use Rattle.boundary.specs.Searches.{single_lent, several_lent}
use Rattle.boundary.specs.Walks.{check_lent}
use Rattle.examples.specs.Hosts.{Hosts, Replies}

pub hosts : Hosts
unfolding in_bounds le lt eq cell_ok sized_of cell_of ready_of finder.single_of finder.several_of first_bad check_in lent.links_ok lent.ground_ok lent.covers_ok lent.held_of lent.roomy_of lent.new_lent lent.set_lent lent.component_lent lent.located_of lent.blocked_lent lent.mask_lent lent.pruned_lent lent.asked_of lent.reachable_lent lent.unreachable_lent lent.near_lent lent.far_lent single_lent several_lent check_lent
hosts =
    record {
      new_tables = (refl, refl);
      set_tables = (refl, refl);
      component = (refl, refl);
      blocked_at = (refl, refl, refl, refl);
      mask_at = (refl, refl);
      pruned_at = (refl, refl);
      reachable = (refl, refl, refl);
      unreachable = (refl, refl, refl);
      neighbours_reachable = (refl, refl, refl);
      neighbours_unreachable = (refl, refl, refl);
      single_goal = (refl, refl);
      multiple_goals = (refl, refl);
      check_route = (refl, refl, refl);
    }

pub replies : Replies
replies =
    record {
      flags = (refl, refl);
      point = refl;
      settings = refl;
      marks = (refl, refl);
      apart = (refl, refl);
      found = refl;
      not_found = (refl, refl);
      concerned = refl;
      unwritten = refl;
      checked = (refl, refl, refl, refl);
    }
