-- What a search asks of the lent working room. Assumes nothing.
use Rattle.std.specs.Prelude.{◌≡◌, ◌+◌, ◌≤◌, length}
use Rattle.goals.specs.declared.Plan.{Plan}
use Rattle.offers.specs.declared.Work.{Work}
use Rattle.offers.specs.Search.{area_of}

-- working room for the cells and one more, and for the fringe limit
pub record Room (p : Plan) (r : Work) : Type 0 where
  pub floor : length r.number.now ≡ area_of p + 1
  pub place_long : length r.number.now ≤ length r.place.now
  pub parent_long : length r.number.now ≤ length r.parent.now
  pub cost_long : length r.number.now ≤ length r.cost.now
  pub keys_long : p.settings.fringe ≤ length r.keys.now
  pub idx_long : p.settings.fringe ≤ length r.idx.now
