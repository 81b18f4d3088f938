-- The calls on directions, points, distances, settings and masks: each promises an answer, and allows one. Assumes nothing: these are statements.
use Rattle.contracts.specs.Allowed.{Free, One}
use Rattle.directions.proofs.off_x.Reads as off_x
use Rattle.directions.proofs.off_y.Reads as off_y
use Rattle.directions.proofs.right_of.Reads as right_of
use Rattle.directions.proofs.left_of.Reads as left_of
use Rattle.directions.proofs.back_of.Reads as back_of
use Rattle.points.proofs.in_range.Reads as in_range
use Rattle.points.proofs.Point.legal.Reads as point_legal
use Rattle.points.proofs.Direction.rotate_cw.Reads as rotate_cw
use Rattle.points.proofs.Direction.rotate_ccw.Reads as rotate_ccw
use Rattle.points.proofs.Direction.opposite.Reads as opposite
use Rattle.points.proofs.Direction.diagonal.Reads as diagonal
use Rattle.points.proofs.Direction.dx.Reads as dx
use Rattle.points.proofs.Direction.dy.Reads as dy
use Rattle.points.proofs.Direction.split.Reads as split
use Rattle.points.proofs.Refusal.number.Reads as number
use Rattle.points.proofs.Refusal.line.Reads as line
use Rattle.points.proofs.Refusal.point.Reads as point
use Rattle.points.proofs.Point.checked.Reads as checked
use Rattle.headings.proofs.direction_to.Reads as direction_to
use Rattle.costs.proofs.distance.Reads as distance
use Rattle.costs.proofs.in_bounds.Reads as in_bounds
use Rattle.costs.proofs.scaled_distance.Reads as scaled_distance
use Rattle.costs.proofs.Settings.new.Reads as settings_new
use Rattle.costs.proofs.Settings.legal.Reads as settings_legal
use Rattle.masks.proofs.bit.Reads as bit
use Rattle.masks.proofs.forced_mask.Reads as forced_mask
use Rattle.masks.proofs.pruned_mask.Reads as pruned_mask

pub record Values : Type 0 where
  pub off_x : Free off_x.Asked × One off_x.Post
  pub off_y : Free off_y.Asked × One off_y.Post
  pub right_of : Free right_of.Asked × One right_of.Post
  pub left_of : Free left_of.Asked × One left_of.Post
  pub back_of : Free back_of.Asked × One back_of.Post
  pub in_range : Free in_range.Asked × One in_range.Post
  pub point_legal : Free point_legal.Asked × One point_legal.Post
  pub rotate_cw : Free rotate_cw.Asked × One rotate_cw.Post
  pub rotate_ccw : Free rotate_ccw.Asked × One rotate_ccw.Post
  pub opposite : Free opposite.Asked × One opposite.Post
  pub diagonal : Free diagonal.Asked × One diagonal.Post
  pub dx : Free dx.Asked × One dx.Post
  pub dy : Free dy.Asked × One dy.Post
  pub split : Free split.Asked × One split.Post
  pub number : Free number.Asked × One number.Post
  pub line : Free line.Asked × One line.Post
  pub point : Free point.Asked × One point.Post
  pub checked : Free checked.Asked × One checked.Post
  pub direction_to : Free direction_to.Asked × One direction_to.Post
  pub distance : Free distance.Asked × One distance.Post
  pub in_bounds : Free in_bounds.Asked × One in_bounds.Post
  pub scaled_distance : Free scaled_distance.Asked × One scaled_distance.Post
  pub settings_new : Free settings_new.Asked × One settings_new.Post
  pub settings_legal : Free settings_legal.Asked × One settings_legal.Post
  pub bit : Free bit.Asked × One bit.Post
  pub forced_mask : Free forced_mask.Asked × One forced_mask.Post
  pub pruned_mask : Free pruned_mask.Asked × One pruned_mask.Post
