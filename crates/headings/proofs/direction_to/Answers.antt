-- `headings::direction_to` meets its contract: both points passed the test of their range. Assumes nothing.
use Rattle.std.proofs.Common.{◌∙◌}
use Rattle.points.proofs.Range.{both_checked}
use Rattle.headings.specs.Headings.{heading_of}
use Rattle.headings.proofs.direction_to.Goals as goal

pub returns : goal.returns
returns c = c.direction_between.ensures ∙ both_checked heading_of c.args.a c.args.b c.in_ok-checked.field-0 c.in_ok-checked-2.field-0 c.checked.result c.checked-2.result c.checked.ensures c.in_ok-checked.was c.checked-2.ensures c.in_ok-checked-2.was
