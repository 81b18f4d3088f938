-- `headings::direction_between` meets its contract: the machine's differences of coordinates in range are the plain ones. Assumes nothing.
use Rattle.std.proofs.Common.{true, false, sym, ◌∙◌}
use Rattle.points.proofs.Signed.{parts, reads}
use Rattle.headings.proofs.Known.{heading_known}
use Rattle.headings.proofs.direction_between.Goals as goal

pub gap-down-requires : goal.gap-down-requires
gap-down-requires c = (reads c.args.a.y (parts c.args.a c.requires.0).1, reads c.args.b.y (parts c.args.b c.requires.1).1)

pub returns-then-in_line : goal.returns-then-in_line
returns-then-in_line c =
    heading_known c.args.a c.args.b c.sign_between-sx.result c.sign_between-sy.result c.gap-across.result c.gap-down.result c.larger-steps.result true c.in-Some.direction c.requires.0 c.requires.1
    c.sign_between-sx.ensures c.sign_between-sy.ensures (sym c.in-Some.is ∙ c.towards.ensures) c.gap-across.ensures.0 c.gap-down.ensures.0 c.larger-steps.ensures (sym c.if-in_line.true ∙ c.in_line.ensures)

pub returns-else-in_line : goal.returns-else-in_line
returns-else-in_line c =
    heading_known c.args.a c.args.b c.sign_between-sx.result c.sign_between-sy.result c.gap-across.result c.gap-down.result c.larger-steps.result false c.in-Some.direction c.requires.0 c.requires.1
    c.sign_between-sx.ensures c.sign_between-sy.ensures (sym c.in-Some.is ∙ c.towards.ensures) c.gap-across.ensures.0 c.gap-down.ensures.0 c.larger-steps.ensures (sym c.if-in_line.false ∙ c.in_line.ensures)
