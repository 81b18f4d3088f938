-- `faults::said` meets its contract: the line is found, and its number read. Assumes nothing.
use Rattle.std.specs.Prelude.{Some, None}
use Rattle.faults.proofs.Steps.{said_is}
use Rattle.faults.proofs.said.Goals as goal

pub returns-in-Some : goal.returns-in-Some
returns-in-Some c =
    let r = c.in-Some.ensures in
    said_is c.args.word.now _ c.from_line.result.now (Some (c.in-Some.v, r.0)) r.1 c.from_line.ensures

pub returns-in-None : goal.returns-in-None
returns-in-None c = said_is c.args.word.now _ c.from_line.result.now None c.in-None.ensures c.from_line.ensures
