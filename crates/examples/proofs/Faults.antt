-- The examples of specs/Faults.antt, computed. Assumes nothing.
use mathlib.Core.Path.{refl}
use Rattle.text.specs.Grammar.{more_of, number_of}
use Rattle.lines.specs.Lines.{number_line}
use Rattle.faults.specs.Faults.{from_line, said_in, line_fault, cells_fault, row_fault, fault_of}
use Rattle.examples.specs.Faults.{Faults}

pub faults : Faults
unfolding more_of number_of number_line from_line said_in line_fault cells_fault row_fault fault_of
faults = record {
  counts = (refl, refl);
  letter = refl;
  more = (refl, refl);
  missing = (refl, refl);
  newline = refl;
  return = (refl, refl);
  mark = refl;
  form = (refl, refl);
  long = refl;
}
