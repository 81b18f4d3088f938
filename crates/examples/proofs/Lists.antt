-- The examples of specs/Lists.antt, computed. Assumes nothing.
use mathlib.Core.Path.{refl}
use lib.Ieee.{of_bits, of_fields}
use Rattle.examples.specs.Lists.{Lists}

pub lists : Lists
unfolding of_bits of_fields
lists =
    record {
      least_first = refl;
      byte_there = (refl, refl);
      past_the_end = refl;
      minus_one = (refl, refl);
      lowest = (refl, refl);
      first_nan = refl;
      infinite = refl;
      negative_zero = refl;
    }
