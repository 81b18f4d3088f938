-- `printing::put_number` meets its contract: the digits of the tenth part stand before the last one. The measure is the number. Assumes nothing.
use Rattle.printing.proofs.+put_number.Given as goal

abbrev pub decreases-put_number : goal.decreases-put_number
decreases-put_number l = l.n
