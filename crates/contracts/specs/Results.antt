-- What is owed of every public call: it asks nothing of its caller, and two results that its contract allows are equal. Assumes nothing.
use Rattle.contracts.specs.Values.{Values}
use Rattle.contracts.specs.Grids.{Grids}
use Rattle.contracts.specs.Searches.{Searches}
use Rattle.contracts.specs.Hosts.{Hosts}

-- THE RESULTS
pub record OneResult : Type 0 where
  pub values : Values
  pub grids : Grids
  pub searches : Searches
  pub hosts : Hosts
