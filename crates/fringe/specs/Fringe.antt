-- Rust's BinaryHeap on a list of entries: a push and a pop. Assumes nothing.
use Rattle.std.specs.Prelude.{◌-◌, cond, List, [], ◌∷◌, ◌++◌, length, take, leb}
use Rattle.sifts.specs.declared.Entry.{Entry}
use Rattle.sifts.specs.Sifts.{at, up, down}

-- a push: the entry is put last, and rises
unfoldable pub push : List Entry → Entry → List Entry
push l e = up (length l) (l ++ (e ∷ [])) (length l) e

-- what a pop returns, of a heap that is not empty
unfoldable pub top : List Entry → Entry
top l = at l 0

-- what a pop leaves: the last entry fills the hole at 0, and sinks
unfoldable pub rest : List Entry → List Entry
rest l = cond (leb (length l) 1) [] (down (length l - 1) (length l - 1) (take (length l - 1) l) 0 (at l (length l - 1)))
