-- The sifts of Rust's BinaryHeap on a list of entries, by the entries' keys. Assumes nothing.
use Rattle.std.specs.Prelude.{ℕ, zero, suc, ◌+◌, ◌-◌, ◌*◌, ◌/◌, cond, List, [], ◌∷◌, get_or, set, leb, ltb}
use Rattle.sifts.specs.declared.Entry.{Entry}

-- an entry: its key and its index
abbrev pub entry : ℕ → ℕ → Entry
entry k i = record { key = k; index = i }

-- the entries of two slices
abbrev pub entries : List ℕ → List ℕ → List Entry
entries [] ys = []
entries (x ∷ xs) [] = []
entries (x ∷ xs) (y ∷ ys) = entry x y ∷ entries xs ys

-- entry number i
abbrev pub at : List Entry → ℕ → Entry
at l i = get_or l i (entry 0 0)

-- the place above place i
abbrev pub parent : ℕ → ℕ
parent i = (i - 1) / 2

-- sift_up: the hole at p rises while e is above its parent, and then e is put there. f is enough turns: p is.
unfoldable pub up : ℕ → List Entry → ℕ → Entry → List Entry
up zero l p e = set l p e
up (suc f) l p e =
    cond (leb p 0) (set l p e)
    (cond (leb e.key (at l (parent p)).key) (set l p e)
    (up f (set l p (at l (parent p))) (parent p) e))

-- the child c or c + 1 that has the larger key, the second on a tie
abbrev pub larger_of : List ℕ → ℕ → ℕ
larger_of ks c = cond (leb (get_or ks c 0) (get_or ks (c + 1) 0)) (c + 1) c

-- the same of entries
abbrev pub largest : List Entry → ℕ → ℕ
largest l c = cond (leb (at l c).key (at l (c + 1)).key) (c + 1) c

-- sift_down_to_bottom: the hole at p sinks along the larger children to a leaf of the first n entries, and e rises from there
unfoldable pub down : ℕ → ℕ → List Entry → ℕ → Entry → List Entry
down zero n l p e = up p l p e
down (suc f) n l p e =
    cond (ltb (2 * p + 1 + 1) n) (down f n (set l p (at l (largest l (2 * p + 1)))) (largest l (2 * p + 1)) e)
    (cond (ltb (2 * p + 1) n) (up (2 * p + 1) (set l p (at l (2 * p + 1))) (2 * p + 1) e)
    (up p l p e))
