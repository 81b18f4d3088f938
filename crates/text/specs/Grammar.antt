-- The form of a number, a coordinate and a point. A text is the list of its bytes; what is read comes with the count of its bytes.
-- Assumes nothing: these are definitions.
use Rattle.std.specs.Borrow.{Bor}
use Rattle.std.specs.Prelude.{◌≡◌, ◌+◌, Option, None, Some, MatchOption, Bool, ◌&&◌, cond, List, [], ◌∷◌, ℕ, zero, suc, ◌-◌, ◌*◌, leb, ltb, eqb, ℤ, pos, negsuc, length, get_or, drop}
use Rattle.points.specs.declared.Point.{Point}

-- what was read as a number, a coordinate or a point, with the count of its bytes, where there is one
abbrev pub Num : Type 0
Num = Option (ℕ × ℕ)

abbrev pub Coord : Type 0
Coord = Option (ℤ × ℕ)

abbrev pub Pair : Type 0
Pair = Option (Point × ℕ)

-- a reader answers what the text l begins with: the value, and the text after its bytes
abbrev pub Reads : {A : Type 0} → List ℕ → Option (A × ℕ) → Option (A × Bor (List ℕ)) → Type 0
Reads l form answer = MatchOption answer (form ≡ None) (λ p. (n : ℕ) × (form ≡ Some (p.0, n)) × (p.1.now ≡ drop n l) × (length p.1.now + n ≡ length l))

-- a decimal digit
abbrev pub digit : ℕ → Bool
digit b = leb 48 b && leb b 57

-- the digits that follow, where acc is the number so far and n the bytes read so far: at most limit
unfoldable pub more_of : ℕ → ℕ → ℕ → List ℕ → Num
more_of limit acc n [] = Some (acc, n)
more_of limit acc n (b ∷ bs) =
    cond (digit b)
    (cond (leb (acc * 10 + (b - 48)) limit) (more_of limit (acc * 10 + (b - 48)) (n + 1) bs) None)
    (Some (acc, n))

-- a decimal number with no leading zero
unfoldable pub number_of : ℕ → List ℕ → Num
unfolding more_of
number_of limit [] = None
number_of limit (b ∷ bs) = cond (eqb b 48) (Some (0, 1)) (cond (digit b) (more_of limit (b - 48) 1 bs) None)

-- what was read as a number, as a coordinate: a minus sign stands before a nonzero number, and is one byte more
abbrev pub plus : Num → Coord
plus (Some (v, n)) = Some (pos v, n)
plus None = None

abbrev pub minus : Num → Coord
minus (Some (zero, n)) = None
minus (Some (suc v, n)) = Some (negsuc v, n + 1)
minus None = None

-- a coordinate, from -1024 to 1023
unfoldable pub coord_of : List ℕ → Coord
unfolding number_of
coord_of [] = None
coord_of (b ∷ bs) = cond (eqb b 45) (minus (number_of 1024 bs)) (plus (number_of 1023 (b ∷ bs)))

-- a coordinate, a comma and a coordinate
abbrev pub second : ℤ → ℕ → Coord → Pair
second x m (Some (y, n)) = Some (record { x = x; y = y }, m + 1 + n)
second x m None = None

-- the byte at a place is b
abbrev pub byte_is : List ℕ → ℕ → ℕ → Bool
byte_is l k b = ltb k (length l) && eqb (get_or l k 0) b

abbrev pub first : List ℕ → Coord → Pair
first l (Some (x, m)) = cond (byte_is l m 44) (second x m (coord_of (drop (m + 1) l))) None
first l None = None

abbrev pub pair_of : List ℕ → Pair
pair_of l = first l (coord_of l)
