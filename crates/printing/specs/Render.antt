-- What is written of a number, a coordinate, a point and a line. Assumes nothing: these are definitions.
use Rattle.std.specs.Prelude.{cond, List, [], ◌∷◌, ◌++◌, ℕ, zero, suc, ◌+◌, ◌/◌, ◌%◌, ltb, ℤ, pos, negsuc}
use Rattle.points.specs.declared.Point.{Point}

-- the decimal digits of a number, where f are enough for it: the last one stands after those of its tenth part
unfoldable pub digits_in : ℕ → ℕ → List ℕ
digits_in zero n = []
digits_in (suc f) n = cond (ltb n 10) ((n + 48) ∷ []) (digits_in f (n / 10) ++ ((n % 10 + 48) ∷ []))

-- the decimal digits of a number below 100,000
abbrev pub digits_of : ℕ → List ℕ
digits_of n = digits_in 5 n

-- `-` only before a nonzero coordinate
abbrev pub coord_text : ℤ → List ℕ
coord_text (pos n) = digits_of n
coord_text (negsuc n) = 45 ∷ digits_of (suc n)

-- x,y
abbrev pub pair_text : Point → List ℕ
pair_text p = coord_text p.x ++ (44 ∷ coord_text p.y)

-- a line: a word, a number, a newline
abbrev pub number_text : List ℕ → ℕ → List ℕ
number_text word n = word ++ (digits_of n ++ (10 ∷ []))

-- a line: a word, two coordinates, a newline
abbrev pub point_text : List ℕ → Point → List ℕ
point_text word p = word ++ (pair_text p ++ (10 ∷ []))
