-- The form of a line: a word, a number or a point, and a newline. A text is the list of its bytes; what is read comes with the count of the line's bytes.
-- Assumes nothing: these are definitions.
use Rattle.std.specs.Prelude.{None, Some, Bool, true, false, ◌&&◌, cond, List, [], ◌∷◌, ℕ, ◌+◌, eqb, length, drop}
use Rattle.text.specs.Grammar.{Num, Pair, number_of, pair_of, byte_is}

-- a text begins with a word
abbrev pub starts_with : List ℕ → List ℕ → Bool
starts_with [] t = true
starts_with (b ∷ bs) [] = false
starts_with (b ∷ bs) (c ∷ cs) = eqb c b && starts_with bs cs

-- a newline ends a line; k is how long its word is, and l what follows the word
abbrev pub number_end : ℕ → List ℕ → Num → Num
number_end k l (Some (v, n)) = cond (byte_is l n 10) (Some (v, k + n + 1)) None
number_end k l None = None

abbrev pub point_end : ℕ → List ℕ → Pair → Pair
point_end k l (Some (p, n)) = cond (byte_is l n 10) (Some (p, k + n + 1)) None
point_end k l None = None

-- a line: a word, a number of at most limit, a newline
unfoldable pub number_line : List ℕ → ℕ → List ℕ → Num
number_line word limit l = cond (starts_with word l) (number_end (length word) (drop (length word) l) (number_of limit (drop (length word) l))) None

-- a line: a word, two coordinates, a newline
unfoldable pub point_line : List ℕ → List ℕ → Pair
point_line word l = cond (starts_with word l) (point_end (length word) (drop (length word) l) (pair_of (drop (length word) l))) None
