-- Numbers in a list of bytes, least byte first. Assumes nothing: these are definitions.
use Rattle.std.specs.Prelude.{cond, List, ℕ, ◌+◌, ◌-◌, ◌*◌, ltb, ℤ, pos, negsuc, get_or}

-- the byte at a place, 0 past the end
abbrev pub byte_at : List ℕ → ℕ → ℕ
byte_at s i = get_or s i 0

-- the number of two bytes
abbrev pub pair_at : List ℕ → ℕ → ℕ
pair_at s i = byte_at s i + 256 * byte_at s (i + 1)

-- the number of four bytes
abbrev pub word_at : List ℕ → ℕ → ℕ
word_at s i = pair_at s i + 65536 * pair_at s (i + 2)

-- a number below 2 * half read as a signed one
abbrev pub signed_of : ℕ → ℕ → ℤ
signed_of half v = cond (ltb v half) (pos v) (negsuc (half + half - 1 - v))
