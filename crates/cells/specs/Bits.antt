-- Cells as bits: what bit k of a list of 64-bit words is, for any number of words. Assumes nothing.
use Rattle.std.specs.Prelude.{ℕ, zero, suc, ◌+◌, ◌-◌, ◌*◌, ◌/◌, ◌%◌, ◌≤◌, ◌<◌, ◌≡◌, Bool, true, false, ◌&&◌, ◌||◌, List, leb, ltb, length, get_or}

-- bits to a word
abbrev pub word_bits : ℕ
word_bits = 64

-- the highest of them
abbrev pub top_bit : ℕ
top_bit = word_bits - 1

-- words of a column, at most: far more than any has, and few enough that no number of a bit leaves 32 bits
abbrev pub most_words : ℕ
most_words = 1024

-- a digit is set where it is not 0
abbrev pub is_set : ℕ → Bool
is_set zero = false
is_set (suc n) = true

-- binary digit k of x, the lowest first
abbrev pub digit : ℕ → ℕ → Bool
digit x zero = is_set (x % 2)
digit x (suc k) = digit (x / 2) k

-- bit k of the words ws
unfoldable pub cell_bit : List ℕ → ℕ → Bool
cell_bit ws k = digit (get_or ws (k / word_bits) 0) (k % word_bits)

-- k is one of the numbers from a up to b
abbrev pub between : ℕ → ℕ → ℕ → Bool
between a b k = leb a k && ltb k b

-- x has, as its word-bits digits, the tests f from a on
abbrev pub Shows : ℕ → (ℕ → Bool) → ℕ → Type 0
Shows x f a = (k : ℕ) → k < word_bits → digit x k ≡ f (a + k)

-- the words ws hold the cells from a up to b
pub record RunIn (ws : List ℕ) (a b : ℕ) : Type 0 where
  pub some : a < b
  pub room : b ≤ word_bits * length ws
  pub short : length ws ≤ most_words

-- The run from a up to b was marked in the words ws: every bit after is the bit before or one of the run, and r says whether no bit of the run was set.
pub record Marked (ws : List ℕ) (a b : ℕ) (out : List ℕ) (r : Bool) : Type 0 where
  pub bits : (k : ℕ) → cell_bit out k ≡ (cell_bit ws k || between a b k)
  pub was_free : r ≡ true → (k : ℕ) → a ≤ k → k < b → cell_bit ws k ≡ false
  pub was_held : r ≡ false → ((k : ℕ) → a ≤ k → k < b → cell_bit ws k ≡ false) → ⊥
