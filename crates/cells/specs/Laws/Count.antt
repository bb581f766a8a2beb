-- How many bits are set: the ones of a word are its set digits, and the words are counted one after the other. Assumes nothing.
use Rattle.std.specs.Prelude.{ℕ, zero, suc, ◌+◌, ◌-◌, ◌*◌, ◌/◌, ◌%◌, ◌^◌, ◌≤◌, ◌<◌, ◌≡◌, refl, Bool, true, false, cond, List, [], ◌∷◌, length, get_or}
use Rattle.std.proofs.Common.{sym, ap, ap₂, ◌∙◌, arith, pow-suc, add-zero, add-one, take, take_all}
use Rattle.std.specs.List.{sum_by}
use Rattle.std.proofs.lemmas.List.Sums.{sum_by_more}
use Rattle.std.specs.Int.Count.{ones, ones_step}
use Rattle.model.specs.Bounded.{sum_below}
use Rattle.model.proofs.Laws.Bounded.{sum_ext, sum_zero}
use Rattle.cells.specs.Bits.{top_bit, word_bits, is_set, digit, cell_bit}
use Rattle.cells.specs.Laws.Marks.{bit_in_word}

-- 1 for each number that passes
abbrev pub one_for : (ℕ → Bool) → ℕ → ℕ
one_for f k = cond (f k) 1 0

ex_count : sum_below (word_bits * 2) (one_for (cell_bit (5 ∷ 2 ^ top_bit ∷ []))) ≡ 3
unfolding sum_below cell_bit
ex_count = refl

-- ---- sums, taken apart

pub sum_split : (m n : ℕ) (f : ℕ → ℕ) → sum_below (m + n) f ≡ sum_below m f + sum_below n (λ k. f (m + k))
unfolding sum_below
sum_split m zero f = rw (add-zero m) (sym (add-zero (sum_below m f)))
sum_split m (suc n) f = let e : m + suc n ≡ suc (m + n) = omega arith in rw e (omega (arith, sum_split m n f))

pub sum_first : (n : ℕ) (f : ℕ → ℕ) → sum_below (suc n) f ≡ f 0 + sum_below n (λ k. f (suc k))
unfolding sum_below
sum_first zero f = omega arith
sum_first (suc n) f = omega (arith, sum_first n f)

pub count_le : (n : ℕ) (f : ℕ → Bool) → sum_below n (one_for f) ≤ n
unfolding sum_below
count_le zero f = omega arith
count_le (suc n) f = omega (arith, count_le n f, one (f n))
  where
    one : (b : Bool) → cond b 1 0 ≤ 1
    one true = omega arith
    one false = omega arith

-- ---- one word

set_one : (d : ℕ) → d < 2 → d ≡ cond (is_set d) 1 0
set_one zero l = refl
set_one (suc zero) l = refl
set_one (suc (suc d)) l = absurd (omega arith)

-- THEOREM: the ones of a number of n digits are its set digits
pub count_digits : (n x : ℕ) → x < 2 ^ n → ones x ≡ sum_below n (one_for (digit x))
unfolding sum_below ones
count_digits zero x l = let e : x ≡ 0 = omega arith in rw e
count_digits (suc n) x l =
    let p = pow-suc 2 n in
    ones_step x
    ∙ ap₂ (λ (a b : ℕ). a + b) (set_one (x % 2) (omega arith)) (count_digits n (x / 2) (omega arith))
    ∙ sym (sum_first n (one_for (digit x)))

-- ---- the words

-- THEOREM: one word more has its ones more
pub count_word : (ws : List ℕ) (i : ℕ) → get_or ws i 0 < 2 ^ word_bits
    → sum_below (word_bits * suc i) (one_for (cell_bit ws)) ≡ sum_below (word_bits * i) (one_for (cell_bit ws)) + ones (get_or ws i 0)
count_word ws i l =
    let e : word_bits * suc i ≡ word_bits * i + word_bits = omega arith in
    let w = count_digits word_bits (get_or ws i 0) l in
    let c = sum_ext word_bits (λ k. one_for (cell_bit ws) (word_bits * i + k)) (one_for (digit (get_or ws i 0))) (λ k q. ap (λ (b : Bool). cond b 1 0) (bit_in_word ws i k q)) in
    rw e (sum_split (word_bits * i) word_bits (one_for (cell_bit ws)) ∙ ap (λ (x : ℕ). sum_below (word_bits * i) (one_for (cell_bit ws)) + x) (c ∙ sym w))

-- THEOREM: where no bit at n or above is set, those below n are all
pub count_below : (ws : List ℕ) (n : ℕ) → n ≤ word_bits * length ws → ((k : ℕ) → n ≤ k → cell_bit ws k ≡ false)
    → sum_below (word_bits * length ws) (one_for (cell_bit ws)) ≡ sum_below n (one_for (cell_bit ws))
count_below ws n l h =
    let e : word_bits * length ws ≡ n + (word_bits * length ws - n) = omega arith in
    let z = sum_zero (word_bits * length ws - n) (λ k. one_for (cell_bit ws) (n + k)) (λ k q. ap (λ (b : Bool). cond b 1 0) (h (n + k) (omega arith))) in
    ap (λ (x : ℕ). sum_below x (one_for (cell_bit ws))) e ∙ omega (arith, sum_split n (word_bits * length ws - n) (one_for (cell_bit ws)), z)

-- ---- all words

counted : (ws : List ℕ) → ((k : ℕ) → get_or ws k 0 < 2 ^ word_bits) → (i : ℕ) → i ≤ length ws → sum_by ones (take i ws) ≡ sum_below (word_bits * i) (one_for (cell_bit ws))
unfolding sum_below
counted ws fit zero l = refl
counted ws fit (suc i) l =
    rw add-one at (sum_by_more ones ws i 0 (omega arith)) ∙ ap (λ (n : ℕ). n + ones (get_or ws i 0)) (counted ws fit i (omega arith)) ∙ sym (count_word ws i (fit i))

-- THEOREM: the ones of all words are the set bits
pub count_words : (ws : List ℕ) → ((k : ℕ) → get_or ws k 0 < 2 ^ word_bits) → sum_by ones ws ≡ sum_below (word_bits * length ws) (one_for (cell_bit ws))
count_words ws fit = rw (take_all (length ws) ws (omega arith)) at (counted ws fit (length ws) (omega arith))
