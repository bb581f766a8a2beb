-- MODEL 17.5 and 18.3: the model's numbers and its lines of output are what the library prints. Assumes nothing.
use Rattle.std.specs.Prelude.{ℕ, zero, suc, ◌+◌, ◌*◌, ◌/◌, ◌%◌, ◌≤◌, ◌<◌, ◌≡◌, ◌⊎◌, [], ◌∷◌, ◌++◌, ℤ, pos, negsuc, nat_abs}
use Prim.Native.Char.{code}
use Rattle.std.proofs.Common.{sym, ap, ◌∙◌, inl, inr, arith, lt-ltb, le-ltb}
use Rattle.std.specs.Int.Signed.{mag}
use Rattle.runs.specs.Laws.Tests.{lt_or_ge}
use Rattle.model.specs.Sheet.{digits, shown, output_line}
use Rattle.std.specs.Fmt.{decimal, signed_decimal}
use Rattle.std.proofs.lemmas.Fmt.{AppendsLastDigit, decimal_from_appends, length-decimal-le}

-- ---- digits

-- 10 to the power of k
abbrev pub tens : ℕ → ℕ
tens zero = 1
tens (suc k) = 10 * tens k

step_small : (k n : ℕ) → n < 10 → digits (suc k) n ≡ (code "0" + n) ∷ []
unfolding digits
step_small k n h = rw (lt-ltb n 10 h)

step_last : (k n : ℕ) → 10 ≤ n → digits (suc k) n ≡ digits k (n / 10) ++ ((code "0" + n % 10) ∷ [])
unfolding digits
step_last k n h = rw (le-ltb n 10 h)

-- asking for more digits than a number has makes no difference
digits_more : (k n : ℕ) → n < tens (suc k) → digits k n ≡ digits (suc k) n
unfolding digits
digits_more zero n h = sym (step_small zero n (omega arith))
digits_more (suc k) n h = go (lt_or_ge n 10) (λ l. digits_more k (n / 10) l)
  where
    go : (n < 10) ⊎ (10 ≤ n) → (n / 10 < tens (suc k) → digits k (n / 10) ≡ digits (suc k) (n / 10)) → digits (suc k) n ≡ digits (suc (suc k)) n
    go (inl l) r = step_small k n l ∙ sym (step_small (suc k) n l)
    go (inr l) r = step_last k n l ∙ ap (λ d. d ++ ((code "0" + n % 10) ∷ [])) (r (omega arith)) ∙ sym (step_last (suc k) n l)

-- ---- the model's numbers are what std prints

appends : AppendsLastDigit digits
appends = record { one = step_small; more = step_last }

shown_decimal : (n : ℕ) → n < tens 10 → shown (pos n) ≡ decimal n
unfolding shown
shown_decimal n h = digits_more 9 n (omega arith) ∙ decimal_from_appends digits appends 10 n (omega arith) (length-decimal-le 10 n (omega arith) (omega arith) (omega arith))

pub shown_signed : (z : ℤ) → nat_abs z < tens 10 → shown z ≡ signed_decimal z
unfolding shown
shown_signed (pos n) h = shown_decimal n h
shown_signed (negsuc n) h = ap (λ l. code "-" ∷ l) (shown_decimal (suc n) h)

below : (z : ℤ) → mag z < 2147483648 → nat_abs z < tens 10
below (pos n) h = omega arith
below (negsuc n) h = omega arith

-- the line as std prints its numbers
pub line_decimal : (line : ℕ) (answer : ℤ) (column first step last : ℕ) → line < 4294967296 → mag answer < 2147483648 → column < 4294967296 → first < 4294967296 → step < 4294967296 → last < 4294967296
    → output_line line answer column first step last
    ≡ decimal line ++ (32 ∷ []) ++ signed_decimal answer ++ (32 ∷ []) ++ decimal column ++ (32 ∷ []) ++ decimal first ++ (32 ∷ []) ++ decimal step ++ (32 ∷ []) ++ decimal last ++ (10 ∷ [])
unfolding output_line
line_decimal line answer column first step last h1 h2 h3 h4 h5 h6 =
    rw (shown_decimal line (omega arith), shown_signed answer (below answer h2), shown_decimal column (omega arith), shown_decimal first (omega arith), shown_decimal step (omega arith), shown_decimal last (omega arith))
