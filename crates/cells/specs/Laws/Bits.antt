-- The binary digits of what the machine's operations give. Assumes nothing.
use Rattle.std.specs.Prelude.{ℕ, zero, suc, ◌+◌, ◌-◌, ◌*◌, ◌/◌, ◌%◌, ◌^◌, ◌<◌, min, max, ◌≡◌, refl, false, not, ◌&&◌, ◌||◌, leb, ltb}
use Rattle.std.proofs.Common.{sym, ap, ap₂, ◌∙◌, true≢false, arith, pow-suc, add_comm, zero-add, mul_assoc, add-one, lt-ltb, le-ltb, le-leb, pow_pos, shr-shr}
use Rattle.std.proofs.Math.Nat.{zero-min, min-zero, suc-min-suc, zero-max, max-zero, suc-max-suc, sub-zero}
use Rattle.std.proofs.Math.Dec.{leb-suc-suc}
use Rattle.std.proofs.lemmas.Bool.{lt-leb}
use Rattle.std.proofs.Math.Pow.{field, mod-mod-pow}
use Rattle.std.specs.Int.Bits.{bit_and, bit_or, bit_xor, differ, and_step, or_step, xor_step}
use Rattle.cells.specs.Bits.{is_set, digit}
use Rattle.cells.specs.Ends.{differs}

-- ---- digit by digit

set_min : (a b : ℕ) → is_set (min a b) ≡ (is_set a && is_set b)
set_min zero b = rw (zero-min b)
set_min (suc a) zero = rw (min-zero (suc a))
set_min (suc a) (suc b) = rw (suc-min-suc a b)

set_max : (a b : ℕ) → is_set (max a b) ≡ (is_set a || is_set b)
set_max zero b = rw (zero-max b)
set_max (suc a) zero = rw (max-zero (suc a))
set_max (suc a) (suc b) = rw (suc-max-suc a b)

set_differ : (a b : ℕ) → a < 2 → b < 2 → is_set (differ a b) ≡ differs (is_set a) (is_set b)
set_differ zero b p q = refl
set_differ (suc zero) zero p q = refl
set_differ (suc zero) (suc zero) p q = refl
set_differ (suc (suc a)) b p q = absurd (omega arith)
set_differ (suc zero) (suc (suc b)) p q = absurd (omega arith)

differ_lt : (a b : ℕ) → a < 2 → b < 2 → differ a b < 2
differ_lt zero b p q = q
differ_lt (suc zero) zero p q = p
differ_lt (suc zero) (suc zero) p q = omega arith
differ_lt (suc (suc a)) b p q = absurd (omega arith)
differ_lt (suc zero) (suc (suc b)) p q = absurd (omega arith)

pub digit_and : (a b k : ℕ) → digit (bit_and a b) k ≡ (digit a k && digit b k)
digit_and a b zero =
    let s = and_step a b in
    let e : bit_and a b % 2 ≡ min (a % 2) (b % 2) = omega arith in
    rw e (set_min (a % 2) (b % 2))
digit_and a b (suc k) =
    let s = and_step a b in
    let e : bit_and a b / 2 ≡ bit_and (a / 2) (b / 2) = omega arith in
    rw e (digit_and (a / 2) (b / 2) k)

pub digit_or : (a b k : ℕ) → digit (bit_or a b) k ≡ (digit a k || digit b k)
digit_or a b zero =
    let s = or_step a b in
    let e : bit_or a b % 2 ≡ max (a % 2) (b % 2) = omega arith in
    rw e (set_max (a % 2) (b % 2))
digit_or a b (suc k) =
    let s = or_step a b in
    let e : bit_or a b / 2 ≡ bit_or (a / 2) (b / 2) = omega arith in
    rw e (digit_or (a / 2) (b / 2) k)

pub digit_xor : (a b k : ℕ) → digit (bit_xor a b) k ≡ differs (digit a k) (digit b k)
digit_xor a b zero =
    let s = xor_step a b in
    let l = differ_lt (a % 2) (b % 2) (omega arith) (omega arith) in
    let e : bit_xor a b % 2 ≡ differ (a % 2) (b % 2) = omega arith in
    rw e (set_differ (a % 2) (b % 2) (omega arith) (omega arith))
digit_xor a b (suc k) =
    let s = xor_step a b in
    let l = differ_lt (a % 2) (b % 2) (omega arith) (omega arith) in
    let e : bit_xor a b / 2 ≡ bit_xor (a / 2) (b / 2) = omega arith in
    rw e (digit_xor (a / 2) (b / 2) k)

-- ---- 0, all ones, not

pub digit_zero : (k : ℕ) → digit 0 k ≡ false
digit_zero zero = refl
digit_zero (suc k) = digit_zero k

-- the lowest w digits are set
pub digit_ones : (w k : ℕ) → digit (2 ^ w - 1) k ≡ ltb k w
digit_ones zero k = digit_zero k ∙ sym (le-ltb k 0 (omega arith))
digit_ones (suc w) zero =
    let p = pow-suc 2 w in
    let l = pow_pos w in
    let e : (2 ^ suc w - 1) % 2 ≡ 1 = omega arith in
    rw e (sym (lt-ltb 0 (suc w) (omega arith)))
digit_ones (suc w) (suc k) =
    let p = pow-suc 2 w in
    let l = pow_pos w in
    let e : (2 ^ suc w - 1) / 2 ≡ 2 ^ w - 1 = omega arith in
    rw e (digit_ones w k ∙ sym (leb-suc-suc (suc k) w))

set_not : (a : ℕ) → a < 2 → is_set (1 - a) ≡ not (is_set a)
set_not zero p = refl
set_not (suc zero) p = refl
set_not (suc (suc a)) p = absurd (omega arith)

pub digit_not : (w x k : ℕ) → x < 2 ^ w → k < w → digit ((2 ^ w - 1) - x) k ≡ not (digit x k)
digit_not zero x k h q = absurd (omega arith)
digit_not (suc w) x zero h q =
    let p = pow-suc 2 w in
    let e : ((2 ^ suc w - 1) - x) % 2 ≡ 1 - x % 2 = omega arith in
    rw e (set_not (x % 2) (omega arith))
digit_not (suc w) x (suc k) h q =
    let p = pow-suc 2 w in
    let e : ((2 ^ suc w - 1) - x) / 2 ≡ (2 ^ w - 1) - x / 2 = omega arith in
    rw e (digit_not w (x / 2) k (omega arith) (omega arith))

-- ---- shifts

-- what is kept of a number is its own digits
pub digit_mod : (w x k : ℕ) → k < w → digit (x % 2 ^ w) k ≡ digit x k
digit_mod zero x k q = absurd (omega arith)
digit_mod (suc w) x zero q = let e = rw add-one at (mod-mod-pow x w 1) in ap is_set e
digit_mod (suc w) x (suc k) q = let e = rw add-one at (field x w 1) in ap (λ (y : ℕ). digit y k) e ∙ digit_mod w (x / 2) k (omega arith)

-- one up
pub digit_up : (w x k : ℕ) → suc k < w → digit (x * 2 ^ 1 % 2 ^ w) (suc k) ≡ digit x k
digit_up w x k q = let e : x * 2 / 2 ≡ x = omega arith in digit_mod w (x * 2) (suc k) q ∙ ap (λ (y : ℕ). digit y k) e

pub digit_up_first : (w x : ℕ) → 0 < w → digit (x * 2 ^ 1 % 2 ^ w) 0 ≡ false
digit_up_first w x q = let e : x * 2 % 2 ≡ 0 = omega arith in digit_mod w (x * 2) 0 q ∙ ap is_set e

-- n down
pub digit_down : (n x k : ℕ) → digit (x / 2 ^ n) k ≡ digit x (n + k)
digit_down zero x k = let e : x / 1 ≡ x = omega arith in ap₂ digit e (sym (zero-add k))
digit_down (suc n) x k =
    let e : x / 2 / 2 ^ n ≡ x / 2 ^ suc n = rw (add_comm 1 n, add-one n) at (shr-shr x 1 n) in
    let f : suc n + k ≡ suc (n + k) = omega arith in
    ap (λ (y : ℕ). digit y k) (sym e) ∙ digit_down n (x / 2) k ∙ ap (digit x) (sym f)

-- n up
doubled : (n x : ℕ) → x * 2 ^ suc n ≡ x * 2 ^ n * 2
doubled n x = ap (λ (p : ℕ). x * p) (pow-suc 2 n) ∙ sym (mul_assoc x (2 ^ n) 2)

digit_times : (n x k : ℕ) → digit (x * 2 ^ n) k ≡ (leb n k && digit x (k - n))
digit_times zero x k =
    let e : x * 1 ≡ x = omega arith in
    rw (le-leb 0 k (omega arith)) (ap₂ digit e (sym (sub-zero k)))
digit_times (suc n) x zero =
    let e : x * 2 ^ suc n % 2 ≡ 0 = let d = doubled n x in omega arith in
    rw (lt-leb (suc n) 0 (omega arith)) (ap is_set e)
digit_times (suc n) x (suc k) =
    let e : x * 2 ^ suc n / 2 ≡ x * 2 ^ n = let d = doubled n x in omega arith in
    let f : suc k - suc n ≡ k - n = omega arith in
    rw (leb-suc-suc, f) (ap (λ (y : ℕ). digit y k) e ∙ digit_times n x k)

pub digit_shift : (w n x k : ℕ) → k < w → digit (x * 2 ^ n % 2 ^ w) k ≡ (leb n k && digit x (k - n))
digit_shift w n x k q = digit_mod w (x * 2 ^ n) k q ∙ digit_times n x k

-- the highest digit
pub digit_top : (k x : ℕ) → x < 2 ^ suc k → (x / 2 ^ k < 2) × (is_set (x / 2 ^ k) ≡ digit x k)
digit_top zero x h = let e : x / 1 ≡ x % 2 = omega arith in (omega arith, ap is_set e)
digit_top (suc k) x h =
    let p = pow-suc 2 (suc k) in
    let (l, r) = digit_top k (x / 2) (omega arith) in
    let f : x / 2 / 2 ^ k ≡ x / 2 ^ suc k = rw (add_comm 1 k, add-one k) at (shr-shr x 1 k) in
    (rw f at l, rw f at r)

-- a number of one digit
pub digit_first : (x : ℕ) → x < 2 → digit x 0 ≡ is_set x
digit_first x h = let e : x % 2 ≡ x = omega arith in ap is_set e

pub digit_later : (x k : ℕ) → x < 2 → digit x (suc k) ≡ false
digit_later x k h = let e : x / 2 ≡ 0 = omega arith in ap (λ (y : ℕ). digit y k) e ∙ digit_zero k

-- ---- no digit set

set_none : (a : ℕ) → is_set a ≡ false → a ≡ 0
set_none zero e = refl
set_none (suc a) e = absurd (true≢false e)

pub digits_none : (w x : ℕ) → x < 2 ^ w → ((k : ℕ) → k < w → digit x k ≡ false) → x ≡ 0
digits_none zero x h f = omega arith
digits_none (suc w) x h f =
    let p = pow-suc 2 w in
    let r = digits_none w (x / 2) (omega arith) (λ k q. f (suc k) (omega arith)) in
    let s = set_none (x % 2) (f 0 (omega arith)) in
    omega arith
