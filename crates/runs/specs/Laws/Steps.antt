-- The laws of steps and of multiples. Assumes nothing.
use Rattle.std.specs.Prelude.{◌≡◌, refl, ◌⊎◌, ℕ, zero, suc, ◌+◌, ◌-◌, ◌*◌, ◌/◌, ◌%◌, ◌≤◌, ◌<◌}
use Rattle.std.proofs.Common.{sym, ap, ◌∙◌, inl, inr, mul-le-mul_right, lt_of_mul-lt-mul_right, div-add-mod', mul_assoc, arith}
use Rattle.std.proofs.Math.Nat.{mul-mod_left}
use Rattle.runs.specs.Laws.Tests.{lt_or_ge}
use Rattle.runs.specs.Runs.{Steps}
use Rattle.runs.specs.Intervals.{Multiple}

-- ---- multiples

-- by a remainder
pub multiple_mod : (h x : ℕ) → x % h ≡ 0 → Multiple h x
multiple_mod h x e = (x / h, omega (arith, div-add-mod' x h))

pub mod_multiple : (h x : ℕ) → Multiple h x → x % h ≡ 0
mod_multiple h x (k, e) = ap (λ (w : ℕ). w % h) e ∙ mul-mod_left k h

-- a multiple of a multiple
pub multiple_times : (h l x : ℕ) → Multiple h l → Multiple l x → Multiple h x
multiple_times h l x (i, u) (j, v) = (j * i, v ∙ ap (λ (w : ℕ). j * w) u ∙ sym (mul_assoc j i h))

pub multiple_le : (h x : ℕ) → 1 ≤ x → Multiple h x → h ≤ x
multiple_le h x l (zero, e) = absurd (omega arith)
multiple_le h x l (suc k, e) = omega arith

-- the lower of two multiples is one or more times h below the higher
pub multiple_gap : (h a b : ℕ) → Multiple h a → Multiple h b → b < a → b + h ≤ a
multiple_gap h a b (i, u) (j, v) l = omega (arith, mul-le-mul_right {m = suc j} {n = i} h (lt_of_mul-lt-mul_right h (omega arith)))

-- ---- steps

pub steps_trans : (s a b c : ℕ) → Steps s a b → Steps s b c → Steps s a c
steps_trans s a b c h k = (h.0 + k.0, omega arith)

times_apart : (s i j : ℕ) → i ≤ j → j * s ≡ (i + (j - i)) * s
times_apart s i j l = ap (λ (w : ℕ). w * s) (omega arith)

-- the higher of two numbers in steps above a is some steps above the lower
pub steps_diff : (s a x y : ℕ) → Steps s a x → Steps s a y → x ≤ y → Steps s x y
steps_diff s a x y (i, e) (j, f) l = go (lt_or_ge j i)
  where
    go : (j < i) ⊎ (i ≤ j) → Steps s x y
    go (inl k) = (0, omega (arith, mul-le-mul_right {m = j} {n = i} s (omega arith)))
    go (inr k) = let d = times_apart s i j k in (j - i, omega arith)

-- down again
pub steps_back : (s a x y : ℕ) → a ≤ x → Steps s a y → Steps s x y → Steps s a x
steps_back s a x y l (j, f) (i, e) = go (lt_or_ge i j)
  where
    go : (i < j) ⊎ (j ≤ i) → Steps s a x
    go (inl k) = let d = times_apart s i j (omega arith) in (j - i, omega arith)
    go (inr k) = (0, omega (arith, mul-le-mul_right {m = j} {n = i} s k))

-- steps of a multiple are steps
pub steps_multiple : (s l x y : ℕ) → Multiple s l → Steps l x y → Steps s x y
steps_multiple s l x y m (j, f) = let (k, e) = multiple_times s l (j * l) m (j, refl) in (k, omega arith)

-- by a remainder
pub steps_mod : (s a x : ℕ) → a ≤ x → (x - a) % s ≡ 0 → Steps s a x
steps_mod s a x l e = let (k, f) = multiple_mod s (x - a) e in (k, omega arith)

pub mod_steps : (s a x : ℕ) → Steps s a x → (x - a) % s ≡ 0
mod_steps s a x (k, e) = mod_multiple s (x - a) (k, omega arith)

-- a difference of multiples
pub multiple_sub : (h a b : ℕ) → Multiple h a → Multiple h b → b ≤ a → Multiple h (a - b)
multiple_sub h a b (i, u) (j, v) l = let (k, e) = steps_diff h 0 b a (j, omega arith) (i, omega arith) l in (k, omega arith)

-- a difference that is a multiple, as steps
pub multiple_steps : (s x y : ℕ) → x < y → Multiple s (y - x) → Steps s (x + s) y
multiple_steps s x y l (zero, e) = absurd (omega arith)
multiple_steps s x y l (suc k, e) = (k, omega arith)

-- of two numbers in steps above a, the higher is one or more steps above the lower
pub steps_sub : (s a b c : ℕ) → Steps s a b → Steps s a c → b < c → Steps s (b + s) c
steps_sub s a b c h k l = let (m, e) = steps_diff s a b c h k (omega arith) in multiple_steps s b c l (m, omega arith)
