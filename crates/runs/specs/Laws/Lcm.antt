-- The laws of the least common multiple, and of the search for it, for any steps (MODEL 21.4). Assumes nothing.
use Rattle.std.specs.Prelude.{◌≡◌, ◌⊎◌, ℕ, zero, suc, ◌+◌, ◌-◌, ◌*◌, ◌/◌, ◌%◌, ◌≤◌, ◌<◌}
use Rattle.std.proofs.Common.{sym, ap, ◌∙◌, inl, inr, mul-le-mul, mul-le-mul_left, mul-le-mul_right, lt_of_mul-lt-mul_right, div-add-mod', mod-lt, mul_comm, arith}
use Rattle.std.proofs.Math.Nat.{mul-mod_left, mul-mod_right}
use Rattle.runs.specs.Laws.Tests.{lt_or_ge}
use Rattle.runs.specs.Runs.{Steps}
use Rattle.runs.specs.Intervals.{Multiple}
use Rattle.runs.specs.Meet.{step_limit, number_limit, Step, Lcm}
use Rattle.runs.specs.Laws.Steps.{multiple_le, multiple_steps, steps_back, steps_multiple}

-- there is one
pub lcm_unique : (a b l m : ℕ) → Lcm a b l → Lcm a b m → l ≡ m
lcm_unique a b l m c d = omega (arith, multiple_le l m d.pos (c.least m d.left d.right), multiple_le m l c.pos (d.least l c.left c.right))

-- in steps of a and of b is in steps of their least common multiple
pub lcm_steps : (a b l x y : ℕ) → Lcm a b l → x < y → Steps a (x + a) y → Steps b (x + b) y → Steps l (x + l) y
lcm_steps a b l x y c g (i, u) (j, v) = multiple_steps l x y g (c.least (y - x) (suc i, omega arith) (suc j, omega arith))

-- a is a multiple of b
lcm_left : (a b : ℕ) → Step a → Step b → Multiple b a → Lcm a b a
lcm_left a b p q m = record {
  pos = p.0;
  small = omega (arith, mul-le-mul_left {m = 1} {n = b} a q.0);
  left = (1, omega arith);
  right = m;
  least = λ x h k. h;
}

pub lcm_same : (a b : ℕ) → Step a → Step b → a ≡ b → Lcm a b a
lcm_same a b p q e = lcm_left a b p q (1, omega arith)

-- a product of two steps is a two-byte number
pub product_small : (a b : ℕ) → Step a → Step b → a * b < number_limit
product_small a b p q = omega (arith, mul-le-mul {n₁ = a} {m₁ = b} {n₂ = step_limit - 1} {m₂ = step_limit - 1} (omega arith) (omega arith))

-- ---- the search for it

-- m is a multiple of a, no more than a * b, and no lower one is a multiple of b
pub record Sought (a b m : ℕ) : Type 0 where
  pub times : ℕ
  pub pos : 1 ≤ times
  pub is : m ≡ times * a
  pub small : m ≤ a * b
  pub none : (j : ℕ) → 1 ≤ j → j < times → j * a % b ≡ 0 → ⊥

pub lcm_start : (a b : ℕ) → 1 ≤ b → Sought a b a
lcm_start a b p = record {
  times = 1;
  pos = omega arith;
  is = omega arith;
  small = omega (arith, mul-le-mul_right {m = 1} {n = b} a p, mul_comm a b);
  none = λ j k l e. omega arith;
}

module _ (a b m : ℕ) (p : 1 ≤ a) (s : Sought a b m) where
  room : ¬ (m % b ≡ 0) → s.times < b
  room h = go (lt_or_ge s.times b)
    where
      go : (s.times < b) ⊎ (b ≤ s.times) → s.times < b
      go (inl k) = k
      go (inr k) =
          let e : m ≡ b * a = omega (arith, s.is, s.small, mul-le-mul_right {m = b} {n = s.times} a k, mul_comm a b) in
          absurd (h (ap (λ (w : ℕ). w % b) e ∙ mul-mod_right b a))

  pub lcm_room : ¬ (m % b ≡ 0) → m + a ≤ a * b
  lcm_room h = omega (arith, s.is, mul-le-mul_right {m = suc s.times} {n = b} a (room h), mul_comm a b)

  pub lcm_falls : ¬ (m % b ≡ 0) → a * b - (m + a) < a * b - m
  lcm_falls h = omega (arith, lcm_room h)

  pub lcm_next : ¬ (m % b ≡ 0) → Sought a b (m + a)
  lcm_next h = record {
    times = suc s.times;
    pos = omega arith;
    is = omega (arith, s.is);
    small = lcm_room h;
    none = λ j k l e. go j k e (lt_or_ge j s.times) l;
  }
    where
      go : (j : ℕ) → 1 ≤ j → j * a % b ≡ 0 → (j < s.times) ⊎ (s.times ≤ j) → j < suc s.times → ⊥
      go j k e (inl g) l = s.none j k g e
      go j k e (inr g) l = let d : m ≡ j * a = s.is ∙ ap (λ (w : ℕ). w * a) (omega arith) in h (ap (λ (w : ℕ). w % b) d ∙ e)

  pub lcm_done : 1 ≤ b → m % b ≡ 0 → Lcm a b m
  lcm_done q e = record {
    pos = omega (arith, s.is, mul-le-mul_right {m = 1} {n = s.times} a s.pos);
    small = s.small;
    left = (s.times, s.is);
    right = (m / b, omega (arith, div-add-mod' m b));
    least = least;
  }
    where
      one : 1 ≤ m
      one = omega (arith, s.is, mul-le-mul_right {m = 1} {n = s.times} a s.pos)

      -- what is left of a common multiple is one too, and below m
      left : (x : ℕ) → Multiple a x → Multiple a (x % m)
      left x (i, f) =
          let d = div-add-mod' x m in
          let k = steps_back a 0 (x % m) x (omega arith) (i, omega arith) (steps_multiple a m (x % m) x (s.times, s.is) (x / m, omega arith)) in
          (k.0, omega (arith, k))

      right : (x : ℕ) → Multiple b x → Multiple b (x % m)
      right x (j, f) =
          let d = div-add-mod' x m in
          let g = div-add-mod' m b in
          let k = steps_back b 0 (x % m) x (omega arith) (j, omega arith) (steps_multiple b m (x % m) x (m / b, omega arith) (x / m, omega arith)) in
          (k.0, omega (arith, k))

      zero_left : (x : ℕ) → Multiple a (x % m) → Multiple b (x % m) → x % m ≡ 0
      zero_left x (zero, f) (j, g) = omega arith
      zero_left x (suc i, f) (j, g) =
          let lt : suc i < s.times = lt_of_mul-lt-mul_right a (omega (arith, mod-lt x {m = m} one, s.is)) in
          absurd (s.none (suc i) (omega arith) lt (ap (λ (w : ℕ). w % b) (sym f ∙ g) ∙ mul-mod_left j b))

      least : (x : ℕ) → Multiple a x → Multiple b x → Multiple m x
      least x u v = (x / m, omega (arith, div-add-mod' x m, zero_left x (left x u) (right x v)))
