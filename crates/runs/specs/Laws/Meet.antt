-- The laws of where two ranges meet. Assumes nothing.
use Rattle.std.specs.Prelude.{◌≡◌, ◌⊎◌, Some, None, ℕ, zero, suc, ◌+◌, ◌-◌, ◌*◌, ◌/◌, ◌%◌, ◌≤◌, ◌<◌, min, max}
use Rattle.std.proofs.Common.{sym, inl, inr, mul-le-mul_right, lt_of_mul-lt-mul_right, div-add-mod', mod-lt, arith}
use Rattle.runs.specs.Laws.Tests.{lt_or_ge}
use Rattle.runs.specs.Runs.{run, Steps, In}
use Rattle.runs.specs.Meet.{number_limit, search_limit, Step, Proper, Names, Lcm, Start, FoundCommon, Both_of, Meets}
use Rattle.runs.specs.Laws.Steps.{steps_trans, steps_diff, steps_back, steps_multiple, steps_mod, mod_steps}
use Rattle.runs.specs.Laws.Lcm.{lcm_same}
use Rattle.runs.specs.declared.Range.{Range}

-- ---- the first common number

-- none of those in steps of a above m, below x, is in steps of b above c
pub record Passed (m a c b x : ℕ) : Type 0 where
  pub steps : Steps a m x
  pub first : (z : ℕ) → Steps a m z → Steps b c z → z < x → ⊥
  pub bound : x < search_limit

pub passed_start : (m a c b : ℕ) → m < search_limit → Passed m a c b m
passed_start m a c b l = record { steps = (0, omega arith); first = λ z h k g. omega arith; bound = l }

pub passed_next : (m a c b x : ℕ) → Step a → c ≤ m → x < number_limit → Passed m a c b x → ¬ ((x - c) % b ≡ 0) → Passed m a c b (x + a)
passed_next m a c b x p l g s h = record {
  steps = (suc s.steps.0, omega (arith, s.steps));
  first = λ z u v k. go z u v k (lt_or_ge z x);
  bound = omega arith;
}
  where
    go : (z : ℕ) → Steps a m z → Steps b c z → z < x + a → (z < x) ⊎ (x ≤ z) → ⊥
    go z u v k (inl w) = s.first z u v w
    go z u v k (inr w) = same (steps_diff a m x z s.steps u w)
      where
        same : Steps a x z → ⊥
        same (zero, e) = let z-x : z ≡ x = omega arith in h (mod_steps b c x (rw z-x at v))
        same (suc i, e) = omega arith

-- all up to top are passed
pub passed_all : (m a c b x top : ℕ) → Passed m a c b x → top < x → FoundCommon m a c b top None
passed_all m a c b x top s l z u v = go (lt_or_ge z x)
  where
    go : (z < x) ⊎ (x ≤ z) → top < z
    go (inl w) = absurd (s.first z u v w)
    go (inr w) = omega arith

-- ---- meeting

restep : (s t x y : ℕ) → s ≡ t → Steps s x y → Steps t x y
restep s t x y e h = rw e at h

module _ (a b : Range) (pa : Proper a) (pb : Proper b) where
  -- ---- equal steps

  module _ (e : a.step ≡ b.step) where
    -- where the lower first is some steps below the higher, both reach that
    reach : (max a.first b.first - min a.first b.first) % a.step ≡ 0
        → Steps a.step a.first (max a.first b.first) × Steps a.step b.first (max a.first b.first)
    reach m = go (steps_mod a.step (min a.first b.first) (max a.first b.first) (omega arith) m) (lt_or_ge a.first b.first)
      where
        go : Steps a.step (min a.first b.first) (max a.first b.first) → (a.first < b.first) ⊎ (b.first ≤ a.first)
            → Steps a.step a.first (max a.first b.first) × Steps a.step b.first (max a.first b.first)
        go (k, h) (inl l) = ((k, omega arith), (0, omega arith))
        go (k, h) (inr l) = ((0, omega arith), (k, omega arith))

    pub equal_yes : (max a.first b.first - min a.first b.first) % a.step ≡ 0 → a.first ≤ b.last → b.first ≤ a.last
        → Both_of a b (record { first = max a.first b.first; last = min a.last b.last; step = a.step })
    equal_yes m u v = record {
      named = λ y. (
        λ h. ((steps_trans a.step a.first _ y (reach m).0 h.0, omega arith), (restep a.step b.step b.first y e (steps_trans a.step b.first _ y (reach m).1 h.0), omega arith)),
        λ h. (steps_diff a.step a.first _ y (reach m).0 h.0.0 (omega arith), omega arith),
      );
      lcm = lcm_same a.step b.step pa.step pb.step e;
      last = last (lt_or_ge a.last b.last);
      bound = omega (arith, pa.bound);
    }
      where
        last : (a.last < b.last) ⊎ (b.last ≤ a.last) → Steps a.step (max a.first b.first) (min a.last b.last)
        last (inl l) =
            let (k, h) = steps_diff a.step a.first (max a.first b.first) a.last (reach m).0 pa.last (omega (arith, pa.last, pb.last)) in
            (k, omega arith)
        last (inr l) =
            let (k, h) = steps_diff a.step b.first (max a.first b.first) b.last (reach m).1 (restep b.step a.step _ _ (sym e) pb.last) (omega (arith, pa.last, pb.last)) in
            (k, omega arith)

    pub equal_no : ¬ ((max a.first b.first - min a.first b.first) % a.step ≡ 0) → Meets a b None
    equal_no m y (h, k) (i, j) = m (mod_steps a.step (min a.first b.first) (max a.first b.first) (go (lt_or_ge a.first b.first)))
      where
        i' : Steps a.step b.first y
        i' = restep b.step a.step b.first y (sym e) i

        go : (a.first < b.first) ⊎ (b.first ≤ a.first) → Steps a.step (min a.first b.first) (max a.first b.first)
        go (inl l) = let (n, q) = steps_back a.step a.first b.first y (omega arith) h i' in (n, omega arith)
        go (inr l) = let (n, q) = steps_back a.step b.first a.first y (omega arith) i' h in (n, omega arith)

  -- ---- different steps

  module _ (st l : ℕ) (start : Start a.first a.step (max a.first b.first) st) (c : Lcm a.step b.step l) where
    -- what both name is in steps above the start
    from_start : (y : ℕ) → Names a y → Names b y → Steps a.step st y
    from_start y (h, k) (i, j) = go (lt_or_ge y st)
      where
        go : (y < st) ⊎ (st ≤ y) → Steps a.step st y
        go (inl g) =
            let (n, q) = steps_diff a.step a.first y st h start.steps (omega arith) in
            absurd (no n q)
          where
            no : (n : ℕ) → st ≡ y + n * a.step → ⊥
            no zero q = omega arith
            no (suc n) q = omega (arith, start.next)
        go (inr g) = steps_diff a.step a.first st y start.steps h g

    -- THEOREM: what both name is there below start + l, if anywhere
    pub different_no : FoundCommon st a.step b.first b.step (min (min a.last b.last) (st + l - 1)) None → Meets a b None
    different_no f y h k =
        let q = y - st in
        let d = div-add-mod' q l in
        let m = mod-lt q {m = l} c.pos in
        let w = from_start y h k in
        let le = c.pos in
        let s = start.above in
        let z : Steps l (st + q % l) y = (q / l, omega (arith, w)) in
        let u = f (st + q % l)
        (steps_back a.step st (st + q % l) y (omega arith) w (steps_multiple a.step l _ y c.left z))
        (steps_back b.step b.first (st + q % l) y (omega arith) k.0 (steps_multiple b.step l _ y c.right z)) in
        omega (arith, z)

    pub different_yes : {r : ℕ} → FoundCommon st a.step b.first b.step (min (min a.last b.last) (st + l - 1)) (Some r)
        → Both_of a b (record { first = r; last = min a.last b.last - (min a.last b.last - r) % l; step = l })
    different_yes {r = r} (f, g) = record {
      named = λ y. (to y, of y);
      lcm = c;
      last = ((min a.last b.last - r) / l, omega (arith, div-add-mod' (min a.last b.last - r) l));
      bound = omega (arith, pa.bound);
    }
      where
        to : (y : ℕ) → In l y (run r (min a.last b.last - (min a.last b.last - r) % l)) → Names a y × Names b y
        to y (h, k) = (
          (steps_trans a.step a.first r y (steps_trans a.step a.first st r start.steps f.steps) (steps_multiple a.step l r y c.left h), omega arith),
          (steps_trans b.step b.first r y (f.found g) (steps_multiple b.step l r y c.right h), omega arith),
        )

        of : (y : ℕ) → Names a y × Names b y → In l y (run r (min a.last b.last - (min a.last b.last - r) % l))
        of y (h, k) = go (lt_or_ge y r)
          where
            go : (y < r) ⊎ (r ≤ y) → In l y (run r (min a.last b.last - (min a.last b.last - r) % l))
            go (inl w) = absurd (f.first y (from_start y h k) k.0 w)
            go (inr w) =
                let (i, u) = steps_diff a.step st r y f.steps (from_start y h k) w in
                let (j, v) = steps_diff b.step b.first r y (f.found g) k.0 w in
                let (n, x) = c.least (y - r) (i, omega arith) (j, omega arith) in
                let d = div-add-mod' (min a.last b.last - r) l in
                let m = mod-lt (min a.last b.last - r) {m = l} c.pos in
                let o : n < suc ((min a.last b.last - r) / l) = lt_of_mul-lt-mul_right l {m = n} {n = suc ((min a.last b.last - r) / l)} (omega arith) in
                let t = mul-le-mul_right {m = n} {n = (min a.last b.last - r) / l} l (omega arith) in
                ((n, omega arith), omega arith)
