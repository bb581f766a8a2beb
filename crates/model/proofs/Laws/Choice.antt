-- MODEL 11.4 and 11.5: the choice fits, no fitting position is better, and of those as good as it, it is in the lowest column, and there the lowest.
-- Assumes nothing.
use Prim.Native.Nat.{ℕ, zero, suc, ◌*◌, ◌≤◌, ◌<◌}
use Rattle.std.specs.Prelude.{◌≡◌, refl, ◌⊎◌, true, false}
use Rattle.std.proofs.Math.Logic.{inl, inr}
use Rattle.std.proofs.Common.{mul-le-mul_right, mul-lt-mul_of_pos_right, lt_of_mul-lt-mul_right, mul_right_comm}
use native.Mathlib.Omega.{arith}
use Rattle.runs.specs.Laws.Tests.{tests, cond_ind, lt_or_ge}
use Rattle.model.specs.Choice.{Judge, Found, nothing, at, better, see, climb, choice}
use Rattle.model.proofs.Laws.Bounded.{clash}

-- a / A is less than b / B, and that no more than e / E
ratio_trans : (a A b B e E : ℕ) → 0 < E → a * B < b * A → b * E ≤ e * B → a * E < e * A
ratio_trans a A b B e E p h k =
    let x = mul-lt-mul_of_pos_right {m = a * B} {n = b * A} {k = E} h p in
    let y = mul-le-mul_right {m = b * E} {n = e * B} A k in
    lt_of_mul-lt-mul_right B (omega (arith, x, y, mul_right_comm a B E, mul_right_comm b A E, mul_right_comm e B A))

-- (p, y) comes before (q, z): in a lower column, or lower in the same
abbrev pub Earlier : ℕ → ℕ → ℕ → ℕ → Type 0
Earlier p y q z = (p < q) ⊎ ((p ≡ q) × (y < z))

-- (q, z), below column c and below bottom h, is the choice: it fits, no fitting position has less n / s, and each fitting one before it has more
pub record Chosen (J : Judge) (h c q z : ℕ) : Type 0 where
  pub column : q < c
  pub bottom : z < h
  pub fits : J.fit q z ≡ true
  pub least : (p y : ℕ) → p < c → y < h → J.fit p y ≡ true → J.n q z * J.s p y ≤ J.n p y * J.s q z
  pub first : (p y : ℕ) → y < h → J.fit p y ≡ true → Earlier p y q z → J.n q z * J.s p y < J.n p y * J.s q z

module _ (J : Judge) (h : ℕ) (pos : (p y : ℕ) → J.fit p y ≡ true → 0 < J.s p y) where
  -- (p, y) is seen: in one of the first c columns, or in column c below x
  abbrev Seen : ℕ → ℕ → ℕ → ℕ → Type 0
  Seen c x p y = (y < h) × Earlier p y c x

  -- (q, z) is chosen rather than (p, y)
  abbrev Beats : ℕ → ℕ → ℕ → ℕ → Type 0
  Beats q z p y = (J.n q z * J.s p y ≤ J.n p y * J.s q z) × (Earlier p y q z → J.n q z * J.s p y < J.n p y * J.s q z)

  record Best_at (c x q z : ℕ) : Type 0 where
    seen : Seen c x q z
    fits : J.fit q z ≡ true
    beats : (p y : ℕ) → Seen c x p y → J.fit p y ≡ true → Beats q z p y

  -- of the positions seen, f is the choice
  abbrev Best : ℕ → ℕ → Found → Type 0
  Best c x nothing = (p y : ℕ) → Seen c x p y → J.fit p y ≡ false
  Best c x (at q z) = Best_at c x q z

  -- one more is seen
  more : (c x p y : ℕ) → Seen c (suc x) p y → Seen c x p y ⊎ ((p ≡ c) × (y ≡ x))
  more c x p y (l, inl k) = inl (l, inl k)
  more c x p y (l, inr k) = go (lt_or_ge y x)
    where
      go : (y < x) ⊎ (x ≤ y) → Seen c x p y ⊎ ((p ≡ c) × (y ≡ x))
      go (inl g) = inl (l, inr (k.0, g))
      go (inr g) = inr (k.0, omega arith)

  keep : (c x p y : ℕ) → Seen c x p y → Seen c (suc x) p y
  keep c x p y (l, inl k) = (l, inl k)
  keep c x p y (l, inr k) = (l, inr (k.0, omega arith))

  not_both : (p y q z : ℕ) → Earlier p y q z → ¬ (Earlier q z p y)
  not_both p y q z (inl a) (inl b) = omega arith
  not_both p y q z (inl a) (inr b) = omega arith
  not_both p y q z (inr a) (inl b) = omega arith
  not_both p y q z (inr a) (inr b) = omega arith

  not_self : (p y : ℕ) → ¬ (Earlier p y p y)
  not_self p y e = not_both p y p y e e

  -- the new one takes the place
  taken : (c x : ℕ) → x < h → J.fit c x ≡ true → ((p y : ℕ) → Seen c x p y → J.fit p y ≡ true → J.n c x * J.s p y < J.n p y * J.s c x) → Best_at c (suc x) c x
  taken c x l e k = record { seen = (l, inr (refl, omega arith)); fits = e; beats = λ p y s f. go p y f (more c x p y s) }
    where
      go : (p y : ℕ) → J.fit p y ≡ true → Seen c x p y ⊎ ((p ≡ c) × (y ≡ x)) → Beats c x p y
      go p y f (inl s) = (omega (arith, k p y s f), λ g. k p y s f)
      go p y f (inr (a, b)) = rw (a, b) (omega arith, λ g. absurd (not_self c x g))

  -- the old one stays
  stays : (c x q z : ℕ) → Best_at c x q z → (J.fit c x ≡ true → J.n q z * J.s c x ≤ J.n c x * J.s q z) → Best_at c (suc x) q z
  stays c x q z b k = record { seen = keep c x q z b.seen; fits = b.fits; beats = λ p y s f. go p y f (more c x p y s) }
    where
      go : (p y : ℕ) → J.fit p y ≡ true → Seen c x p y ⊎ ((p ≡ c) × (y ≡ x)) → Beats q z p y
      go p y f (inl s) = b.beats p y s f
      go p y f (inr (u, v)) = rw (u, v) (k (rw (u, v) at f), λ g. absurd (not_both q z c x b.seen.1 g))

  see_best : (c x : ℕ) (f : Found) → x < h → J.fit c x ≡ true → Best c x f → Best c (suc x) (see J c x f)
  unfolding see better
  see_best c x nothing l e b = taken c x l e (λ p y s f. clash f (b p y s))
  see_best c x (at q z) l e b =
      cond_ind (Best c (suc x)) (better J c x q z)
      (λ g. taken c x l e (λ p y s f. ratio_trans (J.n c x) (J.s c x) (J.n q z) (J.s q z) (J.n p y) (J.s p y) (pos p y f) (omega tests) (b.beats p y s f).0))
      (λ g. stays c x q z b (λ f. omega tests))

  miss_best : (c x : ℕ) (f : Found) → J.fit c x ≡ false → Best c x f → Best c (suc x) f
  miss_best c x nothing e b = λ p y s. none p y (more c x p y s)
    where
      none : (p y : ℕ) → Seen c x p y ⊎ ((p ≡ c) × (y ≡ x)) → J.fit p y ≡ false
      none p y (inl s) = b p y s
      none p y (inr (u, v)) = rw (u, v) e
  miss_best c x (at q z) e b = stays c x q z b (λ f. clash f e)

  climb_best : (c x : ℕ) (f : Found) → x ≤ h → Best c 0 f → Best c x (climb J c x f)
  unfolding climb
  climb_best c zero f l b = b
  climb_best c (suc x) f l b =
      let r = climb_best c x f (omega arith) b in
      cond_ind (Best c (suc x)) (J.fit c x) (λ e. see_best c x (climb J c x f) (omega arith) e r) (λ e. miss_best c x (climb J c x f) e r)

  -- all of column c is seen: the next column begins
  up : (c p y : ℕ) → Seen (suc c) 0 p y → Seen c h p y
  up c p y (l, inl k) = go (lt_or_ge p c)
    where
      go : (p < c) ⊎ (c ≤ p) → Seen c h p y
      go (inl g) = (l, inl g)
      go (inr g) = (l, inr (omega arith, l))
  up c p y (l, inr k) = absurd (omega arith)

  down : (c p y : ℕ) → Seen c h p y → Seen (suc c) 0 p y
  down c p y (l, inl k) = (l, inl (omega arith))
  down c p y (l, inr k) = (l, inl (omega arith))

  turn : (c : ℕ) (f : Found) → Best c h f → Best (suc c) 0 f
  turn c nothing b = λ p y s. b p y (up c p y s)
  turn c (at q z) b = record { seen = down c q z b.seen; fits = b.fits; beats = λ p y s f. b.beats p y (up c p y s) f }

  choice_best : (c : ℕ) → Best c 0 (choice J h c)
  unfolding choice
  choice_best zero = λ p y s. absurd (none p y s)
    where
      none : (p y : ℕ) → Seen 0 0 p y → ⊥
      none p y (l, inl k) = omega arith
      none p y (l, inr k) = omega arith
  choice_best (suc c) = turn c (climb J c h (choice J h c)) (climb_best c h (choice J h c) (omega arith) (choice_best c))

  -- THEOREM: where a position is chosen, it fits, is least by cross-products, and is the first of those
  pub choice_at : (c q z : ℕ) → choice J h c ≡ at q z → Chosen J h c q z
  choice_at c q z e = go (rw e at (choice_best c))
    where
      column : Seen c 0 q z → q < c
      column (l, inl k) = k
      column (l, inr k) = absurd (omega arith)

      before : (p y : ℕ) → Earlier p y q z → q < c → p < c
      before p y (inl u) l = omega arith
      before p y (inr u) l = omega arith

      go : Best_at c 0 q z → Chosen J h c q z
      go b = record {
        column = column b.seen;
        bottom = b.seen.0;
        fits = b.fits;
        least = λ p y l g f. (b.beats p y (g, inl l) f).0;
        first = λ p y g f k. (b.beats p y (g, inl (before p y k (column b.seen))) f).1 k;
      }

  -- THEOREM: where none is chosen, none fits
  pub choice_nothing : (c : ℕ) → choice J h c ≡ nothing → (p y : ℕ) → p < c → y < h → J.fit p y ≡ false
  choice_nothing c e p y l g = (rw e at (choice_best c)) p y (g, inl l)
