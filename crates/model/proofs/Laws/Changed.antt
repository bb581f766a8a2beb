-- A function changed at one place, or place by place from 0 on. Assumes nothing.
use Rattle.std.specs.Prelude.{ℕ, suc, ◌≤◌, ◌<◌, ◌≡◌, refl, cond, ◌≢◌, eqb, ltb}
use Rattle.std.proofs.Common.{sym, ◌∙◌, arith}
use Rattle.std.proofs.Math.Decide.{dec_lt, ℕ_discrete}
use borrow.Author.Tests.{eq-eqb, ne_eqb, lt-ltb, le-ltb}

-- f, but v at c
unfoldable pub changed {ℓ} : {A : Type ℓ} → (ℕ → A) → ℕ → A → ℕ → A
changed f c v i = cond (eqb i c) v (f i)

-- f below n, and g from n on
unfoldable pub upto {ℓ} : {A : Type ℓ} → ℕ → (ℕ → A) → (ℕ → A) → ℕ → A
upto n f g i = cond (ltb i n) (f i) (g i)

-- at c it is v, and elsewhere f
pub changed_same {ℓ} : {A : Type ℓ} (f : ℕ → A) (c : ℕ) (v : A) → changed f c v c ≡ v
unfolding changed
changed_same f c v = rw (eq-eqb c c refl)

pub changed_other {ℓ} : {A : Type ℓ} (f : ℕ → A) (c i : ℕ) (v : A) → i ≢ c → changed f c v i ≡ f i
unfolding changed
changed_other f c i v h = rw (ne_eqb i c h)

-- a loop over the places: none done, one more, all done
module _ {ℓ} {A : Type ℓ} (f g : ℕ → A) where
  pub upto_none : (i : ℕ) → upto 0 f g i ≡ g i
  unfolding upto
  upto_none i = rw (le-ltb i 0 (omega arith))

  pub upto_step : (n i : ℕ) → changed (upto n f g) n (f n) i ≡ upto (suc n) f g i
  unfolding upto
  upto_step n i = elim (ℕ_discrete i n) [
    | yes e ↦ rw (e, changed_same (upto n f g) n (f n), lt-ltb n (suc n) (omega arith))
    | no ne ↦ rw (changed_other (upto n f g) n i (f n) ne) (elim (dec_lt i n) [
      | yes p ↦ rw (lt-ltb i n p, lt-ltb i (suc n) (omega arith))
      | no p ↦ rw (le-ltb i n (omega arith), le-ltb i (suc n) (omega arith))
    ])
  ]

  pub upto_all : (n i : ℕ) → i < n → upto n f g i ≡ f i
  unfolding upto
  upto_all n i h = rw (lt-ltb i n h)

  -- from n on it is g
  pub upto_out : (n i : ℕ) → n ≤ i → upto n f g i ≡ g i
  unfolding upto
  upto_out n i h = rw (le-ltb i n h)

  -- where f and g say the same from n on, it is f
  pub upto_is : (n : ℕ) → ((i : ℕ) → n ≤ i → f i ≡ g i) → (i : ℕ) → upto n f g i ≡ f i
  upto_is n h i = elim (dec_lt i n) [
    | yes l ↦ upto_all n i l
    | no l ↦ upto_out n i (omega arith) ∙ sym (h i (omega arith))
  ]
