-- Bytes or-ed together, which is 0 just where all of them are, and what a test for zeros says of bytes that are lent. Assumes nothing.
use Rattle.std.specs.Prelude.{ℕ, zero, suc, ◌+◌, ◌-◌, ◌≤◌, ◌<◌, ◌≡◌, refl, ◌⊎◌, Bool, true, false, List, [], ◌∷◌, eqb, get_or, take, drop}
use Rattle.std.proofs.Common.{sym, ◌∙◌, inl, inr, arith, length-take, get_or-take, get_or-drop, eqb-true}
use Rattle.std.specs.List.{fold}
use Rattle.std.specs.Bool.{Decides}
use Rattle.std.proofs.lemmas.Bool.{false≢true, eqb-false}
use Rattle.std.specs.Int.Bits.{bit_or, or_add_and}
use Rattle.std.proofs.lemmas.Nat.{and_le_l, and_le_r}
use Rattle.std.proofs.Math.ListN.{get_or-eq_default}
use Rattle.runs.specs.Laws.Tests.{lt_or_ge}
use Rattle.model.proofs.Laws.Bounded.{true_or_false}
use Rattle.model.proofs.Laws.Clauses.{Zero}
use Rattle.words.specs.Words.{AllZero}

pub or_none : (a b : ℕ) → bit_or a b ≡ 0 → (a ≡ 0) × (b ≡ 0)
or_none a b e = (omega (arith, or_add_and a b, and_le_r a b), omega (arith, or_add_and a b, and_le_l a b))

pub or_zero : (a b : ℕ) → a ≡ 0 → b ≡ 0 → bit_or a b ≡ 0
or_zero a b e f = omega (arith, or_add_and a b)

-- all of p or-ed to a, which is 0 just where a and all of p are
ored_none : (p : List ℕ) (a : ℕ) → fold bit_or a p ≡ 0 → (a ≡ 0) × ((j : ℕ) → get_or p j 0 ≡ 0)
ored_none [] a e = (e, λ j. refl)
ored_none (x ∷ p) a e =
    let (f, g) = ored_none p (bit_or a x) e in
    ((or_none a x f).0, go (or_none a x f).1 g)
  where
    go : x ≡ 0 → ((j : ℕ) → get_or p j 0 ≡ 0) → (j : ℕ) → get_or (x ∷ p) j 0 ≡ 0
    go h g zero = h
    go h g (suc j) = g j

ored_zero : (p : List ℕ) (a : ℕ) → a ≡ 0 → ((j : ℕ) → get_or p j 0 ≡ 0) → fold bit_or a p ≡ 0
ored_zero [] a e f = e
ored_zero (x ∷ p) a e f = ored_zero p (bit_or a x) (or_zero a x e (f 0)) (λ j. f (suc j))

pub ored_tells : (p : List ℕ) → AllZero p (eqb (fold bit_or 0 p) 0)
ored_tells p = record {
  yes = λ e. (ored_none p 0 (eqb-true _ 0 e)).1;
  no = λ e f. eqb-false _ 0 e (ored_zero p 0 refl f);
}

-- ---- a list in two parts, which may overlap

-- the bytes that `zeros` tests together
abbrev pub zeros_block : ℕ
zeros_block = 32

module _ (p : List ℕ) (n : ℕ) where
  -- a byte of the first n that is not 0
  pub front_not : {r : Bool} → AllZero (take n p) r → r ≡ false → AllZero p false
  front_not z f = record {
    yes = λ e. absurd (false≢true e);
    no = λ e h. z.no f (λ j. go h j (lt_or_ge j n));
  }
    where
      go : ((j : ℕ) → get_or p j 0 ≡ 0) → (j : ℕ) → (j < n) ⊎ (n ≤ j) → get_or (take n p) j 0 ≡ 0
      go h j (inl q) = get_or-take n p j 0 q ∙ h j
      go h j (inr q) = get_or-eq_default (take n p) 0 (rw length-take (omega arith))

  -- the first n are 0, and the answer is that of those from m on
  pub back_tells : (m : ℕ) {r t : Bool} → m ≤ n → AllZero (take n p) r → r ≡ true → AllZero (drop m p) t → AllZero p t
  back_tells m {t = t} l z e y = record {
    yes = λ f j. go f j (lt_or_ge j n);
    no = λ f h. y.no f (λ j. get_or-drop m p j 0 ∙ h (m + j));
  }
    where
      go : t ≡ true → (j : ℕ) → (j < n) ⊎ (n ≤ j) → get_or p j 0 ≡ 0
      go f j (inl q) = sym (get_or-take n p j 0 q) ∙ z.yes e j
      go f j (inr q) = let s : m + (j - m) ≡ j = omega arith in rw s at (sym (get_or-drop m p (j - m) 0) ∙ y.yes f (j - m))

-- ---- bytes from n up to m, as they are lent

pub zeros_decided : (r : List ℕ) (n m : ℕ) (ok : Bool) → AllZero (take (m - n) (drop n r)) ok → Decides ok (Zero r n m)
zeros_decided r n m ok z = (to, λ k. of k (true_or_false ok))
  where
    to : ok ≡ true → Zero r n m
    to f i p q =
        let e : n + (i - n) ≡ i = omega arith in
        rw e at (sym (get_or-drop n r (i - n) 0) ∙ sym (get_or-take (m - n) (drop n r) (i - n) 0 (omega arith)) ∙ z.yes f (i - n))

    go : Zero r n m → (i : ℕ) → (i < m - n) ⊎ (m - n ≤ i) → get_or (take (m - n) (drop n r)) i 0 ≡ 0
    go k i (inl q) = get_or-take (m - n) (drop n r) i 0 q ∙ get_or-drop n r i 0 ∙ k (n + i) (omega arith) (omega arith)
    go k i (inr q) = get_or-eq_default (take (m - n) (drop n r)) 0 (rw length-take (omega arith))

    of : Zero r n m → (ok ≡ true) ⊎ (ok ≡ false) → ok ≡ true
    of k (inl t) = t
    of k (inr f) = absurd (z.no f (λ i. go k i (lt_or_ge i (m - n))))
