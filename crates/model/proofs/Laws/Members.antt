-- Being one of the lists f 0, f 1, .. that were joined, and one of the numbers that a test picks; each stands there once. Assumes nothing.
use Prim.Native.Nat.{ℕ, zero, suc, ◌<◌}
use Rattle.std.specs.Prelude.{◌≡◌, Bool, List, [], ◌∷◌, ◌++◌}
use Rattle.std.proofs.Math.Path.{sym, ap}
use Rattle.std.proofs.Common.{subst, ◌∙◌, inl}
use Rattle.std.proofs.Math.Logic.{⊎_elim}
use Rattle.std.proofs.Math.Bool.{true, cond}
use native.Mathlib.Omega.{arith}
use Rattle.runs.specs.Laws.Tests.{cond_ind, lt_or_ge}
use Rattle.sets.specs.Graph.{Distinct}
use Rattle.sets.specs.Laws.Lists.{in_append_to, in_left, in_right, distinct_append}
use Rattle.model.specs.Bounded.{join_below, those_below, In}

module _ {A : Type 0} where
  pub in_join_to : (n : ℕ) (f : ℕ → List A) (x : A) → In x (join_below n f) → (c : ℕ) × (c < n) × In x (f c)
  unfolding join_below
  in_join_to zero f x m = absurd m
  in_join_to (suc n) f x m =
      ⊎_elim (λ k. let (c, l, q) = in_join_to n f x k in (c, omega arith, q)) (λ k. (n, omega arith, k)) (in_append_to x (join_below n f) (f n) m)

  pub in_join_of : (n : ℕ) (f : ℕ → List A) (x : A) (c : ℕ) → c < n → In x (f c) → In x (join_below n f)
  unfolding join_below
  in_join_of zero f x c l m = absurd (omega arith)
  in_join_of (suc n) f x c l m =
      ⊎_elim (λ k. in_left x (join_below n f) (f n) (in_join_of n f x c k m)) (λ k. here (omega arith)) (lt_or_ge c n)
    where
      here : c ≡ n → In x (join_below n f ++ f n)
      here q = in_right x (join_below n f) (f n) (subst (λ (z : ℕ). In x (f z)) q m)

  pub distinct_join : (n : ℕ) (f : ℕ → List A) → ((c : ℕ) → Distinct (f c)) → ((c e : ℕ) (x : A) → In x (f c) → In x (f e) → c ≡ e) → Distinct (join_below n f)
  unfolding join_below
  distinct_join zero f d o = tt
  distinct_join (suc n) f d o =
      distinct_append (join_below n f) (f n) (distinct_join n f d o) (d n)
      (λ x m k. let (c, l, q) = in_join_to n f x m in let e : c ≡ n = o c n x q k in omega arith)

module _ (p : ℕ → Bool) where
  pub those_to : (n k : ℕ) → In k (those_below n p) → (k < n) × (p k ≡ true)
  unfolding those_below
  those_to zero k m = absurd m
  those_to (suc n) k m =
      ⊎_elim (λ h. (omega (arith, (those_to n k h).0), (those_to n k h).1)) last (in_append_to k (those_below n p) (cond (p n) (n ∷ []) []) m)
    where
      last : In k (cond (p n) (n ∷ []) []) → (k < suc n) × (p k ≡ true)
      last h =
          cond_ind (λ K. In k K → (k < suc n) × (p k ≡ true)) (p n)
          (λ t q. ⊎_elim (λ e. (omega arith, ap p e ∙ t)) (λ z. absurd z) q)
          (λ t q. absurd q)
          h

  pub those_of : (n k : ℕ) → k < n → p k ≡ true → In k (those_below n p)
  unfolding those_below
  those_of zero k l t = absurd (omega arith)
  those_of (suc n) k l t =
      ⊎_elim (λ h. in_left k (those_below n p) (cond (p n) (n ∷ []) []) (those_of n k h t)) (λ h. here (omega arith)) (lt_or_ge k n)
    where
      here : k ≡ n → In k (those_below n p ++ cond (p n) (n ∷ []) [])
      here e = let s : p n ≡ true = sym (ap p e) ∙ t in in_right k (those_below n p) (cond (p n) (n ∷ []) []) (rw s (inl e))

  pub those_distinct : (n : ℕ) → Distinct (those_below n p)
  unfolding those_below
  those_distinct zero = tt
  those_distinct (suc n) =
      distinct_append (those_below n p) (cond (p n) (n ∷ []) []) (those_distinct n)
      (cond_ind Distinct (p n) (λ t. (λ m. m, tt)) (λ t. tt))
      (λ y m k. cond_ind (λ K. In y K → ⊥) (p n) (λ t q. ⊎_elim (λ e. omega (arith, (those_to n y m).0)) (λ z. z) q) (λ t q. q) k)
