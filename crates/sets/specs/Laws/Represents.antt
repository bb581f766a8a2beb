-- Lists with one node of each set have one length. Assumes nothing.
use Rattle.std.specs.Prelude.{◌≡◌, refl, ◌⊎◌, List, [], ◌∷◌, suc, ◌≤◌, length}
use Rattle.std.proofs.Common.{ap, inl, inr, arith}
use Rattle.sets.specs.Graph.{In, Unrelated, Represents}

module _ {A : Type 0} where
  -- S without one of its nodes
  abbrev without : (s : A) (S : List A) → In s S → List A
  without s [] m = []
  without s (x ∷ S) (inl e) = S
  without s (x ∷ S) (inr m) = x ∷ without s S m

  length_without : (s : A) (S : List A) (m : In s S) → suc (length (without s S m)) ≡ length S
  length_without s [] m = absurd m
  length_without s (x ∷ S) (inl e) = refl
  length_without s (x ∷ S) (inr m) = ap suc (length_without s S m)

  mem_without : (s : A) (S : List A) (m : In s S) (t : A) → In t S → (s ≡ t) ⊎ In t (without s S m)
  mem_without s [] m t n = absurd m
  mem_without s (x ∷ S) (inl e) t (inl f) = inl (cc)
  mem_without s (x ∷ S) (inl e) t (inr n) = inr n
  mem_without s (x ∷ S) (inr m) t (inl f) = inr (inl f)
  mem_without s (x ∷ S) (inr m) t (inr n) = go (mem_without s S m t n)
    where
      go : (s ≡ t) ⊎ In t (without s S m) → (s ≡ t) ⊎ In t (x ∷ without s S m)
      go (inl e) = inl e
      go (inr k) = inr (inr k)

module _ {A : Type 0} (J : A → A → Type 0) (sy : (x y : A) → J x y → J y x) (tr : (x y z : A) → J x y → J y z → J x z) where
  -- of a list of which no two are joined, each joined to one of S, there are at most as many as S has
  at_most : (R S : List A) → Unrelated J R → ((r : A) → In r R → (s : A) × In s S × J r s) → length R ≤ length S
  at_most [] S a f = omega arith
  at_most (r ∷ R) S a f =
      let first : (s : A) × In s S × J r s = f r (inl refl) in
      let n : suc (length (without first.0 S first.1)) ≡ length S = length_without first.0 S first.1 in
      let rest : length R ≤ length (without first.0 S first.1) =
      at_most R (without first.0 S first.1) a.1 (λ q k. other first q k (f q (inr k))) in
      omega arith
    where
      other : (g : (s : A) × In s S × J r s) (q : A) → In q R → (t : A) × In t S × J q t
          → (t : A) × In t (without g.0 S g.1) × J q t
      other g q k h = go (mem_without g.0 S g.1 h.0 h.1)
        where
          go : (g.0 ≡ h.0) ⊎ In h.0 (without g.0 S g.1) → (t : A) × In t (without g.0 S g.1) × J q t
          go (inl e) = absurd (a.0 q k (tr r g.0 q g.2 (rw e (sy q h.0 h.2))))
          go (inr m) = (h.0, m, h.2)

  -- THEOREM: all lists with one node of each set have one length
  pub same_number : (N : A → Type 0) (R S : List A) → Represents N J R → Represents N J S → length R ≡ length S
  same_number N R S c d =
      let l : length R ≤ length S = at_most R S c.apart (λ r m. d.every r (c.within r m)) in
      let g : length S ≤ length R = at_most S R d.apart (λ r m. c.every r (d.within r m)) in
      omega arith
