-- Being one of a list, and standing in it once: of two lists, one after the other, and of what a function makes of each. Assumes nothing.
use Rattle.std.specs.Prelude.{◌≡◌, refl, ◌⊎◌, List, [], ◌∷◌, ◌++◌, map}
use Rattle.std.proofs.Common.{ap, inl, inr, ⊎_elim}
use Rattle.sets.specs.Graph.{In, Distinct}

module _ {A : Type 0} where
  pub in_append_to : (x : A) (K L : List A) → In x (K ++ L) → In x K ⊎ In x L
  in_append_to x [] L m = inr m
  in_append_to x (y ∷ K) L (inl e) = inl (inl e)
  in_append_to x (y ∷ K) L (inr m) = ⊎_elim (λ k. inl (inr k)) (λ k. inr k) (in_append_to x K L m)

  pub in_left : (x : A) (K L : List A) → In x K → In x (K ++ L)
  in_left x [] L m = absurd m
  in_left x (y ∷ K) L (inl e) = inl e
  in_left x (y ∷ K) L (inr m) = inr (in_left x K L m)

  pub in_right : (x : A) (K L : List A) → In x L → In x (K ++ L)
  in_right x [] L m = m
  in_right x (y ∷ K) L m = inr (in_right x K L m)

  -- what holds of all of two lists
  pub each_append : (Q : A → Type 0) (K L : List A) → ((x : A) → In x K → Q x) → ((x : A) → In x L → Q x) → (x : A) → In x (K ++ L) → Q x
  each_append Q K L f g x m = ⊎_elim (f x) (g x) (in_append_to x K L m)

  pub distinct_append : (K L : List A) → Distinct K → Distinct L → ((x : A) → In x K → In x L → ⊥) → Distinct (K ++ L)
  distinct_append [] L c d f = d
  distinct_append (x ∷ K) L c d f = (
    λ m. ⊎_elim (λ k. c.0 k) (λ k. f x (inl refl) k) (in_append_to x K L m),
    distinct_append K L c.1 d (λ y m. f y (inr m)),
  )

module _ {A B : Type 0} (f : A → B) where
  pub in_map_to : (L : List A) (y : B) → In y (map f L) → (x : A) × In x L × (y ≡ f x)
  in_map_to [] y m = absurd m
  in_map_to (x ∷ L) y (inl e) = (x, inl refl, e)
  in_map_to (x ∷ L) y (inr m) = let (z, i, e) = in_map_to L y m in (z, inr i, e)

  pub in_map_of : (L : List A) (x : A) → In x L → In (f x) (map f L)
  in_map_of [] x m = absurd m
  in_map_of (z ∷ L) x (inl e) = inl (ap f e)
  in_map_of (z ∷ L) x (inr m) = inr (in_map_of L x m)

  pub distinct_map : ((x y : A) → f x ≡ f y → x ≡ y) → (L : List A) → Distinct L → Distinct (map f L)
  distinct_map h [] d = tt
  distinct_map h (x ∷ L) d = (λ m. let (y, i, e) = in_map_to L (f x) m in d.0 (rw (h x y e) i), distinct_map h L d.1)
