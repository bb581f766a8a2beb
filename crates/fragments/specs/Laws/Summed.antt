-- What `(0..n).map(f).sum()` gives, where f computes h: the model's sum. Assumes nothing.
use Rattle.std.specs.Prelude.{◌≡◌, ℕ, zero, suc, ◌+◌, ◌*◌, ◌≤◌, ◌<◌, List, map}
use denote.Param.Members.{Mut}
use Rattle.std.specs.Bool.{⊤}
use Rattle.std.specs.Fn.{Called}
use Rattle.std.specs.Iterator.{Drains}
use Rattle.std.specs.Iterator.Runs.{EachRunFrom}
use Rattle.std.specs.Iterator.Adapters.{map_source, map_callee}
use Rattle.std.specs.List.{range_with_len, sum_by, fold}
use Rattle.std.specs.declared.ops.Range.{Range}
use Rattle.std.specs.declared.iter.Map.{Map}
use Rattle.std.proofs.Common.{refl, ◌∙◌, arith, add-one}
use mathlib.Core.List.{map-id}
use Rattle.std.proofs.iter.Yields.{nat_range_steps}
use Rattle.std.proofs.lemmas.Iterator.{YieldsList, YieldsList-from_range, YieldsList-from_map, maps}
use Rattle.std.proofs.lemmas.Iterator.Consumers.{sum_by_from_yields_List, fits_by_from_yields_list}
use Rattle.std.proofs.lemmas.List.FromFn.{sum_by-map-range_with_len_more}
use Rattle.model.specs.Bounded.{sum_below}

module _ (h : ℕ → ℕ) where
  one_more : (n : ℕ) → sum_by h (range_with_len 0 (suc n)) ≡ sum_by h (range_with_len 0 n) + h n
  one_more n = rw (map-id (range_with_len 0 (n + 1)), map-id (range_with_len 0 n), add-one) at (sum_by-map-range_with_len_more h (λ x. x) 0 n n (omega arith))

  summed : (n : ℕ) → sum_by h (range_with_len 0 n) ≡ sum_below n h
  unfolding sum_below
  summed zero = refl
  summed (suc n) = omega (arith, one_more n, summed n)

  pub summed_few : (m n : ℕ) → ((k : ℕ) → k < n → h k ≤ m) → sum_below n h ≤ m * n
  unfolding sum_below
  summed_few m zero l = omega arith
  summed_few m (suc n) l = omega (arith, summed_few m n (λ k q. l k (omega arith)), l n (omega arith))

  module _ {F : Type 0} {g : Mut F (ℕ × Unit {0}) ℕ} {s : Map (Range ℕ) F} {f : F} (n : ℕ) (source : map_source s ≡ record { start = 0; end = n }) (closure : map_callee s ≡ f)
      (computes : (x r : ℕ) (q : F) → Called g f (x, tt) r q → (q ≡ f) × (r ≡ h x)) where
    given : YieldsList (maps nat_range_steps g) (λ r. r) s (map h (range_with_len 0 n))
    given = YieldsList-from_map g h (YieldsList-from_range 0 n n source (omega arith)) closure computes

    pub sum_fits : (top : ℕ) → sum_below n h < top → EachRunFrom (maps nat_range_steps g) s (λ p. fold (λ a x. a + x) 0 p.items < top)
    sum_fits top l = fits_by_from_yields_list h (range_with_len 0 n) s top given (rw summed l)

    pub sum_is : (r : ℕ) → (xs : List ℕ) × (⊤ → Drains (maps nat_range_steps g) s xs) × (r ≡ fold (λ a x. a + x) 0 xs) → r ≡ sum_below n h
    sum_is r ran = sum_by_from_yields_List h (range_with_len 0 n) s r ran given ∙ summed n
