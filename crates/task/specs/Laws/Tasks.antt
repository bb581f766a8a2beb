-- MODEL 4.4: what holds of a task tested block by block. Assumes nothing.
use Rattle.std.proofs.Common.{ℕ, suc, ◌+◌, ◌-◌, ◌≤◌, ◌<◌, ◌≡◌, Bool, true, false, List, Option, Some, None, MatchOption, not, sym, ◌∙◌, arith, add-one}
use Rattle.std.proofs.lemmas.Bool.{not-true}
use Rattle.model.specs.Bounded.{all_below}
use Rattle.model.specs.Tasks.{blocks, block, block_ok, follows, well_formed}
use Rattle.model.proofs.Laws.Bounded.{is_false, clash, and_of, and3_to, all_to, all_of}
use Rattle.task.specs.declared.Block.{Block}
use Rattle.task.specs.Blocks.{seen, Same, starts}
use Rattle.task.specs.Laws.Blocks.{followed}

-- the blocks below i are tested, and b is the last of them if there is one
pub record Tested (t : List ℕ) (i : ℕ) (b : Option Block) : Type 0 where
  pub solid : (k : ℕ) → k < i → block_ok (block t k) ≡ true
  pub order : (k : ℕ) → suc k < i → follows (block t k) (block t (suc k)) ≡ true
  pub last : MatchOption b (i ≡ 0) (λ b. (0 < i) × Same b (block t (i - 1)))

module _ (t : List ℕ) where
  tests_of : well_formed t ≡ true
      → (starts t ≡ true) × (all_below (blocks t) (λ i. block_ok (block t i)) ≡ true) × (all_below (blocks t - 1) (λ i. follows (block t i) (block t (i + 1))) ≡ true)
  unfolding well_formed starts
  tests_of w = and3_to (starts t) (all_below (blocks t) (λ i. block_ok (block t i))) (all_below (blocks t - 1) (λ i. follows (block t i) (block t (i + 1)))) w

  of_tests : starts t ≡ true → ((k : ℕ) → k < blocks t → block_ok (block t k) ≡ true)
      → ((k : ℕ) → k < blocks t - 1 → follows (block t k) (block t (k + 1)) ≡ true) → true ≡ well_formed t
  unfolding well_formed starts
  of_tests s p q = sym (and_of _ _ (and_of _ _ s (all_of (blocks t) (λ i. block_ok (block t i)) p)) (all_of (blocks t - 1) (λ i. follows (block t i) (block t (i + 1))) q))

  pub ill_start : starts t ≡ false → false ≡ well_formed t
  ill_start h = sym (is_false (well_formed t) (λ w. clash (tests_of w).0 h))

  pub ill_block : (i : ℕ) → i < blocks t → block_ok (block t i) ≡ false → false ≡ well_formed t
  ill_block i l h = sym (is_false (well_formed t) (λ w. clash (all_to (blocks t) (λ i. block_ok (block t i)) (tests_of w).1 i l) h))

  ill_order : (k : ℕ) → suc k < blocks t → follows (block t k) (block t (suc k)) ≡ false → false ≡ well_formed t
  ill_order k l h =
      sym (is_false (well_formed t) (λ w. clash (rw add-one at (all_to (blocks t - 1) (λ i. follows (block t i) (block t (i + 1))) (tests_of w).2 k (omega arith))) h))

  -- b does not follow the last one tested, where r is that and there is one
  pub ill_pair : {i : ℕ} (o : Option Block) (b : Block) (r : Bool) (P : Block → Type 0) → Tested t i o → i < blocks t → Same b (block t i)
      → ((a : Block) → P a → r ≡ not (follows (seen a) (seen b))) → MatchOption o (r ≡ false) P → r ≡ true → false ≡ well_formed t
  ill_pair None b r P p l s f m h = clash h m
  ill_pair {i = i} (Some a) b r P p l s f m h =
      let n : suc (i - 1) ≡ i = omega (arith, p.last.0) in
      ill_order (i - 1) (omega (arith, p.last.0)) (rw n (followed a b (block t (i - 1)) (block t i) false p.last.1 s (sym (not-true _ (sym (f a m) ∙ h)))))

  pub all_tested : (i : ℕ) (b : Option Block) → starts t ≡ true → Tested t i b → blocks t ≤ i → true ≡ well_formed t
  all_tested i b s p l = of_tests s (λ k g. p.solid k (omega arith)) (λ k g. rw add-one (p.order k (omega arith)))
