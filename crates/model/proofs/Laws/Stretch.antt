-- MODEL 11.2: s, block by block. The first block in an interval counts its height, and no later one does. Assumes nothing.
use Rattle.std.specs.Prelude.{ℕ, ◌-◌, ◌≤◌, ◌<◌, ◌≡◌, refl, ◌⊎◌, Bool, List}
use Rattle.std.proofs.Math.Path.{sym}
use Rattle.std.proofs.Common.{◌∙◌, inl, inr, arith}
use Rattle.std.proofs.Math.Bool.{true, false}
use Rattle.runs.specs.Intervals.{Interval}
use Rattle.runs.specs.Laws.Tests.{cond_ind, lt_or_ge}
use Rattle.model.specs.Bounded.{any_below, sum_below, In}
use Rattle.model.specs.Book.{Placed}
use Rattle.model.specs.Choice.{lies, holds_block, span, stretch}
use Rattle.model.specs.Homes.{first_span}
use Rattle.model.proofs.Laws.Bounded.{clash, is_false, any_of_one, First, first_to, sum_single, sum_zero}
use Rattle.model.proofs.Laws.Homes.{Stands}
use Rattle.model.proofs.Laws.Firsts.{home_is, later, first, term, by_blocks}

module _ (B : Placed) (C : ℕ) (L : ℕ → List Interval) (s : Stands B C L) where
  module _ (c : ℕ) (i : Interval) (m : In i (L c)) where
    -- no block lies in the interval
    none : any_below B.count (lies B c i) ≡ false → sum_below B.count (term B (first_span B L) c i) ≡ 0
    unfolding term
    none e = sum_zero B.count _ (λ k l. rw (is_false (lies B c i k) (λ q. clash (any_of_one B.count (lies B c i) k l q) e)))

    -- block k is the first that lies in it
    one : First B.count (lies B c i) → sum_below B.count (term B (first_span B L) c i) ≡ i.top - i.bottom
    unfolding term first_span
    one (k, l, p, before) =
        sum_single B.count k _ l (λ j g n. other j g (lt_or_ge j k) n (lies B c i j) refl)
        ∙ rw (p, first B C L s c i m k l before p, home_is B C L s c i m k l p)
      where
        other : (j : ℕ) → j < B.count → (j < k) ⊎ (k ≤ j) → ¬ (j ≡ k) → (t : Bool) → lies B c i j ≡ t → term B (first_span B L) c i j ≡ 0
        other j g (inl h) n t e = rw (before j h)
        other j g (inr h) n true e = rw (e, later B C L s c i m k j (omega arith) g p e)
        other j g (inr h) n false e = rw e

    -- THEOREM: an interval that holds a block counts its height, and so do its blocks together: the first gives it, the others give nothing
    span_terms : span B c i ≡ sum_below B.count (term B (first_span B L) c i)
    unfolding span holds_block
    span_terms =
        cond_ind (λ x. x ≡ sum_below B.count (term B (first_span B L) c i)) (any_below B.count (lies B c i))
        (λ e. sym (one (first_to B.count (lies B c i) e)))
        (λ e. sym (none e))

  -- THEOREM: s is the sum, over the blocks that are the first in their intervals, of the heights of these
  pub stretch_firsts : stretch B C L ≡ sum_below B.count (first_span B L)
  unfolding stretch
  stretch_firsts = by_blocks B C L s (first_span B L) (span B) span_terms
