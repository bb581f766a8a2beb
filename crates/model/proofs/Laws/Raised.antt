-- MODEL 11: blocks that rise together inside their intervals. s stays, and n is no less while no block meets an end of its interval. Assumes nothing.
use Prim.Native.Nat.{ℕ, zero, suc, ◌+◌, ◌≤◌, ◌<◌}
use Rattle.std.specs.Prelude.{◌≡◌, Bool, true, false, not, ◌&&◌, List, ltb}
use Rattle.std.proofs.Math.Path.{refl, sym, ap}
use Rattle.std.proofs.Common.{◌∙◌, inl, inr}
use native.Mathlib.Omega.{arith}
use borrow.Author.Tests.{lt-ltb}
use Rattle.runs.specs.Intervals.{Interval, Holds}
use Rattle.model.specs.Bounded.{sum_below}
use Rattle.model.specs.Book.{Placed}
use Rattle.model.specs.Choice.{pieces, stretch}
use Rattle.model.specs.Homes.{bit, home, Room, joined, adds, first_span}
use Rattle.model.proofs.Laws.Bounded.{sum_ext, sum_mono}
use Rattle.model.proofs.Laws.Homes.{bit_small, Under, Stands, holder_at, Holder, holder_of, at_home}
use Rattle.model.proofs.Laws.Stretch.{stretch_firsts}
use Rattle.model.proofs.Laws.Pieces.{pieces_adds}

-- D are the blocks B, all of them u higher
pub record Raised (u : ℕ) (B D : Placed) : Type 0 where
  pub count : D.count ≡ B.count
  pub column : (k : ℕ) → k < B.count → D.column k ≡ B.column k
  pub bottom : (k : ℕ) → k < B.count → D.bottom k ≡ B.bottom k + u
  pub top : (k : ℕ) → k < B.count → D.top k ≡ B.top k + u

bit_mono : (j t : Bool) → bit (not j && t) ≤ bit (not j && true)
bit_mono true t = omega arith
bit_mono false t = bit_small t

module _ (u : ℕ) (B D : Placed) (C : ℕ) (L : ℕ → List Interval) (s : Stands B C L) (r : Raised u B D) (room : Room u B L) where
  -- each block keeps its interval
  pub home_same : (k : ℕ) → k < B.count → home D L k ≡ home B L k
  unfolding home
  home_same k l =
      let h = at_home B C L s k l in
      let f = s.full k l in
      let g = room k l in
      rw (r.column k l, r.bottom k l) (holder_at 0 (B.bottom k + u) (home B L k) (L (B.column k)) (s.canon (B.column k)) h.member (omega arith) (omega arith))

  -- the raised blocks stand there
  pub raised_stands : Stands D C L
  raised_stands = record {
    full = λ k l. let l : k < B.count = omega (arith, r.count) in omega (arith, s.full k l, r.bottom k l, r.top k l);
    rise = λ j k p l. let l : k < B.count = omega (arith, r.count) in rise j k (omega arith) l (s.rise j k p l);
    canon = s.canon;
    held = λ k l. let l : k < B.count = omega (arith, r.count) in held k l (at_home B C L s k l) (room k l);
    column = λ k l. let l : k < B.count = omega (arith, r.count) in omega (arith, s.column k l, r.column k l);
  }
    where
      rise : (j k : ℕ) → j < B.count → k < B.count → Under B j k → Under D j k
      rise j k p q (inl h) = inl (omega (arith, r.column j p, r.column k q))
      rise j k p q (inr h) = inr (omega (arith, r.column j p, r.column k q, r.top j p, r.bottom k q))

      held : (k : ℕ) → k < B.count → Holder (home B L k) (B.bottom k) (B.top k) (L (B.column k)) → B.top k + u ≤ (home B L k).top
          → Holds (D.bottom k) (D.top k) (L (D.column k))
      held k l h g =
          rw (r.column k l, r.bottom k l, r.top k l)
          (holder_of (home B L k) (B.bottom k + u) (B.top k + u) (L (B.column k)) (record { member = h.member; below = omega (arith, h.below); above = g }))

  joined_same : (k : ℕ) → k < B.count → joined D L k ≡ joined B L k
  unfolding joined
  joined_same zero l = refl
  joined_same (suc j) l =
      let g : j < B.count = omega arith in
      rw (home_same j g, home_same (suc j) l, r.column j g, r.column (suc j) l)

  -- THEOREM: raised blocks have the same s
  pub stretch_same : stretch D C L ≡ stretch B C L
  unfolding first_span
  stretch_same =
      stretch_firsts D C L raised_stands
      ∙ ap (λ (n : ℕ). sum_below n (first_span D L)) r.count
      ∙ sum_ext B.count _ _ (λ k l. rw (home_same k l, joined_same k l))
      ∙ sym (stretch_firsts B C L s)

  -- a raised block that does not meet the top of its interval adds all that it can
  adds_more : (k : ℕ) → k < B.count → 0 < u → B.top k + u < (home B L k).top → adds B L k ≤ adds D L k
  unfolding adds
  adds_more k l p q =
      let h = at_home B C L s k l in
      let low = r.bottom k l in
      let high = r.top k l in
      rw (home_same k l, joined_same k l, lt-ltb (home B L k).bottom (D.bottom k) (omega (arith, h.below)), lt-ltb (D.top k) (home B L k).top (omega arith))
      (omega (arith, bit_mono (joined B L k) (ltb (home B L k).bottom (B.bottom k)), bit_small (ltb (B.top k) (home B L k).top)))

  -- THEOREM: raised blocks that still have room above them have no less n
  pub pieces_more : 0 < u → Room (suc u) B L → pieces B C L ≤ pieces D C L
  pieces_more p q =
      let more = sum_mono B.count (adds B L) (adds D L) (λ k l. adds_more k l p (omega (arith, q k l))) in
      omega (arith, pieces_adds B C L s, pieces_adds D C L raised_stands, ap (λ (n : ℕ). sum_below n (adds D L)) r.count)
