-- A column's part compared with the changes of its cells, word by word and end by end. Assumes nothing.
use Rattle.std.specs.Prelude.{ℕ, zero, suc, ◌+◌, ◌*◌, ◌/◌, ◌%◌, ◌^◌, ◌≤◌, ◌<◌, ◌≡◌, ◌⊎◌, refl}
use Rattle.std.proofs.Math.Path.{sym, ap}
use Rattle.std.proofs.Common.{◌∙◌, inl, inr, arith, add-one, add-zero, ext_get_or}
use mathlib.Core.List.{List, [], ◌∷◌, ◌++◌, map}
use Rattle.std.proofs.Math.ListN.{length, length-map, length-append, get_or, get_or-eq_default}
use Rattle.std.specs.Int.Count.{count_trailing_zeros}
use Rattle.runs.specs.Laws.Tests.{lt_or_ge}
use Rattle.model.specs.Limits.{max_intervals, column_size}
use Rattle.model.specs.Tasks.{word}
use Rattle.model.proofs.Laws.Slots.{get_d_padded}
use Rattle.model.proofs.Laws.Clauses.{Zero}
use Rattle.model.proofs.Laws.WriteBack.{Bytes}
use Rattle.cells.specs.Bits.{word_bits, Shows}
use Rattle.cells.specs.Ends.{Listable, hits, spots, change, ends, is_free, free_below, bit_intervals, coded, SmallEnds, numbered, Agree, HasRoom, PartIs}
use Rattle.cells.specs.Laws.Spots.{cleared}
use Rattle.cells.specs.Laws.Coded.{length_coded, ends_length, column_numbered, numbered_length}
use Rattle.cells.specs.Laws.Ends.{small_ends}
use Rattle.cells.specs.Laws.Walks.{Left, left_start, left_none, left_count, next, left_next, word_ends, runs_of, few, all_ends, runs_length, split_ends, word_room}

-- ---- the numbers of a part, and its bytes

module _ (h : ℕ) (p : List ℕ) where
  agree_to : Bytes p → (i : ℕ) (L : List ℕ) → Agree h p i L → (j : ℕ) → j < 2 * length L → get_or p (2 * i + j) 0 ≡ get_or (coded (map (λ k. h * k) L)) j 0
  unfolding word
  agree_to b i [] a j q = absurd (omega arith)
  agree_to b i (k ∷ L) a zero q = let s = b (2 * i) in let e = a.0 in rw (add-zero (2 * i)) (omega (arith, b (2 * i + 1)))
  agree_to b i (k ∷ L) a (suc zero) q = let s = b (2 * i) in let e = a.0 in omega (arith, b (2 * i + 1))
  agree_to b i (k ∷ L) a (suc (suc j)) q = let e : 2 * i + suc (suc j) ≡ 2 * suc i + j = omega arith in rw e (agree_to b (suc i) L a.1 j (omega arith))

  agree_of : (i : ℕ) (L : List ℕ) → SmallEnds h L → ((j : ℕ) → j < 2 * length L → get_or p (2 * i + j) 0 ≡ get_or (coded (map (λ k. h * k) L)) j 0) → Agree h p i L
  unfolding word
  agree_of i [] s f = tt
  agree_of i (k ∷ L) s f =
      let low : get_or p (2 * i) 0 ≡ h * k % 256 = rw (add-zero (2 * i)) at (f 0 (omega arith)) in
      let small = s.0 in (
        omega (arith, f 1 (omega arith)),
        agree_of (suc i) L s.1 (λ j q. let e : 2 * i + suc (suc j) ≡ 2 * suc i + j = omega arith in rw e at (f (suc (suc j)) (omega arith))),
      )

  pub agree_append_to : (i : ℕ) (K L : List ℕ) → Agree h p i (K ++ L) → Agree h p i K × Agree h p (i + length K) L
  agree_append_to i [] L a = (tt, rw (add-zero i) a)
  agree_append_to i (k ∷ K) L a =
      let (x, y) = agree_append_to (suc i) K L a.1 in
      let e : i + suc (length K) ≡ suc i + length K = omega arith in
      ((a.0, x), rw e y)

  pub agree_append_of : (i : ℕ) (K L : List ℕ) → Agree h p i K → Agree h p (i + length K) L → Agree h p i (K ++ L)
  agree_append_of i [] L a b = rw (add-zero i) at b
  agree_append_of i (k ∷ K) L a b = let e : i + suc (length K) ≡ suc i + length K = omega arith in (a.0, agree_append_of (suc i) K L a.1 (rw e at b))

  module _ (L : List ℕ) where
    coded_length : length (coded (map (λ k. h * k) L)) ≡ 2 * length L
    coded_length = length_coded (map (λ k. h * k) L) ∙ ap (λ (n : ℕ). 2 * n) (length-map L (λ k. h * k))

    -- THEOREM: a part of the numbers L has these, and zeros behind them; and where it has, it is one
    pub numbered_agree : SmallEnds h L → length L ≤ 2 * max_intervals → p ≡ numbered h L → Agree h p 0 L × Zero p (2 * length L) column_size
    unfolding numbered
    numbered_agree s l e = (
      agree_of 0 L s (λ j q. let f : 2 * 0 + j ≡ j = omega arith in rw f (byte j (omega arith))),
      λ j q k. byte j k ∙ get_or-eq_default (coded (map (λ k. h * k) L)) 0 (omega (arith, coded_length)),
    )
      where
        byte : (j : ℕ) → j < column_size → get_or p j 0 ≡ get_or (coded (map (λ k. h * k) L)) j 0
        byte j q = ap (λ (x : List ℕ). get_or x j 0) e ∙ get_d_padded column_size (coded (map (λ k. h * k) L)) j q

    pub agree_numbered : Bytes p → length p ≡ column_size → Agree h p 0 L → Zero p (2 * length L) column_size → p ≡ numbered h L
    unfolding numbered
    agree_numbered b s a z =
        ext_get_or 0 p (numbered h L) (s ∙ sym (numbered_length h L))
        (λ j q. let k : j < column_size = omega (arith, s) in byte j k (lt_or_ge j (2 * length L)) ∙ sym (get_d_padded column_size (coded (map (λ k. h * k) L)) j k))
      where
        byte : (j : ℕ) → j < column_size → (j < 2 * length L) ⊎ (2 * length L ≤ j) → get_or p j 0 ≡ get_or (coded (map (λ k. h * k) L)) j 0
        byte j k (inl q) = let e : 2 * 0 + j ≡ j = omega arith in rw e at (agree_to b 0 L a j q)
        byte j k (inr q) = z j q k ∙ sym (get_or-eq_default (coded (map (λ k. h * k) L)) 0 (omega (arith, coded_length)))

-- ---- one word

-- the numbers met so far are those that the part p has
pub record Comparing (h : ℕ) (p : List ℕ) (from : ℕ) (L : List ℕ) (base i rest : ℕ) : Type 0 where
  pub left : Left h from L base p i rest
  pub back : Agree h p i (spots base word_bits rest) → Agree h p from L
  pub forth : Agree h p from L → Agree h p i (spots base word_bits rest)

pub comparing_start : (h : ℕ) (p : List ℕ) (from base x : ℕ) → x < 2 ^ word_bits → HasRoom h p from (spots base word_bits x) → Comparing h p from (spots base word_bits x) base from x
comparing_start h p from base x l r = record { left = left_start h p from base x l r; back = λ a. a; forth = λ a. a }

module _ {h : ℕ} {p : List ℕ} {from : ℕ} {L : List ℕ} {base i rest : ℕ} (w : Comparing h p from L base i rest) where
  pub comparing_end : rest ≡ 0 → Agree h p from L × (i ≡ from + length L)
  comparing_end e = (w.back (rw (left_none w.left e) tt), left_count w.left e)

  module _ (pos : 0 < rest) where
    pub comparing_differs : (word p (2 * i) ≡ h * (base + count_trailing_zeros word_bits rest) → ⊥) → Agree h p from L → ⊥
    comparing_differs f a = f (rw (next w.left pos) at (w.forth a)).0

    pub comparing_next : word p (2 * i) ≡ h * (base + count_trailing_zeros word_bits rest) → Comparing h p from L base (i + 1) (cleared rest)
    comparing_next e = rw (add-one i) (record {
      left = left_next w.left pos p w.left.room.size;
      back = λ a. w.back (rw (next w.left pos) (e, a));
      forth = λ a. (rw (next w.left pos) at (w.forth a)).1;
    })

-- ---- all words

-- the changes in the first q words are numbers that the part p has, and there are i of them
pub record Listing (ws : List ℕ) (n h : ℕ) (p : List ℕ) (i q : ℕ) : Type 0 where
  pub agreed : Agree h p 0 (hits (change (free_below ws n)) 0 (word_bits * q))
  pub count : i ≡ length (hits (change (free_below ws n)) 0 (word_bits * q))

pub listing_start : (ws : List ℕ) (n h : ℕ) (p : List ℕ) → Listing ws n h p 0 0
unfolding hits
listing_start ws n h p = record { agreed = tt; count = refl }

module _ (ws : List ℕ) (n h : ℕ) (c : Listable ws n h) (p : List ℕ) (size : length p ≡ column_size) where
  -- a part of the free intervals has their ends, and zeros behind them
  part_agrees : (m : ℕ) → PartIs p m (bit_intervals ws n h) → Agree h p 0 (ends (runs_of ws n h c)) × Zero p (2 * length (ends (runs_of ws n h c))) column_size
  unfolding bit_intervals
  part_agrees m x =
      numbered_agree h p (ends (runs_of ws n h c)) (small_ends h n (is_free ws) c.small) (omega (arith, ends_length (runs_of ws n h c), few ws n h c)) (x.bytes_are ∙ column_numbered h (runs_of ws n h c))

  module _ {i q : ℕ} (w : Listing ws n h p i q) where
    module _ (t b : ℕ) (at : b ≡ word_bits * q) (d : Shows t (change (free_below ws n)) (word_bits * q)) where
      pub listing_room : q ≤ length ws → HasRoom h p i (spots b word_bits t)
      listing_room = word_room ws n h c p i q t b size w.count at d

      pub listing_next : (m : ℕ) → Agree h p i (spots b word_bits t) × (m ≡ i + length (spots b word_bits t)) → Listing ws n h p m (q + 1)
      listing_next m r =
          let H = hits (change (free_below ws n)) 0 (word_bits * q) in
          let more = word_ends ws n (word_bits * q) t d in
          let e : word_bits * (q + 1) ≡ word_bits * q + word_bits = omega arith in
          let (a, l) = rw at at r in
          let f : i ≡ 0 + length H = omega (arith, w.count) in
          record {
            agreed = rw (e, more) (agree_append_of h p 0 H (spots (word_bits * q) word_bits t) w.agreed (rw f at a));
            count = rw (e, more, length-append) (omega (arith, w.count));
          }

      -- where a number differs the part is not that of the free intervals
      pub listing_differs : q ≤ length ws → (Agree h p i (spots b word_bits t) → ⊥) → (m : ℕ) → PartIs p m (bit_intervals ws n h) → ⊥
      listing_differs k f m x =
          let H = hits (change (free_below ws n)) 0 (word_bits * q) in
          let L = spots (word_bits * q) word_bits t in
          let (rest, cut) = split_ends ws n h c q t d k in
          let (a, u) = agree_append_to h p 0 (H ++ L) rest (rw cut at (part_agrees m x).0) in
          let (v, a) = agree_append_to h p 0 H L a in
          let g : 0 + length H ≡ i = omega (arith, w.count) in
          f (rw at (rw g at a))

    module _ (k : q ≡ length ws + 1) where
      whole : hits (change (free_below ws n)) 0 (word_bits * q) ≡ ends (runs_of ws n h c)
      whole = rw k (all_ends ws n h c)

      counted : i ≡ 2 * length (bit_intervals ws n h)
      counted = omega (arith, w.count, ap length whole, ends_length (runs_of ws n h c), runs_length ws n h c)

      pub listing_few : i ≤ 2 * max_intervals
      listing_few = omega (arith, counted, runs_length ws n h c, few ws n h c)

      -- THEOREM: where all changes were met, the part is that of the free intervals, if the count is right and zeros stand behind
      pub listing_yes : Bytes p → (m : ℕ) → i / 2 ≡ m → Zero p (2 * i) column_size → PartIs p m (bit_intervals ws n h)
      unfolding bit_intervals
      listing_yes b m e z =
          let f : i ≡ length (ends (runs_of ws n h c)) = omega (arith, w.count, ap length whole) in
          record {
            bytes_are = agree_numbered h p (ends (runs_of ws n h c)) b size (rw whole at w.agreed) (rw f at z) ∙ sym (column_numbered h (runs_of ws n h c));
            count_is = omega (arith, counted);
          }

      pub listing_no : (m : ℕ) → PartIs p m (bit_intervals ws n h) → (i / 2 ≡ m) × Zero p (2 * i) column_size
      listing_no m x =
          let f : length (ends (runs_of ws n h c)) ≡ i = omega (arith, w.count, ap length whole) in
          (omega (arith, counted, x.count_is), rw f at (part_agrees m x).1)
