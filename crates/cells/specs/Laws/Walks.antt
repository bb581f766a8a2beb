-- The changes of a column's cells, met word by word and digit by digit, whatever is done with each. Assumes nothing.
use Rattle.std.specs.Prelude.{ℕ, suc, ◌+◌, ◌-◌, ◌*◌, ◌^◌, ◌≤◌, ◌<◌, ◌≡◌, refl}
use Rattle.std.proofs.Math.Path.{sym, ap}
use Rattle.std.proofs.Common.{◌∙◌, arith, zero-add}
use mathlib.Core.List.{List, [], ◌∷◌, ◌++◌}
use Rattle.std.proofs.Math.ListN.{length, length-map, length-append}
use Rattle.std.proofs.lemmas.Nat.{and_le_l}
use Rattle.std.specs.Int.Count.{count_trailing_zeros}
use Rattle.runs.specs.Intervals.{Interval, intervals as maximal_runs}
use Rattle.runs.specs.Laws.Runs.{in_step_one, runs_count}
use Rattle.model.specs.Limits.{max_intervals, column_size, words}
use Rattle.model.proofs.Laws.Cells.{scaled}
use Rattle.cells.specs.Bits.{word_bits, Shows}
use Rattle.cells.specs.Ends.{Listable, hits, spots, change, ends, is_free, free_below, bit_intervals, HasRoom}
use Rattle.cells.specs.Laws.Spots.{cleared, spots_none, spots_next, spots_hits, hits_append}
use Rattle.cells.specs.Laws.Coded.{ends_length, small_append}
use Rattle.cells.specs.Laws.Ends.{free_changes, small_ends}

-- ---- one word

-- the numbers L were to be met from number `from` on; those of the digits that are left are to be met from number i on, in the part q
pub record Left (h from : ℕ) (L : List ℕ) (base : ℕ) (q : List ℕ) (i rest : ℕ) : Type 0 where
  pub digits : rest < 2 ^ word_bits
  pub room : HasRoom h q i (spots base word_bits rest)
  pub count : i + length (spots base word_bits rest) ≡ from + length L

pub left_start : (h : ℕ) (p : List ℕ) (from base x : ℕ) → x < 2 ^ word_bits → HasRoom h p from (spots base word_bits x) → Left h from (spots base word_bits x) base p from x
left_start h p from base x l r = record { digits = l; room = r; count = refl }

module _ {h from : ℕ} {L : List ℕ} {base : ℕ} {q : List ℕ} {i rest : ℕ} (w : Left h from L base q i rest) where
  pub left_none : rest ≡ 0 → spots base word_bits rest ≡ []
  left_none e = ap (spots base word_bits) e ∙ spots_none base word_bits

  pub left_count : rest ≡ 0 → i ≡ from + length L
  left_count e = omega (arith, w.count, ap length (left_none e))

  module _ (pos : 0 < rest) where
    -- the next number, and the others
    pub next : spots base word_bits rest ≡ (base + count_trailing_zeros word_bits rest) ∷ spots base word_bits (cleared rest)
    next = spots_next base word_bits rest pos w.digits

    pub left_room : i < 2 * max_intervals
    left_room = omega (arith, w.room.few, ap length next)

    pub left_small : h * (base + count_trailing_zeros word_bits rest) < words
    left_small = (rw next at w.room.small).0

    pub left_next : (o : List ℕ) → length o ≡ column_size → Left h from L base o (suc i) (cleared rest)
    left_next o e = record {
      digits = omega (arith, and_le_l rest (rest - 1), w.digits);
      room = record { size = e; few = omega (arith, w.room.few, ap length next); small = (rw next at w.room.small).1 };
      count = omega (arith, w.count, ap length next);
    }

-- ---- all words

-- the changes in one more word
pub word_ends : (ws : List ℕ) (n base t : ℕ) → Shows t (change (free_below ws n)) base
    → hits (change (free_below ws n)) 0 (base + word_bits) ≡ hits (change (free_below ws n)) 0 base ++ spots base word_bits t
word_ends ws n base t d =
    let g = change (free_below ws n) in
    hits_append g 0 base word_bits ∙ ap (λ (l : List ℕ). hits g 0 base ++ l) (ap (λ (a : ℕ). hits g a word_bits) (zero-add base) ∙ sym (spots_hits g base word_bits t d))

-- the free runs, by their ends
module _ (ws : List ℕ) (n h : ℕ) (c : Listable ws n h) where
  abbrev pub runs_of : List Interval
  runs_of = maximal_runs (is_free ws) n

  pub few : length runs_of ≤ max_intervals
  unfolding maximal_runs
  few = simp length-map (omega (arith, c.few, runs_count 1 (is_free ws) (in_step_one (is_free ws)) n))

  pub all_ends : hits (change (free_below ws n)) 0 (word_bits * (length ws + 1)) ≡ ends runs_of
  all_ends = free_changes ws n (word_bits * (length ws + 1)) (omega (arith, c.room))

  pub runs_length : length (bit_intervals ws n h) ≡ length runs_of
  unfolding bit_intervals
  runs_length = length-map runs_of (scaled h)

  -- those below word q, those in it, and the rest
  pub split_ends : (q t : ℕ) → Shows t (change (free_below ws n)) (word_bits * q) → q ≤ length ws
      → (rest : List ℕ) × (ends runs_of ≡ (hits (change (free_below ws n)) 0 (word_bits * q) ++ spots (word_bits * q) word_bits t) ++ rest)
  split_ends q t d l =
      let g = change (free_below ws n) in
      let base = word_bits * q in
      let m = word_bits * (length ws + 1) - (base + word_bits) in
      let sum : base + word_bits + m ≡ word_bits * (length ws + 1) = omega arith in
      let rest = hits g (0 + (base + word_bits)) m in
      (rest, sym all_ends ∙ ap (hits g 0) (sym sum) ∙ hits_append g 0 (base + word_bits) m ∙ ap (λ (l : List ℕ). l ++ rest) (word_ends ws n base t d))

  -- the numbers in word q have room in a part, behind those below it
  pub word_room : (p : List ℕ) (i q t b : ℕ) → length p ≡ column_size → i ≡ length (hits (change (free_below ws n)) 0 (word_bits * q)) → b ≡ word_bits * q
      → Shows t (change (free_below ws n)) (word_bits * q) → q ≤ length ws → HasRoom h p i (spots b word_bits t)
  word_room p i q t b size e at d k =
      let H = hits (change (free_below ws n)) 0 (word_bits * q) in
      let L = spots (word_bits * q) word_bits t in
      let (rest, cut) = split_ends q t d k in
      let (x, y) = small_append h (H ++ L) rest (rw cut at (small_ends h n (is_free ws) c.small)) in
      rw at record {
        size = size;
        few = omega (arith, e, ap length cut, length-append (H ++ L) rest, length-append H L, ends_length runs_of, few);
        small = (small_append h H L x).1;
      }
