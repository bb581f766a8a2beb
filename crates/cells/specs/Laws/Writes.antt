-- A column's part written from the changes of its cells, word by word and end by end. Assumes nothing.
use Rattle.std.specs.Prelude.{ℕ, ◌+◌, ◌*◌, ◌/◌, ◌^◌, ◌≤◌, ◌<◌, ◌≡◌, refl}
use Rattle.std.proofs.Math.Path.{sym, ap}
use Rattle.std.proofs.Common.{◌∙◌, arith, add-one}
use mathlib.Core.List.{List, [], ◌∷◌, ◌++◌, append_assoc, append-nil}
use Rattle.std.proofs.Math.ListN.{length, length-append}
use Rattle.std.specs.Int.Count.{count_trailing_zeros}
use Rattle.model.specs.Limits.{column_size}
use Rattle.model.specs.Record.{bytes16, column_part}
use Rattle.model.specs.Parts.{splice}
use Rattle.model.proofs.Laws.Parts.{length_splice}
use Rattle.cells.specs.Bits.{word_bits, Shows}
use Rattle.cells.specs.Ends.{Listable, hits, spots, change, ends, free_below, bit_intervals, numbered, HasRoom, EndsWritten, PartIs}
use Rattle.cells.specs.Laws.Spots.{cleared}
use Rattle.cells.specs.Laws.Coded.{ends_length, column_numbered, numbered_push, numbered_length}
use Rattle.cells.specs.Laws.Walks.{Left, left_start, left_none, left_count, next, left_room, left_next, word_ends, runs_of, all_ends, runs_length, word_room}

-- ---- one word

-- the numbers met so far are written behind those that the part p had
pub record Writing (h : ℕ) (p : List ℕ) (from : ℕ) (L : List ℕ) (base : ℕ) (q : List ℕ) (i rest : ℕ) : Type 0 where
  pub left : Left h from L base q i rest
  pub so_far : (K : List ℕ) → p ≡ numbered h K → from ≡ length K → (P : List ℕ) × (q ≡ numbered h P) × (i ≡ length P) × (P ++ spots base word_bits rest ≡ K ++ L)

pub writing_start : (h : ℕ) (p : List ℕ) (from base x : ℕ) → x < 2 ^ word_bits → HasRoom h p from (spots base word_bits x) → Writing h p from (spots base word_bits x) base p from x
writing_start h p from base x l r = record { left = left_start h p from base x l r; so_far = λ K e f. (K, e, f, refl) }

module _ {h : ℕ} {p : List ℕ} {from : ℕ} {L : List ℕ} {base : ℕ} {q : List ℕ} {i rest : ℕ} (w : Writing h p from L base q i rest) where
  pub writing_end : rest ≡ 0 → EndsWritten h p from L q i
  writing_end e = record {
    count = left_count w.left e;
    wrote = λ K f g. let (P, a, b, c) = w.so_far K f g in a ∙ ap (numbered h) (sym (append-nil P) ∙ (rw (left_none w.left e) at c));
  }

  pub writing_next : 0 < rest → (o : List ℕ) → o ≡ splice q (2 * i) 2 (bytes16 (h * (base + count_trailing_zeros word_bits rest))) → Writing h p from L base o (i + 1) (cleared rest)
  writing_next pos o e =
      let k = base + count_trailing_zeros word_bits rest in
      let size = ap length e ∙ length_splice q (2 * i) 2 (bytes16 (h * k)) (omega (arith, w.left.room.size, left_room w.left pos)) (unfold bytes16 in refl) ∙ w.left.room.size in
      rw (add-one i) (record {
        left = left_next w.left pos o size;
        so_far = λ K f g. let (P, a, b, c) = w.so_far K f g in (
          P ++ (k ∷ []),
          e ∙ (rw (a, b) (numbered_push h P k (omega (arith, left_room w.left pos)))),
          rw length-append (omega arith),
          append_assoc P (k ∷ []) (spots base word_bits (cleared rest)) ∙ (rw (next w.left pos) at c),
        );
      })

-- ---- all words

-- the part p has the changes in the first q words, and there are i of them
pub record Filling (ws : List ℕ) (n h : ℕ) (p : List ℕ) (i q : ℕ) : Type 0 where
  pub wrote : p ≡ numbered h (hits (change (free_below ws n)) 0 (word_bits * q))
  pub count : i ≡ length (hits (change (free_below ws n)) 0 (word_bits * q))

pub filling_start : (ws : List ℕ) (n h : ℕ) (p : List ℕ) → p ≡ column_part [] → Filling ws n h p 0 0
unfolding hits
filling_start ws n h p e = record { wrote = e ∙ column_numbered h []; count = refl }

module _ (ws : List ℕ) (n h : ℕ) (c : Listable ws n h) {p : List ℕ} {i q : ℕ} (w : Filling ws n h p i q) where
  pub filling_size : length p ≡ column_size
  filling_size = ap length w.wrote ∙ numbered_length h (hits (change (free_below ws n)) 0 (word_bits * q))

  module _ (t b : ℕ) (at : b ≡ word_bits * q) (d : Shows t (change (free_below ws n)) (word_bits * q)) where
    pub filling_room : q ≤ length ws → HasRoom h p i (spots b word_bits t)
    filling_room = word_room ws n h c p i q t b filling_size w.count at d

    pub filling_next : (o : List ℕ) (m : ℕ) → EndsWritten h p i (spots b word_bits t) o m → Filling ws n h o m (q + 1)
    filling_next o m r =
        let more = word_ends ws n (word_bits * q) t d in
        let e : word_bits * (q + 1) ≡ word_bits * q + word_bits = omega arith in
        let wrote = rw at at r in
        record { wrote = rw (e, more) (wrote.wrote _ w.wrote w.count); count = rw (e, more, length-append) (omega (arith, w.count, wrote.count)) }

  pub filling_end : q ≡ length ws + 1 → PartIs p (i / 2) (bit_intervals ws n h)
  unfolding bit_intervals
  filling_end k =
      let whole : hits (change (free_below ws n)) 0 (word_bits * q) ≡ ends (runs_of ws n h c) = rw k (all_ends ws n h c) in
      record {
        bytes_are = w.wrote ∙ ap (numbered h) whole ∙ sym (column_numbered h (runs_of ws n h c));
        count_is = omega (arith, w.count, ap length whole, ends_length (runs_of ws n h c), runs_length ws n h c);
      }
