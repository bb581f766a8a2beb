-- MODEL 8.3: a column's part of the record, its intervals read one by one, and one more put behind the last. Assumes nothing.
use Rattle.std.specs.Prelude.{ℕ, ◌+◌, ◌*◌, ◌≤◌, ◌<◌, ◌≡◌, List, [], ◌∷◌, ◌++◌, map, get_or}
use Rattle.std.proofs.Math.Path.{refl, sym, ap}
use Rattle.std.proofs.Common.{◌∙◌, arith, add_assoc}
use Rattle.std.proofs.Math.Nat.{add-zero}
use Rattle.std.proofs.Math.ListN.{length}
use Rattle.std.proofs.lemmas.List.{length-map}
use Rattle.runs.specs.Intervals.{Interval}
use Rattle.model.specs.Limits.{max_columns, max_intervals, words, column_size, interval_size}
use Rattle.model.specs.Bounded.{join_below}
use Rattle.model.specs.Columns.{Device}
use Rattle.model.specs.Tasks.{word}
use Rattle.model.specs.Book.{Book, intervals}
use Rattle.model.specs.Record.{bytes16, interval_bytes, slot, slots, column_part, record_of, part, column_at}
use Rattle.model.specs.Parts.{splice}
use Rattle.model.proofs.Laws.Parts.{part_part, get_d_part, join_cong}
use Rattle.model.proofs.Laws.Tables.{part_join_front}
use Rattle.model.proofs.Laws.Slots.{length_slot, part_slots, slot_map, padded_full, slots_push}
use Rattle.model.proofs.Laws.Record.{word_is, record_column}

-- a two-byte number of a part
pub word_part : (r : List ℕ) (at n i : ℕ) → i + 1 < n → word (part r at n) i ≡ word r (at + i)
unfolding word
word_part r at n i h = rw (get_d_part r at n i 0 (omega arith), get_d_part r at n (i + 1) 0 h, add_assoc)

module _ (is : List Interval) (i : ℕ) (d : Interval) (q : i < length is) (few : length is ≤ max_intervals) where
  -- interval i's bytes, its bottom and its top
  pub interval_piece : part (column_part is) (interval_size * i) interval_size ≡ interval_bytes (get_or is i d)
  unfolding column_part
  interval_piece =
      part_slots max_intervals interval_size (map interval_bytes is) i (omega arith) ∙ slot_map interval_size interval_bytes is i d q ∙ padded_full interval_size (interval_bytes (get_or is i d)) four
    where
      four : length (interval_bytes (get_or is i d)) ≡ interval_size
      four = unfold interval_bytes bytes16 in refl

  pub interval_bottom : (get_or is i d).bottom < words → word (column_part is) (interval_size * i) ≡ (get_or is i d).bottom
  unfolding interval_bytes bytes16
  interval_bottom h =
      sym (rw add-zero at (word_part (column_part is) (interval_size * i) interval_size 0 (omega arith)))
      ∙ ap (λ p. word p 0) interval_piece ∙ word_is (interval_bytes (get_or is i d)) 0 (get_or is i d).bottom h refl refl

  pub interval_top : (get_or is i d).top < words → word (column_part is) (interval_size * i + 2) ≡ (get_or is i d).top
  unfolding interval_bytes bytes16
  interval_top h =
      sym (word_part (column_part is) (interval_size * i) interval_size 2 (omega arith))
      ∙ ap (λ p. word p 2) interval_piece ∙ word_is (interval_bytes (get_or is i d)) 2 (get_or is i d).top h refl refl

-- the intervals' own bytes, at the front of the part
pub column_front : (is : List Interval) (d : Interval) → length is ≤ max_intervals
    → part (column_part is) 0 (length is * interval_size) ≡ join_below (length is) (λ i. interval_bytes (get_or is i d))
unfolding column_part slots
column_front is d few =
    part_join_front (slot interval_size (map interval_bytes is)) interval_size max_intervals (length is) (λ i q. length_slot interval_size (map interval_bytes is) i) few
    ∙ join_cong (slot interval_size (map interval_bytes is)) (λ i. interval_bytes (get_or is i d)) (length is)
    (λ i q. slot_map interval_size interval_bytes is i d q ∙ padded_full interval_size (interval_bytes (get_or is i d)) (unfold interval_bytes bytes16 in refl))

-- MODEL 16.2: the bytes of the view of column c are those of its intervals
pub record_view : (d : Device) (b : Book) (c : ℕ) (i : Interval) → c < max_columns → length (intervals d b c) ≤ max_intervals
    → part (record_of d b) (column_at c) (interval_size * length (intervals d b c)) ≡ join_below (length (intervals d b c)) (λ k. interval_bytes (get_or (intervals d b c) k i))
record_view d b c i q few =
    let n = length (intervals d b c) in
    let e : interval_size * n ≡ n * interval_size = omega arith in
    rw e (sym (rw add-zero at (part_part (record_of d b) (column_at c) column_size 0 (n * interval_size) (omega arith))) ∙ ap (λ p. part p 0 (n * interval_size)) (record_column d b c q)
    ∙ column_front (intervals d b c) i few)

-- an interval put behind the last

map_push : (l : List Interval) (x : Interval) → map interval_bytes (l ++ (x ∷ [])) ≡ map interval_bytes l ++ (interval_bytes x ∷ [])
map_push [] x = refl
map_push (y ∷ l) x = ap (λ m. interval_bytes y ∷ m) (map_push l x)

-- one more interval
pub column_push : (is : List Interval) (x : Interval) → length is < max_intervals
    → splice (column_part is) (interval_size * length is) interval_size (interval_bytes x) ≡ column_part (is ++ (x ∷ []))
unfolding column_part
column_push is x q =
    rw (map_push is x, ← length-map is interval_bytes)
    (slots_push max_intervals interval_size (map interval_bytes is) (interval_bytes x) (omega (arith, length-map is interval_bytes)) (unfold interval_bytes bytes16 in refl))
