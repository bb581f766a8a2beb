-- MODEL 12.3: the record of a new card, written byte by byte, zeros, the head, and then one column after the other. Assumes nothing.
use Rattle.std.specs.Prelude.{ℕ, suc, ◌+◌, ◌-◌, ◌/◌, ◌%◌, ◌≤◌, ◌<◌, ◌≡◌, true, ltb, get_or, set, replicate}
use Rattle.std.proofs.Math.Path.{refl}
use borrow.Rule.Slice.PartMut.{mid_of, put_mid}
use Rattle.std.proofs.Common.{sym, ap, ◌∙◌, inl, arith, length-set, get_or-set_other}
use mathlib.Core.List.{List, [], ◌∷◌}
use Rattle.std.proofs.Math.ListN.{length}
use Rattle.std.proofs.lemmas.List.{length-replicate, get_or-replicate, set-get_or}
use Rattle.runs.specs.Intervals.{interval, Free, Named, piece}
use Rattle.runs.specs.Laws.Tests.{tests, cond_ind}
use Rattle.runs.specs.Laws.Intervals.{free_intervals}
use Rattle.runs.specs.Laws.Streaming.{piece_some, piece_none}
use Rattle.model.specs.Limits.{max_rows, max_columns, max_kind, record_size, columns_at, head_size, kinds_at, counts_at, column_size, entry_size}
use Rattle.model.specs.Columns.{Device, columns, kind, top_in, top, device_ok}
use Rattle.model.specs.Book.{free, held, intervals}
use Rattle.model.specs.Bounded.{any_in}
use Rattle.model.specs.Record.{bytes16, interval_bytes, head_bytes, part, column_part, entry_part, record_of, column_at, entry_at}
use Rattle.model.specs.Parts.{splice}
use Rattle.model.specs.InPlace.{Reads, put_column}
use Rattle.model.proofs.Laws.Clauses.{Zero}
use Rattle.model.proofs.Laws.WriteBack.{zero_part}
use Rattle.model.proofs.Laws.Limits.{Limits, limits_to, kind_le}
use Rattle.model.proofs.Laws.Kept.{within_new}
use Rattle.model.proofs.Laws.Split.{free_of}
use Rattle.model.proofs.Laws.Changed.{upto, upto_none, upto_step, upto_out, upto_is}
use Rattle.model.proofs.Laws.Parts.{splice_same, splice_more, part_set_above, set_two}
use Rattle.model.proofs.Laws.Slots.{slot_out}
use Rattle.model.proofs.Laws.ColumnPart.{column_push}
use Rattle.model.proofs.Laws.Layout.{reads_kind, reads_head, reads_column, reads_count, reads_cong}
use Rattle.model.proofs.Laws.Record.{shows_image, length_column, column_part_nil, kind_out, intervals_out}
use Rattle.record.specs.Clear.{Closed}

-- ---- one column

-- an interval written into an empty part
pub part_one : (p : List ℕ) (top : ℕ) → p ≡ column_part [] → splice (splice p 0 2 (bytes16 0)) 2 2 (bytes16 top) ≡ column_part (interval 0 top ∷ [])
unfolding interval_bytes bytes16
part_one p top e =
    rw e (splice_more (column_part []) 0 2 2 (bytes16 0) (bytes16 top) (omega (arith, length_column [])) refl ∙ column_push [] (interval 0 top) (omega arith))

-- a kind byte written leaves column c as it is
pub closed_kind : (r : List ℕ) (c k : ℕ) → Closed r c → Closed (set r (kinds_at + c) k) c
closed_kind r c k x =
    let q = x.column in
    record {
      size = length-set r (kinds_at + c) k ∙ x.size;
      column = x.column;
      part_is = part_set_above r (kinds_at + c) k (column_at c) column_size (omega arith) (omega (arith, x.size)) ∙ x.part_is;
      count_is = get_or-set_other r (kinds_at + c) (counts_at + c) k 0 (omega arith) ∙ x.count_is;
    }

-- a column without cells stays as it is
pub open_none : (r : List ℕ) (c top : ℕ) → Closed r c → top ≡ 0 → r ≡ put_column r c (piece 0 top [])
unfolding put_column
open_none r c top x h =
    rw (piece_none 0 top [] (omega arith), ← x.part_is, splice_same r (column_at c) column_size, ← x.count_is) (sym (set-get_or r (counts_at + c) 0))

-- its part is lent from a to e
module _ (r : List ℕ) (c a e : ℕ) (start : a ≡ column_at c) (end : e ≡ column_at c + column_size) where
  size : e - a ≡ column_size
  size = omega arith

  pub lent_closed : (k : ℕ) → Closed r c → mid_of a (e - a) (set r (kinds_at + c) k) ≡ column_part []
  unfolding part
  lent_closed k x = rw (size, start) (closed_kind r c k x).part_is

  pub open_one : (q : List ℕ) (top : ℕ) → 1 ≤ top → q ≡ column_part (interval 0 top ∷ []) → set (put_mid a (e - a) r q) (counts_at + c) 1 ≡ put_column r c (piece 0 top [])
  unfolding put_column splice
  open_one q top h i = rw (size, start, piece_some 0 top [] h, i)

-- ---- the free intervals of a new card

new_free : (d : Device) (c : ℕ) → c < columns d → Free (free d [] c) (top d c) (piece 0 (top d c) [])
unfolding held any_in piece
new_free d c q =
    cond_ind (Free (free d [] c) (top d c)) (ltb 0 (top d c))
    (λ e. record { canon = (omega arith, omega tests, tt); named = λ y. (λ h. let l = only y h in (l, free_of d [] c y q l refl), λ h. inl (omega arith, h.0)) })
    (λ e. record { canon = tt; named = λ y. (λ h. absurd h, λ h. let l = h.0 in absurd (omega tests)) })
  where
    only : (y : ℕ) → Named y (interval 0 (top d c) ∷ []) → y < top d c
    only y (inl h) = h.1
    only y (mathlib.Core.Logic.inr x') = elim x' [ ]

-- all cells of a column in one interval
pub new_intervals : (d : Device) (c : ℕ) → c < columns d → intervals d [] c ≡ piece 0 (top d c) []
unfolding intervals
new_intervals d c q = sym (free_intervals (free d [] c) (top d c) (piece 0 (top d c) []) (new_free d c q))

-- ---- the columns one after the other

-- the head of a new card is written, and its columns below n are open
abbrev pub Opened : Device → ℕ → List ℕ → Type 0
Opened d n r =
    Reads r (head_bytes d []) (upto n (kind d) (λ c. 0)) (upto n (λ c. length (intervals d [] c)) (λ c. 0))
    (upto n (λ c. column_part (intervals d [] c)) (λ c. column_part [])) (entry_part [])

-- zeros
blank : (r : List ℕ) → length r ≡ record_size → Zero r 0 record_size → Reads r (0 ∷ 0 ∷ 0 ∷ 0 ∷ []) (λ c. 0) (λ c. 0) (λ c. column_part []) (entry_part [])
blank r l z = record {
  size = l;
  head_is = zero_part r 0 head_size (omega arith) (λ i a e. z i (omega arith) (omega arith));
  kind_is = λ c q. z (kinds_at + c) (omega arith) (omega arith);
  count_is = λ c q. z (counts_at + c) (omega arith) (omega arith);
  column_is = λ c q. zero_part r (column_at c) column_size (omega arith) (λ i a e. z i (omega arith) (omega arith)) ∙ sym column_part_nil;
  entry_is = λ j q. zero_part r (entry_at j) entry_size (omega arith) (λ i a e. z i (omega arith) (omega arith)) ∙ sym (slot_out entry_size [] j (omega arith));
}

-- the head of a new card, written over zeros
pub opened_none : (d : Device) (r z s : List ℕ) → length r ≡ record_size → z ≡ replicate (length r) 0 → s ≡ splice z 0 2 (bytes16 d.rows) → Opened d 0 (set s columns_at (columns d))
unfolding head_bytes bytes16
opened_none d r z s l ez es =
    let lz : length z ≡ record_size = ap length ez ∙ length-replicate (length r) 0 ∙ l in
    let zero : Zero z 0 record_size = λ i a e. ap (λ (x : List ℕ). get_or x i 0) ez ∙ get_or-replicate (length r) i 0 0 (omega arith) in
    let x = blank z lz zero in
    let two = set_two z 0 (d.rows % 256) (d.rows / 256 % 256) (omega arith) in
    rw (es, ← two)
    (reads_cong (reads_head (reads_head (reads_head x 0 (d.rows % 256) (omega arith)) 1 (d.rows / 256 % 256) (omega arith)) columns_at (columns d) (omega arith))
    refl
    (λ c q. sym (upto_none (kind d) (λ c. 0) c))
    (λ c q. sym (upto_none (λ c. length (intervals d [] c)) (λ c. 0) c))
    (λ c q. sym (upto_none (λ c. column_part (intervals d [] c)) (λ c. column_part []) c))
    (λ j q. refl))

module _ (d : Device) (n : ℕ) (r : List ℕ) (x : Opened d n r) (q : n < max_columns) where
  -- the next column is closed
  pub opened_closed : Closed r n
  opened_closed = record {
    size = x.size;
    column = q;
    part_is = x.column_is n q ∙ upto_out (λ c. column_part (intervals d [] c)) (λ c. column_part []) n n (omega arith);
    count_is = x.count_is n q ∙ upto_out (λ c. length (intervals d [] c)) (λ c. 0) n n (omega arith);
  }

  -- and then open
  pub opened_more : (k : ℕ) → k ≡ kind d n → n < columns d → Opened d (suc n) (put_column (set r (kinds_at + n) k) n (piece 0 (top_in d.rows k) []))
  unfolding put_column top
  opened_more k e p =
      let js = intervals d [] n in
      rw (e, ← new_intervals d n p)
      (reads_cong (reads_count (reads_column (reads_kind x n (kind d n) q) n (column_part js) q (length_column js)) n (length js) q)
      refl
      (λ c m. upto_step (kind d) (λ c. 0) n c)
      (λ c m. upto_step (λ c. length (intervals d [] c)) (λ c. 0) n c)
      (λ c m. upto_step (λ c. column_part (intervals d [] c)) (λ c. column_part []) n c)
      (λ j m. refl))

-- THEOREM: with all its columns open it is the record of a new card
pub opened_all : (d : Device) (r : List ℕ) → Opened d (columns d) r → r ≡ record_of d []
unfolding record_of
opened_all d r x =
    shows_image r d [] (intervals d [])
    (reads_cong x refl
    (λ c q. upto_is (kind d) (λ c. 0) (columns d) (kind_out d) c)
    (λ c q. upto_is (λ c. length (intervals d [] c)) (λ c. 0) (columns d) (λ i h. ap length (intervals_out d [] i h)) c)
    (λ c q. upto_is (λ c. column_part (intervals d [] c)) (λ c. column_part []) (columns d) (λ i h. ap column_part (intervals_out d [] i h)) c)
    (λ j q. refl))

-- ---- what the limits of a device say

module _ (n : ℕ) (ks : List ℕ) (h : device_ok (record { rows = n; kinds = ks }) ≡ true) where
  limits_of : Limits (record { rows = n; kinds = ks }) []
  limits_of = limits_to (record { rows = n; kinds = ks }) [] (within_new (record { rows = n; kinds = ks }) h)

  pub few_rows : n ≤ max_rows
  few_rows = limits_of.rows

  pub few_kinds : length ks ≤ max_columns
  unfolding columns
  few_kinds = limits_of.columns

  pub small_kind : (c : ℕ) → get_or ks c 0 ≤ max_kind
  unfolding kind
  small_kind c = kind_le (record { rows = n; kinds = ks }) [] limits_of c
