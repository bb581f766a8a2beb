-- MODEL 10.6 and 12.6: the laws of the bytes of a listing. Assumes nothing.
use Rattle.std.specs.Prelude.{ℕ, ◌+◌, ◌*◌, ◌≤◌, ◌<◌, ◌≡◌, refl, ◌⊎◌, true, false, pos, neg_ℤ, get_or, set, take, All, Some, None}
use Rattle.std.proofs.Math.Path.{sym, ap}
use Rattle.std.proofs.Common.{ap₂, ◌∙◌, inl, inr, arith}
use mathlib.Core.List.{List, [], ◌∷◌, ◌++◌, map, append-nil}
use borrow.Author.Tests.{le-ltb}
use Rattle.std.proofs.Math.Numerals.{add-one}
use Rattle.std.proofs.Math.ListN.{length, length-append}
use Rattle.std.proofs.lemmas.List.{length-map, length-take, take_more}
use Rattle.runs.specs.Runs.{Run, run}
use Rattle.runs.specs.Laws.Runs.{runs_lists}
use Rattle.model.specs.Limits.{words, range_size, list_room}
use Rattle.model.specs.Bounded.{join_in, join_below}
use Rattle.model.specs.Columns.{columns, half_rows}
use Rattle.model.specs.Tasks.{step}
use Rattle.model.specs.Book.{fits}
use Rattle.model.specs.Listing.{Range, range_of, ranges}
use Rattle.model.specs.Record.{bytes16, device_of, book_of}
use Rattle.model.specs.Calls.{list, lent, range_bytes, over, no_position, refused, refusals, unless, on_book}
use Rattle.model.specs.Parts.{splice}
use Rattle.model.proofs.Laws.Bounded.{true_or_false, is_false, map_append}
use Rattle.model.proofs.Laws.Parts.{splice_none, splice_more, length_splice, set_two}
use Rattle.model.proofs.Laws.Listing.{join_append}
use Rattle.model.proofs.Laws.Limits.{limits_to}
use Rattle.model.proofs.Laws.Step.{list_done}
use Rattle.model.proofs.Laws.Steps.{fits_steps}
use Rattle.model.proofs.Laws.NoPosition.{ranges_none_iff}
use Rattle.model.proofs.Laws.Sound.{sound_within}
use Rattle.listing.specs.Lists.{max_runs}
use Rattle.listing.specs.Columns.{Given, ranges_in}
use Rattle.listing.specs.Output.{IsSmall, Writable, AllWritable, column_bytes, ranges_below, Answers}
use Rattle.listing.specs.Laws.Lists.{ends_all}
use Rattle.listing.specs.Laws.Column.{some_blocks, few_columns}

-- ---- one range

pub length_range : (q : Range) → length (range_bytes q) ≡ range_size
unfolding range_bytes bytes16
length_range q = refl

pub length_ranges : (K : List Range) → length (join_in range_bytes K) ≡ range_size * length K
unfolding join_in
length_ranges [] = refl
length_ranges (q ∷ K) = rw (length-append, length_range q, length_ranges K) (omega arith)

-- two bytes, and two numbers of two bytes
pub range_written : (o : List ℕ) (at p s a e : ℕ) → at + range_size ≤ length o
    → splice (splice (set (set o at p) (at + 1) s) (at + 2) 2 (bytes16 a)) (at + 4) 2 (bytes16 e) ≡ splice o at range_size (range_bytes (range_of p s (run a e)))
unfolding range_bytes bytes16
range_written o at p s a e h =
    let m : at + 4 ≡ at + (2 + 2) = omega arith in
    rw (set_two o at p s (omega arith), splice_more o at 2 2 (p ∷ s ∷ []) (bytes16 a) (omega arith) refl, m)
    (splice_more o at (2 + 2) 2 (p ∷ s ∷ bytes16 a) (bytes16 e) (omega arith) refl)

-- ---- the ranges of a column

column_more : (p s i : ℕ) (L : List Run) (q : Run) → i < length L → get_or L i q ≡ q → column_bytes p s (take (i + 1) L) ≡ column_bytes p s (take i L) ++ range_bytes (range_of p s q)
unfolding join_in
column_more p s i L q l e =
    rw (take_more L i q l, e, map_append (range_of p s) (take i L) (q ∷ []), join_append range_bytes (map (range_of p s) (take i L)) (range_of p s q ∷ []), append-nil (range_bytes (range_of p s q)))

pub length_column : (p s : ℕ) (L : List Run) → length (column_bytes p s L) ≡ range_size * length L
length_column p s L = length_ranges (map (range_of p s) L) ∙ rw (length-map L (range_of p s))

-- the first i of them are written
abbrev pub Writing : List ℕ → ℕ → ℕ → ℕ → List Run → ℕ → List ℕ → Type 0
Writing o₀ n p s L i o = o ≡ splice o₀ (range_size * n) (range_size * i) (column_bytes p s (take i L))

module _ (o₀ : List ℕ) (n p s : ℕ) (L : List Run) (w : AllWritable (length o₀) n L) where
  pub writing_start : Writing o₀ n p s L 0 o₀
  unfolding join_in
  writing_start = sym (splice_none o₀ (range_size * n))

  written_first : (i : ℕ) → i ≤ length L → length (column_bytes p s (take i L)) ≡ range_size * i
  written_first i l = length_column p s (take i L) ∙ ap (λ (x : ℕ). range_size * x) (simp length-take (omega arith))

  pub writing_length : (i : ℕ) (o : List ℕ) → i ≤ length L → Writing o₀ n p s L i o → length o ≡ length o₀
  writing_length i o l e =
      ap length e ∙ length_splice o₀ (range_size * n) (range_size * i) (column_bytes p s (take i L)) (omega (arith, w.room)) (written_first i l)

  -- q is run i
  module _ (i : ℕ) (q : Run) (l : i < length L) (is : get_or L i q ≡ q) where
    pub writable : (o : List ℕ) → Writing o₀ n p s L i o → Writable (length o) (n + i) q
    writable o e = record {
      room = omega (arith, w.room, writing_length i o (omega arith) e);
      fits = rw is at (w.fits i q l);
    }

    pub writing_next : (o o' : List ℕ) → Writing o₀ n p s L i o
        → o' ≡ splice o (range_size * (n + i)) range_size (range_bytes (range_of p s q)) → Writing o₀ n p s L (i + 1) o'
    writing_next o o' e h =
        let u : range_size * (n + i) ≡ range_size * n + range_size * i = omega arith in
        let v : range_size * (i + 1) ≡ range_size * i + range_size = omega arith in
        h ∙ rw (e, u, v, column_more p s i L q l is)
        (splice_more o₀ (range_size * n) (range_size * i) range_size (column_bytes p s (take i L)) (range_bytes (range_of p s q)) (omega (arith, w.room)) (written_first i (omega arith)))

-- ---- all columns

over_is : (l o : List ℕ) → over l o ≡ splice o 0 (length l) l
unfolding over splice
over_is l o = refl

over_more : (X Y o : List ℕ) (a b : ℕ) → length X ≡ a → length Y ≡ b → a ≤ length o → splice (over X o) a b Y ≡ over (X ++ Y) o
over_more X Y o a b p q l =
    let n : length (X ++ Y) ≡ a + b = length-append X Y ∙ ap₂ ◌+◌ p q in
    let z : 0 + a ≡ a = omega arith in
    rw (over_is X o, over_is (X ++ Y) o, n, p) (rw z at (splice_more o 0 a b X Y (omega arith) p))

-- the ranges of the columns below p are written, n of them
pub record Written (r t : List ℕ) (o₀ : List ℕ) (p n : ℕ) (o : List ℕ) : Type 0 where
  pub within : p ≤ columns (device_of r)
  pub few : n ≤ max_runs * p
  pub count : n ≡ length (ranges_below r t p)
  pub bytes : o ≡ over (join_in range_bytes (ranges_below r t p)) o₀

module _ (r t : List ℕ) (g : Given r t) (o₀ : List ℕ) (big : list_room ≤ length o₀) where
  pub written_none : Written r t o₀ 0 0 o₀
  unfolding join_below join_in
  written_none = record { within = omega arith; few = omega arith; count = refl; bytes = sym (splice_none o₀ 0) ∙ sym (over_is [] o₀) }

  pub written_length : (p n : ℕ) (o : List ℕ) → Written r t o₀ p n o → length o ≡ length o₀
  written_length p n o w =
      let l = length_ranges (ranges_below r t p) in
      let c = few_columns r g.sound in
      let f = w.few in
      let m = w.within in
      let k = w.count in
      ap length (w.bytes ∙ over_is (join_in range_bytes (ranges_below r t p)) o₀)
      ∙ length_splice o₀ 0 (length (join_in range_bytes (ranges_below r t p))) (join_in range_bytes (ranges_below r t p)) (omega arith) refl

  -- the ranges of column p are L
  module _ (p n : ℕ) (L : List Run) (x : L ≡ ranges_in (device_of r) (book_of r) t p) (few : length L ≤ max_runs) where
    -- their numbers are small
    small : All IsSmall L
    small =
        let y = runs_lists (step t) (fits (device_of r) (book_of r) t p) (fits_steps (device_of r) (book_of r) t p (some_blocks r t g)) (half_rows (device_of r)) in
        let rows = (limits_to (device_of r) (book_of r) (sound_within r g.sound)).rows in
        ends_all (λ z. z < words) (step t) 0 L (rw x y.canon) (λ z m. omega (arith, (y.named z).0 (rw x at m)))

    module _ (o : List ℕ) (w : Written r t o₀ p n o) (here : p < columns (device_of r)) where
      pub all_writable : AllWritable (length o) n L
      all_writable =
          let c = few_columns r g.sound in
          record {
            room = omega (arith, written_length p n o w, w.few);
            fits = small;
          }

      pub written_next : (s : ℕ) → s ≡ step t → (o' : List ℕ) → o' ≡ splice o (range_size * n) (range_size * length L) (column_bytes p s L)
          → Written r t o₀ (p + 1) (n + length L) o'
      unfolding join_below
      written_next s e o' h =
          let K = ranges_below r t p in
          let M = map (range_of p (step t)) (ranges_in (device_of r) (book_of r) t p) in
          let count : n ≡ length K = w.count in
          let kM : length L ≡ length M = ap length x ∙ sym (length-map (ranges_in (device_of r) (book_of r) t p) (range_of p (step t))) in
          let a : length (join_in range_bytes K) ≡ range_size * n = length_ranges K ∙ ap (λ (z : ℕ). range_size * z) (sym count) in
          let b : length (join_in range_bytes M) ≡ range_size * length L = length_ranges M ∙ ap (λ (z : ℕ). range_size * z) (sym kM) in
          let room : range_size * n ≤ length o₀ = omega (arith, w.few, few_columns r g.sound) in
          let same : column_bytes p s L ≡ join_in range_bytes M = rw (e, x) in
          record {
            within = omega arith;
            few = omega (arith, w.few);
            count = rw (add-one, length-append K M) (omega arith);
            bytes = h ∙ rw (w.bytes, same, add-one, join_append range_bytes K M) (over_more (join_in range_bytes K) (join_in range_bytes M) o₀ (range_size * n) (range_size * length L) a b room);
          }

  -- ---- the answer

  -- list on the book where no position fits
  nowhere : no_position (device_of r) (book_of r) t ≡ true → on_book (device_of r) (book_of r) (list t o₀) ≡ record { answer = neg_ℤ (pos 9); output = o₀; state = book_of r }
  unfolding on_book unless refused refusals lent
  nowhere e = rw (g.sized, g.formed, le-ltb (length o₀) list_room big, e)

  -- a number of ranges is that of the model's
  pub count_is : (n : ℕ) (o : List ℕ) → Answers (Some n) (device_of r) (book_of r) t o₀ o → n ≡ length (ranges (device_of r) (book_of r) t)
  count_is n o h = go (true_or_false (no_position (device_of r) (book_of r) t))
    where
      go : (no_position (device_of r) (book_of r) t ≡ true) ⊎ (no_position (device_of r) (book_of r) t ≡ false) → n ≡ length (ranges (device_of r) (book_of r) t)
      go (inl e) = cc (rw (nowhere e) at h.answer_is)
      go (inr e) = cc (rw (list_done (device_of r) (book_of r) t g.sized g.formed o₀ big e) at h.answer_is)

  whole : (p n : ℕ) (o : List ℕ) → columns (device_of r) ≤ p → Written r t o₀ p n o → ranges_below r t p ≡ ranges (device_of r) (book_of r) t
  unfolding ranges
  whole p n o l w = let e : p ≡ columns (device_of r) = omega (arith, w.within) in rw e

  length_none : (K : List Range) → length K ≡ 0 → K ≡ []
  length_none [] e = refl
  length_none (q ∷ K) e = absurd (omega arith)

  pub answer_none : (p n : ℕ) (o o' : List ℕ) → o' ≡ o → columns (device_of r) ≤ p → Written r t o₀ p n o → n ≡ 0 → Answers None (device_of r) (book_of r) t o₀ o'
  unfolding join_in
  answer_none p n o o' i l w z =
      let e = whole p n o l w in
      let none : ranges_below r t p ≡ [] = length_none (ranges_below r t p) (sym w.count ∙ z) in
      let q = nowhere ((ranges_none_iff (device_of r) (book_of r) t (some_blocks r t g)).0 (sym e ∙ none)) in
      record { answer_is = rw q; output_is = rw q (i ∙ w.bytes ∙ rw none (over_is [] o₀ ∙ splice_none o₀ 0)) }

  pub answer_some : (p n : ℕ) (o o' : List ℕ) → o' ≡ o → columns (device_of r) ≤ p → Written r t o₀ p n o → (n ≡ 0 → ⊥) → Answers (Some n) (device_of r) (book_of r) t o₀ o'
  answer_some p n o o' i l w h =
      let e = whole p n o l w in
      let some = is_false (no_position (device_of r) (book_of r) t) (λ z. h (w.count ∙ ap length (e ∙ (ranges_none_iff (device_of r) (book_of r) t (some_blocks r t g)).1 z))) in
      let q = list_done (device_of r) (book_of r) t g.sized g.formed o₀ big some in
      record { answer_is = rw q (ap pos (w.count ∙ ap length e)); output_is = rw q (i ∙ w.bytes ∙ rw e) }
