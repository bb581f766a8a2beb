-- MODEL 8.4: entries moved by one place: entry by entry, and what the record's bytes are when all are moved. Assumes nothing.
use Rattle.std.specs.Prelude.{ℕ, ◌+◌, ◌-◌, ◌*◌, ◌≤◌, ◌<◌, ◌≡◌, List, ◌++◌, length, get_or, take, drop}
use Rattle.std.specs.List.{CopiedTo, SameBelow, SameFrom}
use Rattle.std.proofs.Common.{refl, sym, ap, ◌∙◌, arith, take-take}
use Rattle.std.proofs.Math.Decide.{dec_lt}
use Rattle.std.proofs.Math.Seq.{drop-drop}
use Rattle.std.proofs.lemmas.List.{drop-take}
use Rattle.model.specs.Limits.{max_running, record_size, entries_at, entry_size}
use Rattle.model.specs.Record.{part, entry_at}
use Rattle.model.specs.Parts.{splice, raised, lowered}
use Rattle.model.specs.InPlace.{Reads}
use Rattle.model.proofs.Laws.Parts.{list_parts, list_is, length_part, get_d_part, part_byte, length_splice, part_splice, part_splice_above, get_d_splice_below, get_d_splice_above, splice_same, splice_more}
use Rattle.model.proofs.Laws.Slots.{raised_low, raised_in, raised_high, lowered_low, lowered_in, lowered_high}
use Rattle.record.specs.Entries.{Moved, Copied}

-- parts whose bytes are the same
part_alike : (r s : List ℕ) (a b n : ℕ) → a + n ≤ length r → b + n ≤ length s → ((i : ℕ) → i < n → get_or s (b + i) 0 ≡ get_or r (a + i) 0) → part s b n ≡ part r a n
part_alike r s a b n p q h = list_is s b n (λ i. get_or r (a + i) 0) 0 q h ∙ list_parts r a n 0 p

-- m bytes from `src` on are copied to `dest`, and all others stay
module _ (r s : List ℕ) (size : length s ≡ length r) (src dest m : ℕ) (on : entries_at ≤ dest) (to : CopiedTo r s src dest m) (below : SameBelow r s dest) (above : SameFrom r s (dest + m)) where
  kept_below : (a n : ℕ) → a + n ≤ dest → dest ≤ length r → part s a n ≡ part r a n
  kept_below a n q l = part_alike r s a a n (omega arith) (omega arith) (λ i p. below (a + i) 0 (omega arith))

  kept_above : (a n : ℕ) → dest + m ≤ a → a + n ≤ length r → part s a n ≡ part r a n
  kept_above a n q l = part_alike r s a a n l (omega arith) (λ i p. above (a + i) 0 (omega arith))

  copied : (a b n : ℕ) → dest ≤ b → b + n ≤ dest + m → a + dest ≡ b + src → a + n ≤ length r → b + n ≤ length r → part s b n ≡ part r a n
  copied a b n p q e l k = part_alike r s a b n l (omega arith) (λ i o. let f : src + (b + i - dest) ≡ a + i = omega arith in rw f at (to (b + i) 0 (omega arith) (omega arith)))

  -- how s is read, but for its entries
  rest_kept : {h : List ℕ} {kinds counts : ℕ → ℕ} {columns entries entries' : ℕ → List ℕ} → Reads r h kinds counts columns entries → dest ≤ length r
      → ((j : ℕ) → j < max_running → part s (entry_at j) entry_size ≡ entries' j) → Reads s h kinds counts columns entries'
  rest_kept x l e = record {
    size = size ∙ x.size;
    head_is = kept_below 0 4 (omega arith) l ∙ x.head_is;
    kind_is = λ c q. below (4 + c) 0 (omega arith) ∙ x.kind_is c q;
    count_is = λ c q. below (68 + c) 0 (omega arith) ∙ x.count_is c q;
    column_is = λ c q. kept_below (132 + 256 * c) 256 (omega arith) l ∙ x.column_is c q;
    entry_is = e;
  }

-- THEOREM: entries k to n - 1 copied one place up
pub raised_within : (r s : List ℕ) (k n src dest m : ℕ) → length r ≡ record_size → length s ≡ length r → k ≤ n → n < max_running
    → src ≡ entry_at k → dest ≡ entry_at k + entry_size → src + m ≡ entry_at n
    → CopiedTo r s src dest m → SameBelow r s dest → SameFrom r s (dest + m) → Moved r s (raised k n)
raised_within r s k n src dest m lr ls p q es ed em to below above = record {
  moved = λ {entries = f} x. rest_kept r s ls src dest m (omega arith) to below above x (omega arith) (λ j o. elim (dec_lt k j) [
    | no a ↦ kept_below r s ls src dest m (omega arith) to below above (entry_at j) entry_size (omega arith) (omega arith) ∙ x.entry_is j o ∙ sym (raised_low k n f j (omega arith))
    | yes a ↦ elim (dec_lt n j) [
      | yes b ↦ kept_above r s ls src dest m (omega arith) to below above (entry_at j) entry_size (omega arith) (omega arith) ∙ x.entry_is j o ∙ sym (raised_high k n f j a b)
      | no b ↦ copied r s ls src dest m (omega arith) to below above (entry_at (j - 1)) (entry_at j) entry_size (omega arith) (omega arith) (omega arith) (omega arith) (omega arith)
          ∙ x.entry_is (j - 1) (omega arith) ∙ sym (raised_in k n f j a (omega arith))
    ]
  ]);
}

-- THEOREM: entries k + 1 to n copied one place down
pub lowered_within : (r s : List ℕ) (k n src dest m : ℕ) → length r ≡ record_size → length s ≡ length r → k ≤ n → n < max_running
    → src ≡ entry_at k + entry_size → dest ≡ entry_at k → dest + m ≡ entry_at n
    → CopiedTo r s src dest m → SameBelow r s dest → SameFrom r s (dest + m) → Moved r s (lowered k n)
lowered_within r s k n src dest m lr ls p q es ed em to below above = record {
  moved = λ {entries = f} x. rest_kept r s ls src dest m (omega arith) to below above x (omega arith) (λ j o. elim (dec_lt j k) [
    | yes a ↦ kept_below r s ls src dest m (omega arith) to below above (entry_at j) entry_size (omega arith) (omega arith) ∙ x.entry_is j o ∙ sym (lowered_low k n f j a)
    | no a ↦ elim (dec_lt j n) [
      | no b ↦ kept_above r s ls src dest m (omega arith) to below above (entry_at j) entry_size (omega arith) (omega arith) ∙ x.entry_is j o ∙ sym (lowered_high k n f j (omega arith) (omega arith))
      | yes b ↦ copied r s ls src dest m (omega arith) to below above (entry_at (j + 1)) (entry_at j) entry_size (omega arith) (omega arith) (omega arith) (omega arith) (omega arith)
          ∙ x.entry_is (j + 1) (omega arith) ∙ sym (lowered_in k n f j (omega arith) b)
    ]
  ]);
}

-- ---- entry by entry

-- none copied
pub copied_none : (r : List ℕ) (src dest m : ℕ) → m ≡ 0 → Copied r r src dest m
copied_none r src dest m z = record { size = refl; to = λ k d p q. absurd (omega arith); below = λ k d p. refl; above = λ k d p. refl }

-- n bytes copied from a to b
pub copied_part : (s t : List ℕ) (a b n : ℕ) → a + n ≤ length s → b + n ≤ length s → t ≡ splice s b n (part s a n) → Copied s t a b n
copied_part s t a b n p q e =
    let v = part s a n in
    let l : length v ≡ n = length_part s a n p in
    record {
      size = ap length e ∙ length_splice s b n v q l;
      to = λ k d x y. rw e (part_byte (splice s b n v) b n k d x y ∙ ap (λ (u : List ℕ). get_or u (k - b) d) (part_splice s b n v q l) ∙ get_d_part s a n (k - b) d (omega arith));
      below = λ k d x. rw e (get_d_splice_below s b n v q l k d x);
      above = λ k d x. rw e (get_d_splice_above s b n v q l k d x);
    }

-- a part of 2 n bytes, its halves
lower_half : (s : List ℕ) (a n : ℕ) → take n (part s a (n + n)) ≡ part s a n
unfolding part
lower_half s a n = take-take n (n + n) (drop a s) (omega arith)

upper_half : (s : List ℕ) (a n : ℕ) → drop n (part s a (n + n)) ≡ part s (a + n) n
unfolding part
upper_half s a n = drop-take n n (drop a s) ∙ ap (take n) (drop-drop n a s)

-- its lower half copied over the upper one
pub lower_copied : (s t p q : List ℕ) (a b n : ℕ) → a + n ≡ b → b + n ≤ length s → p ≡ part s a (n + n) → q ≡ take n p ++ take n p → t ≡ splice s a (n + n) q
    → Copied s t a b n
lower_copied s t p q a b n ab h ep eq et =
    let u = part s a n in
    let e : take n p ≡ u = ap (take n) ep ∙ lower_half s a n in
    let f : q ≡ u ++ u = rw e at eq in
    let more = splice_more s a n n u u (omega arith) (length_part s a n (omega arith)) in
    copied_part s t a b n (omega arith) h (et ∙ ap (splice s a (n + n)) f ∙ (rw ab at (sym more ∙ ap (λ (x : List ℕ). splice x (a + n) n u) (splice_same s a n))))

-- its upper half copied over the lower one
pub upper_copied : (s t p q : List ℕ) (a b n : ℕ) → a + n ≡ b → b + n ≤ length s → p ≡ part s a (n + n) → q ≡ drop n p ++ drop n p → t ≡ splice s a (n + n) q
    → Copied s t b a n
upper_copied s t p q a b n ab h ep eq et =
    let u = part s b n in
    let l : length u ≡ n = length_part s b n h in
    let e : drop n p ≡ u = ap (drop n) ep ∙ (rw ab at (upper_half s a n)) in
    let f : q ≡ u ++ u = rw e at eq in
    let more : splice (splice s a n u) b n u ≡ splice s a (n + n) (u ++ u) = rw ab at (splice_more s a n n u u (omega arith) l) in
    let kept : part (splice s a n u) b n ≡ u = part_splice_above s a n u (omega arith) l b n (omega arith) in
    copied_part s t b a n h (omega arith) (et ∙ ap (splice s a (n + n)) f ∙ sym more ∙ ap (splice (splice s a n u) b n) (sym kept) ∙ splice_same (splice s a n u) b n)

-- n bytes more, in front of those copied up by n
pub copied_up : (r s t : List ℕ) (a b b' c m m' n : ℕ) → b' ≡ b → a + n ≡ b → b + n ≡ c → n + m ≡ m' → Copied r s b' c m → Copied s t a b n → Copied r t a b m'
copied_up r s t a b b' c m m' n bb ab bc mm x y = record {
  size = y.size ∙ x.size;
  to = λ k d p q. elim (dec_lt k c) [
    | yes l ↦ y.to k d p (omega arith) ∙ x.below (a + (k - b)) d (omega arith)
    | no g ↦ let f : b' + (k - c) ≡ a + (k - b) = omega arith in y.above k d (omega arith) ∙ (rw f at (x.to k d (omega arith) (omega arith)))
  ];
  below = λ k d p. y.below k d p ∙ x.below k d (omega arith);
  above = λ k d p. y.above k d (omega arith) ∙ x.above k d (omega arith);
}

-- n bytes more, behind those copied down
pub copied_down : (r s t : List ℕ) (a a' b b' m m' n : ℕ) → b ≤ a → a + m ≡ a' → b + m ≡ b' → m + n ≡ m' → Copied r s a b m → Copied s t a' b' n → Copied r t a b m'
copied_down r s t a a' b b' m m' n h aa bb mm x y = record {
  size = y.size ∙ x.size;
  to = λ k d p q. elim (dec_lt k b') [
    | yes l ↦ y.below k d l ∙ x.to k d p (omega arith)
    | no g ↦ let f : a' + (k - b') ≡ a + (k - b) = omega arith in (rw f at (y.to k d (omega arith) (omega arith))) ∙ x.above (a + (k - b)) d (omega arith)
  ];
  below = λ k d p. y.below k d (omega arith) ∙ x.below k d p;
  above = λ k d p. y.above k d (omega arith) ∙ x.above k d (omega arith);
}
