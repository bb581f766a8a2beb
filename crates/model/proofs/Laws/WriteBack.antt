-- MODEL 8.7 and 9.9: what bytes say, written again, gives these bytes. A number of two bytes, an entry, a column's part. Assumes nothing.
use Rattle.std.specs.Prelude.{ℕ, ◌+◌, ◌-◌, ◌*◌, ◌/◌, ◌≤◌, ◌<◌, ◌≡◌, refl, ◌⊎◌, List, [], ◌∷◌, ◌++◌, map, length, get_or, replicate}
use Rattle.std.proofs.Common.{sym, ap, ap₂, ◌∙◌, inl, inr, arith, zero-add, ext_get_or}
use Rattle.std.proofs.lemmas.List.{length-map, length-replicate, get_or-replicate}
use Rattle.std.proofs.Math.ListN.{get_or-eq_default}
use Rattle.runs.specs.Intervals.{Interval, interval}
use Rattle.runs.specs.Laws.Tests.{lt_or_ge}
use Rattle.model.specs.Limits.{max_columns, max_intervals, max_blocks, block_size, record_size, column_size, interval_size, entry_size, blocks_at}
use Rattle.model.specs.Tasks.{word, blocks}
use Rattle.model.specs.Record.{bytes16, padded, slot, interval_bytes, entry_bytes, column_part, part, column_at, running_of, listed_intervals}
use Rattle.model.specs.Sound.{count_of}
use Rattle.model.proofs.Laws.Parts.{length_part, get_d_part, part_part, part_add, part_all, part_grow, part_one, get_d_list, length_list}
use Rattle.model.proofs.Laws.Slots.{padded_is, padded_full, slot_map, slot_out, slots_are}
use Rattle.model.proofs.Laws.Clauses.{Zero}

-- each is a byte
abbrev pub Bytes : List ℕ → Type 0
Bytes r = (i : ℕ) → get_or r i 0 < 256

-- two bytes
pub two_bytes : (r : List ℕ) (i : ℕ) → i + 2 ≤ length r → part r i 2 ≡ get_or r i 0 ∷ get_or r (i + 1) 0 ∷ []
two_bytes r i h = part_grow r i 1 0 (omega arith) ∙ ap (λ (l : List ℕ). l ++ (get_or r (i + 1) 0 ∷ [])) (part_one r i 0 (omega arith))

-- a two-byte number
pub word_again : (r : List ℕ) (i : ℕ) → Bytes r → i + 2 ≤ length r → bytes16 (word r i) ≡ part r i 2
unfolding bytes16 word
word_again r i B h =
    let low = B i in
    let high = B (i + 1) in
    ap₂ (λ (x y : ℕ). x ∷ y ∷ []) (omega arith) (omega arith) ∙ sym (two_bytes r i h)

-- zeros
pub zero_part : (r : List ℕ) (a n : ℕ) → a + n ≤ length r → Zero r a (a + n) → part r a n ≡ replicate n 0
zero_part r a n h z =
    let l = length_part r a n h in
    ext_get_or 0 (part r a n) (replicate n 0) (l ∙ sym (length-replicate n 0))
    (λ i q. let p : i < n = omega arith in get_d_part r a n i 0 p ∙ z (a + i) (omega arith) (omega arith) ∙ sym (get_or-replicate n i 0 0 p))

-- bytes that end in zeros
padded_again : (p : List ℕ) (n m : ℕ) → length p ≡ n → m ≤ n → Zero p m n → padded n (part p 0 m) ≡ p
padded_again p n m l h z =
    let k = length_part p 0 m (omega arith) in
    let e : m + (n - m) ≡ n = omega arith in
    padded_is n (part p 0 m) (omega arith)
    ∙ (rw (k, ← zero_part p m (n - m) (omega arith) (rw e z)) (sym (rw zero-add at (part_add p 0 m (n - m)))))
    ∙ part_all p (m + (n - m)) (omega arith)

-- a part of bytes
pub bytes_part : (r : List ℕ) (a n : ℕ) → a + n ≤ length r → Bytes r → Bytes (part r a n)
bytes_part r a n h B i = go (lt_or_ge i n)
  where
    go : (i < n) ⊎ (n ≤ i) → get_or (part r a n) i 0 < 256
    go (inl p) = omega (arith, get_d_part r a n i 0 p, B (a + i))
    go (inr p) = let out : length (part r a n) ≤ i = omega (arith, length_part r a n h) in omega (arith, get_or-eq_default (part r a n) 0 out)

-- an entry
pub entry_again : (p : List ℕ) → Bytes p → length p ≡ entry_size → get_or p 3 0 ≤ max_blocks → Zero p (blocks_at + block_size * get_or p 3 0) entry_size
    → padded entry_size (entry_bytes (running_of p)) ≡ p
unfolding entry_bytes running_of blocks
entry_again p B l h z =
    let m = block_size * get_or p 3 0 in
    let k = length_part p blocks_at m (omega arith) in
    let e : length (part p blocks_at m) / block_size ≡ get_or p 3 0 = omega arith in
    rw (
      e,
      word_again p 0 B (omega arith),
      word_again p 4 B (omega arith),
      ← two_bytes p 2 (omega arith),
      ← part_add p 0 2 2,
      ← part_add p 0 4 2,
      ← part_add p 0 blocks_at m,
    )
    (padded_again p entry_size (blocks_at + m) l (omega arith) z)

-- interval i of column c, as its bytes say it
abbrev pub said : List ℕ → ℕ → ℕ → Interval
said r c i = interval (word r (column_at c + interval_size * i)) (word r (column_at c + interval_size * i + 2))

-- how many are listed
pub count_listed : (r : List ℕ) (c : ℕ) → length (listed_intervals r c) ≡ count_of r c
unfolding listed_intervals
count_listed r c = length_list (said r c) (count_of r c)

-- a column's part
pub column_again : (r : List ℕ) (c : ℕ) → Bytes r → length r ≡ record_size → c < max_columns → count_of r c ≤ max_intervals
    → Zero r (column_at c + interval_size * count_of r c) (column_at c + column_size) → part r (column_at c) column_size ≡ column_part (listed_intervals r c)
unfolding column_part listed_intervals interval_bytes bytes16
column_again r c B l h few z =
    slots_are (part r (column_at c) column_size) max_intervals interval_size (map interval_bytes (listed_intervals r c)) (length_part r (column_at c) column_size (omega arith))
    (λ i q. part_part r (column_at c) column_size (interval_size * i) interval_size (omega arith) ∙ place i q (lt_or_ge i (count_of r c)))
  where
    n : length (map interval_bytes (listed_intervals r c)) ≡ count_of r c
    n = length-map (listed_intervals r c) interval_bytes ∙ count_listed r c

    place : (i : ℕ) → i < max_intervals → (i < count_of r c) ⊎ (count_of r c ≤ i)
        → part r (column_at c + interval_size * i) interval_size ≡ slot interval_size (map interval_bytes (listed_intervals r c)) i
    place i q (inl p) =
        let a = column_at c + interval_size * i in
        part_add r a 2 2
        ∙ ap₂ ◌++◌ (sym (word_again r a B (omega arith))) (sym (word_again r (a + 2) B (omega arith)))
        ∙ sym (
        slot_map interval_size interval_bytes (listed_intervals r c) i (said r c i) (omega (arith, count_listed r c))
        ∙ ap (λ (x : Interval). padded interval_size (interval_bytes x)) (get_d_list (said r c) (count_of r c) i (said r c i) p)
        ∙ padded_full interval_size (interval_bytes (said r c i)) refl
        )
    place i q (inr p) =
        zero_part r (column_at c + interval_size * i) interval_size (omega arith) (λ k a e. z k (omega arith) (omega arith))
        ∙ sym (slot_out interval_size (map interval_bytes (listed_intervals r c)) i (omega (arith, n)))
