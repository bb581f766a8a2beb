-- MODEL 12.4 and 12.5: the loops of `cut` and `join`, which read a part from its front, and write another. Assumes nothing.
use Rattle.std.proofs.Common.{ℕ, suc, ◌+◌, ◌-◌, ◌*◌, ◌≤◌, ◌<◌, min, max, ◌≡◌, refl, List, [], ◌∷◌, ◌++◌, length, replicate, sym, ap, ◌∙◌, append_assoc, append-nil, arith, length-append, lt-ltb, le-ltb}
use Rattle.std.proofs.Math.Decide.{dec_lt}
use Rattle.runs.specs.Intervals.{Interval, interval, Apart, piece, subtract, unite}
use Rattle.runs.specs.Laws.Streaming.{piece_some, piece_none, piece_append, unite_before}
use Rattle.model.specs.Limits.{max_intervals, column_size, interval_size}
use Rattle.model.specs.Record.{bytes16, interval_bytes, column_part}
use Rattle.model.specs.Parts.{splice}
use Rattle.model.proofs.Laws.Parts.{splice_more}
use Rattle.model.proofs.Laws.Record.{length_column}
use Rattle.model.proofs.Laws.Slots.{slots_nil}
use Rattle.model.proofs.Laws.ColumnPart.{column_push}
use Rattle.column.specs.declared.Interval.{Interval as Read}
use Rattle.column.specs.Part.{listed_from, listed_in, ReadAt, Holding, Wrote, Joinable, Short, sent, carried, merged, Absorbed}
use Rattle.column.specs.Laws.Reading.{listed_all, listed_end, listed_next}

-- ---- what `push` and `keep` write

-- two numbers put one after the other behind the n intervals that are there
pub wrote_one : {o o' q : List ℕ} {n b t : ℕ} → n < max_intervals → length o ≡ column_size
    → o' ≡ splice o (interval_size * n) 2 (bytes16 b) → q ≡ splice o' (interval_size * n + 2) 2 (bytes16 t) → Wrote o n (interval b t ∷ []) q (n + 1)
unfolding interval_bytes
wrote_one {o} {o'} {q} {n} {b} {t} few size e f = record {
  wrote = λ K h. record {
    bytes_are = two ∙ (rw (h.bytes_are, h.count_is) (column_push K (interval b t) (rw h.count_is at few)));
    count_is = rw length-append (omega (arith, h.count_is));
  };
}
  where
    two : q ≡ splice o (interval_size * n) interval_size (interval_bytes (interval b t))
    two = rw (f, e) (splice_more o (interval_size * n) 2 2 (bytes16 b) (bytes16 t) (omega arith) (unfold bytes16 in refl))

pub wrote_piece : {o q : List ℕ} {n r b t : ℕ} → b < t → Wrote o n (interval b t ∷ []) q r → Wrote o n (piece b t []) q r
wrote_piece {b = b} {t = t} h w = rw (piece_some b t [] h) w

pub wrote_none : {o : List ℕ} {n b t : ℕ} → t ≤ b → Wrote o n (piece b t []) o n
wrote_none {b = b} {t = t} h = rw (piece_none b t [] h) (record { wrote = λ K w. rw append-nil w })

-- ---- G is to be written: the part o holds its first n, and `rest` is to come

pub record Writing (G : List Interval) (o : List ℕ) (n : ℕ) (rest : List Interval) : Type 0 where
  pub written : List Interval
  pub holds : Holding o n written
  pub whole : G ≡ written ++ rest

pub start : {G : List Interval} {o : List ℕ} {n : ℕ} → Holding o n [] → Writing G o n G
start h = record { written = []; holds = h; whole = refl }

pub on : {G E R : List Interval} {o q : List ℕ} {n r : ℕ} → Writing G o n (E ++ R) → Wrote o n E q r → Writing G q r R
on {E = E} {R = R} w e =
    record { written = w.written ++ E; holds = e.wrote w.written w.holds; whole = w.whole ∙ sym (append_assoc w.written E R) }

pub size : {G R : List Interval} {o : List ℕ} {n : ℕ} → Writing G o n R → length o ≡ column_size
size w = ap length w.holds.bytes_are ∙ length_column w.written

-- room for one more
pub room : {G R : List Interval} {o : List ℕ} {n m : ℕ} → Writing G o n R → length G ≤ m → 1 ≤ length R → n < m
room {R = R} w h k = omega (arith, w.holds.count_is, ap length w.whole, length-append w.written R)

pub all_done : {G : List Interval} {o : List ℕ} {n : ℕ} → Writing G o n [] → Holding o n G
all_done w = let e = w.whole ∙ append-nil w.written in rw e w.holds

-- the part of no intervals is zeros
pub zeros : Holding (replicate column_size 0) 0 []
unfolding column_part
zeros = record { bytes_are = sym (slots_nil max_intervals interval_size); count_is = refl }

-- ---- `cut`

pub cut_next : {G : List Interval} {p o : List ℕ} {i n c : ℕ} {x : Read} (b t : ℕ) {lo hi : ℕ} → Writing G o c (subtract b t (listed_from p i (n - i)))
    → i < n → ReadAt p i x → hi ≡ min x.top b → lo ≡ max x.bottom t
    → Writing G o c (piece x.bottom hi [] ++ (piece lo x.top [] ++ subtract b t (listed_from p (i + 1) (n - (i + 1)))))
unfolding subtract
cut_next {p = p} {i = i} {n = n} {x = x} b t {lo} {hi} w q r e f =
    let R = subtract b t (listed_from p (i + 1) (n - (i + 1))) in
    let two : subtract b t (listed_from p i (n - i)) ≡ piece x.bottom hi [] ++ (piece lo x.top [] ++ R) =
    rw (listed_next q r, ← e, ← f) (sym (rw (piece_append lo x.top [] R) (piece_append x.bottom hi [] (piece lo x.top R)))) in
    rw two at w

pub cut_start : {o : List ℕ} {c : ℕ} (b t : ℕ) (p : List ℕ) (n : ℕ) → Holding o c [] → Writing (subtract b t (listed_in p n)) o c (subtract b t (listed_from p 0 (n - 0)))
cut_start b t p n h = rw (← listed_all p n) (start h)

pub cut_end : {o : List ℕ} {i n r : ℕ} (b t : ℕ) (p : List ℕ) → n ≤ i → Writing (subtract b t (listed_in p n)) o r (subtract b t (listed_from p i (n - i)))
    → Holding o r (subtract b t (listed_in p n))
unfolding subtract
cut_end b t p h w = all_done (rw (listed_end p h) at w)

pub keep_room : {G : List Interval} {o : List ℕ} {n m : ℕ} (a b : ℕ) (R : List Interval) → Writing G o n (piece a b [] ++ R) → length G ≤ m → a < b → n < m
keep_room a b R w h k = room w h (rw (piece_some a b [] k) (omega arith))

-- ---- `join`, one interval after the other

-- an interval that stands before all of L is put before L
unite_first : (b t : ℕ) (L : List Interval) → b < t → Apart (suc t) L → unite b t L ≡ interval b t ∷ L
unfolding unite
unite_first b t [] p c = refl
unite_first b t (i ∷ L) p c = unite_before b t i L (omega arith) (omega arith)

-- on a canonical list that is `unite`
merged_unite : (b t m : ℕ) (L : List Interval) → Apart m L → merged b t L ≡ unite b t L
unfolding merged sent carried unite
merged_unite b t m [] c = refl
merged_unite b t m (i ∷ L) c =
    let rest : (x y : ℕ) → merged x y L ≡ unite x y L = λ x y. merged_unite x y (suc i.top) L c.2 in
    elim (dec_lt i.top b) [
      | yes h ↦ rw (lt-ltb i.top b h) (ap (λ (l : List Interval). i ∷ l) (rest b t))
      | no h ↦ rw (le-ltb i.top b (omega arith)) (elim (dec_lt t i.bottom) [
        | yes k ↦ rw (lt-ltb t i.bottom k)
            (ap (λ (l : List Interval). interval b t ∷ l) (rest i.bottom i.top ∙ unite_first i.bottom i.top L c.1 c.2))
        | no k ↦ rw (le-ltb t i.bottom (omega arith)) (rest (min b i.bottom) (max t i.top))
      ])
    ]

merged_some : (b t : ℕ) (L : List Interval) → 1 ≤ length (merged b t L)
unfolding merged
merged_some b t [] = omega arith
merged_some b t (i ∷ L) = rw length-append (omega (arith, merged_some (carried b t i).bottom (carried b t i).top L))

pub join_start : {o : List ℕ} {b t c : ℕ} {p : List ℕ} {n : ℕ} → Joinable b t p n → Holding o c [] → Writing (unite b t (listed_in p n)) o c (merged b t (listed_from p 0 (n - 0)))
join_start {b = b} {t = t} {p = p} {n = n} j h = rw (← listed_all p n, merged_unite b t 0 (listed_in p n) j.canon) (start h)

pub join_next : {G : List Interval} {p o o' : List ℕ} {i n m m' : ℕ} {x c c' : Read} → i < n → ReadAt p i x
    → Writing G o m (merged c.bottom c.top (listed_from p i (n - i))) → Absorbed o m c x o' m' c'
    → Writing G o' m' (merged c'.bottom c'.top (listed_from p (i + 1) (n - (i + 1))))
unfolding merged
join_next {p = p} {i = i} {n = n} q r w a =
    let L = listed_from p (i + 1) (n - (i + 1)) in
    rw (ap (λ (c : Interval). merged c.bottom c.top L) a.carries) (on (rw (listed_next q r) at w) a.wrote)

pub join_room : {G : List Interval} {o : List ℕ} {n m : ℕ} (b t : ℕ) (L : List Interval) → Writing G o n (merged b t L) → length G ≤ m → n < m
join_room b t L w h = room w h (merged_some b t L)

pub join_end : {G : List Interval} {o q : List ℕ} {i n c r : ℕ} (b t : ℕ) (p : List ℕ) → n ≤ i
    → Writing G o c (merged b t (listed_from p i (n - i))) → Wrote o c (interval b t ∷ []) q r → Holding q r G
unfolding merged
join_end b t p h w e = all_done (on (rw (listed_end p h) at w) e)

module _ {o q : List ℕ} {n m : ℕ} (c x : Read) where
  pub absorbed_below : x.top < c.bottom → Wrote o n (interval x.bottom x.top ∷ []) q m → Short c → Absorbed o n c x q m c
  unfolding sent carried
  absorbed_below h w s = record { wrote = rw (lt-ltb x.top c.bottom h) w; carries = rw (lt-ltb x.top c.bottom h); short = s }

  pub absorbed_above : c.bottom ≤ x.top → c.top < x.bottom → Wrote o n (interval c.bottom c.top ∷ []) q m → Short x → Absorbed o n c x q m x
  unfolding sent carried
  absorbed_above g h w s =
      record { wrote = rw (le-ltb x.top c.bottom g, lt-ltb c.top x.bottom h) w; carries = rw (le-ltb x.top c.bottom g, lt-ltb c.top x.bottom h); short = s }

pub absorbed_met : {o : List ℕ} {n : ℕ} (c x r : Read) → c.bottom ≤ x.top → x.bottom ≤ c.top → r.bottom ≡ min c.bottom x.bottom → r.top ≡ max c.top x.top
    → Short c → Short x → Absorbed o n c x o n r
unfolding sent carried
absorbed_met c x r g h e f s t = record {
  wrote = rw (le-ltb x.top c.bottom g, le-ltb c.top x.bottom h) (record { wrote = λ K w. rw append-nil w });
  carries = rw (le-ltb x.top c.bottom g, le-ltb c.top x.bottom h, e, f);
  short = record { bottom = omega arith; top = omega arith };
}
