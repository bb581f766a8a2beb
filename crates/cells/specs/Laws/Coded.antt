-- A column's part is the two-byte numbers of its intervals' ends, one after the other, and then zeros. Assumes nothing.
use Rattle.std.specs.Prelude.{ℕ, zero, suc, ◌+◌, ◌-◌, ◌*◌, ◌/◌, ◌%◌, ◌<◌, ◌≡◌, refl, List, [], ◌∷◌, ◌++◌, map, length, get_or, replicate}
use Rattle.std.proofs.Common.{sym, ap, ◌∙◌, append_assoc, arith, length-append, ext_get_or, get_or-append-add}
use Rattle.std.proofs.lemmas.List.{length-map}
use Rattle.std.proofs.Math.ListN.{get_or-append}
use Rattle.std.proofs.Math.Seq.{take-append_seam, drop-append_seam}
use Rattle.runs.specs.Intervals.{Interval}
use Rattle.model.specs.Limits.{max_intervals, column_size, interval_size}
use Rattle.model.specs.Record.{bytes16, interval_bytes, padded, slot, column_part}
use Rattle.model.specs.Parts.{splice}
use Rattle.model.proofs.Laws.Parts.{part_byte}
use Rattle.model.proofs.Laws.Bounded.{map_append}
use Rattle.model.proofs.Laws.Slots.{length_padded, get_d_padded, padded_by, part_slots}
use Rattle.model.proofs.Laws.Record.{length_column}
use Rattle.model.proofs.Laws.Cells.{scaled}
use Rattle.cells.specs.Ends.{ends, coded, SmallEnds, numbered}

pub length_coded : (L : List ℕ) → length (coded L) ≡ 2 * length L
length_coded [] = refl
length_coded (k ∷ L) = omega (arith, length_coded L)

-- ---- the part, byte by byte

coded_ends : (i : Interval) (L : List Interval) → coded (ends (i ∷ L)) ≡ interval_bytes i ++ coded (ends L)
unfolding interval_bytes bytes16
coded_ends i L = refl

four : (i : Interval) → length (interval_bytes i) ≡ interval_size
unfolding interval_bytes bytes16
four i = refl

ends_byte : (L : List Interval) (i r : ℕ) → r < interval_size → get_or (get_or (map interval_bytes L) i []) r 0 ≡ get_or (coded (ends L)) (interval_size * i + r) 0
ends_byte [] i r q = refl
ends_byte (x ∷ L) zero r q =
    let e : interval_size * 0 + r ≡ r = omega arith in
    rw (coded_ends x L, e) (sym (get_or-append (interval_bytes x) (coded (ends L)) 0 r (omega (arith, four x))))
ends_byte (x ∷ L) (suc i) r q =
    let e : interval_size * suc i + r ≡ interval_size + (interval_size * i + r) = omega arith in
    let f = rw (four x) at (get_or-append-add (interval_bytes x) (coded (ends L)) (interval_size * i + r) 0) in
    rw (coded_ends x L, e) (ends_byte L i r q ∙ sym f)

-- byte j of a part
pub column_byte : (L : List Interval) (j : ℕ) → j < column_size → get_or (column_part L) j 0 ≡ get_or (coded (ends L)) j 0
unfolding column_part slot
column_byte L j q =
    let i = j / interval_size in
    let e : interval_size * i + (j - interval_size * i) ≡ j = omega arith in
    part_byte (column_part L) (interval_size * i) interval_size j 0 (omega arith) (omega arith)
    ∙ ap (λ (l : List ℕ). get_or l (j - interval_size * i) 0) (part_slots max_intervals interval_size (map interval_bytes L) i (omega arith))
    ∙ get_d_padded interval_size (get_or (map interval_bytes L) i []) (j - interval_size * i) (omega arith)
    ∙ ends_byte L i (j - interval_size * i) (omega arith)
    ∙ ap (λ (k : ℕ). get_or (coded (ends L)) k 0) e

-- ---- the part of intervals of cells of height h

pub ends_scaled : (h : ℕ) (L : List Interval) → ends (map (scaled h) L) ≡ map (λ k. h * k) (ends L)
ends_scaled h [] = refl
ends_scaled h (i ∷ L) = ap (λ (l : List ℕ). h * i.bottom ∷ h * i.top ∷ l) (ends_scaled h L)

pub ends_length : (L : List Interval) → length (ends L) ≡ 2 * length L
ends_length [] = refl
ends_length (i ∷ L) = omega (arith, ends_length L)

-- ---- the part as it is written

-- THEOREM: a column's part is the numbers of its ends
pub column_numbered : (h : ℕ) (L : List Interval) → column_part (map (scaled h) L) ≡ numbered h (ends L)
unfolding numbered
column_numbered h L =
    let l = coded (map (λ k. h * k) (ends L)) in
    ext_get_or 0 (column_part (map (scaled h) L)) (padded column_size l) (length_column (map (scaled h) L) ∙ sym (length_padded column_size l))
    (λ j q. let s : j < column_size = omega (arith, length_column (map (scaled h) L)) in
    column_byte (map (scaled h) L) j s ∙ ap (λ (e : List ℕ). get_or (coded e) j 0) (ends_scaled h L) ∙ sym (get_d_padded column_size l j s))

coded_append : (K L : List ℕ) → coded (K ++ L) ≡ coded K ++ coded L
coded_append [] L = refl
coded_append (k ∷ K) L = ap (λ (l : List ℕ). k % 256 ∷ k / 256 % 256 ∷ l) (coded_append K L)

-- two bytes put behind those of l
padded_push : (l v : List ℕ) (m : ℕ) → length v ≡ 2 → splice (padded (length l + suc (suc m)) l) (length l) 2 v ≡ padded (length l + suc (suc m)) (l ++ v)
unfolding splice
padded_push l v m e =
    let f : length (l ++ v) + m ≡ length l + suc (suc m) = rw length-append (omega arith) in
    rw (padded_by l (suc (suc m)), take-append_seam l (replicate (suc (suc m)) 0), drop-append_seam l (replicate (suc (suc m)) 0))
    (sym (append_assoc l v (replicate m 0)) ∙ sym (rw f at (padded_by (l ++ v) m)))

-- one more number
pub numbered_push : (h : ℕ) (K : List ℕ) (k : ℕ) → length K < 2 * max_intervals → splice (numbered h K) (2 * length K) 2 (bytes16 (h * k)) ≡ numbered h (K ++ (k ∷ []))
unfolding numbered bytes16
numbered_push h K k q =
    let l = coded (map (λ x. h * x) K) in
    let e : length l ≡ 2 * length K = length_coded (map (λ x. h * x) K) ∙ ap (λ (n : ℕ). 2 * n) (length-map K (λ x. h * x)) in
    let m = column_size - 2 - length l in
    let f : length l + suc (suc m) ≡ column_size = omega arith in
    let g : coded (map (λ x. h * x) (K ++ (k ∷ []))) ≡ l ++ (h * k % 256 ∷ h * k / 256 % 256 ∷ []) =
    ap coded (map_append (λ x. h * x) K (k ∷ [])) ∙ coded_append (map (λ x. h * x) K) (h * k ∷ []) in
    rw (← e, g) (rw f at (padded_push l (h * k % 256 ∷ h * k / 256 % 256 ∷ []) m refl))

pub numbered_length : (h : ℕ) (L : List ℕ) → length (numbered h L) ≡ column_size
unfolding numbered
numbered_length h L = length_padded column_size (coded (map (λ k. h * k) L))

pub small_append : (h : ℕ) (K L : List ℕ) → SmallEnds h (K ++ L) → SmallEnds h K × SmallEnds h L
small_append h [] L s = (tt, s)
small_append h (k ∷ K) L s = let (a, b) = small_append h K L s.1 in ((s.0, a), b)
