-- The laws of `padded`, and of places of one size that hold pieces one after the other and then zeros (MODEL 8.5). Assumes nothing.
use Rattle.std.specs.Prelude.{ℕ, zero, suc, ◌+◌, ◌-◌, ◌*◌, ◌≤◌, ◌<◌, ◌≡◌, refl, get_or, take, replicate}
use Rattle.std.proofs.Math.Path.{sym, ap}
use Rattle.std.proofs.Common.{◌∙◌, arith, zero-add, add_comm, zero-mul, length-append, length-take-le, take_all, take_at, get_or-take, get_or-drop, get_or-append-add}
use mathlib.Core.List.{List, [], ◌∷◌, ◌++◌, map}
use Rattle.std.proofs.Math.Nat.{add-zero}
use Rattle.std.proofs.Math.Decide.{dec_lt, ℕ_discrete}
use borrow.Author.Tests.{lt-ltb, le-ltb, le-leb, lt-leb}
use Rattle.std.proofs.Math.ListN.{length, drop, get_or-eq_default, get_or-append}
use Rattle.std.proofs.lemmas.List.{length-replicate, replicate-append-replicate}
use Rattle.std.proofs.Math.Seq.{get_or-append_seam, take-append-add}
use Rattle.model.specs.Bounded.{join_below}
use Rattle.model.specs.Record.{part, padded, slot, slots}
use Rattle.model.specs.Parts.{splice, raised, lowered}
use Rattle.model.proofs.Laws.Changed.{changed, changed_same, changed_other}
use Rattle.model.proofs.Laws.Parts.{join_cong, part_part, part_left, part_join, length_join}
use Rattle.model.proofs.Laws.Tables.{splice_join, table_is}

-- ---- padded

-- always n bytes
pub length_padded : (n : ℕ) (l : List ℕ) → length (padded n l) ≡ n
unfolding padded
length_padded n l = length-take-le n (l ++ replicate n 0) (rw length-append (omega (arith, length-replicate {A = ℕ} n 0)))

-- as long as l fits, nothing is cut
pub padded_by : (l : List ℕ) (m : ℕ) → padded (length l + m) l ≡ l ++ replicate m 0
unfolding padded
padded_by l m =
    take-append-add l (replicate (length l + m) 0) m
    ∙ ap (λ r. l ++ r) (rw (add_comm (length l) m, ← replicate-append-replicate {A = ℕ} m (length l) 0) (take_at (replicate m 0) (replicate (length l) 0) m (length-replicate m 0)))

-- the bytes of l, and zeros up to n
pub padded_is : (n : ℕ) (l : List ℕ) → length l ≤ n → padded n l ≡ l ++ replicate (n - length l) 0
padded_is n l h = let e : length l + (n - length l) ≡ n = omega arith in rw e at (padded_by l (n - length l))

-- n bytes need no zeros
pub padded_full : (n : ℕ) (l : List ℕ) → length l ≡ n → padded n l ≡ l
unfolding padded
padded_full n l h = take_at l (replicate n 0) n h

-- no bytes: all zeros
pub padded_nil : (n : ℕ) → padded n [] ≡ replicate n 0
unfolding padded
padded_nil n = take_all n (replicate n 0) (omega (arith, length-replicate {A = ℕ} n 0))

get_d_zeros : (l : List ℕ) (n i : ℕ) → get_or (l ++ replicate n 0) i 0 ≡ get_or l i 0
get_d_zeros [] zero i = refl
get_d_zeros [] (suc n) zero = refl
get_d_zeros [] (suc n) (suc i) = get_d_zeros [] n i
get_d_zeros (x ∷ xs) n zero = refl
get_d_zeros (x ∷ xs) n (suc i) = get_d_zeros xs n i

-- each byte is that of l, and 0 past its end
pub get_d_padded : (n : ℕ) (l : List ℕ) (i : ℕ) → i < n → get_or (padded n l) i 0 ≡ get_or l i 0
unfolding padded
get_d_padded n l i h = get_or-take n (l ++ replicate n 0) i 0 h ∙ get_d_zeros l n i

-- a part of the bytes of l
pub part_padded : (n : ℕ) (l : List ℕ) (at m : ℕ) → at + m ≤ length l → at + m ≤ n → part (padded n l) at m ≡ part l at m
unfolding padded part
part_padded n l at m p q = (rw zero-add at (part_part (l ++ replicate n 0) 0 n at m q)) ∙ part_left l (replicate n 0) at m p

-- ---- places

-- each place has k bytes, and n places have n * k
pub length_slot : (k : ℕ) (ps : List (List ℕ)) (i : ℕ) → length (slot k ps i) ≡ k
unfolding slot
length_slot k ps i = length_padded k (get_or ps i [])

pub length_slots : (n k : ℕ) (ps : List (List ℕ)) → length (slots n k ps) ≡ n * k
unfolding slots
length_slots n k ps = length_join (slot k ps) k n (λ i q. length_slot k ps i)

-- place i stands at k * i
pub part_slots : (n k : ℕ) (ps : List (List ℕ)) (i : ℕ) → i < n → part (slots n k ps) (k * i) k ≡ slot k ps i
unfolding slots
part_slots n k ps i q = part_join (slot k ps) k n i (λ i q. length_slot k ps i) q

-- what has the places one by one has them all
pub slots_are : (r : List ℕ) (n k : ℕ) (ps : List (List ℕ)) → length r ≡ n * k → ((i : ℕ) → i < n → part r (k * i) k ≡ slot k ps i) → r ≡ slots n k ps
unfolding slots
slots_are r n k ps l h = table_is r k n (slot k ps) l h

-- past the last piece
pub slot_out : (k : ℕ) (ps : List (List ℕ)) (i : ℕ) → length ps ≤ i → slot k ps i ≡ replicate k 0
unfolding slot
slot_out k ps i h = rw (get_or-eq_default ps [] h) (padded_nil k)

-- the piece made from element i of l
pub slot_map {ℓ} : {A : Type ℓ} (k : ℕ) (f : A → List ℕ) (l : List A) (i : ℕ) (d : A) → i < length l → slot k (map f l) i ≡ padded k (f (get_or l i d))
unfolding slot
slot_map {A} k f l i d q = ap (padded k) (go l i q)
  where
    go : (l : List A) (i : ℕ) → i < length l → get_or (map f l) i [] ≡ f (get_or l i d)
    go [] i q = absurd (omega arith)
    go (x ∷ xs) zero q = refl
    go (x ∷ xs) (suc i) q = go xs i (omega arith)

-- no pieces: all zeros
pub slots_nil : (n k : ℕ) → slots n k [] ≡ replicate (n * k) 0
unfolding slots join_below
slots_nil zero k = rw zero-mul
slots_nil (suc n) k =
    let e : suc n * k ≡ n * k + k = omega arith in
    rw (slots_nil n k, slot_out k [] n (omega arith), e) (replicate-append-replicate (n * k) k 0)

-- ---- a piece put in, and taken out

module _ {ℓ} {A : Type ℓ} where
  module _ (i n : ℕ) (f : ℕ → A) (j : ℕ) where
    -- below i, between, and above n
    pub raised_low : j ≤ i → raised i n f j ≡ f j
    unfolding raised
    raised_low p = rw (le-ltb i j p)

    pub raised_in : i < j → j ≤ n → raised i n f j ≡ f (j - 1)
    unfolding raised
    raised_in p q = rw (lt-ltb i j p, le-leb j n q)

    pub raised_high : i < j → n < j → raised i n f j ≡ f j
    unfolding raised
    raised_high p q = rw (lt-ltb i j p, lt-leb j n q)

    -- the same three cases
    pub lowered_low : j < i → lowered i n f j ≡ f j
    unfolding lowered
    lowered_low p = rw (lt-ltb j i p)

    pub lowered_in : i ≤ j → j < n → lowered i n f j ≡ f (j + 1)
    unfolding lowered
    lowered_in p q = rw (le-ltb j i p, lt-ltb j n q)

    pub lowered_high : i ≤ j → n ≤ j → lowered i n f j ≡ f j
    unfolding lowered
    lowered_high p q = rw (le-ltb j i p, le-ltb j n q)

  get_d_front : (l m : List A) (i j : ℕ) (d : A) → i ≤ length l → j < i → get_or (take i l ++ m) j d ≡ get_or l j d
  get_d_front l m i j d h q = get_or-append (take i l) m d j (omega (arith, length-take-le i l h)) ∙ get_or-take i l j d q

  get_d_back : (l m : List A) (i j : ℕ) (d : A) → i ≤ length l → get_or (take i l ++ m) (i + j) d ≡ get_or m j d
  get_d_back l m i j d h = rw (length-take-le i l h) at (get_or-append-add (take i l) m j d)

module _ (k : ℕ) (ps : List (List ℕ)) (i : ℕ) where
  slot_front : (m : List (List ℕ)) (j : ℕ) → i ≤ length ps → j < i → slot k (take i ps ++ m) j ≡ slot k ps j
  unfolding slot
  slot_front m j h q = ap (padded k) (get_d_front ps m i j [] h q)

  slot_back : (m : List (List ℕ)) (j : ℕ) → i ≤ length ps → slot k (take i ps ++ m) (i + j) ≡ slot k m j
  unfolding slot
  slot_back m j h = ap (padded k) (get_d_back ps m i j [] h)

  slot_drop : (j : ℕ) → slot k (drop i ps) j ≡ slot k ps (i + j)
  unfolding slot
  slot_drop j = ap (padded k) (get_or-drop i ps j [])

  -- a piece put in at i: the later ones stand one place higher
  pub slot_insert : (x : List ℕ) (j : ℕ) → i ≤ length ps → slot k (take i ps ++ x ∷ drop i ps) j ≡ changed (raised i (length ps) (slot k ps)) i (padded k x) j
  unfolding slot
  slot_insert x j h =
      let n = length ps in
      let f = raised i n (slot k ps) in
      elim (ℕ_discrete j i) [
        | yes e ↦ rw (e, changed_same f i (padded k x)) (rw add-zero at (slot_back (x ∷ drop i ps) 0 h))
        | no ne ↦ rw (changed_other f i j (padded k x) ne) (elim (dec_lt j i) [
          | yes p ↦ slot_front (x ∷ drop i ps) j h p ∙ sym (raised_low i n (slot k ps) j (omega arith))
          | no p ↦
              let m = j - i - 1 in
              let up : slot k (take i ps ++ x ∷ drop i ps) j ≡ slot k ps (j - 1) =
              ap (slot k (take i ps ++ x ∷ drop i ps)) (omega arith) ∙ slot_back (x ∷ drop i ps) (suc m) h ∙ slot_drop m ∙ ap (slot k ps) (omega arith) in
              up ∙ (elim (dec_lt n j) [
                | yes o ↦ slot_out k ps (j - 1) (omega arith) ∙ sym (slot_out k ps j (omega arith)) ∙ sym (raised_high i n (slot k ps) j (omega arith) o)
                | no o ↦ sym (raised_in i n (slot k ps) j (omega arith) (omega arith))
              ])
        ])
      ]

module _ (k : ℕ) (ps : List (List ℕ)) (i : ℕ) where
  -- piece i taken out: the later ones stand one place lower, and the last place is zeros
  pub slot_remove : (j : ℕ) → i < length ps
      → slot k (take i ps ++ drop (suc i) ps) j ≡ changed (lowered i (length ps - 1) (slot k ps)) (length ps - 1) (replicate k 0) j
  slot_remove j h =
      let n = length ps - 1 in
      let f = lowered i n (slot k ps) in
      let zeros : List ℕ = replicate k 0 in
      elim (dec_lt j i) [
        | yes p ↦ rw (changed_other f n j zeros (omega arith), lowered_low i n (slot k ps) j p) (slot_front k ps i (drop (suc i) ps) j (omega arith) p)
        | no p ↦
            let down : slot k (take i ps ++ drop (suc i) ps) j ≡ slot k ps (j + 1) =
            ap (slot k (take i ps ++ drop (suc i) ps)) (omega arith) ∙ slot_back k ps i (drop (suc i) ps) (j - i) (omega arith) ∙ slot_drop k ps (suc i) (j - i) ∙ ap (slot k ps) (omega arith) in
            down ∙ (elim (ℕ_discrete j n) [
              | yes e ↦ rw (e, changed_same f n zeros) (slot_out k ps (n + 1) (omega arith))
              | no ne ↦ rw (changed_other f n j zeros ne) (elim (dec_lt j n) [
                | yes o ↦ sym (lowered_in i n (slot k ps) j (omega arith) o)
                | no o ↦ slot_out k ps (j + 1) (omega arith) ∙ sym (slot_out k ps j (omega arith)) ∙ sym (lowered_high i n (slot k ps) j (omega arith) (omega arith))
              ])
            ])
      ]

-- ---- a piece replaced, and one put behind the last

-- place i written over, where the pieces then are qs
pub slots_splice : (n k : ℕ) (ps qs : List (List ℕ)) (i : ℕ) (x : List ℕ) → i < n → length x ≡ k → ((j : ℕ) → j < n → changed (slot k ps) i x j ≡ slot k qs j)
    → splice (slots n k ps) (k * i) k x ≡ slots n k qs
unfolding slots
slots_splice n k ps qs i x q l h = splice_join (slot k ps) k n i x (λ j p. length_slot k ps j) l q ∙ join_cong (changed (slot k ps) i x) (slot k qs) n h

-- one more piece, in the first free place
pub slots_push : (n k : ℕ) (ps : List (List ℕ)) (x : List ℕ) → length ps < n → length x ≡ k
    → splice (slots n k ps) (k * length ps) k x ≡ slots n k (ps ++ (x ∷ []))
unfolding slot
slots_push n k ps x q l =
    let m = length ps in
    slots_splice n k ps (ps ++ (x ∷ [])) m x q l (λ j p. elim (ℕ_discrete j m) [
      | yes e ↦ rw (e, changed_same (slot k ps) m x, get_or-append_seam ps x [] []) (sym (padded_full k x l))
      | no ne ↦ rw (changed_other (slot k ps) m j x ne) (elim (dec_lt j m) [
        | yes o ↦ rw (get_or-append ps (x ∷ []) [] j o)
        | no o ↦ slot_out k ps j (omega arith) ∙ sym (slot_out k (ps ++ (x ∷ [])) j (rw length-append (omega arith)))
      ])
    ])
