-- Parts of a list, a part replaced in place, and lists laid out from pieces of one length: the laws that the record's layout rests on.
-- Assumes nothing.
use Prim.Native.Nat.{ℕ, zero, suc, ◌+◌, ◌-◌, ◌*◌, ◌≤◌, ◌<◌}
use Rattle.std.specs.Prelude.{◌≡◌, get_or, set}
use Rattle.std.proofs.Math.Path.{refl, ap, ap₂}
use Rattle.std.proofs.Common.{sym, ◌∙◌, add-one, add-zero, mul-one, get_or-take, get_or-drop, take-take}
use mathlib.Core.List.{List, [], ◌∷◌, ◌++◌, append_assoc}
use native.Mathlib.Omega.{arith}
use Rattle.std.proofs.Math.Decide.{dec_lt}
use Rattle.std.proofs.Math.Nat.{mul-le-mul_left, sub-zero, zero-sub, suc-sub-suc, zero-add, zero-mul, mul_comm}
use Rattle.std.proofs.Math.ListN.{length, take, drop, length-append, length-drop, take-append-drop}
use Rattle.std.proofs.Math.Seq.{length-take-le, take_all, take-nil, take_at, drop_at, drop-cons, drop-drop, take-add, take-set-lt}
use Rattle.std.proofs.lemmas.List.{take-append-le, drop-append-le, set_split, drop-set-add, set_at}
use Rattle.model.specs.Bounded.{join_below, list_below}
use Rattle.model.specs.Record.{part}
use Rattle.model.specs.Parts.{splice}

module _ {ℓ} {A : Type ℓ} where
  -- ---- parts

  -- a part that lies in r has its length
  pub length_part : (r : List A) (at n : ℕ) → at + n ≤ length r → length (part r at n) ≡ n
  unfolding part
  length_part r at n h = length-take-le n (drop at r) (omega (arith, length-drop at r))

  -- an element of a part is an element of r
  pub get_d_part : (r : List A) (at n i : ℕ) (d : A) → i < n → get_or (part r at n) i d ≡ get_or r (at + i) d
  unfolding part
  get_d_part r at n i d h = rw (get_or-take, get_or-drop)

  -- an element of r, in a part of it
  pub part_byte : (r : List A) (at n i : ℕ) (d : A) → at ≤ i → i < at + n → get_or r i d ≡ get_or (part r at n) (i - at) d
  part_byte r at n i d h q = let e : i ≡ at + (i - at) = omega arith in ap (λ k. get_or r k d) e ∙ sym (get_d_part r at n (i - at) d (omega arith))

  drop_take : (i n : ℕ) (l : List A) → drop i (take n l) ≡ take (n - i) (drop i l)
  drop_take zero n l = rw sub-zero
  drop_take (suc i) zero l = rw zero-sub
  drop_take (suc i) (suc n) [] = sym (take-nil (suc n - suc i))
  drop_take (suc i) (suc n) (x ∷ xs) = rw suc-sub-suc (drop_take i n xs)

  -- a part of a part is a part
  pub part_part : (r : List A) (at n i m : ℕ) → i + m ≤ n → part (part r at n) i m ≡ part r (at + i) m
  unfolding part
  part_part r at n i m h = rw (drop_take, drop-drop) (take-take m (n - i) (drop (at + i) r) (omega arith))

  -- the part from 0 on is all of r
  pub part_all : (r : List A) (n : ℕ) → length r ≤ n → part r 0 n ≡ r
  unfolding part
  part_all r n h = take_all n r h

  -- a part of the first of two
  pub part_left : (a b : List A) (at n : ℕ) → at + n ≤ length a → part (a ++ b) at n ≡ part a at n
  unfolding part
  part_left a b at n h = rw (drop-append-le at a b (omega arith)) (take-append-le n (drop at a) b (omega (arith, length-drop at a)))

  -- the middle of three
  pub part_at : (a b c : List A) (at n : ℕ) → length a ≡ at → length b ≡ n → part (a ++ (b ++ c)) at n ≡ b
  unfolding part
  part_at a b c at n p q = rw (drop_at a (b ++ c) at p) (take_at b c n q)

  -- the last of two
  pub part_end : (a b : List A) (at n : ℕ) → length a ≡ at → length b ≡ n → part (a ++ b) at n ≡ b
  unfolding part
  part_end a b at n p q = rw (drop_at a b at p) (take_all n b (omega arith))

  -- a part of one element, and an element as a part
  pub part_one : (r : List A) (i : ℕ) (d : A) → i < length r → part r i 1 ≡ get_or r i d ∷ []
  unfolding part
  part_one r i d h = rw (drop-cons r i d)

  pub get_d_one : (r : List A) (i : ℕ) (d : A) → get_or r i d ≡ get_or (part r i 1) 0 d
  get_d_one r i d = sym (rw add-zero at (get_d_part r i 1 0 d (omega arith)))

  -- ---- pieces of one length, one after the other

  -- pieces that are the same one by one
  pub join_cong : (f g : ℕ → List A) (n : ℕ) → ((i : ℕ) → i < n → f i ≡ g i) → join_below n f ≡ join_below n g
  unfolding join_below
  join_cong f g zero h = refl
  join_cong f g (suc n) h = ap₂ ◌++◌ (join_cong f g n (λ i q. h i (omega arith))) (h n (omega arith))

  module _ (f : ℕ → List A) (k : ℕ) where
    -- n pieces of k elements have n * k, and piece c stands at k * c
    pub length_join : (n : ℕ) → ((i : ℕ) → i < n → length (f i) ≡ k) → length (join_below n f) ≡ n * k
    unfolding join_below
    length_join zero h = omega arith
    length_join (suc n) h = rw length-append (omega (arith, length_join n (λ i q. h i (omega arith)), h n (omega arith)))

    pub part_join : (n c : ℕ) → ((i : ℕ) → i < n → length (f i) ≡ k) → c < n → part (join_below n f) (k * c) k ≡ f c
    unfolding join_below
    part_join zero c h q = absurd (omega arith)
    part_join (suc n) c h q =
        let h' : (i : ℕ) → i < n → length (f i) ≡ k = λ i q. h i (omega arith) in
        elim (dec_lt c n) [
          | yes p ↦ part_left (join_below n f) (f n) (k * c) k (omega (arith, length_join n h', mul-le-mul_left k p)) ∙ part_join n c h' p
          | no p ↦ let e : c ≡ n = omega arith in rw e (part_end (join_below n f) (f n) (k * n) k (omega (arith, length_join n h')) (h n (omega arith)))
        ]

  -- a part cut into pieces of one length
  pub join_parts : (r : List A) (at k n : ℕ) → join_below n (λ i. part r (at + k * i) k) ≡ part r at (n * k)
  unfolding join_below part
  join_parts r at k zero = rw zero-mul
  join_parts r at k (suc n) =
      let e : suc n * k ≡ n * k + k = omega arith in
      rw (join_parts r at k n, e, take-add (n * k) k (drop at r), drop-drop (n * k) at r, mul_comm k n)

  -- ---- a part replaced

  drop_past : (r s : List A) (a i : ℕ) → a ≤ i → drop a r ≡ drop a s → drop i r ≡ drop i s
  drop_past r s a i h p =
      let e : i ≡ a + (i - a) = omega arith in
      rw (e, ← drop-drop (i - a) a r, ← drop-drop (i - a) a s, p)

  module _ (r : List A) (at n : ℕ) (v : List A) (fits : at + n ≤ length r) (same : length v ≡ n) where
    -- a part replaced by one of its length: the length stays, the part is the new one, and other parts stay
    pub length_splice : length (splice r at n v) ≡ length r
    unfolding splice
    length_splice = rw (length-append, length-append) (omega (arith, length-take-le at r (omega arith), length-drop n (drop at r), length-drop at r))

    pub part_splice : part (splice r at n v) at n ≡ v
    unfolding splice
    part_splice = part_at (take at r) v (drop n (drop at r)) at n (length-take-le at r (omega arith)) same

    pub part_splice_below : (i m : ℕ) → i + m ≤ at → part (splice r at n v) i m ≡ part r i m
    unfolding splice part
    part_splice_below i m h =
        part_left (take at r) (v ++ drop n (drop at r)) i m (omega (arith, length-take-le at r (omega arith)))
        ∙ (rw zero-add at (part_part r 0 at i m h))

    pub part_splice_above : (i m : ℕ) → at + n ≤ i → part (splice r at n v) i m ≡ part r i m
    unfolding splice part
    part_splice_above i m h =
        let rest = drop n (drop at r) in
        let e : drop (at + n) (splice r at n v) ≡ drop (at + n) r =
        rw (← append_assoc (take at r) v rest) (drop_at (take at r ++ v) rest (at + n) (rw length-append (omega (arith, length-take-le at r (omega arith)))) ∙ drop-drop n at r) in
        ap (take m) (drop_past (splice r at n v) r (at + n) i h e)

    -- other elements stay
    pub get_d_splice_below : (i : ℕ) (d : A) → i < at → get_or (splice r at n v) i d ≡ get_or r i d
    get_d_splice_below i d h = rw (get_d_one (splice r at n v) i d, get_d_one r i d, part_splice_below i 1 (omega arith))

    pub get_d_splice_above : (i : ℕ) (d : A) → at + n ≤ i → get_or (splice r at n v) i d ≡ get_or r i d
    get_d_splice_above i d h = rw (get_d_one (splice r at n v) i d, get_d_one r i d, part_splice_above i 1 h)

  -- a part replaced by itself
  pub splice_same : (r : List A) (at n : ℕ) → splice r at n (part r at n) ≡ r
  unfolding splice part
  splice_same r at n = ap (λ (l : List A). take at r ++ l) (take-append-drop n (drop at r)) ∙ take-append-drop at r

  -- a store is a part of one element, replaced
  pub set_splice : (r : List A) (i : ℕ) (v : A) → i < length r → set r i v ≡ splice r i 1 (v ∷ [])
  unfolding splice
  set_splice r i v h = rw (set_split r i v h, drop-drop 1 i r, add-one)

  -- ---- bytes: pieces of one element

  -- a list of n elements, and its element c
  pub length_list : (f : ℕ → A) (n : ℕ) → length (list_below n f) ≡ n
  length_list f n = omega (arith, length_join (λ i. f i ∷ []) 1 n (λ i q. refl))

  pub get_d_list : (f : ℕ → A) (n c : ℕ) (d : A) → c < n → get_or (list_below n f) c d ≡ f c
  get_d_list f n c d q =
      let e : 1 * c + 0 ≡ c = omega arith in
      (rw e at (sym (get_d_part (list_below n f) (1 * c) 1 0 d (omega arith)))) ∙ ap (λ p. get_or p 0 d) (part_join (λ i. f i ∷ []) 1 n c (λ i q. refl) q)

  -- a part, and a list, by its elements
  pub list_parts : (r : List A) (at n : ℕ) (d : A) → at + n ≤ length r → list_below n (λ i. get_or r (at + i) d) ≡ part r at n
  list_parts r at n d h =
      join_cong (λ i. get_or r (at + i) d ∷ []) (λ i. part r (at + 1 * i) 1) n (λ i q. let e : 1 * i ≡ i = omega arith in rw e (sym (part_one r (at + i) d (omega arith))))
      ∙ (rw mul-one at (join_parts r at 1 n))

  pub list_is : (r : List A) (at n : ℕ) (f : ℕ → A) (d : A) → at + n ≤ length r → ((i : ℕ) → i < n → get_or r (at + i) d ≡ f i) → part r at n ≡ list_below n f
  list_is r at n f d h e = sym (list_parts r at n d h) ∙ join_cong (λ i. get_or r (at + i) d ∷ []) (λ i. f i ∷ []) n (λ i q. ap (λ x. x ∷ []) (e i q))

  pub listed : (l : List A) (d : A) → list_below (length l) (λ i. get_or l i d) ≡ l
  listed l d = (simp zero-add at (list_parts l 0 (length l) d (omega arith))) ∙ part_all l (length l) (omega arith)

  -- a part in two
  pub part_add : (r : List A) (at n m : ℕ) → part r at (n + m) ≡ part r at n ++ part r (at + n) m
  unfolding part
  part_add r at n m = rw (take-add n m (drop at r), drop-drop n at r)

  -- a store outside a part
  pub part_set_below : (r : List A) (i : ℕ) (v : A) (at n : ℕ) → at + n ≤ i → i < length r → part (set r i v) at n ≡ part r at n
  part_set_below r i v at n h q = rw (set_splice r i v q) (part_splice_below r i 1 (v ∷ []) (omega arith) refl at n h)

  pub part_set_above : (r : List A) (i : ℕ) (v : A) (at n : ℕ) → i < at → i < length r → part (set r i v) at n ≡ part r at n
  part_set_above r i v at n h q = rw (set_splice r i v q) (part_splice_above r i 1 (v ∷ []) (omega arith) refl at n (omega arith))

  -- a store inside a part
  pub part_set : (r : List A) (at n i : ℕ) (v : A) → i < n → part (set r (at + i) v) at n ≡ set (part r at n) i v
  unfolding part
  part_set r at n i v h = rw (drop-set-add at r i v) (take-set-lt n (drop at r) i v h)

  -- ---- a part written from its start on, element by element

  -- nothing written, and one more element written
  pub splice_none : (r : List A) (at : ℕ) → splice r at 0 [] ≡ r
  unfolding splice
  splice_none r at = take-append-drop at r

  pub splice_grow : (r : List A) (at n : ℕ) (v : List A) (x : A) → at + n < length r → length v ≡ n
      → set (splice r at n v) (at + n) x ≡ splice r at (n + 1) (v ++ (x ∷ []))
  unfolding splice
  splice_grow r at n v x h l =
      let rest = drop (suc n) (drop at r) in
      rw (add-one, drop-cons (drop at r) n x (omega (arith, length-drop at r)), ← append_assoc (take at r) v (get_or (drop at r) n x ∷ rest))
      (set_at (take at r ++ v) (get_or (drop at r) n x) rest x (at + n) (rw length-append (omega (arith, length-take-le at r (omega arith)))) ∙ simp append_assoc)

  -- a part that is longer by one
  pub part_grow : (r : List A) (at n : ℕ) (d : A) → at + n < length r → part r at (n + 1) ≡ part r at n ++ (get_or r (at + n) d ∷ [])
  part_grow r at n d h = rw (part_add r at n 1, part_one r (at + n) d h)

  -- one step of a loop that copies n elements from a to b, the two parts being disjoint
  pub splice_copy : (r₀ r : List A) (a b n i : ℕ) (d : A) → a + n ≤ length r₀ → b + n ≤ length r₀ → (b < a → b + n ≤ a) → (a ≤ b → a + n ≤ b) → i < n
      → r ≡ splice r₀ b i (part r₀ a i) → set r (b + i) (get_or r (a + i) d) ≡ splice r₀ b (i + 1) (part r₀ a (i + 1))
  splice_copy r₀ r a b n i d la lb low high q e =
      let v = part r₀ a i in
      let lv : length v ≡ i = length_part r₀ a i (omega arith) in
      let same : get_or (splice r₀ b i v) (a + i) d ≡ get_or r₀ (a + i) d =
      elim (dec_lt b a) [
        | yes p ↦ let o : b + n ≤ a = low p in get_d_splice_above r₀ b i v (omega arith) lv (a + i) d (omega arith)
        | no p ↦ let o : a + n ≤ b = high (omega arith) in get_d_splice_below r₀ b i v (omega arith) lv (a + i) d (omega arith)
      ] in
      rw (e, same, part_grow r₀ a i d (omega arith)) (splice_grow r₀ b i v (get_or r₀ (a + i) d) (omega arith) lv)

  -- two neighbouring parts replaced, one after the other
  pub splice_more : (r : List A) (at n m : ℕ) (u v : List A) → at + n ≤ length r → length u ≡ n
      → splice (splice r at n u) (at + n) m v ≡ splice r at (n + m) (u ++ v)
  unfolding splice
  splice_more r at n m u v h l =
      let rest = drop n (drop at r) in
      let size : length (take at r ++ u) ≡ at + n = rw length-append (omega (arith, length-take-le at r (omega arith))) in
      rw (← append_assoc (take at r) u rest, take_at (take at r ++ u) rest (at + n) size, drop_at (take at r ++ u) rest (at + n) size, drop-drop m n (drop at r)) (simp append_assoc)

  -- two stores
  pub set_two : (r : List A) (at : ℕ) (x y : A) → at + 1 < length r → set (set r at x) (at + 1) y ≡ splice r at 2 (x ∷ y ∷ [])
  set_two r at x y h = rw (set_splice r at x (omega arith)) (splice_grow r at 1 (x ∷ []) y h refl)
