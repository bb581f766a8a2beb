-- Tables in a list: pieces of one length, read and replaced one by one, and five lists one after the other. Assumes nothing.
use Rattle.std.specs.Prelude.{ℕ, ◌+◌, ◌*◌, ◌≤◌, ◌<◌, ◌≡◌, refl, List, [], ◌++◌, length, get_or, set}
use Rattle.std.proofs.Common.{sym, ap, ◌∙◌, append_assoc, arith, mul-le-mul_left, zero-add, length-append, get_or-set_same, get_or-set_other}
use Rattle.std.proofs.Math.Decide.{dec_lt, ℕ_discrete}
use Rattle.model.specs.Bounded.{join_below, list_below}
use Rattle.model.specs.Record.{part}
use Rattle.model.specs.Parts.{splice}
use Rattle.model.proofs.Laws.Changed.{changed, changed_same, changed_other}
use Rattle.model.proofs.Laws.Parts.{get_d_part, part_part, part_all, part_at, part_end, join_cong, length_join, part_join, join_parts, length_splice, part_splice, part_splice_below, part_splice_above, get_d_list, part_add}

module _ {ℓ} {A : Type ℓ} where
  -- ---- tables in the middle of a list

  -- element c of a part that is a list
  pub byte_of : (r : List A) (at n : ℕ) (f : ℕ → A) (c : ℕ) (d : A) → part r at n ≡ list_below n f → c < n → get_or r (at + c) d ≡ f c
  byte_of r at n f c d h q = sym (get_d_part r at n c d q) ∙ ap (λ l. get_or l c d) h ∙ get_d_list f n c d q

  -- piece c of a part that is a table
  pub piece_of : (r : List A) (at k n : ℕ) (f : ℕ → List A) (c : ℕ) → part r at (n * k) ≡ join_below n f → ((i : ℕ) → i < n → length (f i) ≡ k) → c < n
      → part r (at + k * c) k ≡ f c
  piece_of r at k n f c h l q =
      sym (part_part r at (n * k) (k * c) k (omega (arith, mul-le-mul_left k q))) ∙ ap (λ l. part l (k * c) k) h ∙ part_join f k n c l q

  -- a list of n pieces of k elements, known piece by piece
  pub table_is : (r : List A) (k n : ℕ) (f : ℕ → List A) → length r ≡ n * k → ((i : ℕ) → i < n → part r (k * i) k ≡ f i) → r ≡ join_below n f
  table_is r k n f l h = sym (part_all r (n * k) (omega arith)) ∙ sym (join_parts r 0 k n) ∙ join_cong (λ i. part r (0 + k * i) k) f n (λ i q. rw zero-add (h i q))

  -- the first m of n pieces
  pub part_join_front : (f : ℕ → List A) (k n m : ℕ) → ((i : ℕ) → i < n → length (f i) ≡ k) → m ≤ n → part (join_below n f) 0 (m * k) ≡ join_below m f
  part_join_front f k n m l h =
      sym (join_parts (join_below n f) 0 k m) ∙ join_cong (λ i. part (join_below n f) (0 + k * i) k) f m (λ i q. rw zero-add (part_join f k n i l (omega arith)))

  -- one piece of a table replaced
  pub piece_splice : (r : List A) (at k n : ℕ) (f : ℕ → List A) (c : ℕ) (v : List A) → at + k * n ≤ length r → length v ≡ k → c < n
      → ((i : ℕ) → i < n → part r (at + k * i) k ≡ f i) → (i : ℕ) → i < n → part (splice r (at + k * c) k v) (at + k * i) k ≡ changed f c v i
  piece_splice r at k n f c v l lv q h i p =
      let fits : at + k * c + k ≤ length r = omega (arith, mul-le-mul_left k q) in
      elim (ℕ_discrete i c) [
        | yes e ↦ rw (e, changed_same f c v) (part_splice r (at + k * c) k v fits lv)
        | no ne ↦ rw (changed_other f c i v ne) (elim (dec_lt i c) [
          | yes lt ↦ part_splice_below r (at + k * c) k v fits lv (at + k * i) k (omega (arith, mul-le-mul_left k lt)) ∙ h i p
          | no ge ↦ let gt : c < i = omega arith in part_splice_above r (at + k * c) k v fits lv (at + k * i) k (omega (arith, mul-le-mul_left k gt)) ∙ h i p
        ])
      ]

  -- one piece of a table replaced
  pub splice_join : (f : ℕ → List A) (k n c : ℕ) (v : List A) → ((i : ℕ) → i < n → length (f i) ≡ k) → length v ≡ k → c < n
      → splice (join_below n f) (k * c) k v ≡ join_below n (changed f c v)
  splice_join f k n c v l lv q =
      let size : length (join_below n f) ≡ n * k = length_join f k n l in
      table_is (splice (join_below n f) (k * c) k v) k n (changed f c v)
      (length_splice (join_below n f) (k * c) k v (omega (arith, mul-le-mul_left k q)) lv ∙ size)
      (λ i p. simp zero-add at (piece_splice (join_below n f) 0 k n f c v (omega arith) lv q (λ j h. rw zero-add (part_join f k n j l h)) i p))

  -- one byte of a table stored
  pub byte_set : (r : List A) (at n : ℕ) (f : ℕ → A) (c : ℕ) (v d : A) → at + n ≤ length r → c < n
      → ((i : ℕ) → i < n → get_or r (at + i) d ≡ f i) → (i : ℕ) → i < n → get_or (set r (at + c) v) (at + i) d ≡ changed f c v i
  byte_set r at n f c v d l q h i p =
      elim (ℕ_discrete i c) [
        | yes e ↦ rw (e, changed_same f c v) (get_or-set_same r (at + c) v d (omega arith))
        | no ne ↦ rw (changed_other f c i v ne) (get_or-set_other r (at + c) (at + i) v d (omega arith) ∙ h i p)
      ]

  -- ---- five lists, one after the other, and cut apart again

  pub record Cut (r a b c d e : List A) (p q s t u : ℕ) : Type ℓ where
    pub length_is : length r ≡ p + q + s + t + u
    pub a_is : part r 0 p ≡ a
    pub b_is : part r p q ≡ b
    pub c_is : part r (p + q) s ≡ c
    pub d_is : part r (p + q + s) t ≡ d
    pub e_is : part r (p + q + s + t) u ≡ e

  -- from five lists to their parts
  pub cut : (a b c d e : List A) (p q s t u : ℕ) → length a ≡ p → length b ≡ q → length c ≡ s → length d ≡ t → length e ≡ u
      → Cut (a ++ b ++ c ++ d ++ e) a b c d e p q s t u
  cut a b c d e p q s t u la lb lc ld le =
      let r : List A = a ++ b ++ c ++ d ++ e in
      let ga : r ≡ [] ++ (a ++ (b ++ c ++ d ++ e)) = simp append_assoc in
      let gb : r ≡ a ++ (b ++ (c ++ d ++ e)) = simp append_assoc in
      let gc : r ≡ (a ++ b) ++ (c ++ (d ++ e)) = simp append_assoc in
      let gd : r ≡ (a ++ b ++ c) ++ (d ++ e) = simp append_assoc in
      record {
        length_is = simp length-append (omega arith);
        a_is = rw ga (part_at [] a (b ++ c ++ d ++ e) 0 p refl la);
        b_is = rw gb (part_at a b (c ++ d ++ e) p q la lb);
        c_is = rw gc (part_at (a ++ b) c (d ++ e) (p + q) s (simp length-append (omega arith)) lc);
        d_is = rw gd (part_at (a ++ b ++ c) d e (p + q + s) t (simp length-append (omega arith)) ld);
        e_is = part_end (a ++ b ++ c ++ d) e (p + q + s + t) u (simp length-append (omega arith)) le;
      }

  -- and back
  pub uncut : (r a b c d e : List A) (p q s t u : ℕ) → Cut r a b c d e p q s t u → r ≡ a ++ b ++ c ++ d ++ e
  uncut r a b c d e p q s t u x =
      sym (part_all r (p + q + s + t + u) (omega arith)) ∙ simp (part_add, zero-add, x.a_is, x.b_is, x.c_is, x.d_is, x.e_is)
