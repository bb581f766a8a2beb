-- Words, bit by bit: masks, the free cells, the changes, and a run that is marked. Assumes nothing.
use Rattle.std.specs.Prelude.{ℕ, zero, suc, ◌+◌, ◌-◌, ◌*◌, ◌/◌, ◌%◌, ◌^◌, ◌≤◌, ◌<◌, ◌≡◌, refl, ◌⊎◌, Bool, true, false, not, ◌&&◌, ◌||◌, List, leb, ltb, eqb, length, get_or, set}
use Rattle.std.proofs.Common.{sym, ap, ap₂, ◌∙◌, inl, inr, arith, zero-add, add-zero, add-one, get_or-set_same, get_or-set_other, shl_exact, lt-ltb, le-ltb, le-leb, eqb-true}
use Rattle.std.proofs.Math.Bool.{and_comm, or-false, and-false, and-true}
use Rattle.std.proofs.Math.Decide.{ℕ_discrete}
use Rattle.std.specs.Int.Bits.{bit_and, bit_or, bit_xor}
use Rattle.std.proofs.lemmas.Nat.{and_le_l}
use Rattle.std.proofs.lemmas.Bool.{lt-leb, eqb-false}
use Rattle.runs.specs.Laws.Tests.{tests, lt_or_ge}
use Rattle.model.proofs.Laws.Bounded.{and_to, same_test, true_or_false}
use Rattle.words.specs.Laws.Zeros.{or_none, or_zero}
use Rattle.cells.specs.Bits.{top_bit, word_bits, is_set, digit, cell_bit, between, Shows, Marked}
use Rattle.cells.specs.Ends.{one_below, differs, change, is_free, free_below}
use Rattle.cells.specs.Laws.Bits.{digit_and, digit_or, digit_xor, digit_zero, digit_ones, digit_not, digit_down, digit_shift, digit_up, digit_up_first, digit_top, digit_first, digit_later, digits_none}

-- ---- masks

pub low_all : (n : ℕ) → word_bits ≤ n → Shows (2 ^ word_bits - 1) (λ k. ltb k n) 0
low_all n h k q = digit_ones word_bits k ∙ lt-ltb k word_bits q ∙ sym (lt-ltb (0 + k) n (omega arith))

pub low_power : (n : ℕ) → n < word_bits → 1 * 2 ^ n % 2 ^ word_bits ≡ 2 ^ n
low_power n h = shl_exact 1 n word_bits (omega arith) (omega arith) ∙ (let e : 1 * 2 ^ n ≡ 2 ^ n = omega arith in e)

pub low_some : (n : ℕ) → n < word_bits → Shows (1 * 2 ^ n % 2 ^ word_bits - 1) (λ k. ltb k n) 0
low_some n h k q = ap (λ (x : ℕ). digit (x - 1) k) (low_power n h) ∙ digit_ones n k ∙ ap (λ (x : ℕ). ltb x n) (sym (zero-add k))

-- a bound seen from a
ltb_from : (n a k : ℕ) → ltb (0 + k) (n - a) ≡ ltb (a + k) n
ltb_from n a k = go (lt_or_ge (a + k) n)
  where
    go : (a + k < n) ⊎ (n ≤ a + k) → ltb (0 + k) (n - a) ≡ ltb (a + k) n
    go (inl l) = lt-ltb (0 + k) (n - a) (omega arith) ∙ sym (lt-ltb (a + k) n l)
    go (inr l) = le-ltb (0 + k) (n - a) (omega arith) ∙ sym (le-ltb (a + k) n l)

not_ltb : (a b : ℕ) → not (ltb a b) ≡ leb b a
not_ltb a b = go (lt_or_ge a b)
  where
    go : (a < b) ⊎ (b ≤ a) → not (ltb a b) ≡ leb b a
    go (inl l) = rw (lt-ltb a b l, lt-leb b a l)
    go (inr l) = rw (le-ltb a b l, le-leb b a l)

pub span_shows : (x y from to a : ℕ) → y < 2 ^ word_bits → Shows x (λ k. ltb k (to - a)) 0 → Shows y (λ k. ltb k (from - a)) 0
    → Shows (bit_and x ((2 ^ word_bits - 1) - y)) (between from to) a
span_shows x y from to a l u v k q =
    digit_and x ((2 ^ word_bits - 1) - y) k
    ∙ ap₂ (λ (s t : Bool). s && t) (u k q ∙ ltb_from to a k) (digit_not word_bits y k l q ∙ ap not (v k q ∙ ltb_from from a k) ∙ not_ltb (a + k) from)
    ∙ and_comm (ltb (a + k) to) (leb from (a + k))

-- a run inside a word: as many ones as it has bits, moved up to its first
pub run_shows : (from to a : ℕ) → a ≤ from → from < to → to ≤ a + word_bits
    → Shows ((2 ^ word_bits - 1) / 2 ^ (word_bits - (to - from)) * 2 ^ (from - a) % 2 ^ word_bits) (between from to) a
run_shows from to a l m n k q =
    let x = 2 ^ word_bits - 1 in
    let s = word_bits - (to - from) in
    digit_shift word_bits (from - a) (x / 2 ^ s) k q
    ∙ ap (λ (t : Bool). leb (from - a) k && t) (digit_down s x (k - (from - a)) ∙ digit_ones word_bits (s + (k - (from - a))))
    ∙ go (lt_or_ge (a + k) from) (lt_or_ge (a + k) to)
  where
    go : (a + k < from) ⊎ (from ≤ a + k) → (a + k < to) ⊎ (to ≤ a + k)
        → (leb (from - a) k && ltb (word_bits - (to - from) + (k - (from - a))) word_bits) ≡ between from to (a + k)
    go (inl b) e = rw (lt-leb (from - a) k (omega arith), lt-leb from (a + k) b)
    go (inr b) (inl e) = rw (le-leb (from - a) k (omega arith), le-leb from (a + k) b, lt-ltb (word_bits - (to - from) + (k - (from - a))) word_bits (omega arith)) (sym (lt-ltb (a + k) to e))
    go (inr b) (inr e) = rw (le-leb (from - a) k (omega arith), le-leb from (a + k) b, le-ltb (word_bits - (to - from) + (k - (from - a))) word_bits (omega arith)) (sym (le-ltb (a + k) to e))

-- ---- free cells

pub bit_in_word : (ws : List ℕ) (i k : ℕ) → k < word_bits → cell_bit ws (word_bits * i + k) ≡ digit (get_or ws i 0) k
unfolding cell_bit
bit_in_word ws i k q =
    let e : (word_bits * i + k) / word_bits ≡ i = omega arith in
    let f : (word_bits * i + k) % word_bits ≡ k = omega arith in
    rw (e, f)

pub free_shows : (ws : List ℕ) (n i m x : ℕ) → x ≡ get_or ws i 0 → x < 2 ^ word_bits → Shows m (λ k. ltb k (n - word_bits * i)) 0
    → Shows (bit_and ((2 ^ word_bits - 1) - x) m) (free_below ws n) (word_bits * i)
unfolding free_below is_free
free_shows ws n i m x e l u k q =
    let here : digit x k ≡ cell_bit ws (word_bits * i + k) = rw e (sym (bit_in_word ws i k q)) in
    digit_and ((2 ^ word_bits - 1) - x) m k
    ∙ ap₂ (λ (s t : Bool). s && t) (digit_not word_bits x k l q ∙ ap not here) (u k q ∙ ltb_from n (word_bits * i) k)
    ∙ and_comm (not (cell_bit ws (word_bits * i + k))) (ltb (word_bits * i + k) n)

pub free_none : (ws : List ℕ) (n i : ℕ) → length ws ≤ i → n ≤ word_bits * length ws → Shows 0 (free_below ws n) (word_bits * i)
unfolding free_below
free_none ws n i l h k q = digit_zero k ∙ sym (rw (le-ltb (word_bits * i + k) n (omega arith)))

-- ---- changes

pub change_shows : (x c : ℕ) (f : ℕ → Bool) (a : ℕ) → c < 2 → Shows x f a → is_set c ≡ one_below f a → Shows (bit_xor x (bit_or (x * 2 ^ 1 % 2 ^ word_bits) c)) (change f) a
change_shows x c f a l u v zero q =
    let w : one_below f (a + 0) ≡ one_below f a = ap (one_below f) (add-zero a) in
    digit_xor x (bit_or (x * 2 ^ 1 % 2 ^ word_bits) c) 0
    ∙ ap₂ differs (u 0 q) (digit_or (x * 2 ^ 1 % 2 ^ word_bits) c 0 ∙ ap₂ (λ (s t : Bool). s || t) (digit_up_first word_bits x (omega arith)) (digit_first c l) ∙ v ∙ sym w)
change_shows x c f a l u v (suc k) q =
    let w : one_below f (a + suc k) ≡ f (a + k) = ap (one_below f) (let e : a + suc k ≡ suc (a + k) = omega arith in e) in
    digit_xor x (bit_or (x * 2 ^ 1 % 2 ^ word_bits) c) (suc k)
    ∙ ap₂ differs (u (suc k) q)
    (digit_or (x * 2 ^ 1 % 2 ^ word_bits) c (suc k) ∙ ap₂ (λ (s t : Bool). s || t) (digit_up word_bits x k q) (digit_later c k l) ∙ or-false (digit x k) ∙ u k (omega arith) ∙ sym w)

-- the bit that the next word gets
pub carry_small : (x : ℕ) → x < 2 ^ word_bits → x / 2 ^ top_bit < 2
carry_small x l = (digit_top top_bit x l).0

pub carry_shows : (x : ℕ) (f : ℕ → Bool) (a : ℕ) → x < 2 ^ word_bits → Shows x f a → is_set (x / 2 ^ top_bit) ≡ one_below f (a + word_bits)
carry_shows x f a l u =
    let e : a + word_bits ≡ suc (a + top_bit) = omega arith in
    (digit_top top_bit x l).1 ∙ u top_bit (omega arith) ∙ sym (ap (one_below f) e)

-- ---- a run marked, word by word

-- the run from a to b is marked in the first n words, and `hit` is 0 as long as none of its bits was set
pub record RunMarking (ws : List ℕ) (a b : ℕ) (out : List ℕ) (n hit : ℕ) : Type 0 where
  pub bits : (k : ℕ) → cell_bit out k ≡ (cell_bit ws k || (ltb k (word_bits * n) && between a b k))
  pub clear : hit ≡ 0 → (k : ℕ) → a ≤ k → k < b → k < word_bits * n → cell_bit ws k ≡ false
  pub none : ((k : ℕ) → a ≤ k → k < b → cell_bit ws k ≡ false) → hit ≡ 0

between_true : (a b k : ℕ) → a ≤ k → k < b → between a b k ≡ true
between_true a b k p q = rw (le-leb a k p, lt-ltb k b q)

pub marking_start : (ws : List ℕ) (a b n : ℕ) → word_bits * n ≤ a → RunMarking ws a b ws n 0
marking_start ws a b n h = record {
  bits = λ k. sym (ap (λ (t : Bool). cell_bit ws k || t) (below k (lt_or_ge k (word_bits * n))) ∙ or-false (cell_bit ws k));
  clear = λ e k p q l. absurd (omega arith);
  none = λ h. refl;
}
  where
    below : (k : ℕ) → (k < word_bits * n) ⊎ (word_bits * n ≤ k) → (ltb k (word_bits * n) && between a b k) ≡ false
    below k (inl l) = rw (lt-leb a k (omega arith)) (and-false (ltb k (word_bits * n)))
    below k (inr l) = rw (le-ltb k (word_bits * n) l)

module _ (ws : List ℕ) (a b : ℕ) (out : List ℕ) (n hit run : ℕ) (m : RunMarking ws a b out n hit) (s : Shows run (between a b) (word_bits * n)) where
  -- a bit that is not yet reached
  later : (k : ℕ) → word_bits * n ≤ k → cell_bit out k ≡ cell_bit ws k
  later k l = m.bits k ∙ rw (le-ltb k (word_bits * n) l) (or-false (cell_bit ws k))

  -- a bit of this word
  here : (k : ℕ) → k < word_bits → digit (bit_and (get_or out n 0) run) k ≡ (cell_bit ws (word_bits * n + k) && between a b (word_bits * n + k))
  here k q = digit_and (get_or out n 0) run k ∙ ap₂ (λ (s t : Bool). s && t) (sym (bit_in_word out n k q) ∙ later (word_bits * n + k) (omega arith)) (s k q)

  abbrev next : List ℕ
  next = set out n (bit_or (get_or out n 0) run)

  bits_next : n < length out → (k : ℕ) → cell_bit next k ≡ (cell_bit ws k || (ltb k (word_bits * suc n) && between a b k))
  bits_next h k = elim (ℕ_discrete (k / word_bits) n) [
    | yes e ↦
        let f : word_bits * n + k % word_bits ≡ k = omega arith in
        let at : cell_bit next (word_bits * n + k % word_bits) ≡ (cell_bit ws (word_bits * n + k % word_bits) || between a b (word_bits * n + k % word_bits)) =
        bit_in_word next n (k % word_bits) (omega arith) ∙ ap (λ (x : ℕ). digit x (k % word_bits)) (get_or-set_same out n (bit_or (get_or out n 0) run) 0 h)
        ∙ digit_or (get_or out n 0) run (k % word_bits)
        ∙ ap₂ (λ (s t : Bool). s || t) (sym (bit_in_word out n (k % word_bits) (omega arith)) ∙ later (word_bits * n + k % word_bits) (omega arith)) (s (k % word_bits) (omega arith)) in
        rw (lt-ltb k (word_bits * suc n) (omega arith)) (rw f at at)
    | no ne ↦ other ne ∙ m.bits k ∙ ap (λ (t : Bool). cell_bit ws k || (t && between a b k)) (same_test (ltb k (word_bits * n)) (ltb k (word_bits * suc n))
        (λ t. lt-ltb k (word_bits * suc n) (omega tests)) (λ t. lt-ltb k (word_bits * n) (omega tests)))
  ]
    where
      other : ¬ (k / word_bits ≡ n) → cell_bit next k ≡ cell_bit out k
      other ne = unfold cell_bit in (ap (λ (x : ℕ). digit x (k % word_bits)) (get_or-set_other out n (k / word_bits) (bit_or (get_or out n 0) run) 0 ne))

  pub marking_next : n < length out → get_or out n 0 < 2 ^ word_bits → RunMarking ws a b next (n + 1) (bit_or hit (bit_and (get_or out n 0) run))
  marking_next h w = rw add-one (record {
    bits = bits_next h;
    clear = λ e k p q l. let (e₁, e₂) = or_none hit (bit_and (get_or out n 0) run) e in go e₁ e₂ k p q l (lt_or_ge k (word_bits * n));
    none = λ f. or_zero hit (bit_and (get_or out n 0) run) (m.none f)
        (digits_none word_bits (bit_and (get_or out n 0) run) (omega (arith, and_le_l (get_or out n 0) run)) (λ k q. here k q ∙ off f (word_bits * n + k) (true_or_false (between a b (word_bits * n + k)))));
  })
    where
      go : hit ≡ 0 → bit_and (get_or out n 0) run ≡ 0 → (k : ℕ) → a ≤ k → k < b → k < word_bits * suc n → (k < word_bits * n) ⊎ (word_bits * n ≤ k) → cell_bit ws k ≡ false
      go e₁ e₂ k p q l (inl i) = m.clear e₁ k p q i
      go e₁ e₂ k p q l (inr i) =
          let f : word_bits * n + (k - word_bits * n) ≡ k = omega arith in
          let g : (cell_bit ws k && between a b k) ≡ false = rw f at (sym (here (k - word_bits * n) (omega arith)) ∙ ap (λ (x : ℕ). digit x (k - word_bits * n)) e₂ ∙ digit_zero (k - word_bits * n)) in
          sym (and-true (cell_bit ws k)) ∙ (rw (between_true a b k p q) at g)

      off : ((k : ℕ) → a ≤ k → k < b → cell_bit ws k ≡ false) → (k : ℕ) → (between a b k ≡ true) ⊎ (between a b k ≡ false) → (cell_bit ws k && between a b k) ≡ false
      off f k (inl t) = let (u, v) = and_to (leb a k) (ltb k b) t in rw (f k (omega tests) (omega tests))
      off f k (inr t) = rw t (and-false (cell_bit ws k))

pub marking_end : (ws : List ℕ) (a b : ℕ) (out : List ℕ) (n hit : ℕ) → b ≤ word_bits * n → RunMarking ws a b out n hit → (r : Bool) → (r ≡ true → hit ≡ 0) → (r ≡ false → hit ≡ 0 → ⊥) → Marked ws a b out r
marking_end ws a b out n hit h m r u v = record {
  bits = λ k. m.bits k ∙ ap (λ (t : Bool). cell_bit ws k || t) (all k (true_or_false (between a b k)));
  was_free = λ e k p q. m.clear (u e) k p q (omega arith);
  was_held = λ e f. v e (m.none f);
}
  where
    all : (k : ℕ) → (between a b k ≡ true) ⊎ (between a b k ≡ false) → (ltb k (word_bits * n) && between a b k) ≡ between a b k
    all k (inl t) = let (u, v) = and_to (leb a k) (ltb k b) t in rw (lt-ltb k (word_bits * n) (omega tests))
    all k (inr t) = rw t (and-false (ltb k (word_bits * n)))

-- a run that lies in one word
pub mark_one : (ws : List ℕ) (a b run : ℕ) → b ≤ word_bits * (a / word_bits) + word_bits → a / word_bits < length ws → get_or ws (a / word_bits) 0 < 2 ^ word_bits
    → Shows run (between a b) (word_bits * (a / word_bits))
    → Marked ws a b (set ws (a / word_bits) (bit_or (get_or ws (a / word_bits) 0) run)) (eqb (bit_and (get_or ws (a / word_bits) 0) run) 0)
mark_one ws a b run l q w s =
    let n = a / word_bits in
    let m = marking_next ws a b ws n 0 run (marking_start ws a b n (omega arith)) s q w in
    marking_end ws a b (set ws n (bit_or (get_or ws n 0) run)) (n + 1) (bit_and (get_or ws n 0) run) (omega arith) m _ (eqb-true (bit_and (get_or ws n 0) run) 0) (eqb-false (bit_and (get_or ws n 0) run) 0)
