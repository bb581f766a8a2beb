-- Bits and the model's book: what the bits of the columns say of the cells that running tasks hold, how a block is marked, and that the free runs of the
-- bits are the book's intervals. Assumes nothing.
use Rattle.std.specs.Prelude.{ℕ, suc, ◌+◌, ◌-◌, ◌*◌, ◌/◌, ◌%◌, ◌≤◌, ◌<◌, ◌≡◌, ◌⊎◌, ◌↔◌, Bool, true, not, ◌&&◌, ◌||◌, leb, ltb}
use Rattle.std.proofs.Math.Path.{sym, ap, ap₂}
use Rattle.std.proofs.Common.{◌∙◌, inl, inr, arith, mul-le-mul_left, mod-lt, div-lt_iff_lt-mul, le-div_iff_mul-le}
use Rattle.std.proofs.Math.Bool.{false, or_assoc, or-false, and-false}
use mathlib.Core.List.{List}
use Rattle.std.proofs.Math.Nat.{div-add-mod}
use Rattle.std.proofs.Math.Decide.{ℕ_discrete}
use Rattle.std.proofs.Math.Dec.{eqb}
use borrow.Author.Tests.{lt-ltb, le-ltb, le-leb, lt-leb, eq-eqb, ne_eqb}
use Rattle.runs.specs.Laws.Tests.{lt_or_ge}
use Rattle.model.specs.Limits.{reach}
use Rattle.model.specs.Bounded.{any_below}
use Rattle.model.specs.Columns.{Device, columns, kind, cells, top, top_in, height}
use Rattle.model.specs.Tasks.{blocks, block, well_formed}
use Rattle.model.specs.Book.{Book, Placed, placed, covers, held, free, intervals}
use Rattle.model.proofs.Laws.Bounded.{any_none}
use Rattle.model.proofs.Laws.Columns.{height_pos}
use Rattle.model.proofs.Laws.Tasks.{in_order}
use Rattle.model.proofs.Laws.Split.{neither}
use Rattle.model.proofs.Laws.Cells.{whole_cells}
use Rattle.cells.specs.Bits.{cell_bit, between, Marked}
use Rattle.cells.specs.Ends.{is_free, bit_intervals}
use Rattle.cells.specs.Shown.{Shown, held_with}

-- ---- half rows and cells

module _ (h k i : ℕ) (l : i < h) where
  leb_cell : (a : ℕ) → leb (h * a) (h * k + i) ≡ leb a k
  leb_cell a = go (lt_or_ge k a)
    where
      go : (k < a) ⊎ (a ≤ k) → leb (h * a) (h * k + i) ≡ leb a k
      go (inl q) = lt-leb (h * a) (h * k + i) (omega (arith, mul-le-mul_left {m = suc k} {n = a} h q)) ∙ sym (lt-leb a k q)
      go (inr q) = le-leb (h * a) (h * k + i) (omega (arith, mul-le-mul_left {m = a} {n = k} h q)) ∙ sym (le-leb a k q)

  ltb_cell : (e : ℕ) → ltb (h * k + i) (h * e) ≡ ltb k e
  ltb_cell e = go (lt_or_ge k e)
    where
      go : (k < e) ⊎ (e ≤ k) → ltb (h * k + i) (h * e) ≡ ltb k e
      go (inl q) = lt-ltb (h * k + i) (h * e) (omega (arith, mul-le-mul_left {m = suc k} {n = e} h q)) ∙ sym (lt-ltb k e q)
      go (inr q) = le-ltb (h * k + i) (h * e) (omega (arith, mul-le-mul_left {m = e} {n = k} h q)) ∙ sym (le-ltb k e q)

-- ---- the bits of all columns

-- THEOREM: where the bits are the cells that the book holds, their free runs are the book's intervals
pub shown_intervals : (d : Device) (b : Book) (ws : ℕ → List ℕ) → Shown d (held b) ws → (c : ℕ) → c < columns d → intervals d b c ≡ bit_intervals (ws c) (cells d c) (height (kind d c))
unfolding intervals free bit_intervals is_free top top_in cells
shown_intervals d b ws s c q =
    whole_cells (height (kind d c)) (height_pos (kind d c)) (cells d c) (free d b c) (is_free (ws c))
    (λ k i l m.
    rw (lt-ltb c (columns d) q, ltb_cell (height (kind d c)) k i m (cells d c), lt-ltb k (cells d c) l) (ap not (sym (s c k i q l m))))

-- ---- a task's blocks, one after the other

pub shown_none : (d : Device) (b : Book) (B : Placed) (ws : ℕ → List ℕ) → Shown d (held b) ws → Shown d (held_with b B 0) ws
unfolding any_below
shown_none d b B ws s c k i q l m = s c k i q l m ∙ sym (or-false (held b c (height (kind d c) * k + i)))

-- block j of B stands in column c, from cell a up to cell e
pub record BlockAt (d : Device) (B : Placed) (j c a e : ℕ) : Type 0 where
  pub column : B.column j ≡ c
  pub bottom : B.bottom j ≡ height (kind d c) * a
  pub top : B.top j ≡ height (kind d c) * e
  pub on : c < columns d
  pub below : e ≤ cells d c

module _ (d : Device) (b : Book) (B : Placed) (j c a e : ℕ) (x : BlockAt d B j c a e) (ws : ℕ → List ℕ) (s : Shown d (held_with b B j) ws) where
  -- THEOREM: a marked block is held
  pub shown_mark : (us : ℕ → List ℕ) (r : Bool) → Marked (ws c) a e (us c) r → ((i : ℕ) → ¬ (i ≡ c) → us i ≡ ws i) → Shown d (held_with b B (suc j)) us
  unfolding any_below covers
  shown_mark us r m o c' k i q l n =
      let h = height (kind d c') in
      let z = h * k + i in
      let more = or_assoc (held b c' z) (any_below j (covers B c' z)) (covers B c' z j) in
      elim (ℕ_discrete c' c) [
        | yes f ↦ here c' k i q l n f ∙ more
        | no f ↦
            let out : eqb (B.column j) c' ≡ false = ne_eqb (B.column j) c' (λ g. f (sym g ∙ x.column)) in
            ap (λ (w : List ℕ). cell_bit w k) (o c' f) ∙ s c' k i q l n ∙ sym (or-false (held_with b B j c' z)) ∙ ap (λ (t : Bool). held_with b B j c' z || t) (sym (rw out)) ∙ more
      ]
    where
      here : (c' k i : ℕ) → c' < columns d → k < cells d c' → i < height (kind d c') → c' ≡ c
          → cell_bit (us c') k ≡ (held_with b B j c' (height (kind d c') * k + i) || covers B c' (height (kind d c') * k + i) j)
      here c' k i q l n f =
          let is : covers B c (height (kind d c) * k + i) j ≡ between a e k =
          rw (eq-eqb (B.column j) c x.column, x.bottom, x.top) (ap₂ (λ (u v : Bool). u && v) (leb_cell (height (kind d c)) k i (rw f at n) a) (ltb_cell (height (kind d c)) k i (rw f at n) e)) in
          rw f (m.bits k ∙ ap₂ (λ (u v : Bool). u || v) (s c k i x.on (rw f at l) (rw f at n)) (sym is))

  -- THEOREM: none of its bits was set just where the book has its half rows free, if no earlier block covers them
  pub shown_free : ((z : ℕ) → B.bottom j ≤ z → any_below j (covers B c z) ≡ false)
      → ((k : ℕ) → a ≤ k → k < e → cell_bit (ws c) k ≡ false) ↔ ((z : ℕ) → B.bottom j ≤ z → z < B.top j → held b c z ≡ false)
  shown_free alone = (
    λ f z l m.
        let h = height (kind d c) in
        let p = height_pos (kind d c) in
        let lo : a ≤ z / h = (le-div_iff_mul-le p).1 (omega (arith, x.bottom)) in
        let hi : z / h < e = (div-lt_iff_lt-mul p).1 (omega (arith, x.top)) in
        let is : h * (z / h) + z % h ≡ z = div-add-mod z h in
        (neither (held b c z) (any_below j (covers B c z))
        (rw is at (sym (s c (z / h) (z % h) x.on (omega (arith, x.below)) (mod-lt z p)) ∙ f (z / h) lo hi))).0,
    λ f k l m.
        let h = height (kind d c) in
        let lo : B.bottom j ≤ h * k + 0 = omega (arith, x.bottom, mul-le-mul_left {m = a} {n = k} h l) in
        let hi : h * k + 0 < B.top j = omega (arith, x.top, mul-le-mul_left {m = suc k} {n = e} h m, height_pos (kind d c)) in
        s c k 0 x.on (omega (arith, x.below)) (height_pos (kind d c)) ∙ (rw (f (h * k + 0) lo hi) (alone (h * k + 0) lo)),
  )

-- in a well-formed task no earlier block covers what a later one does
pub earlier_apart : (t : List ℕ) → well_formed t ≡ true → (p y j : ℕ) → j < blocks t → (z : ℕ) → (placed t p y).bottom j ≤ z
    → any_below j (covers (placed t p y) ((placed t p y).column j) z) ≡ false
unfolding placed covers
earlier_apart t w p y j q z l = any_none j _ (λ i m. go i (in_order t w i j m q))
  where
    go : (i : ℕ) → ((block t i).column < (block t j).column) ⊎ (((block t i).column ≡ (block t j).column) × ((block t i).high < (block t j).low))
        → (eqb (p + (block t i).column) (p + (block t j).column) && leb (y + (block t i).low - reach) z && ltb z (y + (block t i).high - reach)) ≡ false
    go i (inl o) = rw (ne_eqb (p + (block t i).column) (p + (block t j).column) (λ e. omega arith))
    go i (inr o) = rw (le-ltb z (y + (block t i).high - reach) (omega arith)) (and-false (eqb (p + (block t i).column) (p + (block t j).column) && leb (y + (block t i).low - reach) z))
