-- Why marking a block says whether it fits. Assumes nothing.
use Rattle.std.specs.Prelude.{ℕ, ◌+◌, ◌-◌, ◌*◌, ◌/◌, ◌%◌, ◌≤◌, ◌<◌, ◌≡◌, ◌⊎◌, ◌↔◌, Bool, true, false, List, [], get_or, take, drop, length}
use Rattle.std.proofs.Common.{sym, ap, ◌∙◌, inl, inr, arith, le-div_iff_mul-le, mul-le-mul_left, add-one, below_more, length-take, length-drop}
use Rattle.std.proofs.lemmas.Bool.{false≢true}
use Rattle.std.proofs.Math.Nat.{div-add-mod, lt_of_mul-lt-mul_left, mul-div_cancel_left, mul-div-le, mul-le-mul_right}
use Rattle.runs.specs.Laws.Tests.{lt_or_ge}
use Rattle.model.specs.Limits.{reach, max_columns, max_kind, max_rows}
use Rattle.model.specs.Columns.{Device, columns, kind, cells, top, top_in, cells_in, height, device_ok}
use Rattle.model.specs.Tasks.{Block, blocks, block, well_formed}
use Rattle.model.specs.Book.{Book, placed, held, block_fits, fits}
use Rattle.model.specs.Record.{part}
use Rattle.model.proofs.Laws.Bounded.{all_to, all_of, is_false, same_test, true_or_false, clash}
use Rattle.model.proofs.Laws.Columns.{height_pos, height_two, top_le}
use Rattle.model.specs.Blocks.{Solid}
use Rattle.model.proofs.Laws.Fits.{Fitting, fitting_to, fitting_of}
use Rattle.model.proofs.Laws.Split.{free_to, free_of}
use Rattle.model.proofs.Laws.Limits.{Limits, limits_to}
use Rattle.model.proofs.Laws.Kept.{within_new}
use Rattle.model.proofs.Laws.ReadBack.{get_d_in}
use Rattle.model.specs.Parts.{splice}
use Rattle.model.proofs.Laws.Parts.{part_splice, part_splice_below, part_splice_above}
use Rattle.cells.specs.Bits.{cell_bit, RunIn, Marked}
use Rattle.cells.specs.Laws.Book.{BlockAt, shown_none, shown_mark, shown_free, earlier_apart}
use Rattle.cells.specs.Shown.{Shown, held_with}
use Rattle.marks.specs.Marks.{column_words, all_words, words_of, OnCells, FitsNowhere, BlockDue, BlockMarked, TaskMarked}

-- a multiple of h, by its quotient
quotient : (h z : ℕ) → z % h ≡ 0 → z ≡ h * (z / h)
quotient h z e = omega (arith, div-add-mod z h)

module _ (d : Device) (H : List ℕ) (k : Block) (p y : ℕ) where
  -- a block that fits nowhere
  pub refused : FitsNowhere d k p y → BlockMarked d H k p y H false
  refused f = record { answers = λ b t j x. sym (f b); marks = λ b t j x e. absurd (false≢true e) }

  module _ (s : Solid k) where
    abbrev h : ℕ
    h = height k.kind

    abbrev low : ℕ
    low = y + k.low - reach

    abbrev high : ℕ
    high = y + k.high - reach

    module _ {a e : ℕ} (x : OnCells d k p y a e) where
      bottom_is : low ≡ h * a
      bottom_is = rw x.first (quotient h low x.grid)

      top_is : high ≡ h * e
      top_is =
          let g = x.above in
          let u = s.full in
          let v = div-add-mod low h in
          let w = div-add-mod (k.high - k.low) h in
          let m : high ≡ h * (low / h + (k.high - k.low) / h) = omega (arith, x.grid, s.whole) in
          let q : high / h ≡ low / h + (k.high - k.low) / h = ap (λ (n : ℕ). n / h) m ∙ mul-div_cancel_left (low / h + (k.high - k.low) / h) (height_pos k.kind) in
          rw (x.last, q) m

      pub some_cells : a < e
      some_cells = let g = x.above in let u = s.full in lt_of_mul-lt-mul_left h (omega (arith, bottom_is, top_is))

      block_at : (t : List ℕ) (j : ℕ) → block t j ≡ k → BlockAt d (placed t p y) j (p + k.column) a e
      unfolding placed
      block_at t j i = record {
        column = ap (λ (b : Block). p + b.column) i;
        bottom = rw x.kind (ap (λ (b : Block). y + b.low - reach) i ∙ bottom_is);
        top = rw x.kind (ap (λ (b : Block). y + b.high - reach) i ∙ top_is);
        on = x.column;
        below = x.below;
      }

      -- THEOREM: what `mark` answers is whether the block fits, and then it is marked
      pub answered : (U : List ℕ) (ok : Bool) → Marked (words_of H (p + k.column)) a e (words_of U (p + k.column)) ok
          → ((i : ℕ) → ¬ (i ≡ p + k.column) → words_of U i ≡ words_of H i) → BlockMarked d H k p y U ok
      unfolding placed top top_in cells
      answered U ok m o = record {
        answers = λ b t j z. same_test ok (block_fits d b k p y) (λ g. to b t j z g) (λ g. of b t j z g (true_or_false ok));
        marks = λ b t j z g. shown_mark d b (placed t p y) j (p + k.column) a e (block_at t j z.is) (words_of H) z.shown (words_of U) ok m o;
      }
        where
          rows : (b : Book) (t : List ℕ) (j : ℕ) → BlockDue d H k p y b t j
              → ((i : ℕ) → a ≤ i → i < e → cell_bit (words_of H (p + k.column)) i ≡ false) ↔ ((z : ℕ) → low ≤ z → z < high → held b (p + k.column) z ≡ false)
          rows b t j z =
              let w = shown_free d b (placed t p y) j (p + k.column) a e (block_at t j z.is) (words_of H) z.shown
              (λ v l. rw (ap (λ (q : Block). p + q.column) z.is) at (earlier_apart t z.formed p y j z.among v l)) in
              rw z.is at w

          to : (b : Book) (t : List ℕ) (j : ℕ) → BlockDue d H k p y b t j → ok ≡ true → block_fits d b k p y ≡ true
          to b t j z g =
              let f = (rows b t j z).0 (m.was_free g) in
              let up = x.above in
              let full = s.full in
              let few : e ≤ cells_in d.rows k.kind = rw x.kind at x.below in
              let tall : high ≤ top d (p + k.column) = rw x.kind (omega (arith, top_is, mul-le-mul_left h few)) in
              fitting_of d b k p y (record {
                column = x.column;
                kind = x.kind;
                above = x.above;
                grid = x.grid;
                below = omega arith;
                free = λ i l. free_of d b (p + k.column) (low + i) x.column (omega arith) (f (low + i) (omega arith) (omega arith));
              })

          of : (b : Book) (t : List ℕ) (j : ℕ) → BlockDue d H k p y b t j → block_fits d b k p y ≡ true → (ok ≡ true) ⊎ (ok ≡ false) → ok ≡ true
          of b t j z g (inl q) = q
          of b t j z g (inr q) =
              let f = fitting_to d b k p y g in
              absurd (m.was_held q ((rows b t j z).1 (λ v l n. let w : low + (v - low) ≡ v = omega arith in
              (free_to d b (p + k.column) v (rw w at (f.free (v - low) (omega arith)))).2)))

-- ---- the words of a column, as they are lent

abbrev pub lent_words : List ℕ → ℕ → List ℕ
lent_words H c = take (column_words * c + column_words - column_words * c) (drop (column_words * c) H)

pub lent_length : (H : List ℕ) (c : ℕ) → length H ≡ all_words → c < max_columns → length (lent_words H c) ≡ column_words
lent_length H c l q = simp (length-take, length-drop) (omega arith)

-- ---- the device

module _ (d : Device) (ok : device_ok d ≡ true) where
  limits : Limits d []
  limits = limits_to d [] (within_new d ok)

  pub few_columns : length d.kinds ≤ max_columns
  unfolding columns
  few_columns = limits.columns

  pub few_rows : d.rows ≤ max_rows
  few_rows = limits.rows

  pub kind_low : (c : ℕ) → c < length d.kinds → get_or d.kinds c 0 ≤ max_kind
  kind_low c q = limits.kinds (get_or d.kinds c 0) (get_d_in d.kinds c 0 q)

  pub few_cells : (i : ℕ) → cells d i ≤ max_rows
  unfolding cells cells_in
  few_cells i =
      let h = height (kind d i) in
      let l = limits.rows in
      let m = mul-le-mul_right {m = 2} {n = h} (2 * d.rows / h) (height_two (kind d i)) in
      omega (arith, mul-div-le (2 * d.rows) h)

-- ---- where a block is

module _ (d : Device) (k : Block) (p y : ℕ) where
  nowhere : ((b : Book) → Fitting d b k p y → ⊥) → FitsNowhere d k p y
  nowhere f b = is_false (block_fits d b k p y) (λ h. f b (fitting_to d b k p y h))

  pub off_kind : (n : ℕ) → n ≡ k.kind → ¬ ((p + k.column < columns d) × (kind d (p + k.column) ≡ n)) → FitsNowhere d k p y
  off_kind n e g = nowhere (λ b f. g (f.column, f.kind ∙ sym e))

  pub off_grid : ¬ ((reach ≤ y + k.low) × ((y + k.low - reach) % height k.kind ≡ 0)) → FitsNowhere d k p y
  off_grid g = nowhere (λ b f. g (f.above, f.grid))

  pub too_high : 2 * d.rows < y + k.high - reach → FitsNowhere d k p y
  too_high l = nowhere (λ b f. omega (arith, f.below, top_le d (p + k.column)))

  pub on_cells : (a e n : ℕ) → n ≡ k.kind → (p + k.column < columns d) × (kind d (p + k.column) ≡ n)
      → (reach ≤ y + k.low) × ((y + k.low - reach) % height k.kind ≡ 0)
      → a ≡ (y + k.low - reach) / height k.kind → e ≡ (y + k.high - reach) / height k.kind → y + k.high - reach ≤ 2 * d.rows → OnCells d k p y a e
  unfolding cells cells_in
  on_cells a e n u (l, v) (g, w) i j f =
      let is : kind d (p + k.column) ≡ k.kind = v ∙ u in
      let h = height k.kind in
      record {
        column = l;
        kind = is;
        above = g;
        grid = w;
        first = i;
        last = j;
        below = rw (is, j) ((le-div_iff_mul-le (height_pos k.kind)).1 (omega (arith, mul-div-le (y + k.high - reach) h)));
      }

-- its column is one of a record's
pub on_card : (d : Device) (k : Block) (p y : ℕ) {a e : ℕ} → device_ok d ≡ true → OnCells d k p y a e → p + k.column < max_columns
unfolding columns
on_card d k p y ok x = omega (arith, few_columns d ok, x.column)

module _ (d : Device) (H : List ℕ) (k : Block) (p y : ℕ) where
  module _ (s : Solid k) where
    -- ---- the words as they are lent

    module _ (v : device_ok d ≡ true) (w : length H ≡ all_words) {a e : ℕ} (x : OnCells d k p y a e) where
      pub run_of : RunIn (lent_words H (p + k.column)) a e
      run_of =
          let n = few_cells d v (p + k.column) in
          let l = lent_length H (p + k.column) w (on_card d k p y v x) in
          record { some = some_cells d H k p y s x; room = omega (arith, x.below); short = omega arith }

      pub block_marked : (N U : List ℕ) (ok : Bool) → Marked (lent_words H (p + k.column)) a e N ok → length N ≡ column_words → U ≡ splice H (column_words * (p + k.column)) column_words N → BlockMarked d H k p y U ok
      unfolding part
      block_marked N U ok m l u =
          let c = p + k.column in
          let whole : column_words * c + column_words - column_words * c ≡ column_words = omega arith in
          let fits : column_words * c + column_words ≤ length H = omega (arith, w, on_card d k p y v x) in
          let here : words_of U c ≡ N = ap (λ (l : List ℕ). words_of l c) u ∙ part_splice H (column_words * c) column_words N fits l in
          answered d H k p y s x U ok (rw here (rw whole at m))
          (λ i n. ap (λ (l : List ℕ). words_of l i) u ∙ other i fits n (lt_or_ge i c))
        where
          other : (i : ℕ) → column_words * (p + k.column) + column_words ≤ length H → ¬ (i ≡ p + k.column) → (i < p + k.column) ⊎ (p + k.column ≤ i)
              → words_of (splice H (column_words * (p + k.column)) column_words N) i ≡ words_of H i
          other i fits n (inl q) = part_splice_below H (column_words * (p + k.column)) column_words N fits l (column_words * i) column_words (omega arith)
          other i fits n (inr q) = part_splice_above H (column_words * (p + k.column)) column_words N fits l (column_words * i) column_words (omega arith)

-- ---- a task, block by block

pub record TaskMarking (d : Device) (H t : List ℕ) (p y : ℕ) (U : List ℕ) (i : ℕ) : Type 0 where
  pub fitting : (b : Book) → Shown d (held b) (words_of H) → (j : ℕ) → j < i → block_fits d b (block t j) p y ≡ true
  pub shown : (b : Book) → Shown d (held b) (words_of H) → Shown d (held_with b (placed t p y) i) (words_of U)

module _ (d : Device) (H t : List ℕ) (p y : ℕ) where
  pub blocks_start : TaskMarking d H t p y H 0
  blocks_start = record {
    fitting = λ b s j q. absurd (omega arith);
    shown = λ b s. shown_none d b (placed t p y) (words_of H) s;
  }

  module _ (w : well_formed t ≡ true) {U : List ℕ} {i : ℕ} (m : TaskMarking d H t p y U i) (q : i < blocks t) {N : List ℕ} {ok : Bool} (k : Block) (e : k ≡ block t i) (x : BlockMarked d U k p y N ok) where
    here : (b : Book) → Shown d (held b) (words_of H) → BlockDue d U k p y b t i
    here b s = record { formed = w; among = q; is = sym e; shown = m.shown b s }

    pub blocks_refused : ok ≡ false → TaskMarked d H t p y N false
    unfolding fits
    blocks_refused f = record {
      answers = λ b s. sym (is_false (fits d b t p y) (λ g.
          clash (rw e (all_to (blocks t) (λ j. block_fits d b (block t j) p y) g i q)) (sym (x.answers b t i (here b s)) ∙ f)));
      marks = λ b s g. absurd (false≢true g);
    }

    pub blocks_next : ok ≡ true → TaskMarking d H t p y N (i + 1)
    blocks_next f = record {
      fitting = λ b s. below_more _ i (m.fitting b s) (rw (← e) (sym (x.answers b t i (here b s)) ∙ f));
      shown = λ b s. rw (add-one i) (x.marks b t i (here b s) f);
    }

  pub blocks_end : {U : List ℕ} {i : ℕ} → TaskMarking d H t p y U i → i ≡ blocks t → TaskMarked d H t p y U true
  unfolding fits
  blocks_end {i = i} m e = record {
    answers = λ b s. sym (all_of (blocks t) (λ j. block_fits d b (block t j) p y) (λ j q. m.fitting b s j (omega arith)));
    marks = λ b s g. rw e at (m.shown b s);
  }
