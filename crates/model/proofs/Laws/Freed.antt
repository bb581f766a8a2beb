-- MODEL 12.4 and 12.5: what is free once a task is entered, and once it is taken out: what place cuts from the intervals, and what release joins.
-- Assumes nothing.
use Rattle.std.specs.Prelude.{ℕ, ◌/◌, ◌%◌, ◌<◌, ◌≡◌, ◌⊎◌, ◌↔◌, true, false, ◌||◌, []}
use Rattle.std.proofs.Common.{sym, ap, ◌∙◌, inl, inr, mod-lt}
use Rattle.std.proofs.Math.Nat.{div-add-mod}
use Rattle.model.specs.Columns.{Device, columns, height, kind, top}
use Rattle.model.specs.Book.{Running, Book, covered, standing, held, free, holds_cell}
use Rattle.model.specs.Sound.{within}
use Rattle.model.specs.Calls.{insert, without}
use Rattle.model.specs.Bounded.{In}
use Rattle.model.proofs.Laws.Bounded.{any_in_to, is_false, true_or_false}
use Rattle.model.proofs.Laws.Columns.{height_pos}
use Rattle.model.proofs.Laws.Limits.{limits_to}
use Rattle.model.proofs.Laws.Cells.{covered_holds}
use Rattle.model.proofs.Laws.Split.{neither, free_to, free_of, covered_free, without_to, held_insert, held_without}
use Rattle.model.proofs.Laws.Kept.{apart_cells}

-- THEOREM: once a task is entered, a half row is free where it was and the task does not cover it
pub free_insert : (d : Device) (b : Book) (e : Running) (c z : ℕ) → (free d (insert e b) c z ≡ true) ↔ ((free d b c z ≡ true) × (covered (standing e) c z ≡ false))
free_insert d b e c z = (
  λ h.
      let (u, v, w) = free_to d (insert e b) c z h in
      let (x, y) = neither (covered (standing e) c z) (held b c z) (sym (held_insert c z e b) ∙ w) in
      (free_of d b c z u v y, x),
  λ (h, x). let (u, v, w) = free_to d b c z h in free_of d (insert e b) c z u v (held_insert c z e b ∙ rw (x, w)),
)

module _ (d : Device) (b : Book) (w : within d b ≡ true) (e : Running) (i : In e b) (c z : ℕ) where
  -- a half row lies in a cell
  cell_of : (f : Running) → In f b → covered (standing f) c z ≡ true → holds_cell d f c (z / height (kind d c)) ≡ true
  cell_of f j h =
      sym (covered_holds d f ((limits_to d b w).entries f j) c (z / height (kind d c)) (z % height (kind d c)) (mod-lt z (height_pos (kind d c))))
      ∙ ap (covered (standing f) c) (div-add-mod z (height (kind d c))) ∙ h

  -- no two running tasks cover one half row
  pub apart_rows : (f : Running) → In f b → ¬ (e.number ≡ f.number) → covered (standing e) c z ≡ true → covered (standing f) c z ≡ true → ⊥
  apart_rows f j n x y = apart_cells d b w e f i j n c (z / height (kind d c)) (cell_of e i x) (cell_of f j y)

  -- so no other task holds what one covers
  pub held_others : covered (standing e) c z ≡ true → held (without e.number b) c z ≡ false
  unfolding held
  held_others x =
      is_false (held (without e.number b) c z)
      (λ h.
      let (f, j, y) = any_in_to (λ f. covered (standing f) c z) (without e.number b) h in
      let (k, n) = without_to e.number f b j in
      apart_rows f k (λ q. n (sym q)) x y)

  -- THEOREM: once a running task is taken out, a half row is free where the task covered it or where it was free
  pub free_without : (free d (without e.number b) c z ≡ true) ↔ ((covered (standing e) c z ≡ true) ⊎ (free d b c z ≡ true))
  free_without = (λ h. to (free_to d (without e.number b) c z h) (true_or_false (covered (standing e) c z)), of)
    where
      split : held b c z ≡ (covered (standing e) c z || held (without e.number b) c z)
      split = held_without c z 0 b (limits_to d b w).rising e i

      to : (c < columns d) × (z < top d c) × (held (without e.number b) c z ≡ false)
          → (covered (standing e) c z ≡ true) ⊎ (covered (standing e) c z ≡ false) → (covered (standing e) c z ≡ true) ⊎ (free d b c z ≡ true)
      to (u, v, h) (inl x) = inl x
      to (u, v, h) (inr x) = inr (free_of d b c z u v (split ∙ rw (x, h)))

      of : (covered (standing e) c z ≡ true) ⊎ (free d b c z ≡ true) → free d (without e.number b) c z ≡ true
      of (inl x) =
          let (u, v, h) = free_to d [] c z (covered_free d [] e.task e.column e.bottom ((limits_to d b w).entries e i).fits c z x) in
          free_of d (without e.number b) c z u v (held_others x)
      of (inr y) =
          let (u, v, h) = free_to d b c z y in
          free_of d (without e.number b) c z u v (neither (covered (standing e) c z) (held (without e.number b) c z) (sym split ∙ h)).1
