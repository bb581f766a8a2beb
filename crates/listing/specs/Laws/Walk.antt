-- The walk of one block along a list of lifted bottoms, in the code's shape: run i of the list against interval j of the block's column. Assumes nothing.
use Rattle.std.specs.Prelude.{ℕ, zero, suc, ◌+◌, ◌-◌, ◌*◌, ◌≤◌, ◌<◌, ◌≡◌, refl, ◌⊎◌, List, [], ◌∷◌, length, get_or, drop}
use Rattle.std.proofs.Common.{sym, ap, ◌∙◌, inl, inr, arith, add-one, add-zero, drop-cons}
use Rattle.std.proofs.lemmas.List.{drop_all}
use Rattle.std.proofs.lemmas.Option.{slice_get_within, get_or_from_slice_get}
use Rattle.runs.specs.Runs.{Run, run, Mem, push}
use Rattle.runs.specs.Intervals.{Interval, interval, Multiple, OnGrid}
use Rattle.runs.specs.Meet.{Step, Proper, Lcm, Both_of}
use Rattle.runs.specs.Laws.Runs.{InStep}
use Rattle.runs.specs.Laws.Steps.{multiple_le, multiple_sub}
use Rattle.runs.specs.Laws.Canon.{from_weaken}
use Rattle.runs.specs.Laws.Lcm.{lcm_unique, product_small}
use Rattle.runs.specs.Laws.Both.{Walk, Put, is_in_both, both_steps, written_met, pass_left, pass_right, walk_start, walk_done, written_of}
use Rattle.runs.specs.declared.Range.{Range}
use Rattle.model.specs.Limits.{max_rows, reach}
use Rattle.model.specs.Columns.{height}
use Rattle.model.specs.Tasks as model
use Rattle.model.proofs.Laws.Columns.{height_two, height_ten}
use Rattle.column.specs.Part.{interval_at, listed_from, listed_in, ReadAt}
use Rattle.column.specs.declared.Interval.{Interval as Read}
use Rattle.listing.specs.Bottoms.{lift, bottoms_in, range_in, bottoms}
use Rattle.listing.specs.Lists.{range, Pushable, Puttable, Joined, Meetable, Met}
use Rattle.listing.specs.Laws.Bottoms.{bottoms_none, bottoms_short, bottoms_tall, bottoms_from, bottoms_spaced}
use Rattle.listing.specs.Laws.Lists.{steps_at, ends_named, few_runs}

pub height_step : (k : ℕ) → Step (height k)
height_step k = omega (arith, height_two k, multiple_le (height k) 10 (omega arith) (height_ten k))

-- ---- the intervals of a part, one after the other

length_from : (p : List ℕ) (i n : ℕ) → length (listed_from p i n) ≡ n
length_from p i zero = refl
length_from p i (suc n) = ap suc (length_from p (suc i) n)

length_listed : (p : List ℕ) (n : ℕ) → length (listed_in p n) ≡ n
unfolding listed_in
length_listed p n = length_from p 0 n

from_at : (p : List ℕ) (i n j : ℕ) (d : Interval) → j < n → get_or (listed_from p i n) j d ≡ interval_at p (i + j)
from_at p i zero j d l = absurd (omega arith)
from_at p i (suc n) zero d l = rw add-zero
from_at p i (suc n) (suc j) d l = let e : suc i + j ≡ i + suc j = omega arith in rw e at (from_at p (suc i) n j d (omega arith))

pub listed_at : (p : List ℕ) (n j : ℕ) (d : Interval) → j < n → get_or (listed_in p n) j d ≡ interval_at p j
unfolding listed_in
listed_at p n j d l = let e : 0 + j ≡ j = omega arith in rw e at (from_at p 0 n j d l)

grid_at : (h j : ℕ) (L : List Interval) (d : Interval) → OnGrid h L → j < length L → Multiple h (get_or L j d).bottom × Multiple h (get_or L j d).top
grid_at h j [] d g l = absurd (omega arith)
grid_at h zero (i ∷ L) d (x, z, g) l = (x, z)
grid_at h (suc j) (i ∷ L) d (x, z, g) l = grid_at h j L d g (omega arith)

-- ---- the walk

-- the runs A below i are passed, and the intervals I below j; O is written
abbrev pub Walking : List Interval → model.Block → ℕ → List Run → ℕ → ℕ → List Run → Type 0
Walking I k s A i j O =
    (l : ℕ) → Lcm s (height k.kind) l
    → Walk s (height k.kind) l (is_in_both s (height k.kind) A (bottoms k.low k.high I)) (drop i A) (bottoms k.low k.high (drop j I)) O

-- the intervals of a part
module _ (part : List ℕ) (count : ℕ) (k : model.Block) (A : List Run) (s : ℕ) (m : Meetable (listed_in part count) k A s) where
  abbrev I : List Interval
  I = listed_in part count

  abbrev h : ℕ
  h = height k.kind

  abbrev B : List Run
  B = bottoms k.low k.high I

  pub walking_start : Walking I k s A 0 0 []
  walking_start l p =
      walk_start s h A B l m.canon
      (from_weaken h 0 (0 + lift + reach - k.low) B (omega arith) (bottoms_from h k.low k.high m.full (omega (arith, m.below)) m.whole 0 I m.apart m.grid))

  -- what both name is in steps of their least common multiple
  spaced : (l : ℕ) → Lcm s h l → InStep l (is_in_both s h A B)
  spaced l p = both_steps s h A B l p m.spaced (bottoms_spaced h k.low k.high m.full (omega (arith, m.below)) m.whole 0 I m.apart m.grid)

  -- the code reads interval j
  module _ (j : ℕ) (read : Read) (g : j < count) (at : ReadAt part j read) where
    abbrev y : Interval
    y = interval read.bottom read.top

    within : j < length I
    within = omega (arith, length_listed part count)

    is_y : get_or I j y ≡ y
    is_y = listed_at part count j y g ∙ sym at.is

    drop_y : drop j I ≡ y ∷ drop (j + 1) I
    drop_y = rw (add-one, drop-cons I j y within, is_y)

    pub ends_of : (read.bottom < read.top) × (read.top ≤ 2 * max_rows)
    ends_of = rw is_y at (m.ends j y within)

    -- it is too short
    pub walking_short : (i : ℕ) (O : List Run) → read.top - read.bottom < k.high - k.low → Walking I k s A i j O → Walking I k s A i (j + 1) O
    walking_short i O t w l p = rw (drop_y, bottoms_short k.low k.high y (drop (j + 1) I) t) at (w l p)

    -- it is not, and x is run i
    module _ (i : ℕ) (x : Run) (in_A : i < length A) (is_x : get_or A i x ≡ x) (t : k.high - k.low ≤ read.top - read.bottom) where
      -- the block's bottoms in the interval
      abbrev z : Run
      z = bottoms_in k.low k.high y

      abbrev X : List Run
      X = drop (i + 1) A

      abbrev Y : List Run
      Y = bottoms k.low k.high (drop (j + 1) I)

      left : drop i A ≡ x ∷ X
      left = rw (add-one, drop-cons A i x in_A, is_x)

      right : bottoms k.low k.high (drop j I) ≡ z ∷ Y
      right = ap (bottoms k.low k.high) drop_y ∙ bottoms_tall k.low k.high y (drop (j + 1) I) t

      current : (O : List Run) → Walking I k s A i j O → (l : ℕ) → Lcm s h l → Walk s h l (is_in_both s h A B) (x ∷ X) (z ∷ Y) O
      current O w l p = rw (left, right) at (w l p)

      -- as ranges of the code
      abbrev pub a : Range
      a = range s x

      abbrev pub b : Range
      b = range_in k.low k.high h y.bottom y.top

      proper_left : Proper a
      proper_left = record {
        step = m.step;
        last = rw is_x at (steps_at s 0 A m.canon i x in_A);
        bound = omega (arith, m.bound x.last (rw is_x at (ends_named s 0 A m.canon i x in_A)).1);
      }

      proper_right : Proper b
      proper_right =
          let e = ends_of in
          let f = m.full in
          let b = m.below in
          let (u, v) = rw is_y at (grid_at h j I y m.grid within) in
          let (o, n) = multiple_sub h (y.top - y.bottom) (k.high - k.low) (multiple_sub h y.top y.bottom v u (omega arith)) m.whole t in
          record { step = height_step k.kind; last = (o, omega arith); bound = omega arith }

      -- what is met of the two is put at the end
      put_both : (O : List Run) (e : Range) → Both_of a b e → Put e.step x z s h O (push e.step (run e.first e.last) O)
      put_both O e c = inr (run e.first e.last, c.named, c.last, refl)

      put_of : (O O' : List Run) (l : ℕ) → Lcm s h l → Joined a b O O' → Put l x z s h O O'
      put_of O O' l p (inl (none, e)) = inl (none, e)
      put_of O O' l p (inr (e, c, o)) = let u : e.step ≡ l = lcm_unique s h e.step l c.lcm p in rw (o, u) (rw u at (put_both O e c))

      two : (l : ℕ) → Lcm s h l → 2 ≤ l
      two l p = omega (arith, height_two k.kind, multiple_le h l p.pos p.right)

      -- there is room for it
      room_for : (O : List Run) → Walking I k s A i j O → (e : Range) → Both_of a b e → Pushable O e
      room_for O w e c =
          let v = current O w e.step c.lcm in
          let made =
          written_met s h e.step (is_in_both s h A B) m.step.0 (omega (arith, height_two k.kind)) (spaced e.step c.lcm) x z X Y O v
          (push e.step (run e.first e.last) O) (put_both O e c) in
          record {
            fits = few_runs e.step (push e.step (run e.first e.last) O) (two e.step c.lcm) made.canon
                (λ y n. m.bound y (written_of s h A B e.step _ y (push e.step (run e.first e.last) O) made n));
            step = omega (arith, c.lcm.small, product_small s h m.step (height_step k.kind));
            last = λ q is.
                let i = length O - 1 in
                let named = rw (get_or_from_slice_get O i q q is) at (ends_named e.step 0 O v.written.canon i q (slice_get_within O i q is)).1 in
                omega (arith, m.bound q.last (written_of s h A B e.step v.n q.last O v.written named));
          }

      -- c and d are the code's ranges of the two
      module _ (c d : Range) (is_a : c ≡ a) (is_b : d ≡ b) where
        pub puttable : (O : List Run) → Walking I k s A i j O → Puttable O c d
        puttable O w = rw (is_a, is_b) (record { left = proper_left; right = proper_right; pushable = room_for O w })

        -- the run that ends first is passed
        pub walking_left : (O O' : List Run) → Walking I k s A i j O → Joined c d O O' → c.last < d.last → Walking I k s A (i + 1) j O'
        walking_left O O' w v e l p =
            rw right
            (pass_left s h l (is_in_both s h A B) m.step.0 (omega (arith, height_two k.kind)) (spaced l p) x z X Y O (current O w l p) O'
            (put_of O O' l p (rw (is_a, is_b) at v)) (omega (arith, rw (is_a, is_b) at e)))

        pub walking_right : (O O' : List Run) → Walking I k s A i j O → Joined c d O O' → d.last ≤ c.last → Walking I k s A i (j + 1) O'
        walking_right O O' w v e l p =
            rw left
            (pass_right s h l (is_in_both s h A B) m.step.0 (omega (arith, height_two k.kind)) (spaced l p) x z X Y O (current O w l p) O'
            (put_of O O' l p (rw (is_a, is_b) at v)) (rw (is_a, is_b) at e))

  -- one of the two is at its end
  pub walking_done : (i j : ℕ) (O : List Run) → (length A ≤ i) ⊎ (count ≤ j) → Walking I k s A i j O → Met I k s A O
  walking_done i j O e w l p =
      walk_done s h A B l (drop i A) (bottoms k.low k.high (drop j I)) O (w l p) (λ y u v. none y e u v)
    where
      none : (y : ℕ) → (length A ≤ i) ⊎ (count ≤ j) → Mem s y (drop i A) → Mem h y (bottoms k.low k.high (drop j I)) → ⊥
      none y (inl q) u v = rw (drop_all i A q) at u
      none y (inr q) u v = rw (drop_all j I (omega (arith, length_listed part count)), bottoms_none k.low k.high) at v
