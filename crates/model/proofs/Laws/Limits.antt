-- MODEL 9.2 to 9.6: what it is for a device and a book to be within the limits, as facts about rows, columns, numbers, tasks and cells.
-- Assumes nothing.
use Rattle.std.specs.Prelude.{ℕ, zero, suc, ◌≤◌, ◌<◌, ◌≡◌, refl, true, false, not, ◌&&◌, List, [], ◌∷◌, leb, ltb, length, get_or}
use Rattle.std.proofs.Common.{sym, ap, ◌∙◌, inl, inr, arith, le-leb, lt-ltb, leb-true}
use Rattle.std.proofs.lemmas.Bool.{not-true}
use Rattle.runs.specs.Laws.Tests.{tests}
use Rattle.model.specs.Limits.{max_rows, max_columns, max_kind, max_running, max_number}
use Rattle.model.specs.Bounded.{any_below, all_in, In}
use Rattle.model.specs.Columns.{Device, columns, kind, cells, device_ok}
use Rattle.model.specs.Tasks.{sized, well_formed}
use Rattle.model.specs.Book.{Running, Book, fits, holds_cell}
use Rattle.model.specs.Sound.{number_ok, rising, task_ok, share, apart, book_ok, within}
use Rattle.model.proofs.Laws.Bounded.{and_to, and_of, and3_to, and5_to, is_false, clash, any_to, any_of_one, all_in_to, all_in_of}

-- ---- rising numbers

-- the numbers of b rise, and are all above m
abbrev pub Rising : ℕ → Book → Type 0
Rising m [] = Unit {0}
Rising m (e ∷ b) = (m < e.number) × Rising e.number b

rising_to : (m : ℕ) (e : Running) (b : Book) → m < e.number → rising (e ∷ b) ≡ true → Rising m (e ∷ b)
unfolding rising
rising_to m e [] l h = (l, tt)
rising_to m e (f ∷ b) l h = let (x, y) = and_to (ltb e.number f.number) (rising (f ∷ b)) h in (l, rising_to e.number f b (omega tests) y)

rising_of : (m : ℕ) (b : Book) → Rising m b → rising b ≡ true
unfolding rising
rising_of m [] h = refl
rising_of m (e ∷ []) h = refl
rising_of m (e ∷ f ∷ b) h = and_of (ltb e.number f.number) (rising (f ∷ b)) (lt-ltb e.number f.number h.1.0) (rising_of e.number (f ∷ b) h.1)

-- each number of b is above m
pub rising_above : (m : ℕ) (b : Book) → Rising m b → (e : Running) → In e b → m < e.number
rising_above m [] r e i = absurd i
rising_above m (f ∷ b) r e (inl q) = omega (arith, r.0, ap (λ (x : Running). x.number) q)
rising_above m (f ∷ b) r e (inr i) = omega (arith, r.0, rising_above f.number b r.1 e i)

-- one task to a number
pub one_number : (m : ℕ) (b : Book) → Rising m b → (e f : Running) → In e b → In f b → e.number ≡ f.number → e ≡ f
one_number m [] r e f i j n = absurd i
one_number m (g ∷ b) r e f (inl p) (inl q) n = p ∙ sym q
one_number m (g ∷ b) r e f (inl p) (inr j) n = absurd (omega (arith, ap (λ (x : Running). x.number) p, rising_above g.number b r.1 f j))
one_number m (g ∷ b) r e f (inr i) (inl q) n = absurd (omega (arith, ap (λ (x : Running). x.number) q, rising_above g.number b r.1 e i))
one_number m (g ∷ b) r e f (inr i) (inr j) n = one_number g.number b r.1 e f i j n

-- ---- no cell shared

-- e and f hold no cell of the device both
abbrev pub Parted : Device → Running → Running → Type 0
Parted d e f = (c k : ℕ) → c < columns d → k < cells d c → holds_cell d e c k ≡ true → holds_cell d f c k ≡ true → ⊥

share_to : (d : Device) (e f : Running) → share d e f ≡ false → Parted d e f
unfolding share
share_to d e f h c k l g x y =
    clash (any_of_one (columns d) _ c l (any_of_one (cells d c) _ k g (and_of (holds_cell d e c k) (holds_cell d f c k) x y))) h

share_of : (d : Device) (e f : Running) → Parted d e f → share d e f ≡ false
unfolding share
share_of d e f h =
    is_false _
    (λ s.
    let (c, l, u) = any_to (columns d) (λ c. any_below (cells d c) (λ k. holds_cell d e c k && holds_cell d f c k)) s in
    let (k, g, v) = any_to (cells d c) (λ k. holds_cell d e c k && holds_cell d f c k) u in
    let (x, y) = and_to (holds_cell d e c k) (holds_cell d f c k) v in
    h c k l g x y)

-- no two tasks of b, of different numbers, hold one cell both
abbrev pub AllParted : Device → Book → Type 0
AllParted d b = (e f : Running) → In e b → In f b → ¬ (e.number ≡ f.number) → Parted d e f

parted_to : (d : Device) (b : Book) → apart d b ≡ true → AllParted d b
unfolding apart
parted_to d [] h e f i j n = absurd i
parted_to d (g ∷ b) h e f i j n = let (first, rest) = and_to (all_in (λ f. not (share d g f)) b) (apart d b) h in go first (λ i j. parted_to d b rest e f i j n) i j
  where
    go : all_in (λ f. not (share d g f)) b ≡ true → (In e b → In f b → Parted d e f) → In e (g ∷ b) → In f (g ∷ b) → Parted d e f
    go first rest (inl p) (inl q) = absurd (n (ap (λ (x : Running). x.number) (p ∙ sym q)))
    go first rest (inl p) (inr j) = rw p (share_to d g f (not-true (share d g f) (all_in_to (λ f. not (share d g f)) b first f j)))
    go first rest (inr i) (inl q) = rw q (λ c k l r x y. share_to d g e (not-true (share d g e) (all_in_to (λ f. not (share d g f)) b first e i)) c k l r y x)
    go first rest (inr i) (inr j) = rest i j

parted_of : (d : Device) (m : ℕ) (b : Book) → Rising m b → AllParted d b → apart d b ≡ true
unfolding apart
parted_of d m [] r h = refl
parted_of d m (g ∷ b) r h =
    and_of (all_in (λ f. not (share d g f)) b) (apart d b)
    (all_in_of (λ f. not (share d g f)) b (λ f j. rw (share_of d g f (h g f (inl refl) (inr j) (λ q. omega (arith, rising_above g.number b r.1 f j))))))
    (parted_of d g.number b r.1 (λ e f i j n. h e f (inr i) (inr j) n))

-- ---- the limits

-- a running task: its number, and its task at its own position on the empty device
pub record Entry (d : Device) (e : Running) : Type 0 where
  pub number_one : 1 ≤ e.number
  pub number : e.number ≤ max_number
  pub sized : sized e.task ≡ true
  pub well_formed : well_formed e.task ≡ true
  pub fits : fits d [] e.task e.column e.bottom ≡ true

pub record Limits (d : Device) (b : Book) : Type 0 where
  pub rows_one : 1 ≤ d.rows
  pub rows : d.rows ≤ max_rows
  pub columns_one : 1 ≤ columns d
  pub columns : columns d ≤ max_columns
  pub kinds : (k : ℕ) → In k d.kinds → k ≤ max_kind
  pub few : length b ≤ max_running
  pub entries : (e : Running) → In e b → Entry d e
  pub rising : Rising 0 b
  pub parted : AllParted d b

entry_to : (d : Device) (e : Running) → number_ok e.number ≡ true → task_ok d e ≡ true → Entry d e
unfolding number_ok task_ok
entry_to d e n t =
    let (x, y) = and_to (leb 1 e.number) (leb e.number max_number) n in
    let (s, w, f) = and3_to (sized e.task) (well_formed e.task) (fits d [] e.task e.column e.bottom) t in
    record { number_one = omega tests; number = omega tests; sized = s; well_formed = w; fits = f }

entry_number : (d : Device) (e : Running) → Entry d e → number_ok e.number ≡ true
unfolding number_ok
entry_number d e h = rw (le-leb 1 e.number h.number_one, le-leb e.number max_number h.number)

entry_task : (d : Device) (e : Running) → Entry d e → task_ok d e ≡ true
unfolding task_ok
entry_task d e h = rw (h.sized, h.well_formed, h.fits)

book_rising : (b : Book) → ((e : Running) → In e b → 1 ≤ e.number) → rising b ≡ true → Rising 0 b
book_rising [] n h = tt
book_rising (e ∷ b) n h = rising_to 0 e b (omega (arith, n e (inl refl))) h

pub within_device : (d : Device) (b : Book) → within d b ≡ true → device_ok d ≡ true
unfolding within
within_device d b w = (and_to (device_ok d) (book_ok d b) w).0

-- THEOREM: what the limits say
pub limits_to : (d : Device) (b : Book) → within d b ≡ true → Limits d b
unfolding within book_ok device_ok
limits_to d b w =
    let (v, u) = and_to (device_ok d) (book_ok d b) w in
    let (v1, v2, v3, v4, v5) = and5_to (leb 1 d.rows) (leb d.rows max_rows) (leb 1 (columns d)) (leb (columns d) max_columns) (all_in (λ k. leb k max_kind) d.kinds) v in
    let (u1, u2, u3, u4, u5) = and5_to (leb (length b) max_running) (all_in (λ e. number_ok e.number) b) (rising b) (all_in (task_ok d) b) (apart d b) u in
    let entry : (e : Running) → In e b → Entry d e = λ e i. entry_to d e (all_in_to (λ e. number_ok e.number) b u2 e i) (all_in_to (task_ok d) b u4 e i) in
    record {
      rows_one = omega tests;
      rows = omega tests;
      columns_one = omega tests;
      columns = omega tests;
      kinds = λ k i. leb-true k max_kind (all_in_to (λ k. leb k max_kind) d.kinds v5 k i);
      few = omega tests;
      entries = entry;
      rising = book_rising b (λ e i. (entry e i).number_one) u3;
      parted = parted_to d b u5;
    }

-- and what is enough for them
pub within_of : (d : Device) (b : Book) → device_ok d ≡ true → length b ≤ max_running → ((e : Running) → In e b → Entry d e) → Rising 0 b → AllParted d b → within d b ≡ true
unfolding within book_ok
within_of d b v l n r a =
    rw (
      v,
      le-leb (length b) max_running l,
      all_in_of (λ e. number_ok e.number) b (λ e i. entry_number d e (n e i)),
      rising_of 0 b r,
      all_in_of (task_ok d) b (λ e i. entry_task d e (n e i)),
    )
    (parted_of d 0 b r a)

-- every column's kind is 0 to 2; where there is no column, it is read as 0
pub kind_le : (d : Device) (b : Book) → Limits d b → (c : ℕ) → kind d c ≤ max_kind
unfolding kind
kind_le d b l = go d.kinds l.kinds
  where
    go : (ks : List ℕ) → ((k : ℕ) → In k ks → k ≤ max_kind) → (c : ℕ) → get_or ks c 0 ≤ max_kind
    go [] h c = omega arith
    go (k ∷ ks) h zero = h k (inl refl)
    go (k ∷ ks) h (suc c) = go ks (λ x i. h x (inr i)) c
