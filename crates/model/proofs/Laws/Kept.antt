-- Every call on the book keeps the device and the book within the limits (MODEL 9.2 to 9.6); and no two running tasks hold one cell (MODEL 15.4).
-- Assumes nothing.
use Rattle.std.specs.Prelude.{ℕ, suc, ◌+◌, ◌*◌, ◌≤◌, ◌<◌, ◌≡◌, refl, Bool, true, false, not, cond, ◌||◌, List, [], ◌∷◌, leb, ltb, eqb, ℤ, pos, negsuc, length}
use Rattle.std.proofs.Common.{sym, ap, ◌∙◌, inl, inr, arith, eq-eqb}
use Rattle.std.proofs.Math.Option.{Option, none, some}
use Rattle.std.proofs.Math.Nat.{lt_of_mul-lt-mul_left}
use Rattle.std.proofs.lemmas.Bool.{not-false}
use Rattle.runs.specs.Laws.Tests.{tests, cond_ind}
use Rattle.model.specs.Limits.{max_running, max_number}
use Rattle.model.specs.Columns.{Device, columns, height, kind, top_in, cells, top, device_ok}
use Rattle.model.specs.Tasks.{sized, well_formed}
use Rattle.model.specs.Book.{Running, Book, covered, standing, held, fits, fits_at, holds_cell}
use Rattle.model.specs.Sound.{number_ok, within}
use Rattle.model.specs.Calls.{Call, list, choose, place, release, lent, refused, refusals, runs_in, insert, without, natural, running, done, unless, on_book}
use Rattle.model.specs.Bounded.{In}
use Rattle.model.proofs.Laws.Bounded.{and_to, any_to, any_in_of, clash}
use Rattle.model.proofs.Laws.Entries.{length_insert}
use Rattle.model.proofs.Laws.Limits.{Rising, Parted, Entry, limits_to, within_device, within_of}
use Rattle.model.proofs.Laws.Cells.{covered_holds}
use Rattle.model.proofs.Laws.Split.{free_to, covered_free, fits_split, neither, insert_to, without_to}

-- ---- cells

-- a task that fits holds only cells of the device
pub holds_on : (d : Device) (e : Running) → Entry d e → (c k : ℕ) → holds_cell d e c k ≡ true → (c < columns d) × (k < cells d c)
unfolding holds_cell top top_in cells
holds_on d e n c k h =
    let (i, l, q) = any_to (height (kind d c)) (λ i. covered (standing e) c (height (kind d c) * k + i)) h in
    let (u, v, w) = free_to d [] c (height (kind d c) * k + i) (covered_free d [] e.task e.column e.bottom n.fits c (height (kind d c) * k + i) q) in
    (u, lt_of_mul-lt-mul_left (height (kind d c)) (omega arith))

-- THEOREM: no two running tasks hold one cell
pub apart_cells : (d : Device) (b : Book) → within d b ≡ true → (e f : Running) → In e b → In f b → ¬ (e.number ≡ f.number)
    → (c k : ℕ) → holds_cell d e c k ≡ true → holds_cell d f c k ≡ true → ⊥
apart_cells d b w e f i j n c k x y =
    let l = limits_to d b w in
    let (u, v) = holds_on d e (l.entries e i) c k x in
    l.parted e f i j n c k u v x y

-- a task that fits in the book shares no cell with a running one
fits_parted : (d : Device) (b : Book) (e f : Running) → fits d b e.task e.column e.bottom ≡ true → In f b → Entry d f → Parted d e f
unfolding holds_cell held
fits_parted d b e f h i n c k l m x y =
    let (j, q, u) = any_to (height (kind d c)) (λ i. covered (standing e) c (height (kind d c) * k + i)) x in
    let z = height (kind d c) * k + j in
    clash (any_in_of (λ g. covered (standing g) c z) b f i (covered_holds d f n c k j q ∙ y))
    (free_to d b c z (covered_free d b e.task e.column e.bottom h c z u)).2

-- ---- rising numbers

insert_rising : (m : ℕ) (e : Running) (b : Book) → Rising m b → m < e.number → ((f : Running) → In f b → ¬ (f.number ≡ e.number)) → Rising m (insert e b)
unfolding insert
insert_rising m e [] r l n = (l, tt)
insert_rising m e (g ∷ b) r l n =
    let o = n g (inl refl) in
    cond_ind (Rising m) (ltb e.number g.number)
    (λ u. (l, (omega tests, r.1)))
    (λ u. (r.0, insert_rising g.number e b r.1 (omega tests) (λ f i. n f (inr i))))

rising_weaken : (k m : ℕ) (b : Book) → k ≤ m → Rising m b → Rising k b
rising_weaken k m [] l r = tt
rising_weaken k m (g ∷ b) l r = (omega (arith, r.0), r.1)

without_rising : (m n : ℕ) (b : Book) → Rising m b → Rising m (without n b)
unfolding without
without_rising m n [] r = tt
without_rising m n (g ∷ b) r =
    let rest = without_rising g.number n b r.1 in
    cond_ind (Rising m) (eqb g.number n) (λ u. rising_weaken m g.number (without n b) (omega (arith, r.0)) rest) (λ u. (r.0, rest))

-- ---- how many

without_length : (n : ℕ) (b : Book) → length (without n b) ≤ length b
unfolding without
without_length n [] = omega arith
without_length n (g ∷ b) =
    let rest = without_length n b in
    cond_ind (λ (l : Book). length l ≤ suc (length b)) (eqb g.number n) (λ u. omega arith) (λ u. omega arith)

-- ---- the calls

-- a new card is within the limits
pub within_new : (d : Device) → device_ok d ≡ true → within d [] ≡ true
within_new d h = within_of d [] h (omega arith) (λ e i. absurd i) tt (λ e f i j n. absurd i)

module _ (d : Device) (b : Book) (w : within d b ≡ true) where
  -- a task of another number that fits may be entered
  pub insert_within : (e : Running) → length b < max_running → Entry d e → ((f : Running) → In f b → ¬ (f.number ≡ e.number))
      → fits d b e.task e.column e.bottom ≡ true → within d (insert e b) ≡ true
  insert_within e l n o h =
      within_of d (insert e b) (within_device d b w) (omega (arith, length_insert e b))
      (λ f i. entry f (insert_to e f b i))
      (insert_rising 0 e b (limits_to d b w).rising n.number_one o)
      (λ f g i j k. parted f g (insert_to e f b i) (insert_to e g b j) k)
    where
      entry : (f : Running) → In f (e ∷ b) → Entry d f
      entry f (inl q) = rw q n
      entry f (inr i) = (limits_to d b w).entries f i

      parted : (f g : Running) → In f (e ∷ b) → In g (e ∷ b) → ¬ (f.number ≡ g.number) → Parted d f g
      parted f g (inl p) (inl q) k = absurd (k (ap (λ (x : Running). x.number) (p ∙ sym q)))
      parted f g (inl p) (inr j) k = rw p (fits_parted d b e g h j (entry g (inr j)))
      parted f g (inr i) (inl q) k = rw q (λ c m u v x y. fits_parted d b e f h i (entry f (inr i)) c m u v y x)
      parted f g (inr i) (inr j) k = (limits_to d b w).parted f g i j k

  -- any may be taken out
  pub without_within : (n : ℕ) → within d (without n b) ≡ true
  without_within n =
      let l = limits_to d b w in
      within_of d (without n b) (within_device d b w) (omega (arith, without_length n b))
      (λ f i. l.entries f (without_to n f b i).0)
      (without_rising 0 n b l.rising)
      (λ f g i j k. l.parted f g (without_to n f b i).0 (without_to n g b j).0 k)

-- a row of the table that was passed
passed : (t : Bool) (n : ℕ) (o : Option ℕ) → cond t (some n) o ≡ none → (t ≡ false) × (o ≡ none)
passed true n o e = let z : ◌≡◌ {A = ℕ} 0 1 = cc in absurd (omega arith)
passed false n o e = (refl, e)

not_running : (b : Book) (n : ℕ) → runs_in b n ≡ false → (f : Running) → In f b → ¬ (f.number ≡ n)
unfolding runs_in
not_running b n h f i q = clash (any_in_of (λ e. eqb e.number n) b f i (eq-eqb f.number n q)) h

at_natural : (d : Device) (b : Book) (t : List ℕ) (p : ℕ) (y : ℤ) → fits_at d b t p y ≡ true → fits d b t p (natural y) ≡ true
unfolding fits_at natural
at_natural d b t p (pos y) e = e
at_natural d b t p (negsuc y) e = clash e refl

done_kept : (d : Device) (b : Book) (c : Call) → within d b ≡ true → refused (refusals d b c) ≡ none → within d (done d b c).state ≡ true
unfolding done refused refusals number_ok
done_kept d b (list t o) w e = w
done_kept d b (choose t) w e = w
done_kept d b (release n) w e = without_within d b w n
done_kept d b (place t n p y) w e =
    let (r4, e5) = passed (not (sized t)) 4 _ e in
    let (r5, e7) = passed (not (well_formed t)) 5 _ e5 in
    let (r7, e8) = passed (not (number_ok n) || runs_in b n) 7 _ e7 in
    let (r8, e10) = passed (leb max_running (length b)) 8 _ e8 in
    let (r10, last) = passed (not (fits_at d b t p y)) 10 _ e10 in
    let (n-ok, n-new) = neither (not (number_ok n)) (runs_in b n) r7 in
    let (one, most) = and_to (leb 1 n) (leb n max_number) (not-false (number_ok n) n-ok) in
    let f = at_natural d b t p y (not-false (fits_at d b t p y) r10) in
    insert_within d b w (running t n p y) (omega tests)
    (record { number_one = omega tests; number = omega tests; sized = not-false (sized t) r4; well_formed = not-false (well_formed t) r5; fits = ((fits_split d b t p (natural y)).0 f).0 })
    (not_running b n n-new) f

-- THEOREM: every call keeps the book within the limits
pub kept : (d : Device) (b : Book) (c : Call) → within d b ≡ true → within d (on_book d b c).state ≡ true
unfolding on_book unless
kept d b c w = go (refused (refusals d b c)) refl
  where
    go : (o : Option ℕ) → refused (refusals d b c) ≡ o → within d (unless o (lent c) b (done d b c)).state ≡ true
    go none e = done_kept d b c w e
    go (some n) e = w
