-- The tasks before task j of a book: their numbers, and that task j fits among them. Assumes nothing.
use Rattle.std.specs.Prelude.{ℕ, zero, suc, ◌+◌, ◌*◌, ◌/◌, ◌%◌, ◌≤◌, ◌<◌, ◌≡◌, refl, true, [], ◌∷◌, ◌++◌, length, take}
use Rattle.std.proofs.Common.{sym, ap, ◌∙◌, inl, inr, arith, le-ltb}
use Rattle.std.proofs.Math.Nat.{div-add-mod, mod-lt}
use Rattle.std.proofs.Math.ListN.{get_or}
use Rattle.model.specs.Columns.{Device, height, kind}
use Rattle.model.specs.Book.{Running, Book, covered, standing, held, fits}
use Rattle.model.specs.Sound.{within}
use Rattle.model.specs.Calls.{insert}
use Rattle.model.specs.Bounded.{In}
use Rattle.model.specs.InPlace.{no_entry}
use Rattle.model.proofs.Laws.Bounded.{is_false, any_in_to}
use Rattle.model.proofs.Laws.Columns.{height_pos}
use Rattle.model.proofs.Laws.Limits.{Rising, limits_to, rising_above}
use Rattle.model.proofs.Laws.Cells.{covered_holds}
use Rattle.model.proofs.Laws.Split.{fits_split}
use Rattle.model.proofs.Laws.Kept.{apart_cells}
use Rattle.model.proofs.Laws.ReadBack.{get_d_in}
use Rattle.soundness.specs.Soundness.{prior}

take_in : (b : Book) (j : ℕ) (f : Running) → In f (take j b) → In f b
take_in b zero f i = absurd i
take_in [] (suc j) f i = i
take_in (e ∷ b) (suc j) f (inl q) = inl q
take_in (e ∷ b) (suc j) f (inr i) = inr (take_in b j f i)

prior_next : (m : ℕ) (e : Running) (b : Book) (j : ℕ) → prior m (e ∷ b) (suc j) ≡ prior e.number b j
unfolding prior
prior_next m e b zero = refl
prior_next m e b (suc j) = refl

-- where numbers rise, that of task j is above those before it
pub prior_below : (m : ℕ) (b : Book) → Rising m b → (j : ℕ) → j < length b → prior m b j < (get_or b j no_entry).number
unfolding prior
prior_below m [] r j q = absurd (omega arith)
prior_below m (e ∷ b) r zero q = r.0
prior_below m (e ∷ b) r (suc j) q = rw (prior_next m e b j) (prior_below e.number b r.1 j (omega arith))

taken_below : (m : ℕ) (b : Book) → Rising m b → (j : ℕ) → j < length b → (f : Running) → In f (take j b) → f.number < (get_or b j no_entry).number
taken_below m b r zero q f i = absurd i
taken_below m [] r (suc j) q f i = absurd i
taken_below m (e ∷ b) r (suc j) q f (inl p) =
    omega (arith, ap (λ (x : Running). x.number) p, rising_above e.number b r.1 (get_or b j no_entry) (get_d_in b j no_entry (omega arith)))
taken_below m (e ∷ b) r (suc j) q f (inr i) = taken_below e.number b r.1 j (omega arith) f i

-- where those before task j rise, the last of them has the highest number
prior_from : (m : ℕ) (b : Book) (j : ℕ) → Rising m (take j b) → j ≤ length b → m ≤ prior m b j
unfolding prior
prior_from m b zero r q = omega arith
prior_from m [] (suc j) r q = absurd (omega arith)
prior_from m (e ∷ b) (suc j) r q = rw (prior_next m e b j) (omega (arith, r.0, prior_from e.number b j r.1 (omega arith)))

pub prior_above : (m : ℕ) (b : Book) (j : ℕ) → Rising m (take j b) → j ≤ length b → (f : Running) → In f (take j b) → f.number ≤ prior m b j
prior_above m b zero r q f i = absurd i
prior_above m [] (suc j) r q f i = absurd i
prior_above m (e ∷ b) (suc j) r q f (inl p) =
    rw (prior_next m e b j) (omega (arith, ap (λ (x : Running). x.number) p, prior_from e.number b j r.1 (omega arith)))
prior_above m (e ∷ b) (suc j) r q f (inr i) = rw (prior_next m e b j) (prior_above e.number b j r.1 (omega arith) f i)

-- a task with a number above all others goes to the end
pub insert_last : (e : Running) (b : Book) → ((f : Running) → In f b → f.number < e.number) → insert e b ≡ b ++ (e ∷ [])
unfolding insert
insert_last e [] h = refl
insert_last e (f ∷ b) h =
    let l = h f (inl refl) in
    rw (le-ltb e.number f.number (omega arith)) (ap (λ (x : Book). f ∷ x) (insert_last e b (λ g i. h g (inr i))))

module _ (d : Device) (b : Book) (j : ℕ) (q : j < length b) where
  -- THEOREM: within the limits, a task fits among those before it
  pub fits_among : within d b ≡ true
      → let e = get_or b j no_entry in fits d (take j b) e.task e.column e.bottom ≡ true
  unfolding held
  fits_among w =
      let e = get_or b j no_entry in
      let l = limits_to d b w in
      let i = get_d_in b j no_entry q in
      let n = l.entries e i in
      (fits_split d (take j b) e.task e.column e.bottom).1 (
        n.fits,
        λ c z h. is_false (held (take j b) c z) (λ k.
            let (f, m, g) = any_in_to (λ f. covered (standing f) c z) (take j b) k in
            let o = taken_below 0 b l.rising j q f m in
            let u = height (kind d c) in
            let s : u * (z / u) + z % u ≡ z = div-add-mod z u in
            let r : z % u < u = mod-lt z (height_pos (kind d c)) in
            apart_cells d b w e f i (take_in b j f m) (λ p. omega arith) c (z / u)
            (sym (covered_holds d e n c (z / u) (z % u) r) ∙ (rw s h))
            (sym (covered_holds d f (l.entries f (take_in b j f m)) c (z / u) (z % u) r) ∙ (rw s g))),
      )
