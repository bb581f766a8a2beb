-- The laws of lists of runs: the last of them, the ends of each, and how many there are. Assumes nothing.
use Rattle.std.specs.Prelude.{ℕ, zero, suc, ◌+◌, ◌-◌, ◌*◌, ◌≤◌, ◌<◌, ◌≡◌, refl, ◌⊎◌, ◌↔◌, Bool, true, false, IsSomeAnd, slice_get, List, [], ◌∷◌, ◌++◌, length, get_or, set, All}
use Rattle.std.proofs.lemmas.List.{get_or_default}
use Rattle.std.proofs.lemmas.Option.{slice_get-get_or, slice_get_past}
use Rattle.model.proofs.Laws.Bounded.{clash}
use Rattle.std.proofs.Common.{sym, ap, ◌∙◌, inl, inr, arith, take, length-append, length-take, get_or-take, mul-le-mul_left}
use Rattle.std.proofs.Math.Seq.{take-set-lt}
use borrow.Author.Tests.{eq-eqb, ne_eqb}
use Rattle.runs.specs.Laws.Tests.{lt_or_ge}
use Rattle.runs.specs.Runs.{Run, run, Steps, Mem, From, Canon, push}
use Rattle.runs.specs.Laws.Canon.{count_above, from_least}
use Rattle.runs.specs.Laws.Places.{run_at, run_named}
use Rattle.model.specs.Limits.{max_rows}
use Rattle.listing.specs.Bottoms.{lift}
use Rattle.listing.specs.Lists.{max_runs}

-- ---- the merging append at the end of a list

module _ (s : ℕ) (r : Run) where
  -- the last run q goes on
  pub push_longer : (L : List Run) (i : ℕ) (q : Run) → suc i ≡ length L → get_or L i q ≡ q → q.last + s ≡ r.first → set L i (run q.first r.last) ≡ push s r L
  unfolding push
  push_longer [] i q l e h = absurd (omega arith)
  push_longer (x ∷ []) zero q l e h = rw (e, eq-eqb (q.last + s) r.first h)
  push_longer (x ∷ []) (suc i) q l e h = absurd (omega arith)
  push_longer (x ∷ y ∷ L) zero q l e h = absurd (omega arith)
  push_longer (x ∷ y ∷ L) (suc i) q l e h = ap (λ (K : List Run). x ∷ K) (push_longer (y ∷ L) i q (omega arith) e h)

  -- it does not
  pub push_more : (L : List Run) (i : ℕ) (q : Run) → suc i ≡ length L → get_or L i q ≡ q → (q.last + s ≡ r.first → ⊥) → L ++ r ∷ [] ≡ push s r L
  unfolding push
  push_more [] i q l e h = absurd (omega arith)
  push_more (x ∷ []) zero q l e h = rw (e, ne_eqb (q.last + s) r.first h)
  push_more (x ∷ []) (suc i) q l e h = absurd (omega arith)
  push_more (x ∷ y ∷ L) zero q l e h = absurd (omega arith)
  push_more (x ∷ y ∷ L) (suc i) q l e h = ap (λ (K : List Run). x ∷ K) (push_more (y ∷ L) i q (omega arith) e h)

  -- r begins one step above the end of the last run
  abbrev GoesOn : List Run → Type 0
  GoesOn L = IsSomeAnd (slice_get L (length L - 1)) (λ q. q.last + s ≡ r.first)

  -- the list is the first n runs of an array, and q the last of them
  pub longer : (A : List Run) (n : ℕ) → n ≤ length A → GoesOn (take n A) → (q d : Run) → q ≡ get_or A (n - 1) d
      → take n (set A (n - 1) (run q.first r.last)) ≡ push s r (take n A)
  longer A n l g q d e =
      let i : length (take n A) - 1 ≡ n - 1 = omega (arith, length-take n A) in
      go (rw i at g) (lt_or_ge (n - 1) (length (take n A)))
    where
      go : IsSomeAnd (slice_get (take n A) (n - 1)) (λ q. q.last + s ≡ r.first) → (n - 1 < length (take n A)) ⊎ (length (take n A) ≤ n - 1)
          → take n (set A (n - 1) (run q.first r.last)) ≡ push s r (take n A)
      go g (inl b) =
          let k = length-take n A in
          let w : get_or (take n A) (n - 1) q ≡ q = get_or-take n A (n - 1) q (omega arith) ∙ get_or_default A (n - 1) q d (omega arith) ∙ sym e in
          take-set-lt n A (n - 1) (run q.first r.last) (omega arith)
          ∙ push_longer (take n A) (n - 1) q (omega arith) w (rw (slice_get-get_or (take n A) (n - 1) q b, w) at g)
      go g (inr b) = absurd (rw (slice_get_past (take n A) (n - 1) b) at g)

  -- it does not, as the test b says
  pub apart : (L : List Run) (b : Bool) → (b ≡ true) ↔ GoesOn L → b ≡ false → L ++ r ∷ [] ≡ push s r L
  unfolding push
  apart [] b o e = refl
  apart (x ∷ L) b o e =
      let n : length (x ∷ L) - 1 ≡ length L = omega arith in
      let u = slice_get-get_or (x ∷ L) (length L) x (omega arith) in
      push_more (x ∷ L) (length L) (get_or (x ∷ L) (length L) x) refl (get_or_default (x ∷ L) (length L) _ x (omega arith)) (λ h. clash (o.1 (rw (n, u) h)) e)

  pub room_apart : (L : List Run) (b : Bool) → (b ≡ true) ↔ GoesOn L → b ≡ false → length L < length (push s r L)
  room_apart L b o e = rw (← apart L b o e, length-append) (omega arith)

  -- the list is the first n runs of an array
  pub room_behind : (A : List Run) (n : ℕ) → n ≤ length A → (b : Bool) → (b ≡ true) ↔ GoesOn (take n A) → b ≡ false → n < length (push s r (take n A))
  room_behind A n l b o e = omega (arith, room_apart (take n A) b o e, length-take n A)

-- ---- the runs of a list, one after the other

module _ (s m : ℕ) (L : List Run) (c : From s m L) (i : ℕ) (d : Run) (l : i < length L) where
  -- run i ends some steps above its first number
  pub steps_at : Steps s (get_or L i d).first (get_or L i d).last
  steps_at = (run_at s m L i d c l).1

  -- and both its ends are named
  pub ends_named : Mem s (get_or L i d).first L × Mem s (get_or L i d).last L
  ends_named =
      let k = steps_at in
      (run_named s L i d (get_or L i d).first l ((0, omega arith), omega arith), run_named s L i d (get_or L i d).last l (k, omega arith))

-- so what holds of all that is named holds of the ends
pub ends_all : (P : ℕ → Type 0) (s m : ℕ) (L : List Run) → From s m L → ((y : ℕ) → Mem s y L → P y) → All (λ (q : Run). P q.first × P q.last) L
ends_all P s m L c h = λ i d l. let (a, b) = ends_named s m L c i d l in (h _ a, h _ b)

-- ---- how many

-- numbers from the lifted half row 0 to 255, in steps of 2 or more
pub few_runs : (s : ℕ) (L : List Run) → 2 ≤ s → Canon s L → ((y : ℕ) → Mem s y L → (lift ≤ y) × (y < lift + 2 * max_rows)) → length L ≤ max_runs
few_runs s L p c h =
    let n = count_above s lift (lift + 2 * max_rows) L (omega arith) (omega arith) (from_least s lift 0 L c (λ y m. (h y m).0)) (λ y m. (h y m).1) in
    go (lt_or_ge max_runs (length L)) n
  where
    go : (max_runs < length L) ⊎ (length L ≤ max_runs) → 2 * s * length L + lift < lift + 2 * max_rows + 2 * s → length L ≤ max_runs
    go (inl l) n = omega (arith, mul-le-mul_left {m = suc max_runs} {n = length L} (2 * s) l)
    go (inr l) n = l
