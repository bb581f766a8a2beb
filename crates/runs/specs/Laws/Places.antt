-- The runs of a canonical list by their place: what each names, and that nothing is named between one and the next. Assumes nothing.
use Rattle.std.specs.Prelude.{ℕ, zero, suc, ◌+◌, ◌*◌, ◌≤◌, ◌<◌, ◌≡◌, refl, List, [], ◌∷◌, length, get_or}
use Rattle.std.proofs.Common.{inl, inr, arith}
use Rattle.runs.specs.Runs.{Run, run, Steps, In, Mem, From}
use Rattle.runs.specs.Laws.Canon.{mem_ge}

-- where run i of L begins; past the last run, at h
abbrev pub start_of : ℕ → List Run → ℕ → ℕ
start_of h L i = (get_or L i (run h h)).first

module _ (s : ℕ) where
  -- run i is one of the list
  pub run_named : (L : List Run) (i : ℕ) (e : Run) (y : ℕ) → i < length L → In s y (get_or L i e) → Mem s y L
  run_named [] i e y l n = absurd (omega arith)
  run_named (r ∷ L) zero e y l n = inl n
  run_named (r ∷ L) (suc i) e y l n = inr (run_named L i e y (omega arith) n)

  -- it ends some steps above its first number, and is not below the list's bound
  pub run_at : (m : ℕ) (L : List Run) (i : ℕ) (e : Run) → From s m L → i < length L → (m ≤ (get_or L i e).first) × Steps s (get_or L i e).first (get_or L i e).last
  run_at m [] i e c l = absurd (omega arith)
  run_at m (r ∷ L) zero e c l = (c.0, c.1)
  run_at m (r ∷ L) (suc i) e c l =
      let k = c.1 in
      let (a, b) = run_at (r.last + 2 * s) L i e c.2 (omega arith) in
      (omega arith, b)

  -- nothing is named below the first run
  pub none_before : (m h : ℕ) (L : List Run) (y : ℕ) → From s m L → Mem s y L → y < start_of h L 0 → ⊥
  none_before m h [] y c n l = n
  none_before m h (r ∷ L) y c n l = omega (arith, mem_ge s r.first y (r ∷ L) (omega arith, c.1, c.2) n)

  -- nor above run i and below the next
  pub none_between : (m h : ℕ) (L : List Run) (i y : ℕ) → From s m L → i < length L → Mem s y L → (get_or L i (run h h)).last < y → y < start_of h L (suc i) → ⊥
  none_between m h [] i y c l n a b = n
  none_between m h (r ∷ L) zero y c l (inl n) a b = omega arith
  none_between m h (r ∷ L) zero y c l (inr n) a b = none_before (r.last + 2 * s) h L y c.2 n b
  none_between m h (r ∷ L) (suc i) y c l (inl n) a b =
      let (u, v) = run_at (r.last + 2 * s) L i (run h h) c.2 (omega arith) in
      omega arith
  none_between m h (r ∷ L) (suc i) y c l (inr n) a b = none_between (r.last + 2 * s) h L i y c.2 (omega arith) n a b

  -- the next run begins two steps or more above its end
  pub next_above : (m h : ℕ) (L : List Run) (i : ℕ) → From s m L → suc i < length L → (get_or L i (run h h)).last + 2 * s ≤ start_of h L (suc i)
  next_above m h [] i c l = absurd (omega arith)
  next_above m h (r ∷ L) zero c l = (run_at (r.last + 2 * s) L 0 (run h h) c.2 (omega arith)).0
  next_above m h (r ∷ L) (suc i) c l = next_above (r.last + 2 * s) h L i c.2 (omega arith)

-- past the last run
pub start_past : (h : ℕ) (L : List Run) (i : ℕ) → length L ≤ i → start_of h L i ≡ h
start_past h [] i l = refl
start_past h (r ∷ L) zero l = absurd (omega arith)
start_past h (r ∷ L) (suc i) l = start_past h L i (omega arith)
