-- MODEL 22.3: the runs of free cells of a card are groups of its free cells, and touch where their half rows meet: so sets of cells are counted by runs. Assumes nothing.
use Rattle.std.specs.Prelude.{◌≡◌, refl, ◌⊎◌, ◌↔◌, List, length}
use Rattle.std.proofs.Common.{sym, subst, ◌∙◌, inl, inr, ⊎_elim, mod-lt, div-lt_iff_lt-mul, le-div_iff_mul-le, mul-le-mul_left}
use Rattle.std.proofs.Math.Path.{ap}
use Rattle.std.proofs.Math.Logic.{⊎_swap}
use Prim.Native.Nat.{ℕ, zero, suc, ◌+◌, ◌-◌, ◌*◌, ◌/◌, ◌%◌, ◌≤◌, ◌<◌}
use Rattle.std.proofs.Math.Nat.{div-add-mod}
use native.Mathlib.Omega.{arith}
use Rattle.runs.specs.Laws.Tests.{lt_or_ge}
use Rattle.runs.specs.Intervals.{Interval, Named, Apart}
use Rattle.sets.specs.Graph.{In, Distinct, Joined, set_count, Touching}
use Rattle.sets.specs.Forest.{Alone, Below, Edge, merges}
use Rattle.sets.specs.Laws.Joined.{joined_refl, joined_step, joined_trans, joined_sym}
use Rattle.sets.specs.Laws.Groups.{Grouped}
use Rattle.sets.specs.Laws.Count.{sets_count}
use Rattle.model.specs.Fragments.{Cell, cell, touch}
use Rattle.model.proofs.Laws.Fragments.{Neighbours, Overlap, Across, touch_to, touch_of, touch_both}
use Rattle.model.proofs.Laws.Members.{in_join_to, in_join_of}
use Rattle.fragments.specs.Sweep.{Shares, edge, edges}
use Rattle.fragments.specs.Nodes.{base, run_at, half_rows_at, beside, card_edges}
use Rattle.fragments.specs.Laws.Indexed.{Within, named_place, place_named, place_low, place_rises, one_place, base_below, base_unique, base_find}
use Rattle.fragments.specs.Laws.Sweep.{edges_sound, edges_complete}

-- ---- two runs whose half rows meet have cells that do

-- the cell of height b that holds half row z is one of u..v where z is one of its half rows
div_within : (b u v z : ℕ) → 1 ≤ b → b * u ≤ z → z < b * v → (u ≤ z / b) × (z / b < v) × (b * (z / b) ≤ z) × (z < b * suc (z / b))
div_within b u v z p l m =
    let d : b * (z / b) + z % b ≡ z = div-add-mod z b in
    let r : z % b < b = mod-lt z p in
    ((le-div_iff_mul-le p).1 (omega arith), (div-lt_iff_lt-mul p).1 (omega arith), omega arith, omega arith)

meeting : (a b : ℕ) → 1 ≤ a → 1 ≤ b → (r s : Interval) → r.bottom < r.top → s.bottom < s.top
    → a * r.bottom < b * s.top → b * s.bottom < a * r.top
    → (k : ℕ) × (l : ℕ) × Within k r × Within l s × (a * k < b * suc l) × (b * l < a * suc k)
meeting a b p q r s m n f g = ⊎_elim low high (lt_or_ge (a * r.bottom) (b * s.bottom))
  where
    low : a * r.bottom < b * s.bottom → (k : ℕ) × (l : ℕ) × Within k r × Within l s × (a * k < b * suc l) × (b * l < a * suc k)
    low o =
        let (u, v, w, x) = div_within a r.bottom r.top (b * s.bottom) p (omega arith) g in
        (b * s.bottom / a, s.bottom, (u, v), (omega arith, n), omega arith, x)

    high : b * s.bottom ≤ a * r.bottom → (k : ℕ) × (l : ℕ) × Within k r × Within l s × (a * k < b * suc l) × (b * l < a * suc k)
    high o =
        let (u, v, w, x) = div_within b s.bottom s.top (a * r.bottom) q o f in
        (r.bottom, a * r.bottom / b, (omega arith, m), (u, v), x, omega arith)

-- ---- the card: C columns, whose cells have the height h c and whose runs of free cells are R c; L has the free cells

module _ (C : ℕ) (h : ℕ → ℕ) (pos : (c : ℕ) → 1 ≤ h c) (R : ℕ → List Interval) (canon : (c : ℕ) → Apart 0 (R c)) where
  -- cell x is one of run g
  abbrev Of : Cell → ℕ → Type 0
  Of x g = (x.column < C) × ((i : ℕ) × (i < length (R x.column)) × (g ≡ base R x.column + i) × Within x.number (run_at R x.column i))

  -- run k is in the column next to that of run g, and their half rows meet
  abbrev Next : ℕ → ℕ → Type 0
  Next g k = (c : ℕ) × (i : ℕ) × (j : ℕ) × (suc c < C) × (i < length (R c)) × (j < length (R (suc c)))
      × (g ≡ base R c + i) × (k ≡ base R (suc c) + j) × Shares (half_rows_at h R c i) (half_rows_at h R (suc c) j)

  abbrev Meet : ℕ → ℕ → Type 0
  Meet g k = Next g k ⊎ Next k g

  -- ---- the edges

  edges_next : (e : ℕ × ℕ) → In e (card_edges h R C) → Next e.0 e.1
  unfolding card_edges
  edges_next e m =
      let (c, l, q) = in_join_to (C - 1) (λ c. edges (beside h R c)) e m in
      let (i, j, p, li, lj, s) = edges_sound (beside h R c) e q in
      (c, i, j, omega arith, li, lj, ap (λ (z : ℕ × ℕ). z.0) p, ap (λ (z : ℕ × ℕ). z.1) p, s)

  rises : (c i j : ℕ) → i < j → j < length (R c) → (half_rows_at h R c i).top ≤ (half_rows_at h R c j).bottom
  rises c i j k l = mul-le-mul_left (h c) (omega (arith, place_rises 0 (R c) (canon c) i j k l))

  next_edges : (g k : ℕ) → Next g k → In (g, k) (card_edges h R C)
  unfolding card_edges
  next_edges g k n =
      let (c, i, j, l, li, lj, eg, ek, s) = n in
      let m : In (edge (beside h R c) i j) (edges (beside h R c)) = edges_complete (beside h R c) (rises c) (rises (suc c)) i j li lj s in
      in_join_of (C - 1) (λ c. edges (beside h R c)) (g, k) c (omega arith) (rw (eg, ek) m)

  edges_below : Below (base R C) (card_edges h R C)
  edges_below e m =
      let (c, i, j, l, li, lj, eg, ek, s) = edges_next e m in
      (rw eg (base_below R C c i (omega arith) li), rw ek (base_below R C (suc c) j l lj))

  module _ (L : List Cell) (free : (x : Cell) → In x L ↔ ((x.column < C) × Named x.number (R x.column))) (d : Distinct L) where
    step_of : (x y : Cell) (g k : ℕ) → Of x g → Of y k → Neighbours x y ⊎ Across h x y → Touching (touch h) L x y
    step_of x y g k p q t = (is x g p, is y k q, touch_of h x y t)
      where
        is : (z : Cell) (f : ℕ) → Of z f → In z L
        is z f o = (free z).1 (o.0, place_named z.number (R z.column) o.1.0 o.1.1 o.1.3)

    group : (x : Cell) → In x L → (g : ℕ) × (g < base R C) × Of x g
    group x m =
        let f : (x.column < C) × Named x.number (R x.column) = (free x).0 m in
        let (i, l, w) = named_place x.number (R x.column) f.1 in
        (base R x.column + i, base_below R C x.column i f.0 l, (f.0, (i, l, refl, w)))

    -- what Of says, of a column that is the cell's
    abbrev In_column : ℕ → ℕ → ℕ → Type 0
    In_column c n g = (i : ℕ) × (i < length (R c)) × (g ≡ base R c + i) × Within n (run_at R c i)

    -- two cells of one column, in runs g and k
    one_run : (x y : Cell) (g k : ℕ) → Of x g → Of y k → x.column ≡ y.column → (x.number ≡ y.number) ⊎ (suc x.number ≡ y.number) → g ≡ k
    one_run x y g k p q e n =
        let o : In_column x.column y.number k = subst (λ (z : ℕ). In_column z y.number k) (sym e) q.1 in
        let s : p.1.0 ≡ o.0 =
        one_place (R x.column) (canon x.column) p.1.0 o.0 p.1.1 o.1 x.number y.number n p.1.3 o.3 in
        omega (arith, s, p.1.2, o.2)

    -- cells of one run are joined
    climb : (c i k n : ℕ) → c < C → i < length (R c) → Within k (run_at R c i) → Within (k + n) (run_at R c i)
        → Joined (Touching (touch h) L) (cell c k) (cell c (k + n))
    climb c i k zero l m v w = let e : k + 0 ≡ k = omega arith in rw e (joined_refl (Touching (touch h) L) (cell c k))
    climb c i k (suc n) l m v w =
        let u : Within (k + n) (run_at R c i) = (omega arith, omega arith) in
        joined_trans (Touching (touch h) L) (cell c k) (cell c (k + n)) (cell c (k + suc n))
        (climb c i k n l m v u)
        (joined_step (Touching (touch h) L) (cell c (k + n)) (cell c (k + suc n))
        (step_of (cell c (k + n)) (cell c (k + suc n)) (base R c + i) (base R c + i) (l, (i, m, refl, u)) (l, (i, m, refl, w)) (inl (refl, inl (omega arith)))))

    both : (x y : Cell) → Touching (touch h) L x y → Touching (touch h) L y x
    both x y s = (s.1, s.0, touch_both h x y s.2)

    same_run : (c i k n : ℕ) → c < C → i < length (R c) → Within k (run_at R c i) → Within n (run_at R c i)
        → Joined (Touching (touch h) L) (cell c k) (cell c n)
    same_run c i k n l m v w = ⊎_elim (λ p. up k n v w (omega arith)) (λ p. joined_sym (Touching (touch h) L) both (cell c n) (cell c k) (up n k w v p)) (lt_or_ge k n)
      where
        up : (a b : ℕ) → Within a (run_at R c i) → Within b (run_at R c i) → a ≤ b → Joined (Touching (touch h) L) (cell c a) (cell c b)
        up a b x y o =
            let e : a + (b - a) ≡ b = omega arith in
            rw e at (climb c i a (b - a) l m x (rw e y))

    whole : (g : ℕ) → g < base R C → (x y : Cell) → Of x g → Of y g → Joined (Touching (touch h) L) x y
    whole g b x y p q =
        let e : x.column ≡ y.column = base_unique R x.column y.column p.1.0 q.1.0 p.1.1 q.1.1 (sym p.1.2 ∙ q.1.2) in
        let o : In_column x.column y.number g = subst (λ (z : ℕ). In_column z y.number g) (sym e) q.1 in
        let s : o.0 ≡ p.1.0 = omega (arith, p.1.2, o.2) in
        let w : Within y.number (run_at R x.column p.1.0) = subst (λ (z : ℕ). Within y.number (run_at R x.column z)) s o.3 in
        subst (λ (z : ℕ). Joined (Touching (touch h) L) x (cell z y.number)) e (same_run x.column p.1.0 x.number y.number p.0 p.1.1 p.1.3 w)

    next_of : (x y : Cell) (g k : ℕ) → Of x g → Of y k → suc x.column ≡ y.column → Overlap h x y → Next g k
    next_of x y g k p q e o =
        let c : ℕ = x.column in
        let r : In_column (suc c) y.number k = subst (λ (z : ℕ). In_column z y.number k) (sym e) q.1 in
        let v : (h c * x.number < h (suc c) * suc y.number) × (h (suc c) * y.number < h c * suc x.number) =
        subst (λ (z : ℕ). (h c * x.number < h z * suc y.number) × (h z * y.number < h c * suc x.number)) (sym e) o in
        let a : h c * (run_at R c p.1.0).bottom ≤ h c * x.number = mul-le-mul_left (h c) p.1.3.0 in
        let b : h c * suc x.number ≤ h c * (run_at R c p.1.0).top = mul-le-mul_left (h c) p.1.3.1 in
        let f : h (suc c) * (run_at R (suc c) r.0).bottom ≤ h (suc c) * y.number = mul-le-mul_left (h (suc c)) r.3.0 in
        let t : h (suc c) * suc y.number ≤ h (suc c) * (run_at R (suc c) r.0).top = mul-le-mul_left (h (suc c)) r.3.1 in
        (c, p.1.0, r.0, subst (λ (z : ℕ). z < C) (sym e) q.0, p.1.1, r.1, p.1.2, r.2, (omega arith, omega arith))

    down : (x y : Cell) (g k : ℕ) → g < base R C → k < base R C → Of x g → Of y k → Touching (touch h) L x y → (g ≡ k) ⊎ Meet g k
    down x y g k a b p q s = ⊎_elim near far (touch_to h x y s.2)
      where
        near : Neighbours x y → (g ≡ k) ⊎ Meet g k
        near n = inl (⊎_elim (λ e. one_run x y g k p q n.0 (inr e)) (λ e. sym (one_run y x k g q p (sym n.0) (inr e))) n.1)

        far : Across h x y → (g ≡ k) ⊎ Meet g k
        far n = inr (⊎_elim (λ e. inl (next_of x y g k p q e n.1)) (λ e. inr (next_of y x k g q p e (n.1.1, n.1.0))) n.0)

    up_next : (g k : ℕ) → Next g k → (x : Cell) × (y : Cell) × Of x g × Of y k × Touching (touch h) L x y
    up_next g k n =
        let (c, i, j, l, li, lj, eg, ek, s) = n in
        let u : (0 ≤ (run_at R c i).bottom) × ((run_at R c i).bottom < (run_at R c i).top) = place_low 0 (R c) (canon c) i li in
        let v : (0 ≤ (run_at R (suc c) j).bottom) × ((run_at R (suc c) j).bottom < (run_at R (suc c) j).top) = place_low 0 (R (suc c)) (canon (suc c)) j lj in
        let (a, b, wa, wb, oa, ob) = meeting (h c) (h (suc c)) (pos c) (pos (suc c)) (run_at R c i) (run_at R (suc c) j) u.1 v.1 s.0 s.1 in
        let p : Of (cell c a) g = (omega arith, (i, li, eg, wa)) in
        let q : Of (cell (suc c) b) k = (l, (j, lj, ek, wb)) in
        (cell c a, cell (suc c) b, p, q, step_of (cell c a) (cell (suc c) b) g k p q (inr (inl refl, (oa, ob))))

    up : (g k : ℕ) → g < base R C → Meet g k → (x : Cell) × (y : Cell) × Of x g × Of y k × Touching (touch h) L x y
    up g k l (inl n) = up_next g k n
    up g k l (inr n) = let (x, y, p, q, s) = up_next k g n in (y, x, q, p, both x y s)

    meet_below : (g k : ℕ) → Meet g k → k < base R C
    meet_below g k (inl n) = let (c, i, j, l, li, lj, eg, ek, s) = n in rw ek (base_below R C (suc c) j l lj)
    meet_below g k (inr n) = let (c, i, j, l, li, lj, eg, ek, s) = n in rw eg (base_below R C c i (omega arith) li)

    grouped : Grouped (λ x. In x L) (Touching (touch h) L) (λ g. g < base R C) Meet Of
    grouped = record {
      group = group;
      only = λ x g k a b p q. one_run x x g k p q refl (inl refl);
      whole = whole;
      nodes = λ x y s. s.1;
      down = down;
      groups = meet_below;
      up = up;
    }

    -- the first cell of a run
    pick : (g : ℕ) → (g < base R C) ⊎ (base R C ≤ g) → Cell
    pick g (inl l) = let (c, i, k, m, e) = base_find R C g l in cell c (run_at R c i).bottom
    pick g (inr l) = cell 0 0

    pick_of : (g : ℕ) (t : (g < base R C) ⊎ (base R C ≤ g)) → g < base R C → In (pick g t) L × Of (pick g t) g
    unfolding pick
    pick_of g (inl l) q =
        let (c, i, k, m, e) = base_find R C g l in
        let u : (0 ≤ (run_at R c i).bottom) × ((run_at R c i).bottom < (run_at R c i).top) = place_low 0 (R c) (canon c) i m in
        let w : Within (run_at R c i).bottom (run_at R c i) = (omega arith, u.1) in
        ((free (cell c (run_at R c i).bottom)).1 (k, place_named (run_at R c i).bottom (R c) i m w), (k, (i, m, e, w)))
    pick_of g (inr l) q = absurd (omega arith)

    -- THEOREM: the sets of free cells are the runs less the joins
    pub card_count : (P : List ℕ) → Alone (base R C) P → merges P (card_edges h R C) + set_count (touch h) L ≡ base R C
    card_count P a =
        sets_count (touch h) (touch_both h) L d (base R C) Meet Of (λ g. pick g (lt_or_ge g (base R C))) grouped
        (λ g l. pick_of g (lt_or_ge g (base R C)) l) (λ g k m. ⊎_swap m) P a (card_edges h R C) edges_below
        (λ e m. joined_step Meet e.0 e.1 (inl (edges_next e m)))
        (λ g k m. joined_step (Edge (card_edges h R C)) g k (⊎_elim (λ n. inl (next_edges g k n)) (λ n. inr (next_edges k g n)) m))
