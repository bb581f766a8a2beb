-- MODEL 22.1: the sweep finds exactly the pairs that share a half row. Assumes nothing.
use Rattle.std.specs.Int.{from_bool}
use Rattle.std.specs.Prelude.{◌≡◌, ◌⊎◌, Bool, true, cond, not, ◌&&◌, leb, eqb, length}
use Rattle.std.proofs.Math.Path.{refl, ap}
use Rattle.std.proofs.Common.{sym, ◌∙◌, inl, inr, true≢false, add-one}
use Rattle.std.proofs.Math.Logic.{⊎_elim}
use Rattle.std.proofs.Math.Bool.{false}
use mathlib.Core.List.{List, [], ◌++◌}
use Prim.Native.Nat.{ℕ, zero, suc, ◌+◌, ◌-◌, ◌≤◌, ◌<◌}
use native.Mathlib.Omega.{arith}
use Rattle.std.proofs.Math.Dec.{ltb}
use borrow.Author.Tests.{ltb-true, lt-ltb, le-ltb, le-leb, lt-leb, leb-true, leb-false}
use Rattle.runs.specs.Laws.Tests.{cond_ind, lt_or_ge}
use Rattle.runs.specs.Intervals.{Interval}
use Rattle.model.proofs.Laws.Bounded.{and_to}
use Rattle.sets.specs.Graph.{In}
use Rattle.sets.specs.Forest.{unions, merges, union, root, Joins}
use Rattle.sets.specs.Laws.Lists.{in_right, each_append}
use Rattle.sets.specs.Laws.Unions.{length_unions, unions_append, merges_append}
use Rattle.fragments.specs.Sweep.{Sides, Shares, shares, edge, edge_if, swept, edges_from, edges, Sweeping, Alike}

shares_to : (x y : Interval) → shares x y ≡ true → Shares x y
unfolding shares
shares_to x y e =
    let h : (ltb x.bottom y.top ≡ true) × (ltb y.bottom x.top ≡ true) = and_to _ _ e in
    (ltb-true x.bottom y.top h.0, ltb-true y.bottom x.top h.1)

shares_of : (x y : Interval) → Shares x y → shares x y ≡ true
unfolding shares
shares_of x y h = rw (lt-ltb x.bottom y.top h.0, lt-ltb y.bottom x.top h.1)

module _ (S : Sides) where
  -- an edge of two intervals that share a half row
  abbrev pub Right : ℕ × ℕ → Type 0
  Right e = (x : ℕ) × (y : ℕ) × (e ≡ edge S x y) × (x < S.lefts) × (y < S.rights) × Shares (S.left x) (S.right y)

  abbrev AllRight : List (ℕ × ℕ) → Type 0
  AllRight E = (e : ℕ × ℕ) → In e E → Right e

  swept_sound : (f i j : ℕ) → AllRight (swept S f i j)
  unfolding swept edge_if
  swept_sound zero i j = λ e m. absurd m
  swept_sound (suc f) i j =
      cond_ind AllRight (ltb i S.lefts && ltb j S.rights)
      (λ t. each_append Right (edge_if (shares (S.left i) (S.right j)) (edge S i j)) _ (one (and_to _ _ t))
      (cond_ind AllRight (leb (S.left i).top (S.right j).top) (λ _. swept_sound f (suc i) j) (λ _. swept_sound f i (suc j))))
      (λ t e m. absurd m)
    where
      one : (ltb i S.lefts ≡ true) × (ltb j S.rights ≡ true) → AllRight (edge_if (shares (S.left i) (S.right j)) (edge S i j))
      one h =
          cond_ind AllRight (shares (S.left i) (S.right j))
          (λ t e m. ⊎_elim (λ q. (i, j, q, ltb-true i S.lefts h.0, ltb-true j S.rights h.1, shares_to (S.left i) (S.right j) t)) (λ q. absurd q) m)
          (λ t e m. absurd m)

  -- the intervals of each side rise
  module _ (up_left : (x y : ℕ) → x < y → y < S.lefts → (S.left x).top ≤ (S.left y).bottom)
      (up_right : (x y : ℕ) → x < y → y < S.rights → (S.right x).top ≤ (S.right y).bottom)
      (x y : ℕ) (lx : x < S.lefts) (ly : y < S.rights) (s : Shares (S.left x) (S.right y)) where
    -- what the pointers i and j pass over, in front of F
    abbrev passed : ℕ → ℕ → List (ℕ × ℕ) → List (ℕ × ℕ)
    passed i j F = edge_if (shares (S.left i) (S.right j)) (edge S i j) ++ F

    here : (i j : ℕ) (F : List (ℕ × ℕ)) → x ≡ i → y ≡ j → In (edge S x y) (passed i j F)
    unfolding edge_if
    here i j F e g = rw (← e, ← g, shares_of (S.left x) (S.right y) s) (inl refl)

    swept_complete : (f i j : ℕ) → S.lefts - i + (S.rights - j) ≤ f → i ≤ x → j ≤ y → In (edge S x y) (swept S f i j)
    unfolding swept
    swept_complete zero i j l p q = absurd (omega arith)
    swept_complete (suc f) i j l p q =
        rw (lt-ltb i S.lefts (omega arith), lt-ltb j S.rights (omega arith))
        (cond_ind (λ F. In (edge S x y) (passed i j F)) (leb (S.left i).top (S.right j).top)
        (λ t. ⊎_elim
        (λ k. in_right (edge S x y) (edge_if (shares (S.left i) (S.right j)) (edge S i j)) (swept S f (suc i) j) (swept_complete f (suc i) j (omega arith) k q))
        (λ k. last_left _ (leb-true (S.left i).top (S.right j).top t) (omega arith))
        (lt_or_ge i x))
        (λ t. ⊎_elim
        (λ k. in_right (edge S x y) (edge_if (shares (S.left i) (S.right j)) (edge S i j)) (swept S f i (suc j)) (swept_complete f i (suc j) (omega arith) p k))
        (λ k. last_right _ (leb-false (S.left i).top (S.right j).top t) (omega arith))
        (lt_or_ge j y)))
      where
        last_left : (F : List (ℕ × ℕ)) → (S.left i).top ≤ (S.right j).top → x ≡ i → In (edge S x y) (passed i j F)
        last_left F t e = ⊎_elim (λ k. absurd (far k)) (λ k. here i j F e (omega arith)) (lt_or_ge j y)
          where
            far : j < y → ⊥
            far k = omega (arith, up_right j y k ly, s.1, ap (λ (z : ℕ). (S.left z).top) e)

        last_right : (F : List (ℕ × ℕ)) → (S.right j).top < (S.left i).top → y ≡ j → In (edge S x y) (passed i j F)
        last_right F t e = ⊎_elim (λ k. absurd (far k)) (λ k. here i j F (omega arith) e) (lt_or_ge i x)
          where
            far : i < x → ⊥
            far k = omega (arith, up_left i x k lx, s.0, ap (λ (z : ℕ). (S.right z).top) e)

  -- THEOREM: its edges are those of the pairs that share a half row, and of no others
  pub edges_sound : (e : ℕ × ℕ) → In e (edges S) → Right e
  unfolding edges edges_from
  edges_sound = swept_sound (S.lefts - 0 + (S.rights - 0)) 0 0

  pub edges_complete : ((x y : ℕ) → x < y → y < S.lefts → (S.left x).top ≤ (S.left y).bottom)
      → ((x y : ℕ) → x < y → y < S.rights → (S.right x).top ≤ (S.right y).bottom)
      → (x y : ℕ) → x < S.lefts → y < S.rights → Shares (S.left x) (S.right y) → In (edge S x y) (edges S)
  unfolding edges edges_from
  edges_complete u v x y lx ly s =
      swept_complete u v x y lx ly s (S.lefts - 0 + (S.rights - 0)) 0 0 (omega arith) (omega arith) (omega arith)

  -- ---- a turn of the loop

  module _ (i j : ℕ) (li : i < S.lefts) (lj : j < S.rights) where
    turn_left : (S.left i).top ≤ (S.right j).top
        → edges_from S i j ≡ edge_if (shares (S.left i) (S.right j)) (edge S i j) ++ edges_from S (i + 1) j
    unfolding edges_from swept
    turn_left t =
        let e : S.lefts - i + (S.rights - j) ≡ suc (S.lefts - (i + 1) + (S.rights - j)) = omega arith in
        rw (e, lt-ltb i S.lefts li, lt-ltb j S.rights lj, le-leb (S.left i).top (S.right j).top t, add-one)

    turn_right : (S.right j).top < (S.left i).top
        → edges_from S i j ≡ edge_if (shares (S.left i) (S.right j)) (edge S i j) ++ edges_from S i (j + 1)
    unfolding edges_from swept
    turn_right t =
        let e : S.lefts - i + (S.rights - j) ≡ suc (S.lefts - i + (S.rights - (j + 1))) = omega arith in
        rw (e, lt-ltb i S.lefts li, lt-ltb j S.rights lj, lt-leb (S.left i).top (S.right j).top t, add-one)

  turn_end : (i j : ℕ) → (S.lefts ≤ i) ⊎ (S.rights ≤ j) → edges_from S i j ≡ []
  unfolding edges_from swept
  turn_end i j h = go (S.lefts - i + (S.rights - j)) h
    where
      go : (f : ℕ) → (S.lefts ≤ i) ⊎ (S.rights ≤ j) → swept S f i j ≡ []
      go zero g = refl
      go (suc f) (inl g) = rw (le-ltb i S.lefts g)
      go (suc f) (inr g) = rw (le-ltb j S.rights g) (cond_ind (λ E. E ≡ []) (ltb i S.lefts && false) (λ e. absurd (true≢false (sym (and_to (ltb i S.lefts) false e).1))) (λ e. refl))

-- ---- joins

pub joins_none : (t : Bool) (e : ℕ × ℕ) (P : List ℕ) (b : Bool) → t ≡ b → b ≡ false → Joins (edge_if t e) P P (from_bool b)
unfolding edge_if unions merges
joins_none t e P b h q = rw (h, q) record { parents_are = refl; count_is = refl }

pub joins_one : (t : Bool) (i j : ℕ) (P Q : List ℕ) (b : Bool) → t ≡ true → Q ≡ union P i j → b ≡ not (eqb (root P i) (root P j))
    → Joins (edge_if t (i, j)) P Q (from_bool b)
unfolding edge_if unions merges
joins_one t i j P Q b h q e = rw (h, e) record { parents_are = q; count_is = count (eqb (root P i) (root P j)) }
  where
    count : (u : Bool) → from_bool (not u) ≡ cond u 0 1 + 0
    count true = refl
    count false = refl

pub joins_length : (E : List (ℕ × ℕ)) (P Q : List ℕ) (n : ℕ) → Joins E P Q n → length Q ≡ length P
joins_length E P Q n j = ap length j.parents_are ∙ length_unions P E

-- ---- the loop

module _ (S : Sides) (P₀ : List ℕ) where
  pub sweeping_start : Sweeping S P₀ P₀ 0 0 0
  unfolding edges
  sweeping_start = record { in_left = omega arith; in_right = omega arith; few = omega arith; parents_are = refl; count_is = omega arith }

  module _ (P : List ℕ) (n i j : ℕ) (w : Sweeping S P₀ P n i j) where
    pub sweeping_length : length P ≡ length P₀
    sweeping_length = sym (length_unions P (edges_from S i j)) ∙ ap length w.parents_are ∙ length_unions P₀ (edges S)

    pub sweeping_end : (S.lefts ≤ i) ⊎ (S.rights ≤ j) → Joins (edges S) P₀ P n
    unfolding unions merges
    sweeping_end h =
        let e : edges_from S i j ≡ [] = turn_end S i j h in
        record { parents_are = rw e at w.parents_are; count_is = omega (arith, rw e at w.count_is) }

    module _ (li : i < S.lefts) (lj : j < S.rights) (x y : Interval) (ex : x ≡ S.left i) (ey : y ≡ S.right j) (Q : List ℕ) (b : Bool)
        (h : Joins (edge_if (shares x y) (edge S i j)) P Q (from_bool b)) where
      on : (k l : ℕ) → edges_from S i j ≡ edge_if (shares x y) (edge S i j) ++ edges_from S k l
          → (unions Q (edges_from S k l) ≡ unions P₀ (edges S)) × (n + from_bool b + merges Q (edges_from S k l) ≡ merges P₀ (edges S))
      on k l e =
          let E : List (ℕ × ℕ) = edge_if (shares x y) (edge S i j) in
          let a : unions P (E ++ edges_from S k l) ≡ unions (unions P E) (edges_from S k l) = unions_append P E (edges_from S k l) in
          let b : merges P (E ++ edges_from S k l) ≡ merges P E + merges (unions P E) (edges_from S k l) = merges_append P E (edges_from S k l) in
          let c : merges Q (edges_from S k l) ≡ merges (unions P E) (edges_from S k l) = ap (λ (z : List ℕ). merges z (edges_from S k l)) h.parents_are in
          let d : merges P (edges_from S i j) ≡ merges P (E ++ edges_from S k l) = ap (merges P) e in (
            ap (λ (z : List ℕ). unions z (edges_from S k l)) h.parents_are ∙ sym a ∙ sym (ap (unions P) e) ∙ w.parents_are,
            omega (arith, b, c, d, h.count_is, w.count_is),
          )

      one : (b : Bool) → from_bool b ≤ 1
      one true = omega arith
      one false = omega arith

      pub sweeping_left : x.top ≤ y.top → Sweeping S P₀ Q (n + from_bool b) (i + 1) j
      sweeping_left t =
          let e : edges_from S i j ≡ edge_if (shares x y) (edge S i j) ++ edges_from S (i + 1) j =
          rw (ex, ey) (turn_left S i j li lj (rw (ex, ey) at t)) in
          let (parents, count) = on (i + 1) j e in
          record { in_left = omega arith; in_right = w.in_right; few = omega (arith, w.few, one b); parents_are = parents; count_is = count }

      pub sweeping_right : y.top < x.top → Sweeping S P₀ Q (n + from_bool b) i (j + 1)
      sweeping_right t =
          let e : edges_from S i j ≡ edge_if (shares x y) (edge S i j) ++ edges_from S i (j + 1) =
          rw (ex, ey) (turn_right S i j li lj (rw (ex, ey) at t)) in
          let (parents, count) = on i (j + 1) e in
          record { in_left = w.in_left; in_right = omega arith; few = omega (arith, w.few, one b); parents_are = parents; count_is = count }

-- ---- the same columns, the same edges

module _ (S Z : Sides) (a : Alike S Z) where
  swept_alike : (f i j : ℕ) → swept S f i j ≡ swept Z f i j
  unfolding swept
  swept_alike zero i j = refl
  swept_alike (suc f) i j =
      ⊎_elim
      (λ l. ⊎_elim (λ k. rw (swept_alike f (suc i) j, swept_alike f i (suc j), a.left_is i l, a.right_is j k, a.lefts_are, a.rights_are, a.left_at, a.right_at))
      (λ k. no_right k) (lt_or_ge j S.rights))
      (λ l. no_left l)
      (lt_or_ge i S.lefts)
    where
      no_left : S.lefts ≤ i → swept S (suc f) i j ≡ swept Z (suc f) i j
      no_left l = rw (le-ltb i S.lefts l, le-ltb i Z.lefts (rw a.lefts_are at l))

      and_false : (t : Bool) → t && false ≡ false
      and_false true = refl
      and_false false = refl

      no_right : S.rights ≤ j → swept S (suc f) i j ≡ swept Z (suc f) i j
      no_right l = rw (le-ltb j S.rights l, le-ltb j Z.rights (rw a.rights_are at l), and_false (ltb i S.lefts), and_false (ltb i Z.lefts))

  pub edges_alike : edges S ≡ edges Z
  unfolding edges edges_from
  edges_alike =
      let e : S.lefts - 0 + (S.rights - 0) ≡ Z.lefts - 0 + (Z.rights - 0) = omega (arith, a.lefts_are, a.rights_are) in
      swept_alike (S.lefts - 0 + (S.rights - 0)) 0 0 ∙ ap (λ (f : ℕ). swept Z f 0 0) e
