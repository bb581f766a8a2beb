-- The walk along two lists of runs that lists what both name: always the two current runs are met, and the one that ends first is passed.
-- It holds for any two steps (MODEL 21.4), and no run is split where it could be one (MODEL 20.4). Assumes nothing.
use Rattle.std.specs.Prelude.{◌≡◌, refl, ◌⊎◌, ◌↔◌, Bool, true, false, ◌&&◌, List, [], ◌∷◌, ℕ, suc, ◌+◌, ◌*◌, ◌≤◌, ◌<◌, min, max}
use Rattle.std.proofs.Common.{inl, inr, arith}
use Rattle.std.proofs.Math.Bool.{and-eq-true_iff}
use Rattle.runs.specs.Laws.Tests.{lt_or_ge}
use Rattle.runs.specs.Runs.{Run, Steps, In, Mem, Canon, push, mem, Lists}
use Rattle.runs.specs.Laws.Canon.{mem_ge, from_weaken}
use Rattle.runs.specs.Laws.Runs.{InStep, skip_lists, push_lists, mem_true, mem_test}
use Rattle.runs.specs.Meet.{Lcm, Spaced, Meeting}
use Rattle.runs.specs.Laws.Lcm.{lcm_steps}

-- ---- the walk: s is the step of what is written, f the test of what is sought

-- The numbers below n with f are written: they are those of O. The others are those that both X and Y name, what is left of the two lists.
pub record Walk (a b s : ℕ) (f : ℕ → Bool) (X Y O : List Run) : Type 0 where
  pub n : ℕ
  pub left : Canon a X
  pub right : Canon b Y
  pub written : Lists s f n O
  pub rest : (y : ℕ) → (Mem a y X × Mem b y Y) ↔ ((n ≤ y) × (f y ≡ true))

-- what is met of the two current runs is put at the end of what is written
abbrev pub Put : ℕ → Run → Run → ℕ → ℕ → List Run → List Run → Type 0
Put s x y a b O O' =
    (((z : ℕ) → In a z x → In b z y → ⊥) × (O' ≡ O))
    ⊎ ((r : Run) × ((z : ℕ) → In s z r ↔ (In a z x × In b z y)) × Steps s r.first r.last × (O' ≡ push s r O))

module _ (a b s : ℕ) (f : ℕ → Bool) (p : 1 ≤ a) (q : 1 ≤ b) (i : InStep s f) where
  module _ (x y : Run) (X Y O : List Run) (w : Walk a b s f (x ∷ X) (y ∷ Y) O) where
    -- up to here all is written after the meeting
    abbrev met : ℕ
    met = max w.n (suc (min x.last y.last))

    both : (z : ℕ) → w.n ≤ z → z < met → f z ≡ true → In a z x × In b z y
    both z l g h = let (u, v) = (w.rest z).1 (l, h) in (in_x u, in_y v)
      where
        in_x : Mem a z (x ∷ X) → In a z x
        in_x (inl u) = u
        in_x (inr u) = absurd (omega (arith, mem_ge a (x.last + 2 * a) z X w.left.2 u))

        in_y : Mem b z (y ∷ Y) → In b z y
        in_y (inl u) = u
        in_y (inr u) = absurd (omega (arith, mem_ge b (y.last + 2 * b) z Y w.right.2 u))

    pub written_met : (O' : List Run) → Put s x y a b O O' → Lists s f met O'
    written_met O' (inl (out, e)) =
        rw e (skip_lists s f w.n met O (omega arith) w.written (λ z l g. none z l g (f z) refl))
      where
        none : (z : ℕ) → w.n ≤ z → z < met → (t : Bool) → f z ≡ t → t ≡ false
        none z l g true h = let (u, v) = both z l g h in absurd (out z u v)
        none z l g false h = refl
    written_met O' (inr (r, is, t, e)) =
        let u = (is r.first).0 ((0, omega arith), omega arith) in
        let v = (is r.last).0 (t, omega arith) in
        let n = (w.rest r.first).0 (inl u.0, inl u.1) in
        rw e (push_lists s f w.n met r O i w.written n.0 (omega arith) t
        (λ z l g. (λ h. (is z).1 (both z l g h), λ h. let k = (is z).0 h in ((w.rest z).0 (inl k.0, inl k.1)).1)))

    pub pass_left : (O' : List Run) → Put s x y a b O O' → x.last ≤ y.last → Walk a b s f X (y ∷ Y) O'
    pass_left O' put l = record {
      n = met;
      left = from_weaken a 0 (x.last + 2 * a) X (omega arith) w.left.2;
      right = w.right;
      written = written_met O' put;
      rest = λ z. (
        λ (u, v). let g = mem_ge a (x.last + 2 * a) z X w.left.2 u in let k = (w.rest z).0 (inr u, v) in (omega arith, k.1),
        λ (g, h). let (u, v) = (w.rest z).1 (omega arith, h) in (past z g u, v),
      );
    }
      where
        past : (z : ℕ) → met ≤ z → Mem a z (x ∷ X) → Mem a z X
        past z g (inl u) = absurd (omega arith)
        past z g (inr u) = u

    pub pass_right : (O' : List Run) → Put s x y a b O O' → y.last ≤ x.last → Walk a b s f (x ∷ X) Y O'
    pass_right O' put l = record {
      n = met;
      left = w.left;
      right = from_weaken b 0 (y.last + 2 * b) Y (omega arith) w.right.2;
      written = written_met O' put;
      rest = λ z. (
        λ (u, v). let g = mem_ge b (y.last + 2 * b) z Y w.right.2 v in let k = (w.rest z).0 (u, inr v) in (omega arith, k.1),
        λ (g, h). let (u, v) = (w.rest z).1 (omega arith, h) in (u, past z g v),
      );
    }
      where
        past : (z : ℕ) → met ≤ z → Mem b z (y ∷ Y) → Mem b z Y
        past z g (inl u) = absurd (omega arith)
        past z g (inr u) = u

-- ---- all of it

-- the numbers that both name, as a test
abbrev pub is_in_both : ℕ → ℕ → List Run → List Run → ℕ → Bool
is_in_both a b A B y = mem a y A && mem b y B

module _ (a b : ℕ) (A B : List Run) where
  both_to : (y : ℕ) → is_in_both a b A B y ≡ true → Mem a y A × Mem b y B
  both_to y h = let (u, v) = (and-eq-true_iff (mem a y A) (mem b y B)).0 h in (mem_true a y A u, mem_true b y B v)

  both_of : (y : ℕ) → Mem a y A → Mem b y B → is_in_both a b A B y ≡ true
  both_of y u v = (and-eq-true_iff (mem a y A) (mem b y B)).1 (mem_test a y A u, mem_test b y B v)

  -- what both name is in steps of the least common multiple
  pub both_steps : (s : ℕ) → Lcm a b s → Spaced a A → Spaced b B → InStep s (is_in_both a b A B)
  both_steps s c u v x y h k l =
      let (p, q) = both_to x h in
      let (m, n) = both_to y k in
      lcm_steps a b s x y c l (u x y p m l) (v x y q n l)

  pub walk_start : (s : ℕ) → Canon a A → Canon b B → Walk a b s (is_in_both a b A B) A B []
  walk_start s c d = record {
    n = 0;
    left = c;
    right = d;
    written = record { canon = tt; named = λ y. (λ h. absurd h, λ h. absurd (omega arith)) };
    rest = λ y. (λ (u, v). (omega arith, both_of y u v), λ (l, h). both_to y h);
  }

  -- THEOREM: where nothing is left in one of the lists, what is written is what both name
  pub walk_done : (s : ℕ) (X Y O : List Run) → Walk a b s (is_in_both a b A B) X Y O → ((y : ℕ) → Mem a y X → Mem b y Y → ⊥) → Meeting a b s A B O
  walk_done s X Y O w h = record {
    canon = w.written.canon;
    named = λ y. (λ m. both_to y ((w.written.named y).0 m).1, λ (u, v). (w.written.named y).1 (below y (both_of y u v), both_of y u v));
  }
    where
      below : (y : ℕ) → is_in_both a b A B y ≡ true → y < w.n
      below y t = go (lt_or_ge y w.n)
        where
          go : (y < w.n) ⊎ (w.n ≤ y) → y < w.n
          go (inl l) = l
          go (inr l) = let (u, v) = (w.rest y).1 (l, t) in absurd (h y u v)

  -- what is written is no more than what both name
  pub written_of : (s n y : ℕ) (O : List Run) → Lists s (is_in_both a b A B) n O → Mem s y O → Mem a y A
  written_of s n y O g m = (both_to y ((g.named y).0 m).1).0
