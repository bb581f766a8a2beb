-- The merging append: what it names, and that it keeps a list canonical. Assumes nothing.
use Rattle.std.specs.Prelude.{◌≡◌, ◌⊎◌, true, false, ℕ, zero, suc, ◌+◌, ◌*◌, ◌≤◌, ◌<◌, eqb}
use Rattle.std.proofs.Math.Logic.{inl, inr}
use mathlib.Core.List.{List, [], ◌∷◌}
use Rattle.std.proofs.Common.{arith}
use Rattle.std.proofs.lemmas.Bool.{eqb-false}
use Rattle.runs.specs.Laws.Tests.{tests, cond_ind, lt_or_ge}
use Rattle.runs.specs.Runs.{Run, run, Steps, In, Mem, From, push}
use Rattle.runs.specs.Laws.Steps.{steps_sub}
use Rattle.runs.specs.Laws.Canon.{first_in, last_in}

-- a is one or more steps above all that L names
abbrev pub Over : ℕ → ℕ → List Run → Type 0
Over s a L = (y : ℕ) → Mem s y L → Steps s (y + s) a

-- one or more steps above b, and not one
two_above : (s a b k : ℕ) → a ≡ b + s + k * s → ¬ (b + s ≡ a) → b + 2 * s ≤ a
two_above s a b zero e h = absurd (h (omega arith))
two_above s a b (suc k) e h = omega arith

pub push_from : (s m : ℕ) (r : Run) (L : List Run) → From s m L → m ≤ r.first → Steps s r.first r.last → Over s r.first L → From s m (push s r L)
unfolding push
push_from s m r [] c g t o = (g, t, tt)
push_from s m r (q ∷ []) c g t o =
    let k = o q.last (inl (last_in s m q [] c)) in
    cond_ind (From s m) (eqb (q.last + s) r.first)
    (λ e. (c.0, (c.1.0 + suc t.0, omega tests), tt))
    (λ e. (c.0, c.1, (two_above s r.first q.last k.0 k.1 (eqb-false (q.last + s) r.first e), t, tt)))
push_from s m r (q ∷ p ∷ L) c g t o =
    let k = o p.first (inr (inl (first_in s (q.last + 2 * s) p L c.2))) in
    (c.0, c.1, push_from s (q.last + 2 * s) r (p ∷ L) c.2 (omega arith) t (λ y h. o y (inr h)))

-- a run that is joined of two names what the two name
module _ (s y : ℕ) (q r : Run) (e : q.last + s ≡ r.first) (c : Steps s q.first q.last) (t : Steps s r.first r.last) where
  join_to : In s y (run q.first r.last) → In s y q ⊎ In s y r
  join_to h = go (lt_or_ge q.last y)
    where
      go : (q.last < y) ⊎ (y ≤ q.last) → In s y q ⊎ In s y r
      go (inl l) = let k = steps_sub s q.first q.last y c h.0 l in inr ((k.0, omega arith), h.1)
      go (inr g) = inl (h.0, g)

  join_of : In s y q ⊎ In s y r → In s y (run q.first r.last)
  join_of (inl h) = (h.0, omega arith)
  join_of (inr h) = ((c.0 + suc h.0.0, omega arith), h.1)

module _ (s y : ℕ) (r : Run) (t : Steps s r.first r.last) where
  -- q in front of what is named
  in_front : (q : Run) (L : List Run) → Mem s y L ⊎ In s y r → Mem s y (q ∷ L) ⊎ In s y r
  in_front q L (inl h) = inl (inr h)
  in_front q L (inr h) = inr h

  pub push_to : (m : ℕ) (L : List Run) → From s m L → Mem s y (push s r L) → Mem s y L ⊎ In s y r
  unfolding push
  push_to m [] c (inl h) = inr h
  push_to m [] c (inr h) = elim h [ ]
  push_to m (q ∷ []) c h = cond_ind (λ K. Mem s y K → Mem s y (q ∷ []) ⊎ In s y r) (eqb (q.last + s) r.first) joined apart h
    where
      sum : In s y q ⊎ In s y r → Mem s y (q ∷ []) ⊎ In s y r
      sum (inl k) = inl (inl k)
      sum (inr k) = inr k

      joined : eqb (q.last + s) r.first ≡ true → Mem s y (run q.first r.last ∷ []) → Mem s y (q ∷ []) ⊎ In s y r
      joined e (inl k) = sum (join_to s y q r (omega tests) c.1 t k)
      joined e (inr k) = elim k [ ]

      apart : eqb (q.last + s) r.first ≡ false → Mem s y (q ∷ r ∷ []) → Mem s y (q ∷ []) ⊎ In s y r
      apart e (inl k) = inl (inl k)
      apart e (inr (inl k)) = inr k
      apart e (inr (inr x6)) = elim x6 [ ]
  push_to m (q ∷ p ∷ L) c (inl h) = inl (inl h)
  push_to m (q ∷ p ∷ L) c (inr h) = in_front q (p ∷ L) (push_to (q.last + 2 * s) (p ∷ L) c.2 h)

  pub push_of : (m : ℕ) (L : List Run) → From s m L → Mem s y L ⊎ In s y r → Mem s y (push s r L)
  unfolding push
  push_of m [] c (inl h) = elim h [ ]
  push_of m [] c (inr h) = inl h
  push_of m (q ∷ []) c h = cond_ind (λ K. Mem s y K) (eqb (q.last + s) r.first) (λ e. inl (join_of s y q r (omega tests) c.1 t (sum h))) (λ e. apart h)
    where
      sum : Mem s y (q ∷ []) ⊎ In s y r → In s y q ⊎ In s y r
      sum (inl (inl k)) = inl k
      sum (inl (inr k)) = elim k [ ]
      sum (inr k) = inr k

      apart : Mem s y (q ∷ []) ⊎ In s y r → Mem s y (q ∷ r ∷ [])
      apart (inl (inl k)) = inl k
      apart (inr k) = inr (inl k)
      apart (inl (inr x6)) = elim x6 [ ]
  push_of m (q ∷ p ∷ L) c (inl (inl h)) = inl h
  push_of m (q ∷ p ∷ L) c (inl (inr h)) = inr (push_of (q.last + 2 * s) (p ∷ L) c.2 (inl h))
  push_of m (q ∷ p ∷ L) c (inr h) = inr (push_of (q.last + 2 * s) (p ∷ L) c.2 (inr h))
