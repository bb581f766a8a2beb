-- MODEL 10.5 and 15.6: the fitting positions stand in order, by column and then by bottom, each once. Assumes nothing.
use Rattle.std.specs.Prelude.{ℕ, zero, suc, ◌≡◌, refl, ◌⊎◌, Bool, true, false, cond, List, [], ◌∷◌, ◌++◌, map}
use Rattle.std.proofs.Common.{inl, inr, ⊎_elim, append-nil, append_assoc, arith}
use Rattle.sets.specs.Laws.Lists.{in_append_to}
use Rattle.model.specs.Bounded.{In, join_below, those_below}
use Rattle.model.specs.Columns.{Device, columns, half_rows}
use Rattle.model.specs.Book.{Book, fits}
use Rattle.model.specs.Listing.{Position, position, fitting}
use Rattle.model.specs.Claim.{Before, InOrder}
use Rattle.model.proofs.Laws.Bounded.{map_append}

-- L is in order, and all of it comes before column p, bottom n
record Ahead (p n : ℕ) (L : List Position) : Type 0 where
  order : InOrder L
  before : (u : Position) → In u L → Before u (position p n)

in_last : (u v : Position) (L : List Position) → In u (L ++ (v ∷ [])) → In u L ⊎ (u ≡ v)
in_last u v L m = ⊎_elim (λ k. inl k) (λ k. inr (⊎_elim (λ e. e) (λ z. absurd z) k)) (in_append_to u L (v ∷ []) m)

order_last : (v : Position) (L : List Position) → InOrder L → ((u : Position) → In u L → Before u v) → InOrder (L ++ (v ∷ []))
order_last v [] o b = (λ w i. absurd i, tt)
order_last v (u ∷ L) o b = (λ w i. go w (in_last w v L i), order_last v L o.1 (λ w i. b w (inr i)))
  where
    go : (w : Position) → In w L ⊎ (w ≡ v) → Before u w
    go w (inl j) = o.0 w j
    go w (inr e) = rw e (b u (inl refl))

module _ (p n : ℕ) where
  -- one bottom on, and one column on
  higher : (u : Position) → Before u (position p n) → Before u (position p (suc n))
  higher u (inl l) = inl l
  higher u (inr (e, l)) = inr (e, omega arith)

  further : (L : List Position) → Ahead p n L → Ahead (suc p) 0 L
  further L a = record { order = a.order; before = λ u i. go u (a.before u i) }
    where
      go : (u : Position) → Before u (position p n) → Before u (position (suc p) 0)
      go u (inl l) = inl (omega arith)
      go u (inr (e, l)) = inl (omega arith)

  skipped : (L : List Position) → Ahead p n L → Ahead p (suc n) L
  skipped L a = record { order = a.order; before = λ u i. higher u (a.before u i) }

  added : (L : List Position) → Ahead p n L → Ahead p (suc n) (L ++ (position p n ∷ []))
  added L a = record {
    order = order_last (position p n) L a.order a.before;
    before = λ u i. go u (in_last u (position p n) L i);
  }
    where
      go : (u : Position) → In u L ⊎ (u ≡ position p n) → Before u (position p (suc n))
      go u (inl j) = higher u (a.before u j)
      go u (inr e) = rw e (inr (refl, omega arith))

-- behind what comes before column p: its bottoms below n
column : (f : ℕ → Bool) (p : ℕ) (L : List Position) → Ahead p 0 L → (n : ℕ) → Ahead p n (L ++ map (position p) (those_below n f))
unfolding those_below
column f p L a zero = rw (append-nil L) a
column f p L a (suc n) = go (f n) (column f p L a n)
  where
    go : (t : Bool) → Ahead p n (L ++ map (position p) (those_below n f)) → Ahead p (suc n) (L ++ map (position p) (those_below n f ++ cond t (n ∷ []) []))
    go true h =
        rw (map_append (position p) (those_below n f) (n ∷ []), ← append_assoc L (map (position p) (those_below n f)) (position p n ∷ []))
        (added p n (L ++ map (position p) (those_below n f)) h)
    go false h = rw (append-nil (those_below n f)) (skipped p n (L ++ map (position p) (those_below n f)) h)

-- the columns below c
columns_ahead : (f : ℕ → ℕ → Bool) (h c : ℕ) → Ahead c 0 (join_below c (λ p. map (position p) (those_below h (f p))))
unfolding join_below
columns_ahead f h zero = record { order = tt; before = λ u i. absurd i }
columns_ahead f h (suc c) =
    let L = join_below c (λ p. map (position p) (those_below h (f p))) in
    further c h (L ++ map (position c) (those_below h (f c))) (column (f c) c L (columns_ahead f h c) h)

-- THEOREM: so do all
pub fitting_in_order : (d : Device) (b : Book) (t : List ℕ) → InOrder (fitting d b t)
unfolding fitting
fitting_in_order d b t = (columns_ahead (fits d b t) (half_rows d) (columns d)).order
