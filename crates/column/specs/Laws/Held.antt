-- MODEL 11.1: the interval of a list that holds b..t, and what the search of `holder` finds. Assumes nothing.
use Rattle.std.proofs.Common.{ℕ, zero, suc, ◌≤◌, ◌≡◌, refl, Bool, true, false, ◌&&◌, leb, Some, None, ◌<◌, arith, inl, inr, List, [], ◌∷◌, map, ap, add-one, le-leb, lt-ltb, le-ltb}
use borrow.Author.Tests.{lt-leb}
use Rattle.std.specs.List.{find, range_with_len}
use Rattle.runs.specs.Intervals.{Interval, interval, Apart, Holds}
use Rattle.runs.specs.Laws.Tests.{tests, cond_ind}
use Rattle.runs.specs.Laws.Intervals.{named_ge, holds_of}
use Rattle.model.specs.Homes.{holder}
use Rattle.model.specs.Bounded.{In as Among}
use Rattle.model.proofs.Laws.Bounded.{and_to, and_of, clash}
use Rattle.column.specs.declared.Interval.{Interval as Read}
use Rattle.column.specs.Part.{interval_at, listed_from, listed_in, ReadAt, held_in}

-- x is an interval of L, and holds b..t
pub record Holder (b t : ℕ) (L : List Interval) (x : Read) : Type 0 where
  pub among : Among (interval x.bottom x.top) L
  pub low : x.bottom ≤ b
  pub high : t ≤ x.top

-- whether i holds b..t
abbrev is_holding : ℕ → ℕ → Interval → Bool
is_holding b t i = leb i.bottom b && leb t i.top

holds_yes : (b t : ℕ) (i : Interval) → is_holding b t i ≡ true → (i.bottom ≤ b) × (t ≤ i.top)
holds_yes b t i e = let (p, q) = and_to (leb i.bottom b) (leb t i.top) e in (omega tests, omega tests)

holds_no : (b t : ℕ) (i : Interval) → is_holding b t i ≡ false → i.bottom ≤ b → t ≤ i.top → ⊥
holds_no b t i e p q = clash (and_of _ _ (le-leb i.bottom b p) (le-leb t i.top q)) e

module _ (b t : ℕ) where
  -- where it says an interval, that is one of the list, and holds b..t
  pub held_within : (L : List Interval) (x : Read) → held_in b t L ≡ Some x → Holder b t L x
  unfolding held_in
  held_within [] x e = absurd (let z : ◌≡◌ {A = ℕ} 0 1 = cc in omega arith)
  held_within (i ∷ L) x e =
      cond_ind (λ h. h ≡ Some x → Holder b t (i ∷ L) x) (is_holding b t i)
      (λ y f. let s : ◌≡◌ {A = Read} (record { bottom = i.bottom; top = i.top }) x = cc in
      rw (← s) (record { among = inl refl; low = (holds_yes b t i y).0; high = (holds_yes b t i y).1 }))
      (λ n f. let r = held_within L x f in record { among = inr r.among; low = r.low; high = r.high })
      e

  -- and so some interval does
  pub holder_holds : (L : List Interval) (x : Read) → Holder b t L x → Holds b t L
  holder_holds L x h = go L h.among
    where
      go : (L : List Interval) → Among (interval x.bottom x.top) L → Holds b t L
      go [] a = a
      go (i ∷ L) (inl e) = inl (rw (← e) (h.low, h.high))
      go (i ∷ L) (inr a) = inr (go L a)

  -- it says nowhere just where no interval holds b..t
  pub held_nowhere : (L : List Interval) → held_in b t L ≡ None → Holds b t L → ⊥
  unfolding held_in
  held_nowhere [] e h = h
  held_nowhere (i ∷ L) e h = cond_ind (λ r. r ≡ None → ⊥) (is_holding b t i)
      (λ y f. let z : ◌≡◌ {A = ℕ} 0 1 = cc in omega arith) (λ n f. rest n (held_nowhere L f) h) e
    where
      rest : is_holding b t i ≡ false → (Holds b t L → ⊥) → Holds b t (i ∷ L) → ⊥
      rest n k (inl g) = holds_no b t i n g.0 g.1
      rest n k (inr g) = k g

  -- on a canonical list it is the model's: the interval that holds half row b
  pub holding_holder : (m : ℕ) (L : List Interval) → b < t → Apart m L → Holds b t L → held_in b t L ≡ Some (record { bottom = (holder L b).bottom; top = (holder L b).top })
  unfolding held_in holder
  holding_holder m [] p c h = absurd h
  holding_holder m (i ∷ L) p c (inl h) = rw (le-leb i.bottom b h.0, le-leb t i.top h.1, lt-ltb b i.top (omega arith))
  holding_holder m (i ∷ L) p c (inr h) =
      let above : suc i.top ≤ b = named_ge (suc i.top) b L c.2 (holds_of b t p L h b (omega arith) p) in
      rw (le-leb i.bottom b (omega arith), lt-leb t i.top (omega arith), le-ltb b i.top (omega arith)) (holding_holder (suc i.top) L p c.2 h)

-- ---- `holder`: the first of the intervals read that holds b..t

-- interval i of the part p, as the code has it
abbrev pub read_at : List ℕ → ℕ → Read
read_at p i = record { bottom = (interval_at p i).bottom; top = (interval_at p i).top }

pub read_is : {p : List ℕ} {i : ℕ} {r : Read} → ReadAt p i r → r ≡ read_at p i
read_is e = ap (λ (x : Interval). record { bottom = x.bottom; top = x.top }) e.is

module _ (p : List ℕ) (b t : ℕ) where
  found_from : (a n : ℕ) → find (λ (x : Read). leb x.bottom b && leb t x.top) (map (read_at p) (range_with_len a n)) ≡ held_in b t (listed_from p a n)
  unfolding held_in
  found_from a zero = refl
  found_from a (suc n) = rw (add-one, found_from (suc a) n)

  pub found_held : (n : ℕ) → find (λ (x : Read). leb x.bottom b && leb t x.top) (map (read_at p) (range_with_len 0 n)) ≡ held_in b t (listed_in p n)
  unfolding listed_in
  found_held n = found_from 0 n
