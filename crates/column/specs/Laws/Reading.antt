-- The intervals of a part that a loop has still to read: at the start, one more, at the end. Assumes nothing.
use Rattle.std.proofs.Common.{ℕ, suc, ◌+◌, ◌-◌, ◌≤◌, ◌<◌, ◌≡◌, List, [], ◌∷◌, arith, add-one}
use Rattle.std.proofs.Math.Nat.{sub-zero}
use Rattle.runs.specs.Intervals.{interval}
use Rattle.column.specs.declared.Interval.{Interval as Read}
use Rattle.column.specs.Part.{listed_from, listed_in, ReadAt}

pub listed_all : (p : List ℕ) (n : ℕ) → listed_in p n ≡ listed_from p 0 (n - 0)
unfolding listed_in
listed_all p n = rw sub-zero

pub listed_end : {i n : ℕ} (p : List ℕ) → n ≤ i → listed_from p i (n - i) ≡ []
listed_end {i} {n} p h = let e : n - i ≡ 0 = omega arith in rw e

module _ {p : List ℕ} {i n : ℕ} {x : Read} (q : i < n) (r : ReadAt p i x) where
  pub listed_next : listed_from p i (n - i) ≡ interval x.bottom x.top ∷ listed_from p (i + 1) (n - (i + 1))
  listed_next = let e : n - i ≡ suc (n - (i + 1)) = omega arith in rw (e, r.is, add-one)
