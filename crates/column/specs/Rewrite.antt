-- MODEL 12.4 and 12.5: what the contract of `rewrite` says of the function that writes a part anew. Assumes nothing.
use Rattle.std.specs.Prelude.{ℕ, ◌≡◌, List, []}
use Rattle.std.specs.Borrow.{MutBor}
use Rattle.std.specs.Fn.{Once}
use Rattle.column.specs.declared.Column.{Column}
use Rattle.column.specs.declared.rewrite.Draft.{Draft}
use Rattle.column.specs.Part.{Holding}

module _ {F : Type 0} (g : Once F (Column × (MutBor Draft × Unit {0})) (Unit {0} × (MutBor Draft × Unit {0}))) (f : F) (p : List ℕ) (n : ℕ) where
  -- f may be called with a column of n intervals in the part p, and a draft of none
  abbrev pub Writes : Type 0
  Writes = (c : Column) (d : MutBor Draft) → c.part.now ≡ p → c.count ≡ n → Holding d.now.bytes.now d.now.count [] → g.pre f (c, (d, tt))

  -- such a call may leave the m intervals of the part q
  pub record Written (q : List ℕ) (m : ℕ) : Type 0 where
    pub column : Column
    pub draft : MutBor Draft
    pub part_is : column.part.now ≡ p
    pub count_is : column.count ≡ n
    pub empty : Holding draft.now.bytes.now draft.now.count []
    pub left : MutBor Draft
    pub called : g.post f (column, (draft, tt)) (tt, (left, tt))
    pub leaves : q ≡ left.now.bytes.now
    pub answers : m ≡ left.now.count
