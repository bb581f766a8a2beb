-- The bits of all columns beside the model's book. Assumes nothing.
use Rattle.std.specs.Prelude.{ℕ, ◌+◌, ◌*◌, ◌<◌, ◌≡◌, Bool, ◌||◌, List}
use Rattle.model.specs.Bounded.{any_below}
use Rattle.model.specs.Columns.{Device, columns, kind, cells, height}
use Rattle.model.specs.Book.{Book, Placed, covers, held}
use Rattle.cells.specs.Bits.{cell_bit}

-- bit k of column c's words is f at every half row of cell k
abbrev pub Shown : Device → (ℕ → ℕ → Bool) → (ℕ → List ℕ) → Type 0
Shown d f ws = (c k i : ℕ) → c < columns d → k < cells d c → i < height (kind d c) → cell_bit (ws c) k ≡ f c (height (kind d c) * k + i)

-- held by the book, or by one of the first j blocks of B
abbrev pub held_with : Book → Placed → ℕ → ℕ → ℕ → Bool
held_with b B j c z = held b c z || any_below j (covers B c z)
