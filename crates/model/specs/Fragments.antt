-- MODEL 22: how broken up a card is: which cells touch, the connected sets of the free cells, and the degree.
-- That `connected_sets` is the number of sets into which touching joins the free cells is proved in Laws.Fragments. Assumes nothing.
use Rattle.std.specs.Prelude.{ℕ, suc, ◌-◌, ◌*◌, ◌/◌, Bool, cond, ◌&&◌, ◌||◌, List, map, ltb, leb, eqb}
use Rattle.sets.specs.Graph.{set_count}
use Rattle.model.specs.Limits.{whole_degree}
use Rattle.model.specs.Bounded.{join_below, those_below}
use Rattle.model.specs.Columns.{Device, columns, kind, cells, height}
use Rattle.model.specs.Book.{Book, cell_free}

-- MODEL 3.5: a cell by its column and by its number there, from the bottom up
pub record Cell : Type 0 where
  pub column : ℕ
  pub number : ℕ

abbrev pub cell : ℕ → ℕ → Cell
cell c k = record { column = c; number = k }

-- MODEL 3.5: its lowest half row, and the one above its highest, where h c is the height of the cells of column c
abbrev pub bottom_of : (ℕ → ℕ) → Cell → ℕ
bottom_of h x = h x.column * x.number

abbrev pub top_of : (ℕ → ℕ) → Cell → ℕ
top_of h x = h x.column * suc x.number

-- one number follows the other
abbrev pub adjacent : ℕ → ℕ → Bool
adjacent m n = eqb (suc m) n || eqb (suc n) m

-- MODEL 22.1: neighbours in one column
unfoldable pub neighbours : Cell → Cell → Bool
neighbours x y = eqb x.column y.column && adjacent x.number y.number

-- MODEL 22.1: in neighbouring columns, and with a half row in common
unfoldable pub across : (ℕ → ℕ) → Cell → Cell → Bool
across h x y = adjacent x.column y.column && (ltb (bottom_of h x) (top_of h y) && ltb (bottom_of h y) (top_of h x))

-- MODEL 22.1: two cells touch
unfoldable pub touch : (ℕ → ℕ) → Cell → Cell → Bool
touch h x y = neighbours x y || across h x y

-- MODEL 3.3: the height of the cells of each column
abbrev pub heights : Device → ℕ → ℕ
heights d c = height (kind d c)

-- MODEL 22.2: the free cells, column by column and upwards
unfoldable pub free_cells : Device → Book → List Cell
free_cells d b = join_below (columns d) (λ c. map (cell c) (those_below (cells d c) (cell_free d b c)))

-- MODEL 22.3: how many connected sets they have
unfoldable pub connected_sets : Device → Book → ℕ
connected_sets d b = set_count (touch (heights d)) (free_cells d b)

-- MODEL 22.4: the degree of n sets of f free cells
unfoldable pub degree : ℕ → ℕ → ℕ
degree n f = cond (leb f 1) 0 (whole_degree * (n - 1) / (f - 1))
