-- MODEL 22.3: the connected sets of a card's free cells, counted by its runs of free cells. Assumes nothing.
use Rattle.std.specs.Prelude.{ℕ, ◌+◌, ◌<◌, ◌≡◌, ◌↔◌, List}
use Rattle.runs.specs.Intervals.{Named, Apart}
use Rattle.runs.specs.Laws.Intervals.{intervals_free}
use Rattle.sets.specs.Graph.{In}
use Rattle.sets.specs.Forest.{Alone, merges}
use Rattle.model.specs.Columns.{Device, columns, kind, cells}
use Rattle.model.specs.Book.{Book, cell_free}
use Rattle.model.specs.Fragments.{Cell, heights, free_cells, connected_sets}
use Rattle.model.proofs.Laws.Columns.{height_pos}
use Rattle.model.proofs.Laws.Fragments.{free_on, free_cells_are, free_cells_distinct}
use Rattle.fragments.specs.Nodes.{free_runs, base, card_edges}
use Rattle.fragments.specs.Laws.Grid.{card_count}

module _ (d : Device) (b : Book) where
  -- the runs name the free cells
  free_cells_named : (x : Cell) → In x (free_cells d b) ↔ ((x.column < columns d) × Named x.number (free_runs d b x.column))
  unfolding free_runs
  free_cells_named x =
      let named = (intervals_free (cell_free d b x.column) (cells d x.column)).named x.number in (
        λ m.
            let t = (free_cells_are d b x).0 m in
            let (l, k) = free_on d b x.column x.number t in
            (l, named.1 (k, t)),
        λ (l, n). (free_cells_are d b x).1 (named.0 n).1,
      )

  runs_canon : (c : ℕ) → Apart 0 (free_runs d b c)
  unfolding free_runs
  runs_canon c = (intervals_free (cell_free d b c) (cells d c)).canon

  -- THEOREM: the connected sets are the runs of free cells, less the edges that bring two sets of runs together
  pub sets_count : (P : List ℕ) → Alone (base (free_runs d b) (columns d)) P
      → merges P (card_edges (heights d) (free_runs d b) (columns d)) + connected_sets d b ≡ base (free_runs d b) (columns d)
  unfolding connected_sets
  sets_count =
      card_count (columns d) (heights d) (λ c. height_pos (kind d c)) (free_runs d b) runs_canon (free_cells d b) free_cells_named (free_cells_distinct d b)
