-- MODEL 9.8: the unused bytes of a sound record are 0, part by part. Assumes nothing.
use Rattle.std.specs.Prelude.{ℕ, ◌+◌, ◌-◌, ◌/◌, ◌≡◌, true, List, get_or}
use Rattle.std.proofs.Common.{arith, lt-ltb, le-ltb}
use Rattle.model.specs.Limits.{record_size, columns_at, running_at, kinds_at, counts_at, intervals_at, column_size, entries_at, entry_size}
use Rattle.model.specs.Record.{column_at, entry_at}
use Rattle.model.specs.Sound.{count_of, used, sound}
use Rattle.model.proofs.Laws.Clauses.{Zero, clauses_to}
use Rattle.record.specs.Entries.{HasEntry}
use Rattle.soundness.specs.Soundness.{RestZero, Unused}

module _ (r : List ℕ) (s : sound r ≡ true) where
  kinds_unused : Zero r (kinds_at + get_or r columns_at 0) counts_at
  kinds_unused = (clauses_to r s).no_kind

  counts_unused : Zero r (counts_at + get_or r columns_at 0) intervals_at
  counts_unused = (clauses_to r s).no_count

  parts_unused : Zero r (column_at (get_or r columns_at 0)) entries_at
  parts_unused i p q =
      let c = (i - intervals_at) / column_size in
      let x = clauses_to r s in
      let none : count_of r c ≡ 0 = x.no_count (counts_at + c) (omega arith) (omega arith) in
      x.no_interval c (omega arith) i (omega (arith, none)) (omega arith)

  entries_unused : Zero r (entry_at (get_or r running_at 0)) record_size
  unfolding used
  entries_unused i p q =
      let j = (i - entries_at) / entry_size in
      let h = rw (le-ltb j (get_or r running_at 0) (omega arith)) at ((clauses_to r s).no_block j (omega arith)) in
      h i (omega arith) (omega arith)

  pub sound_unused : Unused r
  sound_unused = record { kinds = kinds_unused; counts = counts_unused; parts = parts_unused; entries = entries_unused }

  pub rest_unused : (j : ℕ) → HasEntry r j → RestZero r j
  unfolding used
  rest_unused j x i p q =
      let h = rw (lt-ltb j (get_or r running_at 0) x.runs) at ((clauses_to r s).no_block j (omega (arith, x.few, x.runs))) in
      h i (omega arith) q
