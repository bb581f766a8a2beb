-- MODEL 16: the interval count and the view, return by return. Assumes nothing.
use Rattle.std.specs.Prelude.{ℕ, ◌+◌, ◌-◌, ◌*◌, ◌≤◌, ◌<◌, ◌≡◌, true, List, [], pos, take, drop}
use Rattle.std.proofs.Common.{sym, ap, ◌∙◌}
use Rattle.std.proofs.lemmas.List.{take-take}
use native.Mathlib.Omega.{arith}
use Rattle.model.specs.Limits.{interval_size, column_size}
use Rattle.model.specs.Columns.{columns}
use Rattle.model.specs.Record.{device_of, book_of, part, column_at}
use Rattle.model.specs.Sound.{sound, count_of}
use Rattle.model.specs.OnRecord.{interval_count, view_of, view}
use Rattle.model.proofs.Laws.WriteBack.{Bytes}
use Rattle.model.proofs.Laws.Limits.{limits_to}
use Rattle.model.proofs.Laws.Record.{record_count}
use Rattle.model.proofs.Laws.Sound.{sound_record}
use Rattle.model.proofs.Laws.Clauses.{clauses_to}
use Rattle.model.proofs.Laws.OnRecord.{count_no_column, count_done}
use Rattle.column.specs.Laws.Lent.{lent}
use Rattle.record.specs.Fits.{Listed}
use Rattle.card.specs.declared.refusal.Refusal.TheVariants.{DeviceOrColumn}
use Rattle.card.specs.Leaves.{Leaves}
use Rattle.card.specs.Checks.{Uncounted}
use Rattle.card.specs.Laws.Answers.{answers, leaves}

module _ (r : List ℕ) (k : ℕ) (s : sound r ≡ true) where
  pub count_none : columns (device_of r) ≤ k → Uncounted r k DeviceOrColumn
  unfolding view view_of
  count_none l = let e = count_no_column r k s l in (e, rw e)

  module _ (l : k < columns (device_of r)) where
    pub counted : Listed r k
    counted =
        let c = clauses_to r s in
        let cols = (limits_to (device_of r) (book_of r) c.limits).columns in
        record { size = c.size; column = omega arith; few = c.few_intervals k (omega arith) }

    module _ (B : Bytes r) where
      count_said : (interval_count r k).answer ≡ pos (count_of r k)
      count_said =
          let q = counted.column in
          sym (answers (count_done r k s l)) ∙ ap pos (sym (record_count (device_of r) (book_of r) k q)) ∙ ap (λ (v : List ℕ). pos (count_of v k)) (sym (sound_record r B s))

      pub count_done_at : Leaves (interval_count r k) (pos (count_of r k)) r []
      count_done_at =
          let d = leaves (count_done r k s l) in
          record { answer_is = sym count_said; record_is = d.record_is; output_is = d.output_is }

      -- a number that is the count, however it was read
      pub count_told : {n : ℕ} → n ≡ count_of r k → Leaves (interval_count r k) (pos n) r []
      count_told e = rw e count_done_at

      pub view_part : take (interval_size * count_of r k) (lent r k) ≡ view r k
      unfolding view view_of part
      view_part =
          let few : interval_size * count_of r k ≤ column_at k + column_size - column_at k = omega (arith, counted.few) in
          rw count_said (take-take _ _ (drop (column_at k) r) few)
