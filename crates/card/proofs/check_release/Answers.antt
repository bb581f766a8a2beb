-- `check_release`: −11, or a task that runs. Assumes nothing.
use native.Mathlib.Omega.{arith}
use Rattle.record.specs.Laws.Entries.{found_runs}
use Rattle.card.specs.Laws.Release.{release_not}
use Rattle.card.proofs.check_release.Goals as goal

pub returns-then-is_none : goal.returns-then-is_none
returns-then-is_none c =
    let k = c.in_ok-check_record in
    release_not _ _ (rw k.ensures at k.field-0.sound) (λ i. omega (arith, c.type_inv.record i)) (rw (c.find.ensures, found_runs c.args.number _, k.ensures) at c.if-is_none.ensures)

pub returns : goal.returns
returns c =
    let k = c.in_ok-check_record in
    record { sound = rw k.ensures at k.field-0.sound; runs = rw (c.find.ensures, found_runs c.args.number _, k.ensures) at c.if-is_none.ensures }
