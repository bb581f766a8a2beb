-- `bad_number`: no number of a task, or what the search found. Assumes nothing.
use Rattle.std.proofs.Common.{◌≡◌, true}
use Rattle.model.specs.Sound.{number_ok}
use Rattle.record.specs.Laws.Entries.{found_runs}
use Rattle.card.proofs.bad_number.Goals as goal

pub returns-else-not-number_ok : goal.returns-else-not-number_ok
returns-else-not-number_ok c =
    let ok : number_ok c.args.number ≡ true = cc in
    rw (ok, c.is_some.ensures, c.find.ensures) (found_runs _ _)
