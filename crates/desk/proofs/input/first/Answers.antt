-- `first`: the names of the first line, and what follows. Assumes nothing.
use Rattle.std.proofs.Common.{rules}
use Rattle.std.proofs.lemmas.Result.{err_from_is_err_and}
use Rattle.desk.specs.Laws.Input.{first_named, leads_on}
use Rattle.desk.proofs.input.first.Goals as goal

pub returns-in_err-names : goal.returns-in_err-names
returns-in_err-names c =
    let x = c.from_residual in
    let p = err_from_is_err_and x.result x.ensures.1 in
    rw (p.1, p.2) (rw c.in_err-names.was at (first_named _ c.names.result c.names.ensures (λ l b h. rw (← h.2) (search rules))))

pub returns : goal.returns
returns c =
    let e = first_named _ c.names.result c.names.ensures (λ l b h. rw (← h.2) (search rules)) in
    leads_on _ _ _ (rw c.in_ok-names.was at e) c.second.result c.second.ensures
