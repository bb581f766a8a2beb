-- `check_place`: the refusals of `check_task`, −7, −8, −10, or none of them. Assumes nothing.
use native.Mathlib.Omega.{arith}
use Rattle.std.proofs.Common.{refl, to_z-of_z}
use Rattle.card.specs.Laws.Checks.{given}
use Rattle.card.specs.Laws.Place.{place_bad, place_full, place_misfit, placing}
use Rattle.card.proofs.check_place.Goals as goal

pub returns-then-bad_number : goal.returns-then-bad_number
returns-then-bad_number c =
    let k = c.in_ok-record in
    place_bad _ _ _ _ _ (λ i. omega (arith, c.type_inv.record i)) (given k.record k.task k.ensures) (cc k.ensures.0)

pub returns-then-running-ge-MAX_RUNNING : goal.returns-then-running-ge-MAX_RUNNING
returns-then-running-ge-MAX_RUNNING c =
    let k = c.in_ok-record in
    place_full _ _ _ _ _ (λ i. omega (arith, c.type_inv.record i)) (given k.record k.task k.ensures) (cc k.ensures.0) (rw (c.running.ensures.count, k.ensures.0) at c.if-running-ge-MAX_RUNNING.true)

pub returns-in-Some : goal.returns-in-Some
returns-in-Some c =
    let k = c.in_ok-record in
    placing _ _ _ _ _ (λ i. omega (arith, c.type_inv.record i)) (given k.record k.task k.ensures) (cc k.ensures.0) (rw (c.running.ensures.count, k.ensures.0) at c.if-running-ge-MAX_RUNNING.false) _ refl k.ensures.1 (rw (to_z-of_z c.ranges.bottom, k.ensures.0, k.ensures.1) at c.in-Some.ensures)

pub returns-in-None : goal.returns-in-None
returns-in-None c =
    let k = c.in_ok-record in
    place_misfit _ _ _ _ _ (λ i. omega (arith, c.type_inv.record i)) (given k.record k.task k.ensures) (cc k.ensures.0) (rw (c.running.ensures.count, k.ensures.0) at c.if-running-ge-MAX_RUNNING.false) (rw (to_z-of_z c.ranges.bottom, k.ensures.0, k.ensures.1) at c.in-None.ensures)
