-- `soundness::is_sound` meets its contract. Assumes nothing.
use Rattle.soundness.specs.Laws.Sound.{held_none, judged_sound, columns_judged}
use Rattle.soundness.proofs.is_sound.Goals as goal

pub mark_entries-requires : goal.mark_entries-requires
mark_entries-requires c = let l = c.in-Some.legible in held_none _ _ (rw l.said at l.device.whole) c.new-held.ensures

pub returns : goal.returns
returns c =
    let l = c.in-Some.legible in
    let d = rw l.said at l.device.whole in
    rw c.in-Some.ensures at (judged_sound _ _ l.size d (c.mark_entries.ensures.holds c.if-not-mark_entries.false)
    (c.unused_ok.ensures.0 c.if-not-unused_ok.false) _ (columns_judged _ l.octets d _ (rw l.counted at c.columns_ok.ensures)))
