-- `soundness::sound`: bytes of another length are not sound (`sound_array`). Assumes nothing.
use Rattle.soundness.specs.Laws.Judged.{sound_array}
use Rattle.soundness.proofs.sound.Goals as goal

pub returns : goal.returns
returns c = sound_array _ _ _ c.as_array.ensures.cases c.is_some_and.ensures
