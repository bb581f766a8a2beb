-- `LentDesk::release`: the record that the call leaves is a card. Assumes nothing.
use Rattle.desk.specs.Laws.Card.{card_after}
use Rattle.desk.proofs.LentDesk.release.Goals as goal

pub invariant_of-self : goal.invariant_of-self
invariant_of-self c = record { is_card = card_after _ c.args.self.now.is_card _ c.release.ensures.record_is }
