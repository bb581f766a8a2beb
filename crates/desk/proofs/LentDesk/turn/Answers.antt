-- `LentDesk::turn`: one turn of the model's program. Assumes nothing.
use Rattle.desk.specs.Laws.Program.{next_desk, left_at, number_at}
use Rattle.desk.proofs.LentDesk.turn.Goals as goal

pub returns-clause-turned : goal.returns-clause-turned
returns-clause-turned c =
    let x = c.on_line.ensures.leaves in
    record {
      left_is = left_at _ _ c.at.result c.at.ensures;
      number_is = number_at _ _ c.at.result c.at.ensures;
      desk_is = next_desk _ _ _ c.args.self.now.is_card.within x;
      printed_is = x.printed_is;
    }
