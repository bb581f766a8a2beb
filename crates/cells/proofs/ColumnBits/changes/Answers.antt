-- `cells::ColumnBits::changes` meets its contract. Assumes nothing.
use Rattle.std.proofs.Common.{◌*◌}
use Rattle.cells.specs.Bits.{word_bits}
use Rattle.cells.specs.Ends.{free_below}
use Rattle.cells.proofs.ColumnBits.changes.Goals as goal

pub returns : goal.returns
returns c = let s = c.args.self in c.change_word.ensures (free_below s.words.now s.cells) (word_bits * c.args.q) c.free.ensures c.carry.ensures.1
