-- `cells::ColumnBits::carry` meets its contract. Assumes nothing.
use Rattle.std.proofs.Common.{◌*◌, ◌-◌, ◌+◌, ◌≡◌, arith}
use Rattle.cells.specs.Bits.{word_bits}
use Rattle.cells.specs.Ends.{free_below}
use Rattle.cells.proofs.ColumnBits.carry.Goals as goal

pub returns : goal.returns
returns c =
    let q = c.args.q in
    let s = c.args.self in
    let e : word_bits * (q - 1) + word_bits ≡ word_bits * q = omega arith in
    (c.top_bit.ensures.0, rw e at (c.top_bit.ensures.1 (free_below s.words.now s.cells) (word_bits * (q - 1)) c.free.ensures))
