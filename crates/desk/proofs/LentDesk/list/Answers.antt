-- `LentDesk::list`: a refusal is printed as one, and otherwise the ranges that were written are printed. Assumes nothing.
use Rattle.std.proofs.Common.{w32, to_z-of_z, arith}
use Rattle.desk.specs.Laws.Listing.{list_refused, list_done}
use Rattle.desk.proofs.LentDesk.list.Goals as goal

pub print_ranges-requires-clause-listed : goal.print_ranges-requires-clause-listed
print_ranges-requires-clause-listed c =
    let k = c.args.self.now in
    let x = rw c.as_slice.ensures at c.in-Ok.ensures in
    (list_done _ _ _ k.is_card c.requires.lists c.args.number _ _ x.answer_is x.output_is).0

pub print_ranges-requires-clause-has_room : goal.print_ranges-requires-clause-has_room
print_ranges-requires-clause-has_room c =
    let k = c.args.self.now in
    let x = rw c.as_slice.ensures at c.in-Ok.ensures in
    let few = (list_done _ _ _ k.is_card c.requires.lists c.args.number _ _ x.answer_is x.output_is).0 in
    rw c.requires.empty (omega (arith, few, c.requires.has_room, c.list.auto.output, c.requires.lists))

pub returns-in-Ok-clause-printed : goal.returns-in-Ok-clause-printed
returns-in-Ok-clause-printed c =
    let k = c.args.self.now in
    let x = rw c.as_slice.ensures at c.in-Ok.ensures in
    rw (c.print_ranges.ensures.printed, c.requires.empty) (list_done _ _ _ k.is_card c.requires.lists c.args.number _ _ x.answer_is x.output_is).1

pub returns-in-Err-clause-printed : goal.returns-in-Err-clause-printed
returns-in-Err-clause-printed c =
    let k = c.args.self.now in
    let x = rw c.as_slice.ensures at c.in-Err.ensures in
    rw (c.say.ensures.printed, c.requires.empty, to_z-of_z {w = w32} (record { sfits = c.from.type_inv }), c.from.ensures) (list_refused _ _ _ k.is_card c.requires.lists c.args.number _ x.answer_is)
