-- Answers of `column::rewrite::write_joined`.
use Rattle.column.specs.Laws.Writing.{join_room, join_end}
use Rattle.column.proofs.rewrite.write_joined.Goals as goal

pub absorb-carried-requires-clause-room : goal.absorb-carried-requires-clause-room
absorb-carried-requires-clause-room c = join_room _ _ _ c.loop-i.invariant.writing c.requires.joinable.has_room.room

pub push-requires-clause-room : goal.push-requires-clause-room
push-requires-clause-room c = join_room _ _ _ c.loop-i.invariant.writing c.requires.joinable.has_room.room

pub returns : goal.returns
returns c = join_end _ _ _ c.loop-i-test.false c.loop-i.invariant.writing c.push.ensures
