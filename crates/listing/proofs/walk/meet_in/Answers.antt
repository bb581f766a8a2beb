-- Answers of `listing::walk::meet_in`.
use Rattle.std.proofs.Common.{sym, inl, inr, arith}
use Rattle.task.specs.Blocks.{seen}
use Rattle.listing.specs.Laws.Walk.{walking_start, ends_of, walking_short, puttable, walking_left, walking_right, walking_done}
use Rattle.listing.proofs.walk.meet_in.Goals as goal

pub loop-i-init : goal.loop-i-init
loop-i-init c = record { walking = walking_start _ _ (seen c.args.b) _ _ c.requires.meetable; few = omega arith }

pub overflow_sub-free : goal.overflow_sub-free
overflow_sub-free c = omega (arith, ends_of _ _ (seen c.args.b) _ _ c.requires.meetable _ _ c.if-j-column.true c.interval-free.ensures)

pub loop-i-preserved-then-free-b : goal.loop-i-preserved-then-free-b
loop-i-preserved-then-free-b c = record {
  walking = walking_short _ _ (seen c.args.b) _ _ c.requires.meetable _ _ c.if-j-column.true c.interval-free.ensures _ _ c.if-free-b.true c.loop-i.invariant.walking;
  few = c.loop-i.invariant.few;
}

pub bottoms_in-y-requires : goal.bottoms_in-y-requires
bottoms_in-y-requires c =
    let e = ends_of _ _ (seen c.args.b) _ _ c.requires.meetable _ _ c.if-j-column.true c.interval-free.ensures in
    omega (arith, c.requires.meetable.full, c.requires.meetable.below)

pub put_in-n-requires-clause-puttable : goal.put_in-n-requires-clause-puttable
put_in-n-requires-clause-puttable c =
    puttable _ _ (seen c.args.b) _ _ c.requires.meetable _ _ c.if-j-column.true c.interval-free.ensures
    _ c.index-list-i.result c.loop-i-test.true (sym c.index-list-i.is) c.if-free-b.false _ _ c.in_steps-x.ensures c.bottoms_in-y.ensures _ c.loop-i.invariant.walking

pub loop-i-preserved-then-x-y : goal.loop-i-preserved-then-x-y
loop-i-preserved-then-x-y c = record {
  walking =
      walking_left _ _ (seen c.args.b) _ _ c.requires.meetable _ _ c.if-j-column.true c.interval-free.ensures
      _ c.index-list-i.result c.loop-i-test.true (sym c.index-list-i.is) c.if-free-b.false _ _ c.in_steps-x.ensures c.bottoms_in-y.ensures _ _ c.loop-i.invariant.walking
      c.put_in-n.ensures.joined c.if-x-y.true;
  few = c.put_in-n.ensures.few;
}

pub loop-i-preserved : goal.loop-i-preserved
loop-i-preserved c = record {
  walking =
      walking_right _ _ (seen c.args.b) _ _ c.requires.meetable _ _ c.if-j-column.true c.interval-free.ensures
      _ c.index-list-i.result c.loop-i-test.true (sym c.index-list-i.is) c.if-free-b.false _ _ c.in_steps-x.ensures c.bottoms_in-y.ensures _ _ c.loop-i.invariant.walking
      c.put_in-n.ensures.joined c.if-x-y.false;
  few = c.put_in-n.ensures.few;
}

pub returns-else-j-column : goal.returns-else-j-column
returns-else-j-column c = record { met = walking_done _ _ (seen c.args.b) _ _ c.requires.meetable _ _ _ (inr c.if-j-column.false) c.loop-i.invariant.walking; few = c.loop-i.invariant.few }

pub returns-after-loop-i : goal.returns-after-loop-i
returns-after-loop-i c = record { met = walking_done _ _ (seen c.args.b) _ _ c.requires.meetable _ _ _ (inl c.loop-i-test.false) c.loop-i.invariant.walking; few = c.loop-i.invariant.few }
