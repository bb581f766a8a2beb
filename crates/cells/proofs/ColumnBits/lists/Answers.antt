-- `cells::ColumnBits::lists` meets its contract. Assumes nothing.
use Rattle.std.proofs.Common.{arith, eqb-true}
use Rattle.std.proofs.lemmas.Bool.{false≢true}
use Rattle.words.specs.Laws.Zeros.{zeros_decided}
use Rattle.cells.specs.Laws.Compares.{listing_start, listing_room, listing_next, listing_differs, listing_few, listing_yes, listing_no}
use Rattle.cells.proofs.ColumnBits.lists.Goals as goal

pub loop-q-init : goal.loop-q-init
loop-q-init c = listing_start _ _ _ _

pub same_ends-requires : goal.same_ends-requires
same_ends-requires c =
    let s = c.args.self in
    (listing_room _ _ _ s.listable _ c.requires c.loop-q.invariant _ _ c.first_cell.ensures c.changes.ensures (omega arith), omega (arith, s.listable.short))

pub loop-q-preserved : goal.loop-q-preserved
loop-q-preserved c = listing_next _ _ _ c.args.self.listable _ c.requires c.loop-q.invariant _ _ c.first_cell.ensures c.changes.ensures _ c.in-Some.ensures

pub returns-in_default : goal.returns-in_default
returns-in_default c = (
  λ t. absurd (false≢true t),
  λ x. absurd (listing_differs _ _ _ c.args.self.listable _ c.requires c.loop-q.invariant _ _ c.first_cell.ensures c.changes.ensures (omega arith) c.in_default.ensures _ x),
)

pub overflow_mul-met : goal.overflow_mul-met
overflow_mul-met c = omega (arith, listing_few _ _ _ c.args.self.listable _ c.requires c.loop-q.invariant (omega arith))

pub slice_bounds-zeros-count : goal.slice_bounds-zeros-count
slice_bounds-zeros-count c = omega (arith, listing_few _ _ _ c.args.self.listable _ c.requires c.loop-q.invariant (omega arith), c.requires)

pub slice_bounds-zeros-start : goal.slice_bounds-zeros-start
slice_bounds-zeros-start c = omega (arith, listing_few _ _ _ c.args.self.listable _ c.requires c.loop-q.invariant (omega arith), c.requires)

pub returns-then-met-count : goal.returns-then-met-count
returns-then-met-count c =
    let f = c.args.self.listable in
    let l = c.loop-q.invariant in
    let rest = zeros_decided _ _ _ _ (rw c.requires at c.zeros.ensures) in (
      λ t. listing_yes _ _ _ f _ c.requires l (omega arith) (λ j. omega (arith, c.type_inv.part j)) _ c.if-met-count.true (rest.0 t),
      λ x. rest.1 (listing_no _ _ _ f _ c.requires l (omega arith) _ x).1,
    )

pub returns-else-met-count : goal.returns-else-met-count
returns-else-met-count c = (
  λ t. absurd (c.if-met-count.false (eqb-true _ _ t)),
  λ x. absurd (c.if-met-count.false (listing_no _ _ _ c.args.self.listable _ c.requires c.loop-q.invariant (omega arith) _ x).0),
)
