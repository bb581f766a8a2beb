-- `print_ranges`: one range more. Assumes nothing.
use Rattle.std.proofs.Common.{◌≡◌, [], ◌++◌, ◌/◌, List, ℕ, pos, refl, sym, ap, ◌∙◌, w32, take, length, length-take, get_or, take_all, append_assoc, to_z-of_z, arith, rules}
use mathlib.Core.List.{append-nil}
use Rattle.model.specs.Limits.{range_size}
use Rattle.model.specs.Bounded.{join_in}
use Rattle.desk.specs.Buffer.{filled}
use Rattle.desk.specs.Desk.{range_of, range_line}
use Rattle.desk.specs.Laws.Listing.{shows_more, ranges_are}
use Rattle.desk.proofs.ranges.print_ranges.Goals as goal

pub loop-range-init : goal.loop-range-init
unfolding join_in
loop-range-init c = record { printed = sym (append-nil _); fits = omega arith; text = λ t. t; same_lent = (refl, refl) }

pub push-requires : goal.push-requires
push-requires c =
    let i = c.loop-range.invariant in
    let n = c.args.count in
    omega (arith, i.fits, i.same_lent.1, c.requires.has_room, c.as_bytes.ensures.len, c.as_str.ensures.fits, c.loop-range-test.true, c.from.ensures, length-take c.from.result c.as_chunks.result.0.now)

pub loop-range-preserved : goal.loop-range-preserved
loop-range-preserved c =
    let L = take c.from.result c.as_chunks.result.0.now in
    let i = c.loop-range.range-index in
    let line : c.as_bytes.result.now ≡ range_line c.args.number (pos c.args.count) (range_of (get_or L i [])) = c.as_bytes.ensures.value ∙ c.as_str.ensures.value ∙ c.text.ensures.text ∙ rw (c.from-in-loop-range.ensures, to_z-of_z {w = w32} {z = pos c.args.count} (record { sfits = omega arith }), c.from-in-loop-range-2.ensures, c.get16.ensures.is, c.from-in-loop-range-3.ensures, c.get16-in-loop-range.ensures.is) in
    record {
      printed = rw (c.push.ensures.bytes, c.loop-range.invariant.printed, line, append_assoc) (ap (λ (l : List ℕ). filled c.args.out.now ++ l) (shows_more _ _ i L c.loop-range-test.true));
      fits = omega (arith, c.push.ensures.len, c.as_str.ensures.fits);
      text = λ t. c.push.ensures.text (c.loop-range.invariant.text t) c.as_bytes.ensures.utf8;
      same_lent = search rules;
    }

pub returns-clause-printed : goal.returns-clause-printed
returns-clause-printed c =
    let n = c.args.count in
    let chunks = length c.args.listing.now / range_size in
    rw (c.loop-range.invariant.printed, take_all c.loop-range.range-index (take c.from.result c.as_chunks.result.0.now) c.loop-range-test.false, c.as_chunks.ensures.front, c.from.ensures, ranges_are n chunks c.args.listing.now (omega (arith, c.requires.listed)))
