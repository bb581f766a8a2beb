-- MODEL 11.2 and 11.3: the score of a position, block by block. Assumes nothing.
use Prim.Native.Nat.{ℕ, suc, ◌+◌, ◌-◌, ◌*◌, ◌≤◌, ◌<◌}
use Rattle.std.specs.Prelude.{◌≡◌, refl, Bool, List}
use Rattle.std.proofs.Common.{sym, ◌∙◌}
use Rattle.std.proofs.Math.Bool.{true, false}
use native.Mathlib.Omega.{arith}
use Rattle.runs.specs.Intervals.{Interval}
use Rattle.model.specs.Limits.{max_rows, max_blocks, words}
use Rattle.model.specs.Bounded.{sum_below}
use Rattle.model.specs.Columns.{Device, columns}
use Rattle.model.specs.Tasks.{blocks, block, well_formed}
use Rattle.model.specs.Book.{Book, Placed, placed, fits, intervals}
use Rattle.model.specs.Homes.{home, joined}
use Rattle.model.proofs.Laws.Bounded.{last_or}
use Rattle.model.proofs.Laws.Homes.{Stands as Free, adds_is, first_span_is, adds_small, at_home}
use Rattle.model.specs.Record.{device_of, book_of}
use Rattle.model.proofs.Laws.Tasks.{sized_to}
use Rattle.model.proofs.Laws.Ends.{n_adds, s_firsts, stands}
use Rattle.task.specs.declared.Extent.{Extent}
use Rattle.task.specs.Blocks.{SameExtent}
use Rattle.listing.specs.Columns.{Given}
use Rattle.column.specs.declared.Interval.{Interval as Read}
use Rattle.choice.specs.Choosing.{free_in, moved, Stands, home_of, shared, span_of, Alone, Addable, Added, Rated, Scoring, Scored}
use Rattle.choice.specs.Laws.Homes.{block_of, home_at, joined_shared, shared_is, stands_housed, on_device}
use Rattle.choice.specs.declared.tally.Place.{Place}
use Rattle.choice.specs.declared.tally.Rating.{Rating}
use Rattle.choice.specs.declared.tally.Tally.{Tally}

span_small : (joined : Bool) (i : Read) → i.top ≤ 2 * max_rows → span_of joined i ≤ 2 * max_rows
span_small true i l = omega arith
span_small false i l = omega arith

-- no block, with a room
none : ℕ → Rating
none u = record { score = record { pieces = 0; stretch = 0; few = omega arith; short = omega arith }; room = u }

module _ (B : Placed) (L : ℕ → List Interval) where
  rated_none : (u : ℕ) → u < words → Rated B L 0 (none u)
  unfolding none sum_below
  rated_none u s = record {
    within = omega arith;
    pieces = refl;
    stretch = refl;
    room = λ j l. absurd (omega arith);
    pieces_few = omega arith;
    stretch_small = omega arith;
    room_small = s;
  }

  module _ (C : ℕ) (st : Free B C L) (k : ℕ) (x : Rating) (l : k < B.count) (r : Rated B L k x) where
    -- one block more
    pub rated_next : (home B L k).top ≤ 2 * max_rows → (t : Bool) → joined B L k ≡ t → (y : Rating) → Added x t (block_of B L k).rows (home_at B L k).rows y
        → Rated B L (k + 1) y
    unfolding sum_below
    rated_next small t e y w =
        let next : k + 1 ≡ suc k = omega arith in
        let h = (at_home B C L st k l).above in
        let n = adds_is B L k (home B L k) t refl e in
        let s = first_span_is B L k (home B L k) t refl e in
        let few = adds_small B L k in
        let short = span_small t (home_at B L k).rows small in
        rw next (record {
          within = l;
          pieces = omega (arith, w.pieces, r.pieces, n);
          stretch = omega (arith, w.stretch, r.stretch, s);
          room = λ j q. last_or (λ n. B.top n + y.room ≤ (home B L n).top) k j q (λ u. omega (arith, r.room j u, w.room)) (omega (arith, w.room));
          pieces_few = omega (arith, r.pieces_few, w.pieces, n);
          stretch_small = omega (arith, r.stretch_small, w.stretch, s);
          room_small = omega (arith, r.room_small, w.room);
        })

  -- the same behind the last one, in whose home the block may stand
  pub scoring_next : (C : ℕ) → Free B C L → (k : ℕ) → 1 ≤ k → k < B.count → (home B L k).top ≤ 2 * max_rows → (x : Tally) → Scoring B L k x
      → (y : Tally) → Added x.rating (shared x.last (block_of B L k)) (block_of B L k).rows (home_at B L k).rows y.rating → y.last ≡ home_at B L k → Scoring B L (k + 1) y
  scoring_next C st k m l small x g y h q =
      let back : k + 1 - 1 ≡ k = omega arith in
      record {
        rated = rated_next C st k x.rating l g.rated small (shared x.last (block_of B L k)) (rw g.last (joined_shared B L C st k m l)) y.rating h;
        last = rw back q;
      }

-- one block more of a task that fits
module _ (r t : List ℕ) (a : Given r t) (p y k : ℕ) (f : fits (device_of r) (book_of r) t p y ≡ true) (l : k < blocks t) (x : Extent) (s : SameExtent x (block t k))
    (b : Place) (e : b ≡ moved x p y) where
  free : Free (placed t p y) (columns (device_of r)) (free_in r)
  free = stands (device_of r) (book_of r) t a.formed p y f

  is_block : b ≡ block_of (placed t p y) (free_in r) k
  unfolding placed
  is_block = e ∙ rw (s.column, s.low, s.high)

  pub block_stands : Stands (free_in r) b
  unfolding placed
  block_stands =
      let on = (on_device r t a p y k f l x s).column in
      rw is_block (record { on_device = omega (arith, s.column); full = free.full k l; held = free.held k l })

  pub block_addable : (o : Rating) → Rated (placed t p y) (free_in r) k o → Addable (free_in r) o b
  block_addable o g =
      let few = (sized_to t a.sized).few in
      record { stands = block_stands; few = omega (arith, g.pieces_few); short = omega (arith, g.stretch_small) }

  block_rated : (o : Rating) → Rated (placed t p y) (free_in r) k o → (q : Bool) → joined (placed t p y) (free_in r) k ≡ q
      → (z : Rating) → Added o q b.rows (home_of (free_in r) b).rows z → Rated (placed t p y) (free_in r) (k + 1) z
  unfolding placed home
  block_rated o g q j z h =
      let small = (stands_housed r a.sound b block_stands _ refl).roof_small in
      rated_next _ _ _ free k o l g (rw is_block at small) q j z (rw is_block at h)

  -- block 0 is the first in its home
  pub scoring_first : k ≡ 0 → (z : Tally) → Alone false b.rows (home_of (free_in r) b).rows z.rating
      → z.last ≡ home_of (free_in r) b → Scoring (placed t p y) (free_in r) (k + 1) z
  unfolding joined none placed home
  scoring_first m z h q =
      let back : k + 1 - 1 ≡ k = omega arith in
      let small : z.rating.room < words = omega (arith, h.room, (stands_housed r a.sound b block_stands _ refl).roof_small) in
      record {
        rated = block_rated (none z.rating.room) (rw m (rated_none (placed t p y) (free_in r) z.rating.room small)) false (rw m) z.rating (record {
          pieces = omega (arith, h.pieces);
          stretch = omega (arith, h.stretch);
          room = omega (arith, h.room);
        });
        last = rw back (q ∙ rw is_block);
      }

  -- a later block may stand in that of the block before it
  module _ (m : 1 ≤ k) (o : Tally) (g : Scoring (placed t p y) (free_in r) k o) where
    pub next_shared : shared o.last b ≡ true → o.last ≡ home_of (free_in r) b
    unfolding placed home
    next_shared = rw (g.last, is_block) (shared_is (placed t p y) (free_in r) _ free k m l)

    pub block_next : (z : Tally) → Added o.rating (shared o.last b) b.rows (home_of (free_in r) b).rows z.rating
        → z.last ≡ home_of (free_in r) b → Scoring (placed t p y) (free_in r) (k + 1) z
    unfolding placed home
    block_next z h q =
        let small = (stands_housed r a.sound b block_stands _ refl).roof_small in
        scoring_next _ _ _ free k m l (rw is_block at small) o g z (rw is_block at h) (q ∙ rw is_block)

-- all blocks are scored
pub scored : (d : Device) (b : Book) (t : List ℕ) (p y k : ℕ) (x : Rating) → well_formed t ≡ true → blocks t ≤ max_blocks → fits d b t p y ≡ true
    → blocks t ≤ k → Rated (placed t p y) (intervals d b) k x → Scored d b t p y x
unfolding placed
scored d b t p y k x w few f l r =
    let e : k ≡ blocks t = omega (arith, r.within) in
    record {
      pieces = (rw e at r.pieces) ∙ sym (n_adds d b t w p y f);
      stretch = (rw e at r.stretch) ∙ sym (s_firsts d b t w p y f);
      room = λ j i. r.room j (omega arith);
      room_small = r.room_small;
    }
