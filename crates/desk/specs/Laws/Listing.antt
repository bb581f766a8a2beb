-- A listing printed: its ranges read back from the bytes, and its answer. Assumes nothing.
use Rattle.std.specs.Prelude.{ℕ, zero, suc, ◌+◌, ◌*◌, ◌<◌, ◌≤◌, refl, ◌⊎◌, Bool, true, false, not, ltb, ℤ, pos, negsuc, length, map, take, drop, get_or, replicate}
use Rattle.std.proofs.Math.Path.{◌≡◌, ap}
use Rattle.std.proofs.Common.{sym, ◌∙◌, inl, inr, arith, length-append}
use Rattle.std.proofs.Math.Option.{Option, none, some}
use mathlib.Core.List.{List, [], ◌∷◌, ◌++◌, append-nil}
use Rattle.std.specs.Simd.{first_chunks}
use Rattle.std.proofs.lemmas.List.{length-replicate, get_or-take, map_more}
use Rattle.model.specs.Limits.{range_size, list_room}
use Rattle.model.specs.Bounded.{join_in}
use Rattle.model.specs.Columns.{Device}
use Rattle.model.specs.Tasks.{word, sized, well_formed}
use Rattle.model.specs.Book.{Book}
use Rattle.model.specs.Listing.{Range, ranges}
use Rattle.model.specs.Record.{device_of, book_of, bytes16}
use Rattle.model.specs.Calls.{list, Outcome, refuse, refused, refusals, no_position, unless, lent, done, on_book, range_bytes, ranges_in, over}
use Rattle.model.specs.OnRecord.{written, on_record}
use Rattle.model.specs.Sheet.{list_draft}
use Rattle.model.specs.Program.{says, shows, listed, on_call}
use Rattle.model.proofs.Laws.Listing.{join_append}
use Rattle.model.proofs.Laws.RangeBytes.{read_ranges}
use Rattle.card.specs.declared.refusal.Refusal.{Refusal}
use Rattle.card.specs.Refusals.{number_of}
use Rattle.desk.specs.Desk.{desk_of, Card, range_of, range_line}
use Rattle.desk.specs.Laws.Card.{on_card}
use Rattle.desk.specs.Laws.Refusals.{refused_below}

-- ---- ranges by their bytes

-- those of a listing, one after the other
pub ranges_are : (n k : ℕ) (o : List ℕ) → n ≤ k → map range_of (take n (first_chunks range_size k o)) ≡ ranges_in n o
unfolding ranges_in word
ranges_are zero k o h = refl
ranges_are (suc n) zero o h = absurd (omega arith)
ranges_are (suc n) (suc k) o h =
    rw (get_or-take range_size o 0 0 (omega arith), get_or-take range_size o 1 0 (omega arith), get_or-take range_size o 2 0 (omega arith), get_or-take range_size o 3 0 (omega arith), get_or-take range_size o 4 0 (omega arith), get_or-take range_size o 5 0 (omega arith))
    (ap (λ (L : List Range). range_of o ∷ L) (ranges_are n k (drop range_size o) (omega arith)))

-- one more printed
pub shows_more : (number : ℕ) (a : ℤ) (i : ℕ) (L : List (List ℕ)) → i < length L
    → shows number a (map range_of (take i L)) ++ range_line number a (range_of (get_or L i [])) ≡ shows number a (map range_of (take (i + 1) L))
unfolding join_in
shows_more number a i L h = sym (rw (map_more range_of L i [] h, join_append (range_line number a) (map range_of (take i L)) (range_of (get_or L i []) ∷ []), append-nil (range_line number a (range_of (get_or L i [])))))

-- ---- the listing of a card

range_length : (L : List Range) → length (join_in range_bytes L) ≡ range_size * length L
unfolding join_in range_bytes bytes16
range_length [] = refl
range_length (r ∷ L) = rw (length-append (range_bytes r) (join_in range_bytes L)) (omega (arith, range_length L))

-- a listing's answer is a refusal, or the number of its ranges, which it wrote
abbrev Cases : Device → Book → List ℕ → List ℕ → Bool → Outcome Book → Type 0
Cases d b t o s x =
    ((m : ℕ) × (x.answer ≡ negsuc m)) ⊎ ((s ≡ true) × (x.answer ≡ pos (length (ranges d b t))) × (x.output ≡ over (join_in range_bytes (ranges d b t)) o))

cases : (d : Device) (b : Book) (t o : List ℕ) → Cases d b t o (sized t) (on_book d b (list t o))
unfolding on_book refusals refused unless done lent
cases d b t o = go (sized t) (well_formed t) (ltb (length o) list_room) (no_position d b t)
  where
    go : (s w f n : Bool)
        → Cases d b t o s (unless (refused (refuse 4 (not s) ∷ refuse 5 (not w) ∷ refuse 6 f ∷ refuse 9 n ∷ [])) (lent (list t o)) b (done d b (list t o)))
    go false w f n = inl (3, refl)
    go true false f n = inl (4, refl)
    go true true true n = inl (5, refl)
    go true true false true = inl (8, refl)
    go true true false false = inr (refl, refl, refl)

-- the answer is the same for every output with room
unless_answer : {S : Type 0} (x : Option ℕ) (o o' : List ℕ) (s : S) (r r' : Outcome S) → r.answer ≡ r'.answer → (unless x o s r).answer ≡ (unless x o' s r').answer
unfolding unless
unless_answer none o o' s r r' e = e
unless_answer (some n) o o' s r r' e = refl

same_answer : (d : Device) (b : Book) (t o o' : List ℕ) → length o ≡ list_room → length o' ≡ list_room → (on_book d b (list t o)).answer ≡ (on_book d b (list t o')).answer
unfolding on_book refusals done
same_answer d b t o o' l l' = rw (l, l') (unless_answer _ _ _ b _ _ refl)

module _ (r t o : List ℕ) (k : Card r) (l : length o ≡ list_room) (number : ℕ) where
  listed_as : (z : ℤ) → z ≡ (on_record r (list t o)).answer → (listed number (desk_of r t) z).printed ≡ (on_call number (desk_of r t) list_draft).printed
  unfolding on_call written
  listed_as z e =
      ap (λ (a : ℤ). (listed number (desk_of r t) a).printed) (e ∙ ap (λ (x : Outcome (List ℕ)). x.answer) (on_card r k (list t o)) ∙ same_answer (device_of r) (book_of r) t o (replicate list_room 0) l (length-replicate {A = ℕ} list_room 0))

  -- a refusal is printed as one
  pub list_refused : (e : Refusal) → number_of e ≡ (on_record r (list t o)).answer → says number (number_of e) ≡ (on_call number (desk_of r t) list_draft).printed
  list_refused e h = go (number_of e) (refused_below e) h
    where
      go : (z : ℤ) → ((n : ℕ) → z ≡ pos n → ⊥) → z ≡ (on_record r (list t o)).answer → says number z ≡ (on_call number (desk_of r t) list_draft).printed
      go (pos n) q h = absurd (q n refl)
      go (negsuc n) q h = listed_as (negsuc n) h

  -- otherwise the bytes have as many ranges as were answered, and they are the task's
  pub list_done : (n : ℕ) (o' : List ℕ) → pos n ≡ (on_record r (list t o)).answer → o' ≡ (on_record r (list t o)).output
      → (range_size * n ≤ length o') × (shows number (pos n) (ranges_in n o') ≡ (on_call number (desk_of r t) list_draft).printed)
  unfolding written over
  list_done n o' e q = go (cases (device_of r) (book_of r) t o)
    where
      L : List Range
      L = ranges (device_of r) (book_of r) t

      same : pos n ≡ (on_book (device_of r) (book_of r) (list t o)).answer
      same = e ∙ ap (λ (x : Outcome (List ℕ)). x.answer) (on_card r k (list t o))

      go : Cases (device_of r) (book_of r) t o (sized t) (on_book (device_of r) (book_of r) (list t o))
          → (range_size * n ≤ length o') × (shows number (pos n) (ranges_in n o') ≡ (on_call number (desk_of r t) list_draft).printed)
      go (inl (m, a)) = absurd (let q : ◌≡◌ {A = ℕ} 0 1 = cc same in omega arith)
      go (inr (s, a, w)) =
          let count : n ≡ length L = cc same in
          let bytes : o' ≡ over (join_in range_bytes L) o = q ∙ ap (λ (x : Outcome (List ℕ)). x.output) (on_card r k (list t o)) ∙ w in (
            rw (bytes, count) (omega (arith, length-append (join_in range_bytes L) (drop (length (join_in range_bytes L)) o), range_length L)),
            rw (bytes, count, read_ranges (device_of r) (book_of r) k.within t s o) (rw count at (listed_as (pos n) e)),
          )
