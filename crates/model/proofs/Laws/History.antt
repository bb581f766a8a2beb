-- MODEL 15: the theorem `history`, one claim about every history (demand 3). A call on the record is `on_record`, the definition that the contracts
-- of the exported functions cite; one on the book is `on_book`, to which only the device, the book and the call are given. Assumes nothing.
use Rattle.std.specs.Prelude.{ℕ, ◌≤◌, ◌≡◌, refl, ◌↔◌, Bool, true, not, cond, List, [], ◌∷◌, eqb, leb, ℤ, pos, neg_ℤ, length}
use Rattle.std.proofs.Common.{sym, ap, ◌∙◌, inl, inr, arith}
use Rattle.std.proofs.Math.Logic.Iff
use Rattle.std.proofs.Math.Bool.{false}
use Rattle.std.proofs.Math.Option.{none, some}
use Rattle.std.proofs.lemmas.Bool.{not-false}
use Rattle.model.specs.Limits.{max_running, record_size, list_room}
use Rattle.model.specs.Bounded.{all_in, In}
use Rattle.model.specs.Columns.{Device, device_ok}
use Rattle.model.specs.Tasks.{sized, well_formed}
use Rattle.model.specs.Book.{Running, Book}
use Rattle.model.specs.Record.{record_of}
use Rattle.model.specs.Sound.{number_ok, rising, task_ok, apart, book_ok, within}
use Rattle.model.specs.Calls.{Call, list, choose, Outcome, refused, no_position, unless, on_book}
use Rattle.model.specs.OnRecord.{written, on_record, new}
use Rattle.model.specs.History.{Trace, trace, on_records, book_of_history}
use Rattle.model.specs.Claim.{AllOnCells, device, Listed, History}
use Rattle.model.proofs.Laws.Bounded.{and_to, and5_to, is_false}
use Rattle.model.proofs.Laws.Listing.{listing_names}
use Rattle.model.proofs.Laws.OnCells.{fitting_cells, nowhere_cells}
use Rattle.model.proofs.Laws.InOrder.{fitting_in_order}
use Rattle.model.proofs.Laws.RangeBytes.{read_ranges}
use Rattle.model.proofs.Laws.Step.{same_step, same_fragmentation, Fine, not_bad, list_done, list_none, choose_none}
use Rattle.model.proofs.Laws.Kept.{within_new, kept, apart_cells}
use Rattle.model.proofs.Laws.Same.{same_records}

-- ---- the start

-- new answers 0 only on a well-formed device, and then leaves the record with no task
pub record Begun (d : Device) (r : List ℕ) : Type 0 where
  pub device : device_ok d ≡ true
  pub state : (new r d.rows d.kinds).state ≡ record_of d []

-- neither −1 nor −3 was answered
not_refused : (r : List ℕ) (x : Outcome (List ℕ)) (u v : Bool) → (unless (cond u (some 1) (cond v (some 3) none)) [] r x).answer ≡ pos 0
    → (v ≡ false) × ((unless (cond u (some 1) (cond v (some 3) none)) [] r x).state ≡ x.state)
unfolding unless
not_refused r x true v e = let z : ◌≡◌ {A = ℕ} 0 1 = cc in absurd (omega arith)
not_refused r x false true e = let z : ◌≡◌ {A = ℕ} 0 1 = cc in absurd (omega arith)
not_refused r x false false e = (refl, refl)

pub begun : (d : Device) (r : List ℕ) → (new r d.rows d.kinds).answer ≡ pos 0 → Begun d r
unfolding new refused
begun d r e =
    let (v, h) = not_refused r (record { answer = pos 0; output = []; state = record_of d [] }) (not (eqb (length r) record_size)) (not (device_ok d)) e in
    record { device = not-false (device_ok d) v; state = h }

-- ---- the list

-- what the induction keeps
record Follows (d : Device) (R : Trace (List ℕ)) (B : Trace Book) : Type 0 where
  answers : R.answers ≡ B.answers
  outputs : R.outputs ≡ B.outputs
  fine : (a : ℤ) → In a R.answers → Fine a
  final : R.final ≡ record_of d B.final
  limits : within d B.final ≡ true

fine_cons : (x : ℤ) (l : List ℤ) → Fine x → ((a : ℤ) → In a l → Fine a) → (a : ℤ) → In a (x ∷ l) → Fine a
fine_cons x l f h a (inl e) = rw e f
fine_cons x l f h a (inr i) = h a i

-- from a book within the limits, the calls on its record follow the calls on the book
follows : (d : Device) (b : Book) (cs : List Call) → within d b ≡ true → Follows d (trace on_record (record_of d b) cs) (trace (on_book d) b cs)
unfolding trace written
follows d b [] w = record { answers = refl; outputs = refl; fine = λ a i. absurd i; final = refl; limits = w }
follows d b (c ∷ cs) w =
    let h = follows d (on_book d b c).state cs (kept d b c w) in
    rw (same_step d b c w)
    (record {
      answers = ap (λ (l : List ℤ). (on_book d b c).answer ∷ l) h.answers;
      outputs = ap (λ (l : List (List ℕ)). (on_book d b c).output ∷ l) h.outputs;
      fine = fine_cons (on_book d b c).answer (trace on_record (record_of d (on_book d b c).state) cs).answers (not_bad d b c) h.fine;
      final = h.final;
      limits = h.limits;
    })

-- the same from new on
from_new : (d : Device) (r : List ℕ) → (new r d.rows d.kinds).answer ≡ pos 0 → (cs : List Call)
    → Follows d (on_records (new r d.rows d.kinds).state cs) (book_of_history d cs)
unfolding on_records book_of_history
from_new d r e cs = let n = begun d r e in rw n.state (follows d [] cs (within_new d n.device))

-- ---- after the list

rising_within : (d : Device) (b : Book) → within d b ≡ true → rising b ≡ true
unfolding within book_ok
rising_within d b w =
    (and5_to (leb (length b) max_running) (all_in (λ e. number_ok e.number) b) (rising b) (all_in (task_ok d) b) (apart d b) (and_to (device_ok d) (book_ok d b) w).1).2

module _ (d : Device) (b : Book) (w : within d b ≡ true) (t : List ℕ) (s : sized t ≡ true) (f : well_formed t ≡ true) where
  listed : (o : List ℕ) → list_room ≤ length o → (p y : ℕ) → AllOnCells d b t p y → Listed d b (record_of d b) t o (on_record (record_of d b) (list t o))
  unfolding written
  listed o l p y h =
      let n : no_position d b t ≡ false = is_false (no_position d b t) (λ e. (nowhere_cells d b w t f s).0 e p y h) in
      rw (same_step d b (list t o) w, list_done d b t s f o l n)
      (record { answer = refl; output = refl; state = refl; said = read_ranges d b w t s o; names = listing_names d b t s })

  no_list : (o : List ℕ) → list_room ≤ length o → ((on_record (record_of d b) (list t o)).answer ≡ neg_ℤ (pos 9)) ↔ ((p y : ℕ) → ¬ (AllOnCells d b t p y))
  unfolding written
  no_list o l = rw (same_step d b (list t o) w) (Iff.trans (list_none d b t s f o l) (nowhere_cells d b w t f s))

  no_choice : ((on_record (record_of d b) (choose t)).answer ≡ neg_ℤ (pos 9)) ↔ ((p y : ℕ) → ¬ (AllOnCells d b t p y))
  unfolding written
  no_choice = rw (same_step d b (choose t) w) (Iff.trans (choose_none d b t s f) (nowhere_cells d b w t f s))

-- ---- the theorem

-- THEOREM (MODEL 15.1): for any bytes r that new was lent, any device that it answered 0 for, and any calls
pub history : (r : List ℕ) (rows : ℕ) (kinds : List ℕ) → (new r rows kinds).answer ≡ pos 0 → (cs : List Call)
    → History (device rows kinds) (on_records (new r rows kinds).state cs) (book_of_history (device rows kinds) cs)
history r rows kinds e cs = after (on_records (new r rows kinds).state cs) (book_of_history d cs) (from_new d r e cs)
  where
    d : Device
    d = device rows kinds

    after : (R : Trace (List ℕ)) (B : Trace Book) → Follows d R B → History d R B
    after R B h =
        let w = h.limits in
        record {
          answers = h.answers;
          outputs = h.outputs;
          no_bad_record = h.fine;
          rising = rising_within d B.final w;
          apart = apart_cells d B.final w;
          same_bytes = h.final;
          listing = λ t o s f l p y c. rw h.final (listed d B.final w t s f o l p y c);
          positions = λ t s f p y. fitting_cells d B.final w t f s p y;
          in_order = λ t. fitting_in_order d B.final t;
          list_none = λ t o s f l. rw h.final (no_list d B.final w t s f o l);
          choose_none = λ t s f. rw h.final (no_choice d B.final w t s f);
          alike = λ r' e' cs' m.
              let h' = from_new d r' e' cs' in
              h.final ∙ same_records d B.final (book_of_history d cs').final w h'.limits m ∙ sym h'.final;
          fragments = rw h.final (same_fragmentation d B.final w);
        }

-- one part of it by itself (MODEL 15.8)
pub same_tasks_same_record : (rows : ℕ) (kinds r r' : List ℕ) → (new r rows kinds).answer ≡ pos 0 → (new r' rows kinds).answer ≡ pos 0 → (cs cs' : List Call)
    → ((e : Running) → In e (book_of_history (device rows kinds) cs).final ↔ In e (book_of_history (device rows kinds) cs').final)
    → (on_records (new r rows kinds).state cs).final ≡ (on_records (new r' rows kinds).state cs').final
same_tasks_same_record rows kinds r r' e e' cs cs' m = (history r rows kinds e cs).alike r' e' cs' m
