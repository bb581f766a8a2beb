-- Where lines end, and what the first three lead to. Assumes nothing.
use Rattle.std.specs.Prelude.{ℕ, suc, ◌+◌, ◌-◌, ◌≤◌, ◌≡◌, refl, min, Bool, true, false, not, cond, Option as Maybe, Some, None, unwrap_or, ltb, Result, Ok, Err, MatchResult, List, [], ◌∷◌, eqb, pos, length, take, drop}
use Prim.Native.Char.{code}
use Rattle.std.proofs.Math.Nat.{min_comm}
use Rattle.std.proofs.lemmas.Result.{MatchResult-weaker}
use Rattle.std.proofs.lemmas.List.{take_all, drop_min, length-take}
use Rattle.std.proofs.Common.{Bor, inl, inr, ap, ap₂, ◌∙◌, arith, add-one, length-drop, eq-eqb, eqb-true, ltb-false}
use Rattle.std.specs.List.{position_or_len}
use Rattle.std.proofs.lemmas.List.Sums.{prefix_len-le-length}
use Rattle.std.proofs.Math.Option.{Option, none, some}
use Rattle.model.specs.Limits.{record_size}
use Rattle.model.specs.Sheet.{first_names, second_names, device_line}
use Rattle.model.specs.Calls.{Outcome}
use Rattle.model.specs.Program.{lines, longer, same_line, with_device, first, second, third}
use Rattle.model.proofs.Laws.Bounded.{and_to, is_false}
use Rattle.model.proofs.Laws.OnRecord.{new_done, new_bad_device}
use Rattle.model.specs.Columns.{Device, device_ok}
use Rattle.model.specs.OnRecord.{new}
use Rattle.words.specs.Words.{Same}
use Rattle.line.specs.Device.{Reads}
use Rattle.line.specs.declared.device.DeviceLine.{DeviceLine}
use Rattle.card.specs.Leaves.{Changes}
use Rattle.card.specs.declared.refusal.Refusal.{Refusal as CardRefusal}
use Rattle.card.specs.Answers.{answer_by}
use Rattle.desk.specs.declared.fault.Fault.{Fault}
use Rattle.desk.specs.declared.fault.Fault.TheVariants.{Malformed, Device as NoDevice}
use Rattle.desk.specs.Fault.{shown_fault}
use Rattle.desk.specs.Input.{Parts, Opened, Refuses, Names, GoesOn, Leads}
use Rattle.desk.specs.Laws.Refusals.{refused_below}

-- ---- the first line and the others

-- how many bytes stand before the first newline
abbrev line_length : List ℕ → ℕ
line_length s = position_or_len (λ x. eqb x (code "\n")) s

abbrev Parted : List ℕ → Type 0
Parted s = lines s ≡ take (line_length s) s ∷ lines (drop (suc (line_length s)) s)

-- by whether the first byte is a newline
abbrev Parted_by : Bool → ℕ → List ℕ → Type 0
Parted_by t x s =
    let n = cond (not t) (1 + line_length s) 0 in cond t ([] ∷ lines s) (longer x (lines s)) ≡ take n (x ∷ s) ∷ lines (drop (suc n) (x ∷ s))

parted_last : (t : Bool) (x : ℕ) → Parted_by t x []
unfolding lines
parted_last true x = refl
parted_last false x = refl

parted_more : (t : Bool) (x : ℕ) (s : List ℕ) → Parted s → Parted_by t x s
parted_more true x s r = refl
parted_more false x s r = let n : 1 + line_length s ≡ suc (line_length s) = omega arith in rw n (ap (longer x) r)

parted : (x : ℕ) (s : List ℕ) → Parted (x ∷ s)
unfolding lines
parted x [] = parted_last (eqb x 10) x
parted x (y ∷ s) = parted_more (eqb x 10) x (y ∷ s) (parted y s)

parted_any : (s : List ℕ) → 1 ≤ length s → Parted s
parted_any [] h = absurd (omega arith)
parted_any (x ∷ s) h = parted x s

-- where a line was found to end: before its newline, or where the bytes end
pub found_end : (s : List ℕ) {o : Maybe ℕ} → o ≡ cond (ltb (line_length s) (length s)) (Some (line_length s)) None → unwrap_or o (length s) ≡ line_length s
found_end s e = rw e (go (ltb (line_length s) (length s)) refl)
  where
    go : (t : Bool) → ltb (line_length s) (length s) ≡ t → unwrap_or (cond t (Some (line_length s)) None) (length s) ≡ line_length s
    go true q = refl
    go false q = let h = ltb-false (line_length s) (length s) q in let most = prefix_len-le-length (λ x. not (eqb x (code "\n"))) s in omega arith

-- a line ends before its newline, or where the bytes end
pub parts : (s : List ℕ) (end next : ℕ) → 1 ≤ length s → end ≡ line_length s → next ≡ min (length s) (end + 1) → Parts s (take end s) (take (length s - next) (drop next s))
parts s end next h e n =
    record {
      lines_are = rw (take_all (length s - next) (drop next s) (omega (arith, length-drop next s)), n, min_comm, drop_min, e, add-one) (parted_any s h);
      shorter = omega (arith, length-take (length s - next) (drop next s), length-drop next s);
    }

-- a line and a text are the same just where they are equal
same_to : (l m : List ℕ) → same_line l m ≡ true → l ≡ m
unfolding same_line
same_to [] [] e = refl
same_to [] (y ∷ m) e = let z : ◌≡◌ {A = ℕ} 0 1 = cc in absurd (omega arith)
same_to (x ∷ l) [] e = let z : ◌≡◌ {A = ℕ} 0 1 = cc in absurd (omega arith)
same_to (x ∷ l) (y ∷ m) e = let (p, q) = and_to (eqb x y) (same_line l m) e in ap₂ ◌∷◌ (eqb-true x y p) (same_to l m q)

same_of : (l : List ℕ) → same_line l l ≡ true
unfolding same_line
same_of [] = refl
same_of (x ∷ l) = rw (eq-eqb x x refl, same_of l)

same_not : (l m : List ℕ) → (l ≡ m → ⊥) → same_line l m ≡ false
same_not l m h = is_false (same_line l m) (λ e. h (same_to l m e))

-- ---- the second line

-- a malformed line says no device
pub refuses_none : (o : Option Device) → Reads o None → Refuses o (Malformed 2)
refuses_none none h ls = refl
refuses_none (some d) h ls = let e = h.device_is in let z : ◌≡◌ {A = ℕ} 0 1 = cc in absurd (omega arith)

-- new on the device of a line, which it makes a card of, or refuses
module _ (r : List ℕ) (size : length r ≡ record_size) where
  by_device : (d : Device) (t : Bool) → device_ok d ≡ t → (x : Result (Unit {0}) CardRefusal) (r' : List ℕ) → Changes (new r d.rows d.kinds) (answer_by (λ _. pos 0) x) r'
      → MatchResult x (λ _. Opened (some d) r') (λ e. Refuses (some d) (NoDevice e))
  by_device d true e (Ok u) r' c = record { device = d; device_is = refl; ok = e; card_is = c.record_is ∙ ap (λ (o : Outcome (List ℕ)). o.state) (new_done r d.rows d.kinds size e) }
  by_device d true e (Err f) r' c = absurd (refused_below f 0 (c.answer_is ∙ ap (λ (o : Outcome (List ℕ)). o.answer) (new_done r d.rows d.kinds size e)))
  by_device d false e (Ok u) r' c = let z = c.answer_is ∙ ap (λ (o : Outcome (List ℕ)). o.answer) (new_bad_device r d.rows d.kinds size e) in absurd (cc z)
  by_device d false e (Err f) r' c = let z = c.answer_is ∙ ap (λ (o : Outcome (List ℕ)). o.answer) (new_bad_device r d.rows d.kinds size e) in λ ls. rw (e, z)

  pub opened : (o : Option Device) (l : DeviceLine) {r' : List ℕ} → Reads o (Some l) → (x : Result (Unit {0}) CardRefusal)
      → Changes (new r l.rows l.kinds.items) (answer_by (λ _. pos 0) x) r' → MatchResult x (λ _. Opened o r') (λ e. Refuses o (NoDevice e))
  opened none l h x c = let e = h.device_is in let z : ◌≡◌ {A = ℕ} 0 1 = cc in absurd (omega arith)
  opened (some d) l h x c =
      let e = h.device_is in
      let n : d.rows ≡ l.rows = cc in
      let k : d.kinds ≡ l.kinds.items = cc in
      by_device d (device_ok d) refl x _ (rw (← n, ← k) at c)

-- ---- lines 1 to 3

pub no_lines : (s : List ℕ) → length s ≡ 0 → lines s ≡ []
unfolding lines
no_lines [] h = refl
no_lines (x ∷ s) h = absurd (omega arith)

module _ (s : List ℕ) (h : length s ≡ 0) where
  third_none : (d : Device) → third d (lines s) ≡ shown_fault (Malformed 3)
  unfolding third
  third_none d = rw (no_lines s h)

  pub second_none : second (lines s) ≡ shown_fault (Malformed 2)
  unfolding second
  second_none = rw (no_lines s h)

  first_none : first (lines s) ≡ shown_fault (Malformed 1)
  unfolding first
  first_none = rw (no_lines s h)

module _ (s l rest : List ℕ) (p : Parts s l rest) where
  third_wrong : Same l second_names false → (d : Device) → third d (lines s) ≡ shown_fault (Malformed 3)
  unfolding third
  third_wrong h d = rw (p.lines_are, same_not l second_names (h.no refl))

  third_right : Same l second_names true → (d : Device) → GoesOn d (third d (lines s)) rest
  unfolding third
  third_right h d = rw (p.lines_are, h.yes refl, same_of second_names)

  first_wrong : Same l first_names false → first (lines s) ≡ shown_fault (Malformed 1)
  unfolding first
  first_wrong h = rw (p.lines_are, same_not l first_names (h.no refl))

  first_right : Same l first_names true → first (lines s) ≡ second (lines rest)
  unfolding first
  first_right h = rw (p.lines_are, h.yes refl, same_of first_names)

-- a line of names, by a test that tells them
module _ {says : List ℕ → Bool → Type 0} (s : List ℕ) where
  third_named : (x : Result (Bor (List ℕ)) Fault) → Names says 3 s x → ((l : List ℕ) (b : Bool) → says l b → Same l second_names b)
      → MatchResult x (λ r. ((d : Device) → GoesOn d (third d (lines s)) r.now) × (length r.now ≤ length s)) (λ f. (d : Device) → third d (lines s) ≡ shown_fault f)
  unfolding Names
  third_named (Ok r) (l, p, h) same = (third_right s l r.now p (same l true h), omega (arith, p.shorter))
  third_named (Err f) (e, inl h) same = rw e (third_none s h)
  third_named (Err f) (e, inr (l, rest, p, h)) same = rw e (third_wrong s l rest p (same l false h))

  pub first_named : (x : Result (Bor (List ℕ)) Fault) → Names says 1 s x → ((l : List ℕ) (b : Bool) → says l b → Same l first_names b)
      → MatchResult x (λ r. (first (lines s) ≡ second (lines r.now)) × (length r.now ≤ length s)) (λ f. first (lines s) ≡ shown_fault f)
  unfolding Names
  first_named (Ok r) (l, p, h) same = (first_right s l r.now p (same l true h), omega (arith, p.shorter))
  first_named (Err f) (e, inl h) same = rw e (first_none s h)
  first_named (Err f) (e, inr (l, rest, p, h)) same = rw e (first_wrong s l rest p (same l false h))

-- what the lines after some lead to
pub leads_on : (s rest card : List ℕ) {o o' : List ℕ} → (o ≡ o') × (length rest ≤ length s) → (x : Result (Bor (List ℕ)) Fault) → Leads rest card o' x → Leads s card o x
leads_on s rest card e x h = rw e.0 (MatchResult-weaker x h (λ r y. (y.0, omega (arith, e.1, y.1))) (λ f y. y))

module _ (s l rest : List ℕ) (p : Parts s l rest) where
  second_is : second (lines s) ≡ with_device (device_line l) (lines rest)
  unfolding second
  second_is = rw p.lines_are

  -- no card
  pub second_refused : (f : Fault) → Refuses (device_line l) f → second (lines s) ≡ shown_fault f
  second_refused f x = second_is ∙ x (lines rest)

  -- the third line on the card
  pub second_opened : (card : List ℕ) → Opened (device_line l) card → {says : List ℕ → Bool → Type 0} (z : Result (Bor (List ℕ)) Fault) → Names says 3 rest z
      → ((l : List ℕ) (b : Bool) → says l b → Same l second_names b) → Leads s card (second (lines s)) z
  second_opened card o z n same =
      let t = third_named rest z n same in
      let e : second (lines s) ≡ third o.device (lines rest) = second_is ∙ rw (o.device_is, o.ok) in
      MatchResult-weaker z t (λ r y. (record { device = o.device; ok = o.ok; card_is = o.card_is; output_is = e ∙ y.0 o.device }, omega (arith, p.shorter))) (λ f y. e ∙ y o.device)
