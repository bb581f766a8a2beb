-- MODEL 17.3: the fields of a line are the parts that `split` gives, one after the other. Assumes nothing.
use Rattle.std.specs.Prelude.{ℕ, suc, ◌≤◌, ◌<◌, ◌≡◌, refl, Bool, true, false, cond, List, [], ◌∷◌, ◌++◌, length, drop, get_or, eqb, Option, Some, None, MatchBool, MatchOption}
use Rattle.std.proofs.Common.{sym, ap, ◌∙◌, arith, subst, add-zero, add-one, drop-drop, drop_of_length-le, length-drop}
use Rattle.std.proofs.lemmas.List.{get_or-drop}
use denote.Ref.{Bor}
use denote.Param.Members.{Mut}
use Rattle.std.specs.Fn.{CalledAt, ComputesKey}
use Rattle.std.proofs.lemmas.Fn.{always_returns_same}
use Rattle.std.specs.List.{All, slice_split, onto_first, IsFirstMatchOrLen}
use Rattle.std.specs.declared.slice.Split.{Split}
use Rattle.std.specs.Slice.Iter as slice
use Rattle.std.proofs.lemmas.Grind.{common_steps}
use Rattle.std.proofs.lemmas.List.Splits.{slice_split_none, slice_split_at}
use Rattle.model.specs.Sheet.{grown, fields}

grown_same : (x : ℕ) (l : List (List ℕ)) → grown x l ≡ onto_first x l
grown_same x [] = refl
grown_same x (f ∷ fs) = refl

fields_split : (l : List ℕ) → slice_split (λ b. eqb b 32) l ≡ fields l
unfolding fields
fields_split [] = refl
fields_split (x ∷ l) = rw (fields_split l, grown_same x (fields l))

first_part : (p : ℕ → Bool) (s x rest : List ℕ) (done : Bool) → MatchBool done (s ≡ x) ((y : ℕ) × (s ≡ x ++ (y ∷ rest))) → IsFirstMatchOrLen p s (length x)
    → slice_split p s ≡ x ∷ cond done [] (slice_split p rest)
first_part p s x rest true e h = ap (slice_split p) e ∙ slice_split_none p x (λ k d l. subst (λ ys. p (get_or ys k d) ≡ false) e (h.0 k d (omega arith) l))
first_part p s x rest false e h =
    let front : All (λ z. p z ≡ false) x = λ k d l. let a = h.0 k d (omega arith) l in let b = e.1 in grind (arith, common_steps) in
    let hit : p e.0 ≡ true = let b = e.1 in let a = h.1 (grind (arith, common_steps)) e.0 in grind (arith, common_steps) in
    ap (slice_split p) e.1 ∙ slice_split_at p x e.0 rest front hit

-- r is field k of fs, if there is one
pub record Taken (fs : List (List ℕ)) (k : ℕ) (r : Option (Bor (List ℕ))) : Type 0 where
  pub here : MatchOption r (length fs ≤ k) (λ x. (k < length fs) × (get_or fs k [] ≡ x.now))

module _ {F : Type 0} where
  -- what `split` has left of a line
  abbrev left : Split ℕ F → List (List ℕ)
  left s = cond (slice.split_done s) [] (slice_split (λ b. eqb b 32) (slice.split_rest s))

  -- s has the fields of fs from field k on, and parts a line at its spaces
  pub record At (g : Mut F (Bor ℕ × Unit {0}) Bool) (fs : List (List ℕ)) (k : ℕ) (s : Split ℕ F) : Type 0 where
    left_is : left s ≡ drop k fs
    at_spaces : ComputesKey g (λ b. eqb b 32) (slice.split_callee s)

  -- `next` gave r, which is field k, and t has the fields after it
  pub record Next (g : Mut F (Bor ℕ × Unit {0}) Bool) (fs : List (List ℕ)) (k : ℕ) (r : Option (Bor (List ℕ))) (t : Split ℕ F) : Type 0 where
    pub taken : Taken fs k r
    pub rest : At g fs (suc k) t

  start : (g : Mut F (Bor ℕ × Unit {0}) Bool) (s : Split ℕ F) (l : List ℕ) → slice.split_rest s ≡ l → slice.split_done s ≡ false
      → ((x : ℕ) (b : Bool) (q : F) → CalledAt g (slice.split_callee s) x b q → (q ≡ slice.split_callee s) × (b ≡ eqb x 32)) → At g (fields l) 0 s
  start g s l e d tests =
      record {
        left_is = rw (d, e) (fields_split l);
        at_spaces = always_returns_same g (λ a r. r ≡ eqb a.0.now 32) (slice.split_callee s) (λ a r q c. let m = tests a.0.now r q (record { shown = a.0; shows = refl; called = c }) in (m.1, m.0));
      }

  module _ {g : Mut F (Bor ℕ × Unit {0}) Bool} {fs : List (List ℕ)} {k : ℕ} {s : Split ℕ F} (at : At g fs k s) where
    next_none : (t : Split ℕ F) → slice.split_done s ≡ true → t ≡ s → Next g fs k None t
    next_none t d e =
        let none : [] ≡ drop k fs = sym (ap (λ b. cond b [] (slice_split (λ b. eqb b 32) (slice.split_rest s))) d) ∙ at.left_is in
        let past : length fs ≤ k = omega (arith, length-drop k fs, ap length none) in
        let after : length fs ≤ suc k = omega arith in
        record { taken = record { here = past }; rest = rw e (record { left_is = at.left_is ∙ sym none ∙ sym (drop_of_length-le fs after); at_spaces = at.at_spaces }) }

    next_some : (t : Split ℕ F) (x : Bor (List ℕ)) → left s ≡ x.now ∷ left t → ComputesKey g (λ b. eqb b 32) (slice.split_callee t) → Next g fs k (Some x) t
    next_some t x e same =
        let cut = sym at.left_is ∙ e in
        let first : get_or fs k [] ≡ x.now = rw (← add-zero k) (sym (get_or-drop k fs 0 []) ∙ ap (λ w. get_or w 0 []) cut) in
        record {
          taken = record { here = (omega (arith, length-drop k fs, ap length cut), first) };
          rest = record { left_is = rw (← add-one k) (ap (λ w. drop 1 w) (sym cut) ∙ drop-drop 1 k fs); at_spaces = same };
        }

    pub next : {t : Split ℕ F} {r : Option (Bor (List ℕ))} → slice.split_steps g s r t → Next g fs k r t
    next {t = t} {r = None} p = next_none t p.0 p.1
    next {t = t} {r = Some x} p =
        let test = p.2 (λ b. eqb b 32) at.at_spaces in
        next_some t x (ap (λ b. cond b [] (slice_split (λ b. eqb b 32) (slice.split_rest s))) p.0 ∙ first_part (λ b. eqb b 32) _ x.now _ _ p.1 test.1) test.0

  -- the first field of a line
  pub first : {g : Mut F (Bor ℕ × Unit {0}) Bool} {t : Split ℕ F} {r : Option (Bor (List ℕ))} (s : Split ℕ F) (l : List ℕ) → slice.split_rest s ≡ l → slice.split_done s ≡ false → slice.split_steps g s r t
      → ((x : ℕ) (b : Bool) (q : F) → CalledAt g (slice.split_callee s) x b q → (q ≡ slice.split_callee s) × (b ≡ eqb x 32)) → Next g (fields l) 0 r t
  first {g = g} s l e d p tests = next (start g s l e d tests) p
