-- The search of `first_common`: `find` over the numbers of a range, a step apart. Assumes nothing.
use Rattle.std.specs.Prelude.{◌≡◌, Option, Some, None, ℕ, ◌+◌, ◌-◌, ◌%◌, ◌≤◌, ◌<◌, Bool, true, false, cond, List, [], ◌∷◌, length}
use Rattle.std.proofs.Common.{arith, sym}
use denote.Param.Members.{Mut}
use denote.Ref.{Bor}
use Rattle.std.specs.Bool.{⊤}
use Rattle.std.specs.Fn.{CalledAt}
use Rattle.std.specs.Iterator.{Yields, YieldsThen}
use Rattle.std.specs.Iterator.Adapters.{step_by_source, step_by_gap, step_by_first_take, step_by_steps}
use Rattle.std.specs.List.{FoldsTo}
use Rattle.std.specs.Option.{MatchOption}
use Rattle.std.proofs.iter.Yields.{nat_range_steps}
use Rattle.std.specs.declared.ops.Range.{Range as Numbers}
use Rattle.std.specs.declared.iter.StepBy.{StepBy}
use Rattle.runs.specs.Meet.{number_limit, search_limit, Step, FoundCommon}
use Rattle.runs.specs.Laws.Steps.{steps_mod}
use Rattle.runs.specs.Laws.Meet.{Passed, passed_start, passed_next, passed_all}

-- ---- one step

-- the number that comes next, if there is one
abbrev pub next_of : StepBy (Numbers ℕ) → ℕ
next_of s = (step_by_source s).start + cond (step_by_first_take s) 0 (step_by_gap s)

ranged : (xs : List ℕ) (s t : Numbers ℕ) → Yields nat_range_steps s xs t → (t.start ≡ s.start + length xs) × (t.end ≡ s.end)
ranged [] s t e = rw e (omega arith, omega arith)
ranged (x ∷ xs) s t (j, p, y) = let r = ranged xs j t y in (omega (arith, r, p), omega (arith, r, p))

-- it comes, and the one after it is a step above
some_step : (s t : StepBy (Numbers ℕ)) (x : ℕ) → step_by_steps nat_range_steps s (Some x) t
    → (x ≡ next_of s) × (x < (step_by_source s).end) × (step_by_gap t ≡ step_by_gap s) × (next_of t ≡ x + (step_by_gap s + 1)) × ((step_by_source t).end ≡ (step_by_source s).end)
some_step s t x (g, f, (n, xs, e, (j, y, p), l)) =
    let r = ranged xs (step_by_source s) j y in
    rw f (omega (arith, e, g, p, l, r), omega (arith, e, g, p, l, r), g, omega (arith, e, g, p, l, r), omega (arith, e, g, p, l, r))

-- none comes
no_step : (s t : StepBy (Numbers ℕ)) → step_by_steps nat_range_steps s None t → (step_by_source s).end ≤ next_of s
no_step s t (g, f, (n, xs, e, (j, y, p), l)) = let r = ranged xs (step_by_source s) j y in omega (arith, e, g, p, l, r)

-- ---- all steps, up to top

module _ {F : Type 0} {g : Mut F (Bor ℕ × Unit {0}) Bool} (f : F) (m a c b top : ℕ) (p : Step a) (o : Step b) (l : c ≤ m) (t : top < number_limit)
    (yes : (x : ℕ) (q : F) → CalledAt g f x true q → (x - c) % b ≡ 0) (no : (x : ℕ) (q : F) → CalledAt g f x false q → (q ≡ f) × ¬ ((x - c) % b ≡ 0)) where
  found : (xs : List ℕ) (s u : StepBy (Numbers ℕ)) (r : Option ℕ) (j : F) → step_by_gap s + 1 ≡ a → (step_by_source s).end ≡ top + 1 → Passed m a c b (next_of s)
      → YieldsThen (step_by_steps nat_range_steps) s xs r u → FoldsTo (λ p x q. CalledAt g p x false q) f xs j → MatchOption r ⊤ (λ x. (h : F) × CalledAt g j x true h)
      → FoundCommon m a c b top r
  found [] s u None j e h i (k, q, n) d w = let z = no_step s u (rw (sym q) at n) in passed_all m a c b (next_of s) top i (omega arith)
  found [] s u (Some x) j e h i (k, q, n) d (v, w) =
      let z = some_step s u x (rw (sym q) at n) in
      let hit = yes x v (rw (sym d) at w) in
      let here = rw (sym z.0) at i in
      (record { steps = here.steps; found = λ l'. steps_mod b c x (omega (arith, here.steps)) hit; first = here.first; bound = here.bound }, omega arith)
  found (x ∷ xs) s u r j e h i (k, (s', n, y), q) (f', w, d) v =
      let z = some_step s s' x n in
      let miss = no x f' w in
      let here = rw (sym z.0) at i in
      let step : next_of s' ≡ x + a = omega arith in
      found xs s' u r j (omega arith) (omega arith) (rw step (passed_next m a c b x p l (omega arith) here miss.1)) (k, y, q) (rw miss.0 at d) v

  pub found_common : (s u : StepBy (Numbers ℕ)) (r : Option ℕ) → step_by_gap s + 1 ≡ a → step_by_first_take s ≡ true → step_by_source s ≡ record { start = m; end = top + 1 } → m < search_limit
      → (xs : List ℕ) × (j : F) × YieldsThen (step_by_steps nat_range_steps) s xs r u × FoldsTo (λ p x q. CalledAt g p x false q) f xs j × MatchOption r ⊤ (λ x. (h : F) × CalledAt g j x true h)
      → FoundCommon m a c b top r
  found_common s u r e h i k (xs, j, y, d, v) =
      let first : next_of s ≡ m = rw (h, i) (omega arith) in
      found xs s u r j e (rw i) (rw first (passed_start m a c b k)) y d v
