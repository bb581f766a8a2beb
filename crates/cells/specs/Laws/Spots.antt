-- The set digits of a number, found one after the other from below by the count of trailing zeros, each cleared by x & (x - 1). Assumes nothing.
use Rattle.std.specs.Prelude.{ℕ, zero, suc, ◌+◌, ◌-◌, ◌*◌, ◌/◌, ◌%◌, ◌^◌, ◌<◌, ◌≡◌, refl, Bool, true, false, List, [], ◌∷◌, ◌++◌}
use Rattle.std.proofs.Common.{ap, ap₂, ◌∙◌, arith, pow-suc, add-zero, zero-add}
use Rattle.std.specs.Int.Bits.{bit_and, and_step, and_self}
use Rattle.std.proofs.lemmas.Nat.{and_le_r}
use Rattle.std.specs.Int.Count.{count_trailing_zeros}
use Rattle.cells.specs.Bits.{digit}
use Rattle.cells.specs.Ends.{put, hits, spots}

-- x without its lowest set digit
abbrev pub cleared : ℕ → ℕ
cleared x = bit_and x (x - 1)

cleared_odd : (x : ℕ) → x % 2 ≡ 1 → (cleared x % 2 ≡ 0) × (cleared x / 2 ≡ x / 2)
cleared_odd x e =
    let f : (x - 1) / 2 ≡ x / 2 = omega arith in
    let g : (x - 1) % 2 ≡ 0 = omega arith in
    let s : cleared x ≡ x / 2 * 2 = rw (and_step x (x - 1), f, e, g, and_self (x / 2)) (add-zero (x / 2 * 2)) in
    (omega arith, omega arith)

cleared_even : (x : ℕ) → 0 < x → x % 2 ≡ 0 → (cleared x % 2 ≡ 0) × (cleared x / 2 ≡ cleared (x / 2))
cleared_even x p e =
    let f : (x - 1) / 2 ≡ x / 2 - 1 = omega arith in
    let g : (x - 1) % 2 ≡ 1 = omega arith in
    let s : cleared x ≡ cleared (x / 2) * 2 = rw (and_step x (x - 1), f, e, g) (add-zero (cleared (x / 2) * 2)) in
    (omega arith, omega arith)

pub spots_none : (a n : ℕ) → spots a n 0 ≡ []
unfolding spots
spots_none a zero = refl
spots_none a (suc n) = spots_none (suc a) n

-- the lowest set digit, and the others
pub spots_next : (a n x : ℕ) → 0 < x → x < 2 ^ n → spots a n x ≡ (a + count_trailing_zeros n x) ∷ spots a n (cleared x)
unfolding count_trailing_zeros spots
spots_next a zero x p h = absurd (omega arith)
spots_next a (suc n) x p h = go (x % 2) refl (λ l m. spots_next (suc a) n (x / 2) l m)
  where
    go : (d : ℕ) → x % 2 ≡ d → (0 < x / 2 → x / 2 < 2 ^ n → spots (suc a) n (x / 2) ≡ (suc a + count_trailing_zeros n (x / 2)) ∷ spots (suc a) n (cleared (x / 2)))
        → spots a (suc n) x ≡ (a + count_trailing_zeros (suc n) x) ∷ spots a (suc n) (cleared x)
    go zero e rest =
        let w = pow-suc 2 n in
        let (u, v) = cleared_even x p e in
        let t : a + suc (count_trailing_zeros n (x / 2)) ≡ suc a + count_trailing_zeros n (x / 2) = omega arith in
        rw (e, u, v, t) (rest (omega arith) (omega arith))
    go (suc zero) e rest = let (u, v) = cleared_odd x e in rw (e, u, v, add-zero a)
    go (suc (suc d)) e rest = absurd (omega arith)

-- as long as a set digit is left, so is one less
pub cleared_less : (x : ℕ) → 0 < x → cleared x < x
cleared_less x p = omega (arith, and_le_r x (x - 1))

-- ---- the digits that pass a test

pub spots_hits : (g : ℕ → Bool) (a n x : ℕ) → ((k : ℕ) → k < n → digit x k ≡ g (a + k)) → spots a n x ≡ hits g a n
unfolding spots hits
spots_hits g a zero x h = refl
spots_hits g a (suc n) x h =
    ap₂ (λ (t : Bool) (l : List ℕ). put t a l) (rw (add-zero a) at (h 0 (omega arith)))
    (spots_hits g (suc a) n (x / 2) (λ k q. let e : a + suc k ≡ suc a + k = omega arith in rw e at (h (suc k) (omega arith))))

put_append : (t : Bool) (a : ℕ) (K L : List ℕ) → put t a (K ++ L) ≡ put t a K ++ L
put_append true a K L = refl
put_append false a K L = refl

pub hits_append : (g : ℕ → Bool) (a m n : ℕ) → hits g a (m + n) ≡ hits g a m ++ hits g (a + m) n
unfolding hits
hits_append g a zero n = rw (zero-add n, add-zero a)
hits_append g a (suc m) n =
    let e : suc m + n ≡ suc (m + n) = omega arith in
    let f : a + suc m ≡ suc a + m = omega arith in
    rw (e, f) (ap (put (g a) a) (hits_append g (suc a) m n) ∙ put_append (g a) a (hits g (suc a) m) (hits g (suc a + m) n))
