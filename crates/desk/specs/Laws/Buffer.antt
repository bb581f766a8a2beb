-- What is filled: it is as long as its count says, and text where all that was pushed is. Assumes nothing.
use Rattle.std.specs.Prelude.{◌≡◌, ◌++◌, List, ℕ, [], IsUtf8, length}
use Rattle.std.proofs.Common.{arith, length-take, refl}
use Rattle.std.proofs.lemmas.Str.{IsUtf8-append}
use Rattle.desk.specs.declared.buffer.Buffer.{Buffer}
use Rattle.desk.specs.Buffer.{filled, IsText}

pub len_filled : (b : Buffer) → length (filled b) ≡ b.len
len_filled b = omega (arith, length-take b.len b.bytes.now, b.fits)

-- nothing filled is text
pub text_none : (b : Buffer) → b.len ≡ 0 → IsText b
text_none b e = rw e ([], (refl, refl))

-- text behind text is text
pub text_behind : (old more new : List ℕ) → new ≡ old ++ more → IsUtf8 old → IsUtf8 more → IsUtf8 new
text_behind old more new e h m = rw e (IsUtf8-append old more h m)
