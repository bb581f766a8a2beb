-- `line::fields::number` meets its contract: a number that was read is printed by the library, and that is the field or another text. Assumes nothing.
use Rattle.std.proofs.Common.{rules, ◌≡◌, sym, SFits, w32}
use Rattle.std.proofs.lemmas.Int.{to_z-of_z}
use Rattle.line.specs.Laws.Reading.{other_form, said_is, same_text, other_text}
use Rattle.line.proofs.fields.number.Goals as goal

pub returns-then-ne : goal.returns-then-ne
returns-then-ne g c =
    let text : c.in_ok-ok.field-0.now ≡ c.args.field.now = search rules in
    let parsed = rw text at c.parse.ensures.value.0 in
    let fits : SFits w32 c.in_ok-number.number = search rules in
    let shown = rw (c.as_bytes.ensures.value, c.format.ensures.text, to_z-of_z w32 c.in_ok-number.number fits) at c.if-ne.ensures in
    rw (other_form c.args.field.now c.parse.result parsed c.in_ok-number.ensures.value (other_text shown))

pub returns : goal.returns
returns g c =
    let fits : SFits w32 c.in_ok-number.number = search rules in
    let shown = rw (c.as_bytes.ensures.value, c.format.ensures.text, to_z-of_z w32 c.in_ok-number.number fits) at c.if-ne.ensures in
    let given = rw (to_z-of_z w32 c.in_ok-number.number fits) at c.try_from.ensures in
    rw (said_is c.args.field.now c.in_ok-number.number (sym (same_text shown)) fits.sfits) (c.try_from.result, given, c.ok-3.ensures.value)
