use Rattle.std.proofs.Common.{◌≡◌, length, arith, ap, ◌∙◌, w32}
use Rattle.std.specs.Fmt.{signed_decimal}
use Rattle.std.proofs.lemmas.Fmt.{length_signed_le}
use Rattle.std.proofs.lemmas.Int.{to_z-of_z}
use Rattle.st_text.proofs.text.Text.decimal.Goals as goal

pub of_units-requires : goal.of_units-requires
of_units-requires c =
    let text : c.as_slice.result.now ≡ signed_decimal c.args.number =
    c.as_slice.ensures ∙ c.in_ok-units.ensures ∙ c.as_bytes.ensures.value ∙ c.in_ok-text.ensures
    ∙ ap signed_decimal (to_z-of_z w32 c.args.number c.ranges.number) in
    let fits = c.ranges.number.sfits in
    let short = length_signed_le 10 c.args.number (omega (arith, fits)) (omega (arith, fits)) in
    omega (arith, ap length text, short)
