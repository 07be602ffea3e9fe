use Rattle.std.proofs.Common.{FitsSigned, rules}
use Rattle.std.specs.Int.{w16, w32}
use Rattle.vm_frame.proofs.WrapLemmas.{wrapped_by, passed_on}
use Rattle.vm_frame.proofs.number.int_to_short.Goals as goal

pub returns : goal.returns
returns c =
    let number : FitsSigned w32 c.args.number = search rules in
    let low : FitsSigned w32 c.rem_euclid.result = search rules in
    let given : FitsSigned w16 c.cast_signed.result = search rules in
    let passed : FitsSigned w32 c.from.result = search rules in
    passed_on w32 w16 c.cast_signed.result c.from.result _ passed given c.from.ensures
    (wrapped_by w32 w16 c.args.number c.rem_euclid.result c.cast_signed.result number low
    c.rem_euclid.ensures.value c.cast_signed.ensures)
