use Rattle.std.proofs.Common.{FitsSigned, rules, ◌∙◌}
use Rattle.std.specs.Int.{w32, w64}
use Rattle.std.proofs.lemmas.Int.{to_z-of_z}
use Rattle.vm_frame.proofs.WrapLemmas.{wrapped_by}
use Rattle.vm_frame.proofs.number.long_to_int.Goals as goal

pub returns : goal.returns
returns c =
    let number : FitsSigned w64 c.args.number = search rules in
    let low : FitsSigned w64 c.rem_euclid.result = search rules in
    let given : FitsSigned w32 c.cast_signed.result = search rules in
    to_z-of_z w32 c.cast_signed.result given
    ∙ wrapped_by w64 w32 c.args.number c.rem_euclid.result c.cast_signed.result number low
    c.rem_euclid.ensures.value c.cast_signed.ensures
