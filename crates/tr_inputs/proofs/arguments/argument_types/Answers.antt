-- A descriptor has its parameters in one way.
use Rattle.std.proofs.Common.{◌≡◌, sym, ap, ◌∙◌}
use Rattle.std.proofs.lemmas.Result.{IfOk-weaker}
use Rattle.jv_base.specs.Descriptor.{MethodType}
use Rattle.jv_base.specs.Types.{method_of}
use Rattle.tr_inputs.specs.Arguments.{argument_types, AreArgumentTypes}
use Rattle.tr_inputs.proofs.arguments.argument_types.Goals as goal

pub returns-in-Ok : goal.returns-in-Ok
returns-in-Ok c =
    let entry = c.args.entry.now in
    let read : MethodType = method_of c.in-Ok.desc in
    let found = c.in-Ok.ensures.found in
    IfOk-weaker c.types_by.result (λ types. types ≡ argument_types entry read c.args.count)
    (AreArgumentTypes entry c.args.count)
    (λ types same type is text.
    same ∙ ap (λ (m : MethodType). argument_types entry m c.args.count)
    (c.one_form.ensures.method read type found.0 is (sym found.1 ∙ text)))
    c.types_by.ensures
