use Rattle.std.proofs.Common.{List, sym, ap, ◌∙◌, subst}
use Rattle.jv_base.specs.declared.value.Value.{Value}
use Rattle.vm_object.specs.declared.effect.ArrayEffect.{ArrayEffect}
use Rattle.vm_object.specs.Calls.Suits.{Suits}
use Rattle.vm_object.specs.Steps.{array_effect}
use Rattle.vm_object.proofs.LawLemmas.{effect_suits}
use Rattle.vm_object.proofs.step.array_step.Goals as goal

pub carry_out-requires : goal.carry_out-requires
carry_out-requires c =
    subst (λ (e : ArrayEffect). Suits e c.args.frame.now)
    (sym (c.in_ok-effect.ensures ∙ ap (λ (s : List Value). array_effect c.args.array c.args.setting s c.args.heap.now)
    c.as_slice.ensures))
    (effect_suits c.args.array c.args.setting c.args.frame.now c.args.heap.now)
