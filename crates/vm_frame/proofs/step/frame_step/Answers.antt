use Rattle.std.proofs.Common.{sym, subst}
use Rattle.vm_frame.specs.declared.effect.FrameEffect.{FrameEffect}
use Rattle.vm_frame.specs.Calls.Suits.{Suits}
use Rattle.vm_frame.proofs.LawLemmas.{effect_suits}
use Rattle.vm_frame.proofs.step.frame_step.Goals as goal

pub carry_out-requires : goal.carry_out-requires
carry_out-requires c =
    subst (λ (e : FrameEffect). Suits e c.args.frame.now) (sym c.frame_effect-effect.ensures)
    (effect_suits c.args.instr.now c.args.frame.now)
