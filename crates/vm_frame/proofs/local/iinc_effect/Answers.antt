use Rattle.std.proofs.Common.{ap, rules, FitsSigned, ℤ}
use Rattle.std.specs.Int.{w16, w32}
use Rattle.jv_base.specs.declared.value.Value.TheVariants.{Int}
use Rattle.vm_frame.specs.declared.effect.FrameEffect.TheVariants.{Changes}
use Rattle.vm_frame.proofs.WrapLemmas.{wraps_sum}
use Rattle.vm_frame.proofs.local.iinc_effect.Goals as goal

pub returns-in-Some : goal.returns-in-Some
returns-in-Some c =
    let number : FitsSigned w32 c.in-Some.number = search rules in
    let passed : FitsSigned w32 c.from.result = search rules in
    rw c.in-Some.is
    (ap (λ (z : ℤ). Changes c.args.index (Int z))
    (wraps_sum w16 c.in-Some.number c.args.by c.from.result number c.ranges.by passed c.from.ensures))
