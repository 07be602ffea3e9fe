use Rattle.std.proofs.Common.{◌<◌, ◌+◌, ℕ, length, ap, sym, subst, ◌∙◌, if◌then◌else◌}
use Rattle.std.specs.Option.{option_copied}
use Rattle.vm_step.proofs.ArgumentLemmas.{none_taken}
use Rattle.vm_step.proofs.arguments.call_arguments.Goals as goal

pub returns-in_err-place : goal.returns-in_err-place
returns-in_err-place c =
    ap option_copied c.from_residual.ensures
    ∙ sym (none_taken c.args.receiver c.args.desc.now.params c.args.stack.now
    (subst (λ (n : ℕ). length c.args.stack.now < (if c.args.receiver then n + 1 else n)) c.length.ensures
    c.in_err-place.ensures.none))
