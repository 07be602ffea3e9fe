use Rattle.std.proofs.Common.{ℕ, nat_cmp, ap, ◌∙◌}
use Rattle.uw_keys.specs.Order.{phase}
use Rattle.uw_keys.specs.Calls.Phases.{number_of}
use Rattle.uw_keys.proofs.order.compare_at.Goals as goal

pub returns : goal.returns
returns c limit a-within b-within =
    let first = c.phase_at.ensures.value limit in
    let second = c.phase_at-2.ensures.value limit in
    c.compare_phases.ensures limit (c.phase_at.ensures.within limit a-within)
    (c.phase_at-2.ensures.within limit b-within)
    ∙ ap (λ (n : ℕ). nat_cmp n (number_of limit c.phase_at-2.result)) first
    ∙ ap (λ (n : ℕ). nat_cmp (phase limit c.args.interval.now c.args.a_pc c.args.a_counter) n) second
