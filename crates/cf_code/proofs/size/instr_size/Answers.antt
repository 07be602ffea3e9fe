use Rattle.std.proofs.Common.{◌≡◌, List, ℕ, length, subst, ap, arith}
use Rattle.cf_code.specs.Sizes.{HasSize}
use Rattle.cf_code.proofs.size.instr_size.Goals as goal

pub returns-in_err-size-clause-only : goal.returns-in_err-size-clause-only
returns-in_err-size-clause-only c n h =
    let sized = subst (λ (b : List ℕ). HasSize c.args.pc b n) c.in_ok-opcode.ensures.cases.0 h in
    let none = c.in_err-size.ensures.only n sized.0 in
    absurd cc

pub returns-then-size-bytes-clause-only : goal.returns-then-size-bytes-clause-only
returns-then-size-bytes-clause-only c n h =
    let sized = subst (λ (b : List ℕ). HasSize c.args.pc b n) c.in_ok-opcode.ensures.cases.0 h in
    let same = c.in_ok-size.ensures.only n sized.0 in
    cc

pub returns-else-size-bytes-clause-only : goal.returns-else-size-bytes-clause-only
returns-else-size-bytes-clause-only c n h =
    let sized = subst (λ (b : List ℕ). HasSize c.args.pc b n) c.in_ok-opcode.ensures.cases.0 h in
    let given = c.in_ok-size.ensures.only n sized.0 in
    let same : c.in_ok-size.size ≡ n = cc in
    let long = ap length c.in_ok-opcode.ensures.cases.0 in
    absurd (omega (arith, same, long, sized.1))
