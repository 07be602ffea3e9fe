use Rattle.std.proofs.Common.{◌≡◌, arith}
use Rattle.cf_code.specs.Targets.{jump_target}
use Rattle.cf_code.proofs.JumpLemmas.{jump_near, jump_far}
use Rattle.cf_code.proofs.jump.read_jump.Goals as goal

pub returns-in_ok-near_target-in-153-to-199-clause-only : goal.returns-in_ok-near_target-in-153-to-199-clause-only
returns-in_ok-near_target-in-153-to-199-clause-only c j fits is =
    let parts = jump_near c.args.pc c.args.bytes.now j (omega arith) fits is in
    let found = c.in_ok-near_target-in-153-to-199.ensures.only (jump_target j) parts.1 parts.2 in
    let same : c.in_ok-near_target-in-153-to-199.field-0 ≡ jump_target j = cc in
    c.numbered_jump.ensures.only j parts.0 same

pub returns-in_ok-far_target-in-200-to-201-clause-only : goal.returns-in_ok-far_target-in-200-to-201-clause-only
returns-in_ok-far_target-in-200-to-201-clause-only c j fits is =
    let parts = jump_far c.args.pc c.args.bytes.now j (omega arith) fits is in
    let found = c.in_ok-far_target-in-200-to-201.ensures.only (jump_target j) parts.1 parts.2 in
    let same : c.in_ok-far_target-in-200-to-201.field-0 ≡ jump_target j = cc in
    c.numbered_jump-in-200-to-201.ensures.only j parts.0 same
