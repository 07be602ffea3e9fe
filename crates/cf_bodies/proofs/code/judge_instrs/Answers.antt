use Rattle.std.proofs.Common.{subst, arith}
use Rattle.cf_code.specs.Decoding.{EndsAs}
use Rattle.cf_bodies.specs.Checks.{check_at, is_code}
use Rattle.cf_bodies.proofs.CodeLemmas.{whole_passes, opcode_fails, target_fails, unmet_fails, unmet_inside}
use Rattle.cf_bodies.proofs.TellsLemmas.{one_failed}
use Rattle.cf_bodies.proofs.code.judge_instrs.Goals as goal

pub fault_at-requires : goal.fault_at-requires
fault_at-requires c =
    let w = c.in_ok-code.ensures in
    let u = rw c.as_slice.ensures at c.in-Some.ensures in
    let lt = unmet_inside c.one_size.ensures c.one_beginning.ensures c.no_code.ensures c.one_fault.ensures
    c.args.pool.now
    c.args.bytes.now c.requires.short c.in_ok-code.field-0.code w.begins c.in_ok-code.field-0.end w.end c.in-Some.pc
    u in
    omega (arith, lt, c.requires.fits)

pub returns-in-Some : goal.returns-in-Some
returns-in-Some c =
    let w = c.in_ok-code.ensures in
    let u = rw c.as_slice.ensures at c.in-Some.ensures in
    let failed = unmet_fails c.one_size.ensures c.one_beginning.ensures c.no_code.ensures c.one_fault.ensures
    c.args.pool.now c.args.bytes.now c.requires.short c.in_ok-code.field-0.code w.begins c.in_ok-code.field-0.end w.end
    c.in-Some.pc u c.args.place in
    one_failed c.args.pool.now (check_at c.args.place (is_code c.args.bytes.now)) c.fault_at.result _ c.fault_at.ensures
    failed

pub returns-in-Whole : goal.returns-in-Whole
returns-in-Whole c =
    let w = c.in_ok-code.ensures in
    let met = rw c.as_slice.ensures at c.in_default.ensures in
    let whole = subst (EndsAs c.args.bytes.now c.in_ok-code.field-0.code) c.in-Whole.is w.end in
    let passed = whole_passes c.one_size.ensures c.one_beginning.ensures c.no_code.ensures c.one_fault.ensures
    c.args.pool.now c.args.bytes.now c.requires.short c.in_ok-code.field-0.code w.begins c.args.place met whole in
    (whole, (passed, tt))

pub returns-in-BadOpcode : goal.returns-in-BadOpcode
returns-in-BadOpcode c =
    let w = c.in_ok-code.ensures in
    let met = rw c.as_slice.ensures at c.in_default.ensures in
    let ends = subst (EndsAs c.args.bytes.now c.in_ok-code.field-0.code) c.in-BadOpcode.is w.end in
    let failed = opcode_fails c.one_size.ensures c.one_beginning.ensures c.no_code.ensures c.one_fault.ensures
    c.args.pool.now c.args.bytes.now c.requires.short c.in_ok-code.field-0.code w.begins c.args.place c.in-BadOpcode.pc
    met ends in
    one_failed c.args.pool.now (check_at c.args.place (is_code c.args.bytes.now)) c.fault_at-in-BadOpcode.result _
    c.fault_at-in-BadOpcode.ensures failed

pub returns-in-BadTarget : goal.returns-in-BadTarget
returns-in-BadTarget c =
    let w = c.in_ok-code.ensures in
    let met = rw c.as_slice.ensures at c.in_default.ensures in
    let ends = subst (EndsAs c.args.bytes.now c.in_ok-code.field-0.code) c.in-BadTarget.is w.end in
    let failed = target_fails c.one_size.ensures c.one_beginning.ensures c.no_code.ensures c.one_fault.ensures
    c.args.pool.now c.args.bytes.now c.requires.short c.in_ok-code.field-0.code w.begins c.args.place c.in-BadTarget.pc
    met ends in
    one_failed c.args.pool.now (check_at c.args.place (is_code c.args.bytes.now)) c.fault_at-in-BadTarget.result _
    c.fault_at-in-BadTarget.ensures failed
