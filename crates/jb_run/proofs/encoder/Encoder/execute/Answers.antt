use Rattle.std.proofs.Common.{rules, ℤ, sym, ap, ◌∙◌}
use Rattle.std.specs.Prelude.{FitsSigned}
use Rattle.std.specs.Int.{w32}
use Rattle.std.proofs.lemmas.Int.{to_z-of_z}
use Rattle.std.proofs.lemmas.Result.{on_ok_weaker}
use Rattle.cf_thin.specs.declared.instr.ThinInstr.TheVariants as instrs
use Rattle.jb_run.proofs.NumberLemmas.{found_goes}
use Rattle.jb_run.proofs.JumpLemmas.{ifeq_goes, ifne_goes, if_equal_goes, if_not_equal_goes, goto_goes}
use Rattle.jb_run.proofs.encoder.Encoder.execute.Goals as goal

pub returns-in-AconstNull : goal.returns-in-AconstNull
returns-in-AconstNull c =
    found_goes c.push_null.result c.args.self.now c.push_null.new.self c.args.pc c.args.next c.args.frame c.args.instr
    instrs.AconstNull c.in-AconstNull.is c.push_null.ensures

pub returns-in-Iconst : goal.returns-in-Iconst
returns-in-Iconst c =
    let fits : FitsSigned w32 c.in-Iconst.value = search rules in
    found_goes c.push_int.result c.args.self.now c.push_int.new.self c.args.pc c.args.next c.args.frame c.args.instr _
    (c.in-Iconst.is ∙ ap (λ (v : ℤ). instrs.Iconst v) (sym (to_z-of_z w32 c.in-Iconst.value fits))) c.push_int.ensures

pub returns-in-Iload : goal.returns-in-Iload
returns-in-Iload c =
    found_goes c.load.result c.args.self.now c.load.new.self c.args.pc c.args.next c.args.frame c.args.instr
    (instrs.Iload c.in-Iload.index) c.in-Iload.is c.load.ensures

pub returns-in-Istore : goal.returns-in-Istore
returns-in-Istore c =
    found_goes c.store.result c.args.self.now c.store.new.self c.args.pc c.args.next c.args.frame c.args.instr
    (instrs.Istore c.in-Istore.index) c.in-Istore.is c.store.ensures

pub returns-in-Ixor : goal.returns-in-Ixor
returns-in-Ixor c =
    found_goes c.exclusive_or.result c.args.self.now c.exclusive_or.new.self c.args.pc c.args.next c.args.frame
    c.args.instr instrs.Ixor c.in-Ixor.is c.exclusive_or.ensures

pub returns-in-Ifeq : goal.returns-in-Ifeq
returns-in-Ifeq c =
    found_goes c.branch_on_zero.result c.args.self.now c.branch_on_zero.new.self c.args.pc c.args.next c.args.frame
    c.args.instr (instrs.Ifeq c.in-Ifeq.target) c.in-Ifeq.is
    (on_ok_weaker c.branch_on_zero.result
    (ifeq_goes c.args.self.now c.branch_on_zero.new.self c.args.pc c.args.next c.in-Ifeq.target c.args.frame)
    c.branch_on_zero.ensures)

pub returns-in-Ifne : goal.returns-in-Ifne
returns-in-Ifne c =
    found_goes c.branch_on_zero-in-Ifne.result c.args.self.now c.branch_on_zero-in-Ifne.new.self c.args.pc c.args.next
    c.args.frame c.args.instr (instrs.Ifne c.in-Ifne.target) c.in-Ifne.is
    (on_ok_weaker c.branch_on_zero-in-Ifne.result
    (ifne_goes c.args.self.now c.branch_on_zero-in-Ifne.new.self c.args.pc c.args.next c.in-Ifne.target
    c.args.frame) c.branch_on_zero-in-Ifne.ensures)

pub returns-in-IfIcmpeq : goal.returns-in-IfIcmpeq
returns-in-IfIcmpeq c =
    found_goes c.branch_on_equal.result c.args.self.now c.branch_on_equal.new.self c.args.pc c.args.next c.args.frame
    c.args.instr (instrs.IfIcmpeq c.in-IfIcmpeq.target) c.in-IfIcmpeq.is
    (on_ok_weaker c.branch_on_equal.result
    (if_equal_goes c.args.self.now c.branch_on_equal.new.self c.args.pc c.args.next c.in-IfIcmpeq.target
    c.args.frame) c.branch_on_equal.ensures)

pub returns-in-IfIcmpne : goal.returns-in-IfIcmpne
returns-in-IfIcmpne c =
    found_goes c.branch_on_equal-in-IfIcmpne.result c.args.self.now c.branch_on_equal-in-IfIcmpne.new.self c.args.pc
    c.args.next c.args.frame c.args.instr (instrs.IfIcmpne c.in-IfIcmpne.target) c.in-IfIcmpne.is
    (on_ok_weaker c.branch_on_equal-in-IfIcmpne.result
    (if_not_equal_goes c.args.self.now c.branch_on_equal-in-IfIcmpne.new.self c.args.pc c.args.next
    c.in-IfIcmpne.target c.args.frame) c.branch_on_equal-in-IfIcmpne.ensures)

pub returns-in-Goto : goal.returns-in-Goto
returns-in-Goto c =
    found_goes c.arrive.result c.args.self.now c.arrive.new.self c.args.pc c.args.next c.args.frame c.args.instr
    (instrs.Goto c.in-Goto.target) c.in-Goto.is
    (on_ok_weaker c.arrive.result
    (goto_goes c.args.self.now c.arrive.new.self c.args.pc c.args.next c.in-Goto.target c.args.frame)
    c.arrive.ensures)

pub returns-in-Athrow : goal.returns-in-Athrow
returns-in-Athrow c =
    found_goes c.throw.result c.args.self.now c.throw.new.self c.args.pc c.args.next c.args.frame c.args.instr
    instrs.Athrow c.in-Athrow.is c.throw.ensures
