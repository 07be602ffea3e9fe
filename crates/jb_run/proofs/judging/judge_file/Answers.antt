use Rattle.std.proofs.Common.{◌<◌, ℕ, List, sym, subst, arith, Err}
use Rattle.std.proofs.lemmas.List.Elements.{All-from_get_or}
use Rattle.std.proofs.lemmas.Result.{IfOk-weaker}
use Rattle.cf_pool.specs.Laws.{IsBytes}
use Rattle.cf_structure.specs.ClassFile.{Names}
use Rattle.cf_structure.specs.declared.fault.ClassFault.{ClassFault}
use Rattle.cf_bodies.specs.Passes.{IsFaultOf}
use Rattle.hi_tree.specs.declared.world.Was.TheVariants.{Found}
use Rattle.jb_run.specs.declared.report.Refusal.TheVariants.{Malformed}
use Rattle.jb_run.specs.Calls.Decisions.{world_of, ClassComesTo, ComesTo}
use Rattle.jb_run.proofs.ComesLemmas.{fault_comes}
use Rattle.jb_run.proofs.ClassComesLemmas.{class_comes}
use Rattle.jb_run.proofs.judging.judge_file.Goals as goal

pub returns-in-Ok : goal.returns-in-Ok
returns-in-Ok c =
    let command = c.args.command.now in
    let bytes = c.args.bytes.now in
    let class = c.in-Ok.class in
    let fits : IsBytes bytes = All-from_get_or (λ b. b < 256) bytes 0 (λ i lt. omega (arith, c.type_inv.bytes i)) in
    IfOk-weaker c.judge_class.result (λ r. ClassComesTo command class r) (λ r. ComesTo command (world_of command
    (Found bytes)) r)
    (λ r h. class_comes command c.requires bytes (c.one_class.ensures bytes fits) class c.in-Ok.ensures.found r h)
    c.judge_class.ensures

pub returns-in_ok-name-in-Err : goal.returns-in_ok-name-in-Err
returns-in_ok-name-in-Err c =
    let command = c.args.command.now in
    let bytes = c.args.bytes.now in
    let fault = c.in_ok-fault-in-Err.fault in
    let fits : IsBytes bytes = All-from_get_or (λ b. b < 256) bytes 0 (λ i lt. omega (arith, c.type_inv.bytes i)) in
    let is = subst (λ (f : ClassFault). Names
    (IsFaultOf bytes) f) c.in_ok-fault-in-Err.ensures c.in-Err.ensures.fault in
    subst (λ (n : List ℕ). ComesTo command (world_of command (Found bytes)) (Err (Malformed n fault.place fault.what)))
    (sym c.in_ok-name-in-Err.ensures)
    (fault_comes command c.requires bytes (c.one_class.ensures bytes fits) fault is)
