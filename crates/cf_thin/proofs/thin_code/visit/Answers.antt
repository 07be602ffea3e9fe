use Rattle.std.proofs.Common.{◌+◌, sym, refl, IsTrue}
use Rattle.std.proofs.lemmas.Option.{MatchOption-at_none, MatchOption-at_some}
use Rattle.std.proofs.lemmas.Result.{IfOk-weaker}
use Rattle.cf_thin.specs.Instr.{target_of}
use Rattle.cf_thin.specs.declared.shape.Shape.{Shape}
use Rattle.cf_thin.specs.ThinCode.{Shapes, MeetsRules, Steps}
use Rattle.cf_thin.specs.Calls.Passes.{Covers, IsSound, FlowsTo, CannotFlow, fall_of}
use Rattle.cf_thin.proofs.LeadLemmas.{shape_found}
use Rattle.cf_thin.proofs.VisitLemmas.{visit_locals, visit_sound, visit_steps, visit_instr, visit_covers}
use Rattle.cf_thin.proofs.VisitLemmas.{visit_refuses}
use Rattle.jv_list.proofs.TestLemmas.{if_ok_both}
use Rattle.cf_thin.proofs.thin_code.visit.Goals as goal

pub returns-in_default-thin_instr_at-clause-complete : goal.returns-in_default-thin_instr_at-clause-complete
returns-in_default-thin_instr_at-clause-complete c all rules covers =
    let found =
    shape_found c.args.code.now c.args.shapes.now.items c.args.pc c.from.result c.index.result.now c.in-Some.shape
    c.requires.sound.long c.requires.within c.from.ensures c.index.ensures c.in-Some.is in
    absurd (visit_instr c.args.code.now c.args.limits all c.args.shapes.now.items c.args.pc c.in-Some.shape rules covers
    found (sym c.in_default-thin_instr_at.ensures.value))

pub returns-in_default-2-clause-complete : goal.returns-in_default-2-clause-complete
returns-in_default-2-clause-complete c all rules covers =
    let found =
    shape_found c.args.code.now c.args.shapes.now.items c.args.pc c.from.result c.index.result.now c.in-Some.shape
    c.requires.sound.long c.requires.within c.from.ensures c.index.ensures c.in-Some.is in
    let none : (new : Shape) → Steps c.args.limits c.in-Some-thin_instr_at.instr c.in-Some.shape new → ⊥ =
    MatchOption-at_none ((new : Shape) → Steps c.args.limits c.in-Some-thin_instr_at.instr c.in-Some.shape new → ⊥)
    (λ new. Steps c.args.limits c.in-Some-thin_instr_at.instr c.in-Some.shape new) c.in_default-2.is
    c.in_ok-after.ensures in
    let step =
    visit_steps c.args.code.now c.args.limits all c.args.shapes.now.items c.args.pc c.in-Some-thin_instr_at.next
    c.in-Some-thin_instr_at.instr c.in-Some.shape rules covers found (sym c.in-Some-thin_instr_at.ensures.value) in
    absurd (none step.0 step.1)

pub flow-requires : goal.flow-requires
flow-requires c =
    let found =
    shape_found c.args.code.now c.args.shapes.now.items c.args.pc c.from.result c.index.result.now c.in-Some.shape
    c.requires.sound.long c.requires.within c.from.ensures c.index.ensures c.in-Some.is in
    let steps : Steps c.args.limits c.in-Some-thin_instr_at.instr c.in-Some.shape c.in-Some-2.after =
    MatchOption-at_some ((new : Shape) → Steps c.args.limits c.in-Some-thin_instr_at.instr c.in-Some.shape new → ⊥)
    (λ new. Steps c.args.limits c.in-Some-thin_instr_at.instr c.in-Some.shape new) c.in-Some-2.after c.in-Some-2.is
    c.in_ok-after.ensures in
    visit_locals c.args.code.now c.args.limits c.args.shapes.now.items c.args.pc c.in-Some-thin_instr_at.instr
    c.in-Some.shape c.in-Some-2.after c.requires.sound found steps

pub returns-clause-sound : goal.returns-clause-sound
returns-clause-sound c =
    let found =
    shape_found c.args.code.now c.args.shapes.now.items c.args.pc c.from.result c.index.result.now c.in-Some.shape
    c.requires.sound.long c.requires.within c.from.ensures c.index.ensures c.in-Some.is in
    let steps : Steps c.args.limits c.in-Some-thin_instr_at.instr c.in-Some.shape c.in-Some-2.after =
    MatchOption-at_some ((new : Shape) → Steps c.args.limits c.in-Some-thin_instr_at.instr c.in-Some.shape new → ⊥)
    (λ new. Steps c.args.limits c.in-Some-thin_instr_at.instr c.in-Some.shape new) c.in-Some-2.after c.in-Some-2.is
    c.in_ok-after.ensures in
    IfOk-weaker c.flow.result (λ b. IsTrue b
    → FlowsTo c.args.shapes.now.items c.in-Some-2.after
    (fall_of c.in-Some-thin_instr_at.instr c.in-Some-thin_instr_at.next)
    (target_of c.in-Some-thin_instr_at.instr) c.flow.new.shapes.items) (λ b. IsTrue b
    → IsSound c.args.code.now c.args.limits c.flow.new.shapes.items (c.args.pc + 1))
    (λ b flows said. visit_sound c.args.code.now c.args.limits c.args.shapes.now.items c.flow.new.shapes.items c.args.pc
    c.in-Some-thin_instr_at.next c.in-Some-thin_instr_at.instr c.in-Some.shape c.in-Some-2.after c.requires.instrs
    c.requires.sound found (sym c.in-Some-thin_instr_at.ensures.value) steps (flows said))
    c.flow.ensures.flows

pub returns-clause-complete : goal.returns-clause-complete
returns-clause-complete c =
    let found =
    shape_found c.args.code.now c.args.shapes.now.items c.args.pc c.from.result c.index.result.now c.in-Some.shape
    c.requires.sound.long c.requires.within c.from.ensures c.index.ensures c.in-Some.is in
    let steps : Steps c.args.limits c.in-Some-thin_instr_at.instr c.in-Some.shape c.in-Some-2.after =
    MatchOption-at_some ((new : Shape) → Steps c.args.limits c.in-Some-thin_instr_at.instr c.in-Some.shape new → ⊥)
    (λ new. Steps c.args.limits c.in-Some-thin_instr_at.instr c.in-Some.shape new) c.in-Some-2.after c.in-Some-2.is
    c.in_ok-after.ensures in
    if_ok_both c.flow.result
    (FlowsTo c.args.shapes.now.items c.in-Some-2.after
    (fall_of c.in-Some-thin_instr_at.instr c.in-Some-thin_instr_at.next)
    (target_of c.in-Some-thin_instr_at.instr) c.flow.new.shapes.items)
    (CannotFlow c.args.shapes.now.items c.in-Some-2.after
    (fall_of c.in-Some-thin_instr_at.instr c.in-Some-thin_instr_at.next) (target_of c.in-Some-thin_instr_at.instr))
    (λ b. (all : Shapes) → MeetsRules c.args.code.now c.args.limits all → Covers c.args.shapes.now.items all
    → IsTrue b × Covers c.flow.new.shapes.items all)
    (λ flows all rules covers. (
      refl,
      visit_covers c.args.code.now c.args.limits all c.args.shapes.now.items c.flow.new.shapes.items c.args.pc
          c.in-Some-thin_instr_at.next c.in-Some-thin_instr_at.instr c.in-Some.shape c.in-Some-2.after rules covers
          found (sym c.in-Some-thin_instr_at.ensures.value) steps flows,
    ))
    (λ cannot all rules covers. absurd
    (visit_refuses c.args.code.now c.args.limits all c.args.shapes.now.items c.args.pc c.in-Some-thin_instr_at.next
    c.in-Some-thin_instr_at.instr c.in-Some.shape c.in-Some-2.after c.requires.instrs.filled c.requires.sound.long
    rules covers found (sym c.in-Some-thin_instr_at.ensures.value) steps cannot))
    c.flow.ensures.flows c.flow.ensures.refuses
