use Rattle.std.proofs.Common.{◌≡◌, ◌∙◌, length, true, refl, sym, subst, ℕ, arith}
use Rattle.cf_thin.specs.Calls.Passes.{IsSound}
use Rattle.cf_thin.proofs.EntryLemmas.{sound_entry, covers_entry, sound_all}
use Rattle.jv_list.proofs.TestLemmas.{true_iff}
use Rattle.cf_thin.proofs.thin_code.has_shapes.Goals as goal

pub loop-pc-init : goal.loop-pc-init
loop-pc-init c =
    let entry = c.in_ok-shapes.ensures in
    record {
      sound = sound_entry c.args.code.now c.args.limits c.in_ok-shapes.shapes.items entry.0 c.requires.instrs
          c.requires.params entry.1 entry.2 entry.3;
      covers = λ all rules. covers_entry c.args.code.now c.args.limits c.in_ok-shapes.shapes.items entry.0 all rules
          entry.1 entry.2 entry.3;
    }

pub returns-then-not-branch : goal.returns-then-not-branch
returns-then-not-branch c = (
  λ no. absurd cc,
  λ thin. let yes_said =
      (c.in_ok-visit.ensures.complete thin.shapes thin.rules (c.loop-pc.invariant.covers thin.shapes thin.rules)).0 in
      sym c.if-not-branch.true ∙ yes_said,
)

pub loop-pc-preserved : goal.loop-pc-preserved
loop-pc-preserved c = record {
  sound = c.in_ok-visit.ensures.sound c.if-not-branch.false;
  covers = λ all rules. (c.in_ok-visit.ensures.complete all rules (c.loop-pc.invariant.covers all rules)).1;
}

pub returns : goal.returns
returns c =
    let end : c.loop-pc.pc ≡ length c.args.code.now = omega arith in
    true_iff true _ refl
    (sound_all c.args.code.now c.args.limits c.loop-pc.shapes.items c.requires.instrs c.requires.params
    (subst (λ (p : ℕ). IsSound c.args.code.now c.args.limits c.loop-pc.shapes.items p) end
    c.loop-pc.invariant.sound))
