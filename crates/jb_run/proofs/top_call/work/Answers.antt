use Rattle.std.proofs.Common.{◌≡◌, ℕ, List, refl, subst}
use Rattle.std.proofs.lemmas.Result.{IfOk-weaker}
use Rattle.hi_tree.specs.declared.world.Was.{Was}
use Rattle.hi_tree.specs.declared.world.Was.TheVariants.{Found, Absent, TooLong}
use Rattle.jb_run.specs.Path.{class_path}
use Rattle.jb_run.specs.Cause.{IsTold}
use Rattle.jb_run.specs.Calls.Decisions.{world_of, no_world, Answers, IsOutcome}
use Rattle.jb_run.proofs.ToldLemmas.{told_found, told_absent, told_long}
use Rattle.jb_run.proofs.AnsweredLemmas.{told_load, no_load, outcome_of}
use Rattle.jb_run.proofs.top_call.work.Goals as goal

pub returns-then-not-asks-clause-outcome : goal.returns-then-not-asks-clause-outcome
returns-then-not-asks-clause-outcome g c =
    let told = g.F.Folder.files c.args.folder.now in
    let command = c.args.command in
    IfOk-weaker c.answer_alone.result (λ a. Answers command no_world a) (λ a. IsOutcome told command a)
    (λ a h. outcome_of told command no_world a h (no_load told command (c.if-not-asks.ensures.none refl)))
    c.answer_alone.ensures

pub returns-in-Found-clause-outcome : goal.returns-in-Found-clause-outcome
returns-in-Found-clause-outcome g c =
    let told = g.F.Folder.files c.args.folder.now in
    let command = c.args.command in
    let was : Was = (Found c.in-Found.bytes) in
    let path : c.as_str-2.result.now ≡ class_path command.dir command.entry.class =
    rw (c.as_str-2.ensures.value, c.in_ok-path.ensures, c.as_str.ensures) refl in
    let is = subst (λ (p : List ℕ). IsTold told p was) path
    (told_found told c.as_str-2.result.now c.in-Found.bytes c.in-Found.ensures.answer) in
    IfOk-weaker c.answer_to.result (λ a. Answers command (world_of command was) a) (λ a. IsOutcome told command a)
    (λ a h. outcome_of told command (world_of command was) a h (told_load told command was
    (c.if-not-asks.ensures.asks refl) is))
    c.answer_to.ensures

pub returns-in-Absent-clause-outcome : goal.returns-in-Absent-clause-outcome
returns-in-Absent-clause-outcome g c =
    let told = g.F.Folder.files c.args.folder.now in
    let command = c.args.command in
    let was : Was = Absent in
    let path : c.as_str-2.result.now ≡ class_path command.dir command.entry.class =
    rw (c.as_str-2.ensures.value, c.in_ok-path.ensures, c.as_str.ensures) refl in
    let is = subst (λ (p : List ℕ). IsTold told p was) path
    (told_absent told c.as_str-2.result.now c.in-Absent.ensures.answer) in
    IfOk-weaker c.answer_to-in-Absent.result (λ a. Answers command (world_of command was) a)
    (λ a. IsOutcome told command a)
    (λ a h. outcome_of told command (world_of command was) a h (told_load told command was
    (c.if-not-asks.ensures.asks refl) is))
    c.answer_to-in-Absent.ensures

pub returns-in-TooLong-clause-outcome : goal.returns-in-TooLong-clause-outcome
returns-in-TooLong-clause-outcome g c =
    let told = g.F.Folder.files c.args.folder.now in
    let command = c.args.command in
    let was : Was = TooLong in
    let path : c.as_str-2.result.now ≡ class_path command.dir command.entry.class =
    rw (c.as_str-2.ensures.value, c.in_ok-path.ensures, c.as_str.ensures) refl in
    let is = subst (λ (p : List ℕ). IsTold told p was) path
    (told_long told c.as_str-2.result.now c.in-TooLong.ensures.answer) in
    IfOk-weaker c.answer_to-in-TooLong.result (λ a. Answers command (world_of command was) a)
    (λ a. IsOutcome told command a)
    (λ a h. outcome_of told command (world_of command was) a h (told_load told command was
    (c.if-not-asks.ensures.asks refl) is))
    c.answer_to-in-TooLong.ensures
