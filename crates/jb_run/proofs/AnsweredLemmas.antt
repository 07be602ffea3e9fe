-- From what a command and a world come to, to the answer and its cause.
use Rattle.std.proofs.Common.{◌≡◌, ℕ, List, [], ◌∷◌, Option}
use Rattle.std.proofs.Common.{sym, subst, ◌∙◌, inl, inr, Contains, Ok, Err}
use Rattle.io_edges.specs.declared.folder.File.{File}
use Rattle.cl_words.specs.Command.{IsCommand}
use Rattle.cl_words.specs.declared.command.Command.{Command}
use Rattle.hi_tree.specs.declared.world.Was.{Was}
use Rattle.hi_tree.specs.declared.world.World.{World}
use Rattle.jb_run.specs.declared.report.Load.{Load}
use Rattle.jb_run.specs.declared.report.Refusal.{Refusal}
use Rattle.jb_run.specs.declared.report.Answer.{Answer}
use Rattle.jb_run.specs.declared.report.Answer.TheVariants.{Usage, ReadFault, NoMemory, Refused, Decided}
use Rattle.jb_run.specs.Path.{class_path}
use Rattle.jb_run.specs.Violates.{HaveRoom}
use Rattle.jb_run.specs.Refusals.{Applies, AreRefusals}
use Rattle.jb_run.specs.Cause.{IsTold, IsLoad, IsLoaded, Cause, AsksPaths, paths_of, AsksAtMost, Asks}
use Rattle.jb_run.specs.Calls.Decisions.{AsksClass, AsksNothing, world_of, no_world}
use Rattle.jb_run.specs.Calls.Decisions.{ComesTo, Answers, IsOutcome, AsksClassAtMost, AsksBy}
use Rattle.jv_list.proofs.MemberLemmas.{one_member, first_member}

pub told_load : (told : Option (List File)) (command : Command) (was : Was) → AsksClass command
    → IsTold told (class_path command.dir command.entry.class) was → IsLoad told command (world_of command was)
told_load told command was asks is = record { asked = asks; answers = (is, tt) }

pub no_load : (told : Option (List File)) (command : Command) → AsksNothing command → IsLoad told command no_world
no_load told command asks = record { asked = asks; answers = tt }

pub outcome_of : (told : Option (List File)) (command : Command) (world : World) (a : Answer) → Answers command world a
    → IsLoad told command world → IsOutcome told command a
outcome_of told command world (Refused load refusals) h is = (
  subst (λ (w : World). IsLoad told command w) (sym h.1) is,
  subst (λ (w : World). Answers command w (Refused load refusals)) (sym h.1) h,
)
outcome_of told command world (Decided load lines) h is = (
  subst (λ (w : World). IsLoad told command w) (sym h.1) is,
  subst (λ (w : World). Answers command w (Decided load lines)) (sym h.1) h,
)
outcome_of told command world Usage h is = absurd h
outcome_of told command world ReadFault h is = absurd h
outcome_of told command world NoMemory h is = absurd h

-- the paths of one answer, and of none
pub asks_by : (old new : Option (List (List ℕ))) (command : Command) (was : Was) (a : Answer)
    → Answers command (world_of command was) a → AsksPaths old (class_path command.dir command.entry.class ∷ []) new
    → AsksBy old command a new
asks_by old new command was (Refused load refusals) h asked =
    subst (λ (w : World). AsksPaths old (paths_of command w) new) (sym h.1) asked
asks_by old new command was (Decided load lines) h asked =
    subst (λ (w : World). AsksPaths old (paths_of command w) new) (sym h.1) asked
asks_by old new command was Usage h asked = absurd h
asks_by old new command was ReadFault h asked = absurd h
asks_by old new command was NoMemory h asked = absurd h

-- the one refusal that applies is the list of those that do
one_refusal : (command : Command) (world : World) (refusals : List Refusal) (r : Refusal) → refusals ≡ r ∷ []
    → ComesTo command world (Err r) → AreRefusals command world refusals
one_refusal command world refusals r same h =
    subst (λ (rs : List Refusal). AreRefusals command world rs) (sym same) (record {
      sorted = (tt, tt);
      exact = λ x. (
        (λ c. subst (λ (y : Refusal). Applies command world y) (one_member r x c) h.0),
        (λ a. subst (λ (y : Refusal). Contains (r ∷ []) y) (sym (h.1 x a)) (first_member r [])),
      );
    })

loaded : (told : Option (List File)) (words : List (List ℕ)) (command : Command) (load : Load) → IsCommand words command
    → load.command ≡ command → IsLoad told command load.world → IsLoaded told words load.command load.world
loaded told words command load is same at =
    subst (λ (c : Command). IsLoaded told words c load.world) (sym same) (record { command_is = is; load = at })

-- the cause of what one command's work answers
pub cause_of : (told : Option (List File)) (words : List (List ℕ)) (command : Command) (a : Answer)
    → IsCommand words command
    → IsOutcome told command a → Cause told words a
cause_of told words command (Refused load refusals) is h =
    let answers = h.1 in
    let r : Refusal = answers.2.0 in
    record {
      loaded = loaded told words command load is answers.0 h.0;
      refusals_are =
          subst (λ (c : Command). AreRefusals c load.world refusals) (sym answers.0)
          (one_refusal command load.world refusals r answers.2.1 answers.2.2);
      some = λ e. let none : r ∷ [] ≡ [] = sym answers.2.1 ∙ e in absurd cc;
    }
cause_of told words command (Decided load lines) is h =
    let answers = h.1 in
    let comes : ComesTo load.command load.world (Ok lines) =
    subst (λ (c : Command). ComesTo c load.world (Ok lines)) (sym answers.0) answers.2 in
    record {
      loaded = loaded told words command load is answers.0 h.0;
      none = comes.0;
      verdicts = comes.1 (subst (λ (c : Command). HaveRoom c.bounds) (sym answers.0) is.read.bounds.frames.least);
    }
cause_of told words command ReadFault is h = (command, is, h)
cause_of told words command NoMemory is h = tt
cause_of told words command Usage is h = absurd h

pub at_most : (old new : Option (List (List ℕ))) (words : List (List ℕ)) (command : Command) → IsCommand words command
    → AsksClassAtMost old command new → AsksAtMost old words new
at_most old new words command is h = elim h [
  | inl same ↦ inl same
  | inr asked ↦ inr (command, is, asked.0, asked.1)
]

-- what was asked for, by the answer
pub asks_of : (told : Option (List File)) (old new : Option (List (List ℕ))) (words : List (List ℕ)) (command : Command)
    (a : Answer) → IsCommand words command → IsOutcome told command a → AsksBy old command a new → Asks old words a new
asks_of told old new words command (Refused load refusals) is h asked =
    subst (λ (c : Command). AsksPaths old (paths_of c load.world) new) (sym h.1.0) asked
asks_of told old new words command (Decided load lines) is h asked =
    subst (λ (c : Command). AsksPaths old (paths_of c load.world) new) (sym h.1.0) asked
asks_of told old new words command ReadFault is h asked = at_most old new words command is asked
asks_of told old new words command NoMemory is h asked = at_most old new words command is asked
asks_of told old new words command Usage is h asked = absurd h
