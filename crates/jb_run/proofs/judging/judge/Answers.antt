use Rattle.std.proofs.Common.{List, ℕ, sym, subst, Err}
use Rattle.hi_tree.specs.declared.world.Was.{Was}
use Rattle.hi_tree.specs.declared.world.Was.TheVariants.{Absent, TooLong}
use Rattle.jb_run.specs.declared.report.Refusal.TheVariants.{Missing, Malformed}
use Rattle.cf_pool.specs.declared.fault.What.TheVariants as words
use Rattle.jb_run.specs.Calls.Decisions.{world_of, ComesTo}
use Rattle.jb_run.proofs.ComesLemmas.{absent_comes, long_comes}
use Rattle.jb_run.proofs.judging.judge.Goals as goal

pub returns-in_ok-copy-in-Absent : goal.returns-in_ok-copy-in-Absent
returns-in_ok-copy-in-Absent c =
    let command = c.args.command.now in
    let named = subst (λ (n : List ℕ). ComesTo command (world_of command Absent) (Err (Missing n)))
    (sym c.in_ok-copy-in-Absent.ensures) (absent_comes command c.requires) in
    subst (λ (w : Was). ComesTo command (world_of command w) (Err (Missing c.in_ok-copy-in-Absent.field-0)))
    (sym c.in-Absent.is) named

pub returns-in_ok-name-in-TooLong : goal.returns-in_ok-name-in-TooLong
returns-in_ok-name-in-TooLong c =
    let command = c.args.command.now in
    let named = subst (λ (n : List ℕ). ComesTo command (world_of command TooLong) (Err
    (Malformed n 16777216 words.TooLong)))
    (sym c.in_ok-name-in-TooLong.ensures) (long_comes command c.requires) in
    subst (λ (w : Was). ComesTo command (world_of command w) (Err
    (Malformed c.in_ok-name-in-TooLong.name 16777216 words.TooLong)))
    (sym c.in-TooLong.is) named
