-- The command line is simple, takes the words in whose parse no step has a fault, and matches what its rules say.
use Rattle.std.proofs.Common.{◌≡◌, ◌∙◌, true, false, refl, sym, ap, ap₂, List, []}
use Rattle.clap.specs.Built.{AddsArg}
use Rattle.clap.specs.Faults.{fault_of, is_simple_and_free}
use Rattle.clap.specs.Simple.{App, HasMatchesOf, app_of, is_simple, matches_of, with_rule}
use Rattle.clap.specs.Takes.{takes}
use Rattle.clap.specs.Walk.{Rule, Text, rule_of}
use Rattle.clap.specs.declared.builder.arg.Arg.{Arg}
use Rattle.clap.specs.declared.builder.command.Command.{Command}
use Rattle.clap.specs.declared.parser.matches.ArgMatches.{ArgMatches}
use Rattle.clap.proofs.OnLiterals.{clap_on_literals}
use Rattle.cl_words.specs.Calls.Options.{rows}
use Rattle.cl_words.specs.CommandLine.{command_line}
use Rattle.cl_words.proofs.TakesLemmas.{takes_by}

-- one more argument
pub added : {old new : Command} {a : Arg} {app : App} {rule : Rule} → AddsArg old a new → a.global ≡ false
    → rule_of a ≡ rule → app_of old ≡ app → app_of new ≡ with_rule app rule
added adds local is from = adds.shape local ∙ ap₂ with_rule from is

line_is_simple : is_simple command_line ≡ true
unfolding command_line clap_on_literals
line_is_simple = refl

line_is_free : is_simple_and_free command_line ≡ true
unfolding command_line clap_on_literals
line_is_free = refl

faultless_is_taken : (words : List Text) → fault_of command_line words ≡ [] → takes command_line words ≡ true
unfolding command_line clap_on_literals
faultless_is_taken words e = takes_by command_line words refl refl refl (λ rows. refl) e

module _ (line : Command) (is : app_of line ≡ command_line) (words : List Text) where
  pub line_takes : (is_simple_and_free (app_of line) ≡ true → fault_of (app_of line) words ≡ [])
      → takes command_line words ≡ true
  line_takes faultless =
      faultless_is_taken words
      (sym (ap (λ (a : App). fault_of a words) is) ∙ faultless (ap is_simple_and_free is ∙ line_is_free))

  pub line_matches : (m : ArgMatches) → HasMatchesOf (app_of line) words m → rows m ≡ matches_of command_line words
  line_matches m h = (h (ap is_simple is ∙ line_is_simple)).0 ∙ ap (λ (a : App). matches_of a words) is
