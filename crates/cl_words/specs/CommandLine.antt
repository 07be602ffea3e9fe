-- The command line as a simple command of `clap`: options with a number, flags, options with a text, and two words that
-- are no option.
use Rattle.std.specs.Prelude.{ℕ, true, List, [], ◌∷◌, ◌++◌, Some, fold, codes}
use Rattle.clap.specs.Walk.{Rule, Text}
use Rattle.clap.specs.Simple.{App, new_app, new_rule, on_top, with_rule}
use Rattle.clap.specs.declared.builder.action.ArgAction.TheVariants.{SetTrue}
use Rattle.clap.specs.declared.builder.value_parser.ValueParser.TheVariants.{Unsigned}

-- an option with a number: its name, the least and the most number, and the word that stands for it where it is not
-- given
pub record NumberOption : Type 0 where
  pub name : Text
  pub least : ℕ
  pub most : ℕ
  pub default : List Text

-- transfers back to one place in a frame
abbrev pub unwind : NumberOption
unwind = record { name = codes "unwind"; least = 0; most = 100; default = codes "16" ∷ [] }

-- frames
abbrev pub frames : NumberOption
frames = record { name = codes "frames"; least = 1; most = 255; default = codes "16" ∷ [] }

-- the depth of inputs
abbrev pub depth : NumberOption
depth = record { name = codes "depth"; least = 1; most = 4; default = codes "2" ∷ [] }

-- the units of a string
abbrev pub string : NumberOption
string = record { name = codes "string"; least = 0; most = 255; default = codes "32" ∷ [] }

-- the elements of an array
abbrev pub array : NumberOption
array = record { name = codes "array"; least = 0; most = 255; default = codes "16" ∷ [] }

-- the learned clauses for an assertion, where 0 is no bound
abbrev pub budget : NumberOption
budget = record { name = codes "budget"; least = 0; most = 1000000; default = codes "0" ∷ [] }

-- the workers
abbrev pub jobs : NumberOption
jobs = record { name = codes "jobs"; least = 1; most = 16; default = codes "1" ∷ [] }

-- the number of the made classes
abbrev pub make : NumberOption
make = record { name = codes "make"; least = 1; most = 200; default = [] }

-- `--NAME N`, once at most, with a number in its range
abbrev pub number_rule : NumberOption → Rule
number_rule o = record (new_rule o.name) {
  long = Some o.name;
  parser = Some (Unsigned o.least o.most);
  defaults = o.default;
}

-- `--NAME`, once at most
abbrev pub flag_rule : Text → Rule
flag_rule name = record (new_rule name) { long = Some name; action = Some SetTrue }

-- `--NAME TEXT`, once at most
abbrev pub text_rule : Text → Rule
text_rule name = record (new_rule name) { long = Some name }

-- the options of the bounds
abbrev pub bound_rules : List Rule
bound_rules =
    number_rule unwind ∷ number_rule frames ∷ number_rule depth ∷ number_rule string ∷ number_rule array ∷ []

-- the other options with a number
abbrev pub work_rules : List Rule
work_rules = number_rule budget ∷ number_rule jobs ∷ number_rule make ∷ []

-- the flags, the options with a text, and the two words that are no option
abbrev pub form_rules : List Rule
form_rules =
    flag_rule (codes "trace") ∷ flag_rule (codes "list") ∷ text_rule (codes "replay") ∷ text_rule (codes "site")
    ∷ new_rule (codes "DIR") ∷ new_rule (codes "ENTRY") ∷ []

-- a command with further rules
abbrev pub with_rules : App → List Rule → App
with_rules app rules = fold with_rule app rules

-- `jbmc` without rules, for words without the program's name; it answers no call for help
abbrev pub bare_line : App
bare_line = on_top (λ s. record s { no_binary_name = true; disable_help_flag = true }) (new_app (codes "jbmc"))

-- `jbmc` and its rules
unfoldable pub command_line : App
command_line = with_rules bare_line (bound_rules ++ work_rules ++ form_rules)
