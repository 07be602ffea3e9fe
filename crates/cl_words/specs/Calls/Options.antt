-- The options of the code, as the statement has them.
use Rattle.std.specs.Prelude.{List, [], ◌∷◌, Option, Some, None}
use Rattle.std.specs.Borrow.{Bor}
use Rattle.clap.specs.Walk.{Row, Text, rows_of}
use Rattle.clap.specs.Matches.{found_of}
use Rattle.clap.specs.declared.parser.matches.ArgMatches.{ArgMatches}
use Rattle.cl_words.specs.declared.option.NumberOption.{NumberOption as Declared}
use Rattle.cl_words.specs.CommandLine.{NumberOption}

abbrev pub default_of : Option (Bor Text) → List Text
default_of None = []
default_of (Some text) = text.now ∷ []

abbrev pub option_of : Declared → NumberOption
option_of o = record { name = o.name.now; least = o.least; most = o.most; default = default_of o.default }

-- what was found for each name
abbrev pub rows : ArgMatches → List Row
rows matches = rows_of (found_of matches)
