-- What holds of all words.
use Rattle.std.specs.Prelude.{◌≡◌, List}
use Rattle.clap.specs.Walk.{Text}
use Rattle.cl_words.specs.declared.command.Command.{Command}
use Rattle.cl_words.specs.Command.{IsCommand}

-- words are one command at most
abbrev pub OneCommand : Type 0
OneCommand = (words : List Text) (a b : Command) → IsCommand words a → IsCommand words b → a ≡ b
