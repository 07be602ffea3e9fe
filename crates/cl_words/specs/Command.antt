-- Which words are which command.
use Rattle.std.specs.Prelude.{◌≡◌, ◌↔◌, ◌<◌, ◌≤◌, ℕ, true, List, [], Some, None, IsTrue, map, length, codes}
use Rattle.std.specs.Prelude.{String, string_bytes}
use Rattle.std.specs.Fmt.{decimal}
use Rattle.std.specs.declared.alloc.Global.{Global}
use Rattle.clap.specs.Walk.{Row, Text, first_of}
use Rattle.clap.specs.Simple.{matches_of}
use Rattle.clap.specs.Takes.{takes}
use Rattle.jv_base.specs.declared.method.Bounds.{Bounds}
use Rattle.jv_base.specs.declared.method.Goal.{Goal}
use Rattle.jv_base.specs.declared.method.MethodId.{MethodId}
use Rattle.jv_base.specs.Entry.{IsEntryMethod, IsSite}
use Rattle.jv_base.specs.Spelling.{entry_spelling, site_spelling}
use Rattle.cl_words.specs.declared.command.Command.{Command}
use Rattle.cl_words.specs.declared.command.Mode.{Mode}
use Rattle.cl_words.specs.declared.command.Mode.TheVariants.{Plain, List as Listed, Replay, Make}
use Rattle.cl_words.specs.CommandLine.{NumberOption, array, budget, command_line, depth, frames, jobs, make, string}
use Rattle.cl_words.specs.CommandLine.{unwind}

-- the words give this name no value
abbrev pub LacksValue : List Row → Text → Type 0
LacksValue rows name = first_of name rows ≡ None

-- the value of this name is this text
abbrev pub HasText : List Row → Text → Text → Type 0
HasText rows name text = first_of name rows ≡ Some text

-- the flag of this name is given
abbrev pub HasFlag : List Row → Text → Type 0
HasFlag rows name = HasText rows name (codes "true")

-- the value of this option is this number: decimal digits without a sign or a leading zero, in the option's range
pub record HasNumber (rows : List Row) (option : NumberOption) (number : ℕ) : Type 0 where
  pub text : HasText rows option.name (decimal number)
  pub least : option.least ≤ number
  pub most : number ≤ option.most

-- each bound is the number of its option
pub record HasBounds (rows : List Row) (bounds : Bounds) : Type 0 where
  pub unwind : HasNumber rows unwind bounds.unwind
  pub frames : HasNumber rows frames bounds.frames
  pub depth : HasNumber rows depth bounds.depth
  pub string : HasNumber rows string bounds.string
  pub array : HasNumber rows array bounds.array

-- DIR is this folder, which is not empty, and ENTRY the text form of this method
pub record HasJob (rows : List Row) (dir : Text) (entry : MethodId) : Type 0 where
  pub folder : HasText rows (codes "DIR") dir
  pub named : 0 < length dir
  pub text : HasText rows (codes "ENTRY") (entry_spelling entry)
  pub method : IsEntryMethod entry

-- `--replay` names this file, and `--site` is the text form of this goal
pub record HasReplay (rows : List Row) (file : Text) (goal : Goal) : Type 0 where
  pub path : HasText rows (codes "replay") file
  pub text : HasText rows (codes "site") (site_spelling goal)
  pub site : IsSite goal

-- neither `--replay` nor `--site` is given
abbrev pub LacksReplay : List Row → Type 0
LacksReplay rows = LacksValue rows (codes "replay") × LacksValue rows (codes "site")

-- what is asked of a folder and an entry
abbrev pub HasForm : List Row → Mode → Type 0
HasForm rows Plain = (HasFlag rows (codes "list") → ⊥) × LacksReplay rows
HasForm rows Listed = HasFlag rows (codes "list") × LacksReplay rows
HasForm rows (Replay file goal) = (HasFlag rows (codes "list") → ⊥) × HasReplay rows file goal
HasForm rows (Make number) = ⊥

-- the entry of the classes that `--make` makes
abbrev pub made_entry : MethodId
made_entry = record { class = codes "G"; name = codes "m0"; desc = codes "(I)I" }

-- no word but options with a number is given
pub record LacksOthers (rows : List Row) : Type 0 where
  pub trace : HasFlag rows (codes "trace") → ⊥
  pub list : HasFlag rows (codes "list") → ⊥
  pub replay : LacksReplay rows
  pub dir : LacksValue rows (codes "DIR")
  pub entry : LacksValue rows (codes "ENTRY")

-- `--make` with this number, and no other word but options with a number: the folder is empty, and the entry is that of
-- the made classes
pub record HasMake (rows : List Row) (dir : Text) (entry : MethodId) (number : ℕ) : Type 0 where
  pub make : HasNumber rows make number
  pub alone : LacksOthers rows
  pub folder : dir ≡ []
  pub method : entry ≡ made_entry

-- a folder and an entry, and what is asked of them; or `--make`
abbrev pub HasMode : List Row → Text → MethodId → Mode → Type 0
HasMode rows dir entry (Make number) = HasMake rows dir entry number
HasMode rows dir entry mode = LacksValue rows (codes "make") × HasJob rows dir entry × HasForm rows mode

-- the command that these matches are
pub record IsRead (rows : List Row) (command : Command) : Type 0 where
  pub bounds : HasBounds rows command.bounds
  pub budget : HasNumber rows budget command.budget
  pub jobs : HasNumber rows jobs command.jobs
  pub trace : IsTrue command.trace ↔ HasFlag rows (codes "trace")
  pub mode : HasMode rows command.dir command.entry command.mode

-- the command line takes the words, and their matches are this command
pub record IsCommand (words : List Text) (command : Command) : Type 0 where
  pub taken : takes command_line words ≡ true
  pub read : IsRead (matches_of command_line words) command

-- words as their bytes
abbrev pub texts : List (String Global) → List Text
texts words = map (λ word. string_bytes word) words
