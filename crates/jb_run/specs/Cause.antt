-- The cause of each answer of the top call.
use Rattle.std.specs.Prelude.{◌≡◌, ◌≢◌, ◌⊎◌, ℕ, List, [], ◌∷◌, ◌++◌, length, map, nat_lt, Option, Some, None, IfSome}
use Rattle.std.specs.Prelude.{if◌then◌else◌}
use Rattle.std.specs.List.{AllByRecursion}
use Rattle.std.specs.Option.{option_map}
use Rattle.cf_class.specs.declared.class_file.ClassFile.{ClassFile}
use Rattle.cf_thin.specs.declared.thin.ThinMethod.{ThinMethod}
use Rattle.cf_thin.specs.Thin.{Thin}
use Rattle.cl_words.specs.Command.{IsCommand}
use Rattle.cl_words.specs.declared.command.Command.{Command}
use Rattle.cl_words.specs.declared.command.Mode.{Mode}
use Rattle.cl_words.specs.declared.command.Mode.TheVariants as modes
use Rattle.io_edges.specs.declared.folder.File.{File}
use Rattle.io_edges.specs.Folder.{file_at, longest_file}
use Rattle.io_edges.specs.Sink.{Holds, HoldsFront}
use Rattle.hi_tree.specs.declared.world.Was.{Was}
use Rattle.hi_tree.specs.declared.world.Was.TheVariants.{Found, Absent, TooLong}
use Rattle.hi_tree.specs.declared.world.World.{World}
use Rattle.jb_run.specs.declared.report.Line.{Line}
use Rattle.jb_run.specs.declared.report.Refusal.{Refusal}
use Rattle.jb_run.specs.declared.report.Answer.{Answer}
use Rattle.jb_run.specs.declared.report.Answer.TheVariants.{Usage, ReadFault, NoMemory, Refused, Decided}
use Rattle.jb_run.specs.Justified.{AreJustified}
use Rattle.jb_run.specs.Path.{class_path}
use Rattle.jb_run.specs.Refusals.{IsReadAs, IsBuiltIn, Applies, AreRefusals}
use Rattle.jb_run.specs.Sites.{IsSites}
use Rattle.jb_run.specs.Violates.{RunsGoOn}

-- what a folder with this file at the path of the class answers
abbrev pub was_of : Option (List ℕ) → Was
was_of None = Absent
was_of (Some bytes) = if nat_lt longest_file (length bytes) then TooLong else Found bytes

-- where the files are told, the answer is that of the file at the path
abbrev pub IsTold : Option (List File) → List ℕ → Was → Type 0
IsTold told path was = IfSome told (λ files. was ≡ was_of (file_at files path))

-- the names that the folder is asked for: that of the entry's class, where it is not built in; none for made classes
abbrev pub AsksFor : Mode → List ℕ → List (List ℕ) → Type 0
AsksFor (modes.Make number) class names = names ≡ []
AsksFor mode class names = (IsBuiltIn class × (names ≡ [])) ⊎ ((IsBuiltIn class → ⊥) × (names ≡ class ∷ []))

-- the world has the folder's answers to the names that a command asks for, in order, each once
pub record IsLoad (told : Option (List File)) (command : Command) (world : World) : Type 0 where
  pub asked : AsksFor command.mode command.entry.class (map (λ a. a.name) world.entries)
  pub answers : AllByRecursion (λ a. IsTold told (class_path command.dir a.name) a.was) world.entries

-- the lines are for the sites of the entry's method, in order, with verdicts that are true of it within the bounds; none of its runs is stuck
pub record AreVerdicts (command : Command) (world : World) (lines : List Line) : Type 0 where
  pub class : ClassFile
  pub read : IsReadAs world command.entry.class class
  pub method : ThinMethod
  pub thin : Thin class command.entry method
  pub sites : IsSites command.entry method.code (map (λ line. line.goal) lines)
  pub goes_on : RunsGoOn method.code command.entry
  pub justified : AreJustified command.bounds method.code command.entry lines

-- the words are a command, and the world is what the folder answered to it
pub record IsLoaded (told : Option (List File)) (words : List (List ℕ)) (command : Command) (world : World) : Type 0 where
  pub command_is : IsCommand words command
  pub load : IsLoad told command world

-- refusals: exactly those that apply, of which there is one
pub record IsRefusal (told : Option (List File)) (words : List (List ℕ)) (command : Command) (world : World)
    (refusals : List Refusal) : Type 0 where
  pub loaded : IsLoaded told words command world
  pub refusals_are : AreRefusals command world refusals
  pub some : refusals ≢ []

-- verdicts: no refusal applies
pub record IsDecision (told : Option (List File)) (words : List (List ℕ)) (command : Command) (world : World)
    (lines : List Line) : Type 0 where
  pub loaded : IsLoaded told words command world
  pub none : (r : Refusal) → Applies command world r → ⊥
  pub verdicts : AreVerdicts command world lines

-- Usage comes exactly where the words are no command, a fault of reading only where a name was asked for, refusals and
-- verdicts as above, and want of memory at any time.
abbrev pub Cause : Option (List File) → List (List ℕ) → Answer → Type 0
Cause told words Usage = (command : Command) → IsCommand words command → ⊥
Cause told words ReadFault =
    (command : Command) × IsCommand words command × AsksFor command.mode command.entry.class (command.entry.class ∷ [])
Cause told words NoMemory = Unit {0}
Cause told words (Refused load refusals) = IsRefusal told words load.command load.world refusals
Cause told words (Decided load lines) = IsDecision told words load.command load.world lines

-- the paths of the names of a world
abbrev pub paths_of : Command → World → List (List ℕ)
paths_of command world = map (λ a. class_path command.dir a.name) world.entries

-- these paths were asked for, one after the other, where the asked paths are told
abbrev pub AsksPaths : Option (List (List ℕ)) → List (List ℕ) → Option (List (List ℕ)) → Type 0
AsksPaths old paths new = new ≡ option_map (λ before. before ++ paths) old

-- no path was asked for, or that of the entry's class of the command
abbrev pub AsksAtMost : Option (List (List ℕ)) → List (List ℕ) → Option (List (List ℕ)) → Type 0
AsksAtMost old words new =
    (new ≡ old)
    ⊎ ((command : Command) × IsCommand words command × AsksFor command.mode command.entry.class (command.entry.class ∷ [])
    × AsksPaths old (class_path command.dir command.entry.class ∷ []) new)

-- the paths of the world's names were asked for, in order, each once; without a world one path at most
abbrev pub Asks : Option (List (List ℕ)) → List (List ℕ) → Answer → Option (List (List ℕ)) → Type 0
Asks old words Usage new = new ≡ old
Asks old words (Refused load refusals) new = AsksPaths old (paths_of load.command load.world) new
Asks old words (Decided load lines) new = AsksPaths old (paths_of load.command load.world) new
Asks old words answer new = AsksAtMost old words new

-- the text was put and the status is the one before, or a front of the text was put and the status is 4
abbrev pub PutsText : Option (List ℕ) → List ℕ → ℕ → ℕ → Option (List ℕ) → Type 0
PutsText old text before status new =
    ((status ≡ before) × Holds old text new) ⊎ ((status ≡ 4) × HoldsFront old text new)
