-- What an answer of the folder for the entry's class comes to.
use Rattle.std.specs.Prelude.{◌≡◌, ◌≢◌, ◌⊎◌, ℕ, List, [], ◌∷◌, map, Option, Result, Ok, Err}
use Rattle.io_edges.specs.declared.folder.File.{File}
use Rattle.cf_pool.specs.declared.fault.What.TheVariants as words
use Rattle.cf_class.specs.declared.class_file.ClassFile.{ClassFile}
use Rattle.cf_thin.specs.declared.thin.ThinMethod.{ThinMethod}
use Rattle.cf_thin.specs.Thin.{Thin}
use Rattle.cl_words.specs.declared.command.Command.{Command}
use Rattle.jv_base.specs.declared.method.Bounds.{Bounds}
use Rattle.jv_base.specs.declared.method.MethodId.{MethodId}
use Rattle.hi_tree.specs.declared.world.Was.{Was}
use Rattle.hi_tree.specs.declared.world.World.{World}
use Rattle.jb_run.specs.declared.report.Line.{Line}
use Rattle.jb_run.specs.declared.report.Refusal.{Refusal}
use Rattle.jb_run.specs.declared.report.Refusal.TheVariants.{NoEntry, Missing, Malformed, Narrow}
use Rattle.jb_run.specs.Refusals.{LacksCode, LacksObject, name_place, IsBuiltForm, Applies}
use Rattle.jb_run.specs.declared.report.Answer.{Answer}
use Rattle.jb_run.specs.declared.report.Answer.TheVariants.{Usage, ReadFault, NoMemory, Refused, Decided}
use Rattle.jb_run.specs.Path.{class_path}
use Rattle.jb_run.specs.Cause.{AsksFor, IsLoad, AsksPaths, paths_of, AreVerdicts}
use Rattle.jb_run.specs.Justified.{AreJustified}
use Rattle.jb_run.specs.Sites.{IsSites}
use Rattle.jb_run.specs.Violates.{HaveRoom, RunsGoOn}

-- the folder is asked for the entry's class
abbrev pub AsksClass : Command → Type 0
AsksClass command = AsksFor command.mode command.entry.class (command.entry.class ∷ [])

-- the folder is asked for nothing
abbrev pub AsksNothing : Command → Type 0
AsksNothing command = AsksFor command.mode command.entry.class []

-- the world of one answer, and of none
abbrev pub world_of : Command → Was → World
world_of command was = record { entries = record { name = command.entry.class; was = was } ∷ [] }

abbrev pub no_world : World
no_world = record { entries = [] }

-- the class has the thin method of the entry, no run of which is stuck, and the lines are for its sites, with verdicts that are
-- true of it
pub record HasLines (class : ClassFile) (entry : MethodId) (lines : List Line) : Type 0 where
  pub method : ThinMethod
  pub thin : Thin class entry method
  pub sites : IsSites entry method.code (map (λ line. line.goal) lines)
  pub goes_on : RunsGoOn method.code entry
  pub justified : (bounds : Bounds) → HaveRoom bounds → AreJustified bounds method.code entry lines

-- the class has the name that was asked for, and the entry's method
pub record HasEntry (command : Command) (class : ClassFile) : Type 0 where
  pub named : class.this_class.name ≡ command.entry.class
  pub code : LacksCode class command.entry → ⊥
  pub object : LacksObject class command.entry → ⊥

-- what a class comes to: lines, or a refusal
abbrev pub ClassComesTo : Command → ClassFile → Result (List Line) Refusal → Type 0
ClassComesTo command class (Ok lines) = HasEntry command class × IsBuiltForm command × HasLines class command.entry lines
ClassComesTo command class (Err (NoEntry entry)) =
    (entry ≡ command.entry) × (class.this_class.name ≡ entry.class) × (LacksCode class entry ⊎ LacksObject class entry)
ClassComesTo command class (Err (Missing name)) = ⊥
ClassComesTo command class (Err (Malformed name place what)) =
    (name ≡ command.entry.class) × (class.this_class.name ≢ name) × (place ≡ name_place class) × (what ≡ words.WrongName)
ClassComesTo command class (Err Narrow) =
    HasEntry command class × (IsBuiltForm command → (m : ThinMethod) → Thin class command.entry m → ⊥)

-- what a command and a world come to: lines, where no refusal applies, or the one refusal that applies
abbrev pub ComesTo : Command → World → Result (List Line) Refusal → Type 0
ComesTo command world (Ok lines) =
    ((r : Refusal) → Applies command world r → ⊥) × (HaveRoom command.bounds → AreVerdicts command world lines)
ComesTo command world (Err refusal) =
    Applies command world refusal × ((other : Refusal) → Applies command world other → other ≡ refusal)

-- an answer with a world: what a command and the world come to
abbrev pub Answers : Command → World → Answer → Type 0
Answers command world (Refused load refusals) =
    (load.command ≡ command) × (load.world ≡ world) × ((r : Refusal) × (refusals ≡ r ∷ []) × ComesTo command world (Err r))
Answers command world (Decided load lines) =
    (load.command ≡ command) × (load.world ≡ world) × ComesTo command world (Ok lines)
Answers command world answer = ⊥

-- what one command's work answers: with a world of the folder's answers, or a fault of reading, or want of memory
abbrev pub IsOutcome : Option (List File) → Command → Answer → Type 0
IsOutcome told command (Refused load refusals) =
    IsLoad told command load.world × Answers command load.world (Refused load refusals)
IsOutcome told command (Decided load lines) =
    IsLoad told command load.world × Answers command load.world (Decided load lines)
IsOutcome told command ReadFault = AsksClass command
IsOutcome told command NoMemory = Unit {0}
IsOutcome told command Usage = ⊥

-- no path was asked for, or that of the entry's class
abbrev pub AsksClassAtMost : Option (List (List ℕ)) → Command → Option (List (List ℕ)) → Type 0
AsksClassAtMost old command new =
    (new ≡ old) ⊎ (AsksClass command × AsksPaths old (class_path command.dir command.entry.class ∷ []) new)

-- the paths of the world's names were asked for
abbrev pub AsksBy : Option (List (List ℕ)) → Command → Answer → Option (List (List ℕ)) → Type 0
AsksBy old command (Refused load refusals) new = AsksPaths old (paths_of command load.world) new
AsksBy old command (Decided load lines) new = AsksPaths old (paths_of command load.world) new
AsksBy old command answer new = AsksClassAtMost old command new
