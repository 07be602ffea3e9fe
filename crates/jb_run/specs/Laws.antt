-- What follows from the cause of an answer: a thin method of the folder is decided.
use Rattle.std.specs.Prelude.{◌≡◌, ◌≤◌, ℕ, List, length, map, Option, Some}
use Rattle.cf_pool.specs.Laws.{IsBytes}
use Rattle.cf_class.specs.Content.{IsClass}
use Rattle.cf_class.specs.declared.class_file.ClassFile.{ClassFile}
use Rattle.cf_thin.specs.declared.thin.ThinMethod.{ThinMethod}
use Rattle.cf_thin.specs.Thin.{Thin}
use Rattle.cl_words.specs.Command.{IsCommand}
use Rattle.cl_words.specs.declared.command.Command.{Command}
use Rattle.io_edges.specs.declared.folder.File.{File}
use Rattle.io_edges.specs.Folder.{file_at, longest_file}
use Rattle.jb_run.specs.declared.report.Line.{Line}
use Rattle.jb_run.specs.declared.report.Answer.{Answer}
use Rattle.jb_run.specs.declared.report.Answer.TheVariants.{Usage, ReadFault, NoMemory, Refused, Decided}
use Rattle.jb_run.specs.Cause.{Cause}
use Rattle.jb_run.specs.Justified.{AreJustified}
use Rattle.jb_run.specs.Path.{class_path}
use Rattle.jb_run.specs.Refusals.{IsBuiltIn, IsBuiltForm}
use Rattle.jb_run.specs.Sites.{IsSites}
use Rattle.jb_run.specs.Violates.{RunsGoOn}

-- the command's form is built, and the file of the entry's class is a class file of that name with the thin method of the entry
pub record AsksThin (told : Option (List File)) (command : Command) (bytes : List ℕ) : Type 0 where
  pub form : IsBuiltForm command
  pub not_built_in : IsBuiltIn command.entry.class → ⊥
  pub files : List File
  pub told_files : told ≡ Some files
  pub file : file_at files (class_path command.dir command.entry.class) ≡ Some bytes
  pub are_bytes : IsBytes bytes
  pub short : length bytes ≤ longest_file
  pub class : ClassFile
  pub is_class : IsClass bytes class
  pub named : class.this_class.name ≡ command.entry.class
  pub method : ThinMethod
  pub thin : Thin class command.entry method

-- the bytes are a class file with the thin method of the entry, no run of which is stuck, and the lines are for its sites,
-- in order, with verdicts that are true of it
pub record AreLinesOf (bytes : List ℕ) (command : Command) (lines : List Line) : Type 0 where
  pub class : ClassFile
  pub is_class : IsClass bytes class
  pub method : ThinMethod
  pub thin : Thin class command.entry method
  pub sites : IsSites command.entry method.code (map (λ line. line.goal) lines)
  pub goes_on : RunsGoOn method.code command.entry
  pub justified : AreJustified command.bounds method.code command.entry lines

-- the answer is the lines of that method, if no fault of reading and no want of memory came between
abbrev pub IsThinAnswer : List ℕ → Command → Answer → Type 0
IsThinAnswer bytes command Usage = ⊥
IsThinAnswer bytes command ReadFault = Unit {0}
IsThinAnswer bytes command NoMemory = Unit {0}
IsThinAnswer bytes command (Refused load refusals) = ⊥
IsThinAnswer bytes command (Decided load lines) = (load.command ≡ command) × AreLinesOf bytes command lines

-- words that ask for a thin method have no other answer
abbrev pub ThinIsDecided : Type 0
ThinIsDecided =
    (told : Option (List File)) (words : List (List ℕ)) (command : Command) (bytes : List ℕ) (answer : Answer)
    → IsCommand words command → AsksThin told command bytes → Cause told words answer → IsThinAnswer bytes command answer
