-- What is told of a file, and the lines that tell it.
use Rattle.std.specs.Prelude.{ℕ, List, ◌++◌, Option, codes}
use Rattle.std.specs.List.{AllZip}
use Rattle.io_edges.specs.Folder.{Answers}
use Rattle.io_edges.specs.declared.folder.File.{File}
use Rattle.io_edges.specs.declared.folder.Got.{Got}
use Rattle.io_edges.specs.declared.folder.Got.TheVariants as got
use Rattle.jv_base.specs.Spelling.{entry_spelling}
use Rattle.cf_class.specs.declared.class_file.ClassFile.{ClassFile}
use Rattle.cf_class.specs.Content.{IsClass}
use Rattle.ck_show.specs.declared.answer.Answer.{Answer}
use Rattle.ck_show.specs.declared.answer.Answer.TheVariants.{Class, NoClass, NotRead}
use Rattle.ck_show.specs.declared.verdict.Verdict.{Verdict}
use Rattle.ck_show.specs.declared.verdict.Verdict.TheVariants.{NoCode, Outside, Shapes, NoShapes}
use Rattle.ck_show.specs.declared.verdict.Told.{Told}
use Rattle.ck_show.specs.Verdicts.{IsTold}

-- the answer of what the folder gave: of a class each method in file order, or that the bytes are no class
abbrev pub IsRead : Got → Answer → Type 0
IsRead (got.Found bytes) (Class told) = (c : ClassFile) × IsClass bytes c × AllZip (IsTold c) c.methods told
IsRead (got.Found bytes) NoClass = (c : ClassFile) → IsClass bytes c → ⊥
IsRead got.Absent NotRead = Unit {0}
IsRead got.TooLong NotRead = Unit {0}
IsRead got.Failed NotRead = Unit {0}
IsRead given answer = ⊥

-- the answer of the file at a path, where the files are told
pub record IsAnswer (told : Option (List File)) (path : List ℕ) (answer : Answer) : Type 0 where
  pub given : Got
  pub file : Answers told path given
  pub read : IsRead given answer

abbrev pub verdict_word : Verdict → List ℕ
verdict_word NoCode = codes "no code"
verdict_word Outside = codes "outside the profile"
verdict_word Shapes = codes "shapes"
verdict_word NoShapes = codes "no shapes"

-- CLASS.METHOD:DESC, a colon and the word
abbrev pub told_text : Told → List ℕ
told_text told = entry_spelling told.method ++ codes ": " ++ verdict_word told.verdict ++ codes "\n"
