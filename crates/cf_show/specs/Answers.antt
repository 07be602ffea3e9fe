-- What is answered of a file.
use Rattle.std.specs.Prelude.{ℕ, List, Option}
use Rattle.io_edges.specs.Folder.{Answers}
use Rattle.io_edges.specs.declared.folder.File.{File}
use Rattle.io_edges.specs.declared.folder.Got.{Got}
use Rattle.io_edges.specs.declared.folder.Got.TheVariants as got
use Rattle.cf_bodies.specs.Passes.{IsFaultOf}
use Rattle.cf_class.specs.Content.{IsClass}
use Rattle.cf_show.specs.declared.answer.Answer.{Answer}
use Rattle.cf_show.specs.declared.answer.Answer.TheVariants.{Class, Malformed, Absent, TooLong, Failed, NoMemory}

-- the answer of what the folder gave: the class that its bytes are, or their fault, or why there are no bytes; want of memory is free
abbrev pub IsRead : Got → Answer → Type 0
IsRead given NoMemory = Unit {0}
IsRead (got.Found bytes) (Class c) = IsClass bytes c
IsRead (got.Found bytes) (Malformed fault) = IsFaultOf bytes fault
IsRead got.Absent Absent = Unit {0}
IsRead got.TooLong TooLong = Unit {0}
IsRead got.Failed Failed = Unit {0}
IsRead given answer = ⊥

-- the answer of the file at a path, where the files are told
pub record IsAnswer (told : Option (List File)) (path : List ℕ) (answer : Answer) : Type 0 where
  pub given : Got
  pub file : Answers told path given
  pub read : IsRead given answer
