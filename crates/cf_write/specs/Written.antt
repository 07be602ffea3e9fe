-- The files that a class stands for.
use Rattle.std.specs.Prelude.{◌≡◌, ℕ, List}
use Rattle.cf_pool.specs.Laws.{IsBytes}
use Rattle.cf_class.specs.declared.class_file.ClassFile.{ClassFile}
use Rattle.cf_class.specs.Content.{IsClass}

-- each file that is this class has these bytes: what a class is written as is the file that it was read from, whichever that was
abbrev pub IsEachFile : List ℕ → ClassFile → Type 0
IsEachFile written c = (bytes : List ℕ) → IsBytes bytes → IsClass bytes c → written ≡ bytes
