-- What functions ensure that copy suited class files into a table.
use Rattle.std.specs.Prelude.{◌≡◌, ◌⊎◌, ◌↔◌, ℕ, List, Some}
use Rattle.cf_class.specs.declared.class_file.ClassFile.{ClassFile}
use Rattle.hi_tree.specs.Classes.{class_in}
use Rattle.bd_refusals.specs.Suited.{IsSuitedIn}

-- a table has suited class files alone
abbrev pub HasSuited : List ClassFile → List ClassFile → Type 0
HasSuited classes table = (name : List ℕ) (c : ClassFile) → class_in table name ≡ Some c → IsSuitedIn classes name c

-- beside the old ones stands that of a name, where it is suited
abbrev pub PutsSuited : List ClassFile → List ℕ → List ClassFile → List ClassFile → Type 0
PutsSuited classes name old new = (q : List ℕ) (c : ClassFile) → (class_in new q ≡ Some c)
    ↔ ((class_in old q ≡ Some c) ⊎ ((q ≡ name) × IsSuitedIn classes q c))
