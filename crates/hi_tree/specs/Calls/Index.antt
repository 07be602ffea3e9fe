-- For private functions and proofs alone: the index by name.
use Rattle.std.specs.Prelude.{◌≡◌, ℕ, ◌<◌, List, Option, Some, None, IfSome, slice_get, length}
use Rattle.cf_class.specs.declared.class_file.ClassFile.{ClassFile}
use Rattle.hi_tree.specs.Classes.{class_in}

abbrev pub found_at : List ClassFile → Option ℕ → Option ClassFile
found_at classes None = None
found_at classes (Some place) = slice_get classes place

-- each name leads to its class
pub record IsIndex (place_of : List ℕ → Option ℕ) (classes : List ClassFile) : Type 0 where
  pub found : (name : List ℕ) → found_at classes (place_of name) ≡ class_in classes name
  pub within : (name : List ℕ) → IfSome (place_of name) (λ place. place < length classes)
