-- The classes of a run: the built-in ones, and those that the folder has.
use Rattle.std.specs.Prelude.{◌≡◌, ◌↔◌, ℕ, List, Some, Contains, slice_get, ◌⊎◌}
use Rattle.cf_class.specs.declared.class_file.ClassFile.{ClassFile}
use Rattle.cf_class.specs.Content.{IsClass}
use Rattle.lib_rows.specs.declared.class.Builtin.{Builtin}
use Rattle.lib_rows.specs.Classes.{class_name}
use Rattle.hi_tree.specs.declared.world.Asked.{Asked}
use Rattle.hi_tree.specs.declared.world.Was.TheVariants.{Found}
use Rattle.hi_tree.specs.declared.world.World.{World}
use Rattle.hi_tree.specs.Classes.{class_in}

-- each name stands once
abbrev pub IsWorld : World → Type 0
IsWorld w = (i j : ℕ) (a b : Asked) → slice_get w.entries i ≡ Some a → slice_get w.entries j ≡ Some b
    → a.name ≡ b.name → i ≡ j

-- the bytes of a name are a class file, of that name
pub record HasClass (w : World) (name : List ℕ) (c : ClassFile) : Type 0 where
  pub bytes : List ℕ
  pub there : Contains w.entries (record { name = name; was = Found bytes })
  pub is : IsClass bytes c
  pub named : c.this_class.name ≡ name

-- a name has a class: a built-in one, or that of its bytes
abbrev pub IsKnownIn : World → List ℕ → Type 0
IsKnownIn w name = ((b : Builtin) × (name ≡ class_name b)) ⊎ ((c : ClassFile) × HasClass w name c)

-- a table has the classes of a world, and no others
abbrev pub IsTableOf : World → List ClassFile → Type 0
IsTableOf w classes = (name : List ℕ) (c : ClassFile) → (class_in classes name ≡ Some c) ↔ HasClass w name c
