-- What functions ensure that decide whether supertypes are suited.
use Rattle.std.specs.Prelude.{◌≡◌, ◌⊎◌, ℕ, Bool, true, false, List, Contains, map}
use Rattle.cf_class.specs.declared.class_file.ClassFile.{ClassFile}
use Rattle.cf_class.specs.declared.named.Named.{Named}
use Rattle.lib_rows.specs.Classes.{class_name}
use Rattle.lib_rows.specs.declared.class.Builtin.{Builtin}
use Rattle.lib_rows.specs.declared.class.Builtin.TheVariants.{Object}
use Rattle.hi_tree.specs.Classes.{read}
use Rattle.hi_tree.specs.Methods.{is_interface_class}
use Rattle.bd_refusals.specs.Suited.{IsOpen, HasKind}

-- the name is that of a built-in class that no class file extends
abbrev pub IsClosed : List ℕ → Type 0
IsClosed name = (b : Builtin) × (name ≡ class_name b) × (IsOpen b → ⊥)

-- one of the names is that of a class that is no interface
abbrev pub HasClassAbove : List ClassFile → List Named → Type 0
HasClassAbove classes names = (name : List ℕ) × Contains (map (λ n. n.name) names) name × HasKind classes name false

-- an interface has another superclass than Object
abbrev pub IsNoObject : List ClassFile → ClassFile → Type 0
IsNoObject classes c = (kind : Bool) × HasKind classes c.super_class.name kind × (is_interface_class (read c) ≡ true)
    × (c.super_class.name ≡ class_name Object → ⊥)

-- the superclass is unsuited
abbrev pub HasUnsuitedSuper : List ClassFile → ClassFile → Type 0
HasUnsuitedSuper classes c =
    IsClosed c.super_class.name ⊎ (HasKind classes c.super_class.name true ⊎ IsNoObject classes c)
