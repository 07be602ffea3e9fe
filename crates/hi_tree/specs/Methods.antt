-- Which methods a class declares, and what their flags say (JVM Specification SE 8, 4.1 and 4.6).
use Rattle.std.specs.Prelude.{ℕ, Bool, false, not, List, Option, Some, None, option_map, ◌||◌}
use Rattle.std.specs.Prelude.{if◌then◌else◌}
use Rattle.lib_rows.specs.declared.method.LibMethod.{LibMethod}
use Rattle.lib_rows.specs.Classes.{is_interface}
use Rattle.lib_rows.specs.Methods.{is_static}
use Rattle.lib_rows.specs.Rows.{rows_of, named}
use Rattle.hi_tree.specs.declared.declared.Access.{Access}
use Rattle.hi_tree.specs.declared.declared.Access.TheVariants.{Private, Package, Wide}
use Rattle.hi_tree.specs.declared.declared.Declared.{Declared}
use Rattle.hi_tree.specs.Classes.{Known, built_in, read}
use Rattle.cf_class.specs.Members.{member_in}
use Rattle.hi_tree.specs.Members.{has_flag}

-- ACC_PRIVATE, ACC_PUBLIC, ACC_PROTECTED, or none of them
abbrev pub access_of : ℕ → Access
access_of flags =
    if has_flag flags 0x0002 then Private
    else if has_flag flags 0x0001 || has_flag flags 0x0004 then Wide else Package

-- the flags of a method: its access, ACC_STATIC and ACC_ABSTRACT
abbrev pub flags_declared : ℕ → Declared
flags_declared flags = record {
  access = access_of flags;
  is_static = has_flag flags 0x0008;
  is_abstract = has_flag flags 0x0400;
}

-- the methods of built-in classes are public, and none is abstract
abbrev pub row_declared : LibMethod → Declared
row_declared row = record { access = Wide; is_static = is_static row; is_abstract = false }

-- what a class says of its method of a name and a descriptor, if it declares one
abbrev pub declared : List ℕ → List ℕ → Known → Option Declared
declared name desc (built_in b) = option_map row_declared (named (rows_of b) name desc)
declared name desc (read c) = option_map (λ m. flags_declared m.flags) (member_in name desc c.methods)

-- the same, of what is known under a name
abbrev pub declared_some : List ℕ → List ℕ → Option Known → Option Declared
declared_some name desc None = None
declared_some name desc (Some k) = declared name desc k

-- ACC_INTERFACE
abbrev pub is_interface_class : Known → Bool
is_interface_class (built_in b) = is_interface b
is_interface_class (read c) = has_flag c.flags 0x0200

-- neither private nor static
abbrev pub is_virtual_at : Access → Bool → Bool
is_virtual_at Private static = false
is_virtual_at other static = not static

abbrev pub is_virtual : Declared → Bool
is_virtual d = is_virtual_at d.access d.is_static

abbrev pub is_virtual_some : Option Declared → Bool
is_virtual_some None = false
is_virtual_some (Some d) = is_virtual d

abbrev pub has_body_some : Option Declared → Bool
has_body_some None = false
has_body_some (Some d) = not d.is_abstract
