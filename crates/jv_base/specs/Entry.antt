-- Which methods a text form may name.
use Rattle.std.specs.Prelude.{◌≡◌, ℕ, ◌<◌, ◌^◌, List, codes, ◌⊎◌}
use Rattle.std.specs.Str.{IsUtf8}
use Rattle.jv_base.specs.declared.method.MethodId.{MethodId}
use Rattle.jv_base.specs.Names.{IsClassName, IsMethodName}
use Rattle.jv_base.specs.declared.method.Goal.{Goal}
use Rattle.jv_base.specs.Descriptor.{IsMethodDescriptor}
use Rattle.jv_base.specs.Spelling.{entry_spelling, site_spelling}

-- a method that can be an entry: each of its names is Unicode text, and has its form; with that form no name has the character 0
pub record IsEntryMethod (m : MethodId) : Type 0 where
  pub class_text : IsUtf8 m.class
  pub name_text : IsUtf8 m.name
  pub desc_text : IsUtf8 m.desc
  pub class : IsClassName m.class
  pub name : IsMethodName m.name
  pub desc : IsMethodDescriptor m.desc

-- the text forms of the methods that can be an entry
abbrev pub IsEntryText : List ℕ → Type 0
IsEntryText text = (m : MethodId) × IsEntryMethod m × (text ≡ entry_spelling m)

-- the name of a method, which may be `<init>` or `<clinit>` (JVM Specification SE 8, 2.9)
abbrev pub IsAnyMethodName : List ℕ → Type 0
IsAnyMethodName name = IsMethodName name ⊎ (name ≡ codes "<init>") ⊎ (name ≡ codes "<clinit>")

-- a goal that has a text form: each of its names is Unicode text, and has its form; a place in code is below 65536
pub record IsSite (g : Goal) : Type 0 where
  pub class_text : IsUtf8 g.site.method.class
  pub name_text : IsUtf8 g.site.method.name
  pub desc_text : IsUtf8 g.site.method.desc
  pub class : IsClassName g.site.method.class
  pub name : IsAnyMethodName g.site.method.name
  pub desc : IsMethodDescriptor g.site.method.desc
  pub pc : g.site.pc < 2 ^ 16

abbrev pub IsSiteText : List ℕ → Type 0
IsSiteText text = (g : Goal) × IsSite g × (text ≡ site_spelling g)
