-- Which member a class declares under a name and a descriptor, and its code (JVM Specification SE 8, 4.5, 4.6 and 4.7.3).
use Rattle.std.specs.Prelude.{◌&&◌, ℕ, Bool, List, [], ◌∷◌, find, Option, Some, None}
use Rattle.std.specs.Str.{bytes_eq}
use Rattle.cf_class.specs.declared.member.Member.{Member}
use Rattle.cf_class.specs.declared.code.Code.{Code}
use Rattle.cf_class.specs.declared.attribute.Attribute.{Attribute}
use Rattle.cf_class.specs.declared.attribute.Body.{Body}
use Rattle.cf_class.specs.declared.attribute.Body.TheVariants as bodies

-- whether a member has a name and a descriptor
abbrev pub is_named : List ℕ → List ℕ → Member → Bool
is_named name desc m = bytes_eq m.name.name name && bytes_eq m.desc.name desc

-- the first member of a name and a descriptor; a class has no two (4.5, 4.6)
abbrev pub member_in : List ℕ → List ℕ → List Member → Option Member
member_in name desc members = find (is_named name desc) members

-- the content of an attribute that is a Code, or else what the others have
abbrev pub code_or : Body → Option Code → Option Code
code_or (bodies.Code code) others = Some code
code_or body others = others

-- the content of the first Code; the method of a class file has one at most (4.7.3)
abbrev pub code_in : List Attribute → Option Code
code_in [] = None
code_in (a ∷ attributes) = code_or a.body (code_in attributes)
