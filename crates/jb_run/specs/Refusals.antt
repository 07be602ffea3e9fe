-- Which refusals apply to a command and what the folder answered.
use Rattle.std.specs.Prelude.{◌≡◌, ◌≢◌, ◌⊎◌, ◌↔◌, ◌<◌, ◌+◌, ℕ, List, [], ◌∷◌, length, bit_and, false, Some, Contains}
use Rattle.std.specs.List.{flat_map, AllByRecursion}
use Rattle.std.specs.Ordering.{nat_cmp}
use Rattle.std.specs.Cmp.Lexicographic.{slice_cmp}
use Rattle.std.specs.declared.cmp.Ordering.TheVariants.{Less}
use Rattle.cf_pool.specs.Spelling.{entry_text}
use Rattle.cf_pool.specs.declared.fault.What.{What}
use Rattle.cf_pool.specs.declared.fault.What.TheVariants as words
use Rattle.cf_bodies.specs.Passes.{IsFaultOf}
use Rattle.cf_class.specs.Content.{IsClass}
use Rattle.cf_class.specs.declared.class_file.ClassFile.{ClassFile}
use Rattle.cf_class.specs.declared.member.Member.{Member}
use Rattle.cf_class.specs.declared.code.Code.{Code}
use Rattle.cf_thin.specs.declared.thin.ThinMethod.{ThinMethod}
use Rattle.cf_class.specs.Members.{member_in, code_in}
use Rattle.cf_thin.specs.Thin.{Thin}
use Rattle.cl_words.specs.declared.command.Command.{Command}
use Rattle.cl_words.specs.declared.command.Mode.{Mode}
use Rattle.cl_words.specs.declared.command.Mode.TheVariants as modes
use Rattle.jv_base.specs.declared.method.MethodId.{MethodId}
use Rattle.lib_rows.specs.declared.class.Builtin.{Builtin}
use Rattle.lib_rows.specs.Classes.{class_name}
use Rattle.hi_tree.specs.declared.world.Was.{Was}
use Rattle.hi_tree.specs.declared.world.Was.TheVariants.{Found, Absent, TooLong}
use Rattle.hi_tree.specs.declared.world.World.{World}
use Rattle.jb_run.specs.declared.report.Refusal.{Refusal}
use Rattle.jb_run.specs.declared.report.Refusal.TheVariants.{NoEntry, Missing, Malformed, Narrow}
use Rattle.jb_run.specs.Answers.{refusal_text}

-- the folder's answer for a name is in the world
abbrev pub WasAnswered : World → List ℕ → Was → Type 0
WasAnswered world name was = Contains world.entries (record { name = name; was = was })

-- the folder's answer for a name is the file of the class of that name
pub record IsReadAs (world : World) (name : List ℕ) (class : ClassFile) : Type 0 where
  pub bytes : List ℕ
  pub answered : WasAnswered world name (Found bytes)
  pub is_class : IsClass bytes class
  pub named : class.this_class.name ≡ name

-- the command is about the classes of a folder, and not about made ones
abbrev pub HasFolder : Mode → Type 0
HasFolder (modes.Make number) = ⊥
HasFolder mode = Unit {0}

-- a class of that name is built in
abbrev pub IsBuiltIn : List ℕ → Type 0
IsBuiltIn name = (class : Builtin) × (name ≡ class_name class)

-- no method of the entry's name and descriptor has code (4.6)
abbrev pub LacksCode : ClassFile → MethodId → Type 0
LacksCode class entry =
    (m : Member) (code : Code) → member_in entry.name entry.desc class.methods ≡ Some m → code_in m.attributes ≡ Some code → ⊥

-- the method is not static, and no object has the class itself: it is abstract or an interface (4.1, table 4.1-B)
abbrev pub LacksObject : ClassFile → MethodId → Type 0
LacksObject class entry =
    (m : Member) × (member_in entry.name entry.desc class.methods ≡ Some m) × (bit_and m.flags 0x0008 ≡ 0) × (bit_and class.flags 0x0600 ≢ 0)

-- the place of this_class: behind the pool, whose entries begin at place 10, and the flags (4.1)
abbrev pub name_place : ClassFile → ℕ
name_place class = 10 + length (flat_map entry_text class.pool.entries) + 2

-- what is wrong with the folder's answer for a name, and where: the fault of the bytes, the name of their class, or their number
abbrev pub IsMalformed : List ℕ → Was → ℕ → What → Type 0
IsMalformed name (Found bytes) place what =
    IsFaultOf bytes (record { place = place; what = what })
    ⊎ ((class : ClassFile) × IsClass bytes class × (class.this_class.name ≢ name) × (place ≡ name_place class) × (what ≡ words.WrongName))
IsMalformed name TooLong place what = (place ≡ 16777216) × (what ≡ words.TooLong)
IsMalformed name Absent place what = ⊥

-- a refusal of what is asked applies
abbrev pub IsRefusedFor : Command → World → Refusal → Type 0
IsRefusedFor command world (NoEntry entry) =
    (entry ≡ command.entry)
    × ((HasFolder command.mode × IsBuiltIn entry.class)
    ⊎ ((class : ClassFile) × IsReadAs world entry.class class × (LacksCode class entry ⊎ LacksObject class entry)))
IsRefusedFor command world (Missing name) = WasAnswered world name Absent
IsRefusedFor command world (Malformed name place what) = (was : Was) × WasAnswered world name was × IsMalformed name was place what
IsRefusedFor command world Narrow = ⊥

-- the form of the command is built: the plain one, with no budget and no trace
pub record IsBuiltForm (command : Command) : Type 0 where
  pub plain : command.mode ≡ modes.Plain
  pub budget : command.budget ≡ 0
  pub trace : command.trace ≡ false

-- what is asked is built: the form, and the entry's method, which is thin
pub record IsBuilt (command : Command) (world : World) : Type 0 where
  pub form : IsBuiltForm command
  pub class : ClassFile
  pub read : IsReadAs world command.entry.class class
  pub method : ThinMethod
  pub thin : Thin class command.entry method

-- a refusal applies: one of what is asked, or, where there is none of these, that it is not built
abbrev pub Applies : Command → World → Refusal → Type 0
Applies command world Narrow = ((r : Refusal) → IsRefusedFor command world r → ⊥) × (IsBuilt command world → ⊥)
Applies command world refusal = IsRefusedFor command world refusal

-- the number of a refusal, by which they are sorted
abbrev pub number_of : Refusal → ℕ
number_of (NoEntry entry) = 2
number_of (Missing name) = 3
number_of (Malformed name place what) = 4
number_of Narrow = 12

-- one is printed before another: by number, and then by text
abbrev pub IsBefore : Refusal → Refusal → Type 0
IsBefore a b =
    (number_of a < number_of b) ⊎ ((number_of a ≡ number_of b) × (slice_cmp nat_cmp (refusal_text a) (refusal_text b) ≡ Less))

abbrev pub AreSorted : List Refusal → Type 0
AreSorted [] = Unit {0}
AreSorted (r ∷ refusals) = AllByRecursion (IsBefore r) refusals × AreSorted refusals

-- exactly those that apply, sorted, each once
pub record AreRefusals (command : Command) (world : World) (refusals : List Refusal) : Type 0 where
  pub sorted : AreSorted refusals
  pub exact : (r : Refusal) → Contains refusals r ↔ Applies command world r
