-- Runs of the loading core: workers take what is asked for by what was given before, and give its facts or give it back.
use Rattle.std.specs.Prelude.{◌≡◌, ◌↔◌, ℕ, true, false, List, [], ◌∷◌, ◌++◌, Option, Some, None, is_some, Contains, fold}
use Rattle.std.specs.Map.{update}
use Rattle.jv_base.specs.declared.method.MethodId.{MethodId}
use Rattle.cf_class.specs.declared.class_file.ClassFile.{ClassFile}
use Rattle.cf_class.specs.declared.member.Member.{Member as MemberOf}
use Rattle.cf_class.specs.Members.{member_in, code_in}
use Rattle.lib_rows.specs.Classes.{class_name}
use Rattle.lib_rows.specs.declared.class.Builtin.{Builtin}
use Rattle.bd_core.specs.declared.item.Item.{Item}
use Rattle.bd_core.specs.declared.item.Item.TheVariants.{Class, Method}
use Rattle.bd_core.specs.contracts.item.ItemPartialEq.TheImpl as item_eq
use Rattle.bd_core.specs.declared.item.Facts.{Facts}
use Rattle.bd_core.specs.declared.item.Event.{Event}
use Rattle.bd_core.specs.declared.item.Event.TheVariants.{Take, Give, Back}
use Rattle.bd_core.specs.declared.member.Member.{Member}
use Rattle.bd_core.specs.declared.member.Member.TheVariants.{Known}
use Rattle.bd_core.specs.declared.member.Member.TheVariants as members
use Rattle.bd_core.specs.declared.job.Job.{Job}
use Rattle.bd_core.specs.Given.{Given, IsRead}
use Rattle.bd_core.specs.Least.{IsDerivation}
use Rattle.bd_core.specs.Told.{Told, IsNothing, is_given, Fits, IsTold}

-- a member follows from what was given, by some derivation
abbrev pub IsDerived : Job → Given → Member → Type 0
IsDerived j g x = (list : List Member) × IsDerivation j g list × Contains list x

-- exactly those members follow
abbrev pub AreDerived : Job → Given → List Member → Type 0
AreDerived j g members = (x : Member) → Contains members x ↔ IsDerived j g x

-- the class of a method was read and declares it, with code
pub record HasCode (classes : List ClassFile) (m : MethodId) : Type 0 where
  pub class : ClassFile
  pub is_read : IsRead classes m.class class
  pub member : MemberOf
  pub declared : member_in m.name m.desc class.methods ≡ Some member
  pub code : is_some (code_in member.attributes) ≡ true

-- what the rules ask for: the classes that are known and not built in, the methods that are executed and have code
pub data IsAsked (j : Job) (g : Given) : Item → Type 0 where
  class : (name : List ℕ) → IsDerived j g (Known name) → ((b : Builtin) → name ≡ class_name b → ⊥)
      → IsAsked j g (Class name)
  method : (m : MethodId) → IsDerived j g (members.Method m) → HasCode g.classes m → IsAsked j g (Method m)

-- the worker that has an item, after one event more
abbrev pub held_after : (Item → Option ℕ) → Event → Item → Option ℕ
held_after held (Take worker item) = update (item_eq.ghosts).eq held item (Some worker)
held_after held (Give worker item) = update (item_eq.ghosts).eq held item None
held_after held (Back worker item) = update (item_eq.ghosts).eq held item None

-- the worker that has an item: it took it, and neither gave its facts nor gave it back since
abbrev pub holder : List Event → Item → Option ℕ
holder events = fold held_after (λ item. None) events

-- an item may be taken: it is asked for, no worker has it, and it was not given
pub record IsPending (j : Job) (t : Told) (events : List Event) (item : Item) : Type 0 where
  pub asked : IsAsked j t.given item
  pub not_held : holder events item ≡ None
  pub not_given : is_given t item ≡ false

-- events, each allowed after those before it, by which so much was told
pub data IsRun (j : Job) : List Event → Told → Type 0 where
  start : (t : Told) → IsNothing t → IsRun j [] t
  taken : (events : List Event) (t : Told) (worker : ℕ) (item : Item) → IsRun j events t
      → IsPending j t events item → IsRun j (events ++ Take worker item ∷ []) t
  given : (events : List Event) (t u : Told) (worker : ℕ) (item : Item) (told : Facts) → IsRun j events t
      → holder events item ≡ Some worker → Fits item told → IsTold t item told u
      → IsRun j (events ++ Give worker item ∷ []) u
  back : (events : List Event) (t : Told) (worker : ℕ) (item : Item) → IsRun j events t
      → holder events item ≡ Some worker → IsRun j (events ++ Back worker item ∷ []) t

-- nothing is pending
abbrev pub IsExhausted : Job → Told → List Event → Type 0
IsExhausted j t events = (item : Item) → IsPending j t events item → ⊥

-- a worker has an item; none has one
abbrev pub IsBusy : List Event → Type 0
IsBusy events = (item : Item) × (worker : ℕ) × (holder events item ≡ Some worker)

abbrev pub IsIdle : List Event → Type 0
IsIdle events = (item : Item) → holder events item ≡ None
