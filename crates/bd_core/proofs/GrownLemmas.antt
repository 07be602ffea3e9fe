-- What follows from what was given follows from more as well.
use Rattle.std.proofs.Common.{◌≡◌, ℕ, List, Option, Some, None, Contains, inl, inr, refl, sym, subst}
use Rattle.std.proofs.Common.{take}
use Rattle.jv_list.proofs.MemberLemmas.{none_member}
use Rattle.cf_class.specs.declared.class_file.ClassFile.{ClassFile}
use Rattle.jv_base.specs.declared.method.MethodId.{MethodId}
use Rattle.bd_scan.specs.declared.fact.Fact.{Fact}
use Rattle.hi_tree.specs.declared.known.Up.{Up}
use Rattle.hi_tree.specs.declared.known.Up.TheVariants.{Superclasses, Supertypes}
use Rattle.hi_tree.specs.Classes.{Known, read, known_class}
use Rattle.hi_tree.specs.Supers.{names_above_some}
use Rattle.hi_tree.specs.Inputs.{class_type}
use Rattle.hi_tree.specs.Growth.{Grows, KeepsFiles, Keeps}
use Rattle.bd_core.specs.declared.job.Job.{Job}
use Rattle.bd_core.specs.declared.item.Item.{Item}
use Rattle.bd_core.specs.declared.member.Member.{Member}
use Rattle.bd_core.specs.Given.{Given, IsRead, IsInputType, IsInputObject, HasReceiver}
use Rattle.bd_core.specs.Rules as rules
use Rattle.bd_core.specs.Rules.{FromEntry, FromFact, FromMember, IsChosen, Follows, IsSuper, IsSuperclass}
use Rattle.bd_core.specs.Runs.{IsDerived, IsAsked, HasCode}
use Rattle.bd_core.specs.Runs as runs

-- so much more was given
pub record Grown (g h : Given) : Type 0 where
  pub grows : Grows g.classes h.classes
  pub files : KeepsFiles g.classes h.classes
  pub facts : (m : MethodId) (list : List Fact) → g.facts m ≡ Some list → h.facts m ≡ Some list

module _ (g h : Given) (grown : Grown g h) (keeps : Keeps g.classes h.classes) where
  read_kept : (name : List ℕ) (c : ClassFile) → IsRead g.classes name c → IsRead h.classes name c
  read_kept name c is = grown.grows name (read c) is

  above_kept : (up : Up) (class above : List ℕ) → Contains (names_above_some up (known_class g.classes class)) above
      → Contains (names_above_some up (known_class h.classes class)) above
  above_kept up class above there = by (known_class g.classes class) refl
    where
      by : (o : Option Known) → known_class g.classes class ≡ o
          → Contains (names_above_some up (known_class h.classes class)) above
      by None e =
          absurd (none_member above (subst (λ (k : Option Known). Contains (names_above_some up k) above) e there))
      by (Some k) e =
          subst (λ (l : List (List ℕ)). Contains l above) (sym (keeps.above up class k e)) there

  input_type_kept : (entry : MethodId) (depth : ℕ) (class : List ℕ) → IsInputType g.classes entry depth class
      → IsInputType h.classes entry depth class
  input_type_kept entry depth class is = record {
    type = is.type;
    at = is.at;
    within = is.within;
    stands = keeps.inputs grown.files entry depth is.at is.type is.stands;
    element = is.element;
  }

  input_object_kept : (entry : MethodId) (depth : ℕ) (class : List ℕ) → IsInputObject g.classes entry depth class
      → IsInputObject h.classes entry depth class
  input_object_kept entry depth class is = record {
    at = is.at;
    within = is.within;
    stands = keeps.inputs grown.files entry depth is.at (class_type class) is.stands;
    made = elim is.made [ inl m ↦ inl (m.0, keeps.made class m.0 m.1) | inr built_in ↦ inr built_in ];
  }

  receiver_kept : (m : MethodId) → HasReceiver g.classes m → HasReceiver h.classes m
  receiver_kept m has = record {
    class = has.class;
    is_read = read_kept m.class has.class has.is_read;
    member = has.member;
    declared = has.declared;
    instance = has.instance;
  }

  code_kept : (m : MethodId) → HasCode g.classes m → HasCode h.classes m
  code_kept m has = record {
    class = has.class;
    is_read = read_kept m.class has.class has.is_read;
    member = has.member;
    declared = has.declared;
    code = has.code;
  }

  entry_kept : (j : Job) (x : Member) → FromEntry j g x → FromEntry j h x
  entry_kept j x rules.entry = rules.entry
  entry_kept j x rules.initialised = rules.initialised
  entry_kept j x (rules.described class is) = rules.described class is
  entry_kept j x (rules.receiver has) = rules.receiver (receiver_kept j.entry has)
  entry_kept j x (rules.input_type class is) = rules.input_type class (input_type_kept j.entry j.depth class is)
  entry_kept j x (rules.input_made class is) = rules.input_made class (input_object_kept j.entry j.depth class is)
  entry_kept j x (rules.input_initialised class is) =
      rules.input_initialised class (input_object_kept j.entry j.depth class is)

  fact_kept : (m : MethodId) (f : Fact) (x : Member) → FromFact g m f x → FromFact h m f x
  fact_kept m f x (rules.new pc class) = rules.new pc class
  fact_kept m f x (rules.literal class) = rules.literal class
  fact_kept m f x (rules.constant pc at declared is has) =
      rules.constant pc at declared (keeps.field at declared is) (record {
        class = has.class;
        is_read = read_kept declared.class has.class has.is_read;
        field = has.field;
        declared = has.declared;
        text = has.text;
      })
  fact_kept m f x (rules.stream pc at declared is named) = rules.stream pc at declared
      (keeps.field at declared is) named
  fact_kept m f x (rules.static_call pc at target interface is) =
      rules.static_call pc at target interface (keeps.resolved interface at target is)
  fact_kept m f x (rules.special_call pc at target interface is) =
      rules.special_call pc at target interface (keeps.special m.class interface at target is)
  fact_kept m f x (rules.virtual_call pc at interface) = rules.virtual_call pc at interface
  fact_kept m f x (rules.initialises class) = rules.initialises class
  fact_kept m f x (rules.static_initialises pc at target interface is) =
      rules.static_initialises pc at target interface (keeps.resolved interface at target is)
  fact_kept m f x (rules.field_initialises pc at declared access static is) =
      rules.field_initialises pc at declared access static (keeps.field at declared is)
  fact_kept m f x (rules.named class) = rules.named class
  fact_kept m f x (rules.raised class) = rules.raised class
  fact_kept m f x (rules.special_declared pc at resolved interface is) =
      rules.special_declared pc at resolved interface (keeps.resolved interface at resolved is)
  fact_kept m f x (rules.virtual_declared pc at resolved interface is) =
      rules.virtual_declared pc at resolved interface (keeps.resolved interface at resolved is)
  fact_kept m f x (rules.field_declared pc at declared access is) =
      rules.field_declared pc at declared access (keeps.field at declared is)

  member_kept : (p x : Member) → FromMember g p x → FromMember h p x
  member_kept p x (rules.super class above is) = rules.super class above (above_kept Supertypes class above is)
  member_kept p x (rules.made class) = rules.made class
  member_kept p x (rules.itself class) = rules.itself class
  member_kept p x (rules.above class above top is) = rules.above class above top (above_kept Supertypes above top is)
  member_kept p x (rules.super_initialised class above is) =
      rules.super_initialised class above (above_kept Superclasses class above is)
  member_kept p x (rules.initialised class has) =
      rules.initialised class (record {
        class = has.class;
        is_read = read_kept class has.class has.is_read;
        member = has.member;
        declared = has.declared;
        static = has.static;
        code = has.code;
      })
  member_kept p x (rules.declared m) = rules.declared m
  member_kept p x (rules.row_text m row is gives) = rules.row_text m row is gives
  member_kept p x (rules.row_raises m row exception is among) = rules.row_raises m row exception is among

  follows_kept : (j : Job) (before : List Member) (x : Member) → Follows j g before x → Follows j h before x
  follows_kept j before x (rules.from_entry _ from) = rules.from_entry x (entry_kept j x from)
  follows_kept j before x (rules.from_fact m list f _ member given among from) =
      rules.from_fact m list f x member (grown.facts m list given) among (fact_kept m f x from)
  follows_kept j before x (rules.from_member p _ member from) = rules.from_member p x member (member_kept p x from)
  follows_kept j before x (rules.selected class at target interface under called chosen) =
      rules.selected class at target interface under called (record {
        resolved = chosen.resolved;
        resolves = keeps.resolved interface at chosen.resolved chosen.resolves;
        selects = keeps.selected class chosen.resolved target chosen.selects;
      })

  derived_kept : (j : Job) (x : Member) → IsDerived j g x → IsDerived j h x
  derived_kept j x (list, derivation, there) =
      (list, (λ place m e. follows_kept j (take place list) m (derivation place m e)), there)

  pub asked_kept : (j : Job) (i : Item) → IsAsked j g i → IsAsked j h i
  asked_kept j i (runs.class name derived not_built_in) =
      runs.class name (derived_kept j _ derived) not_built_in
  asked_kept j i (runs.method m derived has) = runs.method m (derived_kept j _ derived) (code_kept m has)
