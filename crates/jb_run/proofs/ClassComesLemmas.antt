-- What a class file of the entry's class comes to.
use Rattle.std.proofs.Common.{◌≡◌, ◌≢◌, ◌⊎◌, ℕ, List, refl, sym, ap, subst, ◌∙◌, inl, inr, Result, Ok, Err}
use Rattle.cf_pool.specs.declared.fault.What.{What}
use Rattle.cf_pool.specs.declared.fault.What.TheVariants as words
use Rattle.cf_pool.specs.Laws.{ExactlyOne}
use Rattle.cf_bodies.specs.Passes.{IsFaultOf}
use Rattle.cf_class.specs.Content.{IsClass}
use Rattle.cf_class.specs.declared.class_file.ClassFile.{ClassFile}
use Rattle.cf_thin.specs.declared.thin.ThinMethod.{ThinMethod}
use Rattle.cf_thin.specs.Thin.{Thin}
use Rattle.cl_words.specs.declared.command.Command.{Command}
use Rattle.jv_base.specs.declared.method.MethodId.{MethodId}
use Rattle.hi_tree.specs.declared.world.Was.{Was}
use Rattle.hi_tree.specs.declared.world.Was.TheVariants.{Found}
use Rattle.hi_tree.specs.declared.world.World.{World}
use Rattle.jb_run.specs.declared.report.Line.{Line}
use Rattle.jb_run.specs.declared.report.Refusal.{Refusal}
use Rattle.jb_run.specs.declared.report.Refusal.TheVariants.{NoEntry, Missing, Malformed, Narrow}
use Rattle.jb_run.specs.Refusals.{LacksCode, LacksObject, name_place, IsBuiltForm, IsBuilt, IsReadAs, Applies}
use Rattle.jb_run.specs.Calls.Decisions.{AsksClass, world_of, HasEntry, HasLines, ClassComesTo, ComesTo}
use Rattle.jb_run.proofs.OneAnswerLemmas.{RefusedBy, here, answered, refused_by}
use Rattle.jb_run.proofs.ComesLemmas.{malformed_same, bytes_same, comes}

abbrev Lacks : ClassFile → MethodId → Type 0
Lacks class entry = LacksCode class entry ⊎ LacksObject class entry

module _ (command : Command) (asks : AsksClass command) (bytes : List ℕ) (law : ExactlyOne (IsClass bytes)
    (IsFaultOf bytes))
    (class : ClassFile) (is : IsClass bytes class) where
  abbrev was : Was
  was = Found bytes

  abbrev world : World
  world = world_of command was

  same_class : (other : ClassFile) (others : List ℕ) → Found bytes ≡ Found others → IsClass others other → other ≡ class
  same_class other others e h =
      law.one_content other class (subst (λ (bs : List ℕ). IsClass bs other) (bytes_same bytes others e) h) is

  read : class.this_class.name ≡ command.entry.class → IsReadAs world command.entry.class class
  read named = record { bytes = bytes; answered = here command was asks; is_class = is; named = named }

  -- the class that is at fault in another name has another name
  other_name : (name : List ℕ) (place : ℕ) (what : What) → name ≡ command.entry.class
      → RefusedBy command was (Malformed name place what) → class.this_class.name ≢ command.entry.class
  other_name name place what same h = elim h.1 [
    | inl fault ↦ absurd (law.not_both class (record { place = place; what = what }) is fault)
    | inr other ↦
        let one = same_class other.0 bytes refl other.1 in
        λ e. other.2 (ap (λ (k : ClassFile). k.this_class.name) one ∙ e ∙ sym same)
  ]

  -- nothing is refused of a class with that name and the entry's method
  nothing_refused : HasEntry command class → (other : Refusal) → RefusedBy command was other → ⊥
  nothing_refused has (NoEntry entry) h =
      let one = same_class h.1.0 h.1.1 h.1.2 h.1.3 in
      let why : Lacks class command.entry =
      subst (λ (m : MethodId). Lacks class m) h.0 (subst (λ (k : ClassFile). Lacks k entry) one h.1.5) in
      elim why [ inl code ↦ has.code code | inr object ↦ has.object object ]
  nothing_refused has (Missing name) h = absurd cc
  nothing_refused has (Malformed name place what) h = other_name name place what h.0 h has.named
  nothing_refused has Narrow h = h

  pub decided_none : HasEntry command class → IsBuiltForm command → (method : ThinMethod)
      → Thin class command.entry method → (r : Refusal) → Applies command world r → ⊥
  decided_none has form method thin (NoEntry entry) k =
      nothing_refused has (NoEntry entry) (refused_by command was asks (NoEntry entry) k)
  decided_none has form method thin (Missing name) k =
      nothing_refused has (Missing name) (refused_by command was asks (Missing name) k)
  decided_none has form method thin (Malformed name place what) k =
      nothing_refused has (Malformed name place what) (refused_by command was asks (Malformed name place what) k)
  decided_none has form method thin Narrow k =
      k.1 (record { form = form; class = class; read = read has.named; method = method; thin = thin })

  decided : (lines : List Line) → ClassComesTo command class (Ok lines) → ComesTo command world (Ok lines)
  decided lines h =
      let found : HasLines class command.entry lines = h.2 in (
        decided_none h.0 h.1 found.method found.thin,
        λ room. record {
          class = class;
          read = read h.0.named;
          method = found.method;
          thin = found.thin;
          sites = found.sites;
          goes_on = found.goes_on;
          justified = found.justified command.bounds room;
        },
      )

  entry_same : class.this_class.name ≡ command.entry.class → (other : Refusal) → RefusedBy command was other
      → other ≡ NoEntry command.entry
  entry_same named (NoEntry entry) h = ap (λ (m : MethodId). NoEntry m) h.0
  entry_same named (Missing name) h = absurd cc
  entry_same named (Malformed name place what) h = absurd (other_name name place what h.0 h named)
  entry_same named Narrow h = absurd h

  no_entry : class.this_class.name ≡ command.entry.class → Lacks class command.entry
      → ComesTo command world (Err (NoEntry command.entry))
  no_entry named why =
      comes command asks was (NoEntry command.entry) (refl, inr (class, read named, why)) (entry_same named)

  wrong_same : class.this_class.name ≢ command.entry.class → (other : Refusal) → RefusedBy command was other
      → other ≡ Malformed command.entry.class (name_place class) words.WrongName
  wrong_same other (NoEntry entry) h =
      let one = same_class h.1.0 h.1.1 h.1.2 h.1.3 in
      absurd (other (ap (λ (k : ClassFile). k.this_class.name) (sym one) ∙ h.1.4 ∙ ap (λ (m : MethodId). m.class) h.0))
  wrong_same other (Missing name) h = absurd cc
  wrong_same other (Malformed name place what) h = elim h.1 [
    | inl fault ↦ absurd (law.not_both class (record { place = place; what = what }) is fault)
    | inr found ↦
        let one = same_class found.0 bytes refl found.1 in
        malformed_same name command.entry.class place (name_place class) what words.WrongName h.0
        (found.3 ∙ ap name_place one) found.4
  ]
  wrong_same other Narrow h = absurd h

  wrong_name : class.this_class.name ≢ command.entry.class
      → ComesTo command world (Err (Malformed command.entry.class (name_place class) words.WrongName))
  wrong_name other =
      comes command asks was (Malformed command.entry.class (name_place class) words.WrongName)
      (was, here command was asks, inr (class, is, other, refl, refl)) (wrong_same other)

  narrow_same : HasEntry command class → (other : Refusal) → Applies command world other → other ≡ Narrow
  narrow_same has (NoEntry entry) k =
      absurd (nothing_refused has (NoEntry entry) (refused_by command was asks (NoEntry entry) k))
  narrow_same has (Missing name) k =
      absurd (nothing_refused has (Missing name) (refused_by command was asks (Missing name) k))
  narrow_same has (Malformed name place what) k =
      absurd (nothing_refused has (Malformed name place what) (refused_by command was asks
      (Malformed name place what) k))
  narrow_same has Narrow k = refl

  not_built : (IsBuiltForm command → (m : ThinMethod) → Thin class command.entry m → ⊥) → IsBuilt command world → ⊥
  not_built none built =
      let at = answered command was asks command.entry.class (Found built.read.bytes) built.read.answered in
      let one = same_class built.class built.read.bytes (sym at.1) built.read.is_class in
      none built.form built.method (subst (λ (k : ClassFile). Thin k command.entry built.method) one built.thin)

  narrow : HasEntry command class → (IsBuiltForm command → (m : ThinMethod) → Thin class command.entry m → ⊥)
      → ComesTo command world (Err Narrow)
  narrow has none =
      ((λ r k. nothing_refused has r (refused_by command was asks r k), not_built none), narrow_same has)

  -- what the class comes to is what the command and the world do
  pub class_comes : (r : Result (List Line) Refusal) → ClassComesTo command class r → ComesTo command world r
  class_comes (Ok lines) h = decided lines h
  class_comes (Err (NoEntry entry)) h =
      let named : class.this_class.name ≡ command.entry.class = h.1 ∙ ap (λ (m : MethodId). m.class) h.0 in
      let why : Lacks class command.entry = subst (λ (m : MethodId). Lacks class m) h.0 h.2 in
      subst (λ (m : MethodId). ComesTo command world (Err (NoEntry m))) (sym h.0) (no_entry named why)
  class_comes (Err (Missing name)) h = absurd h
  class_comes (Err (Malformed name place what)) h =
      let other : class.this_class.name ≢ command.entry.class = λ e. h.1 (e ∙ sym h.0) in
      subst (λ (r : Refusal). ComesTo command world (Err r))
      (sym (malformed_same name command.entry.class place (name_place class) what words.WrongName h.0 h.2 h.3))
      (wrong_name other)
  class_comes (Err Narrow) h = narrow h.0 h.1
