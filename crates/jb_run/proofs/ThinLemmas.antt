-- A thin method of the folder is decided.
use Rattle.std.proofs.Common.{◌≡◌, ◌≤◌, ℕ, nat_lt, Bool, false, List, [], ◌∷◌, map, Option, length}
use Rattle.std.proofs.Common.{bit_and, refl, sym, ap, subst, ◌∙◌, inl, inr, arith}
use Rattle.std.specs.Prelude.{if◌then◌else◌}
use Rattle.std.specs.List.{AllByRecursion}
use Rattle.std.proofs.lemmas.Bool.{ltb-true, cases_Bool}
use Rattle.jv_list.proofs.CutLemmas.{cons_same}
use Rattle.jv_list.proofs.MemberLemmas.{first_member}
use Rattle.jv_list.proofs.TestLemmas.{some_same}
use Rattle.cf_pool.specs.Laws.{ExactlyOne}
use Rattle.cf_bodies.specs.Passes.{IsFaultOf}
use Rattle.cf_class.specs.Content.{IsClass}
use Rattle.cf_class.specs.declared.member.Member.{Member}
use Rattle.cl_words.specs.Command.{IsCommand}
use Rattle.cl_words.specs.Laws.{OneCommand}
use Rattle.cl_words.specs.declared.command.Command.{Command}
use Rattle.cl_words.specs.declared.command.Mode.{Mode}
use Rattle.io_edges.specs.declared.folder.File.{File}
use Rattle.io_edges.specs.Folder.{file_at, longest_file}
use Rattle.hi_tree.specs.declared.world.Was.{Was}
use Rattle.hi_tree.specs.declared.world.Was.TheVariants.{Found, TooLong}
use Rattle.hi_tree.specs.declared.world.Asked.{Asked}
use Rattle.hi_tree.specs.declared.world.World.{World}
use Rattle.jb_run.specs.declared.report.Line.{Line}
use Rattle.jb_run.specs.declared.report.Load.{Load}
use Rattle.jb_run.specs.declared.report.Refusal.{Refusal}
use Rattle.jb_run.specs.declared.report.Answer.{Answer}
use Rattle.jb_run.specs.declared.report.Answer.TheVariants.{Usage, ReadFault, NoMemory, Refused, Decided}
use Rattle.jb_run.specs.Path.{class_path}
use Rattle.jb_run.specs.Refusals.{Applies}
use Rattle.jb_run.specs.Cause.{was_of, IsTold, AsksFor, IsLoad, AreVerdicts, IsRefusal, IsDecision, Cause}
use Rattle.jb_run.specs.Laws.{AsksThin, AreLinesOf, IsThinAnswer}
use Rattle.jb_run.specs.Calls.Decisions.{AsksClass, world_of, HasEntry}
use Rattle.jb_run.proofs.OneAnswerLemmas.{answered}
use Rattle.jb_run.proofs.ComesLemmas.{bytes_same}
use Rattle.jb_run.proofs.ClassComesLemmas.{decided_none}

not_less : (m n : ℕ) → n ≤ m → nat_lt m n ≡ false
not_less m n le = elim (cases_Bool (nat_lt m n)) [
  | inl is ↦ let lt = ltb-true m n is in absurd (omega (arith, lt, le))
  | inr is ↦ is
]

abbrev asked_as : List ℕ → Was → Asked
asked_as name was = record { name = name; was = was }

abbrev world_with : List Asked → World
world_with entries = record { entries = entries }

-- one asked name with the folder's answer
one_entry : (told : Option (List File)) (dir class : List ℕ) (was : Was) (entries : List Asked)
    → ((w : Was) → IsTold told (class_path dir class) w → w ≡ was)
    → map (λ (a : Asked). a.name) entries ≡ class ∷ []
    → AllByRecursion (λ a. IsTold told (class_path dir a.name) a.was) entries
    → entries ≡ asked_as class was ∷ []
one_entry told dir class was [] is names answers = absurd cc
one_entry told dir class was (a ∷ []) is names answers =
    let named : a.name ≡ class = (cons_same a.name class [] [] names).0 in
    let at : a.was ≡ was = is a.was (subst (λ (n : List ℕ). IsTold told (class_path dir n) a.was) named answers.0) in
    ap (λ (n : List ℕ). asked_as n a.was ∷ []) named ∙ ap (λ (w : Was). asked_as class w ∷ []) at
one_entry told dir class was (a ∷ (b ∷ entries)) is names answers = absurd cc

module _ (told : Option (List File)) (command : Command) (bytes : List ℕ) (asks : AsksThin told command bytes)
    (law : ExactlyOne (IsClass bytes) (IsFaultOf bytes)) where
  abbrev path : List ℕ
  path = class_path command.dir command.entry.class

  asks_class : AsksClass command
  asks_class =
      subst (λ (m : Mode). AsksFor m command.entry.class (command.entry.class ∷ [])) (sym asks.form.plain)
      (inr (asks.not_built_in, refl))

  was_found : (was : Was) → IsTold told path was → was ≡ Found bytes
  was_found was is =
      let at : was ≡ was_of (file_at asks.files path) =
      subst (λ (o : Option (List File)). IsTold o path was) asks.told_files is in
      at ∙ ap was_of asks.file
      ∙ ap (λ (b : Bool). if b then TooLong else Found bytes) (not_less longest_file (length bytes) asks.short)

  world_found : (world : World) → IsLoad told command world → world ≡ world_of command (Found bytes)
  world_found world load =
      let asked : AsksFor Mode.Plain command.entry.class (map (λ a. a.name) world.entries) =
      subst (λ (m : Mode). AsksFor m command.entry.class (map (λ (a : Asked). a.name) world.entries)) asks.form.plain
      load.asked in
      elim asked [
        | inl built ↦ absurd (asks.not_built_in built.0)
        | inr other ↦
            let same = one_entry told command.dir command.entry.class (Found bytes) world.entries was_found other.1
            load.answers in
            ap (λ (es : List Asked). world_with es) same
      ]

  has_entry : HasEntry command asks.class
  has_entry =
      let of = asks.thin.code_of_entry in
      record {
        named = asks.named;
        code = λ lacks. lacks of.method asks.thin.code of.named of.has;
        object = λ lacks.
            of.access.is_static
            (subst (λ (m : Member). bit_and m.flags 0x0008 ≡ 0) (some_same _ lacks.0 of.method lacks.1 of.named)
            lacks.2);
      }

  not_refused : (r : Refusal) → Applies command (world_of command (Found bytes)) r → ⊥
  not_refused =
      decided_none command asks_class bytes law asks.class asks.is_class has_entry asks.form asks.method asks.thin

  lines_are : (lines : List Line) → AreVerdicts command (world_of command (Found bytes)) lines
      → AreLinesOf bytes command lines
  lines_are lines v =
      let at = answered command (Found bytes) asks_class command.entry.class (Found v.read.bytes) v.read.answered in
      record {
        class = v.class;
        is_class =
            subst (λ (bs : List ℕ). IsClass bs v.class) (bytes_same bytes v.read.bytes (sym at.1)) v.read.is_class;
        method = v.method;
        thin = v.thin;
        sites = v.sites;
        goes_on = v.goes_on;
        justified = v.justified;
      }

  module _ (words : List (List ℕ)) (is : IsCommand words command) (once : OneCommand) where
    never_refused : (load : Load) (refusals : List Refusal)
        → IsRefusal told words load.command load.world refusals → ⊥
    never_refused load [] h = h.some refl
    never_refused load (r ∷ refusals) h =
        let same : load.command ≡ command = once words load.command command h.loaded.command_is is in
        let world = world_found load.world (subst (λ (c : Command). IsLoad told c load.world) same h.loaded.load) in
        let applies : Applies load.command load.world r = (h.refusals_are.exact r).0 (first_member r refusals) in
        not_refused r
        (subst (λ (w : World). Applies command w r) world
        (subst (λ (c : Command). Applies c load.world r) same applies))

    has_lines : (load : Load) (lines : List Line) → IsDecision told words load.command load.world lines
        → (load.command ≡ command) × AreLinesOf bytes command lines
    has_lines load lines h =
        let same : load.command ≡ command = once words load.command command h.loaded.command_is is in
        let world = world_found load.world (subst (λ (c : Command). IsLoad told c load.world) same h.loaded.load) in (
          same,
          lines_are lines
              (subst (λ (w : World). AreVerdicts command w lines) world
              (subst (λ (c : Command). AreVerdicts c load.world lines) same h.verdicts)),
        )

    pub thin_answer : (answer : Answer) → Cause told words answer → IsThinAnswer bytes command answer
    thin_answer Usage cause = cause command is
    thin_answer ReadFault cause = tt
    thin_answer NoMemory cause = tt
    thin_answer (Refused load refusals) cause = never_refused load refusals cause
    thin_answer (Decided load lines) cause = has_lines load lines cause
