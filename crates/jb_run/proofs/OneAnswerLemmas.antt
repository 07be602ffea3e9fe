-- With one answer of the folder, which refusals apply.
use Rattle.std.proofs.Common.{◌≡◌, ◌⊎◌, ℕ, List, [], ◌∷◌, sym, ap, subst, inl, inr}
use Rattle.cf_class.specs.Content.{IsClass}
use Rattle.cf_class.specs.declared.class_file.ClassFile.{ClassFile}
use Rattle.cl_words.specs.declared.command.Command.{Command}
use Rattle.cl_words.specs.declared.command.Mode.{Mode}
use Rattle.cl_words.specs.declared.command.Mode.TheVariants as modes
use Rattle.hi_tree.specs.declared.world.Was.{Was}
use Rattle.hi_tree.specs.declared.world.Was.TheVariants.{Found, Absent}
use Rattle.hi_tree.specs.declared.world.Asked.{Asked}
use Rattle.jb_run.specs.declared.report.Refusal.{Refusal}
use Rattle.jb_run.specs.declared.report.Refusal.TheVariants.{NoEntry, Missing, Malformed, Narrow}
use Rattle.jb_run.specs.Refusals.{WasAnswered, IsBuiltIn, LacksCode, LacksObject, IsMalformed, IsRefusedFor}
use Rattle.jb_run.specs.Cause.{AsksFor}
use Rattle.jb_run.specs.Calls.Decisions.{AsksClass, world_of}
use Rattle.jv_list.proofs.MemberLemmas.{one_member, first_member}

asked_not : (mode : Mode) (class : List ℕ) → AsksFor mode class (class ∷ []) → IsBuiltIn class → ⊥
asked_not modes.Plain class h b = elim h [ inl none ↦ absurd cc | inr some ↦ some.0 b ]
asked_not modes.List class h b = elim h [ inl none ↦ absurd cc | inr some ↦ some.0 b ]
asked_not (modes.Replay file goal) class h b = elim h [ inl none ↦ absurd cc | inr some ↦ some.0 b ]
asked_not (modes.Make number) class h b = absurd cc

-- a refusal of what is asked, read off the one answer
abbrev pub RefusedBy : Command → Was → Refusal → Type 0
RefusedBy command was (NoEntry entry) =
    (entry ≡ command.entry)
    × ((class : ClassFile) × (bytes : List ℕ) × (was ≡ Found bytes) × IsClass bytes class ×
    (class.this_class.name ≡ entry.class)
    × (LacksCode class entry ⊎ LacksObject class entry))
RefusedBy command was (Missing name) = (name ≡ command.entry.class) × (was ≡ Absent)
RefusedBy command was (Malformed name place what) = (name ≡ command.entry.class) × IsMalformed name was place what
RefusedBy command was Narrow = ⊥

module _ (command : Command) (was : Was) (asks : AsksClass command) where
  abbrev one : Asked
  one = record { name = command.entry.class; was = was }

  pub here : WasAnswered (world_of command was) command.entry.class was
  here = first_member one []

  pub answered : (name : List ℕ) (w : Was) → WasAnswered (world_of command was) name w → (name ≡ command.entry.class)
      × (w ≡ was)
  answered name w h =
      let other : Asked = record { name = name; was = w } in
      let e : one ≡ other = one_member one other h in
      (sym (ap (λ (a : Asked). a.name) e), sym (ap (λ (a : Asked). a.was) e))

  pub refused_by : (r : Refusal) → IsRefusedFor command (world_of command was) r → RefusedBy command was r
  refused_by (NoEntry entry) h =
      elim h.1 [
        | inl built ↦
            let named : entry.class ≡ command.entry.class = ap (λ m. m.class) h.0 in
            absurd (asked_not command.mode command.entry.class asks (subst IsBuiltIn named built.1))
        | inr why ↦
            let read = why.1 in
            let at = answered entry.class (Found read.bytes) read.answered in
            (h.0, (why.0, read.bytes, sym at.1, read.is_class, read.named, why.2))
      ]
  refused_by (Missing name) h = let at = answered name Absent h in (at.0, sym at.1)
  refused_by (Malformed name place what) h =
      let at = answered name h.0 h.1 in
      (at.0, subst (λ (w : Was). IsMalformed name w place what) at.1 h.2)
  refused_by Narrow h = h
