-- What a command comes to for which the folder is asked for nothing.
use Rattle.std.proofs.Common.{◌≡◌, ℕ, List, [], refl, sym, ap, subst, inl, inr, Err}
use Rattle.cl_words.specs.declared.command.Command.{Command}
use Rattle.cl_words.specs.declared.command.Mode.{Mode}
use Rattle.cl_words.specs.declared.command.Mode.TheVariants as modes
use Rattle.jv_base.specs.declared.method.MethodId.{MethodId}
use Rattle.jb_run.specs.declared.report.Refusal.{Refusal}
use Rattle.jb_run.specs.declared.report.Refusal.TheVariants.{NoEntry, Missing, Malformed, Narrow}
use Rattle.jb_run.specs.Refusals.{HasFolder, IsBuiltIn, IsRefusedFor, IsBuilt, Applies}
use Rattle.jb_run.specs.Cause.{AsksFor}
use Rattle.jb_run.specs.Calls.Decisions.{AsksNothing, no_world, ComesTo}
use Rattle.jv_list.proofs.MemberLemmas.{none_member}

-- in a world without answers only a built-in class is refused
refused_alone : (command : Command) (r : Refusal) → IsRefusedFor command no_world r
    → HasFolder command.mode × (r ≡ NoEntry command.entry)
refused_alone command (NoEntry entry) h = elim h.1 [
  | inl built ↦ (built.0, ap (λ (m : MethodId). NoEntry m) h.0)
  | inr why ↦ absurd (none_member _ why.1.answered)
]
refused_alone command (Missing name) h = absurd (none_member _ h)
refused_alone command (Malformed name place what) h = absurd (none_member _ h.1)
refused_alone command Narrow h = absurd h

only_narrow : (command : Command) → ((r : Refusal) → IsRefusedFor command no_world r → ⊥) → (other : Refusal)
    → Applies command no_world other → other ≡ Narrow
only_narrow command nothing (NoEntry entry) k = absurd (nothing (NoEntry entry) k)
only_narrow command nothing (Missing name) k = absurd (nothing (Missing name) k)
only_narrow command nothing (Malformed name place what) k = absurd (nothing (Malformed name place what) k)
only_narrow command nothing Narrow k = refl

-- classes are made
pub made_comes : (command : Command) → (HasFolder command.mode → ⊥) → ComesTo command no_world (Err Narrow)
made_comes command made =
    let nothing : (r : Refusal) → IsRefusedFor command no_world r → ⊥ = λ r h. made (refused_alone command r h).0 in
    let unbuilt : IsBuilt command no_world → ⊥ = λ b. none_member _ b.read.answered in
    ((nothing, unbuilt), only_narrow command nothing)

built_in : (mode : Mode) (class : List ℕ) → HasFolder mode → AsksFor mode class [] → IsBuiltIn class
built_in modes.Plain class folder h = elim h [ inl none ↦ none.0 | inr some ↦ absurd cc ]
built_in modes.List class folder h = elim h [ inl none ↦ none.0 | inr some ↦ absurd cc ]
built_in (modes.Replay file goal) class folder h = elim h [ inl none ↦ none.0 | inr some ↦ absurd cc ]
built_in (modes.Make number) class folder h = absurd folder

only_entry : (command : Command) → IsRefusedFor command no_world (NoEntry command.entry) → (other : Refusal)
    → Applies command no_world other → other ≡ NoEntry command.entry
only_entry command refused (NoEntry entry) k = (refused_alone command (NoEntry entry) k).1
only_entry command refused (Missing name) k = (refused_alone command (Missing name) k).1
only_entry command refused (Malformed name place what) k = (refused_alone command (Malformed name place what) k).1
only_entry command refused Narrow k = absurd (k.0 (NoEntry command.entry) refused)

-- the entry's class is built in
pub built_in_comes : (command : Command) (entry : MethodId) → entry ≡ command.entry → HasFolder command.mode
    → AsksNothing command → ComesTo command no_world (Err (NoEntry entry))
built_in_comes command entry same folder asks =
    let is = built_in command.mode command.entry.class folder asks in
    let refused : IsRefusedFor command no_world (NoEntry command.entry) = (refl, inl (folder, is)) in
    subst (λ (m : MethodId). ComesTo command no_world (Err (NoEntry m))) (sym same)
    (refused, only_entry command refused)
