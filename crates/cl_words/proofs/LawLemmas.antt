-- Words are one command at most.
use Rattle.std.proofs.Common.{◌≡◌, ◌∙◌, ◌↔◌, ◌<◌, ◌^◌, ◌⊎◌, ℕ, Bool, true, false, List, Some, None, inl, inr, refl, sym}
use Rattle.std.proofs.Common.{ap, arith, codes}
use Rattle.std.specs.Prelude.{IsTrue}
use Rattle.std.specs.Fmt.{decimal}
use Rattle.std.proofs.lemmas.Fmt.{decimal_injective}
use Rattle.clap.specs.Walk.{Row, Text}
use Rattle.clap.specs.Simple.{matches_of}
use Rattle.jv_base.specs.declared.method.Bounds.{Bounds}
use Rattle.jv_base.specs.declared.method.MethodId.{MethodId}
use Rattle.jv_base.specs.Laws.{OneEntry, OneSite}
use Rattle.cl_words.specs.declared.command.Command.{Command}
use Rattle.cl_words.specs.declared.command.Mode.{Mode}
use Rattle.cl_words.specs.declared.command.Mode.TheVariants.{Plain, List as Listed, Replay, Make}
use Rattle.cl_words.specs.CommandLine.{NumberOption, command_line}
use Rattle.cl_words.specs.Command.{HasText, LacksValue, HasNumber, HasBounds, HasForm, HasJob, HasMake, HasMode}
use Rattle.cl_words.specs.Command.{IsRead}
use Rattle.cl_words.specs.Laws.{OneCommand}

one_truth : {P : Type 0} (a b : Bool) → IsTrue a ↔ P → IsTrue b ↔ P → a ≡ b
one_truth true true f g = refl
one_truth true false f g = sym (g.1 (f.0 refl))
one_truth false true f g = f.1 (g.0 refl)
one_truth false false f g = refl

module _ (rows : List Row) where
  one_text : (name a b : Text) → HasText rows name a → HasText rows name b → a ≡ b
  one_text name a b p q = let same : Some a ≡ Some b = sym p ∙ q in cc

  text_or_none : {X : Type 0} (name a : Text) → HasText rows name a → LacksValue rows name → X
  text_or_none name a p q = let same : Some a ≡ None = sym p ∙ q in cc

  one_number : (option : NumberOption) (m n : ℕ) → option.most < 2 ^ 64 → HasNumber rows option m
      → HasNumber rows option n → m ≡ n
  one_number option m n small p q =
      decimal_injective m n (omega (arith, p.most)) (omega (arith, q.most))
      (one_text option.name (decimal m) (decimal n) p.text q.text)

  one_bounds : (a b : Bounds) → HasBounds rows a → HasBounds rows b → a ≡ b
  one_bounds a b p q = λ i. record {
    unwind = one_number _ a.unwind b.unwind (omega arith) p.unwind q.unwind i;
    frames = one_number _ a.frames b.frames (omega arith) p.frames q.frames i;
    depth = one_number _ a.depth b.depth (omega arith) p.depth q.depth i;
    string = one_number _ a.string b.string (omega arith) p.string q.string i;
    array = one_number _ a.array b.array (omega arith) p.array q.array i;
  }

  -- a folder and an entry with what is asked of them, or `--make`
  abbrev IsJobOrMake : Text → MethodId → Mode → Type 0
  IsJobOrMake dir entry mode =
      (LacksValue rows (codes "make") × HasJob rows dir entry × HasForm rows mode)
      ⊎ ((number : ℕ) × (mode ≡ Make number) × HasMake rows dir entry number)

  job_or_make : (dir : Text) (entry : MethodId) (mode : Mode) → HasMode rows dir entry mode
      → IsJobOrMake dir entry mode
  job_or_make dir entry Plain h = inl h
  job_or_make dir entry Listed h = inl h
  job_or_make dir entry (Replay file goal) h = inl h
  job_or_make dir entry (Make number) h = inr (number, refl, h)

  -- without `--make`, and with no form, there is no mode
  pub no_mode : LacksValue rows (codes "make") → ((mode : Mode) → HasForm rows mode → ⊥) → (dir : Text)
      (entry : MethodId) (mode : Mode) → HasMode rows dir entry mode → ⊥
  no_mode none refused dir entry mode h = go (job_or_make dir entry mode h)
    where
      go : IsJobOrMake dir entry mode → ⊥
      go (inl p) = refused mode p.2
      go (inr p) = text_or_none _ _ p.2.make.text none

  module _ (entries : OneEntry) (sites : OneSite) where
    one_form : (a b : Mode) → HasForm rows a → HasForm rows b → a ≡ b
    one_form Plain Plain p q = refl
    one_form Listed Listed p q = refl
    one_form Plain Listed p q = absurd (p.0 q.0)
    one_form Listed Plain p q = absurd (q.0 p.0)
    one_form Plain (Replay file goal) p q = text_or_none _ file q.1.path p.1.0
    one_form Listed (Replay file goal) p q = absurd (q.0 p.0)
    one_form (Replay file goal) Plain p q = text_or_none _ file p.1.path q.1.0
    one_form (Replay file goal) Listed p q = absurd (p.0 q.0)
    one_form (Replay file goal) (Replay other g) p q = λ i.
        Replay (one_text _ file other p.1.path q.1.path i)
        (sites goal g p.1.site q.1.site (one_text _ _ _ p.1.text q.1.text) i)
    one_form (Make n) b p q = absurd p
    one_form Plain (Make n) p q = absurd q
    one_form Listed (Make n) p q = absurd q
    one_form (Replay file goal) (Make n) p q = absurd q

    module _ (dir : Text) (entry : MethodId) (other : Text) (method : MethodId) where
      one_job : HasJob rows dir entry → HasJob rows other method → (dir ≡ other) × (entry ≡ method)
      one_job p q = (
        one_text _ dir other p.folder q.folder,
        entries entry method p.method q.method (one_text _ _ _ p.text q.text),
      )

      one_mode : (a b : Mode) → HasMode rows dir entry a → HasMode rows other method b
          → (dir ≡ other) × (entry ≡ method) × (a ≡ b)
      one_mode a b p q = go (job_or_make dir entry a p) (job_or_make other method b q)
        where
          go : IsJobOrMake dir entry a → IsJobOrMake other method b → (dir ≡ other) × (entry ≡ method) × (a ≡ b)
          go (inl p) (inl q) = let same = one_job p.1 q.1 in (same.0, same.1, one_form a b p.2 q.2)
          go (inl p) (inr q) = text_or_none _ _ q.2.make.text p.0
          go (inr p) (inl q) = text_or_none _ _ p.2.make.text q.0
          go (inr p) (inr q) = (
            p.2.folder ∙ sym q.2.folder,
            p.2.method ∙ sym q.2.method,
            p.1 ∙ ap (λ (n : ℕ). Make n) (one_number _ p.0 q.0 (omega arith) p.2.make q.2.make) ∙ sym q.1,
          )

    one_read : (a b : Command) → IsRead rows a → IsRead rows b → a ≡ b
    one_read a b p q =
        let mode = one_mode a.dir a.entry b.dir b.entry a.mode b.mode p.mode q.mode in
        λ i. record {
          bounds = one_bounds a.bounds b.bounds p.bounds q.bounds i;
          budget = one_number _ a.budget b.budget (omega arith) p.budget q.budget i;
          jobs = one_number _ a.jobs b.jobs (omega arith) p.jobs q.jobs i;
          trace = one_truth a.trace b.trace p.trace q.trace i;
          dir = mode.0 i;
          entry = mode.1 i;
          mode = mode.2 i;
        }

pub one_command_by : OneEntry → OneSite → OneCommand
one_command_by entries sites words a b p q = one_read (matches_of command_line words) entries sites a b p.read q.read
