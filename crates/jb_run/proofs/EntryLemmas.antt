-- At the entry, the one frame that waits shows the run's first state.
use Rattle.cf_thin.specs.Instr.{Places}
use Rattle.std.proofs.Common.{◌≡◌, ◌<◌, ◌≤◌, ◌+◌, ◌-◌, inl, inr, ℕ, zero, suc, ℤ, Bool, true, false, List, [], ◌∷◌}
use Rattle.std.proofs.Common.{◌++◌, length, map, replicate, Option, Some, None, refl, sym, ap, ◌∙◌, subst, arith, ◌↔◌}
use Rattle.std.proofs.Common.{length-append, All}
use Rattle.std.specs.Prelude.{slice_get, IsTrue, FitsSigned, ◌==◌}
use Rattle.std.specs.Int.{IsBitSet, cast_unsigned, w32}
use Rattle.std.specs.Int as int
use Rattle.std.specs.List.{list_all}
use Rattle.std.proofs.lemmas.Bool.{cases_lt, eqb-true, eq-eqb}
use Rattle.std.proofs.lemmas.List.Elements.{All-pop}
use Rattle.std.proofs.lemmas.Nat.{bit_set_by_shift}
use Rattle.std.proofs.lemmas.Nat.Bits.{shr_and_one}
use Rattle.std.proofs.lemmas.List.{get_or_past, get_or-replicate, length-replicate}
use Rattle.jv_base.specs.declared.value.Value.TheVariants.{Int}
use Rattle.cf_thin.specs.declared.shape.Limits.{Limits}
use Rattle.cf_thin.specs.declared.shape.OperandType as kind
use Rattle.cf_thin.specs.ThinCode.{Shapes, IsLed, MeetsRules}
use Rattle.cf_thin.specs.Laws.{GoForward, WeakerOrder}
use Rattle.jb_run.specs.declared.formula.Formula.{Formula}
use Rattle.jb_run.specs.declared.gates.Bit.{Bit}
use Rattle.jb_run.specs.declared.gates.Bit.TheVariants.{Known}
use Rattle.jb_run.specs.declared.int_bits.IntBits.{IntBits}
use Rattle.jb_run.specs.declared.frame.Frame.{Frame}
use Rattle.jb_run.specs.declared.frame.Operand.{Operand}
use Rattle.jb_run.specs.declared.encoder.Encoder.{Encoder}
use Rattle.jb_run.specs.Clauses.{clauses_of}
use Rattle.jb_run.specs.Gate.{bit_of, Extends, IsFreshInt}
use Rattle.jb_run.specs.Locals.{local_at}
use Rattle.jb_run.specs.Machine.{start}
use Rattle.jb_run.specs.Satisfies.{bit_value, clause_holds, Satisfies, IsBitBelow, AreClausesBelow}
use Rattle.jb_run.specs.Encoder.{Here, pending_at, raised_at, guard_of, IsFormed, Arrives, IsEmpty, HasInputs}
use Rattle.jb_run.specs.Encoder.{IsEncoded}
use Rattle.jb_run.specs.Shown.{ShowsInt, ShowInts, ShowStack, ShowsFrame, IsIntBelow, AreIntsBelow, AreOfKinds}
use Rattle.jb_run.specs.Shown.{IsFrameOf}
use Rattle.jb_run.proofs.GrowthLemmas.{word_later}
use Rattle.jb_run.proofs.ShownIntLemmas.{ints_agree}
use Rattle.jb_run.proofs.MachineLemmas.{after_none}
use Rattle.jb_run.proofs.PendingLemmas.{pending_is}
use Rattle.jb_run.proofs.ShapeLemmas.{shape_within}
use Rattle.jv_list.proofs.CutLemmas.{split_last}
use Rattle.jv_list.proofs.PlaceLemmas.{slice_get-two_runs}
use Rattle.std.proofs.lemmas.Bool.{true≢false}

-- an encoder of code where nothing waits
pub record IsBlank (long : ℕ) (formula : Formula) (encoder : Encoder) : Type 0 where
  pub formula_is : encoder.formula ≡ formula
  pub pending : encoder.pending.items ≡ replicate long None
  pub raised : encoder.raised.items ≡ replicate long (Known false)

-- the frame at the entry
pub record IsFirst (inputs : List IntBits) (frame : Frame) : Type 0 where
  pub guard : frame.guard ≡ Known true
  pub locals : frame.locals ≡ map Some inputs
  pub stack : frame.stack ≡ []

none_waits : (long pc : ℕ) → pending_at (replicate long None) pc ≡ None
none_waits long pc =
    pending_is (replicate long None) pc
    ∙ elim (cases_lt pc long) [
      | inl within ↦ get_or-replicate long pc None None within
      | inr past ↦
          get_or_past (replicate long None) pc None (omega (arith, past, length-replicate {A = Option Frame} long None))
    ]

none_raised : (long pc : ℕ) → raised_at (replicate long (Known false)) pc ≡ Known false
none_raised long pc =
    elim (cases_lt pc long) [
      | inl within ↦ get_or-replicate long pc (Known false) (Known false) within
      | inr past ↦
          get_or_past (replicate long (Known false)) pc (Known false)
          (omega (arith, past, length-replicate long (Known false)))
    ]

blank_waits : (long : ℕ) (formula : Formula) (encoder : Encoder) → IsBlank long formula encoder → (pc : ℕ)
    → pending_at encoder.pending.items pc ≡ None
blank_waits long formula encoder blank pc = ap (λ (p : List (Option Frame)). pending_at p pc) blank.pending
    ∙ none_waits long pc

blank_raised : (long : ℕ) (formula : Formula) (encoder : Encoder) → IsBlank long formula encoder → (pc : ℕ)
    → raised_at encoder.raised.items pc ≡ Known false
blank_raised long formula encoder blank pc = ap (λ (r : List Bit). raised_at r pc) blank.raised ∙ none_raised long pc

blank_long : (long : ℕ) (formula : Formula) (encoder : Encoder) → IsBlank long formula encoder
    → (length encoder.pending.items ≡ long) × (length encoder.raised.items ≡ long)
blank_long long formula encoder blank = (
  ap (λ (p : List (Option Frame)). length p) blank.pending ∙ length-replicate long None,
  ap (λ (r : List Bit). length r) blank.raised ∙ length-replicate long (Known false),
)

blank_formed : GoForward → (code : Places) (limits : Limits) (shapes : Shapes) (formula : Formula) (encoder : Encoder)
    → MeetsRules code limits shapes → AreClausesBelow formula.variables (clauses_of formula)
    → IsBlank (length code) formula encoder → IsFormed shapes encoder
blank_formed forward code limits shapes formula encoder rules named blank =
    let long = blank_long (length code) formula encoder blank in
    record {
      clauses = subst (λ (f : Formula). AreClausesBelow f.variables (clauses_of f)) (sym blank.formula_is) named;
      within = λ pc shape is. omega (arith, long.0, shape_within forward code limits shapes rules pc shape is);
      same = long.1 ∙ sym long.0;
      frames = λ pc frame found. (let none = blank_waits (length code) formula encoder blank pc in absurd cc);
      raised = λ pc. subst (IsBitBelow encoder.formula.variables)
          (sym (blank_raised (length code) formula encoder blank pc)) tt;
    }

entry_led : WeakerOrder → (code : Places) (limits : Limits) (shapes : Shapes) → (rules : MeetsRules code limits shapes)
    → IsLed shapes rules.entry.0 0
entry_led order code limits shapes rules = (rules.entry.0, rules.entry.1, order.same rules.entry.0)

-- each of the first locals holds an input
input_at : (inputs : List IntBits) (k : ℕ) → k < length inputs
    → (word : IntBits) × (local_at (map Some inputs) k ≡ Some word)
input_at [] k within = absurd (omega (arith, within))
input_at (word ∷ words) zero within = (word, refl)
input_at (word ∷ words) (suc k) within = input_at words k (omega (arith, within))

inputs_below : (n : ℕ) (inputs : List IntBits) → AreIntsBelow n inputs → (k : ℕ) (word : IntBits)
    → local_at (map Some inputs) k ≡ Some word → IsIntBelow n word
inputs_below n [] below k word is = absurd cc
inputs_below n (w ∷ words) below zero word is = (let same : w ≡ word = cc in subst (IsIntBelow n) same below.0)
inputs_below n (w ∷ words) below (suc k) word is = inputs_below n words below.1 k word is

first_is : (code : Places) (limits : Limits) (shapes : Shapes) (n : ℕ) (inputs : List IntBits) (frame : Frame)
    → (rules : MeetsRules code limits shapes) → length inputs ≡ limits.params → AreIntsBelow n inputs
    → IsFirst inputs frame → IsFrameOf n rules.entry.0 frame
first_is code limits shapes n inputs frame rules number below first = record {
  guard = subst (IsBitBelow n) (sym first.guard) tt;
  known = λ k is.
      let within =
      slice_get-two_runs limits.params (limits.max_locals - limits.params) true false k true≢false
      (ap (λ (l : List Bool). slice_get l k) (sym rules.entry.2) ∙ is) in
      subst (λ (l : List (Option IntBits)). (word : IntBits) × (local_at l k ≡ Some word)) (sym first.locals)
      (input_at inputs k (omega (arith, within, number)));
  locals = λ k word is. inputs_below n inputs below k word
      (ap (λ (l : List (Option IntBits)). local_at l k) (sym first.locals) ∙ is);
  stack = subst (AreOfKinds n rules.entry.0.stack) (sym first.stack)
      (subst (λ (kinds : List kind.OperandType). AreOfKinds n kinds []) (sym rules.entry.3) tt);
}

-- the first locals show the ints
inputs_show : (a : ℕ → Bool) (inputs : List IntBits) (ints : List ℤ) → ShowInts a inputs ints → (k : ℕ) (word : IntBits)
    → local_at (map Some inputs) k ≡ Some word → (n : ℤ) × (local_at (map (λ i. Some (Int i)) ints) k ≡ Some (Int n))
    × ShowsInt a word n
inputs_show a [] ints shows k word is = absurd cc
inputs_show a (w ∷ words) [] shows k word is = absurd shows
inputs_show a (w ∷ words) (n ∷ ints) shows zero word is =
    (n, refl, (let same : w ≡ word = cc in subst (λ (x : IntBits). ShowsInt a x n) same shows.0))
inputs_show a (w ∷ words) (n ∷ ints) shows (suc k) word is = inputs_show a words ints shows.1 k word is

first_shows : (a : ℕ → Bool) (inputs : List IntBits) (ints : List ℤ) (frame : Frame) → IsFirst inputs frame
    → ShowInts a inputs ints → ShowsFrame a frame (start ints)
first_shows a inputs ints frame first shows = record {
  locals = λ k word is. inputs_show a inputs ints shows k word
      (ap (λ (l : List (Option IntBits)). local_at l k) (sym first.locals) ∙ is);
  stack = subst (λ (s : List Operand). ShowStack a s []) (sym first.stack) tt;
}

-- the frame at the entry has arrived, and nothing is encoded yet
pub begun : GoForward → WeakerOrder → (code : Places) (limits : Limits) (shapes : Shapes) (formula : Formula)
    (inputs : List IntBits) (frame : Frame) (old new : Encoder) → MeetsRules code limits shapes
    → HasInputs limits.params formula inputs → IsFirst inputs frame → IsBlank (length code) formula old
    → Arrives old new 0 frame → IsEncoded code shapes formula inputs 0 new
begun forward order code limits shapes formula inputs frame old new rules has first blank arrives =
    let formed = blank_formed forward code limits shapes formula old rules has.clauses blank in
    let below : AreIntsBelow old.formula.variables inputs =
    subst (λ (f : Formula). AreIntsBelow f.variables inputs) (sym blank.formula_is) has.within in
    let frame_is = first_is code limits shapes old.formula.variables inputs frame rules has.number below first in
    let goes = arrives shapes rules.entry.0 0 (record { formed = formed; frame_is = frame_is })
    (entry_led order code limits shapes rules) (omega arith) in
    record {
      formed = goes.formed;
      extends = subst (λ (f : Formula). Extends f new.formula) blank.formula_is goes.extends;
      done = λ at under. absurd (omega (arith, under));
      quiet = λ at above. goes.raised at above ∙ blank_raised (length code) formula old blank at;
      runs = λ a holds ints shows. (
        Here (start ints),
        goes.goes a holds (ap (bit_value a) first.guard) (
          (λ at. ap (guard_of a) (blank_waits (length code) formula old blank at)),
          (λ at. ap (bit_value a) (blank_raised (length code) formula old blank at)),
        ) (start ints)
            (first_shows a inputs ints frame first shows),
        (0, after_none code (start ints)),
      );
    }

none_given : (a : ℕ → Bool) (ints : List ℤ) → length ints ≡ 0 → ShowInts a [] ints
none_given a [] number = tt
none_given a (n ∷ ints) number = absurd (omega (arith, number))

has_none : (formula : Formula) (ints : List ℤ) → IsEmpty formula → length ints ≡ 0
    → (a : ℕ → Bool) × Satisfies a formula × ShowInts a [] ints
has_none formula ints empty number =
    let a : ℕ → Bool = λ v. false in
    (a, ap (list_all (clause_holds a)) empty.clauses, none_given a ints number)

-- no input yet
pub no_input : (formula : Formula) → IsEmpty formula → HasInputs 0 formula []
no_input formula empty = record {
  number = refl;
  clauses = subst (AreClausesBelow formula.variables) (sym empty.clauses) tt;
  within = tt;
  has = λ ints number fit. has_none formula ints empty number;
}

words_below_more : (n m : ℕ) (words : List IntBits) → n ≤ m → AreIntsBelow n words → AreIntsBelow m words
words_below_more n m [] le below = tt
words_below_more n m (word ∷ words) le below = (word_later n m word le below.0, words_below_more n m words le below.1)

words_below_append : (n : ℕ) (words : List IntBits) (word : IntBits) → AreIntsBelow n words → IsIntBelow n word
    → AreIntsBelow n (words ++ word ∷ [])
words_below_append n [] word below here = (here, tt)
words_below_append n (w ∷ words) word below here = (below.0, words_below_append n words word below.1 here)

shown_append : (a : ℕ → Bool) (words : List IntBits) (word : IntBits) (ints : List ℤ) (n : ℤ) → ShowInts a words ints
    → ShowsInt a word n → ShowInts a (words ++ word ∷ []) (ints ++ n ∷ [])
shown_append a [] word [] n shows here = (here, tt)
shown_append a (w ∷ words) word (m ∷ ints) n shows here = (shows.0, shown_append a words word ints n shows.1 here)
shown_append a [] word (m ∷ ints) n shows here = absurd shows
shown_append a (w ∷ words) word [] n shows here = absurd shows

-- whether a bit of a number is set
abbrev is_set : ℕ → ℕ → Bool
is_set n k = int.bit_at n k == 1

set_is : (value : Bool) (n k : ℕ) → value ≡ is_set n k → IsTrue value ↔ IsBitSet n k
set_is value n k is = (
  λ on. (bit_set_by_shift n k).0 (shr_and_one n k ∙ eqb-true (int.bit_at n k) 1 (sym is ∙ on)),
  λ set. is ∙ eq-eqb (int.bit_at n k) 1 (sym (shr_and_one n k) ∙ (bit_set_by_shift n k).1 set),
)

-- an assignment shows one more int at a fresh word
more_shown : (params : ℕ) (old new : Formula) (inputs : List IntBits) (word : IntBits) → HasInputs params old inputs
    → IsFreshInt old new word → (ints : List ℤ) → length ints ≡ params + 1 → All (FitsSigned w32) ints
    → (b : ℕ → Bool) × Satisfies b new × ShowInts b (inputs ++ word ∷ []) ints
more_shown params old new inputs word has fresh ints number fit =
    let parts = split_last params ints number in
    let fits = All-pop (FitsSigned w32) ints parts.0 (Some parts.1) parts.2 fit in
    let count : length parts.0 ≡ params =
    omega (arith, number, ap (λ (l : List ℤ). length l) parts.2, length-append parts.0 (parts.1 ∷ [])) in
    let a = has.has parts.0 count fits.0 in
    let b = fresh.extends a.0 a.1 (is_set (cast_unsigned w32 parts.1)) in
    let older = ints_agree old.variables a.0 b.0 inputs parts.0 b.1.agrees has.within a.2 in
    let here : ShowsInt b.0 word parts.1 =
    record {
      bits = λ k inside. set_is (bit_of b.0 word k) (cast_unsigned w32 parts.1) k (b.2 k inside);
      fits = fits.1;
    } in (
      b.0,
      b.1.satisfies,
      subst (ShowInts b.0 (inputs ++ word ∷ [])) (sym parts.2)
          (shown_append b.0 inputs word parts.0 parts.1 older here),
    )

-- one input more
pub one_input_more : (params : ℕ) (old new : Formula) (inputs : List IntBits) (word : IntBits)
    → HasInputs params old inputs → IsFreshInt old new word → HasInputs (params + 1) new (inputs ++ word ∷ [])
one_input_more params old new inputs word has fresh = record {
  number = length-append inputs (word ∷ []) ∙ ap (λ (n : ℕ). n + 1) has.number;
  clauses = fresh.named;
  within = words_below_append new.variables inputs word
      (words_below_more old.variables new.variables inputs fresh.grows has.within) fresh.within;
  has = more_shown params old new inputs word has fresh;
}
