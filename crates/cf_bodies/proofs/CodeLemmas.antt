-- Where bytes fail to be code whose instructions have what they need: at their first fault, or at an instruction
-- before it.
use Rattle.std.proofs.Common.{◌≡◌, ℕ, ◌+◌, ◌<◌, ◌≤◌, List, ◌∷◌, length, Contains, refl, sym, subst, ap, ◌∙◌, inl}
use Rattle.std.proofs.Common.{inr, ◌⊎◌, ◌^◌, arith, length-append}
use Rattle.std.proofs.lemmas.Bool.{cases_lt}
use Rattle.std.proofs.lemmas.List.Elements.{Contains-append_left, Contains-append_right}
use Rattle.std.proofs.lemmas.List.Elements.{Contains-append_cases}
use Rattle.jv_list.proofs.FirstLemmas.{all_member}
use Rattle.jv_list.proofs.MemberLemmas.{first_member}
use Rattle.cf_pool.specs.declared.entry.PoolEntry.{PoolEntry}
use Rattle.cf_pool.specs.declared.fault.What.{What}
use Rattle.cf_pool.specs.declared.fault.What.TheVariants as words
use Rattle.cf_code.specs.declared.code.Placed.{Placed}
use Rattle.cf_code.specs.declared.decoding.End.{End}
use Rattle.cf_code.specs.declared.decoding.End.TheVariants.{Whole, BadOpcode, BadTarget}
use Rattle.cf_code.specs.Code.{code_spelling}
use Rattle.cf_code.specs.Decoding.{BeginsWith, EndsAs, HasBadOpcode, HasBadTarget, IsLaid}
use Rattle.cf_code.specs.Laws.{HasItsSize, IsOneBeginning, IsNoCode, IsOneFault, IsCodeDecided}
use Rattle.cf_judge.specs.Words.{rank}
use Rattle.cf_bodies.specs.Needs.{need, IsMet}
use Rattle.cf_bodies.specs.Checks.{check_at, is_code}
use Rattle.cf_bodies.specs.Judged.{Fails}
use Rattle.cf_bodies.specs.Calls.Tells.{IsPassed, IsFailed}
use Rattle.cf_bodies.specs.Calls.Unmet.{AreMet, IsFirstUnmet}
use Rattle.cf_bodies.proofs.LaidLemmas.{laid_behind, laid_from, laid_inside}

-- the words of a fault at the end
abbrev pub EndFails : End → ℕ → What → Type 0
EndFails Whole offset what = ⊥
EndFails (BadOpcode pc) offset what = (what ≡ words.BadOpcode) × (offset ≡ pc)
EndFails (BadTarget pc) offset what = (what ≡ words.BadTarget) × (offset ≡ pc)

-- one of these instructions lacks what it needs
abbrev pub LacksNeed : List PoolEntry → List Placed → ℕ → What → Type 0
LacksNeed pool code offset what = (what ≡ words.BadIndex)
    × ((x : Placed) × Contains code x × (x.pc ≡ offset) × (IsMet pool (need x.instr) → ⊥))

module _ (size : HasItsSize) (beginning : IsOneBeginning) (no : IsNoCode) (one : IsOneFault) (pool : List PoolEntry)
    (bytes : List ℕ) (short : length bytes < 2 ^ 16) (code : List Placed) (begins : BeginsWith bytes code) where
  opcode_case : (end : End) → EndsAs bytes code end → (offset : ℕ) (what : What) → what ≡ words.BadOpcode
      → HasBadOpcode bytes offset
      → EndFails end offset what
  opcode_case Whole ends offset what e bad = absurd (no bytes offset code (inl bad) ends)
  opcode_case (BadOpcode pc) ends offset what e bad = (e, one.opcode bytes offset pc bad ends.0)
  opcode_case (BadTarget pc) ends offset what e bad = absurd (one.both bytes offset pc bad ends.0)

  target_case : (end : End) → EndsAs bytes code end → (offset : ℕ) (what : What) → what ≡ words.BadTarget
      → HasBadTarget bytes offset
      → EndFails end offset what
  target_case Whole ends offset what e bad = absurd (no bytes offset code (inr bad) ends)
  target_case (BadOpcode pc) ends offset what e bad = absurd (one.both bytes pc offset ends.0 bad)
  target_case (BadTarget pc) ends offset what e bad = (e, one.target bytes offset pc bad ends.0)

  pub fail_cases : (end : End) → EndsAs bytes code end → (offset : ℕ) (what : What)
      → Fails pool (is_code bytes) offset what
      → EndFails end offset what ⊎ LacksNeed pool code offset what
  fail_cases end ends offset what (inl h) = inl (opcode_case end ends offset what h.0 h.1)
  fail_cases end ends offset what (inr (inl h)) = inl (target_case end ends offset what h.0 h.1)
  fail_cases end ends offset what (inr (inr h)) =
      let u = h.1 in
      let more = beginning bytes short code end begins ends u.code u.begins in
      let member = subst (λ (xs : List Placed). Contains xs u.placed) (sym more.1)
      (Contains-append_left u.code more.0 u.placed u.is_placed) in
      inr (h.0, (u.placed, member, u.pc_is, u.unmet))

  -- where each instruction has what it needs, none lacks it
  none_lacks : AreMet pool code → (offset : ℕ) (what : What) → LacksNeed pool code offset what → ⊥
  none_lacks met offset what h =
      h.1.3 (all_member (λ (x : Placed). IsMet pool (need x.instr)) code h.1.0 met h.1.1)

  pub whole_passes : (place : ℕ) → AreMet pool code → EndsAs bytes code Whole
      → IsPassed pool (check_at place (is_code bytes))
  whole_passes place met ends offset what fails = elim (fail_cases Whole ends offset what fails) [
    | inl h ↦ h
    | inr h ↦ none_lacks met offset what h
  ]

  end_fails : (end : End) → EndsAs bytes code end → (place pc : ℕ) (word : What)
      → Fails pool (is_code bytes) pc word
      → AreMet pool code
      → ((offset : ℕ) (what : What) → EndFails end offset what → (what ≡ word) × (offset ≡ pc))
      → IsFailed pool (check_at place (is_code bytes)) (record { place = place + pc; what = word })
  end_fails end ends place pc word fails met only = record {
    offset = pc;
    place_is = refl;
    fails = fails;
    first = λ other what f. elim (fail_cases end ends other what f) [
      | inl h ↦ let k = only other what h in inr (sym k.1, omega (arith, ap rank k.0))
      | inr h ↦ absurd (none_lacks met other what h)
    ];
  }

  pub opcode_fails : (place pc : ℕ) → AreMet pool code → EndsAs bytes code (BadOpcode pc)
      → IsFailed pool (check_at place (is_code bytes)) (record { place = place + pc; what = words.BadOpcode })
  opcode_fails place pc met ends =
      end_fails (BadOpcode pc) ends place pc words.BadOpcode (inl (refl, ends.0)) met (λ offset what h. h)

  pub target_fails : (place pc : ℕ) → AreMet pool code → EndsAs bytes code (BadTarget pc)
      → IsFailed pool (check_at place (is_code bytes)) (record { place = place + pc; what = words.BadTarget })
  target_fails place pc met ends =
      end_fails (BadTarget pc) ends place pc words.BadTarget (inr (inl (refl, ends.0))) met (λ offset what h. h)

  -- the end is behind each instruction
  before_end : (end : End) → EndsAs bytes code end → (x : Placed) → Contains code x → (offset : ℕ) (what : What)
      → EndFails end offset what
      → x.pc < offset
  before_end Whole ends x member offset what h = absurd h
  before_end (BadOpcode pc) ends x member offset what h =
      let lt = laid_inside size 0 code begins.laid begins.fit x member in
      omega (arith, lt, ends.1, h.1)
  before_end (BadTarget pc) ends x member offset what h =
      let lt = laid_inside size 0 code begins.laid begins.fit x member in
      omega (arith, lt, ends.1, h.1)

  -- the first that lacks something fails first
  module _ (end : End) (ends : EndsAs bytes code end) (pc : ℕ) (u : IsFirstUnmet pool code pc) where
    stands : Contains code u.placed
    stands =
        subst (λ (xs : List Placed). Contains xs u.placed) (sym u.parts)
        (Contains-append_right u.before (u.placed ∷ u.after) u.placed (first_member u.placed u.after))

    pub unmet_inside : pc < length bytes
    unmet_inside =
        let lt = laid_inside size 0 code begins.laid begins.fit u.placed stands in
        omega (arith, lt, u.pc_is, ap length begins.parts, length-append (code_spelling code) begins.rest)

    not_before : (offset : ℕ) (what : What) → LacksNeed pool code offset what → pc ≤ offset
    not_before offset what h =
        let member = subst (λ (xs : List Placed). Contains xs h.1.0) u.parts h.1.1 in
        elim (Contains-append_cases u.before (u.placed ∷ u.after) h.1.0 member) [
          | inl early ↦
              absurd (h.1.3 (all_member (λ (x : Placed). IsMet pool (need x.instr)) u.before h.1.0 u.met early))
          | inr later ↦
              let laid = laid_from 0 u.before u.placed u.after (subst (IsLaid 0) u.parts begins.laid) in
              let le = laid_behind u.placed.pc (u.placed ∷ u.after) laid h.1.0 later in
              omega (arith, le, u.pc_is, h.1.2)
        ]

    pub unmet_fails : (place : ℕ)
        → IsFailed pool (check_at place (is_code bytes)) (record { place = place + pc; what = words.BadIndex })
    unmet_fails place = record {
      offset = pc;
      place_is = refl;
      fails = inr (inr (
        refl,
        record {
          code = code;
          placed = u.placed;
          begins = begins;
          is_placed = stands;
          pc_is = sym u.pc_is;
          unmet = u.unmet;
        },
      ));
      first = λ other what f. elim (fail_cases end ends other what f) [
        | inl h ↦ let lt = before_end end ends u.placed stands other what h in inl (omega (arith, lt, u.pc_is))
        | inr h ↦
            let le = not_before other what h in
            elim (cases_lt pc other) [
              | inl lt ↦ inl lt
              | inr ge ↦ inr (omega (arith, le, ge), omega (arith, ap rank h.0))
            ]
      ];
    }

  at_end : (end : End) → EndsAs bytes code end → (offset : ℕ) (what : What) → EndFails end offset what
      → offset ≡ length (code_spelling code)
  at_end Whole ends offset what h = absurd h
  at_end (BadOpcode pc) ends offset what h = h.1 ∙ ends.1
  at_end (BadTarget pc) ends offset what h = h.1 ∙ ends.1

  pub fails_inside : (end : End) → EndsAs bytes code end → (offset : ℕ) (what : What)
      → Fails pool (is_code bytes) offset what
      → offset ≤ length bytes
  fails_inside end ends offset what f =
      let whole = length-append (code_spelling code) begins.rest in
      elim (fail_cases end ends offset what f) [
        | inl h ↦ omega (arith, at_end end ends offset what h, ap length begins.parts, whole)
        | inr h ↦
            let lt = laid_inside size 0 code begins.laid begins.fit h.1.0 h.1.1 in
            omega (arith, lt, h.1.2, ap length begins.parts, whole)
      ]

-- what fails of bytes fails among them, or at their end
pub inside_bytes : HasItsSize → IsOneBeginning → IsNoCode → IsOneFault → IsCodeDecided → (pool : List PoolEntry)
    → (bytes : List ℕ) → length bytes < 2 ^ 16
    → (offset : ℕ) (what : What)
    → Fails pool (is_code bytes) offset what
    → offset ≤ length bytes
inside_bytes size beginning none one decided pool bytes short offset what f =
    let d = decided bytes short in
    fails_inside size beginning none one pool bytes short d.0 d.2 d.1 d.3 offset what f
