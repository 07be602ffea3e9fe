-- The instructions that bytes begin with are found, and how they end.
use Rattle.std.proofs.Common.{◌≡◌, ℕ, zero, suc, ◌+◌, ◌≤◌, ◌<◌, ◌^◌, List, [], ◌∷◌, ◌++◌, length, take, drop, get_or}
use Rattle.std.proofs.Common.{refl, sym, ap, subst, ◌∙◌, inl, inr, ◌⊎◌, arith}
use Rattle.std.specs.Prelude.{Contains}
use Rattle.cf_code.specs.Decoding.{HasTargets, FallsInto, HasStarts, IsGood, BeginsWith, EndsAs}
use Rattle.cf_code.specs.Instr.{spelling, Fits, IsInstr}
use Rattle.cf_code.specs.Laws.{IsCodeDecided}
use Rattle.cf_code.specs.Sizes.{HasSize}
use Rattle.cf_code.specs.Steps.Starts.{IsOnlyInstr}
use Rattle.cf_code.specs.Targets.{targets}
use Rattle.cf_code.specs.declared.code.Placed.{Placed}
use Rattle.cf_code.specs.declared.decoding.End.{End}
use Rattle.cf_code.specs.declared.decoding.End.TheVariants.{Whole, BadOpcode, BadTarget}
use Rattle.cf_code.specs.declared.instr.Instr.{Instr}
use Rattle.cf_code.specs.declared.instr.Instr.TheVariants.{Table, Lookup}
use Rattle.cf_code.specs.declared.switch.TableSwitch.{TableSwitch}
use Rattle.cf_code.specs.declared.switch.LookupSwitch.{LookupSwitch}
use Rattle.cf_code.proofs.FitLemmas.{instr_fits}
use Rattle.cf_code.proofs.InstrLemmas.{plain_back, one_found}
use Rattle.jv_list.proofs.DecidedLemmas.{Decided, both, below, lists, member, each}
use Rattle.cf_code.proofs.OpcodeLemmas.{read}
use Rattle.cf_code.proofs.PlaceLemmas.{Places, places_step, begins_at, ends_at, begins_all, ends_inside, ends_whole}
use Rattle.cf_code.proofs.SizeFoundLemmas.{size_found}
use Rattle.cf_code.proofs.SizeLemmas.{one_size, size_inside}
use Rattle.cf_code.proofs.StartLemmas.{Ends, start_inside}
use Rattle.cf_code.proofs.SwitchBackLemmas.{table, lookup, table_back, lookup_back}

-- ---- one instruction

-- the bytes are an instruction at a pc, or are none
abbrev FoundInstr : ℕ → List ℕ → Type 0
FoundInstr pc bytes = ((i : Instr) × IsInstr pc bytes i) ⊎ ((i : Instr) → IsInstr pc bytes i → ⊥)

module _ (pc : ℕ) (short : pc < 2 ^ 16) (bytes : List ℕ) where
  is_instr : (i : Instr) → Decided (IsInstr pc bytes i)
  is_instr i = both (bytes ≡ spelling pc i) (Fits pc i) (lists bytes (spelling pc i)) (instr_fits pc i)

  -- the plain instruction, and the switches, that the bytes can be
  abbrev plain : Instr
  plain = read pc bytes

  abbrev as_table : Instr
  as_table = Table (table pc (drop 1 bytes))

  abbrev as_lookup : Instr
  as_lookup = Lookup (lookup pc (drop 1 bytes))

  -- they are nothing else
  nothing_else : (IsInstr pc bytes plain → ⊥) → (IsInstr pc bytes as_table → ⊥) → (IsInstr pc bytes as_lookup → ⊥)
      → (i : Instr) → IsInstr pc bytes i → ⊥
  nothing_else a b c (Table s) is =
      let back = ap (λ (bs : List ℕ). Table (table pc (drop 1 bs))) is.0
      ∙ ap (λ (t : TableSwitch). Table t) (table_back pc (omega (arith, short)) s is.1) in
      b (subst (λ (i : Instr). IsInstr pc bytes i) (sym back) is)
  nothing_else a b c (Lookup s) is =
      let back = ap (λ (bs : List ℕ). Lookup (lookup pc (drop 1 bs))) is.0
      ∙ ap (λ (t : LookupSwitch). Lookup t) (lookup_back pc (omega (arith, short)) s is.1) in
      c (subst (λ (i : Instr). IsInstr pc bytes i) (sym back) is)
  nothing_else a b c i is =
      let back = ap (λ (bs : List ℕ). read pc bs) is.0 ∙ plain_back pc i (omega (arith, short)) tt is.1 in
      a (subst (λ (i : Instr). IsInstr pc bytes i) (sym back) is)

  instr_found : FoundInstr pc bytes
  instr_found =
      elim (is_instr plain) [
        | inl is ↦ inl (plain, is)
        | inr a ↦ elim (is_instr as_table) [
          | inl is ↦ inl (as_table, is)
          | inr b ↦ elim (is_instr as_lookup) [
            | inl is ↦ inl (as_lookup, is)
            | inr c ↦ inr (nothing_else a b c)
          ]
        ]
      ]

-- ---- what stands at a start

module _ (bytes starts : List ℕ) where
  have_targets : (i : Instr) → Decided (HasTargets starts i)
  have_targets i = each (λ target. Contains starts target) (member starts) (targets i)

  module _ (pc : ℕ) (short : pc < 2 ^ 16) where
    by_targets : (size : ℕ) (i : Instr) → HasSize pc (drop pc bytes) size → IsInstr pc (take size (drop pc bytes)) i
        → Decided (HasTargets starts i) → Decided (IsGood bytes starts pc)
    by_targets size i has is (inl targets) = inl (size, i, has, is, targets)
    by_targets size i has is (inr none) =
        inr (λ good.
        let same = one_size pc (drop pc bytes) good.0 size good.2 has in
        let there = subst (λ (n : ℕ). IsInstr pc (take n (drop pc bytes)) good.1) same good.3 in
        let one = one_found pc (take size (drop pc bytes)) good.1 i short there is in
        none (subst (λ (j : Instr). HasTargets starts j) one good.4))

    by_instr : (size : ℕ) → HasSize pc (drop pc bytes) size
        → FoundInstr pc (take size (drop pc bytes)) → Decided (IsGood bytes starts pc)
    by_instr size has (inl f) = by_targets size f.0 has f.1 (have_targets f.0)
    by_instr size has (inr none) =
        inr (λ good.
        let same = one_size pc (drop pc bytes) good.0 size good.2 has in
        none good.1 (subst (λ (n : ℕ). IsInstr pc (take n (drop pc bytes)) good.1) same good.3))

    good_found : Decided (IsGood bytes starts pc)
    good_found =
        elim (size_found pc (drop pc bytes)) [
          | inl f ↦ by_instr f.0 f.1 (instr_found pc short (take f.0 (drop pc bytes)))
          | inr none ↦ inr (λ good. none good.0 good.2)
        ]

  -- a good start has one instruction
  only_good : (pc : ℕ) → (good : IsGood bytes starts pc) → IsOnlyInstr starts pc (drop pc bytes) good.1
  only_good pc good = record {
    size = good.0;
    has = good.2;
    only = λ n h. one_size pc (drop pc bytes) n good.0 h good.2;
    is = good.3;
    has_targets = good.4;
  }

-- ---- the starts

module _ (bytes : List ℕ) where
  -- from a pc on
  abbrev Starts : ℕ → Type 0
  Starts pc = (starts : List ℕ) × (stop : ℕ) × FallsInto bytes pc starts stop × (stop ≤ length bytes) × Ends bytes stop

  starts_found : (left pc : ℕ) → pc ≤ length bytes → length bytes ≤ pc + left → Starts pc
  starts_found zero pc le more = ([], pc, refl, le, inl (omega (arith, le, more)))
  starts_found (suc left) pc le more =
      elim (size_found pc (drop pc bytes)) as (λ f. Starts pc) [
        | inl f ↦
            let inside = size_inside bytes pc f.0 f.1 in
            let rest = starts_found left (pc + f.0) inside.1 (omega (arith, inside.0, more)) in
            (pc ∷ rest.0, rest.1, (refl, (f.0, f.1, rest.2)), rest.3, rest.4)
        | inr none ↦ ([], pc, refl, le, inr none)
      ]

  all_starts : (starts : List ℕ) × (stop : ℕ) × HasStarts bytes starts stop
  all_starts =
      let f = starts_found (length bytes) 0 (omega arith) (omega arith) in
      (f.0, f.1, record { falls = f.2; within = f.3; ends = f.4 })

-- ---- the instructions at the starts

-- the instructions that bytes begin with, and how they end
abbrev Walked : List ℕ → Type 0
Walked bytes = (code : List Placed) × (end : End) × BeginsWith bytes code × EndsAs bytes code end

module _ (bytes starts : List ℕ) (stop : ℕ) (has : HasStarts bytes starts stop) (short : length bytes < 2 ^ 16) where
  -- no start is left
  walked_all : (k : ℕ) (ps : List Placed) → length starts ≤ k → Places bytes starts (take k starts) ps → Walked bytes
  walked_all k ps past h =
      let read = begins_all bytes starts stop ps has ps refl k h past in
      elim (below stop (length bytes)) [
        | inl inside ↦ (ps, BadOpcode stop, read, ends_inside bytes starts stop ps has ps refl k h past inside)
        | inr beyond ↦ (ps, Whole, read, ends_whole bytes starts stop ps has ps refl k h past (omega (arith, beyond)))
      ]

  -- some starts are left
  walked_from : (left k : ℕ) (ps : List Placed) → k + left ≡ length starts → Places bytes starts (take k starts) ps
      → Walked bytes
  walked_from zero k ps is h = walked_all k ps (omega (arith, is)) h
  walked_from (suc left) k ps is h =
      let at = get_or starts k 0 in
      let lt : k < length starts = omega (arith, is) in
      let there = start_inside bytes starts stop k 0 has lt in
      elim (good_found bytes starts at (omega (arith, short, there))) as (λ g. Walked bytes) [
        | inl good ↦
            let p : Placed = record { pc = at; instr = good.1 } in
            let only = only_good bytes starts at good in
            walked_from left (k + 1) (ps ++ p ∷ []) (omega (arith, is))
            (places_step bytes starts k ps (ps ++ p ∷ []) p lt h refl only refl)
        | inr bad ↦
            let read = begins_at bytes starts stop ps has ps refl k h lt in
            (ps, BadTarget at, read, ends_at bytes starts stop ps has ps refl k h lt bad)
      ]

pub code_decided : IsCodeDecided
code_decided bytes short =
    let s = all_starts bytes in
    walked_from bytes s.0 s.1 s.2 short (length s.0) 0 [] (omega arith) tt
