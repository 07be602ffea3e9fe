-- The bytes of the two switches (JVM Specification SE 8, 6.5: tableswitch, lookupswitch). Offsets count from the pc of
-- the switch's opcode, and the padding brings the default to a pc that is a multiple of 4.
use Rattle.std.specs.Prelude.{ℕ, ℤ, pos, ◌+ℤ◌, ◌-ℤ◌, ◌<ℤ◌, ◌-◌, ◌%◌, ◌≡◌, ◌<◌, ◌^◌, List, ◌∷◌, ◌++◌, length}
use Rattle.std.specs.Int.{w32}
use Rattle.std.specs.Int.RustNames.{FitsSigned}
use Rattle.std.specs.List.{flat_map, All, AllAdjacentBelow}
use Rattle.cf_code.specs.Bytes.{offset, four, signed_four, IsTwo}
use Rattle.cf_code.specs.declared.switch.Case.{Case}
use Rattle.cf_code.specs.declared.switch.TableSwitch.{TableSwitch}
use Rattle.cf_code.specs.declared.switch.LookupSwitch.{LookupSwitch}

-- so many bytes of padding follow the opcode
abbrev pub padding_at : ℕ → ℕ
padding_at pc = 3 - pc % 4

-- the offset of a target
abbrev pub far : ℕ → ℕ → List ℕ
far pc target = signed_four (offset pc target)

-- the key and the offset of a case
abbrev pub pair : ℕ → Case → List ℕ
pair pc c = signed_four c.key ++ far pc c.target

-- the greatest key of a table that begins with a key
abbrev pub high_key : ℤ → List ℕ → ℤ
high_key low targets = low +ℤ pos (length targets) -ℤ pos 1

-- default, low, high, offsets
abbrev pub table_body : ℕ → ℕ → ℤ → List ℕ → List ℕ
table_body pc default low targets =
    far pc default ++ (signed_four low ++ (signed_four (high_key low targets) ++ flat_map (far pc) targets))

-- default, the number of pairs, pairs
abbrev pub lookup_body : ℕ → ℕ → List Case → List ℕ
lookup_body pc default cases = far pc default ++ (four (length cases) ++ flat_map (pair pc) cases)

-- tableswitch
abbrev pub table_spelling : ℕ → TableSwitch → List ℕ
table_spelling pc switch = 170 ∷ switch.padding ++ table_body pc switch.default switch.low switch.targets

-- lookupswitch
abbrev pub lookup_spelling : ℕ → LookupSwitch → List ℕ
lookup_spelling pc switch = 171 ∷ switch.padding ++ lookup_body pc switch.default switch.cases

-- what fits as a case
abbrev pub FitsCase : Case → Type 0
FitsCase c = FitsSigned w32 c.key × IsTwo c.target

-- each key is above the one before
abbrev pub Rise : List Case → Type 0
Rise cases = AllAdjacentBelow (λ a b. a.key <ℤ b.key) cases (length cases)

-- a table has an entry at least
pub record FitsTableBody (default : ℕ) (low : ℤ) (targets : List ℕ) : Type 0 where
  pub is_pc : IsTwo default
  pub low_fits : FitsSigned w32 low
  pub high_fits : FitsSigned w32 (high_key low targets)
  pub some : 0 < length targets
  pub are_pcs : All IsTwo targets

-- the keys rise
pub record FitsLookupBody (default : ℕ) (cases : List Case) : Type 0 where
  pub is_pc : IsTwo default
  pub few : length cases < 2 ^ 32
  pub all_fit : All FitsCase cases
  pub rise : Rise cases

-- what has a spelling at a pc
abbrev pub FitsTable : ℕ → TableSwitch → Type 0
FitsTable pc switch = (length switch.padding ≡ padding_at pc) × FitsTableBody switch.default switch.low switch.targets

-- what has a spelling at a pc
abbrev pub FitsLookup : ℕ → LookupSwitch → Type 0
FitsLookup pc switch = (length switch.padding ≡ padding_at pc) × FitsLookupBody switch.default switch.cases
