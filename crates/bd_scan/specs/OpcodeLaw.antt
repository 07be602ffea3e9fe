-- The list of the opcodes that are not supported (JVM Specification SE 8, 6.5), and that an instruction is refused by
-- the opcode of its bytes exactly where that is one of them.
use Rattle.std.specs.Prelude.{◌≡◌, ℕ, Bool, ◌==◌, ◌&&◌, nat_le, List, [], ◌∷◌, Option, Some, None, if◌then◌else◌}
use Rattle.std.specs.List.{list_any}
use Rattle.cf_code.specs.declared.instr.Instr.{Instr}
use Rattle.cf_code.specs.Instr.{spelling, Fits}
use Rattle.bd_scan.specs.Opcodes.{unsupported_opcode}

abbrev pub first_byte : List ℕ → ℕ
first_byte [] = 0
first_byte (b ∷ bs) = b

-- the opcode that the bytes of an instruction begin with; behind `wide`, whose opcode is 196, the one that it widens
abbrev pub opcode_of_bytes : List ℕ → ℕ
opcode_of_bytes [] = 0
opcode_of_bytes (b ∷ bs) = if b == 196 then first_byte bs else b

-- the opcodes that are not supported, from one to another each
abbrev pub unsupported_opcodes : List (ℕ × ℕ)
unsupported_opcodes =
    (11, 15) ∷ (23, 24) ∷ (34, 41) ∷ (48, 49) ∷ (56, 57) ∷ (67, 74) ∷ (81, 82) ∷ (98, 99) ∷ (102, 103) ∷ (106, 107)
    ∷ (110, 111) ∷ (114, 115) ∷ (118, 119) ∷ (134, 135) ∷ (137, 144) ∷ (149, 152) ∷ (168, 169) ∷ (174, 175)
    ∷ (186, 186) ∷ (194, 195) ∷ (197, 197) ∷ (201, 201) ∷ []

abbrev pub is_unsupported : ℕ → Bool
is_unsupported opcode = list_any (λ range. nat_le range.0 opcode && nat_le opcode range.1) unsupported_opcodes

abbrev pub if_unsupported : ℕ → Option ℕ
if_unsupported opcode = if is_unsupported opcode then Some opcode else None

-- the opcode for which an instruction is refused is that of its bytes, where that is not supported
abbrev pub RefusedOpcodes : Type 0
RefusedOpcodes =
    (pc : ℕ) (instr : Instr) → Fits pc instr
    → unsupported_opcode instr ≡ if_unsupported (opcode_of_bytes (spelling pc instr))
