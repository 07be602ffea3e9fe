-- How many bytes an instruction has, by its opcode and the operands that tell it (JVM Specification SE 8, 6.5): also where
-- its targets or its keys are no good.
use Rattle.std.specs.Prelude.{ℕ, ℤ, pos, ◌+◌, ◌*◌, ◌^◌, ◌≡◌, ◌≢◌, ◌⊎◌, ◌≤◌, ◌<◌, ◌==◌, ◌||◌, ◌≤ℤ◌, ◌<ℤ◌, ◌+ℤ◌, ◌-ℤ◌, nat_le, Bool, if◌then◌else◌, List, [], ◌∷◌, ◌++◌, length, Option, Some, None}
use Rattle.std.specs.Int.{w32, is_in_range}
use Rattle.std.specs.Int.RustNames.{FitsSigned}
use Rattle.cf_code.specs.Bytes.{four, signed_four}
use Rattle.cf_code.specs.Switches.{padding_at}

-- the opcodes with a byte of operands: bipush, ldc, loads, stores, ret, newarray
abbrev pub has_one : ℕ → Bool
has_one n = (n == 16) || (n == 18) || is_in_range 21 25 n || is_in_range 54 58 n || (n == 169) || (n == 188)

-- the opcodes with two: sipush, ldc_w, ldc2_w, iinc, the near jumps, and an index of the constant pool
abbrev pub has_two : ℕ → Bool
has_two n = (n == 17) || is_in_range 19 20 n || (n == 132) || is_in_range 153 168 n || is_in_range 178 184 n || (n == 187) || (n == 189) || is_in_range 192 193 n || is_in_range 198 199 n

-- the opcodes with four: invokeinterface, invokedynamic, goto_w, jsr_w
abbrev pub has_four : ℕ → Bool
has_four n = is_in_range 185 186 n || is_in_range 200 201 n

-- the size of an opcode that alone tells it, with the opcode; multianewarray has three bytes of operands
abbrev pub fixed_size : ℕ → Option ℕ
fixed_size n =
    if has_one n then Some 2 else if has_two n then Some 3 else if n == 197 then Some 4 else if has_four n then Some 5 else if nat_le n 201 then Some 1 else None

-- the size of what stands behind wide, with both opcodes: loads, stores and ret, or iinc
abbrev pub wide_size : List ℕ → Option ℕ
wide_size [] = None
wide_size (n ∷ rest) =
    if is_in_range 21 25 n || is_in_range 54 58 n || (n == 169) then Some 4 else if n == 132 then Some 6 else None

-- behind its padding a table has its default, and its least and greatest key, with so many keys between them
pub record HasKeys (body : List ℕ) (count : ℕ) : Type 0 where
  pub default : ℤ
  pub low : ℤ
  pub high : ℤ
  pub tail : List ℕ
  pub parts : body ≡ signed_four default ++ (signed_four low ++ (signed_four high ++ tail))
  pub default_fits : FitsSigned w32 default
  pub low_fits : FitsSigned w32 low
  pub high_fits : FitsSigned w32 high
  pub some : low ≤ℤ high → pos count ≡ high -ℤ low +ℤ pos 1
  pub none : high <ℤ low → count ≡ 0

-- behind its opcode a table has its padding and its keys, and an offset for each key
pub record HasTable (pc : ℕ) (rest : List ℕ) (size : ℕ) : Type 0 where
  pub padding : List ℕ
  pub body : List ℕ
  pub count : ℕ
  pub parts : rest ≡ padding ++ body
  pub long : length padding ≡ padding_at pc
  pub keys : HasKeys body count
  pub is : size ≡ 13 + length padding + 4 * count

-- behind the opcode of a lookupswitch there are its padding, its default, and how many pairs follow
pub record HasLookup (pc : ℕ) (rest : List ℕ) (size : ℕ) : Type 0 where
  pub padding : List ℕ
  pub default : ℤ
  pub count : ℕ
  pub tail : List ℕ
  pub parts : rest ≡ padding ++ (signed_four default ++ (four count ++ tail))
  pub long : length padding ≡ padding_at pc
  pub default_fits : FitsSigned w32 default
  pub few : count < 2 ^ 32
  pub is : size ≡ 9 + length padding + 8 * count

-- behind its opcode an instruction has operands by which it has so many bytes
abbrev pub HasOperands : ℕ → ℕ → List ℕ → ℕ → Type 0
HasOperands pc opcode rest size =
    ((opcode ≡ 170) × HasTable pc rest size)
    ⊎ ((opcode ≡ 171) × HasLookup pc rest size)
    ⊎ ((opcode ≡ 196) × (wide_size rest ≡ Some size))
    ⊎ ((opcode ≢ 170) × (opcode ≢ 171) × (opcode ≢ 196) × (fixed_size opcode ≡ Some size))

-- the instruction at the front of these bytes, whose opcode is at a pc, has so many bytes, and all of them are there
abbrev pub HasSize : ℕ → List ℕ → ℕ → Type 0
HasSize pc [] size = ⊥
HasSize pc (opcode ∷ rest) size = HasOperands pc opcode rest size × (size ≤ length rest + 1)
