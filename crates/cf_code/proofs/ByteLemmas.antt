-- Numbers and offsets are read back from their bytes.
use Rattle.std.proofs.Common.{◌≡◌, ℕ, ℤ, pos, negsuc, ◌≤◌, ◌<◌, ◌^◌, ◌+ℤ◌, ◌-ℤ◌, List, ◌++◌, ap, sym, ◌∙◌, to_z, of_z}
use Rattle.std.proofs.Common.{arith, rules}
use Rattle.std.specs.Prelude.{◌<ℤ◌}
use Rattle.std.specs.Int.{w16, w32, cast_unsigned, from_be_bytes}
use Rattle.std.specs.Int.RustNames.{FitsSigned}
use Rattle.std.proofs.lemmas.Int.{to_z-of_z, of_z-to_z, ints}
use Rattle.std.proofs.lemmas.Nat.{from_be_bytes-to_be_bytes_2, from_be_bytes-to_be_bytes_4}
use Rattle.cf_code.specs.Bytes.{two, four, signed_two, signed_four, offset, IsTwo}
use Rattle.cf_code.specs.Switches.{far}
use Rattle.jv_list.proofs.BitLemmas.{pattern_below_16, pattern_below_32}
use Rattle.jv_list.proofs.CutLemmas.{split_same}

pub two_back : (n : ℕ) → IsTwo n → from_be_bytes w16 (two n) ≡ n
two_back n a = from_be_bytes-to_be_bytes_2 n a

pub signed_two_back : (z : ℤ) → FitsSigned w16 z → to_z w16 (from_be_bytes w16 (signed_two z)) ≡ z
signed_two_back z a =
    ap (λ (n : ℕ). to_z w16 n) (from_be_bytes-to_be_bytes_2 (cast_unsigned w16 z) (pattern_below_16 z a))
    ∙ to_z-of_z w16 z a

pub signed_four_back : (z : ℤ) → FitsSigned w32 z → to_z w32 (from_be_bytes w32 (signed_four z)) ≡ z
signed_four_back z a =
    ap (λ (n : ℕ). to_z w32 n) (from_be_bytes-to_be_bytes_4 (cast_unsigned w32 z) (pattern_below_32 z a))
    ∙ to_z-of_z w32 z a

-- numbers of the same bytes are one
one_four : (m n : ℕ) → m < 2 ^ 32 → n < 2 ^ 32 → four m ≡ four n → m ≡ n
one_four m n a b is =
    sym (from_be_bytes-to_be_bytes_4 m a)
    ∙ ap (λ (bs : List ℕ). from_be_bytes w32 bs) is
    ∙ from_be_bytes-to_be_bytes_4 n b

one_signed_four : (y z : ℤ) → FitsSigned w32 y → FitsSigned w32 z → signed_four y ≡ signed_four z → y ≡ z
one_signed_four y z a b is =
    sym (signed_four_back y a) ∙ ap (λ (bs : List ℕ). to_z w32 (from_be_bytes w32 bs)) is ∙ signed_four_back z b

-- a number of four bytes in front
pub one_int : (y z : ℤ) (s t : List ℕ) → FitsSigned w32 y → FitsSigned w32 z
    → signed_four y ++ s ≡ signed_four z ++ t → (y ≡ z) × (s ≡ t)
one_int y z s t a b is =
    let cut = split_same (signed_four y) (signed_four z) s t (search rules) is in
    (one_signed_four y z a b cut.0, cut.1)

pub one_number : (m n : ℕ) (s t : List ℕ) → m < 2 ^ 32 → n < 2 ^ 32 → four m ++ s ≡ four n ++ t → (m ≡ n) × (s ≡ t)
one_number m n s t a b is =
    let cut = split_same (four m) (four n) s t (search rules) is in
    (one_four m n a b cut.0, cut.1)

-- ---- offsets

abbrev nat_of : ℤ → ℕ
nat_of (pos n) = n
nat_of (negsuc n) = 0

-- the target at an offset from a pc
abbrev pub at_offset : ℕ → ℤ → ℕ
at_offset pc z = nat_of (pos pc +ℤ z)

pub at_offset_back : (pc target : ℕ) → at_offset pc (offset pc target) ≡ target
at_offset_back pc target =
    let back : pos pc +ℤ (pos target -ℤ pos pc) ≡ pos target = omega (arith, ints) in
    ap nat_of back

-- an offset fits where the pc is in reach
pub far_fits : (pc target : ℕ) → pc ≤ 2 ^ 31 → IsTwo target → FitsSigned w32 (offset pc target)
far_fits pc target a b = omega (arith, ints)

one_offset : (pc t u : ℕ) → offset pc t ≡ offset pc u → t ≡ u
one_offset pc t u is = omega (arith, ints)

-- an offset of four bytes in front
pub one_far : (pc t u : ℕ) (r s : List ℕ) → pc ≤ 2 ^ 31 → IsTwo t → IsTwo u → far pc t ++ r ≡ far pc u ++ s
    → (t ≡ u) × (r ≡ s)
one_far pc t u r s reach a b is =
    let cut = one_int (offset pc t) (offset pc u) r s (far_fits pc t reach a) (far_fits pc u reach b) is in
    (one_offset pc t u cut.0, cut.1)

-- the bits of a number that is not too big, however far it is below 0
bits_fit : (z : ℤ) → z <ℤ pos (2 ^ 32) → of_z w32 z < 2 ^ 32
bits_fit (pos n) h = omega (arith, ints)
bits_fit (negsuc n) h = omega arith

to_z_fits : (n : ℕ) → n < 2 ^ 32 → FitsSigned w32 (to_z w32 n)
to_z_fits n low = omega (arith, ints)

-- an offset's four bytes are those of a number that has four bytes, also where the pc is too far
pub far_given : (pc target : ℕ) → IsTwo target → (z : ℤ) × (far pc target ≡ signed_four z) × FitsSigned w32 z
far_given pc target h =
    let bits = of_z w32 (offset pc target) in
    let low : of_z w32 (offset pc target) < 2 ^ 32 = bits_fit (offset pc target) (omega (arith, ints)) in
    (to_z w32 bits, ap four (sym (of_z-to_z w32 bits low)), to_z_fits bits low)
