-- Rows that a reader can compare with the Specification and with files that javac writes.
use Rattle.std.proofs.Common.{◌≡◌, [], ◌∷◌, refl}
use Rattle.std.specs.Prelude.{codes, pos, negsuc}
use Rattle.cf_pool.specs.declared.entry.PoolEntry.TheVariants.{Utf8, Integer, Long, Class, NameAndType, MethodHandle}
use Rattle.cf_pool.specs.declared.entry.PoolEntry.TheVariants.{Unusable}
use Rattle.cf_pool.specs.ModifiedUtf8.{encoded_unit, encoded_units}
use Rattle.cf_pool.specs.Spelling.{entry_text, pool_text}

-- ---- the ends of the ranges of units (4.4.7)

null_unit : encoded_unit 0 ≡ 0xc0 ∷ 0x80 ∷ []
unfolding encoded_unit
null_unit = refl

first_of_one_byte : encoded_unit 1 ≡ 0x01 ∷ []
unfolding encoded_unit
first_of_one_byte = refl

last_of_one_byte : encoded_unit 0x7f ≡ 0x7f ∷ []
unfolding encoded_unit
last_of_one_byte = refl

first_of_two_bytes : encoded_unit 0x80 ≡ 0xc2 ∷ 0x80 ∷ []
unfolding encoded_unit
first_of_two_bytes = refl

last_of_two_bytes : encoded_unit 0x7ff ≡ 0xdf ∷ 0xbf ∷ []
unfolding encoded_unit
last_of_two_bytes = refl

first_of_three_bytes : encoded_unit 0x800 ≡ 0xe0 ∷ 0xa0 ∷ 0x80 ∷ []
unfolding encoded_unit
first_of_three_bytes = refl

last_of_three_bytes : encoded_unit 0xffff ≡ 0xef ∷ 0xbf ∷ 0xbf ∷ []
unfolding encoded_unit
last_of_three_bytes = refl

-- U+1F600, a pair of surrogates, in six bytes
supplementary : encoded_units (0xd83d ∷ 0xde00 ∷ []) ≡ 0xed ∷ 0xa0 ∷ 0xbd ∷ 0xed ∷ 0xb8 ∷ 0x80 ∷ []
unfolding encoded_unit
supplementary = refl

-- ---- entries (4.4)

minus_two : entry_text (Integer (negsuc 1)) ≡ 3 ∷ 0xff ∷ 0xff ∷ 0xff ∷ 0xfe ∷ []
minus_two = refl

least_long : entry_text (Long (negsuc 9223372036854775807)) ≡ 5 ∷ 0x80 ∷ 0 ∷ 0 ∷ 0 ∷ 0 ∷ 0 ∷ 0 ∷ 0 ∷ []
least_long = refl

name_and_type : entry_text (NameAndType 5 0x102) ≡ 12 ∷ 0 ∷ 5 ∷ 1 ∷ 2 ∷ []
name_and_type = refl

method_handle : entry_text (MethodHandle 6 0x102) ≡ 15 ∷ 6 ∷ 1 ∷ 2 ∷ []
method_handle = refl

-- ---- pools (4.1)

-- the pool of a class T without members, whose superclass is Object
smallest_class : pool_text
    (Unusable ∷ Class 2 ∷ Utf8 (codes "T") ∷ Class 4 ∷ Utf8
    (codes "java/lang/Object") ∷ []) ≡ 0 ∷ 5 ∷ 7 ∷ 0 ∷ 2 ∷ 1 ∷ 0 ∷ 1 ∷ 84 ∷ 7 ∷ 0 ∷ 4 ∷ 1 ∷ 0 ∷ 16 ∷ codes
    "java/lang/Object"
unfolding encoded_unit
smallest_class = refl

-- a Long takes two indices, and is followed by a class at index 3
behind_a_long : pool_text
    (Unusable ∷ Long (pos 7) ∷ Unusable ∷ Class 9 ∷ []) ≡ 0 ∷ 4 ∷ 5 ∷ 0 ∷ 0 ∷ 0 ∷ 0 ∷ 0 ∷ 0 ∷ 0 ∷ 7 ∷ 7 ∷ 0 ∷ 9 ∷ []
behind_a_long = refl
