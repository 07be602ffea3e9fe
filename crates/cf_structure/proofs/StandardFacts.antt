-- Rows that a reader can compare with the Specification and with files that javac writes.
use Rattle.std.proofs.Common.{◌≡◌, ◌++◌, List, [], ◌∷◌, Ok, Err, true, false, refl}
use Rattle.std.specs.Prelude.{ℕ, codes}
use Rattle.cf_pool.specs.declared.entry.PoolEntry.{PoolEntry}
use Rattle.cf_pool.specs.declared.entry.PoolEntry.TheVariants.{Utf8, Class, Unusable}
use Rattle.cf_pool.specs.declared.fault.What.TheVariants.{BadMagic, BadVersion, Extra}
use Rattle.cf_structure.specs.declared.attribute.Holder.TheVariants.{InClass, InField, InMethod}
use Rattle.cf_structure.specs.Raw.{constant, code, skipped}
use Rattle.cf_structure.specs.Texts.{has_text}
use Rattle.cf_structure.specs.Structure.{many_at, counted_at, row_at, inner_at, is_code_length, code_bytes_at, code_at}
use Rattle.cf_structure.specs.Structure.{constant_at, body_at, attribute_at, member_at, class_at, magic_at, is_major}
use Rattle.cf_structure.specs.Structure.{version_at}
use Rattle.cf_structure.specs.Structure.{bad_length, at_end}

abbrev pool : List PoolEntry
pool = Unusable ∷ Utf8 (codes "Code") ∷ Utf8 (codes "ConstantValue") ∷ Class 1 ∷ []

named : has_text pool 1 (codes "Code") ≡ true
unfolding has_text
named = refl

named_otherwise : has_text pool 2 (codes "Code") ≡ false
unfolding has_text
named_otherwise = refl

no_text : has_text pool 3 (codes "Code") ≡ false
unfolding has_text
no_text = refl

out_of_the_pool : has_text pool 4 (codes "Code") ≡ false
unfolding has_text
out_of_the_pool = refl

-- ---- the version: a number that the end of the file cuts is not judged

three_bytes : version_at (0x50 ∷ 0x4b ∷ 0x03 ∷ []) ≡ Err at_end
unfolding version_at magic_at is_major
three_bytes = refl

four_bytes : version_at (0x50 ∷ 0x4b ∷ 0x03 ∷ 0x04 ∷ []) ≡ Err (record { left = 4; what = BadMagic })
unfolding version_at magic_at is_major
four_bytes = refl

magic_alone : version_at (0xca ∷ 0xfe ∷ 0xba ∷ 0xbe ∷ 0 ∷ 0 ∷ 0 ∷ []) ≡ Err at_end
unfolding version_at magic_at is_major
magic_alone = refl

java_8 : version_at (0xca ∷ 0xfe ∷ 0xba ∷ 0xbe ∷ 0 ∷ 0 ∷ 0 ∷ 52 ∷ 7 ∷ []) ≡ Ok (
  record { minor = 0; major = 52 },
  7 ∷ [],
)
unfolding version_at magic_at is_major
java_8 = refl

java_9 : version_at (0xca ∷ 0xfe ∷ 0xba ∷ 0xbe ∷ 0 ∷ 0 ∷ 0 ∷ 53 ∷ 7 ∷ []) ≡ Err (record { left = 3; what = BadVersion })
unfolding version_at magic_at is_major
java_9 = refl

java_1_0 : version_at (0xca ∷ 0xfe ∷ 0xba ∷ 0xbe ∷ 0 ∷ 3 ∷ 0 ∷ 44 ∷ []) ≡ Err (record { left = 2; what = BadVersion })
unfolding version_at magic_at is_major
java_1_0 = refl

-- ---- what stands behind the pool of a class without members

abbrev smallest : List ℕ
smallest = 0 ∷ 0x21 ∷ 0 ∷ 1 ∷ 0 ∷ 3 ∷ 0 ∷ 0 ∷ 0 ∷ 0 ∷ 0 ∷ 0 ∷ 0 ∷ 0 ∷ []

smallest_class : class_at pool smallest
    ≡ Ok (record {
      flags = 0x21;
      this_class = 1;
      super_class = 3;
      interfaces = [];
      fields = [];
      methods = [];
      attributes = [];
    })
unfolding class_at counted_at many_at member_at attribute_at body_at
smallest_class = refl

one_byte_more : class_at pool (smallest ++ 9 ∷ []) ≡ Err (record { left = 1; what = Extra })
unfolding class_at counted_at many_at member_at attribute_at body_at
one_byte_more = refl

one_byte_less : class_at pool (0 ∷ 0x21 ∷ 0 ∷ 1 ∷ 0 ∷ 3 ∷ 0 ∷ 0 ∷ 0 ∷ 0 ∷ 0 ∷ 0 ∷ 0 ∷ []) ≡ Err at_end
unfolding class_at counted_at many_at member_at attribute_at body_at
one_byte_less = refl

-- ---- attributes: so many bytes are left from a fault's place on

field_constant : attribute_at InField pool (0 ∷ 2 ∷ 0 ∷ 0 ∷ 0 ∷ 2 ∷ 0 ∷ 7 ∷ 9 ∷ [])
    ≡ Ok (record { name = 2; body = constant 7 }, 9 ∷ [])
unfolding attribute_at body_at constant_at has_text
field_constant = refl

long_constant : attribute_at InField pool (0 ∷ 2 ∷ 0 ∷ 0 ∷ 0 ∷ 3 ∷ 0 ∷ 7 ∷ 8 ∷ 9 ∷ []) ≡ Err (bad_length 8)
unfolding attribute_at body_at constant_at has_text
long_constant = refl

constant_of_class : attribute_at InClass pool (0 ∷ 2 ∷ 0 ∷ 0 ∷ 0 ∷ 3 ∷ 0 ∷ 7 ∷ 8 ∷ 9 ∷ [])
    ≡ Ok (record { name = 2; body = skipped (0 ∷ 7 ∷ 8 ∷ []) }, 9 ∷ [])
unfolding attribute_at body_at constant_at has_text
constant_of_class = refl

past_the_end : attribute_at InField pool (0 ∷ 2 ∷ 0 ∷ 0 ∷ 0 ∷ 3 ∷ 0 ∷ 7 ∷ []) ≡ Err at_end
unfolding attribute_at body_at constant_at has_text
past_the_end = refl

-- ---- Code, before two bytes that are not its own

abbrev head : List ℕ
head = 0 ∷ 1 ∷ 0 ∷ 0 ∷ 0 ∷ 13 ∷ 0 ∷ 3 ∷ 0 ∷ 4 ∷ []

abbrev behind : List ℕ
behind = 8 ∷ 9 ∷ []

method_code : attribute_at InMethod pool (head ++ (0 ∷ 0 ∷ 0 ∷ 1 ∷ 0xb1 ∷ 0 ∷ 0 ∷ 0 ∷ 0 ∷ behind))
    ≡ Ok (
      record {
        name = 1;
        body = code (record { max_stack = 3; max_locals = 4; code = 0xb1 ∷ []; rows = []; attributes = [] });
      },
      behind,
    )
unfolding attribute_at body_at code_at code_bytes_at is_code_length counted_at many_at row_at inner_at has_text
method_code = refl

no_code : attribute_at InMethod pool (head ++ (0 ∷ 0 ∷ 0 ∷ 0 ∷ 0xb1 ∷ 0 ∷ 0 ∷ 0 ∷ 0 ∷ behind)) ≡ Err (bad_length 11)
unfolding attribute_at body_at code_at code_bytes_at is_code_length counted_at many_at row_at inner_at has_text
no_code = refl

too_much_code : attribute_at InMethod pool (head ++ (0 ∷ 1 ∷ 0 ∷ 0 ∷ 0xb1 ∷ 0 ∷ 0 ∷ 0 ∷ 0 ∷ behind)) ≡ Err
    (bad_length 11)
unfolding attribute_at body_at code_at code_bytes_at is_code_length counted_at many_at row_at inner_at has_text
too_much_code = refl

code_past_its_end : attribute_at InMethod pool (head ++ (0 ∷ 0 ∷ 0 ∷ 6 ∷ 0xb1 ∷ 0 ∷ 0 ∷ 0 ∷ 0 ∷ behind)) ≡ Err
    (bad_length 19)
unfolding attribute_at body_at code_at code_bytes_at is_code_length counted_at many_at row_at inner_at has_text
code_past_its_end = refl

-- the parts pass the Code
code_too_short : attribute_at InMethod pool (head ++ (0 ∷ 0 ∷ 0 ∷ 2 ∷ 0xb1 ∷ 0 ∷ 0 ∷ 0 ∷ 0 ∷ behind)) ≡ Err
    (bad_length 19)
unfolding attribute_at body_at code_at code_bytes_at is_code_length counted_at many_at row_at inner_at has_text
code_too_short = refl

-- an attribute of a Code whose content passes it, and one whose head does
inner_past_its_end : inner_at (bad_length 30) 2 (0 ∷ 1 ∷ 0 ∷ 0 ∷ 0 ∷ 2 ∷ 7 ∷ []) ≡ Err (bad_length 7)
unfolding inner_at
inner_past_its_end = refl

inner_head_past_its_end : inner_at (bad_length 30) 2 (0 ∷ 1 ∷ 0 ∷ 0 ∷ 0 ∷ []) ≡ Err (bad_length 30)
unfolding inner_at
inner_head_past_its_end = refl
