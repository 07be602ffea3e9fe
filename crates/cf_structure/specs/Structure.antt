-- The structure of a class file (JVM Specification SE 8, 4.1, 4.5 to 4.7), read from the front: what stands there and
-- what follows it, or the first fault. The constant pool is cf_pool's.
use Rattle.std.specs.Prelude.{ℕ, zero, suc, ◌+◌, Bool, ◌&&◌, List, [], ◌∷◌, length, take, drop}
use Rattle.std.specs.Prelude.{Result, Ok, Err, codes, nat_lt, ◌==◌, if◌then◌else◌}
use Rattle.std.specs.Int.{Width, w16, w32, byte_len, from_be_bytes}
use Rattle.cf_pool.specs.declared.entry.PoolEntry.{PoolEntry}
use Rattle.cf_pool.specs.declared.fault.What.TheVariants.{Truncated, BadMagic, BadVersion, BadLength, Extra}
use Rattle.cf_structure.specs.declared.fault.Cut.{Cut}
use Rattle.cf_structure.specs.declared.code.Row.{Row}
use Rattle.cf_structure.specs.declared.class_file.Version.{Version}
use Rattle.cf_structure.specs.declared.attribute.Holder.{Holder}
use Rattle.cf_structure.specs.declared.attribute.Holder.TheVariants.{InClass, InField, InMethod}
use Rattle.cf_structure.specs.declared.attribute.BodyKind.{BodyKind}
use Rattle.cf_structure.specs.declared.attribute.BodyKind.TheVariants.{ConstantValue, Code, Other}
use Rattle.cf_structure.specs.Raw.{RawSkipped, RawCode, RawBody, constant, code, skipped, RawAttribute, RawMember}
use Rattle.cf_structure.specs.Raw.{RawClass}
use Rattle.cf_structure.specs.Texts.{has_text}

infixl 10 ◌>>=◌
-- the next step, where the step before had no fault
abbrev pub ◌>>=◌ : {A B : Type 0} → Result A Cut → (A → Result B Cut) → Result B Cut
(Ok x) >>= f = f x
(Err e) >>= f = Err e

-- the file ends too early
abbrev pub at_end : Cut
at_end = record { left = 0; what = Truncated }

-- the length field from which on so many bytes are left is at fault
abbrev pub bad_length : ℕ → Cut
bad_length left = record { left = left; what = BadLength }

-- a number, its most significant byte first; a fault, where the bytes are too few
abbrev pub number_at : Cut → Width → List ℕ → Result (ℕ × List ℕ) Cut
number_at short w bytes =
    if nat_lt (length bytes) (byte_len w) then Err short
    else Ok (from_be_bytes w (take (byte_len w) bytes), drop (byte_len w) bytes)

-- so many bytes
abbrev pub bytes_at : Cut → ℕ → List ℕ → Result (List ℕ × List ℕ) Cut
bytes_at short count bytes = if nat_lt (length bytes) count then Err short else Ok (take count bytes, drop count bytes)

-- so many of one kind, one after the other
unfoldable pub many_at : {A : Type 0} → (List ℕ → Result (A × List ℕ) Cut) → ℕ → List ℕ → Result (List A × List ℕ) Cut
many_at one zero bytes = Ok ([], bytes)
many_at one (suc count) bytes = do
  first ← one bytes
  others ← many_at one count first.1
  Ok (first.0 ∷ others.0, others.1)

-- a count of two bytes, and so many
unfoldable pub counted_at : {A : Type 0} → Cut → (List ℕ → Result (A × List ℕ) Cut) → List ℕ
    → Result (List A × List ℕ) Cut
counted_at short one bytes = do
  count ← number_at short w16 bytes
  many_at one count.0 count.1

-- ---- Code (4.7.3)
-- Its content is read apart; so many bytes of the file stand behind it. Where its parts end before it, or pass it, the
-- length field of the attribute is at fault: the holder's.

unfoldable pub row_at : Cut → List ℕ → Result (Row × List ℕ) Cut
row_at holder bytes = do
  start ← number_at holder w16 bytes
  end ← number_at holder w16 start.1
  handler ← number_at holder w16 end.1
  catch_type ← number_at holder w16 handler.1
  Ok (record { start = start.0; end = end.0; handler = handler.0; catch_type = catch_type.0 }, catch_type.1)

-- an attribute of a Code: where its content passes the Code, its own length field is at fault
unfoldable pub inner_at : Cut → ℕ → List ℕ → Result (RawSkipped × List ℕ) Cut
inner_at holder behind bytes = do
  name ← number_at holder w16 bytes
  size ← number_at holder w32 name.1
  content ← bytes_at (bad_length (length name.1 + behind)) size.0 size.1
  Ok (record { name = name.0; content = content.0 }, content.1)

unfoldable pub is_code_length : ℕ → Bool
is_code_length n = nat_lt 0 n && nat_lt n 65536

-- the code behind its length
unfoldable pub code_bytes_at : Cut → ℕ → List ℕ → Result (List ℕ × List ℕ) Cut
code_bytes_at holder behind bytes = do
  size ← number_at holder w32 bytes
  if is_code_length size.0 then bytes_at holder size.0 size.1
      else Err (bad_length (length bytes + behind))

-- a whole content
unfoldable pub code_at : Cut → ℕ → List ℕ → Result RawCode Cut
code_at holder behind content = do
  max_stack ← number_at holder w16 content
  max_locals ← number_at holder w16 max_stack.1
  bytes ← code_bytes_at holder behind max_locals.1
  rows ← counted_at holder (row_at holder) bytes.1
  attributes ← counted_at holder (inner_at holder behind) rows.1
  if length attributes.1 == 0
      then Ok (record {
        max_stack = max_stack.0;
        max_locals = max_locals.0;
        code = bytes.0;
        rows = rows.0;
        attributes = attributes.0;
      })
      else Err holder

-- ---- attributes (4.7)

-- the content of a ConstantValue (4.7.2), whole: an index
unfoldable pub constant_at : Cut → List ℕ → Result ℕ Cut
constant_at holder content = do
  index ← number_at holder w16 content
  if length index.1 == 0 then Ok index.0 else Err holder

-- what the content of an attribute is, by its name: a ConstantValue counts in a field, a Code in a method
abbrev pub body_kind : Holder → List PoolEntry → ℕ → BodyKind
body_kind InClass pool name = Other
body_kind InField pool name = if has_text pool name (codes "ConstantValue") then ConstantValue else Other
body_kind InMethod pool name = if has_text pool name (codes "Code") then Code else Other

-- the content of an attribute, whole
unfoldable pub body_at : BodyKind → Cut → ℕ → List ℕ → Result RawBody Cut
body_at ConstantValue holder behind content = constant_at holder content >>= λ index. Ok (constant index)
body_at Code holder behind content = code_at holder behind content >>= λ c. Ok (code c)
body_at Other holder behind content = Ok (skipped content)

-- an attribute: of one that passes the end of the file nothing more is judged
unfoldable pub attribute_at : Holder → List PoolEntry → List ℕ → Result (RawAttribute × List ℕ) Cut
attribute_at place pool bytes = do
  name ← number_at at_end w16 bytes
  size ← number_at at_end w32 name.1
  content ← bytes_at at_end size.0 size.1
  body ← body_at (body_kind place pool name.0) (bad_length (length name.1)) (length content.1) content.0
  Ok (record { name = name.0; body = body }, content.1)

-- ---- members and classes (4.1, 4.5, 4.6)

unfoldable pub member_at : Holder → List PoolEntry → List ℕ → Result (RawMember × List ℕ) Cut
member_at place pool bytes = do
  flags ← number_at at_end w16 bytes
  name ← number_at at_end w16 flags.1
  desc ← number_at at_end w16 name.1
  attributes ← counted_at at_end (attribute_at place pool) desc.1
  Ok (record { flags = flags.0; name = name.0; desc = desc.0; attributes = attributes.0 }, attributes.1)

-- what stands behind the pool, up to the end of the file
unfoldable pub class_at : List PoolEntry → List ℕ → Result RawClass Cut
class_at pool bytes = do
  flags ← number_at at_end w16 bytes
  this_class ← number_at at_end w16 flags.1
  super_class ← number_at at_end w16 this_class.1
  interfaces ← counted_at at_end (number_at at_end w16) super_class.1
  fields ← counted_at at_end (member_at InField pool) interfaces.1
  methods ← counted_at at_end (member_at InMethod pool) fields.1
  attributes ← counted_at at_end (attribute_at InClass pool) methods.1
  if length attributes.1 == 0
      then Ok (record {
        flags = flags.0;
        this_class = this_class.0;
        super_class = super_class.0;
        interfaces = interfaces.0;
        fields = fields.0;
        methods = methods.0;
        attributes = attributes.0;
      })
      else Err (record { left = length attributes.1; what = Extra })

-- the magic number (4.1), and what follows it; a number that the end of the file cuts is not judged
unfoldable pub magic_at : List ℕ → Result (List ℕ) Cut
magic_at bytes = do
  magic ← number_at at_end w32 bytes
  if magic.0 == 0xcafebabe then Ok magic.1 else Err (record { left = length bytes; what = BadMagic })

-- the major versions of Java 1.1 to Java 8
unfoldable pub is_major : ℕ → Bool
is_major n = nat_lt 44 n && nat_lt n 53

-- the magic number and the version (4.1)
unfoldable pub version_at : List ℕ → Result (Version × List ℕ) Cut
version_at bytes = do
  version ← magic_at bytes
  minor ← number_at at_end w16 version
  major ← number_at at_end w16 minor.1
  if is_major major.0 then Ok (record { minor = minor.0; major = major.0 }, major.1)
      else Err (record { left = length minor.1; what = BadVersion })
