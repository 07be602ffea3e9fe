-- The text forms of names, methods and goals.
use Rattle.std.specs.Prelude.{ℕ, ◌/◌, ◌%◌, ◌^◌, ◌<◌, Bool, false, not, ◌&&◌, ◌==◌, nat_le, List, [], ◌∷◌, ◌++◌, if◌then◌else◌, codes}
use Rattle.std.specs.List.{flat_map}
use Rattle.std.specs.Str.{chars}
use Rattle.std.specs.Char.Escape.{encode_utf16}
use Rattle.std.specs.Fmt.{decimal, digit_glyph}
use Rattle.jv_base.specs.declared.method.MethodId.{MethodId}
use Rattle.jv_base.specs.declared.method.Goal.{Goal}
use Rattle.jv_base.specs.declared.method.Kind.{Kind}
use Rattle.jv_base.specs.declared.method.Kind.TheVariants.{Null, Zero, Bounds, NegSize, Store, Cast, StrIndex, Assert}

-- a character that stands for itself: one from `!` to `~` other than `\`, `:` and `@`
abbrev pub is_plain : ℕ → Bool
is_plain c = nat_le 33 c && nat_le c 126 && not (c == 92) && not (c == 58) && not (c == 64)

-- a UTF-16 unit
abbrev pub IsUnit : ℕ → Type 0
IsUnit u = u < 2 ^ 16

-- a UTF-16 unit as `\u` and four hexadecimal digits in lower case
unfoldable pub escaped_unit : ℕ → List ℕ
escaped_unit u =
    92 ∷ 117 ∷ digit_glyph false (u / 4096) ∷ digit_glyph false (u / 256 % 16) ∷ digit_glyph false (u / 16 % 16) ∷ digit_glyph false (u % 16) ∷ []

-- a character as its one or two UTF-16 units
unfoldable pub escape_text : ℕ → List ℕ
escape_text c = flat_map escaped_unit (encode_utf16 c)

-- a character of a name: itself where it is plain, and else its escape
unfoldable pub character_text : ℕ → List ℕ
character_text c = if is_plain c then c ∷ [] else escape_text c

-- a name, which is given by its UTF-8 bytes
unfoldable pub name_text : List ℕ → List ℕ
name_text name = flat_map character_text (chars name)

-- CLASS.METHOD:DESC
abbrev pub entry_spelling : MethodId → List ℕ
entry_spelling m = name_text m.class ++ codes "." ++ name_text m.name ++ codes ":" ++ name_text m.desc

-- the word for a kind of fault
abbrev pub kind_name : Kind → List ℕ
kind_name Null = codes "null"
kind_name Zero = codes "zero"
kind_name Bounds = codes "bounds"
kind_name NegSize = codes "negsize"
kind_name Store = codes "store"
kind_name Cast = codes "cast"
kind_name StrIndex = codes "strindex"
kind_name Assert = codes "assert"

-- CLASS.METHOD:DESC@PC:KIND, where PC is in decimal
abbrev pub site_spelling : Goal → List ℕ
site_spelling g = entry_spelling g.site.method ++ codes "@" ++ decimal g.site.pc ++ codes ":" ++ kind_name g.kind
