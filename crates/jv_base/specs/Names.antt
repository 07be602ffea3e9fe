-- Names of classes and methods, by their UTF-8 bytes. The characters that the rules speak of are ASCII, so that each
-- is the byte that stands for it.
use Rattle.std.specs.Prelude.{◌≡◌, ◌≢◌, ℕ, ◌<◌, List, length, All}
use Rattle.std.specs.List.{join_with_byte}

-- a byte of an unqualified name: not that of `.`, `;`, `[` or `/`, and not 0
abbrev pub IsNameByte : ℕ → Type 0
IsNameByte b = (b ≢ 46) × (b ≢ 59) × (b ≢ 91) × (b ≢ 47) × (b ≢ 0)

-- an unqualified name has a character, and none of `.`, `;`, `[` and `/` (JVM Specification SE 8, 4.2.2); nor has it the character 0 here
abbrev pub IsUnqualifiedName : List ℕ → Type 0
IsUnqualifiedName name = (0 < length name) × All IsNameByte name

-- the name of a class: one or more unqualified names with `/` between them (JVM Specification SE 8, 4.2.1)
abbrev pub IsClassName : List ℕ → Type 0
IsClassName name = (parts : List (List ℕ)) × (0 < length parts) × All IsUnqualifiedName parts × (name ≡ join_with_byte 47 parts)

-- the name of a method other than `<init>` and `<clinit>`: an unqualified name without `<` and `>` (JVM Specification SE 8, 4.2.2)
abbrev pub IsMethodName : List ℕ → Type 0
IsMethodName name = IsUnqualifiedName name × All (λ b. (b ≢ 60) × (b ≢ 62)) name
