-- The tags of the entries and what stands behind them (JVM Specification SE 8, 4.4, table 4.4-A).
use Rattle.std.specs.Prelude.{ℕ, ◌+◌, nat_lt, if◌then◌else◌, List, length}
use Rattle.std.specs.Int.{w16, from_be_bytes}
use Rattle.cf_pool.specs.declared.tag.Tag.{Tag}
use Rattle.cf_pool.specs.declared.tag.Tag.TheVariants.{Utf8, Integer, Float, Long, Double, Class, Str, Field, Method, InterfaceMethod, NameAndType, MethodHandle, MethodType, InvokeDynamic}

abbrev pub tag_byte : Tag → ℕ
tag_byte Utf8 = 1
tag_byte Integer = 3
tag_byte Float = 4
tag_byte Long = 5
tag_byte Double = 6
tag_byte Class = 7
tag_byte Str = 8
tag_byte Field = 9
tag_byte Method = 10
tag_byte InterfaceMethod = 11
tag_byte NameAndType = 12
tag_byte MethodHandle = 15
tag_byte MethodType = 16
tag_byte InvokeDynamic = 18

-- how many indices an entry takes (4.4.5)
abbrev pub indices : Tag → ℕ
indices Utf8 = 1
indices Integer = 1
indices Float = 1
indices Long = 2
indices Double = 2
indices Class = 1
indices Str = 1
indices Field = 1
indices Method = 1
indices InterfaceMethod = 1
indices NameAndType = 1
indices MethodHandle = 1
indices MethodType = 1
indices InvokeDynamic = 1

-- how many bytes the entry has behind its tag; of a text the two of its length, and as many as they say where they are there
abbrev pub content_size : Tag → List ℕ → ℕ
content_size Utf8 bytes = if nat_lt (length bytes) 2 then 2 else 2 + from_be_bytes w16 bytes
content_size Integer bytes = 4
content_size Float bytes = 4
content_size Long bytes = 8
content_size Double bytes = 8
content_size Class bytes = 2
content_size Str bytes = 2
content_size Field bytes = 4
content_size Method bytes = 4
content_size InterfaceMethod bytes = 4
content_size NameAndType bytes = 4
content_size MethodHandle bytes = 3
content_size MethodType bytes = 2
content_size InvokeDynamic bytes = 4
