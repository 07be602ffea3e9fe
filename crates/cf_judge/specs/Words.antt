-- The order of the words for what is wrong.
use Rattle.std.specs.Prelude.{ℕ}
use Rattle.cf_pool.specs.declared.fault.What.{What}
use Rattle.cf_pool.specs.declared.fault.What.TheVariants as words

-- which word comes first where several stand at one place
abbrev pub rank : What → ℕ
rank words.Truncated = 0
rank words.BadMagic = 1
rank words.BadVersion = 2
rank words.BadTag = 3
rank words.BadUtf8 = 4
rank words.BadLength = 5
rank words.Extra = 6
rank words.BadIndex = 7
rank words.BadName = 8
rank words.BadDesc = 9
rank words.Duplicate = 10
rank words.CodeRule = 11
rank words.WrongName = 12
rank words.BadOpcode = 13
rank words.BadTarget = 14
rank words.TooLong = 15
rank words.Circular = 16
rank words.BadSuper = 17
