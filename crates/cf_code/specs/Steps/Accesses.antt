-- Serves the instructions on local variables: loads and stores have one layout of opcodes.
use Rattle.std.specs.Prelude.{◌+◌, ◌*◌, ℕ, List}
use Rattle.cf_code.specs.Locals.{access_spelling}
use Rattle.cf_code.specs.declared.word.Word.{Word}
use Rattle.cf_code.specs.declared.word.Word.TheVariants.{Int, Long, Float, Double, Reference}
use Rattle.cf_code.specs.declared.local.LocalIndex.{LocalIndex}

-- the place of a type in the order of the opcodes
abbrev pub word_number : Word → ℕ
word_number Int = 0
word_number Long = 1
word_number Float = 2
word_number Double = 3
word_number Reference = 4

-- a load or a store, where the opcodes begin at one: one for each type, and then four short ones for each
abbrev pub based_spelling : ℕ → Word → LocalIndex → List ℕ
based_spelling base word index = access_spelling (base + 5 + 4 * word_number word) (base + word_number word) index
