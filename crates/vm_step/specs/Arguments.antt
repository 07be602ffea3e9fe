-- The arguments of calls (JVM Specification SE 8, 4.3.3 and 6.5), the last of which is on top of the stack.
use Rattle.std.specs.Prelude.{ℕ, ◌-◌, ◌&&◌, Bool, true, false, List, [], ◌∷◌, ◌++◌, length, map, drop, Option, Some, None}
use Rattle.std.specs.Prelude.{if◌then◌else◌}
use Rattle.jv_base.specs.declared.value.Ty.{Ty}
use Rattle.jv_base.specs.declared.value.Value.{Value}
use Rattle.cf_code.specs.declared.word.Word.{Word}
use Rattle.cf_code.specs.declared.word.Word.TheVariants.{Reference}
use Rattle.vm_step.specs.Words.{word_of, has_word}

-- the types of the values that a call takes, by the types of its parameters: a reference first, if it has a receiver
abbrev pub words_taken : Bool → List Ty → List Word
words_taken receiver types = (if receiver then Reference ∷ [] else []) ++ map word_of types

-- whether there is a value for each type, and of that type
abbrev pub have_words : List Word → List Value → Bool
have_words [] [] = true
have_words [] (v ∷ vs) = false
have_words (word ∷ words) [] = false
have_words (word ∷ words) (v ∷ vs) = has_word word v && have_words words vs

-- so many values on top of a stack
abbrev pub on_top : ℕ → List Value → List Value
on_top n stack = drop (length stack - n) stack

-- values, where they are of the types
abbrev pub of_words : List Word → List Value → Option (List Value)
of_words words values = if have_words words values then Some values else None

-- the arguments on a stack, by the types of the parameters, the receiver first, if there is one
abbrev pub arguments : Bool → List Ty → List Value → Option (List Value)
arguments receiver types stack =
    of_words (words_taken receiver types) (on_top (length (words_taken receiver types)) stack)
