-- What a call of each row does, by the number and the kinds of its arguments, of which the receiver is the first. A row is
-- stuck at arguments that are not its own.
use Rattle.std.specs.Prelude.{ℕ, ℤ, List, [], ◌∷◌, None}
use Rattle.jv_base.specs.declared.value.Value.{Value}
use Rattle.jv_base.specs.declared.value.Value.TheVariants.{Int, Long, Ref}
use Rattle.lib_rows.specs.declared.method.LibMethod.{LibMethod}
use Rattle.lib_rows.specs.declared.method.LibMethod.TheVariants as m
use Rattle.vm_world.specs.declared.object.Object.{Object}
use Rattle.vm_world.specs.declared.state.State.{State}
use Rattle.vm_lib.specs.declared.plan.Effect.{Effect}
use Rattle.vm_lib.specs.declared.plan.Effect.TheVariants.{Gives, Stuck}
use Rattle.vm_lib.specs.declared.plan.Plan.{Plan}
use Rattle.vm_lib.specs.declared.plan.Plan.TheVariants.{Has}
use Rattle.vm_lib.specs.Plans.{done}
use Rattle.vm_lib.specs.ObjectRows.{same_object_row}
use Rattle.vm_lib.specs.PlainRows.{object_init_row, throwable_row, assertion_status_row, print_row, takes_reference, takes_text}
use Rattle.vm_lib.specs.StringRows.{length_row, is_empty_row, char_at_row, compare_row, equals_row, starts_row, ends_row, index_row, concat_row, substring_row, tail_row, int_row, char_row, boolean_row}
use Rattle.vm_lib.specs.BuilderRows.{init_row, init_text_row, append_text_row, append_char_row, append_int_row, append_boolean_row, to_string_row, builder_length_row, builder_char_row}

-- the rows that take an object alone
abbrev pub alone : LibMethod → List Object → ℕ → Value → Plan
alone m.ObjectInit heap bound object = Has (object_init_row heap object)
alone m.ThrowableInit heap bound object = Has (throwable_row heap object (Gives None))
alone m.AssertionInit heap bound object = Has (throwable_row heap object (Gives None))
alone m.StringLength heap bound text = Has (length_row heap text)
alone m.StringIsEmpty heap bound text = Has (is_empty_row heap text)
alone m.BuilderInit heap bound builder = init_row heap builder
alone m.BuilderToString heap bound builder = to_string_row heap bound builder
alone m.BuilderLength heap bound builder = Has (builder_length_row heap builder)
alone m.ClassDesiredAssertionStatus heap bound class = Has (assertion_status_row heap class)
alone m.Println heap bound stream = Has (print_row heap stream (Gives None))
alone other heap bound object = Has Stuck

-- the rows that take an int alone
abbrev pub of_int : LibMethod → ℕ → ℤ → Plan
of_int m.StringOfInt bound n = int_row bound n
of_int m.StringOfChar bound n = char_row bound n
of_int m.StringOfBoolean bound n = boolean_row bound n
of_int other bound n = Has Stuck

-- the rows that take an object and an int
abbrev pub with_int : LibMethod → List Object → ℕ → Value → ℤ → Plan
with_int m.AssertionInitBoolean heap bound object n = Has (throwable_row heap object (Gives None))
with_int m.AssertionInitChar heap bound object n = Has (throwable_row heap object (Gives None))
with_int m.AssertionInitInt heap bound object n = Has (throwable_row heap object (Gives None))
with_int m.StringCharAt heap bound text n = Has (char_at_row heap text n)
with_int m.StringTail heap bound text n = tail_row heap bound text n
with_int m.StringIndexOf heap bound text n = Has (index_row heap text n)
with_int m.BuilderAppendChar heap bound builder n = append_char_row heap bound builder n
with_int m.BuilderAppendInt heap bound builder n = append_int_row heap bound builder n
with_int m.BuilderAppendBoolean heap bound builder n = append_boolean_row heap bound builder n
with_int m.BuilderCharAt heap bound builder n = Has (builder_char_row heap builder n)
with_int m.PrintBoolean heap bound stream n = Has (print_row heap stream (Gives None))
with_int m.PrintChar heap bound stream n = Has (print_row heap stream (Gives None))
with_int m.PrintInt heap bound stream n = Has (print_row heap stream (Gives None))
with_int m.PrintlnBoolean heap bound stream n = Has (print_row heap stream (Gives None))
with_int m.PrintlnChar heap bound stream n = Has (print_row heap stream (Gives None))
with_int m.PrintlnInt heap bound stream n = Has (print_row heap stream (Gives None))
with_int other heap bound object n = Has Stuck

-- the rows that take an object and a long
abbrev pub with_long : LibMethod → List Object → Value → Plan
with_long m.AssertionInitLong heap object = Has (throwable_row heap object (Gives None))
with_long m.PrintLong heap stream = Has (print_row heap stream (Gives None))
with_long m.PrintlnLong heap stream = Has (print_row heap stream (Gives None))
with_long other heap object = Has Stuck

-- the rows that take an object and a reference
abbrev pub with_reference : LibMethod → List Object → ℕ → Value → Value → Plan
with_reference m.ObjectEquals heap bound object other = Has (same_object_row object other)
with_reference m.ThrowableInitText heap bound object text = Has (throwable_row heap object (takes_text heap text))
with_reference m.AssertionInitObject heap bound object other = Has (throwable_row heap object (takes_reference other))
with_reference m.StringConcat heap bound text other = concat_row heap bound text other
with_reference m.StringEquals heap bound text other = Has (equals_row heap text other)
with_reference m.StringStartsWith heap bound text other = Has (starts_row heap text other)
with_reference m.StringEndsWith heap bound text other = Has (ends_row heap text other)
with_reference m.StringCompareTo heap bound text other = Has (compare_row heap text other)
with_reference m.BuilderInitText heap bound builder text = init_text_row heap bound builder text
with_reference m.BuilderAppendText heap bound builder text = append_text_row heap bound builder text
with_reference m.PrintText heap bound stream text = Has (print_row heap stream (takes_text heap text))
with_reference m.PrintlnText heap bound stream text = Has (print_row heap stream (takes_text heap text))
with_reference row heap bound object other = Has Stuck

-- the row that takes an object and two ints
abbrev pub with_ints : LibMethod → List Object → ℕ → Value → ℤ → ℤ → Plan
with_ints m.StringSubstring heap bound text from to = substring_row heap bound text from to
with_ints other heap bound object m n = Has Stuck

-- one argument, two, three
abbrev pub of_one : LibMethod → List Object → ℕ → Value → Plan
of_one row heap bound (Int n) = of_int row bound n
of_one row heap bound (Long n) = Has Stuck
of_one row heap bound (Ref object) = alone row heap bound (Ref object)

abbrev pub of_two : LibMethod → List Object → ℕ → Value → Value → Plan
of_two row heap bound object (Int n) = with_int row heap bound object n
of_two row heap bound object (Long n) = with_long row heap object
of_two row heap bound object (Ref other) = with_reference row heap bound object (Ref other)

abbrev pub of_three : LibMethod → List Object → ℕ → Value → Value → Value → Plan
of_three row heap bound object (Int m) (Int n) = with_ints row heap bound object m n
of_three row heap bound object a b = Has Stuck

-- what a row is to do with its arguments
abbrev pub planned : LibMethod → List Object → ℕ → List Value → Plan
planned row heap bound [] = Has Stuck
planned row heap bound (a ∷ []) = of_one row heap bound a
planned row heap bound (a ∷ b ∷ []) = of_two row heap bound a b
planned row heap bound (a ∷ b ∷ c ∷ []) = of_three row heap bound a b c
planned row heap bound (a ∷ b ∷ c ∷ d ∷ more) = Has Stuck

-- the effect of a call, and the state after it, of which the heap alone is another
abbrev pub called : LibMethod → State → List Value → ℕ → Effect × State
called row state args bound =
    let after = done state.heap (planned row state.heap bound args) in
    (after.0, record state { heap = after.1 })
