-- Values by their types, one by one.
use Rattle.std.proofs.Common.{◌≡◌, ℕ, suc, ◌+◌, ◌-◌, ◌<◌, ◌≤◌, Bool, true, false, List, [], ◌∷◌, length, map, drop}
use Rattle.std.proofs.Common.{Some, None, if◌then◌else◌, refl, sym, ap, ◌∙◌, arith}
use Rattle.std.specs.Prelude.{◌&&◌, ◌==◌}
use Rattle.std.proofs.lemmas.Bool.{ne_eqb}
use Rattle.std.proofs.lemmas.List.{length-drop, length-map}
use Rattle.std.specs.List.{zip, list_all}
use Rattle.jv_base.specs.declared.value.Ty.{Ty}
use Rattle.jv_base.specs.declared.value.Value.{Value}
use Rattle.cf_code.specs.declared.word.Word.{Word}
use Rattle.vm_step.specs.Words.{word_of, has_word}
use Rattle.vm_step.specs.Arguments.{words_taken, have_words, on_top, of_words, arguments}

abbrev pub has_type : Ty × Value → Bool
has_type pair = has_word (word_of pair.0) pair.1

-- where there are as many values as types, a test of each pair tells
pub all_typed : (types : List Ty) (values : List Value) → length types ≡ length values
    → have_words (map word_of types) values ≡ list_all has_type (zip types values)
all_typed [] [] same = refl
all_typed [] (v ∷ vs) same = absurd (omega arith)
all_typed (t ∷ ts) [] same = absurd (omega arith)
all_typed (t ∷ ts) (v ∷ vs) same = ap (λ (b : Bool). has_word (word_of t) v && b) (all_typed ts vs (omega arith))

-- where there are not, they do not fit
pub other_count : (words : List Word) (values : List Value) → (length words ≡ length values → ⊥)
    → have_words words values ≡ false
other_count [] [] other = absurd (other refl)
other_count [] (v ∷ vs) other = refl
other_count (w ∷ ws) [] other = refl
other_count (w ∷ ws) (v ∷ vs) other =
    ap (λ (b : Bool). has_word w v && b) (other_count ws vs (λ same. other (ap suc same))) ∙ and_false (has_word w v)
  where
    and_false : (b : Bool) → (b && false) ≡ false
    and_false true = refl
    and_false false = refl

-- the test of the counts, where they differ
pub other_than : (types : List Ty) (values : List Value) → (length types ≡ length values → ⊥)
    → (length types == length values) ≡ have_words (map word_of types) values
other_than types values other =
    ne_eqb (length types) (length values) other
    ∙ sym (other_count (map word_of types) values (λ same. other (sym (length-map types word_of) ∙ same)))

-- a stack with fewer values than are taken has no arguments
pub too_few : (words : List Word) (stack : List Value) → length stack < length words
    → of_words words (on_top (length words) stack) ≡ None
too_few words stack few =
    let short : length (on_top (length words) stack) ≤ length stack =
    omega (arith, length-drop (length stack - length words) stack) in
    ap (λ (b : Bool). if b then Some (on_top (length words) stack) else None)
    (other_count words (on_top (length words) stack) (λ same. omega (arith, same, short, few)))

-- how many values are taken
pub taken_count : (receiver : Bool) (types : List Ty)
    → length (words_taken receiver types) ≡ (if receiver then length types + 1 else length types)
taken_count true types = omega (arith, length-map types word_of)
taken_count false types = length-map types word_of

pub none_taken : (receiver : Bool) (types : List Ty) (stack : List Value)
    → length stack < (if receiver then length types + 1 else length types) → arguments receiver types stack ≡ None
none_taken receiver types stack few =
    too_few (words_taken receiver types) stack (omega (arith, taken_count receiver types, few))

pub some_taken : (receiver : Bool) (types : List Ty) (stack : List Value) (place : ℕ)
    → place + (if receiver then length types + 1 else length types) ≡ length stack
    → arguments receiver types stack ≡ of_words (words_taken receiver types) (drop place stack)
some_taken receiver types stack place there =
    let from : length stack - length (words_taken receiver types) ≡ place =
    omega (arith, taken_count receiver types, there) in
    ap (λ (k : ℕ). of_words (words_taken receiver types) (drop k stack)) from
