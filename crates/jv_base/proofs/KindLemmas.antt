-- The words for kinds of fault: how far a text is the front of one, and what each tells.
use Rattle.std.proofs.Common.{◌≡◌, ℕ, ◌<◌, List, length, get_or, refl, sym, ap, subst, ◌∙◌, inl, inr, codes}
use Rattle.std.proofs.Common.{if◌then◌else◌, ◌==◌}
use Rattle.std.specs.List.{All}
use Rattle.jv_base.specs.declared.method.Kind.{Kind}
use Rattle.jv_base.specs.declared.method.Kind.TheVariants.{Null, Zero, Bounds, NegSize, Store, Cast, StrIndex, Assert}
use Rattle.jv_base.specs.Spelling.{kind_name}
use Rattle.jv_base.specs.Calls.Fronts.{IsLongestFront}
use Rattle.jv_base.specs.Calls.Parts.{IsKindText}
use Rattle.jv_base.proofs.FrontLemmas.{Either, front_same}
use Rattle.jv_list.proofs.TextLemmas.{all_below}

abbrev IsExactly : List ℕ → List ℕ → Type 0
IsExactly word text = text ≡ word

-- one of the first two, three and so on
abbrev IsFirst2 : List ℕ → Type 0
IsFirst2 = Either (IsExactly (codes "null")) (IsExactly (codes "zero"))

abbrev IsFirst4 : List ℕ → Type 0
IsFirst4 = Either (Either IsFirst2 (IsExactly (codes "bounds"))) (IsExactly (codes "negsize"))

abbrev IsFirst6 : List ℕ → Type 0
IsFirst6 = Either (Either IsFirst4 (IsExactly (codes "store"))) (IsExactly (codes "cast"))

abbrev IsKindWord : List ℕ → Type 0
IsKindWord = Either (Either IsFirst6 (IsExactly (codes "strindex"))) (IsExactly (codes "assert"))

kind_of_word : (t : List ℕ) → IsKindWord t → IsKindText t
kind_of_word t (inr e) = (Assert, e)
kind_of_word t (inl (inr e)) = (StrIndex, e)
kind_of_word t (inl (inl (inr e))) = (Cast, e)
kind_of_word t (inl (inl (inl (inr e)))) = (Store, e)
kind_of_word t (inl (inl (inl (inl (inr e))))) = (NegSize, e)
kind_of_word t (inl (inl (inl (inl (inl (inr e)))))) = (Bounds, e)
kind_of_word t (inl (inl (inl (inl (inl (inl (inr e))))))) = (Zero, e)
kind_of_word t (inl (inl (inl (inl (inl (inl (inl e))))))) = (Null, e)

word_of_kind : (t : List ℕ) (kind : Kind) → t ≡ kind_name kind → IsKindWord t
word_of_kind t Null e = inl (inl (inl (inl (inl (inl (inl e))))))
word_of_kind t Zero e = inl (inl (inl (inl (inl (inl (inr e))))))
word_of_kind t Bounds e = inl (inl (inl (inl (inl (inr e)))))
word_of_kind t NegSize e = inl (inl (inl (inl (inr e))))
word_of_kind t Store e = inl (inl (inl (inr e)))
word_of_kind t Cast e = inl (inl (inr e))
word_of_kind t StrIndex e = inl (inr e)
word_of_kind t Assert e = inr e

pub kind_longest : (text : List ℕ) (count : ℕ) → IsLongestFront IsKindWord text count
    → IsLongestFront IsKindText text count
kind_longest = front_same IsKindWord IsKindText kind_of_word (λ t k. word_of_kind t k.0 k.1)

kind_name_ascii : (kind : Kind) → All (λ b. b < 128) (kind_name kind)
kind_name_ascii Null = all_below (codes "null") refl
kind_name_ascii Zero = all_below (codes "zero") refl
kind_name_ascii Bounds = all_below (codes "bounds") refl
kind_name_ascii NegSize = all_below (codes "negsize") refl
kind_name_ascii Store = all_below (codes "store") refl
kind_name_ascii Cast = all_below (codes "cast") refl
kind_name_ascii StrIndex = all_below (codes "strindex") refl
kind_name_ascii Assert = all_below (codes "assert") refl

pub kind_ascii : (text : List ℕ) → IsKindText text → All (λ b. b < 128) text
kind_ascii text k = subst (λ (t : List ℕ). All (λ b. b < 128) t) (sym k.1) (kind_name_ascii k.0)

-- the kind of a word
abbrev kind_by : List ℕ → Kind
kind_by word =
    if get_or word 0 0 == 122 then Zero
    else if get_or word 0 0 == 98 then Bounds
    else if get_or word 0 0 == 99 then Cast
    else if get_or word 0 0 == 97 then Assert
    else if length word == 4 then Null
    else if length word == 7 then NegSize
    else if length word == 5 then Store
    else StrIndex

kind_by_name : (kind : Kind) → kind_by (kind_name kind) ≡ kind
kind_by_name Null = refl
kind_by_name Zero = refl
kind_by_name Bounds = refl
kind_by_name NegSize = refl
kind_by_name Store = refl
kind_by_name Cast = refl
kind_by_name StrIndex = refl
kind_by_name Assert = refl

pub kind_told : (k l : Kind) → kind_name k ≡ kind_name l → k ≡ l
kind_told k l e = sym (kind_by_name k) ∙ ap kind_by e ∙ kind_by_name l
