-- Names of methods, with `<init>` and `<clinit>` among them.
use Rattle.std.proofs.Common.{◌≡◌, ◌≢◌, ℕ, ◌<◌, ◌⊎◌, List, refl, sym, ap, subst, ◌∙◌, inl, inr, codes}
use Rattle.std.specs.List.{All, flat_map}
use Rattle.std.specs.Str.{IsUtf8, IsAscii}
use Rattle.std.proofs.lemmas.Str.{chars-IsAscii}
use Rattle.jv_base.specs.declared.form.Form.TheVariants.{MethodName}
use Rattle.jv_base.specs.Entry.{IsAnyMethodName}
use Rattle.jv_base.specs.Forms.{IsSpelled}
use Rattle.jv_base.specs.Spelling.{character_text, name_text}
use Rattle.jv_base.specs.Calls.Fronts.{IsLongestFront}
use Rattle.jv_base.specs.Calls.Parts.{IsAnyMethodText}
use Rattle.jv_base.proofs.FrontLemmas.{Either, front_same}
use Rattle.jv_base.proofs.SpelledLemmas.{name_ascii, name_no_colon}
use Rattle.jv_list.proofs.TextLemmas.{IsAscii-from_test, IsUtf8-from_test}

ascii_name : (name : List ℕ) → IsAscii name → name_text name ≡ flat_map character_text name
unfolding name_text
ascii_name name small = ap (λ (cs : List ℕ). flat_map character_text cs) (chars-IsAscii name small)

init_text : name_text (codes "<init>") ≡ codes "<init>"
unfolding character_text
init_text = ascii_name (codes "<init>") (IsAscii-from_test (codes "<init>") refl) ∙ refl

clinit_text : name_text (codes "<clinit>") ≡ codes "<clinit>"
unfolding character_text
clinit_text = ascii_name (codes "<clinit>") (IsAscii-from_test (codes "<clinit>") refl) ∙ refl

abbrev IsNameOf : List ℕ → List ℕ → Type 0
IsNameOf text name = IsUtf8 name × IsAnyMethodName name × (text ≡ name_text name)

pub init_is : IsNameOf (codes "<init>") (codes "<init>")
init_is = (IsUtf8-from_test (codes "<init>") refl, inr (inl refl), sym init_text)

clinit_is : IsNameOf (codes "<clinit>") (codes "<clinit>")
clinit_is = (IsUtf8-from_test (codes "<clinit>") refl, inr (inr refl), sym clinit_text)

-- a special name is its own text
pub special_is : (text name : List ℕ) → text ≡ name → (name ≡ codes "<init>") ⊎ (name ≡ codes "<clinit>")
    → IsUtf8 name × IsAnyMethodName name × (text ≡ name_text name)
special_is text name e (inl i) =
    let P : List ℕ → Type 0 = λ t. IsNameOf t t in
    subst (λ (t : List ℕ). IsNameOf t name) (sym e) (subst P (sym i) init_is)
special_is text name e (inr i) =
    let P : List ℕ → Type 0 = λ t. IsNameOf t t in
    subst (λ (t : List ℕ). IsNameOf t name) (sym e) (subst P (sym i) clinit_is)

-- ---- how far a text is the front of one

abbrev IsMethodWord : List ℕ → Type 0
IsMethodWord = Either (Either (IsSpelled MethodName) (λ t. t ≡ codes "<init>")) (λ t. t ≡ codes "<clinit>")

method_of_word : (t : List ℕ) → IsMethodWord t → IsAnyMethodText t
method_of_word t (inl (inl h)) = (h.0, h.1, inl h.2, h.3)
method_of_word t (inl (inr e)) =
    let is = special_is t (codes "<init>") e (inl refl) in
    (codes "<init>", is.0, is.1, is.2)
method_of_word t (inr e) =
    let is = special_is t (codes "<clinit>") e (inr refl) in
    (codes "<clinit>", is.0, is.1, is.2)

word_of_method : (t name : List ℕ) → IsUtf8 name → IsAnyMethodName name → t ≡ name_text name → IsMethodWord t
word_of_method t name text (inl is) e = inl (inl (name, text, is, e))
word_of_method t name text (inr (inl i)) e = inl (inr (e ∙ ap name_text i ∙ init_text))
word_of_method t name text (inr (inr i)) e = inr (e ∙ ap name_text i ∙ clinit_text)

pub method_longest : (text : List ℕ) (count : ℕ) → IsLongestFront IsMethodWord text count
    → IsLongestFront IsAnyMethodText text count
method_longest =
    front_same IsMethodWord IsAnyMethodText method_of_word (λ t k. word_of_method t k.0 k.1 k.2 k.3)

pub method_is_not : (text : List ℕ) → (IsSpelled MethodName text → ⊥)
    → (text ≢ codes "<init>") × (text ≢ codes "<clinit>") → IsAnyMethodText text → ⊥
method_is_not text named special h =
    elim (word_of_method text h.0 h.1 h.2 h.3) [
      | inl m ↦ elim m [ inl s ↦ named s | inr e ↦ special.0 e ]
      | inr e ↦ special.1 e
    ]

-- ---- their bytes

pub method_free : (text : List ℕ) → IsAnyMethodText text → All (λ b. b ≢ 58) text
method_free text h = subst (λ (t : List ℕ). All (λ b. b ≢ 58) t) (sym h.3) (name_no_colon h.0 h.1)

pub method_ascii : (text : List ℕ) → IsAnyMethodText text → All (λ b. b < 128) text
method_ascii text h = subst (λ (t : List ℕ). All (λ b. b < 128) t) (sym h.3) (name_ascii h.0 h.1)
