-- A method's text form falls into parts in one way.
use Rattle.std.proofs.Common.{◌≡◌, ◌≢◌, ℕ, ◌<◌, List, [], ◌∷◌, ◌++◌, codes, refl, sym, subst, ◌∙◌, append_assoc, arith}
use Rattle.std.specs.List.{All}
use Rattle.std.specs.Prelude.{None}
use Rattle.std.proofs.lemmas.List.Elements.{All-nil, All-cons}
use Rattle.jv_base.specs.declared.form.Form.TheVariants.{ClassName, MethodName, MethodDescriptor}
use Rattle.jv_base.specs.declared.method.MethodId.{MethodId}
use Rattle.jv_base.specs.Descriptor.{IsFieldType}
use Rattle.jv_base.specs.Entry.{IsEntryMethod, IsEntryText}
use Rattle.jv_base.specs.Forms.{IsSpelled}
use Rattle.jv_base.specs.Front.{StopsAt}
use Rattle.jv_base.specs.Calls.Fronts.{IsLongestFront, Joined, LeavesAt}
use Rattle.jv_base.specs.Calls.Parts.{IsMethodText, IsClassAndMethod}
use Rattle.jv_base.specs.Names.{IsNameByte, IsUnqualifiedName}
use Rattle.jv_base.specs.Spelling.{name_text, entry_spelling}
use Rattle.jv_base.proofs.FrontLemmas.{leaves_not, leaves_stops}
use Rattle.jv_base.proofs.GoalLemmas.{method_of, method_same}
use Rattle.jv_base.proofs.JoinedLemmas.{IsParting, joined_all}
use Rattle.jv_base.proofs.NameLemmas.{name_same}
use Rattle.jv_base.proofs.SpelledLemmas.{spelled_ascii, spelled_no_colon, class_no_dot, name_no_colon, plain_spelled}
use Rattle.jv_list.proofs.CutLemmas.{cut_same}

-- ---- the grammar

abbrev IsClass : List ℕ → Type 0
IsClass text = IsSpelled ClassName text

abbrev IsName : List ℕ → Type 0
IsName text = IsSpelled MethodName text

abbrev IsDescriptor : List ℕ → Type 0
IsDescriptor text = IsSpelled MethodDescriptor text

regroup : (a b c : List ℕ) → a ++ 46 ∷ [] ++ b ++ 58 ∷ [] ++ c ≡ a ++ 46 ∷ (b ++ 58 ∷ c)
regroup a b c = simp append_assoc

-- an entry's text, by its marks
parted : (text : List ℕ) → IsEntryText text → IsClassAndMethod text
parted text (m, h, e) = (
  name_text m.class,
  name_text m.name ++ 58 ∷ name_text m.desc,
  (m.class, h.class_text, h.class, refl),
  (
    name_text m.name,
    name_text m.desc,
    (m.name, h.name_text, h.name, refl),
    (m.desc, h.desc_text, h.desc, refl),
    refl,
  ),
  e ∙ regroup (name_text m.class) (name_text m.name) (name_text m.desc),
)

whole : (text : List ℕ) → IsClassAndMethod text → IsEntryText text
whole text (a, r, (class, cu, cf, ce), (b, c, (name, nu, nf, ne), (desc, du, df, de), k), e) = (
  method_of class name desc,
  record { class_text = cu; name_text = nu; desc_text = du; class = cf; name = nf; desc = df },
  rw (e, k, ce, ne, de) (sym (regroup (name_text class) (name_text name) (name_text desc))),
)

entry_ascii : (text : List ℕ) → IsClassAndMethod text → All (λ b. b < 128) text
entry_ascii =
    let method_ascii : (text : List ℕ) → IsMethodText text → All (λ b. b < 128) text =
    joined_all (λ b. b < 128) 58 IsName IsDescriptor (omega arith) (spelled_ascii MethodName)
    (spelled_ascii MethodDescriptor) in
    joined_all (λ b. b < 128) 46 IsClass IsMethodText (omega arith) (spelled_ascii ClassName) method_ascii

-- ---- each grammar behind a mark has a text

pub some_descriptor : IsDescriptor (codes "()V")
some_descriptor =
    let plain = plain_spelled (codes "()V") refl in
    (codes "()V", plain.0, (record { parameters = []; result = None }, (All-nil IsFieldType, tt), refl), plain.1)

some_name : IsName (codes "a")
some_name =
    let plain = plain_spelled (codes "a") refl in
    let P : ℕ → Type 0 = λ b. (b ≢ 60) × (b ≢ 62) in
    let not : (b : ℕ) → b < 97 → 97 ≢ b = λ b lt e. omega (arith, lt, e) in
    let letter : IsNameByte 97 =
    (not 46 (omega arith), not 59 (omega arith), not 91 (omega arith), not 47 (omega arith), not 0 (omega arith)) in
    let other : P 97 = (not 60 (omega arith), not 62 (omega arith)) in
    let unqualified : IsUnqualifiedName (codes "a") =
    (omega arith, All-cons IsNameByte 97 [] letter (All-nil IsNameByte)) in
    (codes "a", plain.0, (unqualified, All-cons P 97 [] other (All-nil P)), plain.1)

pub method_parting : IsParting 58 IsName IsDescriptor
method_parting = record { free = spelled_no_colon MethodName; some = codes "()V"; valid = some_descriptor }

pub entry_parting : IsParting 46 IsClass IsMethodText
entry_parting = record {
  free = class_no_dot;
  some = codes "a:()V";
  valid = (codes "a", codes "()V", some_name, some_descriptor, refl);
}

-- ---- where a text leaves it

module _ (text bytes : List ℕ) (at : ℕ) (same : bytes ≡ text) (h : LeavesAt IsClassAndMethod bytes 0 at) where
  pub entry_not : (m : MethodId) → IsEntryMethod m → text ≡ entry_spelling m → ⊥
  entry_not m is e = leaves_not IsClassAndMethod IsEntryText whole parted entry_ascii text bytes at same h (m, is, e)

  pub entry_stops : StopsAt IsEntryText text at
  entry_stops = leaves_stops IsClassAndMethod IsEntryText whole parted entry_ascii text bytes at same h

-- ---- one method

module _ (m n : MethodId) (h : IsEntryMethod m) (k : IsEntryMethod n) where
  pub entry_same : entry_spelling m ≡ entry_spelling n → m ≡ n
  entry_same e =
      let parts = regroup (name_text m.class) (name_text m.name) (name_text m.desc) in
      let others = regroup (name_text n.class) (name_text n.name) (name_text n.desc) in
      let classes = cut_same 46 (name_text m.class) (name_text n.class) (behind m) (behind n)
      (no_dot m h) (no_dot n k) (sym parts ∙ e ∙ others) in
      let names = cut_same 58 (name_text m.name) (name_text n.name) (name_text m.desc) (name_text n.desc)
      (name_no_colon m.name h.name_text) (name_no_colon n.name k.name_text) classes.1 in
      method_same m n (name_same m.class n.class h.class_text k.class_text classes.0)
      (name_same m.name n.name h.name_text k.name_text names.0)
      (name_same m.desc n.desc h.desc_text k.desc_text names.1)
    where
      behind : MethodId → List ℕ
      behind i = name_text i.name ++ 58 ∷ name_text i.desc

      no_dot : (i : MethodId) → IsEntryMethod i → All (λ b. b ≢ 46) (name_text i.class)
      no_dot i p = class_no_dot (name_text i.class) (i.class, p.class_text, p.class, refl)
