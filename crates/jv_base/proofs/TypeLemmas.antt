-- Values of types stand for the descriptors that they were read from, and are told by their texts.
use Rattle.std.proofs.Common.{◌≡◌, ℕ, zero, suc, ◌<◌, true, cond, eqb, List, [], ◌∷◌, ◌++◌, length, get_or, map}
use Rattle.std.proofs.Common.{Option, Some, None, refl, sym, ap, subst, ◌∙◌, append_assoc, arith}
use Rattle.std.specs.List.{All, flat_map}
use Rattle.std.specs.Str.{IsUtf8, IsCharBoundary}
use Rattle.std.proofs.lemmas.Bool.Decides.{nat_tests}
use Rattle.std.proofs.lemmas.List.{append-nil, get_or_default, map-append, flat_map_more}
use Rattle.std.proofs.lemmas.List.Elements.{All-push}
use Rattle.std.proofs.lemmas.Str.{IsCharBoundary-after_ascii}
use Rattle.jv_base.specs.declared.value.Ty.{Ty, fold-roll-Ty}
use Rattle.jv_base.specs.declared.value.Ty.TheOpen.{Ty-F}
use Rattle.jv_base.specs.declared.value.Ty.TheVariants.{Boolean, Byte, Char, Short, Int, Long, Float, Double, Class}
use Rattle.jv_base.specs.declared.value.Ty.TheVariants.{Array}
use Rattle.jv_base.specs.declared.value.Ty.TheVariants.{rolls-Boolean, rolls-Byte, rolls-Char, rolls-Short, rolls-Int}
use Rattle.jv_base.specs.declared.value.Ty.TheVariants.{rolls-Long, rolls-Float, rolls-Double, rolls-Class, rolls-Array}
use Rattle.jv_base.specs.declared.value.Ty.TheFolds.{ind-Ty, map-Ty}
use Rattle.jv_base.specs.declared.value.Ty.TheViews.{roll-Ty}
use Rattle.jv_base.specs.declared.value.Desc.{Desc}
use Rattle.jv_base.specs.Names.{IsClassName}
use Rattle.jv_base.specs.Descriptor.{ElementType, base, object, FieldType, MethodType, is_base_letter, IsElementType}
use Rattle.jv_base.specs.Descriptor.{IsFieldType, IsMethodType, element_text, field_text, result_text, method_text}
use Rattle.jv_base.specs.Types.{field_layer, field_of, result_of, method_of}
use Rattle.jv_base.proofs.DescriptorLemmas.{field_told, field_alone, method_alone}

-- ---- reading a type

field_of-Class : (name : List ℕ) → field_of (Class name) ≡ field_layer (Ty-F.Class name)
field_of-Class name = ap field_of (sym (rolls-Class name)) ∙ fold-roll-Ty FieldType field_layer (Ty-F.Class name)

-- what stands for an element
abbrev IsElement : FieldType → List ℕ → List ℕ → Type 0
IsElement t text rest = (t.dimensions ≡ 0) × IsElementType t.element × (text ≡ element_text t.element ++ rest)

pub class_value : (text name rest n : List ℕ) → text ≡ name ++ 59 ∷ rest → IsClassName name → n ≡ name
    → IsElement (field_of (Class n)) (76 ∷ text) rest
class_value text name rest n e h same =
    let is : field_layer (Ty-F.Class name) ≡ field_of (Class n) =
    ap (λ (m : List ℕ). field_layer (Ty-F.Class m)) (sym same) ∙ sym (field_of-Class n) in
    let split : text ≡ (name ++ 59 ∷ []) ++ rest = e ∙ sym (append_assoc name (59 ∷ []) rest) in
    subst (λ (t : FieldType). IsElement t (76 ∷ text) rest) is (refl, h, ap (λ (t : List ℕ). 76 ∷ t) split)

letter_ascii : (l : ℕ) → is_base_letter l ≡ true → l < 128
letter_ascii l h = grind (arith, nat_tests)

pub cut_behind_letter : (text bytes : List ℕ) (b : ℕ) → IsUtf8 text → bytes ≡ text → 0 < length bytes
    → b ≡ get_or bytes 0 b → is_base_letter b ≡ true → IsCharBoundary text 1
cut_behind_letter text bytes b u same some first letter =
    let P : List ℕ → Type 0 = λ t. (0 < length t) × (b ≡ get_or t 0 b) in
    let at = subst P same (some, first) in
    let is : b ≡ get_or text 0 0 = at.1 ∙ get_or_default text 0 b 0 at.0 in
    IsCharBoundary-after_ascii text 0 u at.0 (omega (arith, letter_ascii b letter, is))

-- one more parameter
pub parameters_read : (text rest after : List ℕ) (ts us : List Ty) (t : Ty) → us ≡ ts ++ t ∷ []
    → All IsFieldType (map field_of ts) → text ≡ flat_map field_text (map field_of ts) ++ rest
    → IsFieldType (field_of t) → rest ≡ field_text (field_of t) ++ after
    → All IsFieldType (map field_of us) × (text ≡ flat_map field_text (map field_of us) ++ after)
parameters_read text rest after ts us t same all e h k =
    let fs : List FieldType = map field_of ts in
    let f : FieldType = field_of t in
    let mapped : map field_of us ≡ fs ++ f ∷ [] = ap (map field_of) same ∙ map-append field_of ts (t ∷ []) in
    let spelled : flat_map field_text fs ++ field_text f ≡ flat_map field_text (map field_of us) =
    flat_map_more field_text [] fs f ∙ ap (flat_map field_text) (sym mapped) in (
      subst (λ (gs : List FieldType). All IsFieldType gs) (sym mapped) (All-push IsFieldType fs f all h),
      e ∙ ap (λ (s : List ℕ). flat_map field_text fs ++ s) k
          ∙ sym (append_assoc (flat_map field_text fs) (field_text f) after)
          ∙ ap (λ (s : List ℕ). s ++ after) spelled,
    )

-- ---- the values of a type

abbrev base_type : ℕ → Ty
base_type b =
    cond (eqb b 66) Byte (cond (eqb b 67) Char (cond (eqb b 68) Double (cond (eqb b 70) Float
    (cond (eqb b 73) Int (cond (eqb b 74) Long (cond (eqb b 83) Short Boolean))))))

abbrev type_at : ℕ → ElementType → Ty
type_at zero (base b) = base_type b
type_at zero (object n) = Class n
type_at (suc n) e = Array (type_at n e)

abbrev type_of : FieldType → Ty
type_of t = type_at t.dimensions t.element

abbrev IsBack : Ty → Type 0
IsBack t = type_of (field_of t) ≡ t

-- the type of a layer of types
rolled : (layer : Ty-F Ty) → field_of (roll-Ty layer) ≡ field_layer (map-Ty Ty FieldType field_of layer)
rolled layer = fold-roll-Ty FieldType field_layer layer

layer_back : (y : Ty-F ((t : Ty) × IsBack t)) → IsBack (roll-Ty (map-Ty ((t : Ty) × IsBack t) Ty (λ e. e.0) y))
layer_back Ty-F.Boolean = ap type_of (rolled Ty-F.Boolean) ∙ sym rolls-Boolean
layer_back Ty-F.Byte = ap type_of (rolled Ty-F.Byte) ∙ sym rolls-Byte
layer_back Ty-F.Char = ap type_of (rolled Ty-F.Char) ∙ sym rolls-Char
layer_back Ty-F.Short = ap type_of (rolled Ty-F.Short) ∙ sym rolls-Short
layer_back Ty-F.Int = ap type_of (rolled Ty-F.Int) ∙ sym rolls-Int
layer_back Ty-F.Long = ap type_of (rolled Ty-F.Long) ∙ sym rolls-Long
layer_back Ty-F.Float = ap type_of (rolled Ty-F.Float) ∙ sym rolls-Float
layer_back Ty-F.Double = ap type_of (rolled Ty-F.Double) ∙ sym rolls-Double
layer_back (Ty-F.Class name) = ap type_of (rolled (Ty-F.Class name)) ∙ sym (rolls-Class name)
layer_back (Ty-F.Array e) =
    ap type_of (rolled (Ty-F.Array e.0)) ∙ ap (λ (t : Ty). Array t) e.1 ∙ sym (rolls-Array e.0)

type_back : (t : Ty) → IsBack t
type_back = ind-Ty IsBack (λ x y is. subst (λ (z : Ty-F Ty). IsBack (roll-Ty z)) is (layer_back y))

types_back : (ts : List Ty) → map type_of (map field_of ts) ≡ ts
types_back [] = refl
types_back (t ∷ ts) =
    ap (λ (s : Ty). s ∷ map type_of (map field_of ts)) (type_back t) ∙ ap (λ (ss : List Ty). t ∷ ss) (types_back ts)

abbrev result_back : Option FieldType → Option Ty
result_back None = None
result_back (Some t) = Some (type_of t)

results_back : (r : Option Ty) → result_back (result_of r) ≡ r
results_back None = refl
results_back (Some t) = ap (λ (s : Ty). Some s) (type_back t)

-- ---- no two values have one text

pub field_same : (a b : Ty) → IsFieldType (field_of a) → IsFieldType (field_of b)
    → field_text (field_of a) ≡ field_text (field_of b) → a ≡ b
field_same a b h k e = sym (type_back a) ∙ ap type_of (field_alone (field_of a) (field_of b) h k e) ∙ type_back b

pub descriptor_same : (a b : Desc) → IsMethodType (method_of a) → IsMethodType (method_of b)
    → method_text (method_of a) ≡ method_text (method_of b) → a ≡ b
descriptor_same a b h k e =
    let same : method_of a ≡ method_of b = method_alone (method_of a) (method_of b) h k e in
    let types : map field_of a.params ≡ map field_of b.params = ap (λ (m : MethodType). m.parameters) same in
    let told : result_of a.result ≡ result_of b.result = ap (λ (m : MethodType). m.result) same in
    let params : a.params ≡ b.params = sym (types_back a.params) ∙ ap (map type_of) types ∙ types_back b.params in
    let result : a.result ≡ b.result = sym (results_back a.result) ∙ ap result_back told ∙ results_back b.result in
    let desc : List Ty → Option Ty → Desc = λ ps r. record { params = ps; result = r } in
    ap (λ (ps : List Ty). desc ps a.result) params ∙ ap (λ (r : Option Ty). desc b.params r) result
