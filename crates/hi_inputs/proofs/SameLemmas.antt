-- Types and names that `==` finds equal are the same.
use Rattle.std.proofs.Common.{◌≡◌, ℕ, true, List, ◌∙◌, ap, refl}
use Rattle.std.specs.Prelude.{nat_eq}
use Rattle.std.proofs.lemmas.Bool.{false≢true, and_parts}
use Rattle.std.proofs.lemmas.Bool.Decides.{Decides-eqb}
use Rattle.std.proofs.lemmas.Slice.Eq.{bytes_eq-Decides}
use Rattle.jv_base.specs.contracts.name.NamePartialEq.TheImpl as name_eq
use Rattle.hi_inputs.specs.declared.flat.Element.{Element}
use Rattle.hi_inputs.specs.declared.flat.Element.TheVariants as elements
use Rattle.hi_inputs.specs.declared.flat.FlatType.{FlatType}
use Rattle.hi_inputs.specs.contracts.flat.ElementPartialEq.TheImpl as element_eq
use Rattle.hi_inputs.specs.contracts.flat.FlatTypePartialEq.TheImpl as flat_eq

pub same_names : (x y : List ℕ) → (name_eq.ghosts).eq x y ≡ true → x ≡ y
same_names x y = (bytes_eq-Decides x y).0

same_elements : (x y : Element) → (element_eq.ghosts).eq x y ≡ true → x ≡ y
same_elements (elements.Class x) (elements.Class y) e = ap elements.Class (same_names x y e)
same_elements elements.Boolean elements.Boolean e = refl
same_elements elements.Byte elements.Byte e = refl
same_elements elements.Char elements.Char e = refl
same_elements elements.Short elements.Short e = refl
same_elements elements.Int elements.Int e = refl
same_elements elements.Long elements.Long e = refl
same_elements elements.Float elements.Float e = refl
same_elements elements.Double elements.Double e = refl
same_elements x y e = absurd (false≢true e)

pub same_types : (x y : FlatType) → (flat_eq.ghosts).eq x y ≡ true → x ≡ y
same_types x y e =
    let both = and_parts (nat_eq x.dimensions y.dimensions) ((element_eq.ghosts).eq x.element y.element) e in
    let flat : ℕ → Element → FlatType = λ d t. record { dimensions = d; element = t } in
    ap (λ d. flat d x.element) ((Decides-eqb x.dimensions y.dimensions).0 both.0)
    ∙ ap (λ t. flat y.dimensions t) (same_elements x.element y.element both.1)
