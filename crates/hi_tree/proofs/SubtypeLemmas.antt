-- What holds of subtypes.
use Rattle.std.proofs.Common.{◌≡◌, ℕ, zero, suc, true, false, List, [], ◌∷◌, ◌⊎◌, inl, inr, Option}
use Rattle.std.proofs.Common.{Some, None, sym, ◌∙◌, ap, subst, refl, is_some, true≢false}
use Rattle.std.specs.Prelude.{slice_get}
use Rattle.std.specs.Str.{bytes_eq}
use Rattle.std.proofs.lemmas.Option.{none-some, same_Some}
use Rattle.std.proofs.lemmas.Slice.Eq.{bytes_eq-Decides}
use Rattle.cf_class.specs.declared.class_file.ClassFile.{ClassFile}
use Rattle.jv_base.specs.Descriptor.{ElementType, base, object}
use Rattle.lib_rows.specs.Classes.{class_name}
use Rattle.lib_rows.specs.declared.class.Builtin.{Builtin}
use Rattle.lib_rows.specs.declared.class.Builtin.TheVariants.{Object, Cloneable, Serializable}
use Rattle.hi_tree.specs.declared.known.Up.TheVariants.{Supertypes}
use Rattle.hi_tree.specs.Classes.{Known, built_in, known_class}
use Rattle.hi_tree.specs.Supers.{names_above, names_above_some, sought_some}
use Rattle.hi_tree.specs.Walks.{Climb, IsAbove, direct, further, IsClean, found, StopsAt, Stops}
use Rattle.hi_tree.specs.Walks.{here, higher}
use Rattle.hi_tree.specs.Subtypes.{supertypes, IsSubclass, IsArrayTop, IsElementSub, IsTopElement, IsSubAt}
use Rattle.hi_tree.specs.Subtypes.{class_climb}
use Rattle.hi_tree.proofs.WalkLemmas.{above_above, clean-all, clean-known, clean-free, clean-acyclic}
use Rattle.hi_tree.proofs.KnownLemmas.{known_builtin}

module _ (w : Climb) where
  -- what is found is sought, known, and the class itself or above it
  pub found_above : {path : List (List ℕ)} {name : List ℕ} (b : List ℕ) → StopsAt w path name (found b)
      → (w.sought b ≡ true) × (w.known b ≡ true) × ((name ≡ b) ⊎ IsAbove w.supers name b)
  found_above b (here p name fresh known sought) = (sought, known, inl refl)
  found_above b (higher p name place above stop fresh known free e before r) =
      let h = found_above b r in (
        h.0,
        h.1,
        elim h.2 [
          | inl same ↦ inr (subst (λ (x : List ℕ). IsAbove w.supers name x) same (direct name above place e))
          | inr up ↦ inr (further name above b place e up)
        ],
      )

  pub clean_whole : (name above : List ℕ) → IsClean w name → (name ≡ above) ⊎ IsAbove w.supers name above
      → (w.known above ≡ true) × (w.sought above ≡ false) × (IsAbove w.supers above above → ⊥)
  clean_whole name above is (inl same) =
      subst (λ (x : List ℕ). (w.known x ≡ true) × (w.sought x ≡ false) × (IsAbove w.supers x x → ⊥)) same
      (clean-known w is, clean-free w is, clean-acyclic w is)
  clean_whole name above is (inr up) =
      let there = clean-all w is up in
      (clean-known w there, clean-free w there, clean-acyclic w there)

module _ (classes : List ClassFile) where
  pub sub_refl : (e : ElementType) (n : ℕ) → IsSubAt classes e e n n
  sub_refl (base x) zero = refl
  sub_refl (object x) zero = inl refl
  sub_refl e (suc n) = sub_refl e n

  class_trans : (a b c : List ℕ) → IsSubclass classes a b → IsSubclass classes b c → IsSubclass classes a c
  class_trans a b c (inl same) h = subst (λ (x : List ℕ). IsSubclass classes x c) (sym same) h
  class_trans a b c (inr up) (inl same) = inr (subst (λ (x : List ℕ). IsAbove (supertypes classes) a x) same up)
  class_trans a b c (inr up) (inr more) = inr (above_above (class_climb classes []) up more)

  -- what is directly above a built-in class
  above_builtin : (class : Builtin) (place : ℕ) (top : List ℕ)
      → slice_get (supertypes classes (class_name class)) place ≡ Some top
      → slice_get (names_above Supertypes (built_in class)) place ≡ Some top
  above_builtin class place top e =
      ap (λ (o : Option Known). slice_get (names_above_some Supertypes o) place) (sym
      (known_builtin classes class)) ∙ e

  nothing_at : (place : ℕ) (top : List ℕ) → slice_get {X = List ℕ} [] place ≡ Some top → ⊥
  nothing_at place top e = none-some top e

  one_at : (place : ℕ) (x top : List ℕ) → slice_get (x ∷ []) place ≡ Some top → x ≡ top
  one_at zero x top e = same_Some x top e
  one_at (suc place) x top e = absurd (nothing_at place top e)

  -- nothing is above Object
  over_object : {name top : List ℕ} → name ≡ class_name Object → IsAbove (supertypes classes) name top → ⊥
  over_object same (direct name top place e) =
      nothing_at place top (above_builtin Object place top (ap (λ (n : List ℕ). slice_get
      (supertypes classes n) place) (sym same) ∙ e))
  over_object same (further name above top place e r) =
      nothing_at place above (above_builtin Object place above (ap (λ (n : List ℕ). slice_get
      (supertypes classes n) place) (sym same) ∙ e))

  -- and Object alone is above an interface that has no superinterface
  over_top : (class : Builtin) → names_above Supertypes (built_in class) ≡ class_name Object ∷ []
      → {name top : List ℕ}
      → name ≡ class_name class → IsAbove (supertypes classes) name top → top ≡ class_name Object
  over_top class is same (direct name top place e) =
      let at = above_builtin class place top (ap (λ (n : List ℕ). slice_get (supertypes classes n) place)
      (sym same) ∙ e) in
      sym (one_at place (class_name Object) top (ap (λ (l : List (List ℕ)). slice_get l place) (sym is) ∙ at))
  over_top class is same (further name above top place e r) =
      let at = above_builtin class place above (ap (λ (n : List ℕ). slice_get (supertypes classes n) place)
      (sym same) ∙ e) in
      absurd (over_object (sym (one_at place (class_name Object) above (ap (λ (l : List
      (List ℕ)). slice_get l place) (sym is) ∙ at))) r)

  top_above : (a b : List ℕ) → IsArrayTop a → IsSubclass classes a b → IsArrayTop b
  top_above a b top (inl same) = subst IsArrayTop same top
  top_above a b (inl is) (inr up) = absurd (over_object is up)
  top_above a b (inr (inl is)) (inr up) = inl (over_top Cloneable refl is up)
  top_above a b (inr (inr is)) (inr up) = inl (over_top Serializable refl is up)

  top_element : (e f : ElementType) → IsTopElement e → IsElementSub classes e f → IsTopElement f
  top_element (base a) f h k = absurd h
  top_element (object a) (base b) h k = k
  top_element (object a) (object b) h k = top_above a b h k

  element_trans : (e f g : ElementType) → IsElementSub classes e f → IsElementSub classes f g
      → IsElementSub classes e g
  element_trans (base a) (base b) (base c) h k = h ∙ k
  element_trans (base a) (base b) (object c) h k = k
  element_trans (base a) (object b) g h k = absurd h
  element_trans (object a) (base b) g h k = absurd h
  element_trans (object a) (object b) (base c) h k = k
  element_trans (object a) (object b) (object c) h k = class_trans a b c h k

  pub sub_trans : (e f g : ElementType) (m n k : ℕ) → IsSubAt classes e f m n → IsSubAt classes f g n k
      → IsSubAt classes e g m k
  sub_trans e f g zero zero zero h i = element_trans e f g h i
  sub_trans e f g zero zero (suc k) h i = i
  sub_trans e f g zero (suc n) k h i = absurd h
  sub_trans e f g (suc m) zero zero h i = top_element f g h i
  sub_trans e f g (suc m) zero (suc k) h i = absurd i
  sub_trans e f g (suc m) (suc n) zero h i = i
  sub_trans e f g (suc m) (suc n) (suc k) h i = sub_trans e f g m n k h i

  -- what the walk from a class tells of its supertypes
  pub found_sub : (class top b : List ℕ) → Stops (class_climb classes top) class (found b)
      → IsSubclass classes class top
  found_sub class top b stops =
      let h = found_above (class_climb classes top) b stops in
      let same = named b top (known_class classes b) h.0 in
      subst (λ (x : List ℕ). IsSubclass classes class x) same h.2
    where
      named : (b top : List ℕ) (o : Option Known) → sought_some (λ k. bytes_eq b top) o ≡ true → b ≡ top
      named b top None e = absurd (true≢false (sym e))
      named b top (Some k) e = (bytes_eq-Decides b top).0 e

  pub clean_sub : (class top : List ℕ) → IsClean (class_climb classes top) class → IsSubclass classes class top → ⊥
  clean_sub class top is sub =
      let h = clean_whole (class_climb classes top) class top is sub in
      free top (known_class classes top) h.0 h.1
    where
      free : (top : List ℕ) (o : Option Known) → is_some o ≡ true → sought_some (λ k. bytes_eq top top) o ≡ false → ⊥
      free top None known e = true≢false (sym known)
      free top (Some k) known e = true≢false (sym ((bytes_eq-Decides top top).1 refl) ∙ e)
