-- The Codes of a file are those of its methods.
use Rattle.std.proofs.Common.{◌≡◌, ℕ, ◌+◌, Bool, true, false, List, [], ◌∷◌, ◌++◌, length, map, refl, sym, ap, ◌∙◌}
use Rattle.std.proofs.Common.{subst, if◌then◌else◌}
use Rattle.std.specs.Prelude.{codes as text}
use Rattle.std.specs.List.{flat_map, AllZip, AllByRecursion}
use Rattle.std.proofs.lemmas.List.{map-append, append-nil}
use Rattle.jv_list.specs.Places.{each_at}
use Rattle.cf_pool.specs.declared.entry.PoolEntry.{PoolEntry}
use Rattle.cf_structure.specs.declared.attribute.Holder.TheVariants.{InClass, InField}
use Rattle.cf_structure.specs.declared.attribute.BodyKind.{BodyKind}
use Rattle.cf_structure.specs.declared.attribute.BodyKind.TheVariants as kinds
use Rattle.cf_structure.specs.Texts.{has_text}
use Rattle.cf_structure.specs.Raw.{RawCode, RawBody, constant, code, skipped, RawAttribute, RawMember, RawFile}
use Rattle.cf_structure.specs.Spelled.{attribute_text, member_text, FitsBody, FitsAttribute, FitsMember, FitsFile}
use Rattle.cf_code.specs.declared.code.Placed.{Placed}
use Rattle.cf_code.specs.Decoding.{IsCode}
use Rattle.cf_bodies.specs.Places.{PlacedCode, methods_start, codes}
use Rattle.cf_bodies.specs.Places.{body_codes as body_placed, attribute_codes as attribute_placed}
use Rattle.cf_bodies.specs.Places.{method_codes as method_placed}
use Rattle.cf_bodies.specs.Bodies.{AreBodies}
use Rattle.cf_class.specs.Calls.Contents.{body_codes, attribute_codes, member_codes, class_codes, HaveBodies}
use Rattle.jv_list.proofs.ZipLemmas.{zip_viewed}
use Rattle.cf_class.proofs.BodiesLemmas.{have_all}

abbrev pub content_of : PlacedCode → RawCode
content_of c = c.content

-- ---- without their places

module _ {A C : Type 0} (one : ℕ → A → List PlacedCode) (bytes : A → List C) (of : A → List RawCode)
    (each : (place : ℕ) (x : A) → map content_of (one place x) ≡ of x) where
  contents_at : (earlier : List A) (place : ℕ) (xs : List A)
      → map content_of (each_at (λ (e : List A). one) bytes earlier place xs) ≡ flat_map of xs
  unfolding each_at
  contents_at earlier place [] = refl
  contents_at earlier place (x ∷ xs) =
      let others : List PlacedCode =
      each_at (λ (e : List A). one) bytes (earlier ++ x ∷ []) (place + length (bytes x)) xs in
      map-append content_of (one place x) others
      ∙ ap (λ (cs : List RawCode). cs ++ map content_of others) (each place x)
      ∙ ap (λ (cs : List RawCode). of x ++ cs) (contents_at (earlier ++ x ∷ []) (place + length (bytes x)) xs)

body_contents : (place : ℕ) (b : RawBody) → map content_of (body_placed place b) ≡ body_codes b
body_contents place (constant index) = refl
body_contents place (code c) = refl
body_contents place (skipped content) = refl

attribute_contents : (place : ℕ) (a : RawAttribute) → map content_of (attribute_placed place a) ≡ attribute_codes a
attribute_contents place a = body_contents (place + 6) a.body

method_contents : (place : ℕ) (m : RawMember) → map content_of (method_placed place m) ≡ member_codes m
method_contents place m = contents_at attribute_placed attribute_text attribute_codes attribute_contents []
    (place + 8) m.attributes

-- ---- none but in methods

other_kind : (kind : BodyKind) (b : RawBody) → (kind ≡ kinds.Code → ⊥) → FitsBody kind b → body_codes b ≡ []
other_kind kind (constant index) other fits = refl
other_kind kind (skipped content) other fits = refl
other_kind kinds.ConstantValue (code c) other fits = absurd fits
other_kind kinds.Other (code c) other fits = absurd fits
other_kind kinds.Code (code c) other fits = absurd (other refl)

of_field : (b : Bool) → (if b then kinds.ConstantValue else kinds.Other) ≡ kinds.Code → ⊥
of_field true e = absurd cc
of_field false e = absurd cc

of_class : kinds.Other ≡ kinds.Code → ⊥
of_class e = absurd cc

module _ {A : Type 0} (F : A → Type 0) (of : A → List RawCode) (none : (x : A) → F x → of x ≡ []) where
  none_of : (xs : List A) → AllByRecursion F xs → flat_map of xs ≡ []
  none_of [] fits = refl
  none_of (x ∷ xs) fits =
      ap (λ (cs : List RawCode). cs ++ flat_map of xs) (none x fits.0) ∙ none_of xs fits.1

module _ (pool : List PoolEntry) where
  field_attribute : (a : RawAttribute) → FitsAttribute InField pool a → attribute_codes a ≡ []
  field_attribute a fits =
      other_kind _ a.body (of_field (has_text pool a.name (text "ConstantValue"))) fits.body

  class_attribute : (a : RawAttribute) → FitsAttribute InClass pool a → attribute_codes a ≡ []
  class_attribute a fits = other_kind _ a.body of_class fits.body

  field_codes : (m : RawMember) → FitsMember InField pool m → member_codes m ≡ []
  field_codes m fits = none_of (FitsAttribute InField pool) attribute_codes field_attribute m.attributes
      fits.attributes.1

module _ (file : RawFile) (fits : FitsFile file) where
  pub codes_are : map content_of (codes file) ≡ class_codes file.class
  codes_are =
      let methods : List RawCode = flat_map member_codes file.class.methods in
      let fields = none_of (FitsMember InField file.pool) member_codes (field_codes file.pool) file.class.fields
      fits.class.fields.1 in
      let others = none_of (FitsAttribute InClass file.pool) attribute_codes (class_attribute file.pool)
      file.class.attributes fits.class.attributes.1 in
      contents_at method_placed member_text member_codes method_contents [] (methods_start file) file.class.methods
      ∙ sym (append-nil methods) ∙ ap (λ (cs : List RawCode). methods ++ cs) (sym others)
      ∙ ap (λ (cs : List RawCode). cs ++ (methods ++ flat_map attribute_codes file.class.attributes)) (sym fields)

  -- the instructions of the Codes are those of the class
  pub bodies_are : (bodies : List (List Placed)) → AreBodies (codes file) bodies
      → AllZip (λ c body. IsCode c.code body) (class_codes file.class) bodies
  bodies_are bodies are =
      subst (λ (cs : List RawCode). AllZip (λ c body. IsCode c.code body) cs bodies) codes_are
      (zip_viewed content_of (λ (c : RawCode) (body : List Placed). IsCode c.code body) (codes file) bodies are)

  pub bodies_there : (bodies : List (List Placed)) → AreBodies (codes file) bodies
      → HaveBodies (class_codes file.class) bodies
  bodies_there bodies are = have_all (class_codes file.class) bodies (bodies_are bodies are)
