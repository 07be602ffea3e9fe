-- The names at indices.
use Rattle.std.proofs.Common.{◌≡◌, ℕ, List, Option, Some, None, refl, sym, ◌∙◌, subst, IfSome, IfNone}
use Rattle.std.specs.Prelude.{slice_get}
use Rattle.cf_pool.specs.declared.entry.PoolEntry.{PoolEntry}
use Rattle.cf_pool.specs.declared.entry.PoolEntry.TheVariants.{Class}
use Rattle.cf_judge.specs.declared.text.Text.{Text}
use Rattle.cf_judge.specs.Forms.{IsNameOf, HasText}
use Rattle.cf_judge.specs.Texts.{IsTextFor, IsTextOf, AreTexts}
use Rattle.cf_class.specs.declared.named.Named.{Named}
use Rattle.cf_class.specs.Content.{IsTextNamed, IsClassNamed}
use Rattle.cf_class.specs.Calls.Contents.{HasContent}

module _ (pool : List PoolEntry) (texts : List (Option Text)) (index : ℕ) (are : AreTexts pool texts)
    (content : HasContent (IsTextNamed pool) index) (t : Text) (at : slice_get texts index ≡ Some (Some t)) where
  abbrev units : List ℕ
  units = content.1.units

  known : IsTextFor pool units t
  known =
      subst (λ (e : Option PoolEntry). IsTextOf pool e (Some (Some t))) content.1.text
      (subst (λ (o : Option (Option Text)). IsTextOf pool (slice_get pool index) o) at (are index))

  -- the text has a name
  pub some_name : t.name ≡ None → ⊥
  some_name e =
      let none : IfNone t.name ((name : List ℕ) → IsNameOf units name → ⊥) = known.none in
      let no : (name : List ℕ) → IsNameOf units name → ⊥ =
      subst (λ (o : Option (List ℕ)). IfNone o ((name : List ℕ) → IsNameOf units name → ⊥)) e none in
      no content.0.name content.1.name

  pub name_is : (name copy : List ℕ) → t.name ≡ Some name → copy ≡ name
      → IsTextNamed pool index (record { index = index; name = copy })
  name_is name copy e same =
      let is : IsNameOf units name = subst (λ (o : Option (List ℕ)). IfSome o (λ n. IsNameOf units n)) e known.name in
      record { index_is = refl; units = units; text = content.1.text; name = subst (IsNameOf units) (sym same) is }

module _ (pool : List PoolEntry) (index : ℕ) (found : ℕ) (at : slice_get pool index ≡ Some (Class found)) where
  same_class : (a b : ℕ) → Some (Class a) ≡ Some (Class b) → a ≡ b
  same_class a b e = cc

  pub text_there : HasContent (IsClassNamed pool) index → HasContent (IsTextNamed pool) found
  text_there content =
      let same = same_class content.1.name_index found (sym content.1.class ∙ at) in (
        record { index = found; name = content.0.name },
        record {
          index_is = refl;
          units = content.1.units;
          text = subst (λ (i : ℕ). HasText pool i content.1.units) same content.1.text;
          name = content.1.name;
        },
      )

  pub class_is : (n : Named) → IsTextNamed pool found n
      → IsClassNamed pool index (record { index = index; name = n.name })
  class_is n h = record {
    index_is = refl;
    name_index = found;
    class = at;
    units = h.units;
    text = h.text;
    name = h.name;
  }
