-- What stands at an index of the pool and of its texts.
use Rattle.std.proofs.Common.{◌≡◌, ℕ, List, Option, Some, None, refl, sym, ap, ◌∙◌, subst}
use Rattle.std.proofs.Common.{◌≤◌, inl, inr, arith}
use Rattle.std.specs.Prelude.{slice_get}
use Rattle.std.proofs.lemmas.Option.{same_Some}
use Rattle.cf_pool.specs.declared.entry.PoolEntry.{PoolEntry}
use Rattle.cf_pool.specs.declared.entry.PoolEntry.TheVariants.{Utf8, NameAndType}
use Rattle.cf_pool.specs.declared.fault.What.{What}
use Rattle.cf_pool.specs.declared.fault.What.TheVariants.{BadIndex}
use Rattle.cf_judge.specs.declared.form.Form.{Form}
use Rattle.cf_judge.specs.declared.index.Wanted.TheVariants.{NameAndType as NameAndTypeOf}
use Rattle.cf_judge.specs.declared.text.Text.{Text}
use Rattle.cf_judge.specs.Forms.{HasText}
use Rattle.cf_judge.specs.Indices.{HasNoText, HasNameAndType, IsNameAndTypeAt, IsOfOtherKind, IsWrongIndex}
use Rattle.cf_judge.specs.Words.{rank}
use Rattle.cf_judge.specs.Texts.{IsTextFor, IsTextOf, AreTexts}
use Rattle.cf_judge.specs.Calls.Words.{TellsWord}

module _ (pool : List PoolEntry) where
  is_text : (e : Option PoolEntry) (t : Text) → IsTextOf pool e (Some (Some t))
      → (units : List ℕ) × (e ≡ Some (Utf8 units)) × IsTextFor pool units t
  is_text (Some (Utf8 units)) t h = (units, refl, h)
  is_text e t h = absurd h

  is_none : (e : Option PoolEntry) → IsTextOf pool e (Some None) → (units : List ℕ) → e ≡ Some (Utf8 units) → ⊥
  is_none e h units is = subst (λ (x : Option PoolEntry). IsTextOf pool x (Some None)) is h

  is_outside : (e : Option PoolEntry) → IsTextOf pool e None → (units : List ℕ) → e ≡ Some (Utf8 units) → ⊥
  is_outside e h units is = subst (λ (x : Option PoolEntry). IsTextOf pool x None) is h

  module _ (texts : List (Option Text)) (index : ℕ) (are : AreTexts pool texts) where
    at : (o : Option (Option Text)) → slice_get texts index ≡ o → IsTextOf pool (slice_get pool index) o
    at o h = subst (λ (x : Option (Option Text)). IsTextOf pool (slice_get pool index) x) h (are index)

    -- a text in the table
    pub found : (t : Text) → slice_get texts index ≡ Some (Some t)
        → (units : List ℕ) × HasText pool index units × IsTextFor pool units t
    found t h = is_text (slice_get pool index) t (at (Some (Some t)) h)

    -- none there
    pub found_none : slice_get texts index ≡ Some None → HasNoText pool index
    found_none h = is_none (slice_get pool index) (at (Some None) h)

    -- behind the end of the table
    pub found_outside : slice_get texts index ≡ None → HasNoText pool index
    found_outside h = is_outside (slice_get pool index) (at None h)

name_in : PoolEntry → ℕ
name_in (NameAndType name desc) = name
name_in entry = 0

desc_in : PoolEntry → ℕ
desc_in (NameAndType name desc) = desc
desc_in entry = 0

module _ (pool : List PoolEntry) (name_form desc_form : Form) (index : ℕ) where
  abbrev Wrong : What → Type 0
  Wrong what = IsWrongIndex pool (NameAndTypeOf name_form desc_form) index what

  module _ (name desc : ℕ) (stands : HasNameAndType pool index name desc) where
    abbrev Other : ℕ → ℕ → What → Type 0
    Other n d what = IsOfOtherKind pool name_form desc_form n d what

    back : (what : What) → Wrong what → Other name desc what
    unfolding name_in desc_in
    back what (inl w) = absurd (w.1 (name, desc, stands))
    back what (inr w) =
        let same = same_Some (NameAndType w.0 w.1) (NameAndType name desc) (sym w.2 ∙ stands) in
        subst (λ (d : ℕ). Other name d what) (ap desc_in same)
        (subst (λ (n : ℕ). Other n w.1 what) (ap name_in same) w.3)

    -- what is wrong with the kind of a name and type is wrong with its index
    pub kind_word : (r : Option What) → TellsWord (Other name desc) r → TellsWord Wrong r
    kind_word None tells = λ what w. tells what (back what w)
    kind_word (Some first) tells = (inr (name, desc, stands, tells.0), λ what w. tells.1 what (back what w))

  -- where no name and type stands, the index is bad
  pub no_pair : (IsNameAndTypeAt pool index → ⊥) → TellsWord Wrong (Some BadIndex)
  no_pair none = (
    inl (refl, none),
    λ what w. elim w as (λ _. rank BadIndex ≤ rank what) [
      | inl is ↦ subst (λ (x : What). rank BadIndex ≤ rank x) (sym is.0) (omega arith)
      | inr other ↦ absurd (none (other.0, other.1, other.2))
    ],
  )
