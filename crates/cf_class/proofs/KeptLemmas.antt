-- What a file that keeps every demand has at its indices.
use Rattle.std.proofs.Common.{ℕ, ◌+◌, List, [], ◌∷◌, ◌++◌, length, Contains, refl, inl, inr}
use Rattle.std.specs.List.{AllByRecursion}
use Rattle.std.proofs.lemmas.List.Elements.{Contains-append_left, Contains-append_right}
use Rattle.jv_list.proofs.ElementLemmas.{at_contains}
use Rattle.jv_list.proofs.FirstLemmas.{all_member}
use Rattle.jv_list.proofs.MemberLemmas.{first_member}
use Rattle.jv_list.specs.Places.{each_at}
use Rattle.cf_pool.specs.declared.entry.PoolEntry.{PoolEntry}
use Rattle.cf_pool.specs.declared.entry.PoolEntry.TheVariants.{Class}
use Rattle.cf_pool.specs.declared.fault.What.{What}
use Rattle.cf_pool.specs.declared.fault.What.TheVariants.{BadIndex}
use Rattle.cf_pool.specs.Spelling.{entry_text}
use Rattle.cf_structure.specs.Raw.{RawFile}
use Rattle.cf_judge.specs.declared.form.Form.{Form}
use Rattle.cf_judge.specs.declared.form.Form.TheVariants.{ClassOrArray}
use Rattle.cf_judge.specs.declared.index.Wanted.TheVariants.{Formed, PlainClass}
use Rattle.cf_judge.specs.Indices.{IsWrongIndex}
use Rattle.cf_judge.specs.Demands.{Demand, entry_demands, demands}
use Rattle.cf_judge.specs.Judged.{Breaks, IsJudged}
use Rattle.cf_judge.specs.Laws.{FormDecided, PlainClassDecided}
use Rattle.cf_class.specs.Content.{IsTextNamed, IsClassNamed}
use Rattle.cf_class.specs.Calls.Contents.{HasContent}

-- nothing breaks any of these demands
pub AreKept : List PoolEntry → List Demand → Type 0
AreKept pool ds = (d : Demand) → Contains ds d → (what : What) → Breaks pool d.rule what → ⊥

pub judged_kept : (file : RawFile) → IsJudged file → AreKept file.pool (demands file)
unfolding AreKept
judged_kept file judged d member what breaks =
    judged (record { place = d.place; what = what })
    (record { broken = d; is_demanded = member; place_is = refl; breaks = breaks })

module _ (pool : List PoolEntry) where
  pub kept_front : (xs ys : List Demand) → AreKept pool (xs ++ ys) → AreKept pool xs
  unfolding AreKept
  kept_front xs ys h d member = h d (Contains-append_left xs ys d member)

  pub kept_behind : (xs ys : List Demand) → AreKept pool (xs ++ ys) → AreKept pool ys
  unfolding AreKept
  kept_behind xs ys h d member = h d (Contains-append_right xs ys d member)

  -- of structures one after the other
  pub each_kept : {A : Type 0} (one : List A → ℕ → A → List Demand) (text : A → List ℕ) (P : A → Type 0)
      (each : (earlier : List A) (place : ℕ) (x : A) → AreKept pool (one earlier place x) → P x)
      (earlier : List A) (place : ℕ) (xs : List A) → AreKept pool (each_at one text earlier place xs)
      → AllByRecursion P xs
  unfolding each_at
  each_kept one text P each earlier place [] h = tt
  each_kept one text P each earlier place (x ∷ xs) h =
      let others : List Demand = each_at one text (earlier ++ x ∷ []) (place + length (text x)) xs in (
        each earlier place x (kept_front (one earlier place x) others h),
        each_kept one text P each (earlier ++ x ∷ []) (place + length (text x)) xs
            (kept_behind (one earlier place x) others h),
      )

  pub first_kept : (d : Demand) (ds : List Demand) → AreKept pool (d ∷ ds) → (what : What) → Breaks pool d.rule what → ⊥
  unfolding AreKept
  first_kept d ds h = h d (first_member d ds)

  module _ (form_law : FormDecided) where
    -- a text of the form stands there, so that it has a name
    pub text_named : (form : Form) (index : ℕ) → ((what : What) → IsWrongIndex pool (Formed form) index what → ⊥)
        → HasContent (IsTextNamed pool) index
    text_named form index right = elim (form_law pool form index) [
      | inl h ↦ (
        record { index = index; name = h.2.0 },
        record { index_is = refl; units = h.0; text = h.1; name = h.2.1 },
      )
      | inr wrong ↦ absurd (right wrong.0 wrong.1)
    ]

    -- the name of a class in the pool
    abbrev pub IsEntryNamed : PoolEntry → Type 0
    IsEntryNamed (Class name) = HasContent (IsTextNamed pool) name
    IsEntryNamed entry = Unit {0}

    entry_named : (place : ℕ) (e : PoolEntry) → AreKept pool (entry_demands place e) → IsEntryNamed e
    entry_named place (Class name) h = text_named ClassOrArray name (first_kept _ [] h)
    entry_named place e h = tt

    pub entries_named : (place : ℕ)
        → AreKept pool (each_at (λ (earlier : List PoolEntry). entry_demands) entry_text [] place pool)
        → AllByRecursion IsEntryNamed pool
    entries_named place h =
        each_kept (λ (earlier : List PoolEntry). entry_demands) entry_text IsEntryNamed (λ earlier. entry_named) []
        place pool h

    module _ (plain : PlainClassDecided) (entries : AllByRecursion IsEntryNamed pool) where
      -- a class stands there, and the entry has its name
      pub class_named : (index : ℕ) → ((what : What) → IsWrongIndex pool PlainClass index what → ⊥)
          → HasContent (IsClassNamed pool) index
      class_named index right = elim (plain pool index) [
        | inl h ↦
            let named : HasContent (IsTextNamed pool) h.0 =
            all_member IsEntryNamed pool (Class h.0) entries (at_contains pool index (Class h.0) h.1) in (
              record { index = index; name = named.0.name },
              record {
                index_is = refl;
                name_index = h.0;
                class = h.1;
                units = named.1.units;
                text = named.1.text;
                name = named.1.name;
              },
            )
        | inr none ↦ absurd (right BadIndex (refl, none))
      ]
