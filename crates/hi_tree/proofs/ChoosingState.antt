-- What is chosen so far from the superinterface methods of a class.
use Rattle.std.proofs.Common.{◌≡◌, ℕ, Bool, true, false, cond, List, [], ◌⊎◌, inl, inr, Contains}
use Rattle.std.proofs.Common.{Option, Some, None, is_some, sym, ◌∙◌, ap, subst, refl, arith, true≢false}
use Rattle.std.specs.Prelude.{slice_get, IsTrue}
use Rattle.std.specs.Str.{bytes_eq}
use Rattle.std.specs.Ordering.{is_gt, nat_cmp}
use Rattle.std.specs.Cmp.Lexicographic.{slice_cmp}
use Rattle.std.proofs.lemmas.Option.{none-some}
use Rattle.std.proofs.lemmas.Slice.Eq.{bytes_eq-Decides}
use Rattle.cf_class.specs.declared.class_file.ClassFile.{ClassFile}
use Rattle.hi_tree.specs.Classes.{known_class}
use Rattle.hi_tree.specs.Methods.{declared_some}
use Rattle.hi_tree.specs.Subtypes.{supertypes}
use Rattle.hi_tree.specs.declared.declared.Declared.{Declared}
use Rattle.hi_tree.specs.Superinterfaces.{whole_climb, IsOffered, IsDefault, HasTwoDefaults}
use Rattle.hi_tree.specs.Walks.{IsAbove}
use Rattle.hi_tree.specs.Calls.Steps.{Marks}
use Rattle.hi_tree.specs.Calls.Walking.{IsOrdered, IsMet}
use Rattle.hi_tree.specs.Calls.Choosing.{Choice, offer_some}
use Rattle.hi_tree.specs.Calls.Choosing.{offered_of, AreDefaults, IsLeastOf, IsChosen}
use Rattle.hi_tree.proofs.OfferLemmas.{offer_is, offer_declared}
use Rattle.hi_tree.proofs.WalkLemmas.{clean-acyclic}

-- the classes of a whole walk are looked at one after the other, those that are above others last
module _ (classes : List ClassFile) (start name desc : List ℕ) (all : List (List ℕ)) where
  abbrev pub supers : List ℕ → List (List ℕ)
  supers = supertypes classes

  abbrev pub offer : List ℕ → Option Declared
  offer q = offered_of classes start name desc q

  abbrev pub cand : List ℕ → Bool
  cand q = is_some (offer q)

  abbrev pub Offered : List ℕ → Type 0
  Offered q = IsOffered classes start name desc q

  abbrev pub Default : List ℕ → Type 0
  Default q = IsDefault classes start name desc q

  -- an interface below it has a superinterface method
  abbrev pub IsShadedBy : List ℕ → Type 0
  IsShadedBy q = (j : List ℕ) × Offered j × IsAbove supers j q

  -- it was looked at
  abbrev pub Done : List (List ℕ) → List ℕ → Type 0
  Done rest p = Contains all p × (Contains rest p → ⊥)

  abbrev pub AreDefaultsSoFar : List (List ℕ) → Option (List ℕ) → Bool → Type 0
  AreDefaultsSoFar rest None another = (another ≡ false) × ((i : List ℕ) → Done rest i → Default i → ⊥)
  AreDefaultsSoFar rest (Some d) false = Done rest d × Default d × ((i : List ℕ) → Done rest i → Default i → i ≡ d)
  AreDefaultsSoFar rest (Some d) true = HasTwoDefaults classes start name desc

  abbrev pub IsLeastSoFar : List (List ℕ) → Option (List ℕ) → Type 0
  IsLeastSoFar rest None = (i : List ℕ) → Done rest i → Offered i → ⊥
  IsLeastSoFar rest (Some l) =
      Offered l × ((i : List ℕ) → Done rest i → Offered i → is_gt (slice_cmp nat_cmp l i) ≡ false)

  pub record IsChoosing (rest : List (List ℕ)) (marks : Marks) (c : Choice) : Type 0 where
    pub inside : (q : List ℕ) → Contains rest q → Contains all q
    pub ordered : IsOrdered supers rest
    pub shaded : (q : List ℕ) → IsTrue (is_some (marks q)) → IsShadedBy q
    pub full : (p q : List ℕ) (place : ℕ) → Done rest p → Offered p ⊎ IsShadedBy p → slice_get (supers p) place ≡ Some q
        → IsTrue (is_some (marks q))
    pub defaults : AreDefaultsSoFar rest c.default c.another
    pub least : IsLeastSoFar rest c.least

  -- the list is that of a whole walk
  module _ (met : IsMet (whole_climb classes) start all) where
    not_start : (q : List ℕ) → IsAbove supers start q → q ≡ start → ⊥
    not_start q above same =
        clean-acyclic (whole_climb classes) met.clean (subst (λ (x : List ℕ). IsAbove supers start x) same above)

    -- the test of an offer, by whether the name is that of the class itself
    test : Bool → List ℕ → Option Declared
    test t q = cond t None (offer_some name desc (known_class classes q))

    pub cand_offered : (q : List ℕ) → Contains all q → cand q ≡ true → Offered q
    unfolding test
    cand_offered q there holds = by (bytes_eq q start) refl
      where
        by : (t : Bool) → bytes_eq q start ≡ t → Offered q
        by true e = absurd (true≢false (sym holds ∙ ap (λ (t : Bool). is_some (test t q)) e))
        by false e = record {
          above = elim ((met.members q).0 there) [
            | inl same ↦ absurd (true≢false (sym ((bytes_eq-Decides q start).1 same) ∙ e))
            | inr above ↦ above
          ];
          offers = sym (ap (λ (t : Bool). is_some (test t q)) e ∙ offer_is name desc (known_class classes q)) ∙ holds;
        }

    offered_there : (q : List ℕ) → Offered q → Contains all q
    offered_there q is = (met.members q).1 (inr is.above)

    pub offered_cand : (q : List ℕ) → Offered q → cand q ≡ true
    unfolding test
    offered_cand q is = by (bytes_eq q start) refl
      where
        by : (t : Bool) → bytes_eq q start ≡ t → cand q ≡ true
        by true e = absurd (not_start q is.above ((bytes_eq-Decides q start).0 e))
        by false e = ap (λ (t : Bool). is_some (test t q)) e ∙ offer_is name desc (known_class classes q) ∙ is.offers

    pub offer_body : (q : List ℕ) (d : Declared) → offer q ≡ Some d
        → declared_some name desc (known_class classes q) ≡ Some d
    unfolding test
    offer_body q d e = by (bytes_eq q start) refl
      where
        by : (t : Bool) → bytes_eq q start ≡ t → declared_some name desc (known_class classes q) ≡ Some d
        by true h = absurd (none-some d (sym (ap (λ (t : Bool). test t q) h) ∙ e))
        by false h = offer_declared name desc (known_class classes q) d (sym (ap (λ (t : Bool). test t q) h) ∙ e)

    default_there : (q : List ℕ) → Default q → Contains all q
    default_there q is = offered_there q is.maximal.offered

    -- in the end
    pub chosen : (marks : Marks) (c : Choice) → IsChoosing [] marks c → IsChosen classes start name desc c
    chosen marks c is = record {
      defaults = defaults c.default c.another is.defaults;
      least = least c.least is.least;
    }
      where
        done : (i : List ℕ) → Contains all i → Done [] i
        done i there = (there, λ h. omega (arith, h.1))

        defaults : (d : Option (List ℕ)) (another : Bool) → AreDefaultsSoFar [] d another
            → AreDefaults classes start name desc d another
        defaults None another old = λ i def. old.1 i (done i (default_there i def)) def
        defaults (Some d) false old = record {
          default = old.1;
          only = λ i def. old.2 i (done i (default_there i def)) def;
        }
        defaults (Some d) true old = old

        least : (l : Option (List ℕ)) → IsLeastSoFar [] l → IsLeastOf classes start name desc l
        least None old = λ i offered. old i (done i (offered_there i offered)) offered
        least (Some l) old = record {
          offered = old.0;
          least = λ i offered. old.1 i (done i (offered_there i offered)) offered;
        }
