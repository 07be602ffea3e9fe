-- The Codes of a file, one after the other, as a loop judges them.
use Rattle.std.proofs.Common.{◌≡◌, ℕ, ◌+◌, ◌<◌, ◌≤◌, List, [], ◌∷◌, ◌++◌, length, take, get_or, map, sym, ap, ◌∙◌}
use Rattle.std.proofs.Common.{subst}
use Rattle.std.specs.List.{flat_map, AllZip, AllByRecursion}
use Rattle.std.proofs.lemmas.List.{take_all, map_push}
use Rattle.std.proofs.lemmas.List.Folds.{flat_map-map}
use Rattle.jv_list.proofs.FirstLemmas.{all_member}
use Rattle.jv_list.proofs.MemberLemmas.{in_map}
use Rattle.jv_list.proofs.PlaceLemmas.{take_with}
use Rattle.cf_pool.specs.declared.entry.PoolEntry.{PoolEntry}
use Rattle.cf_structure.specs.declared.fault.ClassFault.{ClassFault}
use Rattle.cf_structure.specs.ClassFile.{Names}
use Rattle.cf_code.specs.declared.code.Placed.{Placed}
use Rattle.cf_code.specs.Decoding.{IsCode}
use Rattle.cf_bodies.specs.declared.place.CodeAt.{CodeAt}
use Rattle.cf_bodies.specs.Places.{PlacedCode}
use Rattle.cf_bodies.specs.Checks.{CheckAt, code_checks}
use Rattle.cf_bodies.specs.Bodies.{AreBodies}
use Rattle.cf_bodies.specs.Calls.Tells.{ArePassed, IsFirstFailed}
use Rattle.cf_bodies.specs.Calls.Views.{placed_of, FitsPlaced}
use Rattle.cf_bodies.proofs.CheckLemmas.{more_passed, stops_there}
use Rattle.jv_list.proofs.ZipLemmas.{zip_push}

-- the checks of a Code that was found
abbrev checks_of : CodeAt → List CheckAt
checks_of c = code_checks (placed_of c)

module _ (pool : List PoolEntry) (cs : List CodeAt) where
  -- the first so many are passed, with these instructions
  pub record AreJudged (count : ℕ) (bodies : List (List Placed)) : Type 0 where
    pub passed : ArePassed pool (flat_map checks_of (take count cs))
    pub are : AreBodies (map placed_of (take count cs)) bodies

  pub none_judged : AreJudged 0 []
  none_judged = record { passed = tt; are = tt }

  whole : flat_map code_checks (map placed_of cs) ≡ flat_map checks_of cs
  whole = flat_map-map code_checks placed_of cs

  module _ (i : ℕ) (bodies : List (List Placed)) (x : CodeAt) (lt : i < length cs) (is : x ≡ get_or cs i x)
      (done : AreJudged i bodies) where
    pub one_more : (body : List Placed) → IsCode x.code.now.code.now body × ArePassed pool (checks_of x)
        → AreJudged (i + 1) (bodies ++ body ∷ [])
    one_more body h = record {
      passed = more_passed pool checks_of cs i x lt is done.passed h.1;
      are =
          let more : map placed_of (take (i + 1) cs) ≡ map placed_of (take i cs) ++ placed_of x ∷ [] =
          ap (map placed_of) (take_with cs i x lt is) ∙ map_push placed_of (take i cs) x in
          subst (λ (xs : List PlacedCode). AreBodies xs (bodies ++ body ∷ [])) (sym more)
          (zip_push _ (map placed_of (take i cs)) bodies (placed_of x) body done.are h.0);
    }

    pub stops : (refusal : ClassFault) → Names (IsFirstFailed pool (checks_of x)) refusal
        → Names (IsFirstFailed pool (flat_map code_checks (map placed_of cs))) refusal
    stops refusal h =
        subst (λ (ds : List CheckAt). Names (IsFirstFailed pool ds) refusal) (sym whole)
        (stops_there pool checks_of cs i x lt is done.passed refusal h)

  pub all_judged : (i : ℕ) (bodies : List (List Placed)) → length cs ≤ i → AreJudged i bodies
      → AreBodies (map placed_of cs) bodies × ArePassed pool (flat_map code_checks (map placed_of cs))
  all_judged i bodies le done = (
    subst (λ (xs : List CodeAt). AreBodies (map placed_of xs) bodies) (take_all i cs le) done.are,
    subst (ArePassed pool) (sym whole)
        (subst (λ (xs : List CodeAt). ArePassed pool (flat_map checks_of xs)) (take_all i cs le) done.passed),
  )

-- each Code fits where all do
pub code_fits : (cs : List CodeAt) (i : ℕ) (x : CodeAt) → i < length cs → x ≡ get_or cs i x
    → AllByRecursion FitsPlaced (map placed_of cs)
    → FitsPlaced (placed_of x)
code_fits cs i x lt is fit =
    all_member FitsPlaced (map placed_of cs) (placed_of x) fit (in_map placed_of cs x (i, lt, sym is))
