-- How a bank keeps its terms: their operations, their sorts, and where each operation stands.
use Rattle.std.specs.Prelude.{◌≡◌, ◌<◌, ℕ, List, length, slice_get, Some, Option, false, cond}
use Rattle.std.specs.HashMap.{HashMap, get}
use Rattle.tm_terms.specs.Terms.{is_free, term_sort, AreTerms}
use Rattle.tm_terms.specs.Sharing.{AreFolded, AreReduced}
use Rattle.tm_terms.specs.declared.sort.Sort.{Sort}
use Rattle.tm_terms.specs.declared.op.Op.{Op}
use Rattle.tm_terms.specs.contracts.op.OpPartialEq.TheImpl as op_eq

-- where the map has an operation
abbrev pub place_in : {S : Type 0} → HashMap Op ℕ S → Op → Option ℕ
place_in places op = get (op_eq.ghosts).eq places op

-- the sorts are those of the terms
pub record AreSorts (ops : List Op) (sorts : List Sort) : Type 0 where
  pub even : length sorts ≡ length ops
  pub each : (k : ℕ) → k < length ops → slice_get sorts k ≡ Some (term_sort ops k)

-- the map has the places of the operations that are not free
pub record ArePlaces {S : Type 0} (ops : List Op) (places : HashMap Op ℕ S) : Type 0 where
  pub found : (op : Op) (k : ℕ) → place_in places op ≡ Some k → slice_get ops k ≡ Some op
  pub all : (k : ℕ) (op : Op) → is_free op ≡ false → slice_get ops k ≡ Some op → place_in places op ≡ Some k

-- what holds of every bank
pub record IsBank {S : Type 0} (ops : List Op) (sorts : List Sort) (places : HashMap Op ℕ S) : Type 0 where
  pub terms : AreTerms ops
  pub folded : AreFolded ops
  pub reduced : AreReduced ops
  pub sorted : AreSorts ops sorts
  pub placed : ArePlaces ops places

-- the new map has the operation at a place, and the others where the old one has them
pub record PutsAt {S : Type 0} (old new : HashMap Op ℕ S) (op : Op) (place : ℕ) : Type 0 where
  pub each : (x : Op) → place_in new x ≡ cond ((op_eq.ghosts).eq op x) (Some place) (place_in old x)
  pub here : place_in new op ≡ Some place

-- the new map has what the old one has
pub record HasSame {S : Type 0} (old new : HashMap Op ℕ S) : Type 0 where
  pub each : (x : Op) → place_in new x ≡ place_in old x
