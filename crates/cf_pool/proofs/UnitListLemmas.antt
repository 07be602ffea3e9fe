-- A text is units in one way, up to where no unit begins.
use Rattle.std.proofs.Common.{◌≡◌, ℕ, ◌<◌, List, [], ◌++◌, length, refl, sym, ap, ◌∙◌}
use Rattle.std.specs.List.{All}
use Rattle.std.proofs.lemmas.List.{append-nil}
use Rattle.jv_list.proofs.LengthLemmas.{nothing_left}
use Rattle.jv_list.proofs.ToldLemmas.{told, told_all}
use Rattle.cf_pool.specs.ModifiedUtf8.{IsUnit, encoded_unit, encoded_units, AreUnitsOf, BeginNoUnit, IsBadUnit}
use Rattle.cf_pool.proofs.UnitLemmas.{none_of_nil, unit_same}

pub one_split : (us vs a b : List ℕ) → All IsUnit us → All IsUnit vs → BeginNoUnit a → BeginNoUnit b
    → encoded_units us ++ a ≡ encoded_units vs ++ b → (us ≡ vs) × (a ≡ b)
one_split = told encoded_unit IsUnit unit_same

pub units_same : (text us vs : List ℕ) → AreUnitsOf text us → AreUnitsOf text vs → us ≡ vs
units_same text us vs h k =
    told_all encoded_unit IsUnit unit_same us vs h.units_fit k.units_fit none_of_nil (sym h.spelled ∙ k.spelled)

pub units_not_bad : (text us : List ℕ) (place : ℕ) → AreUnitsOf text us → IsBadUnit text place → ⊥
units_not_bad text us place h bad =
    nothing_left bad.rest (one_split us bad.units [] bad.rest h.units_fit bad.units_fit none_of_nil bad.none
    (append-nil (encoded_units us) ∙ sym h.spelled ∙ bad.parts)).1 bad.more

pub bad_same : (text : List ℕ) (p q : ℕ) → IsBadUnit text p → IsBadUnit text q → p ≡ q
bad_same text p q h k =
    let same = one_split h.units k.units h.rest k.rest h.units_fit k.units_fit h.none k.none (sym h.parts ∙ k.parts) in
    h.place_is ∙ ap (λ (us : List ℕ). length (encoded_units us)) same.0 ∙ sym k.place_is

-- where no unit is spelled, the text is no spelling of units
pub not_units : (text units rest : List ℕ) → All IsUnit units → text ≡ encoded_units units ++ rest → 0 < length rest
    → BeginNoUnit rest → (us : List ℕ) → AreUnitsOf text us → ⊥
not_units text units rest fits parts more none us are =
    units_not_bad text us (length (encoded_units units)) are
    (record {
      units = units;
      rest = rest;
      units_fit = fits;
      parts = parts;
      place_is = refl;
      more = more;
      none = none;
    })
