use Rattle.std.proofs.Common.{◌==◌, ℕ, eqb-true, eq-eqb}
use Rattle.std.proofs.lemmas.Bool.{ne_eqb, eqb-false}
use Rattle.std.proofs.lemmas.List.Quantifiers.{position-Some}
use Rattle.jv_list.proofs.PositionLemmas.{position_is, position_none, none_passes}
use Rattle.st_text.proofs.laws.place_laws.Goals as goal

pub returns-clause-least : goal.returns-clause-least
returns-clause-least c =
    λ text unit place. (
      (λ found. let at = position-Some (λ other. other == unit) text place 0 found in
          record {
            within = at.0;
            stands = eqb-true _ unit at.1;
            least = λ k below. eqb-false _ unit (at.2 k below);
          }),
      λ is. position_is (λ (other : ℕ). other == unit) text 0 place is.within
          (λ j below. ne_eqb _ unit (is.least j below)) (eq-eqb _ unit is.stands),
    )

pub returns-clause-none : goal.returns-clause-none
returns-clause-none c =
    λ text unit. (
      (λ none k within. eqb-false _ unit (none_passes (λ (other : ℕ). other == unit) text none k 0 within)),
      λ nowhere. position_none (λ (other : ℕ). other == unit) text 0 (λ j within. ne_eqb _ unit (nowhere j within)),
    )
