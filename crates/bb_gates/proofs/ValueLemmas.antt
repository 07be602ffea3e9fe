-- What gates come to where their operands are equal, opposite or constant: by their tables.
use Rattle.std.proofs.Common.{◌≡◌, Bool, true, false, not, refl, sym, ap, ◌∙◌}
use Rattle.cn_clauses.specs.Extension.{same}
use Rattle.bb_gates.specs.Values.{both, differ, parity, majority}
use Rattle.bb_gates.specs.Calls.Table.{everywhere}
use Rattle.bb_gates.proofs.TableLemmas.{everywhere_at, same_eq}

-- two functions of three values that have one table are the same
pub by_table : (f g : Bool → Bool → Bool → Bool) → everywhere (λ x y z. same (f x y z) (g x y z)) ≡ true
    → (x y z : Bool) → f x y z ≡ g x y z
by_table f g h x y z = same_eq (f x y z) (g x y z) (everywhere_at (λ x y z. same (f x y z) (g x y z)) h x y z)

pub both_opposite : (x y : Bool) → x ≡ not y → false ≡ both x y
both_opposite x y e =
    by_table (λ p q r. false) (λ p q r. both (not p) p) refl y y y ∙ ap (λ (z : Bool). both z y) (sym e)

pub differ_opposite : (x y : Bool) → x ≡ not y → true ≡ differ x y
differ_opposite x y e =
    by_table (λ p q r. true) (λ p q r. differ (not p) p) refl y y y ∙ ap (λ (z : Bool). differ z y) (sym e)

pub parity_turned : (x y z : Bool) → parity x y z ≡ parity y z x
parity_turned = by_table (λ x y z. parity x y z) (λ x y z. parity y z x) refl

pub majority_turned : (x y z : Bool) → majority x y z ≡ majority y z x
majority_turned = by_table (λ x y z. majority x y z) (λ x y z. majority y z x) refl
