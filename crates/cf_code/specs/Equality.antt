-- When `==` finds two switches equal: field by field.
use Rattle.std.specs.Prelude.{nat_eq, Bool}
use Rattle.std.specs.Ordering.{on, eq_of_both, int_eq}
use Rattle.std.specs.Cmp.Lexicographic.{pointwise}
use Rattle.cf_code.specs.declared.switch.Case.{Case}
use Rattle.cf_code.specs.declared.switch.TableSwitch.{TableSwitch}
use Rattle.cf_code.specs.declared.switch.LookupSwitch.{LookupSwitch}

-- the key and the target of a case
abbrev pub case_eq : Case → Case → Bool
case_eq = eq_of_both (on (λ c. c.key) int_eq) (on (λ c. c.target) nat_eq)

-- the padding, the default, the least key and the targets of a table
abbrev pub table_eq : TableSwitch → TableSwitch → Bool
table_eq =
    eq_of_both (on (λ s. s.padding) (pointwise nat_eq)) (eq_of_both (on (λ s. s.default) nat_eq) (eq_of_both (on (λ s. s.low) int_eq) (on (λ s. s.targets) (pointwise nat_eq))))

-- the padding, the default and the cases of a lookupswitch
abbrev pub lookup_eq : LookupSwitch → LookupSwitch → Bool
lookup_eq =
    eq_of_both (on (λ s. s.padding) (pointwise nat_eq)) (eq_of_both (on (λ s. s.default) nat_eq) (on (λ s. s.cases) (pointwise case_eq)))
