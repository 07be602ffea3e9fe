-- The units of a text, or its first unit at fault.
use Rattle.std.proofs.Common.{length, arith}
use Rattle.cf_pool.proofs.UnitListLemmas.{units_same, units_not_bad, bad_same}
use Rattle.cf_pool.proofs.UnitDecisionLemmas.{units_decided}
use Rattle.cf_pool.proofs.laws.one_text.Goals as goal

pub returns : goal.returns
returns c = λ text. record {
  one = units_decided (length text) text (omega arith);
  one_content = units_same text;
  one_fault = bad_same text;
  not_both = units_not_bad text;
}
