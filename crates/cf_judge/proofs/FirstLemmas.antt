-- Where texts first stand.
use Rattle.std.proofs.Common.{ℕ, ◌<◌, List, Option, Some, None, sym, subst, inl, inr, arith, unwrap_or}
use Rattle.std.proofs.lemmas.Bool.{cases_lt}
use Rattle.cf_pool.specs.declared.entry.PoolEntry.{PoolEntry}
use Rattle.cf_judge.specs.declared.text.Text.{Text}
use Rattle.cf_judge.specs.Forms.{HasText}
use Rattle.cf_judge.specs.Texts.{IsFirstIndex, IsTextFor}
use Rattle.cf_judge.specs.Calls.Firsts.{IsKnownText, IsFirstBelow}

module _ (pool : List PoolEntry) (units : List ℕ) (index : ℕ) where
  -- the first index of a text that stands at an index, which is that one, if there is none before it
  pub first_index : (found : Option ℕ) → IsFirstBelow pool index units found → HasText pool index units
      → IsFirstIndex pool units (unwrap_or found index)
  first_index (Some first) below stands = record {
    stands = below.some.1;
    least = λ other at. elim (cases_lt other index) [
      | inl lt ↦ below.some.2 other lt at
      | inr ge ↦ let lt : first < index = below.some.0 in omega arith
    ];
  }
  first_index None below stands = record {
    stands = stands;
    least = λ other at. elim (cases_lt other index) [ inl lt ↦ absurd (below.none other lt at) | inr ge ↦ ge ];
  }

pub known_text : (pool : List PoolEntry) (units : List ℕ) (first : ℕ) (t : Text) → IsKnownText units first t
    → IsFirstIndex pool units first → IsTextFor pool units t
known_text pool units first t known is = record {
  forms = known.forms;
  name = known.name;
  none = known.none;
  first = subst (IsFirstIndex pool units) (sym known.first_is) is;
}
