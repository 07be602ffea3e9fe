use Rattle.std.proofs.Common.{◌≡◌, ◌++◌, ℕ, List, Some, pos, ◌+ℤ◌, ◌-ℤ◌, ap, ◌∙◌, arith, rules, to_z, of_z, w32}
use Rattle.std.specs.Prelude.{◌≤ℤ◌, ◌<ℤ◌}
use Rattle.std.specs.Int.RustNames.{FitsSigned}
use Rattle.std.proofs.lemmas.Int.{ints}
use Rattle.cf_code.specs.Bytes.{signed_four}
use Rattle.cf_code.proofs.SwitchLemmas.{one_count}
use Rattle.cf_code.proofs.size.table_keys.Goals as goal

pub returns-clause-found : goal.returns-clause-found
returns-clause-found c =
    let default_fits : FitsSigned w32 c.in_ok-rest.field-0-0 = search rules in
    let low_fits : FitsSigned w32 c.in_ok-low.low = search rules in
    let high_fits : FitsSigned w32 c.in_ok-high.high = search rules in
    let low_same : to_z w32 (of_z w32 c.in_ok-low.low) ≡ c.in_ok-low.low = omega (arith, ints) in
    let high_same : to_z w32 (of_z w32 c.in_ok-high.high) ≡ c.in_ok-high.high = omega (arith, ints) in
    record {
      default = c.in_ok-rest.field-0-0;
      low = c.in_ok-low.low;
      high = c.in_ok-high.high;
      tail = c.in_ok-high.field-0-1.now;
      parts = c.in_ok-rest.ensures.found ∙ ap (λ (t : List ℕ). signed_four c.in_ok-rest.field-0-0 ++ t)
          (c.in_ok-low.ensures.found
          ∙ ap (λ (t : List ℕ). signed_four c.in_ok-low.low ++ t) c.in_ok-high.ensures.found);
      default_fits = default_fits;
      low_fits = low_fits;
      high_fits = high_fits;
      some = λ le.
          let le' : to_z w32 (of_z w32 c.in_ok-low.low) ≤ℤ to_z w32 (of_z w32 c.in_ok-high.high) =
          omega (arith, ints) in
          let e = c.key_count.ensures.some le' in
          omega (arith, ints);
      none = λ lt.
          let lt' : to_z w32 (of_z w32 c.in_ok-high.high) <ℤ to_z w32 (of_z w32 c.in_ok-low.low) =
          omega (arith, ints) in
          c.key_count.ensures.none lt';
    }

pub returns-clause-only : goal.returns-clause-only
returns-clause-only c n h =
    let first =
    c.in_ok-rest.ensures.only h.default (signed_four h.low ++ (signed_four h.high ++ h.tail)) h.default_fits h.parts
    in
    let second = c.in_ok-low.ensures.only h.low (signed_four h.high ++ h.tail) h.low_fits first.1 in
    let third = c.in_ok-high.ensures.only h.high h.tail h.high_fits second.1 in
    let low_is : to_z w32 (of_z w32 c.in_ok-low.low) ≡ h.low = omega (arith, ints) in
    let high_is : to_z w32 (of_z w32 c.in_ok-high.high) ≡ h.high = omega (arith, ints) in
    let some : h.low ≤ℤ h.high → pos c.key_count.result ≡ h.high -ℤ h.low +ℤ pos 1 = λ le.
    let le' : to_z w32 (of_z w32 c.in_ok-low.low) ≤ℤ to_z w32 (of_z w32 c.in_ok-high.high) = omega (arith, ints) in
    let e = c.key_count.ensures.some le' in
    omega (arith, ints) in
    let none : h.high <ℤ h.low → c.key_count.result ≡ 0 = λ lt.
    let lt' : to_z w32 (of_z w32 c.in_ok-high.high) <ℤ to_z w32 (of_z w32 c.in_ok-low.low) = omega (arith, ints) in
    c.key_count.ensures.none lt' in
    ap (λ (m : ℕ). Some m) (one_count h.low h.high c.key_count.result n some none h.some h.none)
