use Rattle.std.proofs.Common.{◌≡◌, ◌<◌, ℕ, ℤ, pos, ◌+ℤ◌, ◌-ℤ◌, length, arith, rules, sym, ap, subst, ◌∙◌, to_z, of_z}
use Rattle.std.proofs.Common.{w32}
use Rattle.std.proofs.lemmas.Bool.{both_ways}
use Rattle.std.proofs.lemmas.Int.{ints}
use Rattle.std.specs.List.{flat_map}
use Rattle.std.specs.Int.RustNames.{FitsSigned}
use Rattle.cf_code.specs.Switches.{far, high_key}
use Rattle.cf_code.proofs.SwitchLemmas.{table_found}
use Rattle.cf_code.proofs.switch.read_table_body.Goals as goal

pub returns-in_default-clause-only : goal.returns-in_default-clause-only
returns-in_default-clause-only c default low targets fits is =
    absurd (c.in_default.ensures.only default low (high_key low targets)
    (flat_map (far c.args.pc) targets) fits.is_pc fits.low_fits fits.high_fits is)

pub returns-then-not-is_whole-clause-only : goal.returns-then-not-is_whole-clause-only
returns-then-not-is_whole-clause-only c default low targets fits is =
    let head =
    c.in-Some.ensures.only default low (high_key low targets)
    (flat_map (far c.args.pc) targets) fits.is_pc fits.low_fits fits.high_fits is in
    let entries = c.in_ok-targets.ensures.only targets fits.are_pcs head.3 in
    let given : c.in-Some-2.targets ≡ targets = cc in
    let long : c.length.result ≡ length targets = c.length.ensures ∙ ap length given in
    let some : 0 < c.length.result = omega (arith, fits.some) in
    let low_is : to_z w32 (of_z w32 c.in-Some.low) ≡ low = omega (arith, ints) in
    let high_is : to_z w32 (of_z w32 c.in-Some.high) ≡ high_key low targets = omega (arith, ints, fits.high_fits) in
    let key_is = ap (λ (z : ℤ). z +ℤ pos c.length.result -ℤ pos 1) low_is
    ∙ ap (λ (n : ℕ). low +ℤ pos n -ℤ pos 1) long in
    let whole = c.is_whole.ensures.1 (some, high_is ∙ sym key_is) in
    absurd (both_ways c.is_whole.result c.if-not-is_whole.true whole)

pub returns-clause-found : goal.returns-clause-found
returns-clause-found c =
    let whole = c.is_whole.ensures.0 c.if-not-is_whole.false in
    let entries = rw c.in-Some-2.is at c.in_ok-targets.ensures.found in
    let low_fits : FitsSigned w32 c.in-Some.low = search rules in
    let high_fits : FitsSigned w32 c.in-Some.high = search rules in
    let low_same : to_z w32 (of_z w32 c.in-Some.low) ≡ c.in-Some.low = omega (arith, ints) in
    let high_same : to_z w32 (of_z w32 c.in-Some.high) ≡ c.in-Some.high = omega (arith, ints) in
    let high_is : to_z w32 (of_z w32 c.in-Some.high) ≡ high_key
    (to_z w32 (of_z w32 c.in-Some.low)) c.in-Some-2.targets =
    whole.1 ∙ ap (λ (n : ℕ). to_z w32 (of_z w32 c.in-Some.low) +ℤ pos n -ℤ pos 1) c.length.ensures in (
      table_found c.args.pc c.in-Some.default c.in-Some.low c.in-Some.high (to_z w32 (of_z w32 c.in-Some.low))
          (to_z w32 (of_z w32 c.in-Some.high)) c.args.bytes.now c.in-Some.offsets.now c.in-Some-2.targets
          c.in-Some.ensures.found.0 low_same high_same high_is entries.0,
      record {
        is_pc = c.in-Some.ensures.found.1;
        low_fits = subst (λ (z : ℤ). FitsSigned w32 z) (sym low_same) low_fits;
        high_fits = subst (λ (z : ℤ). FitsSigned w32 z) (sym high_same ∙ high_is) high_fits;
        some = omega (arith, whole.0);
        are_pcs = entries.1;
      },
    )

pub returns-clause-only : goal.returns-clause-only
returns-clause-only c default low targets fits is =
    let head =
    c.in-Some.ensures.only default low (high_key low targets)
    (flat_map (far c.args.pc) targets) fits.is_pc fits.low_fits fits.high_fits is in
    let entries = c.in_ok-targets.ensures.only targets fits.are_pcs head.3 in
    let low_is : to_z w32 (of_z w32 c.in-Some.low) ≡ low = omega (arith, ints) in
    cc
