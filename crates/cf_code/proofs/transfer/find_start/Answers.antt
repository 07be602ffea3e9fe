use Rattle.std.proofs.Common.{◌≡◌, ◌≤◌, ◌<◌, ℕ, List, length, get_or, Contains, Some, inl, inr, nat_cmp, sym, ◌∙◌, ap}
use Rattle.std.proofs.Common.{arith}
use Rattle.std.specs.declared.cmp.Ordering.TheVariants.{Less, Equal, Greater}
use Rattle.std.specs.Result.{result_ok}
use Rattle.std.proofs.lemmas.Bool.{cases_lt}
use Rattle.std.proofs.lemmas.Cmp.{nat_cmp_total, tied_itself}
use Rattle.std.proofs.lemmas.List.{get_or_default}
use Rattle.std.proofs.lemmas.List.Sorted.{searchable_from_sorted}
use Rattle.std.proofs.lemmas.Result.{Ok-from_Ok_iff, OkIff-decides}
use Rattle.cf_code.proofs.WayLemmas.{start_missing}
use Rattle.cf_code.proofs.transfer.find_start.Goals as goal

-- what is not where a search ended is nowhere
not_there : (xs : List ℕ) (x i : ℕ) → ((k d : ℕ) → 0 ≤ k → k < i → nat_cmp (get_or xs k d) x ≡ Less)
    → ((k d : ℕ) → i ≤ k → k < length xs → nat_cmp (get_or xs k d) x ≡ Greater) → Contains xs x → ⊥
not_there xs x i low high is =
    let same = sym (tied_itself nat_cmp_total x) ∙ sym (ap (λ (n : ℕ). nat_cmp n x) is.2) in
    elim (cases_lt is.0 i) [
      | inl below ↦ let e : Equal ≡ Less = same ∙ low is.0 x (omega arith) below in absurd cc
      | inr above ↦ let e : Equal ≡ Greater = same ∙ high is.0 x above is.1 in absurd cc
    ]

pub returns-in_err-pc : goal.returns-in_err-pc
returns-in_err-pc c =
    let missing = start_missing c.args.starts.now c.args.pc (λ is.
    let fits = c.type_inv.starts is.0 in
    let read = get_or_default c.args.starts.now is.0 0 c.args.pc is.1 in
    let small : c.args.pc < 65536 = omega (arith, fits, read, is.2) in
    let e = c.in_err-pc.ensures.value ∙ ap result_ok (Ok-from_Ok_iff _ _ _ c.try_from.ensures small) in
    absurd cc) in
    c.from_residual.ensures ∙ sym missing

pub returns-in-Err : goal.returns-in-Err
returns-in-Err c =
    let small = (OkIff-decides _ _ _ c.try_from.ensures).0 (sym c.in_ok-pc.ensures.variant) in
    let same : Some c.in_ok-pc.pc ≡ Some c.args.pc = c.in_ok-pc.ensures.value
    ∙ ap result_ok (Ok-from_Ok_iff _ _ _ c.try_from.ensures small) in
    let pc_is : c.in_ok-pc.pc ≡ c.args.pc = cc in
    let cut =
    c.in-Err.ensures.position
    (searchable_from_sorted nat_cmp_total (λ (n : ℕ). n) c.args.starts.now c.in_ok-pc.pc c.requires) in
    let missing =
    start_missing c.args.starts.now c.in_ok-pc.pc
    (not_there c.args.starts.now c.in_ok-pc.pc c.in-Err.field-0 cut.0 cut.1) in
    rw (← pc_is) (sym missing)
