-- One more value at each turn.
use Rattle.std.proofs.Common.{◌≡◌, ◌<◌, refl, sym, ◌∙◌, arith, length, take, get_or, Some, true, false}
use Rattle.std.specs.Prelude.{slice_get}
use Rattle.std.proofs.lemmas.Option.{slice_get-get_or}
use Rattle.std.proofs.lemmas.List.{length-take}
use Rattle.tm_terms.specs.declared.sort.Sort.TheVariants.{Bool as Truth}
use Rattle.tm_terms.specs.declared.op.Op.TheVariants.{Free}
use Rattle.tm_terms.specs.Terms.{free_count, is_free}
use Rattle.tm_terms.proofs.ValueLemmas.{on-listed, number-listed, values-next, frees-next, free_count-le}
use Rattle.tm_terms.proofs.values.first_values.Goals as goal
use Rattle.tm_terms.proofs.values.first_values.Goals.{then-is_free, else-is_free}

pub loop-k-init : goal.loop-k-init
unfolding free_count
loop-k-init c = record {
  values = record { even = rw c.in_ok-numbers.ensures refl; each = λ k h. absurd (omega (arith, h)) };
  inputs = refl;
}

pub number_on-number-requires : goal.number_on-number-requires
number_on-number-requires c =
    let within : c.loop-k.k < length c.args.ops.now = omega arith in
    rw c.as_slice.ensures
    (on-listed c.args.ops.now c.args.v.now c.loop-k.k _ c.args.sorts.now c.loop-k.numbers c.requires.terms
    c.requires.sorts
    (slice_get-get_or c.args.ops.now c.loop-k.k (Free Truth) within) c.loop-k.invariant.values)

pub overflow_add-inputs : goal.overflow_add-inputs
overflow_add-inputs c =
    let few = free_count-le (take c.loop-k.k c.args.ops.now) in
    let short = length-take c.loop-k.k c.args.ops.now in
    let count = c.ranges.count.fits in
    omega (arith, c.loop-k.invariant.inputs)

pub loop-k-preserved : goal.loop-k-preserved
loop-k-preserved c =
    let within : c.loop-k.k < length c.args.ops.now = omega arith in
    let op = get_or c.args.ops.now c.loop-k.k (Free Truth) in
    let e : slice_get c.args.ops.now c.loop-k.k ≡ Some op = slice_get-get_or c.args.ops.now c.loop-k.k
    (Free Truth) within in
    let number = rw (c.as_slice.ensures, c.input_at-input.ensures, c.loop-k.invariant.inputs) at
    c.number_on-number.ensures in
    let next = frees-next c.args.ops.now c.loop-k.k op e in
    record {
      values = rw c.in_ok-add.ensures.ok
          (values-next c.args.ops.now c.args.v.now c.loop-k.k c.loop-k.numbers c.number_on-number.result
          c.loop-k.invariant.values
          (number ∙ number-listed c.args.ops.now c.args.v.now c.loop-k.k op c.args.sorts.now c.loop-k.numbers
          c.requires.terms
          c.requires.sorts e c.loop-k.invariant.values));
      inputs = elim c.if-is_free.branch [
        | then-is_free w ↦
            let free : is_free op ≡ true = sym c.is_free.ensures ∙ w.if-is_free.true in
            w.inputs-is ∙ omega (arith, c.loop-k.invariant.inputs, rw free at next)
        | else-is_free w ↦
            let free : is_free op ≡ false = sym c.is_free.ensures ∙ w.if-is_free.false in
            w.inputs-is ∙ omega (arith, c.loop-k.invariant.inputs, rw free at next)
      ];
    }
