use Rattle.std.proofs.Common.{rules, ◌<◌, ◌≤◌, ◌+◌, ◌*◌, ◌^◌, length, refl, arith}
use Rattle.std.proofs.lemmas.Nat.{pow_pos}
use Rattle.cn_clauses.specs.declared.lit.Lit.{Lit}
use Rattle.cn_clauses.specs.Formulas.{variables_of}
use Rattle.jv_list.proofs.NumberLemmas.{double_next}
use Rattle.bb_arith.proofs.WordLemmas.{bit_within}
use Rattle.bb_arith.proofs.PowerLemmas.{power_of, power_below, power_same, next_power}
use Rattle.bb_arith.proofs.ShiftLemmas.{shift_start, shift_more, shift_whole, no_layer, layer_size, layers_within}
use Rattle.bb_arith.proofs.shift.shifted.Goals as goal

pub loop-places-init : goal.loop-places-init
loop-places-init g c =
    let n = g.row.W in
    let old = c.args.formula.now in
    let power = power_of n c.requires.power in
    record {
      power = refl;
      below = omega arith;
      within = let some = pow_pos power.exponent in let is = power.is in omega (arith, some, is);
      gate = shift_start c.extension_laws.ensures.itself old c.args.down n c.args.fill c.args.word.now
          c.args.distance.now c.told-word c.requires.word;
      size = no_layer n old;
    }

pub choose-requires : goal.choose-requires
choose-requires g c =
    let i = c.loop-places.i in
    let old = c.args.formula.now in
    let mid = c.loop-places.formula in
    let distance = c.args.distance.now in
    let d : Lit = record { 0 = 0 } in
    let so_far = c.loop-places.invariant.gate in
    let lt = c.loop-places-test.true in
    let below = c.loop-places.invariant.below in
    let in_distance : i < length distance = omega (arith, lt, below, c.told-distance) in
    let grows : variables_of old ≤ variables_of mid = so_far.extends.continues.grows in
    let of_fill = c.requires.fill.0 in (
      search rules,
      (
        (bit_within old mid distance i d grows c.requires.distance in_distance, tt),
        (c.moved-other.ensures.within mid so_far.within (omega (arith, grows, of_fill), tt), so_far.within),
      ),
    )

pub returns-in_err-shifted-clause-keeps : goal.returns-in_err-shifted-clause-keeps
returns-in_err-shifted-clause-keeps g c =
    let laws = c.growth_laws.ensures in
    let old = c.args.formula.now in
    let mid = c.loop-places.formula in
    laws.through old mid c.choose.new.formula (laws.extends old mid c.loop-places.invariant.gate.extends)
    c.choose.ensures.keeps

pub returns-in_err-shifted-clause-size : goal.returns-in_err-shifted-clause-size
returns-in_err-shifted-clause-size g c = λ m is.
    let n = g.row.W in
    let i = c.loop-places.i in
    let old = c.args.formula.now in
    let mid = c.loop-places.formula in
    let new = c.choose.new.formula in
    let lt = c.loop-places-test.true in
    let power = c.loop-places.invariant.power in
    let fewer = power_below i m (omega (arith, lt, power, is)) in
    layers_within n (i + 1) m old new (omega (arith, fewer))
    (layer_size n i old mid new c.loop-places.invariant.size c.choose.ensures.size)

pub loop-places-preserved : goal.loop-places-preserved
loop-places-preserved g c =
    let laws = c.extension_laws.ensures in
    let n = g.row.W in
    let i = c.loop-places.i in
    let places = c.loop-places.places in
    let old = c.args.formula.now in
    let mid = c.loop-places.formula in
    let new = c.choose.new.formula in
    let distance = c.args.distance.now in
    let d : Lit = record { 0 = 0 } in
    let lt = c.loop-places-test.true in
    let below = c.loop-places.invariant.below in
    let power = c.loop-places.invariant.power in
    let in_distance : i < length distance = omega (arith, lt, below, c.told-distance) in
    let whole = power_of n c.requires.power in
    let fits : 2 * 2 ^ i ≤ n = next_power i whole.exponent n whole.is (omega (arith, lt, power)) in
    let double = double_next i in
    record {
      power = omega (arith, power, double);
      below = omega (arith, below);
      within = omega (arith, fits, power);
      gate = shift_more laws.through n i places old mid new c.args.down c.args.word.now distance d c.args.fill
          c.loop-places.shifted c.moved-other.result c.in_ok-shifted.shifted power in_distance fits c.requires.zeros
          c.loop-places.invariant.gate c.moved-other.ensures.value c.in_ok-shifted.ensures.gate;
      size = layer_size n i old mid new c.loop-places.invariant.size c.choose.ensures.size;
    }

pub returns-clause-gate : goal.returns-clause-gate
returns-clause-gate g c =
    let n = g.row.W in
    let past = c.loop-places-test.false in
    let below = c.loop-places.invariant.below in
    let within = c.loop-places.invariant.within in
    let power = c.loop-places.invariant.power in
    shift_whole n c.loop-places.i c.args.formula.now c.loop-places.formula c.args.down c.args.word.now
    c.args.distance.now c.args.fill c.loop-places.shifted (omega (arith, past, within, power))
    (omega (arith, below, within, c.told-distance)) c.loop-places.invariant.gate

pub returns-clause-size : goal.returns-clause-size
returns-clause-size g c = λ m is.
    let n = g.row.W in
    let i = c.loop-places.i in
    let past = c.loop-places-test.false in
    let within = c.loop-places.invariant.within in
    let power = c.loop-places.invariant.power in
    let same = power_same i m (omega (arith, past, within, power, is)) in
    layers_within n i m c.args.formula.now c.loop-places.formula (omega (arith, same)) c.loop-places.invariant.size
