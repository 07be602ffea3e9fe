use Rattle.std.proofs.Common.{◌≡◌, ◌≤◌, ◌+◌, ◌*◌, ◌^◌, ◌∷◌, [], List, length, sym, subst, arith}
use Rattle.std.proofs.lemmas.List.{length-append}
use Rattle.cn_clauses.specs.declared.lit.Lit.{Lit}
use Rattle.cn_clauses.specs.Literals.{lit_value}
use Rattle.bb_gates.specs.Growth.{AreOf}
use Rattle.bb_arith.specs.Words.{number_of}
use Rattle.jv_list.specs.Numbers.{bit_number}
use Rattle.bb_terms.proofs.WordLemmas.{longer_value, word_push}
use Rattle.bb_terms.proofs.widths.longer.Goals as goal

pub loop-fill-preserved : goal.loop-fill-preserved
loop-fill-preserved c =
    let made = c.loop-fill.made in
    let fill = c.args.fill in
    let lits = c.args.lits.now in
    let so_far = c.loop-fill.invariant in
    let is = sym c.in_ok-add.ensures.ok in
    let count = length-append made (fill ∷ []) in
    let room = rw c.length.ensures at c.loop-fill-test.true in
    record {
      fits = subst (λ (l : List Lit). length l ≤ c.args.width) is (omega (arith, room, count));
      within = λ f all one. subst (AreOf f) is (word_push f made fill (so_far.within f all one) one.0);
      value = λ w. subst (λ (l : List Lit). number_of w l + bit_number (lit_value w fill) * 2 ^ length lits
          ≡ number_of w lits + bit_number (lit_value w fill) * 2 ^ length l) is
          (longer_value w lits made fill (so_far.value w));
    }
