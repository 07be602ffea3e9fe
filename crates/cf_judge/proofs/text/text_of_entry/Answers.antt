use Rattle.std.proofs.Common.{ℕ, List, Some, sym, ap, ◌∙◌, subst}
use Rattle.cf_pool.specs.declared.entry.PoolEntry.TheVariants.{Utf8}
use Rattle.cf_judge.specs.Forms.{HasText}
use Rattle.cf_judge.specs.Texts.{IsFirstIndex}
use Rattle.cf_judge.specs.Calls.Firsts.{first_in}
use Rattle.cf_judge.proofs.FirstLemmas.{first_index, known_text}
use Rattle.cf_judge.proofs.text.text_of_entry.Goals as goal

pub returns-in_ok-text_of-in-Utf8-clause-text : goal.returns-in_ok-text_of-in-Utf8-clause-text
returns-in_ok-text_of-in-Utf8-clause-text c = λ pool firsts stands.
    let units : List ℕ = c.as_slice-units.result.now in
    let first : ℕ = c.in_ok-first-in-Utf8.first in
    let same = c.as_slice-units.ensures in
    let here : HasText pool c.args.index units = stands ∙ ap (λ e. Some e) (c.in-Utf8.is ∙ ap Utf8 (sym same)) in
    let is = first_index pool units c.args.index (first_in c.args.firsts.now units) (firsts units) here in
    let first_is = subst (IsFirstIndex pool units) (sym c.in_ok-first-in-Utf8.ensures.value) is in
    let known = known_text pool units first c.in_ok-text_of-in-Utf8.field-0 c.in_ok-text_of-in-Utf8.ensures first_is in
    rw c.in-Utf8.is (rw (← same) known)
