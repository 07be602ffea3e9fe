-- The longest of the fronts of the words.
use Rattle.std.proofs.Common.{ℕ, subst}
use Rattle.jv_base.specs.Calls.Fronts.{IsLongestFront}
use Rattle.jv_base.specs.Calls.Parts.{IsKindText}
use Rattle.jv_base.proofs.FrontLemmas.{either_front}
use Rattle.jv_base.proofs.KindLemmas.{kind_longest}
use Rattle.jv_base.proofs.site.kind_front.Goals as goal

pub returns-clause-longest : goal.returns-clause-longest
returns-clause-longest c =
    let two = either_front c.word_front.ensures.longest c.word_front-2.ensures.longest in
    let four = either_front (either_front two c.word_front-3.ensures.longest) c.word_front-4.ensures.longest in
    let six = either_front (either_front four c.word_front-5.ensures.longest) c.word_front-6.ensures.longest in
    let all = either_front (either_front six c.word_front-7.ensures.longest) c.word_front-8.ensures.longest in
    subst (λ (k : ℕ). IsLongestFront IsKindText c.args.text.now k)
    (cc (
      c.max.ensures,
      c.max-2.ensures,
      c.max-3.ensures,
      c.max-4.ensures,
      c.max-5.ensures,
      c.max-6.ensures,
      c.max-7.ensures,
    ))
    (kind_longest c.args.text.now _ all)
