-- The longest of the fronts of a name and of the special words.
use Rattle.std.proofs.Common.{◌≡◌, ℕ, max, subst}
use Rattle.jv_base.specs.Calls.Fronts.{IsLongestFront}
use Rattle.jv_base.specs.Calls.Parts.{IsAnyMethodText}
use Rattle.jv_base.proofs.FrontLemmas.{either_front}
use Rattle.jv_base.proofs.MethodNameLemmas.{method_longest}
use Rattle.jv_base.proofs.site.method_front.Goals as goal

pub returns-clause-longest : goal.returns-clause-longest
returns-clause-longest c =
    let two = either_front c.spelled_front.ensures.longest c.word_front.ensures.longest in
    let all = either_front two c.word_front-2.ensures.longest in
    let same : max (max c.spelled_front.result c.word_front.result) c.word_front-2.result ≡ c.max-2.result =
    cc (c.max.ensures, c.max-2.ensures) in
    subst (λ (k : ℕ). IsLongestFront IsAnyMethodText c.args.text.now k) same (method_longest c.args.text.now _ all)
