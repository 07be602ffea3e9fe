-- Each digit is read, as far as it can be one of a pc.
use Rattle.std.proofs.Common.{◌≡◌, ℕ, length, subst, arith, inl, inr}
use Rattle.jv_base.specs.Calls.Fronts.{IsLongestFront}
use Rattle.jv_base.specs.Calls.Parts.{IsPcText}
use Rattle.jv_base.proofs.PcLemmas.{pc_longest, read_more}
use Rattle.jv_base.proofs.site.leading_pc.Goals as goal

pub returns-then-value-eq0-clause-longest : goal.returns-then-value-eq0-clause-longest
returns-then-value-eq0-clause-longest c =
    let l = c.loop-count in
    pc_longest c.args.text.now l.count l.value l.invariant (omega arith) (λ lt. inl (omega arith, c.if-value-eq0.true))

pub returns-in_default-clause-longest : goal.returns-in_default-clause-longest
returns-in_default-clause-longest c =
    let l = c.loop-count in
    pc_longest c.args.text.now l.count l.value l.invariant (omega arith) (λ lt. inr c.in_default.ensures.none)

pub loop-count-preserved : goal.loop-count-preserved
loop-count-preserved c =
    let l = c.loop-count in
    let found = c.in-Some.ensures.found in
    read_more c.args.text.now l.count l.value l.invariant c.in-Some.more c.loop-count-test.true
    (λ some zero. elim c.else-count-gt0.either [ inl none ↦ none.1 zero | inr r ↦ omega arith ])
    found.0 found.1 found.2 (omega arith)

pub returns-clause-longest : goal.returns-clause-longest
returns-clause-longest c =
    let l = c.loop-count in
    let end : l.count ≡ length c.args.text.now = omega arith in
    subst (λ (k : ℕ). IsLongestFront IsPcText c.args.text.now k) end
    (pc_longest c.args.text.now l.count l.value l.invariant (omega arith) (λ lt. absurd (omega (arith, lt, end))))
