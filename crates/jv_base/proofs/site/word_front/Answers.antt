-- The first bytes that differ end the front.
use Rattle.std.proofs.Common.{◌≢◌, ℕ, get_or, sym, ap, ◌∙◌, arith}
use Rattle.std.proofs.lemmas.Slice.Zip.{zip_turn, zip_end}
use Rattle.jv_base.proofs.FrontLemmas.{word_longest}
use Rattle.jv_base.proofs.site.word_front.Goals as goal

pub returns-then-a-b-clause-longest : goal.returns-then-a-b-clause-longest
returns-then-a-b-clause-longest c =
    let text = c.args.text.now in
    let word = c.args.word.now in
    let l = c.loop-a in
    let turn = zip_turn text word l.yielded c.into_iter-a-iterator.result l.a-iterator c.next.new.self c.next.result
    (cc) (cc) l.yielded_by (c.in-Some.a, c.in-Some.b) c.in-Some.is c.next.ensures.steps in
    let at = l.invariant.index in
    let other : get_or text l.same 0 ≢ get_or word l.same 0 =
    λ e. c.if-a-b.true (turn.2 0 ∙ ap (λ (k : ℕ). get_or text k 0) (sym at) ∙ e
    ∙ ap (λ (k : ℕ). get_or word k 0) at ∙ sym (turn.3 0)) in
    word_longest text word l.same (omega (arith, turn.0)) (omega (arith, turn.1)) l.invariant.same (λ _ _. other)

pub returns-clause-longest : goal.returns-clause-longest
returns-clause-longest c =
    let text = c.args.text.now in
    let word = c.args.word.now in
    let l = c.loop-a in
    let end = zip_end text word l.yielded c.into_iter-a-iterator.result l.a-iterator c.next.new.self c.next.result
    (cc) (cc) l.yielded_by c.in-None.is c.next.ensures.steps in
    let at = l.invariant.index in
    word_longest text word l.same (omega (arith, end)) (omega (arith, end)) l.invariant.same
    (λ in_text in_word e. omega (arith, end, at, in_text, in_word))
