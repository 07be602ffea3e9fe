-- The bank with an operation that had no place.
use Rattle.std.proofs.Common.{◌≡◌, sym, refl, ◌++◌, [], ◌∷◌, List, ◌∙◌, None, length, subst, rules, inl, inr}
use Rattle.std.proofs.Math.Seq.{take-append_seam}
use Rattle.jv_list.proofs.PlaceLemmas.{slice_get-push_last}
use Rattle.tm_terms.specs.declared.op.Op.{Op}
use Rattle.tm_terms.specs.Terms.{Fits, AreTerms}
use Rattle.tm_terms.specs.BankView.{place_in}
use Rattle.tm_terms.proofs.BankLemmas.{bank-push, places-push, bank-same, terms-push}
use Rattle.tm_terms.proofs.MakeLemmas.{made-by}
use Rattle.tm_terms.proofs.bank.Bank.share.Goals as goal

pub returns-in-Some-clause-made : goal.returns-in-Some-clause-made
returns-in-Some-clause-made c of r kept =
    let found = c.self.invariant.placed.found c.args.op c.in-Some.place (sym c.in-Some.ensures) in
    let terms : AreTerms c.args.self.now = rw (← c.self.view_is) c.self.invariant.terms in
    made-by c.args.self.now c.args.self.now of c.args.op (record { 0 = c.in-Some.place }) r kept terms (inl refl)
    (rw (← c.self.view_is) found)

pub invariant_of-self-in-Ok : goal.invariant_of-self-in-Ok
invariant_of-self-in-Ok c =
    let ops = c.self.inside.ops in
    let places = c.self.inside.places in
    let fits : Fits ops c.args.op = subst (λ (xs : List Op). Fits xs c.args.op) (sym c.self.view_is) c.requires.fits in
    let folded = rw (← c.self.view_is) at c.requires.folded in
    let sort = rw (← c.self.view_is) at c.requires.sort in
    let put = rw c.length-count.ensures at c.in-Ok.ensures.ok in
    let none : c.place_of.result ≡ None = search rules in
    let absent : place_in places c.args.op ≡ None = sym c.place_of.ensures ∙ none in
    let placed = places-push ops c.args.op places c.put_at.new.places put absent c.self.invariant.placed in
    rw (c.in_ok-push_both.ensures.ops, c.in_ok-push_both.ensures.sorts, sort)
    (bank-push ops c.args.op c.self.inside.sorts places c.put_at.new.places c.self.invariant fits folded
    c.requires.reduced placed)

pub invariant_of-self-in-Err : goal.invariant_of-self-in-Err
invariant_of-self-in-Err c =
    let kept = take-append_seam c.self.inside.ops (c.args.op ∷ []) in
    let sorts_kept = take-append_seam c.self.inside.sorts (c.args.sort ∷ []) in
    let same = bank-same c.self.inside.ops c.self.inside.sorts c.self.inside.places c.put_at.new.places
    c.in-Err.ensures.unchanged c.self.invariant in
    let front : c.truncate.new.self ≡ c.self.inside.ops =
    c.truncate.ensures ∙ rw (c.length-count.ensures, c.in_ok-push_both.ensures.ops) kept in
    let sorts : c.truncate-in-Err.new.self ≡ c.self.inside.sorts =
    c.truncate-in-Err.ensures
    ∙ rw (c.length-count.ensures, ← c.self.invariant.sorted.even, c.in_ok-push_both.ensures.sorts) sorts_kept in
    rw (front, sorts) same

pub returns-in-Ok-clause-made : goal.returns-in-Ok-clause-made
returns-in-Ok-clause-made c of r kept =
    let old = c.args.self.now in
    let more : c.push_both.new.ops ≡ old ++ c.args.op ∷ [] = rw (← c.self.view_is) c.in_ok-push_both.ensures.ops in
    let terms : AreTerms old = rw (← c.self.view_is) c.self.invariant.terms in
    let place : c.length-count.result ≡ length old = rw (← c.self.view_is) c.length-count.ensures in
    rw more
    (made-by old (old ++ c.args.op ∷ []) of c.args.op (record { 0 = c.length-count.result }) r kept
    (terms-push old c.args.op terms c.requires.fits) (inr refl)
    (slice_get-push_last old c.args.op c.length-count.result place))
