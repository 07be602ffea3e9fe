-- The term of an operation that stands already.
use Rattle.std.proofs.Common.{◌≡◌, refl, sym, ◌∙◌, [], inl, true≢false, rules, false, Some}
use Rattle.std.specs.Prelude.{slice_get}
use Rattle.std.proofs.lemmas.List.{append-nil}
use Rattle.tm_terms.specs.Terms.{is_free, AreTerms}
use Rattle.tm_terms.specs.Sharing.{AreShared}
use Rattle.tm_terms.proofs.BankLemmas.{shared-by}
use Rattle.tm_terms.proofs.MakeLemmas.{made-by, replaces_itself}
use Rattle.tm_terms.proofs.bank.Bank.make.Goals as goal

pub returns-in-Some : goal.returns-in-Some
returns-in-Some c =
    let old = c.args.self.now in
    let kept : is_free c.args.op ≡ false = search rules in
    let terms : AreTerms old = rw (← c.self.view_is) c.self.invariant.terms in
    let shared : AreShared old = rw (← c.self.view_is) (shared-by _ _ c.self.invariant.placed) in
    let found : slice_get old c.in-Some.place ≡ Some c.args.op =
    rw (← c.self.view_is) (c.self.invariant.placed.found c.args.op c.in-Some.place (sym c.in-Some.ensures)) in
    record {
      made = made-by old old c.args.op c.args.op (record { 0 = c.in-Some.place })
          (replaces_itself old c.args.op c.requires kept) kept terms (inl refl) found;
      keeps = ([], sym (append-nil old));
      free = λ f. absurd (true≢false (sym f ∙ kept));
      again = λ k _ e. let same = shared c.in-Some.place k c.args.op kept found e in (rw same refl, refl);
    }
