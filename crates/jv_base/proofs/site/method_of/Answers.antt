-- A name is special, or one of its own.
use Rattle.std.proofs.Common.{◌≡◌, ℕ, List, sym, subst}
use Rattle.std.specs.Str.{IsUtf8}
use Rattle.jv_base.specs.Entry.{IsAnyMethodName}
use Rattle.jv_base.specs.Spelling.{name_text}
use Rattle.jv_base.proofs.MethodNameLemmas.{special_is, method_is_not}
use Rattle.jv_base.proofs.site.method_of.Goals as goal

abbrev IsNamed : List ℕ → List ℕ → Type 0
IsNamed text n = IsUtf8 n × IsAnyMethodName n × (text ≡ name_text n)

pub returns-in-Some-clause-found : goal.returns-in-Some-clause-found
returns-in-Some-clause-found c =
    let found = c.in-Some.ensures.found in
    let is = special_is c.args.text.now c.in-Some.special.now found.0 found.1 in
    subst (IsNamed c.args.text.now) (sym c.in_ok-from_text.ensures) is

pub returns-in-Err-Bad-clause-fault : goal.returns-in-Err-Bad-clause-fault
returns-in-Err-Bad-clause-fault c = λ at e.
    let named = c.in-Err-Bad.ensures.fault c.in-Err-Bad.field-0-0 (cc) in
    record {
      outside = method_is_not c.args.text.now named.outside c.in_default.ensures.none;
      count = c.method_front.result;
      sum = cc;
      front = c.method_front.ensures.longest;
    }
