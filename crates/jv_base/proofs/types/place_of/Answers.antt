-- Character by character, until one leads nowhere.
use Rattle.std.proofs.Common.{◌≡◌, ℕ, List, length, None, refl, sym, ap, subst, ◌∙◌, arith}
use Rattle.std.specs.Prelude.{encode_utf8_all}
use Rattle.std.specs.Str.{chars}
use Rattle.std.proofs.lemmas.Iterator.{YieldsList-from_chars}
use Rattle.std.proofs.lemmas.Iterator.Consumers.{YieldsList-so_far, YieldsList-turn, YieldsList-end}
use Rattle.std.proofs.lemmas.List.{map-id, length_push}
use Rattle.std.proofs.lemmas.Str.{encodes-chars}
use Rattle.jv_base.specs.Forms.{IsTextOf}
use Rattle.jv_base.specs.Front.{StopsAt}
use Rattle.jv_base.specs.Calls.Progress.{run, start_of, step}
use Rattle.jv_base.proofs.PlaceLemmas.{run_start, run_on, leaves_before, leaves_at_end}
use Rattle.jv_base.proofs.types.place_of.Goals as goal
use Rattle.jv_list.proofs.TextLemmas.{next_char, next_scalar}

pub loop-c-init : goal.loop-c-init
loop-c-init c = record {
  count = refl;
  leads = run_start c.args.form c.start_of-progress.result c.start_of-progress.ensures;
}

pub returns-in_default : goal.returns-in_default
returns-in_default c =
    let l = c.loop-c in
    let items = YieldsList-from_chars c.args.text.now c.utf8.text cc in
    let front = YieldsList-so_far items l.yielded _ l.yielded_by in
    let turn = YieldsList-turn items l.yielded _ l.yielded_by _ _ c.in-Some.c c.in-Some.is c.next.ensures.steps in
    let split = next_char c.args.text.now l.yielded c.in-Some.c front turn in
    let refused : step l.progress c.in-Some.c ≡ None = sym c.step.ensures ∙ c.in_default.is in
    subst (λ (n : ℕ). StopsAt (IsTextOf c.args.form) c.args.text.now n) (sym l.invariant.count)
    (leaves_before c.args.form c.args.text.now l.yielded split.0 c.in-Some.c l.progress c.utf8.text split.1
    l.invariant.leads refused)

pub loop-c-preserved : goal.loop-c-preserved
loop-c-preserved c =
    let l = c.loop-c in
    let items = YieldsList-from_chars c.args.text.now c.utf8.text cc in
    let front = YieldsList-so_far items l.yielded _ l.yielded_by in
    let turn = YieldsList-turn items l.yielded _ l.yielded_by _ _ c.in-Some.c c.in-Some.is c.next.ensures.steps in
    let split = next_char c.args.text.now l.yielded c.in-Some.c front turn in
    let scalar = next_scalar c.args.text.now l.yielded split.0 c.in-Some.c c.utf8.text split.1 in
    let on = sym c.step.ensures ∙ c.in-Some-step.is in
    record {
      count = omega (arith, length_push l.yielded c.in-Some.c, l.invariant.count);
      leads = run_on c.args.form l.yielded c.in-Some.c l.progress c.in-Some-step.next scalar.1 l.invariant.leads on;
    }

pub returns : goal.returns
returns c =
    let l = c.loop-c in
    let text : List ℕ = c.args.text.now in
    let items = YieldsList-from_chars text c.utf8.text cc in
    let end = YieldsList-end items l.yielded _ l.yielded_by _ _ c.in-None.is c.next.ensures.steps in
    let all : l.yielded ≡ chars text = sym (map-id l.yielded) ∙ end.0 in
    let bytes : encode_utf8_all l.yielded ≡ text = ap encode_utf8_all all ∙ encodes-chars text c.utf8.text in
    let led = ap (λ (t : List ℕ). run (start_of c.args.form) t) (sym bytes) ∙ l.invariant.leads in
    subst (λ (n : ℕ). StopsAt (IsTextOf c.args.form) text n) (ap length (sym all) ∙ sym l.invariant.count)
    (leaves_at_end c.args.form text l.progress c.utf8.text led)
