-- The bytes lead to a whole text just where it has the form.
use Rattle.std.proofs.Common.{◌≡◌, ℕ, List, get_or, take, sym, ap, ◌∙◌, arith}
use Rattle.std.proofs.lemmas.Bool.{false≢true}
use Rattle.std.proofs.lemmas.List.{take_all}
use Rattle.std.specs.Prelude.{None, Some}
use Rattle.jv_base.specs.Calls.Progress.{run, start_of, step}
use Rattle.jv_base.proofs.FormLemmas.{run_one_more, stuck_form, whole_tells}
use Rattle.jv_base.proofs.form.is_of_form.Goals as goal

pub returns-in_default : goal.returns-in_default
returns-in_default c =
    let text : List ℕ = c.args.text.now in
    let l = c.loop-b in
    let stuck : step l.progress (get_or text l.b-index 0) ≡ None = cc in
    let other = stuck_form c.args.form text l.b-index l.progress (omega arith) l.invariant stuck in
    (λ e. absurd (false≢true e), λ h. absurd (other h))

pub loop-b-preserved : goal.loop-b-preserved
loop-b-preserved c =
    let l = c.loop-b in
    let next : step l.progress (get_or c.args.text.now l.b-index 0) ≡ Some c.in-Some.next = cc in
    run_one_more c.args.form c.args.text.now l.b-index l.progress (omega arith) l.invariant ∙ next

pub returns : goal.returns
returns c =
    let text : List ℕ = c.args.text.now in
    let l = c.loop-b in
    let all : take l.b-index text ≡ text = take_all l.b-index text (omega arith) in
    let leads : run (start_of c.args.form) text ≡ Some l.progress =
    ap (λ (t : List ℕ). run (start_of c.args.form) t) (sym all) ∙ l.invariant in
    let ways = whole_tells c.args.form text l.progress leads in
    (λ e. ways.0 (sym c.is_whole.ensures ∙ e), λ h. c.is_whole.ensures ∙ ways.1 h)
