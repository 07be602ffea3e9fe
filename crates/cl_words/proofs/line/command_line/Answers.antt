-- The three parts behind one another, from the empty command on.
use Rattle.std.proofs.Common.{◌≡◌, ◌∙◌, ap, true, codes}
use Rattle.std.proofs.lemmas.Result.{IfOk-weaker}
use Rattle.clap.specs.Simple.{App, app_of, app_of_fields, new_app, on_top}
use Rattle.cl_words.specs.CommandLine.{bare_line, bound_rules, command_line, form_rules, with_rules, work_rules}
use Rattle.cl_words.proofs.line.command_line.Goals as goal

pub returns : goal.returns
unfolding command_line
returns c =
    let named : app_of c.no_binary_name.result
    ≡ on_top (λ s. record s { no_binary_name = true }) (new_app (codes "jbmc")) =
    ap app_of_fields c.no_binary_name.ensures
    ∙ ap (on_top (λ s. record s { no_binary_name = true })) c.new.ensures.app in
    let bare : app_of c.disable_help_flag-command.result ≡ bare_line =
    ap app_of_fields c.disable_help_flag-command.ensures
    ∙ ap (on_top (λ s. record s { disable_help_flag = true })) named in
    let bounds = c.in_ok-with_bounds.ensures ∙ ap (λ (a : App). with_rules a bound_rules) bare in
    let work = c.in_ok-with_work.ensures ∙ ap (λ (a : App). with_rules a work_rules) bounds in
    IfOk-weaker c.with_forms.result _ _ (λ r e. e ∙ ap (λ (a : App). with_rules a form_rules) work) c.with_forms.ensures
