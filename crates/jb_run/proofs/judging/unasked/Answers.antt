use Rattle.std.proofs.Common.{refl}
use Rattle.jb_run.proofs.UnaskedLemmas.{made_comes, built_in_comes}
use Rattle.jb_run.proofs.judging.unasked.Goals as goal

pub returns-then-not-has_folder : goal.returns-then-not-has_folder
returns-then-not-has_folder c = made_comes c.args.command.now (λ h. c.if-not-has_folder.ensures.made refl h)

pub returns : goal.returns
returns c =
    built_in_comes c.args.command.now c.in_ok-entry.entry c.in_ok-entry.ensures
    (c.if-not-has_folder.ensures.folder refl)
    c.requires
