use Rattle.std.proofs.Common.{refl}
use Rattle.cf_judge.proofs.FormLemmas.{spelled_forms, unspelled_forms}
use Rattle.cf_judge.proofs.text.text_of.Goals as goal
use Rattle.cf_judge.proofs.text.text_of.Goals.{in-Some, in-None}

pub returns : goal.returns
returns c =
    record {
      forms = elim c.match-name.branch [
        | in-Some w ↦
            let h = rw w.in-Some.is at c.in_ok-name.ensures in
            let are = rw w.as_str.ensures at w.forms_of-forms.ensures in
            rw w.forms-is (spelled_forms c.args.units.now w.in-Some.name w.forms_of-forms.result h.found are)
        | in-None w ↦
            let h = rw w.in-None.is at c.in_ok-name.ensures in
            rw w.forms-is (unspelled_forms c.args.units.now h.none)
      ];
      name = c.in_ok-name.ensures.found;
      none = c.in_ok-name.ensures.none;
      first_is = refl;
    }
