use Rattle.cf_judge.proofs.index.wrong_index.Goals as goal

pub returns-in-Formed : goal.returns-in-Formed
returns-in-Formed c = rw c.in-Formed.is c.wrong_form.ensures

pub returns-in-NameAndType : goal.returns-in-NameAndType
returns-in-NameAndType c = rw c.in-NameAndType.is c.wrong_name_and_type.ensures
