use Rattle.cf_judge.proofs.IndexLemmas.{kind_word, no_pair}
use Rattle.cf_judge.proofs.index.wrong_name_and_type.Goals as goal

pub returns-in-Some : goal.returns-in-Some
returns-in-Some c =
    kind_word c.args.pool.now c.args.name_form c.args.desc_form c.args.index c.in-Some.name c.in-Some.desc
    c.in-Some.ensures.found c.wrong_kind.result c.wrong_kind.ensures

pub returns-in-None : goal.returns-in-None
returns-in-None c = no_pair c.args.pool.now c.args.name_form c.args.desc_form c.args.index c.in-None.ensures.none
