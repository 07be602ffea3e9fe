use Rattle.cf_class.proofs.LawLemmas.{class_or_fault}
use Rattle.cf_class.proofs.laws.one_class.Goals as goal

pub returns : goal.returns
returns c = λ bytes are_bytes.
    class_or_fault c.form_decided.ensures c.plain_class_decided.ensures c.one_name.ensures c.code_decided.ensures
    c.one_code.ensures bytes (c.one_file.ensures bytes are_bytes)
    (λ file order. ((c.spelled.ensures bytes file are_bytes).0 order.structure).0)
