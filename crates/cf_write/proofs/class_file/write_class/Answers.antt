use Rattle.std.proofs.Common.{ℕ, List, sym, subst}
use Rattle.cf_class.specs.Content.{IsClass}
use Rattle.cf_write.specs.Written.{IsEachFile}
use Rattle.cf_write.proofs.WrittenLemmas.{file_fits, text_is_class, file_text_is}
use Rattle.cf_write.proofs.class_file.write_class.Goals as goal

pub class_bytes-requires : goal.class_bytes-requires
class_bytes-requires c = file_fits c.args.class.now c.requires

pub returns-clause-class : goal.returns-clause-class
returns-clause-class c =
    let class = c.args.class.now in
    subst (λ (bytes : List ℕ). IsClass bytes class) (sym c.in_ok-written.ensures)
    (text_is_class c.spelled.ensures class c.requires)

pub returns-clause-bytes : goal.returns-clause-bytes
returns-clause-bytes c =
    let class = c.args.class.now in
    subst (λ (bytes : List ℕ). IsEachFile bytes class) (sym c.in_ok-written.ensures)
    (file_text_is c.spelled.ensures class)
