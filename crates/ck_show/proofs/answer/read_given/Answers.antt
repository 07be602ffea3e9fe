use Rattle.std.proofs.Common.{◌≡◌, ℕ, List, sym, subst}
use Rattle.io_edges.specs.declared.folder.Got.{Got}
use Rattle.io_edges.specs.declared.folder.Got.TheVariants.{Found}
use Rattle.cf_pool.specs.declared.fault.Fault.{Fault}
use Rattle.cf_structure.specs.ClassFile.{Names}
use Rattle.cf_structure.specs.declared.fault.ClassFault.{ClassFault}
use Rattle.cf_structure.specs.declared.fault.ClassFault.TheVariants.{Malformed}
use Rattle.cf_class.specs.declared.class_file.ClassFile.{ClassFile}
use Rattle.cf_class.specs.Content.{IsClass}
use Rattle.ck_show.specs.declared.answer.Answer.TheVariants.{NoClass}
use Rattle.ck_show.specs.Answers.{IsRead}
use Rattle.ck_show.proofs.answer.read_given.Goals as goal

-- bytes that have a fault are no class
no_class : (bytes its : List ℕ) (given : Got) (fault : ClassFault) (what : Fault) → given ≡ Found bytes → its ≡ bytes
    → fault ≡ Malformed what → Names (λ f. (c : ClassFile) → IsClass its c → ⊥) fault → IsRead given NoClass
no_class bytes its given fault what is same bad outside =
    subst (λ (g : Got). IsRead g NoClass) (sym is)
    (subst (λ (bs : List ℕ). (c : ClassFile) → IsClass bs c → ⊥) same
    (subst (λ (x : ClassFault). Names (λ f. (c : ClassFile) → IsClass its c → ⊥) x) bad outside))

pub returns-in-Err-Malformed : goal.returns-in-Err-Malformed
returns-in-Err-Malformed c =
    no_class c.in-Found.bytes c.as_slice.result.now c.args.given.now c.in-Err-Malformed.field-0
    c.in-Err-Malformed.field-0-0 c.in-Found.is c.as_slice.ensures c.in-Err-Malformed.field-0-is
    c.in-Err-Malformed.ensures.outside
