-- What holds of the definitions: no two files are one class, and what is written is read again.
use Rattle.std.specs.Prelude.{◌≡◌, ℕ, List, Result, Ok, Err, IfOk, IfErr, ◌⊎◌}
use Rattle.cf_pool.specs.Laws.{IsBytes}
use Rattle.cf_structure.specs.declared.fault.ClassFault.{ClassFault}
use Rattle.cf_structure.specs.declared.fault.ClassFault.TheVariants.{NoMemory}
use Rattle.cf_structure.specs.ClassFile.{Names}
use Rattle.cf_class.specs.declared.class_file.ClassFile.{ClassFile}
use Rattle.cf_class.specs.Content.{IsClass}

-- what `read_class` answers of bytes, as its clauses `found` and `outside` say
pub record IsReading (bytes : List ℕ) (answer : Result ClassFile ClassFault) : Type 0 where
  pub found : IfOk answer (λ c. IsClass bytes c)
  pub outside : IfErr answer (Names (λ fault. (c : ClassFile) → IsClass bytes c → ⊥))

-- of bytes that are a class, as those that are written are, it answers that class, or finds no memory
abbrev pub RoundTrip : Type 0
RoundTrip = (written : List ℕ) (c : ClassFile) → IsBytes written → IsClass written c
    → (answer : Result ClassFile ClassFault) → IsReading written answer
    → (answer ≡ Ok c) ⊎ (answer ≡ Err NoMemory)

-- each file is the one that its class is written as
abbrev pub Canonical : Type 0
Canonical = (a b : List ℕ) (c : ClassFile) → IsBytes a → IsBytes b → IsClass a c → IsClass b c → a ≡ b
