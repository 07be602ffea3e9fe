-- What a class is written as is the file that it was read from, and is read again.
use Rattle.std.proofs.Common.{◌≡◌, ℕ, List, Ok, Err, Result, refl, sym, ap, ◌∙◌, subst, ◌⊎◌, inl, inr}
use Rattle.cf_pool.specs.Laws.{IsBytes}
use Rattle.cf_structure.specs.declared.fault.ClassFault.{ClassFault}
use Rattle.cf_structure.specs.declared.fault.ClassFault.TheVariants.{Malformed, NoMemory}
use Rattle.cf_structure.specs.Laws.{Spelled}
use Rattle.cf_class.specs.declared.class_file.ClassFile.{ClassFile}
use Rattle.cf_class.specs.Content.{HasFile, IsClass}
use Rattle.cf_class.specs.Laws.{OneClass}
use Rattle.cf_write.specs.Written.{IsEachFile}
use Rattle.cf_write.specs.Laws.{IsReading}
use Rattle.cf_write.specs.Calls.Texts.{file_text, CodesFit}
use Rattle.cf_write.proofs.TextLemmas.{file_same}
use Rattle.cf_write.proofs.FitLemmas.{codes_fit}

module _ (spelled : Spelled) (c : ClassFile) where
  -- a file of the class has the bytes that its parts have
  pub file_text_is : IsEachFile (file_text c) c
  file_text_is bytes are_bytes h =
      sym (((spelled bytes h.file are_bytes).0 h.in_order.structure).1 ∙ file_same h.file c h.content)

  -- so these bytes are the class
  pub text_is_class : HasFile c → IsClass (file_text c) c
  text_is_class h = subst (λ (bytes : List ℕ). IsClass bytes c) (sym (file_text_is h.0 h.1 h.2)) h.2

pub one_file : Spelled → (a b : List ℕ) (c : ClassFile) → IsBytes a → IsBytes b → IsClass a c → IsClass b c → a ≡ b
one_file spelled a b c fits also h k = sym (file_text_is spelled c a fits h) ∙ file_text_is spelled c b also k

pub file_fits : (c : ClassFile) → HasFile c → CodesFit c
file_fits c h = codes_fit h.2.file c h.2.content

-- what is read of the bytes of a class
pub read_again : OneClass → (written : List ℕ) (c : ClassFile) → IsBytes written → IsClass written c
    → (answer : Result ClassFile ClassFault) → IsReading written answer
    → (answer ≡ Ok c) ⊎ (answer ≡ Err NoMemory)
read_again law written c are_bytes h (Ok d) reading =
    inl (ap Ok ((law written are_bytes).one_content d c reading.found h))
read_again law written c are_bytes h (Err NoMemory) reading = inr refl
read_again law written c are_bytes h (Err (Malformed fault)) reading = absurd (reading.outside c h)
