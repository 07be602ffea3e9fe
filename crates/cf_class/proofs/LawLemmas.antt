-- Bytes are one class file, or have one first fault.
use Rattle.std.proofs.Common.{◌≡◌, ℕ, List, subst, inl, inr}
use Rattle.cf_pool.specs.Laws.{ExactlyOne}
use Rattle.cf_structure.specs.Raw.{RawCode, RawFile}
use Rattle.cf_structure.specs.Spelled.{FitsFile}
use Rattle.cf_judge.specs.Laws.{FormDecided, PlainClassDecided, OneName}
use Rattle.cf_code.specs.Laws.{IsCodeDecided, IsOneCode}
use Rattle.cf_bodies.specs.Places.{codes}
use Rattle.cf_bodies.specs.Passes.{IsInOrder, IsFaultOf}
use Rattle.cf_class.specs.declared.class_file.ClassFile.{ClassFile}
use Rattle.cf_class.specs.Content.{IsContent, IsClass}
use Rattle.cf_class.specs.Calls.Contents.{HasContent}
use Rattle.jv_list.proofs.AllLemmas.{all_mapped}
use Rattle.cf_class.proofs.CodesLemmas.{content_of, codes_are}
use Rattle.cf_class.proofs.ContentLemmas.{IsDecoded, AreDecoded, content_there}
use Rattle.cf_class.proofs.DecodedLemmas.{good_decoded}
use Rattle.cf_class.proofs.ShortLemmas.{codes_short}
use Rattle.cf_class.proofs.UniqueLemmas.{one_content}

module _ (form_law : FormDecided) (plain : PlainClassDecided) (name_law : OneName) (decided : IsCodeDecided)
    (code_law : IsOneCode) (bytes : List ℕ) (files : ExactlyOne (IsInOrder bytes) (IsFaultOf bytes))
    (fits : (file : RawFile) → IsInOrder bytes file → FitsFile file) where
  some_content : (file : RawFile) → IsInOrder bytes file → HasContent IsContent file
  some_content file order =
      let fit = fits file order in
      let decoded = all_mapped IsDecoded content_of (codes file)
      (good_decoded decided file (codes_short file fit) order.bodies) in
      content_there form_law plain file order.judged
      (subst (λ (cs : List RawCode). AreDecoded cs) (codes_are file fit) decoded)

  same_class : (a b : ClassFile) → IsClass bytes a → IsClass bytes b → a ≡ b
  same_class a b h k =
      let same = files.one_content h.file k.file h.in_order k.in_order in
      one_content name_law code_law k.file (fits k.file k.in_order) a b
      (subst (λ (f : RawFile). IsContent f a) same h.content) k.content

  pub class_or_fault : ExactlyOne (IsClass bytes) (IsFaultOf bytes)
  class_or_fault = record {
    one = elim files.one [
      | inl f ↦
          let c = some_content f.0 f.1 in
          inl (c.0, record { file = f.0; in_order = f.1; content = c.1 })
      | inr f ↦ inr f
    ];
    one_content = same_class;
    one_fault = files.one_fault;
    not_both = λ c fault is h. files.not_both is.file fault is.in_order h;
  }
