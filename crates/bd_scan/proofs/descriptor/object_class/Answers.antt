-- A class begins with its letter, and its name ends at the first mark.
use Rattle.std.proofs.Common.{◌≡◌, ◌≢◌, ℕ, List, ◌∷◌, Some, None, sym, ap, ◌∙◌, arith}
use Rattle.std.proofs.lemmas.List.Elements.{All-from_get_or}
use Rattle.std.proofs.lemmas.Str.Pattern.{strip_prefix_char, split_parts}
use Rattle.bd_scan.specs.Descriptors.{before_mark, object_class}
use Rattle.bd_scan.proofs.DescriptorLemmas.{no_object, before, before_none}
use Rattle.bd_scan.proofs.descriptor.object_class.Goals as goal

abbrev NotMark : ℕ → Type 0
NotMark b = b ≢ 59

module _ (text class : List ℕ) (begins : text ≡ 76 ∷ class) where
  class_is : (name : List ℕ) → before_mark class ≡ name → Some name ≡ object_class text
  class_is name e = ap (λ (n : List ℕ). Some n) (sym e) ∙ ap object_class (sym begins)

pub returns-in_default : goal.returns-in_default
returns-in_default c =
    let text = c.args.text.now in
    sym (no_object text (strip_prefix_char 76 text None c.in_default.ensures.cases (omega arith)))

pub returns-in-Some-split_once : goal.returns-in-Some-split_once
returns-in-Some-split_once c =
    let text = c.args.text.now in
    let class : List ℕ = c.in-Some.class.now in
    let name : List ℕ = c.in-Some-split_once.name.now in
    let rest : List ℕ = c.in-Some-split_once.field-0-1.now in
    let begins = strip_prefix_char 76 text (Some c.in-Some.class) c.in-Some.ensures.cases (omega arith) in
    let parts = split_parts 59 class (Some (c.in-Some-split_once.name, c.in-Some-split_once.field-0-1))
    c.in-Some-split_once.ensures.cases (omega arith) in
    class_is text class begins name
    (ap before_mark parts.0 ∙ before name rest (All-from_get_or NotMark name 0 parts.1))

pub returns-in-None : goal.returns-in-None
returns-in-None c =
    let text = c.args.text.now in
    let class : List ℕ = c.in-Some.class.now in
    let begins = strip_prefix_char 76 text (Some c.in-Some.class) c.in-Some.ensures.cases (omega arith) in
    let none = split_parts 59 class None c.in-None.ensures.cases (omega arith) in
    class_is text class begins class (before_none class (All-from_get_or NotMark class 0 none))
