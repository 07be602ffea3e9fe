-- What is read is made, unless a flag says otherwise.
use Rattle.std.proofs.Common.{◌≡◌, Some, None, true, false, rules}
use Rattle.std.proofs.lemmas.Bool.{false≢true}
use Rattle.hi_tree.specs.Classes.{read_in}
use Rattle.hi_tree.specs.Members.{has_flag}
use Rattle.hi_inputs.proofs.MadeLemmas.{none_made, abstract_unmade, made_unless}
use Rattle.hi_inputs.proofs.made.is_made.Goals as goal

pub returns-in_default : goal.returns-in_default
returns-in_default c =
    let none : read_in c.args.classes.now c.args.name.now ≡ None = search rules in
    (λ h. absurd (false≢true h), λ m. absurd (none_made c.args.classes.now c.args.name.now none m))

pub returns-then-not-has_flag : goal.returns-then-not-has_flag
returns-then-not-has_flag c =
    let some : read_in c.args.classes.now c.args.name.now ≡ Some c.in-Some.class.now = search rules in
    let plain : has_flag c.in-Some.class.now.flags 0x0400 ≡ false = search rules in
    rw c.has_flag-then-not-has_flag.ensures
    (made_unless c.args.classes.now c.args.name.now c.in-Some.class.now some plain)

pub returns-else-not-has_flag : goal.returns-else-not-has_flag
returns-else-not-has_flag c =
    let some : read_in c.args.classes.now c.args.name.now ≡ Some c.in-Some.class.now = search rules in
    let is : has_flag c.in-Some.class.now.flags 0x0400 ≡ true = search rules in
    rw (c.has_flag.ensures, is) (
      λ h. absurd (false≢true h),
      λ m. absurd (abstract_unmade c.args.classes.now c.args.name.now c.in-Some.class.now some is m),
    )
