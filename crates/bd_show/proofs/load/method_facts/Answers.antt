-- The class was read.
use Rattle.std.proofs.Common.{◌≡◌, None, sym, ◌∙◌, rules}
use Rattle.std.specs.Prelude.{option_copied}
use Rattle.hi_tree.specs.Classes.{class_in}
use Rattle.bd_show.proofs.KnownLemmas.{read_is_there}
use Rattle.bd_show.proofs.load.method_facts.Goals as goal

pub unreachable-requires : goal.unreachable-requires
unreachable-requires c =
    let none : class_in c.args.core.now.loaded.classes c.args.method.now.class ≡ None = search rules in
    read_is_there c.args.core.now.loaded.classes c.args.method.now.class c.requires.class c.requires.is_read none
