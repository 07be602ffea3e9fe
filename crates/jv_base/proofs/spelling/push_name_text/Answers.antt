-- At the end all characters of the name have come.
use Rattle.std.proofs.Common.{◌≡◌, ℕ, List, ◌++◌, string_bytes, sym, ap, ◌∙◌}
use Rattle.std.specs.List.{flat_map}
use Rattle.std.specs.Str.{chars}
use Rattle.std.proofs.lemmas.Iterator.{YieldsList-from_chars}
use Rattle.std.proofs.lemmas.Iterator.Consumers.{YieldsList-end}
use Rattle.std.proofs.lemmas.List.{map-id}
use Rattle.jv_base.specs.Spelling.{character_text, name_text}
use Rattle.jv_base.proofs.spelling.push_name_text.Goals as goal

pub returns : goal.returns
unfolding name_text
returns c =
    let l = c.loop-c in
    let items = YieldsList-from_chars c.as_str.result.now c.as_str.utf8 cc in
    let end = YieldsList-end items l.yielded _ l.yielded_by _ _ c.in-None.is c.next.ensures.steps in
    let all : l.yielded ≡ chars c.args.name.now = sym (map-id l.yielded) ∙ end.0 ∙ ap chars c.as_str.ensures in
    l.invariant ∙ ap (λ (cs : List ℕ). string_bytes c.args.out.now ++ flat_map character_text cs) all
