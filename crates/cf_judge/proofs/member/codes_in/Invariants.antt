use Rattle.std.proofs.Common.{◌≡◌, ◌≤◌, take}
use Rattle.std.specs.List.{count_by}
use Rattle.cf_structure.specs.Views.{body_of}
use Rattle.cf_judge.specs.Demands.{is_code}
use Rattle.cf_judge.proofs.member.codes_in.Given as goal

abbrev pub invariant-loop-attribute : goal.invariant-loop-attribute
invariant-loop-attribute l =
    (l.codes ≡ count_by (λ a. is_code (body_of a.body)) (take l.attribute-index l.attributes)) ×
    (l.codes ≤ l.attribute-index)
