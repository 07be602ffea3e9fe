use Rattle.std.proofs.Common.{sym, ◌∙◌, ap, map}
use Rattle.jv_base.specs.declared.value.Desc.{Desc}
use Rattle.jv_base.specs.Types.{method_of}
use Rattle.jv_base.specs.Descriptor.{field_text}
use Rattle.vm_world.specs.Start.{start_of}
use Rattle.vm_world.proofs.laws.one_start.Goals as goal

pub returns : goal.returns
returns c =
    λ entry input one other a b.
    let same = c.one_descriptor.ensures a.desc b.desc a.types b.types (sym a.text ∙ b.text) in
    a.begins ∙ ap (λ (d : Desc). start_of entry (map field_text (method_of d).parameters) input) same ∙ sym b.begins
