use Rattle.std.proofs.Common.{◌≡◌, ◌-◌, ◌<◌, suc, List, [], ◌∷◌, ◌++◌, length, take, drop, ap, ◌∙◌, arith}
use Rattle.std.specs.Prelude.{slice_set}
use Rattle.std.proofs.Math.Seq.{drop-length}
use Rattle.std.proofs.lemmas.List.{set_split}
use Rattle.vm_frame.specs.Operands.{without}
use Rattle.vm_object.proofs.effect.put_top.Goals as goal

put_last : {A : Type 0} (s : List A) (v : A) → 0 < length s → slice_set s (length s - 1) v ≡ without 1 s ++ v ∷ []
put_last s v some =
    let all : suc (length s - 1) ≡ length s = omega arith in
    set_split s (length s - 1) v (omega arith)
    ∙ ap (λ n. take (length s - 1) s ++ v ∷ drop n s) all
    ∙ ap (λ d. take (length s - 1) s ++ v ∷ d) (drop-length s)

pub returns : goal.returns
returns c =
    c.set.ensures ∙ ap (λ n. slice_set c.args.stack.now (n - 1) c.args.value) c.length-place.ensures
    ∙ put_last c.args.stack.now c.args.value c.requires
