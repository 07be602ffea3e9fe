use Rattle.std.proofs.Common.{◌+◌, ◌++◌, ◌∷◌, [], List, take, sym, subst}
use Rattle.std.specs.List.{AllZip}
use Rattle.std.proofs.lemmas.List.{take_all}
use Rattle.jv_list.proofs.PlaceLemmas.{take_with}
use Rattle.jv_list.proofs.ZipLemmas.{zip_push}
use Rattle.cf_class.specs.declared.member.Member.{Member}
use Rattle.ck_show.specs.declared.verdict.Told.{Told}
use Rattle.ck_show.specs.Verdicts.{IsTold}
use Rattle.ck_show.proofs.verdict.all_told.Goals as goal

pub loop-member-init : goal.loop-member-init
loop-member-init c = rw c.in_ok-told.ensures tt

pub loop-member-preserved : goal.loop-member-preserved
loop-member-preserved c =
    let l = c.loop-member in
    let class = c.args.class.now in
    let members = c.args.members.now in
    let one = c.in_ok-told_of.field-0 in
    let more = zip_push (IsTold class) (take l.member-index members) l.told c.member-item.result one l.invariant
    c.in_ok-told_of.ensures in
    subst (λ (told : List Told). AllZip (IsTold class) (take (l.member-index + 1) members) told)
    (sym c.in_ok-add.ensures.ok)
    (subst (λ (vs : List Member). AllZip (IsTold class) vs (l.told ++ one ∷ []))
    (sym (take_with members l.member-index c.member-item.result c.loop-member-test.true c.member-item.is)) more)

pub returns : goal.returns
returns c =
    let l = c.loop-member in
    subst (λ (vs : List Member). AllZip (IsTold c.args.class.now) vs l.told)
    (take_all l.member-index c.args.members.now c.loop-member-test.false) l.invariant
