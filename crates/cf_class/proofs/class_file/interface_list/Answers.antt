use Rattle.std.proofs.Common.{◌+◌, ℕ, List, sym, subst}
use Rattle.std.specs.List.{AllZip}
use Rattle.std.proofs.lemmas.List.{map-id}
use Rattle.cf_class.specs.declared.named.Named.{Named}
use Rattle.cf_class.specs.Content.{IsClassNamed}
use Rattle.cf_class.specs.Calls.Contents.{HaveContent}
use Rattle.cf_class.proofs.LoopLemmas.{AreMade, content_read, made_read, made_all}
use Rattle.cf_class.proofs.class_file.interface_list.Goals as goal

abbrev itself : ℕ → ℕ
itself n = n

pub loop-index-init : goal.loop-index-init
loop-index-init c = rw c.in_ok-made.ensures tt

pub class_named-requires-clause-content : goal.class_named-requires-clause-content
class_named-requires-clause-content c =
    let l = c.loop-index in
    let pool = c.args.names.now.pool.now in
    content_read itself (IsClassNamed pool) c.args.indices.now l.index-index c.loop-index-test.true _
    (subst (λ (ns : List ℕ). HaveContent (IsClassNamed pool) ns) (sym (map-id c.args.indices.now)) c.requires.content)

pub loop-index-preserved : goal.loop-index-preserved
loop-index-preserved c =
    let l = c.loop-index in
    let pool = c.args.names.now.pool.now in
    let more = made_read itself (IsClassNamed pool) c.args.indices.now l.index-index c.loop-index-test.true _ l.made
    c.in_ok-class_named.field-0 l.invariant c.in_ok-class_named.ensures in
    subst (λ (made : List Named). AreMade itself (IsClassNamed pool) c.args.indices.now (l.index-index + 1) made)
    (sym c.in_ok-add.ensures.ok) more

pub returns : goal.returns
returns c =
    let l = c.loop-index in
    let pool = c.args.names.now.pool.now in
    subst (λ (ns : List ℕ). AllZip (IsClassNamed pool) ns l.made) (map-id c.args.indices.now)
    (made_all itself (IsClassNamed pool) c.args.indices.now l.index-index l.made c.loop-index-test.false l.invariant)
