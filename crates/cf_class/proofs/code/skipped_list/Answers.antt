use Rattle.std.proofs.Common.{◌+◌, List, sym, subst}
use Rattle.cf_structure.specs.Views.{skipped_of}
use Rattle.cf_class.specs.declared.code.Skipped.{Skipped}
use Rattle.cf_class.specs.Content.{IsSkippedContent}
use Rattle.cf_class.proofs.LoopLemmas.{AreMade, content_read, made_read, made_all}
use Rattle.cf_class.proofs.code.skipped_list.Goals as goal

pub loop-part-init : goal.loop-part-init
loop-part-init c = rw c.in_ok-made.ensures tt

pub skipped_content-requires-clause-content : goal.skipped_content-requires-clause-content
skipped_content-requires-clause-content c =
    let l = c.loop-part in
    content_read skipped_of (IsSkippedContent c.args.names.now.pool.now) c.args.parts.now l.part-index
    c.loop-part-test.true _ c.requires.content

pub loop-part-preserved : goal.loop-part-preserved
loop-part-preserved c =
    let l = c.loop-part in
    let pool = c.args.names.now.pool.now in
    let more = made_read skipped_of (IsSkippedContent pool) c.args.parts.now l.part-index c.loop-part-test.true _ l.made
    c.in_ok-skipped_content.field-0 l.invariant c.in_ok-skipped_content.ensures in
    subst (λ (made : List Skipped). AreMade skipped_of (IsSkippedContent pool) c.args.parts.now (l.part-index + 1) made)
    (sym c.in_ok-add.ensures.ok) more

pub returns : goal.returns
returns c =
    let l = c.loop-part in
    made_all skipped_of (IsSkippedContent c.args.names.now.pool.now) c.args.parts.now l.part-index l.made
    c.loop-part-test.false l.invariant
