use Rattle.std.proofs.Common.{◌≡◌, ℕ, List, length, get_or, subst, sym, ◌∙◌, arith}
use Rattle.std.proofs.lemmas.Bool.{false≢true}
use Rattle.std.proofs.lemmas.List.{get_or_default}
use Rattle.cf_structure.specs.declared.code.Row.{Row}
use Rattle.cf_code.specs.Decoding.{pcs}
use Rattle.cf_bodies.specs.Checks.{check_at, is_row}
use Rattle.cf_bodies.specs.Rows.{IsRowOf}
use Rattle.cf_bodies.proofs.CheckLemmas.{row_passes, row_fails, none_done, row_fits, one_more, stops, all_done}
use Rattle.cf_bodies.proofs.TellsLemmas.{one_failed}
use Rattle.cf_bodies.proofs.row.judge_rows.Goals as goal

row_at : List Row → ℕ → Row
row_at rows i = get_or rows i (record { start = 0; end = 0; handler = 0; catch_type = 0 })

pub loop-row-init : goal.loop-row-init
loop-row-init c = none_done c.args.bytes.now c.args.start c.args.rows.now

pub returns-then-not-is_row_of : goal.returns-then-not-is_row_of
unfolding row_at
returns-then-not-is_row_of c pool =
    let rows = c.args.rows.now in
    let l = c.loop-row in
    let x = row_at rows l.row-index in
    let is = get_or_default rows l.row-index _ x c.loop-row-test.true in
    let starts : c.as_slice.result.now ≡ pcs c.args.code.now = c.as_slice.ensures.value ∙
    c.in_ok-starts.ensures.value in
    let bad = λ (good : IsRowOf (pcs c.args.code.now) (length c.args.bytes.now) x). false≢true
    (sym c.if-not-is_row_of.true
    ∙ c.is_row_of.ensures.1 (subst (λ (s : List ℕ). IsRowOf s (length c.args.bytes.now) x) (sym starts) good)) in
    let failed = row_fails c.one_code.ensures pool c.args.bytes.now c.requires.short c.args.code.now c.requires.code
    l.place x bad in
    stops c.args.bytes.now c.args.start rows l.row-index l.place x c.loop-row-test.true is l.invariant pool
    c.fault_at.result
    (one_failed pool (check_at l.place (is_row c.args.bytes.now x)) c.fault_at.result _ c.fault_at.ensures failed)

pub overflow_add-place : goal.overflow_add-place
unfolding row_at
overflow_add-place c =
    let rows = c.args.rows.now in
    let l = c.loop-row in
    let x = row_at rows l.row-index in
    let is = get_or_default rows l.row-index _ x c.loop-row-test.true in
    let fits = row_fits c.args.bytes.now c.args.start rows l.row-index l.place x c.loop-row-test.true is l.invariant in
    omega (arith, fits, c.requires.fits)

pub loop-row-preserved : goal.loop-row-preserved
unfolding row_at
loop-row-preserved c =
    let rows = c.args.rows.now in
    let l = c.loop-row in
    let x = row_at rows l.row-index in
    let is = get_or_default rows l.row-index _ x c.loop-row-test.true in
    let starts : c.as_slice.result.now ≡ pcs c.args.code.now = c.as_slice.ensures.value ∙
    c.in_ok-starts.ensures.value in
    let good = subst (λ (s : List ℕ). IsRowOf s (length c.args.bytes.now) x) starts
    (c.is_row_of.ensures.0 c.if-not-is_row_of.false) in
    one_more c.args.bytes.now c.args.start rows l.row-index l.place x c.loop-row-test.true is l.invariant
    (λ pool. row_passes c.one_code.ensures pool c.args.bytes.now c.requires.short c.args.code.now c.requires.code
    l.place
    x good)

pub returns : goal.returns
returns c pool = (
  tt,
  all_done c.args.bytes.now c.args.start c.args.rows.now c.loop-row.row-index c.loop-row.place
      c.loop-row-test.false c.loop-row.invariant pool,
)
