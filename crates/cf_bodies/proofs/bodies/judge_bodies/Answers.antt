use Rattle.cf_structure.specs.Views.{file_of}
use Rattle.cf_bodies.proofs.CodeLemmas.{inside_bytes}
use Rattle.cf_bodies.proofs.FitLemmas.{codes_fit, codes_short}
use Rattle.cf_bodies.proofs.RiseLemmas.{file_rises}
use Rattle.cf_bodies.proofs.JudgedLemmas.{tells_found, tells_value, tells_fault, tells_outside}
use Rattle.cf_bodies.proofs.bodies.judge_bodies.Goals as goal

pub judge_codes-requires-clause-fit : goal.judge_codes-requires-clause-fit
judge_codes-requires-clause-fit c =
    rw (c.as_slice-2.ensures, c.in_ok-codes.ensures) (codes_fit (file_of c.args.structure.now) c.requires.parts
    c.requires.fits)

pub returns-clause-found : goal.returns-clause-found
returns-clause-found c =
    let file = file_of c.args.structure.now in
    let inside = inside_bytes c.one_size.ensures c.one_beginning.ensures c.no_code.ensures c.one_fault.ensures
    c.code_decided.ensures file.pool in
    let rise = file_rises file.pool inside file (codes_short file c.requires.parts) in
    let tells = rw (c.as_slice.ensures, c.as_slice-2.ensures, c.in_ok-codes.ensures) at c.judge_codes.ensures in
    tells_found file _ _ rise _ c.judge_codes.result tells

pub returns-clause-bodies : goal.returns-clause-bodies
returns-clause-bodies c =
    let file = file_of c.args.structure.now in
    let inside = inside_bytes c.one_size.ensures c.one_beginning.ensures c.no_code.ensures c.one_fault.ensures
    c.code_decided.ensures file.pool in
    let rise = file_rises file.pool inside file (codes_short file c.requires.parts) in
    let tells = rw (c.as_slice.ensures, c.as_slice-2.ensures, c.in_ok-codes.ensures) at c.judge_codes.ensures in
    tells_value file _ _ rise _ c.judge_codes.result tells

pub returns-clause-fault : goal.returns-clause-fault
returns-clause-fault c =
    let file = file_of c.args.structure.now in
    let inside = inside_bytes c.one_size.ensures c.one_beginning.ensures c.no_code.ensures c.one_fault.ensures
    c.code_decided.ensures file.pool in
    let rise = file_rises file.pool inside file (codes_short file c.requires.parts) in
    let tells = rw (c.as_slice.ensures, c.as_slice-2.ensures, c.in_ok-codes.ensures) at c.judge_codes.ensures in
    tells_fault file _ _ rise _ c.judge_codes.result tells

pub returns-clause-outside : goal.returns-clause-outside
returns-clause-outside c =
    let file = file_of c.args.structure.now in
    let inside = inside_bytes c.one_size.ensures c.one_beginning.ensures c.no_code.ensures c.one_fault.ensures
    c.code_decided.ensures file.pool in
    let rise = file_rises file.pool inside file (codes_short file c.requires.parts) in
    let tells = rw (c.as_slice.ensures, c.as_slice-2.ensures, c.in_ok-codes.ensures) at c.judge_codes.ensures in
    tells_outside file _ _ rise _ c.judge_codes.result tells
