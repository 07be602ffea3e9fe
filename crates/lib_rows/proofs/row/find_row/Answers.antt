-- A row that the search finds stands in the table, and each one that does is found.
use Rattle.lib_rows.proofs.TableLemmas.{searched, searched_only}
use Rattle.lib_rows.proofs.row.find_row.Goals as goal

pub returns-in-Some-clause-found : goal.returns-in-Some-clause-found
returns-in-Some-clause-found c =
    searched c.args.method.now _ c.in-Some.ensures.found c.named.result
    (cc (c.named.ensures, c.rows_of.ensures, c.as_str.ensures, c.as_str-in-Some.ensures))

pub returns-in-Some-clause-only : goal.returns-in-Some-clause-only
returns-in-Some-clause-only c =
    searched_only c.args.method.now _ c.in-Some.ensures.found c.named.result
    (cc (c.named.ensures, c.rows_of.ensures, c.as_str.ensures, c.as_str-in-Some.ensures)) c.in-Some.ensures.only
