use Rattle.std.proofs.lemmas.Bool.{false≢true}
use Rattle.cf_structure.specs.Views.{member_of}
use Rattle.cf_judge.proofs.KeyLemmas.{twice, has_some_key, seen_second, seen_still, seen_more}
use Rattle.cf_judge.proofs.member.is_second.Goals as goal

pub returns-in_ok-insert-in-Some-clause-second : goal.returns-in_ok-insert-in-Some-clause-second
returns-in_ok-insert-in-Some-clause-second c = λ earlier are.
    let ways = seen_second c.args.pool.now earlier (member_of c.args.member.now) c.args.seen.now are c.in-Some.key.name
    c.in-Some.key.desc c.in-Some.ensures.found in
    rw c.in_ok-insert-in-Some.ensures.added (twice _ _ ways)

pub returns-in_ok-insert-in-Some-clause-seen : goal.returns-in_ok-insert-in-Some-clause-seen
returns-in_ok-insert-in-Some-clause-seen c = λ earlier are.
    seen_more c.args.pool.now earlier (member_of c.args.member.now) c.args.seen.now are c.insert.new.self
    c.in-Some.key.name c.in-Some.key.desc c.in-Some.ensures.found
    (λ n d. c.in_ok-insert-in-Some.ensures.updates.0 (record { name = n; desc = d }))

pub returns-in-None-clause-second : goal.returns-in-None-clause-second
returns-in-None-clause-second c = λ earlier are. (
  λ t. absurd (false≢true t),
  λ second.
      let some = has_some_key c.args.pool.now c.args.texts.now c.requires earlier (member_of c.args.member.now) second
      in
      absurd (c.in-None.ensures.none some.0 some.1 some.2),
)

pub returns-in-None-clause-seen : goal.returns-in-None-clause-seen
returns-in-None-clause-seen c = λ earlier are.
    seen_still c.args.pool.now earlier (member_of c.args.member.now) c.args.seen.now are
    c.in-None.ensures.none
