-- The name is what was read, and what is left gets shorter.
use Rattle.std.proofs.Common.{◌≡◌, ◌++◌, length, string_bytes}
use Rattle.std.specs.Str.{IsUtf8}
use Rattle.jv_base.specs.Spelling.{name_text}
use Rattle.jv_base.proofs.reading.name_of.Given as goal

abbrev pub invariant-loop-rest : goal.invariant-loop-rest
invariant-loop-rest l = record {
  unicode : IsUtf8 (string_bytes l.name);
  read : l.text ≡ name_text (string_bytes l.name) ++ l.rest;
}

abbrev pub decreases-loop-rest : goal.decreases-loop-rest
decreases-loop-rest l = length l.rest
