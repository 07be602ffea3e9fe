use Rattle.std.proofs.Common.{inl, inr, arith}
use Rattle.cf_code.proofs.size.claimed_bytes.Goals as goal

pub returns-in-170-clause-only : goal.returns-in-170-clause-only
returns-in-170-clause-only c n h =
    elim h [
      | inl table ↦ c.table_bytes.ensures.only n table.1
      | inr others ↦ elim others [
        | inl lookup ↦ absurd (omega (arith, lookup.0))
        | inr more ↦ elim more [ inl wide ↦ absurd (omega (arith, wide.0)) | inr plain ↦ absurd (plain.0 c.in-170.is) ]
      ]
    ]

pub returns-in-171-clause-only : goal.returns-in-171-clause-only
returns-in-171-clause-only c n h =
    elim h [
      | inl table ↦ absurd (omega (arith, table.0))
      | inr others ↦ elim others [
        | inl lookup ↦ c.lookup_bytes.ensures.only n lookup.1
        | inr more ↦ elim more [ inl wide ↦ absurd (omega (arith, wide.0)) | inr plain ↦ absurd (plain.1 c.in-171.is) ]
      ]
    ]
