-- The order of the lines of a report.
use Rattle.std.specs.Prelude.{ℕ}
use Rattle.std.specs.Ordering.{nat_cmp, ordering_then}
use Rattle.std.specs.declared.cmp.Ordering.{Ordering}
use Rattle.std.specs.Cmp.Lexicographic.{slice_cmp}
use Rattle.jv_base.specs.declared.method.MethodId.{MethodId}
use Rattle.jv_base.specs.declared.method.Goal.{Goal}
use Rattle.jv_base.specs.declared.method.Kind.{Kind}
use Rattle.jv_base.specs.declared.method.Kind.TheVariants.{Null, Zero, Bounds, NegSize, Store, Cast, StrIndex, Assert}

-- where a kind of fault stands in a report, among those of one instruction
abbrev pub kind_rank : Kind → ℕ
kind_rank Null = 0
kind_rank Zero = 1
kind_rank Bounds = 2
kind_rank NegSize = 3
kind_rank Store = 4
kind_rank Cast = 5
kind_rank StrIndex = 6
kind_rank Assert = 7

-- methods by the bytes of the class, then of the name, then of the descriptor
abbrev pub method_cmp : MethodId → MethodId → Ordering
method_cmp a b =
    ordering_then (slice_cmp nat_cmp a.class b.class) (ordering_then (slice_cmp nat_cmp a.name b.name) (slice_cmp nat_cmp a.desc b.desc))

-- goals by their method, then by the place in its code, then by the kind
abbrev pub goal_cmp : Goal → Goal → Ordering
goal_cmp a b =
    ordering_then (method_cmp a.site.method b.site.method) (ordering_then (nat_cmp a.site.pc b.site.pc) (nat_cmp (kind_rank a.kind) (kind_rank b.kind)))
