-- Methods and goals by their parts, and the order of goals.
use Rattle.std.proofs.Common.{◌≡◌, ℕ, List, refl, sym, ap, ◌∙◌, if◌then◌else◌, ◌==◌}
use Rattle.std.specs.Cmp.{IsTotalOrder}
use Rattle.std.specs.Cmp.Lexicographic.{slice_cmp}
use Rattle.std.specs.Ordering.{nat_cmp, ordering_then}
use Rattle.std.specs.declared.cmp.Ordering.{Ordering}
use Rattle.std.specs.declared.cmp.Ordering.TheVariants.{Less, Equal, Greater}
use Rattle.std.proofs.lemmas.Cmp.{nat_cmp_total, nat_list_cmp_total, on_total, then_total}
use Rattle.std.proofs.lemmas.Map.Lookups.{exact_bytes, exact_unsigned}
use Rattle.jv_base.specs.declared.method.Goal.{Goal}
use Rattle.jv_base.specs.declared.method.Kind.{Kind}
use Rattle.jv_base.specs.declared.method.Kind.TheVariants.{Null, Zero, Bounds, NegSize, Store, Cast, StrIndex, Assert}
use Rattle.jv_base.specs.declared.method.MethodId.{MethodId}
use Rattle.jv_base.specs.Order.{kind_rank, method_cmp, goal_cmp}

-- ---- the parts

abbrev pub method_of : List ℕ → List ℕ → List ℕ → MethodId
method_of class name desc = record { class = class; name = name; desc = desc }

abbrev pub goal_of : MethodId → ℕ → Kind → Goal
goal_of method pc kind = record { site = record { method = method; pc = pc }; kind = kind }

pub method_same : (m n : MethodId) → m.class ≡ n.class → m.name ≡ n.name → m.desc ≡ n.desc → m ≡ n
method_same m n class name desc =
    ap (λ (c : List ℕ). method_of c m.name m.desc) class ∙ ap (λ (c : List ℕ). method_of n.class c m.desc) name
    ∙ ap (λ (c : List ℕ). method_of n.class n.name c) desc

pub goal_same : (g h : Goal) → g.site.method ≡ h.site.method → g.site.pc ≡ h.site.pc → g.kind ≡ h.kind → g ≡ h
goal_same g h method pc kind =
    ap (λ (m : MethodId). goal_of m g.site.pc g.kind) method ∙ ap (λ (p : ℕ). goal_of h.site.method p g.kind) pc
    ∙ ap (λ (k : Kind). goal_of h.site.method h.site.pc k) kind

-- ---- the order

method_total : IsTotalOrder method_cmp
method_total =
    then_total (on_total (λ (m : MethodId). m.class) nat_list_cmp_total)
    (then_total (on_total (λ (m : MethodId). m.name) nat_list_cmp_total)
    (on_total (λ (m : MethodId). m.desc) nat_list_cmp_total))

pub goal_total : IsTotalOrder goal_cmp
goal_total =
    then_total (on_total (λ (g : Goal). g.site.method) method_total)
    (then_total (on_total (λ (g : Goal). g.site.pc) nat_cmp_total)
    (on_total (λ (g : Goal). kind_rank g.kind) nat_cmp_total))

both_equal : (a b : Ordering) → ordering_then a b ≡ Equal → (a ≡ Equal) × (b ≡ Equal)
both_equal Less b e = (cc, cc)
both_equal Equal b e = (refl, e)
both_equal Greater b e = (cc, cc)

method_exact : (m n : MethodId) → method_cmp m n ≡ Equal → m ≡ n
method_exact m n e =
    let names : Ordering = slice_cmp nat_cmp m.name n.name in
    let descs : Ordering = slice_cmp nat_cmp m.desc n.desc in
    let class = both_equal (slice_cmp nat_cmp m.class n.class) (ordering_then names descs) e in
    let name = both_equal names descs class.1 in
    method_same m n (exact_bytes m.class n.class class.0) (exact_bytes m.name n.name name.0)
    (exact_bytes m.desc n.desc name.1)

-- the kind of a rank
abbrev kind_at : ℕ → Kind
kind_at n =
    if n == 0 then Null
    else if n == 1 then Zero
    else if n == 2 then Bounds
    else if n == 3 then NegSize
    else if n == 4 then Store
    else if n == 5 then Cast
    else if n == 6 then StrIndex
    else Assert

kind_back : (k : Kind) → kind_at (kind_rank k) ≡ k
kind_back Null = refl
kind_back Zero = refl
kind_back Bounds = refl
kind_back NegSize = refl
kind_back Store = refl
kind_back Cast = refl
kind_back StrIndex = refl
kind_back Assert = refl

pub goal_exact : (g h : Goal) → goal_cmp g h ≡ Equal → g ≡ h
goal_exact g h e =
    let pcs : Ordering = nat_cmp g.site.pc h.site.pc in
    let kinds : Ordering = nat_cmp (kind_rank g.kind) (kind_rank h.kind) in
    let method = both_equal (method_cmp g.site.method h.site.method) (ordering_then pcs kinds) e in
    let pc = both_equal pcs kinds method.1 in
    let ranks : kind_rank g.kind ≡ kind_rank h.kind = exact_unsigned (kind_rank g.kind) (kind_rank h.kind) pc.1 in
    goal_same g h (method_exact g.site.method h.site.method method.0) (exact_unsigned g.site.pc h.site.pc pc.0)
    (sym (kind_back g.kind) ∙ ap kind_at ranks ∙ kind_back h.kind)
