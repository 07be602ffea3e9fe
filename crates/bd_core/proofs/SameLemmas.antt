-- Members that `==` finds equal are the same.
use Rattle.std.proofs.Common.{◌≡◌, ℕ, true, ◌&&◌, List, ◌∙◌, ap}
use Rattle.std.specs.Str.{bytes_eq}
use Rattle.std.specs.Cmp.{booleans_Decides}
use Rattle.std.proofs.Math.Bool.{beq}
use Rattle.std.proofs.lemmas.Bool.{false≢true, and_parts}
use Rattle.std.proofs.lemmas.Slice.Eq.{bytes_eq-Decides}
use Rattle.jv_base.specs.declared.method.MethodId.{MethodId}
use Rattle.jv_base.specs.contracts.method.MethodIdPartialEq.TheImpl as method_eq
use Rattle.bd_core.specs.declared.member.Member.{Member}
use Rattle.bd_core.specs.declared.member.Member.TheVariants.{Known, Method, Made, Called, Initialised, Under}
use Rattle.bd_core.specs.contracts.member.MemberPartialEq.TheImpl as member_eq

pub same_names : (x y : List ℕ) → bytes_eq x y ≡ true → x ≡ y
same_names x y = (bytes_eq-Decides x y).0

pub same_methods : (x y : MethodId) → (method_eq.ghosts).eq x y ≡ true → x ≡ y
same_methods x y e =
    let class = and_parts (bytes_eq x.class y.class) (bytes_eq x.name y.name && bytes_eq x.desc y.desc) e in
    let rest = and_parts (bytes_eq x.name y.name) (bytes_eq x.desc y.desc) class.1 in
    let id : List ℕ → List ℕ → List ℕ → MethodId = λ c n d. record { class = c; name = n; desc = d } in
    ap (λ c. id c x.name x.desc) (same_names x.class y.class class.0)
    ∙ ap (λ n. id y.class n x.desc) (same_names x.name y.name rest.0)
    ∙ ap (λ d. id y.class y.name d) (same_names x.desc y.desc rest.1)

pub same_members : (x y : Member) → (member_eq.ghosts).eq x y ≡ true → x ≡ y
same_members (Known x) (Known y) e = ap Known (same_names x y e)
same_members (Made x) (Made y) e = ap Made (same_names x y e)
same_members (Initialised x) (Initialised y) e = ap Initialised (same_names x y e)
same_members (Method x) (Method y) e = ap Method (same_methods x y e)
same_members (Called x i) (Called y k) e =
    let both = and_parts ((method_eq.ghosts).eq x y) (beq i k) e in
    ap (λ m. Called m i) (same_methods x y both.0) ∙ ap (λ b. Called y b) ((booleans_Decides i k).0 both.1)
same_members (Under x p) (Under y q) e =
    let both = and_parts (bytes_eq x y) (bytes_eq p q) e in
    ap (λ c. Under c p) (same_names x y both.0) ∙ ap (λ c. Under y c) (same_names p q both.1)
same_members x y e = absurd (false≢true e)
