-- A descriptor of ints tells how many they are and whether one is given, and a class file has one code of an entry.
use Rattle.std.proofs.Common.{◌≡◌, ℕ, suc, ◌+◌, Bool, true, false, List, length, drop, get_or, replicate, find}
use Rattle.std.proofs.Common.{Option, Some, None, Result, Ok, Err, refl, sym, ap, subst, ◌∙◌, arith}
use Rattle.std.specs.Prelude.{IfOk, IfNone}
use Rattle.std.specs.declared.alloc.AllocError.{AllocError}
use Rattle.std.proofs.lemmas.List.{drop_at, length-append, length-replicate}
use Rattle.jv_base.specs.declared.method.MethodId.{MethodId}
use Rattle.cf_class.specs.declared.class_file.ClassFile.{ClassFile}
use Rattle.cf_class.specs.declared.member.Member.{Member}
use Rattle.cf_class.specs.declared.code.Code.{Code}
use Rattle.cf_thin.specs.declared.thin.ThinMethod.{ThinMethod}
use Rattle.cf_thin.specs.Instr.{Places, thin_places}
use Rattle.cf_thin.specs.ThinCode.{ThinCode}
use Rattle.cf_class.specs.Members.{member_in, code_in}
use Rattle.cf_thin.specs.Thin.{end_of, int_descriptor, IsCodeOfEntry, HasThinCode, Thin}
use Rattle.jv_list.proofs.TestLemmas.{some_same}

end_of-same : (a b : Bool) → end_of a ≡ end_of b → a ≡ b
end_of-same true true e = refl
end_of-same false false e = refl
end_of-same true false e = absurd (omega (arith, ap (λ (xs : List ℕ). get_or xs 1 0) e))
end_of-same false true e = absurd (omega (arith, ap (λ (xs : List ℕ). get_or xs 1 0) e))

length-int_descriptor : (n : ℕ) (g : Bool) → length (int_descriptor n g) ≡ n + 3
length-int_descriptor n true =
    omega (arith, length-append (replicate n 73) (end_of true), length-replicate {A = ℕ} n 73)
length-int_descriptor n false =
    omega (arith, length-append (replicate n 73) (end_of false), length-replicate {A = ℕ} n 73)

pub int_descriptor-same : (m n : ℕ) (a b : Bool) → int_descriptor m a ≡ int_descriptor n b → (m ≡ n) × (a ≡ b)
int_descriptor-same m n a b e =
    let same : m ≡ n = omega (arith, length-int_descriptor m a, length-int_descriptor n b, ap length e) in
    let ends : drop (suc m) (int_descriptor m a) ≡ end_of a =
    drop_at (replicate m 73) (end_of a) m (length-replicate {A = ℕ} m 73) in
    let other : drop (suc m) (int_descriptor n b) ≡ end_of b =
    drop_at (replicate n 73) (end_of b) m (length-replicate {A = ℕ} n 73 ∙ sym same) in
    (same, end_of-same a b (sym ends ∙ ap (drop (suc m)) e ∙ other))

-- code whose places are not thin has no thin method
pub not_thin : (desc : List ℕ) (code : Code) (places : Places) (n : ℕ) (g b : Bool) → desc ≡ int_descriptor n g
    → places ≡ thin_places code.code → b ≡ false → (ThinCode places n g code.max_stack code.max_locals → b ≡ true)
    → (m : ThinMethod) → HasThinCode desc code m → ⊥
not_thin desc code places n g b spelled are is_not is m has =
    let ints = int_descriptor-same has.params n has.gives_int g (sym has.descriptor ∙ spelled) in
    let P : Places → ℕ → Bool → Type 0 = λ ps k given. ThinCode ps k given code.max_stack code.max_locals in
    let one : P places has.params has.gives_int =
    subst (λ (ps : Places). P ps has.params has.gives_int) (has.same_code ∙ sym are) has.thin_code in
    let two : P places n has.gives_int = subst (λ (k : ℕ). P places k has.gives_int) ints.0 one in
    let three : P places n g = subst (λ (given : Bool). P places n given) ints.1 two in
    let yes : b ≡ true = is three in
    absurd cc

-- a class file has one code of an entry at most
pub one_code : (class : ClassFile) (entry : MethodId) (a b : Code) → IsCodeOfEntry class entry a
    → IsCodeOfEntry class entry b → a ≡ b
one_code class entry a b h k =
    let same : h.method ≡ k.method =
    some_same (member_in entry.name entry.desc class.methods) h.method k.method h.named k.named in
    let has : code_in k.method.attributes ≡ Some a = ap (λ (m : Member). code_in m.attributes) (sym same) ∙ h.has in
    some_same (code_in k.method.attributes) a b has k.has

-- where the code of the entry has no thin method, the class file has none
pub none_thin : (class : ClassFile) (entry : MethodId) (code : Code) (r : Result (Option ThinMethod) AllocError)
    → IsCodeOfEntry class entry code
    → IfOk r (λ o. IfNone o ((m : ThinMethod) → HasThinCode entry.desc code m → ⊥))
    → IfOk r (λ o. IfNone o ((m : ThinMethod) → Thin class entry m → ⊥))
none_thin class entry code (Ok None) is none =
    λ m thin.
    let same = one_code class entry thin.code code thin.code_of_entry is in
    none m (subst (λ (c : Code). HasThinCode entry.desc c m) same thin.has_thin_code)
none_thin class entry code (Ok (Some m)) is none = tt
none_thin class entry code (Err e) is none = tt
