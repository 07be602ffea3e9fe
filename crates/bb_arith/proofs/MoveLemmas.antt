-- Numbers whose bits are moved, in one step and in several.
use Rattle.std.proofs.Common.{◌≡◌, ◌<◌, ◌≤◌, ◌+◌, ◌-◌, ◌*◌, ◌/◌, ◌%◌, ◌^◌, ℕ, Bool, true, false, zero, suc, sym, ap}
use Rattle.std.proofs.Common.{◌∙◌, arith, if◌then◌else◌}
use Rattle.std.proofs.Math.Nat.{add-mul-div_right, mod-eq_of_lt}
use Rattle.std.proofs.lemmas.Nat.{shr-shr, pow-add, pow_pos, mul-mod_first}
use Rattle.jv_list.specs.Numbers.{bit_number}
use Rattle.bb_arith.specs.Calls.Moves.{moved_number}

nothing_filled : (k x : ℕ) (fill : Bool) → k / 1 + bit_number fill * (x - x) ≡ k
nothing_filled k x true = omega arith
nothing_filled k x false = omega arith

pub moved_none : (down : Bool) (n : ℕ) (fill : Bool) (k : ℕ) → k < 2 ^ n → moved_number down n fill 0 k ≡ k
moved_none true n fill k lt =
    let e : n - 0 ≡ n = omega arith in
    ap (λ (m : ℕ). k / 1 + bit_number fill * (2 ^ n - 2 ^ m)) e ∙ nothing_filled k (2 ^ n) fill
moved_none false n fill k lt =
    ap (λ (m : ℕ). m % 2 ^ n) (let e : k * 1 ≡ k = omega arith in e) ∙ mod-eq_of_lt lt

-- the bits above a number that is moved down twice
filled_twice : (x p q r : ℕ) → 0 < p → 0 < q
    → (x + 1 * (r * p * q - r * q)) / q + 1 * (r * p * q - r * p) ≡ x / q + 1 * (r * p * q - r)
filled_twice x zero q r p_pos q_pos = absurd (omega (arith, p_pos))
filled_twice x (suc p) zero r p_pos q_pos = absurd (omega (arith, q_pos))
filled_twice x (suc p) (suc q) r p_pos q_pos =
    let z = suc q in
    let whole : r * suc p * z - r * z ≡ r * p * z = omega arith in
    let low : x + 1 * (r * suc p * z - r * z) ≡ x + (r * p) * z = omega (arith, whole) in
    let high : r * suc p * z - r * suc p ≡ r * suc p * q = omega arith in
    let all : r * suc p * z - r ≡ r * p + r * suc p * q = omega arith in
    ap (λ (m : ℕ). m / z + 1 * (r * suc p * z - r * suc p)) low
    ∙ ap (λ (m : ℕ). m + 1 * (r * suc p * z - r * suc p)) (add-mul-div_right x (r * p) q_pos)
    ∙ (let e : x / z + r * p + 1 * (r * suc p * z - r * suc p) ≡ x / z + 1 * (r * suc p * z - r) =
    omega (arith, high, all) in e)

three_powers : (n p q : ℕ) → p + q ≤ n → 2 ^ n ≡ 2 ^ (n - (p + q)) * 2 ^ p * 2 ^ q
three_powers n p q le =
    let whole : n ≡ n - (p + q) + p + q = omega (arith, le) in
    ap (λ (m : ℕ). 2 ^ m) whole ∙ pow-add 2 (n - (p + q) + p) q ∙ ap (λ (m : ℕ). m * 2 ^ q) (pow-add 2 (n - (p + q)) p)

two_powers : (n p q : ℕ) → p + q ≤ n → 2 ^ (n - p) ≡ 2 ^ (n - (p + q)) * 2 ^ q
two_powers n p q le =
    let whole : n - p ≡ n - (p + q) + q = omega (arith, le) in
    ap (λ (m : ℕ). 2 ^ m) whole ∙ pow-add 2 (n - (p + q)) q

other_powers : (n p q : ℕ) → p + q ≤ n → 2 ^ (n - q) ≡ 2 ^ (n - (p + q)) * 2 ^ p
other_powers n p q le =
    let whole : n - q ≡ n - (p + q) + p = omega (arith, le) in
    ap (λ (m : ℕ). 2 ^ m) whole ∙ pow-add 2 (n - (p + q)) p

same_fill : (x q n np nq r n' np' nq' : ℕ) → n ≡ n' → np ≡ np' → nq ≡ nq'
    → (x + 1 * (n' - np')) / q + 1 * (n' - nq') ≡ x / q + 1 * (n' - r)
    → (x + 1 * (n - np)) / q + 1 * (n - nq) ≡ x / q + 1 * (n - r)
same_fill x q n np nq r n' np' nq' e_n e_np e_nq e =
    ap (λ (m : ℕ). (x + 1 * (m - np)) / q + 1 * (m - nq)) e_n
    ∙ ap (λ (m : ℕ). (x + 1 * (n' - m)) / q + 1 * (n' - nq)) e_np
    ∙ ap (λ (m : ℕ). (x + 1 * (n' - np')) / q + 1 * (n' - m)) e_nq
    ∙ e ∙ ap (λ (m : ℕ). x / q + 1 * (m - r)) (sym e_n)

no_fill : (x q y z : ℕ) → (x + 0 * y) / q + 0 * z ≡ x / q
no_fill x q y z =
    ap (λ (m : ℕ). m / q + 0 * z) (let e : x + 0 * y ≡ x = omega arith in e)
    ∙ (let f : x / q + 0 * z ≡ x / q = omega arith in f)

-- moved twice is moved by the sum
pub moved_twice : (down : Bool) (n : ℕ) (fill : Bool) (p q k : ℕ) → p + q ≤ n
    → moved_number down n fill q (moved_number down n fill p k) ≡ moved_number down n fill (p + q) k
moved_twice true n true p q k le =
    same_fill (k / 2 ^ p) (2 ^ q) (2 ^ n) (2 ^ (n - p)) (2 ^ (n - q)) (2 ^ (n - (p + q)))
    (2 ^ (n - (p + q)) * 2 ^ p * 2 ^ q) (2 ^ (n - (p + q)) * 2 ^ q) (2 ^ (n - (p + q)) * 2 ^ p)
    (three_powers n p q le) (two_powers n p q le) (other_powers n p q le)
    (filled_twice (k / 2 ^ p) (2 ^ p) (2 ^ q) (2 ^ (n - (p + q))) (pow_pos p) (pow_pos q))
    ∙ ap (λ (m : ℕ). m + 1 * (2 ^ n - 2 ^ (n - (p + q)))) (shr-shr k p q)
moved_twice true n false p q k le =
    no_fill (k / 2 ^ p) (2 ^ q) (2 ^ n - 2 ^ (n - p)) (2 ^ n - 2 ^ (n - q)) ∙ shr-shr k p q
    ∙ (let e : k / 2 ^ (p + q) ≡ k / 2 ^ (p + q) + 0 * (2 ^ n - 2 ^ (n - (p + q))) = omega arith in e)
moved_twice false n fill p q k le =
    mul-mod_first (k * 2 ^ p) (2 ^ q) (2 ^ n)
    ∙ ap (λ (m : ℕ). m % 2 ^ n) ((let e : k * 2 ^ p * 2 ^ q ≡ k * (2 ^ p * 2 ^ q) = omega arith in e)
    ∙ ap (λ (m : ℕ). k * m) (sym (pow-add 2 p q)))

-- moved by one more bit of a distance
pub moved_bit : (down : Bool) (n : ℕ) (fill : Bool) (q p k : ℕ) (bit : Bool) → q + p ≤ n
    → (if bit then moved_number down n fill p (moved_number down n fill q k) else moved_number down n fill q k)
    ≡ moved_number down n fill (q + p * bit_number bit) k
moved_bit down n fill q p k true le =
    moved_twice down n fill q p k le
    ∙ ap (λ (m : ℕ). moved_number down n fill m k) (let e : q + p ≡ q + p * 1 = omega arith in e)
moved_bit down n fill q p k false le =
    ap (λ (m : ℕ). moved_number down n fill m k) (let e : q ≡ q + p * 0 = omega arith in e)

pub moved_with_zeros : (n : ℕ) (fill : Bool) (p k : ℕ) → fill ≡ false → moved_number true n fill p k ≡ k / 2 ^ p
moved_with_zeros n fill p k is =
    ap (λ (b : Bool). moved_number true n b p k) is
    ∙ (let e : k / 2 ^ p + 0 * (2 ^ n - 2 ^ (n - p)) ≡ k / 2 ^ p = omega arith in e)
