-- Numbers of words: below a power of two, without a sign and in two's complement, and the quotients of signed ones.
use Rattle.std.specs.Prelude.{◌-◌, ◌*◌, ◌%◌, ◌^◌, ◌==◌, ℕ, ℤ, pos, negsuc, suc, Bool, nat_lt, if◌then◌else◌}
use Rattle.std.specs.Prelude.{int_div, int_rem, unsigned_abs}

-- the number of a bit
abbrev pub bit_number : Bool → ℕ
bit_number bit = if bit then 1 else 0

-- a number below 2 ^ n as a signed one, in two's complement: less 2 ^ n where it is half of that or more
abbrev pub signed_number : ℕ → ℕ → ℤ
signed_number n k = if nat_lt (2 * k) (2 ^ n) then pos k else negsuc (2 ^ n - suc k)

-- a whole number modulo 2 ^ n
abbrev pub wrapped_number : ℕ → ℤ → ℕ
wrapped_number n (pos k) = k % 2 ^ n
wrapped_number n (negsuc k) = 2 ^ n - suc (k % 2 ^ n)

-- the quotient, rounded toward zero, and 0 where the divisor is 0
abbrev pub quotient_of : ℤ → ℤ → ℤ
quotient_of x d = if unsigned_abs d == 0 then pos 0 else int_div x d

-- what such a quotient leaves, with the sign of what is divided, and 0 where the divisor is 0
abbrev pub remainder_of : ℤ → ℤ → ℤ
remainder_of x d = if unsigned_abs d == 0 then pos 0 else int_rem x d
