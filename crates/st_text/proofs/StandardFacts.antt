-- Values of the JDK: "ab" before "abc", and the decimals of edges.
use Rattle.std.proofs.Common.{◌≡◌, pos, negsuc, [], ◌∷◌, Some, None, refl}
use Rattle.std.specs.Int.{int_wrap}
use Rattle.std.specs.Fmt.{signed_decimal, digits}
use Rattle.st_text.specs.Text.{place_of}
use Rattle.st_text.specs.Order.{compare_of}

-- "ab".compareTo("abc") is -1, and "b".compareTo("abc") is 1
prefix_first : compare_of (97 ∷ 98 ∷ []) (97 ∷ 98 ∷ 99 ∷ []) ≡ negsuc 0
unfolding int_wrap
prefix_first = refl

unit_first : compare_of (98 ∷ []) (97 ∷ 98 ∷ 99 ∷ []) ≡ pos 1
unit_first = refl

-- "abca".indexOf('a') is 0, and 'z' stands nowhere
first_of_two : place_of (97 ∷ 98 ∷ 99 ∷ 97 ∷ []) 97 ≡ Some 0
first_of_two = refl

in_no_place : place_of (97 ∷ 98 ∷ 99 ∷ 97 ∷ []) 122 ≡ None
in_no_place = refl

-- the decimals of 0, -7 and the least int
of_zero : signed_decimal (pos 0) ≡ 48 ∷ []
unfolding digits
of_zero = refl

of_minus_seven : signed_decimal (negsuc 6) ≡ 45 ∷ 55 ∷ []
unfolding digits
of_minus_seven = refl

least_int : signed_decimal (negsuc 2147483647) ≡ 45 ∷ 50 ∷ 49 ∷ 52 ∷ 55 ∷ 52 ∷ 56 ∷ 51 ∷ 54 ∷ 52 ∷ 56 ∷ []
unfolding digits
least_int = refl
