-- Each of these is Throwable or under it.
use Rattle.std.proofs.Common.{◌≡◌, refl, sym, subst}
use Rattle.lib_rows.specs.declared.class.Builtin.TheVariants as b
use Rattle.bd_refusals.specs.Suited.{IsThrowable, itself, under}
use Rattle.bd_refusals.proofs.SuitedLemmas.{or_else, exception, error, of_runtime, of_index, of_argument}
use Rattle.bd_refusals.proofs.suited.is_throwable.Goals as goal

pub returns-in-Throwable : goal.returns-in-Throwable
returns-in-Throwable c =
    let class = c.args.class in
    let last : class ≡ b.NumberFormatException → IsThrowable class =
    λ e. subst IsThrowable (sym e) (under _ _ refl of_argument) in
    let m1 = or_else class b.StringIndexOutOfBoundsException (under _ _ refl of_index) last in
    let m2 = or_else class b.ArrayIndexOutOfBoundsException (under _ _ refl of_index) m1 in
    let m3 = or_else class b.UnsupportedOperationException (under _ _ refl of_runtime) m2 in
    let m4 = or_else class b.NullPointerException (under _ _ refl of_runtime) m3 in
    let m5 = or_else class b.NegativeArraySizeException (under _ _ refl of_runtime) m4 in
    let m6 = or_else class b.IndexOutOfBoundsException of_index m5 in
    let m7 = or_else class b.IllegalStateException (under _ _ refl of_runtime) m6 in
    let m8 = or_else class b.IllegalArgumentException of_argument m7 in
    let m9 = or_else class b.ClassCastException (under _ _ refl of_runtime) m8 in
    let m10 = or_else class b.ArrayStoreException (under _ _ refl of_runtime) m9 in
    let m11 = or_else class b.ArithmeticException (under _ _ refl of_runtime) m10 in
    let m12 = or_else class b.AssertionError (under _ _ refl error) m11 in
    let m13 = or_else class b.RuntimeException of_runtime m12 in
    let m14 = or_else class b.Error error m13 in
    let m15 = or_else class b.Exception exception m14 in
    let m16 = or_else class b.Throwable itself m15 in
    (λ is. m16 c.in-Throwable.is, λ h. refl)
