-- What one shape that is put at a pc reads and writes.
use Rattle.std.proofs.Common.{◌≡◌, ◌<◌, ℕ, List, length, slice_set, option_and_then, Option, Some, None, refl, sym, ap}
use Rattle.std.proofs.Common.{subst, ◌∙◌, arith, inr, IfSome, get_or}
use Rattle.cf_thin.specs.Instr.{Places}
use Rattle.cf_thin.specs.declared.shape.Shape.{Shape}
use Rattle.cf_thin.specs.Calls.Passes.{JoinsFound, Differs, LeadsToAny, RefusesAny, HaveLocals, shape_at}
use Rattle.cf_thin.proofs.KnownLemmas.{known_length, joins_shape}
use Rattle.std.proofs.lemmas.Option.{slice_get_read}
use Rattle.cf_thin.proofs.GrowthLemmas.{same_some, put_same, put_other}
use Rattle.jv_list.proofs.TestLemmas.{same_or_not}

-- what is read at an index is what is found there
pub shape_read : (found : List (Option Shape)) (pc : ℕ) (o : Option Shape) → pc < length found → o ≡ get_or found pc o
    → shape_at found pc ≡ o
shape_read found pc o lt is = ap (option_and_then (λ s. s)) (slice_get_read found (length found) pc o refl lt is)

-- what is read at a pc of the code is the shape that is found there
pub shape_found : (code : Places) (found : List (Option Shape)) (pc n : ℕ) (o : Option Shape) (s : Shape)
    → length found ≡ length code → pc < length code → n ≡ pc → o ≡ get_or found n o → o ≡ Some s
    → shape_at found pc ≡ Some s
shape_found code found pc n o s long lt same is some = ap (shape_at found) (sym same)
    ∙ shape_read found n o (omega arith) is ∙ some

pub have_known : (found : List (Option Shape)) (pc count : ℕ) (o : Option Shape) → HaveLocals found count
    → shape_at found pc ≡ o → IfSome o (λ k. length k.locals ≡ count)
have_known found pc count None have is = tt
have_known found pc count (Some k) have is = have pc k is

if_some : (o : Option Shape) (P : Shape → Type 0) → IfSome o P → (k : Shape) → o ≡ Some k → P k
if_some None P holds k is = absurd cc
if_some (Some j) P holds k is = let e : j ≡ k = cc in subst P e holds

pub lead_refuses : (found : List (Option Shape)) (shape : Shape) (to n : ℕ) (pc : Option ℕ) (o : Option Shape)
    → pc ≡ Some to → n ≡ to → shape_at found n ≡ o → Differs o shape → RefusesAny found shape pc
lead_refuses found shape to n pc o given same is differs =
    rw given (inr (subst (λ (x : Option Shape). Differs x shape) (sym is ∙ ap (shape_at found) same) differs))

pub lead_leads : (found : List (Option Shape)) (shape both : Shape) (to n : ℕ) (pc : Option ℕ) (o : Option Shape)
    → pc ≡ Some to → n ≡ to → n < length found → shape_at found n ≡ o → JoinsFound o shape both
    → LeadsToAny found shape pc (slice_set found n (Some both))
lead_leads found shape both to n pc o given same lt is joins =
    rw given (record {
      within = omega arith;
      both = both;
      joins = subst (λ (x : Option Shape). JoinsFound x shape both)
          (sym is ∙ ap (shape_at found) same) joins;
      put = ap (λ (i : ℕ). slice_set found i (Some both)) same;
    })

pub lead_have : (found : List (Option Shape)) (shape both : Shape) (n : ℕ) (o : Option Shape)
    → HaveLocals found (length shape.locals) → n < length found → shape_at found n ≡ o → JoinsFound o shape both
    → HaveLocals (slice_set found n (Some both)) (length shape.locals)
lead_have found shape both n o have lt is joins at s put =
    let weaker = joins_shape o shape both (λ k e. have n k (is ∙ e)) joins in
    same_or_not at n
    (λ same. let e : both ≡ s = same_some both s (sym (put_same found n both lt)
    ∙ ap (shape_at (slice_set found n (Some both))) (sym same) ∙ put) in ap (λ (x : Shape). length x.locals) (sym e)
    ∙ known_length both.locals shape.locals weaker.locals)
    (λ ne. have at s (sym (put_other found n at both ne) ∙ put))
