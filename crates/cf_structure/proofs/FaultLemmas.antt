-- What holds of each fault of a part, where it holds of the end of the file and of length fields.
use Rattle.std.proofs.Common.{◌≡◌, ℕ, zero, suc, ◌+◌, Bool, true, false, cond, eqb, List}
use Rattle.std.proofs.Common.{length, Result, Ok, Err, refl, subst}
use Rattle.std.specs.Int.{Width, w16, w32}
use Rattle.cf_pool.specs.declared.entry.PoolEntry.{PoolEntry}
use Rattle.cf_structure.specs.declared.fault.Cut.{Cut}
use Rattle.cf_structure.specs.declared.attribute.Holder.{Holder}
use Rattle.cf_structure.specs.declared.attribute.BodyKind.{BodyKind}
use Rattle.cf_structure.specs.declared.attribute.BodyKind.TheVariants.{ConstantValue, Code, Other}
use Rattle.cf_structure.specs.Structure.{◌>>=◌, at_end, bad_length, number_at, bytes_at, many_at, counted_at, row_at}
use Rattle.cf_structure.specs.Structure.{inner_at, is_code_length, code_bytes_at, code_at, constant_at, body_kind}
use Rattle.cf_structure.specs.Structure.{body_at}
use Rattle.cf_structure.specs.Structure.{attribute_at, member_at}

-- each fault of a reading is one of these
abbrev pub Faults : {A : Type 0} → (Cut → Type 0) → Result A Cut → Type 0
Faults P read = (cut : Cut) → read ≡ Err cut → P cut

module _ (P : Cut → Type 0) where
  pub ok_faults : {A : Type 0} (x : A) → Faults P (Ok x)
  ok_faults x cut e = absurd cc

  pub err_faults : {A : Type 0} (d : Cut) → P d → Faults {A = A} P (Err d)
  err_faults d p cut e = let same : d ≡ cut = cc in subst P same p

  pub bind_faults : {A B : Type 0} (r : Result A Cut) (f : A → Result B Cut) → Faults P r → ((x : A) → Faults P (f x))
      → Faults P (r >>= f)
  bind_faults (Ok x) f first next = next x
  bind_faults (Err d) f first next = err_faults d (first d refl)

  pub cond_faults : {A : Type 0} (b : Bool) (x y : Result A Cut) → Faults P x → Faults P y → Faults P (cond b x y)
  cond_faults true x y first second = first
  cond_faults false x y first second = second

  module _ (short : Cut) (is_short : P short) where
    pub number_faults : (w : Width) (bytes : List ℕ) → Faults P (number_at short w bytes)
    number_faults w bytes = cond_faults _ _ _ (err_faults short is_short) (ok_faults _)

    bytes_faults : (count : ℕ) (bytes : List ℕ) → Faults P (bytes_at short count bytes)
    bytes_faults count bytes = cond_faults _ _ _ (err_faults short is_short) (ok_faults _)

  module _ {A : Type 0} (one : List ℕ → Result (A × List ℕ) Cut) (each : (bytes : List ℕ) → Faults P (one bytes)) where
    many_faults : (count : ℕ) (bytes : List ℕ) → Faults P (many_at one count bytes)
    unfolding many_at
    many_faults zero bytes = ok_faults _
    many_faults (suc count) bytes =
        bind_faults (one bytes) _ (each bytes) (λ first.
        bind_faults (many_at one count first.1) _ (many_faults count first.1) (λ others. ok_faults _))

    pub counted_faults : (short : Cut) → P short → (bytes : List ℕ) → Faults P (counted_at short one bytes)
    unfolding counted_at
    counted_faults short is_short bytes =
        bind_faults (number_at short w16 bytes) _ (number_faults short is_short w16 bytes)
        (λ count. many_faults count.0 count.1)

-- ---- attributes: their length fields, or the end of the file

module _ (P : Cut → Type 0) (ends : P at_end) (long : (left : ℕ) → P (bad_length left)) where
  module _ (holder : Cut) (is_holder : P holder) (behind : ℕ) where
    number : (w : Width) (bytes : List ℕ) → Faults P (number_at holder w bytes)
    number = number_faults P holder is_holder

    row_faults : (bytes : List ℕ) → Faults P (row_at holder bytes)
    unfolding row_at
    row_faults bytes =
        bind_faults P (number_at holder w16 bytes) _ (number w16 bytes) (λ start.
        bind_faults P (number_at holder w16 start.1) _ (number w16 start.1) (λ end.
        bind_faults P (number_at holder w16 end.1) _ (number w16 end.1) (λ handler.
        bind_faults P (number_at holder w16 handler.1) _ (number w16 handler.1) (λ catch_type. ok_faults P _))))

    inner_faults : (bytes : List ℕ) → Faults P (inner_at holder behind bytes)
    unfolding inner_at
    inner_faults bytes =
        bind_faults P (number_at holder w16 bytes) _ (number w16 bytes) (λ name.
        bind_faults P (number_at holder w32 name.1) _ (number w32 name.1) (λ size.
        bind_faults P (bytes_at (bad_length (length name.1 + behind)) size.0 size.1) _
        (bytes_faults P (bad_length (length name.1 + behind)) (long _) size.0 size.1) (λ content. ok_faults P _)))

    code_bytes_faults : (bytes : List ℕ) → Faults P (code_bytes_at holder behind bytes)
    unfolding code_bytes_at
    code_bytes_faults bytes =
        bind_faults P (number_at holder w32 bytes) _ (number w32 bytes) (λ size.
        cond_faults P (is_code_length size.0) _ _ (bytes_faults P holder is_holder size.0 size.1)
        (err_faults P (bad_length (length bytes + behind)) (long _)))

    code_faults : (bytes : List ℕ) → Faults P (code_at holder behind bytes)
    unfolding code_at
    code_faults bytes =
        bind_faults P (number_at holder w16 bytes) _ (number w16 bytes) (λ max_stack.
        bind_faults P (number_at holder w16 max_stack.1) _ (number w16 max_stack.1) (λ max_locals.
        bind_faults P (code_bytes_at holder behind max_locals.1) _ (code_bytes_faults max_locals.1) (λ content.
        bind_faults P (counted_at holder (row_at holder) content.1) _
        (counted_faults P (row_at holder) row_faults holder is_holder content.1) (λ rows.
        bind_faults P (counted_at holder (inner_at holder behind) rows.1) _
        (counted_faults P (inner_at holder behind) inner_faults holder is_holder rows.1) (λ attributes.
        cond_faults P (eqb (length attributes.1) 0) _ _ (ok_faults P _) (err_faults P holder is_holder))))))

    constant_faults : (bytes : List ℕ) → Faults P (constant_at holder bytes)
    unfolding constant_at
    constant_faults bytes =
        bind_faults P (number_at holder w16 bytes) _ (number w16 bytes) (λ index.
        cond_faults P (eqb (length index.1) 0) _ _ (ok_faults P _) (err_faults P holder is_holder))

    body_faults : (kind : BodyKind) (bytes : List ℕ) → Faults P (body_at kind holder behind bytes)
    unfolding body_at
    body_faults ConstantValue bytes =
        bind_faults P (constant_at holder bytes) _ (constant_faults bytes) (λ index. ok_faults P _)
    body_faults Code bytes = bind_faults P (code_at holder behind bytes) _ (code_faults bytes) (λ c. ok_faults P _)
    body_faults Other bytes = ok_faults P _

  file_number : (w : Width) (bytes : List ℕ) → Faults P (number_at at_end w bytes)
  file_number = number_faults P at_end ends

  attribute_faults : (place : Holder) (pool : List PoolEntry) (bytes : List ℕ)
      → Faults P (attribute_at place pool bytes)
  unfolding attribute_at
  attribute_faults place pool bytes =
      bind_faults P (number_at at_end w16 bytes) _ (file_number w16 bytes) (λ name.
      bind_faults P (number_at at_end w32 name.1) _ (file_number w32 name.1) (λ size.
      bind_faults P (bytes_at at_end size.0 size.1) _ (bytes_faults P at_end ends size.0 size.1) (λ content.
      bind_faults P (body_at (body_kind place pool name.0) (bad_length (length name.1)) (length content.1) content.0) _
      (body_faults (bad_length (length name.1)) (long _) (length content.1) (body_kind place pool name.0) content.0)
      (λ body. ok_faults P _))))

  pub attributes_faults : (place : Holder) (pool : List PoolEntry) (bytes : List ℕ)
      → Faults P (counted_at at_end (attribute_at place pool) bytes)
  attributes_faults place pool = counted_faults P (attribute_at place pool) (attribute_faults place pool) at_end ends

  member_faults : (place : Holder) (pool : List PoolEntry) (bytes : List ℕ) → Faults P (member_at place pool bytes)
  unfolding member_at
  member_faults place pool bytes =
      bind_faults P (number_at at_end w16 bytes) _ (file_number w16 bytes) (λ flags.
      bind_faults P (number_at at_end w16 flags.1) _ (file_number w16 flags.1) (λ name.
      bind_faults P (number_at at_end w16 name.1) _ (file_number w16 name.1) (λ desc.
      bind_faults P (counted_at at_end (attribute_at place pool) desc.1) _ (attributes_faults place pool desc.1)
      (λ attributes. ok_faults P _))))

  pub members_faults : (place : Holder) (pool : List PoolEntry) (bytes : List ℕ)
      → Faults P (counted_at at_end (member_at place pool) bytes)
  members_faults place pool = counted_faults P (member_at place pool) (member_faults place pool) at_end ends

  pub interfaces_faults : (bytes : List ℕ) → Faults P (counted_at at_end (number_at at_end w16) bytes)
  interfaces_faults = counted_faults P (number_at at_end w16) (file_number w16) at_end ends

  pub two_faults : (bytes : List ℕ) → Faults P (number_at at_end w16 bytes)
  two_faults = file_number w16
