-- What a verdict from an encoding says of whichever method it represents.
use Rattle.cf_thin.specs.Instr.{Places}
use Rattle.std.specs.Prelude.{◌≡◌, ℕ, Bool, List, All}
use Rattle.jv_base.specs.declared.method.Bounds.{Bounds}
use Rattle.jv_base.specs.declared.method.Goal.{Goal}
use Rattle.jv_base.specs.declared.method.MethodId.{MethodId}
use Rattle.cf_thin.specs.Thin.{int_descriptor}
use Rattle.jb_run.specs.declared.encoding.Encoding.{Encoding}
use Rattle.jb_run.specs.declared.report.Line.{Line}
use Rattle.jb_run.specs.declared.report.Verdict.{Verdict}
use Rattle.jb_run.specs.Justified.{IsJustified}
use Rattle.jb_run.specs.Represents.{Represents}
use Rattle.jb_run.specs.Violates.{HaveRoom}

-- the encoding represents the code of a method whose parameters are so many ints
pub record IsEncodingOf (code : Places) (method : MethodId) (encoding : Encoding) : Type 0 where
  pub params : ℕ
  pub gives_int : Bool
  pub descriptor : method.desc ≡ int_descriptor params gives_int
  pub represents : Represents code params encoding

-- the verdict is justified for each method that is encoded so, and each bounds that have room for its runs
abbrev pub IsVerdictBy : Encoding → Goal → Verdict → Type 0
IsVerdictBy encoding goal verdict =
    (code : Places) (method : MethodId) (bounds : Bounds) → IsEncodingOf code method encoding → HaveRoom bounds
    → IsJustified bounds code method goal.site.pc goal.kind verdict

-- and so is the verdict of each line
abbrev pub AreVerdictsBy : Encoding → List Line → Type 0
AreVerdictsBy encoding lines = All (λ line. IsVerdictBy encoding line.goal line.verdict) lines
