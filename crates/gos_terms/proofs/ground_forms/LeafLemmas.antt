-- Nodes without parts.
use Rattle.std.specs.Prelude.{[]}
use Rattle.std.proofs.Common.{sym, subst}
use Rattle.gos_types.specs.Types.{Type', Com, Exp}
use Rattle.gos_model.specs.Terms as terms
use Rattle.gos_check.specs.Nodes.{Closed, Use}
use Rattle.gos_realises.specs.realises.Realises.{Realises}
use Rattle.gos_terms.specs.leaves.Leaves.{UseIsRealised, SkipIsRealised, LiteralIsRealised}
use Rattle.gos_terms.specs.ground_forms.Cases.{UseCase, SkipCase, LiteralCase}
use Rattle.gos_terms.proofs.ground_forms.WiredLemmas.{imports_are_ports}

pub use_case : UseIsRealised → UseCase
use_case law types ns n t has e i j env pl r w supplies differ fit typed =
    law types i j n t ns env pl r w has e fit (imports_are_ports types i j (Use t [] n) ns env pl r w supplies) differ
    (subst (λ (u : Type'). Realises u (env n).plan (env n).term) (sym e) (supplies n has))

pub skip_case : SkipIsRealised → SkipCase
skip_case law types ns i j env pl r w supplies differ fit typed =
    law types i j ns env pl r w fit (imports_are_ports types i j (Closed Com [] terms.Skip) ns env pl r w supplies) differ

pub literal_case : LiteralIsRealised → LiteralCase
literal_case law types ns w k i j env pl r wired supplies differ fit (e, wide, small) =
    law types i j w k ns env pl r wired wide small fit (imports_are_ports types i j (Closed (Exp w) [] (terms.Lit k w)) ns env pl r wired supplies) differ
