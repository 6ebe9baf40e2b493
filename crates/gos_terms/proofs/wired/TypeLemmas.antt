-- The number of an import has the import's type: the term doesn't make it.
use Rattle.std.specs.Prelude.{◌≡◌, ℕ, zero, suc, Some, slice_get}
use Rattle.std.proofs.Common.{refl, ◌∙◌, arith}
use Rattle.std.proofs.lemmas.Option.{slice_get_within}
use Rattle.gos_model.specs.Typing.{Imports, Imported}
use Rattle.gos_check.specs.Nodes.{Numbered}
use Rattle.gos_check.specs.Linearity.{times, made}
use Rattle.gos_compile.specs.Wiring.{import_types, all_types}
use Rattle.gos_terms.specs.wired.Modules.{MakesNoImport}
use Rattle.gos_terms.proofs.wired.TieLemmas.{import_type}
use Rattle.gos_compile.proofs.AgreeLemmas.{types_keep}

-- an import's number has its type
pub type_is : (is : Imports) (m : Numbered) → MakesNoImport is m → (n : ℕ) (x : Imported) → slice_get is n ≡ Some x → all_types is m n ≡ x.ty
type_is is m makes n x at = types_keep n m (import_types is) (by_times (times n (made m)) refl) ∙ import_type is n x at
  where
    by_times : (k : ℕ) → times n (made m) ≡ k → times n (made m) ≡ 0
    by_times zero e = e
    by_times (suc k) e =
        let high = makes n (omega (arith, e)) in let low = slice_get_within is n x at in absurd (omega (arith, high, low))
