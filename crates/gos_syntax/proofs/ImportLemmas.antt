-- One import more.
use Rattle.std.proofs.Common.{ℕ, List, [], ◌∷◌, ◌++◌, map, refl, sym, subst}
use Rattle.gos_syntax.specs.Items.{Item}
use Rattle.gos_syntax.specs.Modules.{SeenImport}
use Rattle.gos_syntax.specs.ModuleTrees.{import_tree}
use Rattle.gos_syntax.specs.ParsedModules.{IsImport, AreImports}

-- an import after others
pub imports_more : (items : List Item) (i j k : ℕ) (imports : List SeenImport) (imported : SeenImport)
    → AreImports items i j (map import_tree imports) → IsImport items j k (import_tree imported)
    → AreImports items i k (map import_tree (imports ++ imported ∷ []))
imports_more items i j k [] imported are is = (k, subst (λ (n : ℕ). IsImport items n k (import_tree imported)) (sym are) is, refl)
imports_more items i j k (first ∷ others) imported (l, is_first, are) is = (l, is_first, imports_more items l j k others imported are is)
