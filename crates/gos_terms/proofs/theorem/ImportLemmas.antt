-- The imports of a checked module have different names, widths, and supplies with their terms.
use Rattle.std.specs.Prelude.{◌≡◌, ◌≢◌, ℕ, zero, suc, List, [], ◌∷◌, map, Some, Contains, slice_get}
use Rattle.std.proofs.Common.{refl, sym, ◌∙◌, ap, arith}
use Rattle.gos_syntax.specs.Modules.{SeenImport}
use Rattle.gos_model.specs.Terms as terms
use Rattle.gos_model.specs.Terms.{Name}
use Rattle.gos_model.specs.Typing.{Imported, Imports}
use Rattle.gos_model.specs.Sources.{import_of}
use Rattle.gos_check.specs.Accepted as accepted
use Rattle.gos_check.specs.Accepted.{IsNew, AreWritten}
use Rattle.gos_check.specs.Linearity.{import_at}
use Rattle.gos_realises.specs.realises.Realises.{NamesDiffer}
use Rattle.gos_realises.specs.realises.Modules.{Supply, HaveWidths}
use Rattle.gos_terms.specs.meanings.Meanings.{term_or}
use Rattle.gos_terms.specs.wired.Modules.{supply_at}

new_name : (x : Name) (is : List SeenImport) → IsNew x is → (j : Imported) → Contains (map import_of is) j → x ≢ j.name
new_name x [] new j (k, small, at) e = omega (arith, small)
new_name x (i ∷ is) new j (zero, small, at) e =
    let there : import_of i ≡ j = at in new.0 (ap (λ (y : Imported). y.name) there ∙ sym e)
new_name x (i ∷ is) new j (suc k, small, at) e = new_name x is new.1 j (k, omega (arith, small), at) e

pub names_differ : (is : List SeenImport) → accepted.NamesDiffer is → NamesDiffer (map import_of is)
names_differ [] differ = tt
names_differ (i ∷ is) differ = (new_name i.name is differ.0, names_differ is differ.1)

-- the types are written, so their numbers have widths
pub have_widths : (is : List SeenImport) → AreWritten is → HaveWidths (map import_of is)
have_widths [] written = tt
have_widths (i ∷ is) written = (written.0.0, have_widths is written.1)

-- the number of an import's name is its place
pub import_there : (is : Imports) (n : ℕ) (x : Name) → import_at is n ≡ terms.Import x → (i : Imported) × (slice_get is n ≡ Some i)
import_there [] n x e = absurd (cc e)
import_there (i ∷ is) zero x e = (i, refl)
import_there (i ∷ is) (suc n) x e = import_there is n x e

pub term_there : (ss : List Supply) (n : ℕ) → term_or (slice_get ss n) ≡ (supply_at ss n).term
term_there [] n = refl
term_there (s ∷ ss) zero = refl
term_there (s ∷ ss) (suc n) = term_there ss n
