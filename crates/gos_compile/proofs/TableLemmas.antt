-- The types of numbers, in a list: those of the imports, and what a longer list and a change make of them.
use Rattle.std.specs.Prelude.{◌≡◌, ℕ, zero, suc, List, [], ◌∷◌, ◌++◌, map}
use Rattle.std.proofs.Common.{refl, ap}
use Rattle.gos_types.specs.declared.types.Ty.{Ty}
use Rattle.gos_types.specs.declared.types.Ty.TheVariants as types
use Rattle.gos_types.specs.Types.{Type', Com, type_of}
use Rattle.gos_syntax.specs.Modules.{SeenImport}
use Rattle.gos_model.specs.Sources.{import_of}
use Rattle.gos_compile.specs.inner.Tables.{types_at}
use Rattle.gos_compile.specs.Wiring.{import_types}

abbrev head_of : List Type' → Type'
head_of [] = Com
head_of (t ∷ ts) = t

abbrev tail_of : List Type' → List Type'
tail_of [] = []
tail_of (t ∷ ts) = ts

at_imports : (list : List Ty) (is : List SeenImport) → map type_of list ≡ map (λ i. type_of i.ty) is → (k : ℕ)
    → types_at list k ≡ import_types (map import_of is) k
at_imports [] [] e k = refl
at_imports [] (i ∷ is) e k = cc
at_imports (t ∷ ts) [] e k = cc
at_imports (t ∷ ts) (i ∷ is) e zero = ap head_of e
at_imports (t ∷ ts) (i ∷ is) e (suc k) = at_imports ts is (ap tail_of e) k

pub types_of_imports : (list : List Ty) (is : List SeenImport) → map type_of list ≡ map (λ i. type_of i.ty) is
    → types_at list ≡ import_types (map import_of is)
types_of_imports list is e = λ i k. at_imports list is e k i

-- one more type of a command
pub one_longer : (list : List Ty) (k : ℕ) → types_at (list ++ types.Com ∷ []) k ≡ types_at list k
one_longer [] zero = refl
one_longer [] (suc k) = refl
one_longer (t ∷ ts) zero = refl
one_longer (t ∷ ts) (suc k) = one_longer ts k
