-- A name has a type that can be counted, where all imports and binders have.
use Rattle.std.specs.Prelude.{◌≡◌, ℕ, List, [], ◌∷◌, Option, Some, map, if◌then◌else◌, Bool, true, false}
use Rattle.std.specs.Str.{bytes_eq}
use Rattle.std.proofs.Common.{subst}
use Rattle.gos_types.specs.Types.{Type', type_of}
use Rattle.gos_syntax.specs.Modules.{SeenImport}
use Rattle.gos_model.specs.Typing.{import_type}
use Rattle.gos_model.specs.Sources.{import_of}
use Rattle.gos_check.specs.Sizes.{IsCountable, AreCountable}
use Rattle.gos_check.specs.Scopes.{Binders, type_at}
use Rattle.gos_check.specs.inner.Walked.{BindCountable}

some_is : (t u : Type') → (let o : Option Type' = Some t in o ≡ Some u) → t ≡ u
some_is t u h = cc

chosen_countable : (test : Bool) (a t : Type') (o : Option Type') → IsCountable a → (o ≡ Some t → IsCountable t)
    → (if test then Some a else o) ≡ Some t → IsCountable t
chosen_countable true a t o k l h = subst (λ (x : Type'). IsCountable x) (some_is a t h) k
chosen_countable false a t o k l h = l h

import_countable : (imports : List SeenImport) (x : List ℕ) (t : Type') → AreCountable imports → import_type (map import_of imports) x ≡ Some t → IsCountable t
import_countable [] x t k h = cc
import_countable (i ∷ is) x t k h =
    chosen_countable (bytes_eq i.name x) (type_of i.ty) t (import_type (map import_of is) x) k.0 (import_countable is x t k.1) h

pub type_countable : (imports : List SeenImport) (g : Binders) (x : List ℕ) (t : Type') → AreCountable imports → BindCountable g
    → type_at (map import_of imports) g x ≡ Some t → IsCountable t
type_countable imports [] x t k l h = import_countable imports x t k h
type_countable imports (b ∷ g) x t k l h =
    chosen_countable (bytes_eq b.name x) b.ty t (type_at (map import_of imports) g x) l.0 (type_countable imports g x t k l.1) h
