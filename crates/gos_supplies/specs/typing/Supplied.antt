-- A term with supplies has its type.
--
-- Read first: Names; Linking of gos_model, Modules of gos_realises. The parts of an application, and of `||`, share nothing:
-- they have no name in common, and supplies of different imports have imports of different names.
use Rattle.std.specs.Prelude.{◌≡◌, ◌≢◌, List, [], ◌∷◌, ◌++◌, Option, Some}
use Rattle.gos_types.specs.Types.{Type'}
use Rattle.gos_model.specs.Terms.{Name, Term}
use Rattle.gos_model.specs.Typing.{Imported, Imports, import_type, Apart, Typed}
use Rattle.gos_model.specs.Linking.{supplied}
use Rattle.gos_plan.specs.Plans.{Plan}
use Rattle.gos_plan.specs.Joining.{IsJoining}
use Rattle.gos_realises.specs.realises.Links.{IsJoined}
use Rattle.gos_realises.specs.realises.Realises.{NamesDiffer}
use Rattle.gos_realises.specs.realises.Modules.{Supply, AreSupplied, term_for, supplying}

-- f has a term for each import of i, which has that type under the imports j alone
abbrev pub AreTyped : Imports → Imports → (Name → Option Term) → Type 0
AreTyped i j f = (x : Name) (t : Type') → import_type i x ≡ Some t → (n : Term) × (f x ≡ Some n) × Typed j [] n t

-- the terms of different imports share nothing
abbrev pub ShareNothing : Imports → (Name → Option Term) → Type 0
ShareNothing i f =
    (x y : Name) (t u : Type') (m n : Term)
    → import_type i x ≡ Some t → import_type i y ≡ Some u → f x ≡ Some m → f y ≡ Some n → x ≢ y → Apart m n

-- With these put in a term has its type under the imports j.
abbrev pub SuppliedTermIsTyped : Type 0
SuppliedTermIsTyped =
    (i j : Imports) (f : Name → Option Term) (g : List Type') (m : Term) (t : Type')
    → AreTyped i j f → ShareNothing i f → Typed i g m t → Typed j g (supplied f m) t

-- the imports of all supplies
abbrev pub imports_of : List Supply → List Imported
imports_of [] = []
imports_of (s ∷ ss) = s.plan.imports ++ imports_of ss

-- are those of a plan that is joined to them
abbrev pub ImportsAreOfSupplies : Type 0
ImportsAreOfSupplies = (p r : Plan) (ss : List Supply) → IsJoining (supplying p ss) r → r.imports ≡ imports_of ss

-- So what a plan's term becomes by supplies has its type under the imports of the plan that is joined to them.
abbrev pub SuppliedIsTyped : Type 0
SuppliedIsTyped =
    (p r : Plan) (ss : List Supply) (m : Term) (t : Type')
    → AreSupplied p.imports ss → IsJoined (supplying p ss) r → NamesDiffer r.imports → Typed p.imports [] m t
    → Typed r.imports [] (supplied (term_for p.imports ss) m) t
