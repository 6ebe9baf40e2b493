-- Of a plan and its supplies the imports of the supplies stay, in their order.
use Rattle.std.specs.Prelude.{◌≡◌, ℕ, suc, List, [], ◌∷◌, ◌++◌, map}
use Rattle.std.proofs.Common.{refl, ◌∙◌, ap}
use Rattle.std.proofs.lemmas.List.{map-append}
use Rattle.gos_model.specs.Typing.{Imported}
use Rattle.gos_plan.specs.Joining.{LeftImport, left_in, left_among}
use Rattle.gos_realises.specs.realises.Modules.{Supply, plans_of, imports_linked}
use Rattle.gos_realises.proofs.realises.LeftLemmas.{left_list, left_all, left_joined}
use Rattle.gos_joining.proofs.renumbered.SupplyLemmas.{first_joined, supply_free}
use Rattle.gos_supplies.specs.typing.Supplied.{imports_of, ImportsAreOfSupplies}

abbrev import_of : LeftImport → Imported
import_of l = l.import

imports_listed : (k i : ℕ) (xs : List Imported) → map import_of (left_list k i xs) ≡ xs
imports_listed k i [] = refl
imports_listed k i (x ∷ xs) = ap (λ l. x ∷ l) (imports_listed k (suc i) xs)

supplies_left : (is : List Imported) (k : ℕ) (ss : List Supply) → map import_of (left_among (imports_linked 0 is) (suc k) (plans_of ss)) ≡ imports_of ss
supplies_left is k [] = refl
supplies_left is k (s ∷ ss) =
    let one : map import_of (left_in (imports_linked 0 is) (suc k) 0 s.plan.imports) ≡ s.plan.imports =
    ap (map import_of) (left_all (imports_linked 0 is) (suc k) (supply_free is k) 0 s.plan.imports) ∙ imports_listed (suc k) 0 s.plan.imports
    in
    let rest = supplies_left is (suc k) ss in
    map-append import_of (left_in (imports_linked 0 is) (suc k) 0 s.plan.imports) (left_among (imports_linked 0 is) (suc (suc k)) (plans_of ss))
    ∙ (λ t. one t ++ rest t)

pub imports_are_of_supplies : ImportsAreOfSupplies
imports_are_of_supplies p r ss joining =
    let none : left_in (imports_linked 0 p.imports) 0 0 p.imports ≡ [] = left_joined (imports_linked 0 p.imports) 0 0 p.imports (first_joined p.imports) in
    joining.imports
    ∙ (ap (λ (l : List LeftImport). map import_of (l ++ left_among (imports_linked 0 p.imports) 1 (plans_of ss))) none
    ∙ supplies_left p.imports 0 ss)
