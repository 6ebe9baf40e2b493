-- A typed term has its type under more imports, and terms whose imports have other names share nothing.
use Rattle.std.specs.Prelude.{◌≡◌, suc, Bool, true, false, List, [], ◌∷◌, ◌++◌, Some, if◌then◌else◌}
use Rattle.std.specs.Str.{bytes_eq}
use Rattle.std.proofs.Common.{refl, sym, ◌∙◌, arith}
use Rattle.gos_types.specs.Types.{Type'}
use Rattle.gos_types.proofs.BytesLemmas.{bytes_eq_same}
use Rattle.gos_model.specs.Terms.{Term}
use Rattle.gos_model.specs.Typing.{Imports, import_type, Named, Apart, Typed}
use Rattle.gos_realises.specs.realises.Realises.{HaveOtherNames}
use Rattle.gos_joining.proofs.renumbered.ImportLemmas.{has_type}
use Rattle.gos_programs.specs.contexts.Widening.{AreAmong}
use Rattle.gos_programs.proofs.contexts.WideningLemmas as widening
use Rattle.gos_supplies.proofs.typing.WhenceLemmas.{named}

pub typed_more : (i j : Imports) → AreAmong i j → (m : Term) (g : List Type') (t : Type') → Typed i g m t → Typed j g m t
typed_more i j all m g t h = widening.typed_more i j all g m t h

-- imports are among those that have others before or behind
pub among_first : (is js : Imports) → AreAmong is (is ++ js)
among_first [] js x t h = absurd (cc h)
among_first (i ∷ is) js x t h = by_test (bytes_eq i.name x) h (among_first is js x t)
  where
    by_test : (b : Bool) → (if b then Some i.ty else import_type is x) ≡ Some t
        → (import_type is x ≡ Some t → import_type (is ++ js) x ≡ Some t)
        → (if b then Some i.ty else import_type (is ++ js) x) ≡ Some t
    by_test true e rest = e
    by_test false e rest = rest e

pub among_second : (is js : Imports) → HaveOtherNames is js → AreAmong js (is ++ js)
among_second [] js other x t h = h
among_second (i ∷ is) js other x t h =
    by_test (bytes_eq i.name x) refl
    (among_second is js (λ a b has_a has_b. other a b (suc has_a.0, (let small = has_a.1 in omega (arith, small)), has_a.2) has_b) x t h)
  where
    by_test : (b : Bool) → bytes_eq i.name x ≡ b → import_type (is ++ js) x ≡ Some t
        → (if b then Some i.ty else import_type (is ++ js) x) ≡ Some t
    by_test true test rest =
        let (j, has, named, typed) = has_type js x t h in
        absurd (other i j (0, omega arith, refl) has (bytes_eq_same i.name x test ∙ sym (bytes_eq_same j.name x named)))
    by_test false test rest = rest

-- terms under imports of other names share nothing
pub are_apart : (i j : Imports) (m n : Term) (t u : Type') → HaveOtherNames i j → Typed i [] m t → Typed j [] n u → Apart m n
are_apart i j m n t u other h k x in_m in_n =
    let one = named i x m 0 [] t (omega arith) h in_m in
    let two = named j x n 0 [] u (omega arith) k in_n in
    let both : Named one.import.name ≡ Named two.import.name = sym one.same ∙ two.same in
    let same : one.import.name ≡ two.import.name = cc both in
    other one.import two.import one.has two.has same
