-- A wired node whose imports are imports of another plan, each of them a different one, has imports of different names where that has.
use Rattle.std.specs.Prelude.{◌≡◌, ℕ, Some, Contains, slice_get}
use Rattle.std.proofs.Common.{List, sym, ◌∙◌, ap}
use Rattle.gos_model.specs.Typing.{Imported, Imports}
use Rattle.gos_check.specs.Nodes.{Numbered}
use Rattle.gos_plan.specs.Plans.{Plan}
use Rattle.gos_realises.specs.realises.Realises.{NamesDiffer}
use Rattle.gos_realises.proofs.realises.PlaceLemmas.{differ_at, at_differ}
use Rattle.gos_compile.specs.Wiring.{Types}
use Rattle.gos_terms.specs.wired.Wired.{Supplies, Placing, Origin, IsWired}

-- `to` tells which of the imports `is` each import of a number's supply is
pub names_differ_along :
    (types : Types) (a b : ℕ) (n : Numbered) (ms : List ℕ) (env : Supplies) (pc : Placing) (c : Plan) → IsWired types a b n ms env pc c
    → (is : Imports) (to : ℕ → ℕ → ℕ)
    → ((k q : ℕ) (x : Imported) → Contains ms k → slice_get (env k).plan.imports q ≡ Some x → slice_get is (to k q) ≡ Some x)
    → ((k l p q : ℕ) (x y : Imported) → Contains ms k → Contains ms l → slice_get (env k).plan.imports p ≡ Some x
    → slice_get (env l).plan.imports q ≡ Some y → to k p ≡ to l q → (k ≡ l) × (p ≡ q))
    → NamesDiffer is → NamesDiffer c.imports
names_differ_along types a b n ms env pc c v is to within apart differ = at_differ c.imports each
  where
    each : (k l : ℕ) (x y : Imported) → slice_get c.imports k ≡ Some x → slice_get c.imports l ≡ Some y → x.name ≡ y.name → k ≡ l
    each k l x y at_k at_l e =
        let (has_k, there_k, back_k) = v.no_import k x at_k in
        let (has_l, there_l, back_l) = v.no_import l y at_l in
        let in_k = within (pc.origin k).number (pc.origin k).import x has_k there_k in
        let in_l = within (pc.origin l).number (pc.origin l).import y has_l there_l in
        let same =
        differ_at is differ (to (pc.origin k).number (pc.origin k).import) (to (pc.origin l).number (pc.origin l).import) x y in_k in_l e in
        let (numbers, imports) =
        apart (pc.origin k).number (pc.origin l).number (pc.origin k).import (pc.origin l).import x y has_k has_l there_k there_l same in
        sym back_k ∙ ((λ i. pc.import (numbers i) (imports i)) ∙ back_l)

-- a node that is wired to some of the supplies of another
pub names_differ :
    (types : Types) (i j : ℕ) (m : Numbered) (ns : List ℕ) (env : Supplies) (pl : Placing) (r : Plan) → IsWired types i j m ns env pl r
    → (a b : ℕ) (n : Numbered) (ms : List ℕ) (pc : Placing) (c : Plan) → IsWired types a b n ms env pc c → ((k : ℕ) → Contains ms k → Contains ns k)
    → NamesDiffer r.imports → NamesDiffer c.imports
names_differ types i j m ns env pl r w a b n ms pc c v among =
    names_differ_along types a b n ms env pc c v r.imports pl.import (λ k q x has at. (w.imports k q x (among k has) at).0) apart
  where
    apart : (k l p q : ℕ) (x y : Imported) → Contains ms k → Contains ms l → slice_get (env k).plan.imports p ≡ Some x
        → slice_get (env l).plan.imports q ≡ Some y → pl.import k p ≡ pl.import l q → (k ≡ l) × (p ≡ q)
    apart k l p q x y has also at_k at_l same =
        let origins : record { number = k; import = p } ≡ record { number = l; import = q } =
        sym (w.imports k p x (among k has) at_k).1 ∙ (ap pl.origin same ∙ (w.imports l q y (among l also) at_l).1) in
        (ap (λ (o : Origin). o.number) origins, ap (λ (o : Origin). o.import) origins)
