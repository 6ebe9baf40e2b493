-- The body of a binder whose number has a name: its imports are the name and imports of the whole, and have different names.
use Rattle.std.specs.Prelude.{◌≡◌, ◌≢◌, ℕ, zero, suc, Bool, true, false, List, [], ◌∷◌, ◌++◌, ◌⊎◌, Some, Contains, slice_get, nat_eq, if◌then◌else◌}
use Rattle.std.proofs.Common.{refl, sym, ◌∙◌, ap, arith, inl, inr}
use Rattle.std.proofs.lemmas.Option.{none-some, same_Some}
use Rattle.std.proofs.lemmas.List.Elements.{Contains-append_cases}
use Rattle.std.proofs.lemmas.Bool.{eqb-true}
use Rattle.gos_types.specs.Types.{Type'}
use Rattle.gos_model.specs.Terms.{Name}
use Rattle.gos_model.specs.Typing.{Imported}
use Rattle.gos_check.specs.Nodes.{Binding, Numbered, Under}
use Rattle.gos_plan.specs.Plans.{Plan}
use Rattle.gos_realises.specs.realises.Modules.{Supply}
use Rattle.gos_realises.specs.realises.Realises.{NamesDiffer}
use Rattle.gos_realises.proofs.realises.PlaceLemmas.{contains_at, differ_at, at_differ}
use Rattle.gos_supplies.specs.names.Names.{imported}
use Rattle.gos_compile.specs.Wiring.{Types}
use Rattle.gos_terms.specs.wired.Wired.{Supplies, Placing, Origin, IsWired}
use Rattle.gos_terms.specs.regions.Blocks.{with_name}
use Rattle.gos_terms.proofs.regions.HolderLemmas.{name_supply, port_imports}

-- a number of a list with one more at its end
pub in_list : (ns : List ℕ) (k n : ℕ) → nat_eq k n ≡ false → Contains (n ∷ ns) k → Contains ns k
in_list ns k n apart (zero, small, e) = let no : nat_eq k n ≡ true = grind (arith, e) in absurd (cc (sym no ∙ apart))
in_list ns k n apart (suc j, small, e) = (j, omega (arith, small), e)

pub before : (ns : List ℕ) (n k : ℕ) → nat_eq k n ≡ false → Contains (ns ++ n ∷ []) k → Contains ns k
before ns n k apart has =
    elim (Contains-append_cases ns (n ∷ []) k has) [
      | inl h ↦ h
      | inr h ↦ (let (j, small, e) = in_list [] k n apart h in absurd (omega (arith, small)))
    ]

-- the one import of its supply is the name
only_import : (x : Name) (a : Type') (q : ℕ) (y : Imported) → slice_get (imported x a ∷ []) q ≡ Some y → (q ≡ 0) × (y.name ≡ x)
only_import x a zero y e = (refl, ap (λ (z : Imported). z.name) (sym (same_Some (imported x a) y e)))
only_import x a (suc q) y e = absurd (none-some y e)

module _ (n : ℕ) (x : Name) (a : Type') (env : Supplies) where
  pub inner_here : (k : ℕ) → nat_eq k n ≡ true → with_name n x a env k ≡ name_supply x a
  inner_here k is = ap (λ (b : Bool). if b then name_supply x a else env k) is

  pub inner_there : (k : ℕ) → nat_eq k n ≡ false → with_name n x a env k ≡ env k
  inner_there k is = ap (λ (b : Bool). if b then name_supply x a else env k) is

  pub inner_imports : (k : ℕ) → nat_eq k n ≡ true → (with_name n x a env k).plan.imports ≡ imported x a ∷ []
  inner_imports k is = ap (λ (s : Supply). s.plan.imports) (inner_here k is) ∙ port_imports x a

module _
    (types : Types) (ns : List ℕ) (over : Binding) (ty : Type') (n : ℕ) (m : Numbered) (env : Supplies) (x : Name)
    (t : Type') (i j a b : ℕ) (pl pc : Placing) (r body : Plan) (wired : IsWired types i j (Under t [] over n m) ns env pl r)
    (v : IsWired types a b m (ns ++ n ∷ []) (with_name n x ty env) pc body) (differ : NamesDiffer r.imports)
    (fresh : (y : Imported) → Contains r.imports y → y.name ≢ x) where
  -- an import of the body's plan is the name, or an import of the whole
  abbrev IsOf : ℕ → Imported → Type 0
  IsOf k y =
      ((k ≡ pc.import n 0) × (y.name ≡ x))
      ⊎ ((q : ℕ) × (slice_get r.imports q ≡ Some y) × (k ≡ pc.import (pl.origin q).number (pl.origin q).import))

  is_of : (k : ℕ) (y : Imported) → slice_get body.imports k ≡ Some y → IsOf k y
  is_of k y at = let (has, there, home) = v.no_import k y at in by_test has there home (nat_eq (pc.origin k).number n) refl
    where
      by_test : Contains (ns ++ n ∷ []) (pc.origin k).number
          → slice_get (with_name n x ty env (pc.origin k).number).plan.imports (pc.origin k).import ≡ Some y
          → pc.import (pc.origin k).number (pc.origin k).import ≡ k
          → (c : Bool) → nat_eq (pc.origin k).number n ≡ c → IsOf k y
      by_test has there home true is =
          let number : (pc.origin k).number ≡ n = eqb-true (pc.origin k).number n is in
          let (first, name) =
          only_import x ty (pc.origin k).import y
          (ap (λ (l : List Imported). slice_get l (pc.origin k).import) (sym (inner_imports n x ty env (pc.origin k).number is)) ∙ there) in
          inl (sym home ∙ (λ c. pc.import (number c) (first c)), name)
      by_test has there home false is =
          let (at_r, from) =
          wired.imports (pc.origin k).number (pc.origin k).import y (before ns n (pc.origin k).number is has)
          (ap (λ (s : Supply). slice_get s.plan.imports (pc.origin k).import) (sym (inner_there n x ty env (pc.origin k).number is)) ∙ there) in
          inr (
            pl.import (pc.origin k).number (pc.origin k).import,
            at_r,
            sym home ∙ ap (λ (o : Origin). pc.import o.number o.import) (sym from),
          )

  pub body_differ : NamesDiffer body.imports
  body_differ = at_differ body.imports (λ k l y z at_k at_l e. by_sort k l y z e (is_of k y at_k) (is_of l z at_l))
    where
      by_sort : (k l : ℕ) (y z : Imported) → y.name ≡ z.name → IsOf k y → IsOf l z → k ≡ l
      by_sort k l y z e (inl (at_k, name_y)) (inl (at_l, name_z)) = at_k ∙ sym at_l
      by_sort k l y z e (inl (at_k, name_y)) (inr (q, at_q, at_l)) =
          absurd (fresh z (contains_at r.imports q z at_q) (sym e ∙ name_y))
      by_sort k l y z e (inr (p, at_p, at_k)) (inl (at_l, name_z)) =
          absurd (fresh y (contains_at r.imports p y at_p) (e ∙ name_z))
      by_sort k l y z e (inr (p, at_p, at_k)) (inr (q, at_q, at_l)) =
          let same = differ_at r.imports differ p q y z at_p at_q e in
          at_k ∙ (ap (λ (c : ℕ). pc.import (pl.origin c).number (pl.origin c).import) same ∙ sym at_l)
