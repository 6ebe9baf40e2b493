-- A body with a term in the place of its bound number is what it means with a supply of that term for the number.
use Rattle.std.specs.Prelude.{◌≡◌, ℕ, ◌<◌, Bool, true, false, List, [], ◌∷◌, ◌++◌, Contains, nat_eq, nat_lt, if◌then◌else◌}
use Rattle.std.proofs.Common.{refl, sym, ◌∙◌, ap, arith}
use Rattle.std.proofs.lemmas.Bool.Decides.{nat_tests}
use Rattle.gos_types.specs.Types.{Type', Com}
use Rattle.gos_model.specs.Terms.{Skip}
use Rattle.gos_model.specs.Typing.{Imports, Typed}
use Rattle.gos_model.specs.Substitution.{put_at, instantiate}
use Rattle.gos_check.specs.Nodes.{Numbered, Meaning, below, meaning}
use Rattle.gos_check.specs.Linearity.{times}
use Rattle.gos_check.proofs.TimesLemmas.{some_times, listed_times}
use Rattle.gos_realises.specs.realises.Modules.{Supply}
use Rattle.gos_compile.specs.Wiring.{Types}
use Rattle.gos_terms.specs.wired.Wired.{Supplies, terms_of}
use Rattle.gos_terms.specs.meanings.Meanings.{HasLeaves, standing, BodyIsInstantiated}
use Rattle.gos_terms.proofs.regions.NamedLemmas.{before}
use Rattle.gos_terms.specs.numbers.Kept.{InScope}
use Rattle.gos_terms.proofs.ground_forms.AgreeLemmas.{AgreeAt, below_agrees, meaning_agrees}

module _
    (types : Types) (ns : List ℕ) (n : ℕ) (env inner : Supplies) (s : Supply) (here : (k : ℕ) → nat_eq k n ≡ true → inner k ≡ s)
    (there : (k : ℕ) → nat_eq k n ≡ false → inner k ≡ env k) where
  -- of other numbers nothing is known, so they stand for `skip`
  total : Meaning
  total k = if nat_lt 0 (times k ns) then (env k).term else Skip

  total_is : AgreeAt ns (terms_of env) total
  unfolding total
  total_is k has =
      let some = some_times k ns has in
      let test : nat_lt 0 (times k ns) ≡ true = grind (arith, nat_tests, some) in
      sym (ap (λ (c : Bool). if c then (env k).term else Skip) test)

  standing_is : AgreeAt (ns ++ n ∷ []) (standing n s.term total) (terms_of inner)
  standing_is k has = by_test (nat_eq k n) refl
    where
      by_test : (c : Bool) → nat_eq k n ≡ c → (if c then s.term else total k) ≡ (inner k).term
      by_test true is = ap (λ (z : Supply). z.term) (sym (here k is))
      by_test false is = sym (total_is k (before ns n k is has)) ∙ ap (λ (z : Supply). z.term) (sym (there k is))

  module _ (is : Imports) (typed : (k : ℕ) → Contains ns k → Typed is [] (env k).term (types k)) where
    total_typed : (k : ℕ) → (u : Type') × Typed is [] (total k) u
    unfolding total
    total_typed k = by_test (nat_lt 0 (times k ns)) refl
      where
        by_test : (c : Bool) → nat_lt 0 (times k ns) ≡ c → (u : Type') × Typed is [] (if c then (env k).term else Skip) u
        by_test true is = let some : 0 < times k ns = grind (arith, nat_tests, is) in (types k, typed k (listed_times k ns some))
        by_test false is = (Com, refl)

    pub body_instantiated : BodyIsInstantiated → (m : Numbered) (a : Type') → HasLeaves m → InScope (ns ++ n ∷ []) m → Typed is [] s.term a
        → instantiate (meaning (below n (terms_of env)) m) s.term ≡ meaning (terms_of inner) m
    body_instantiated law m a leaves scope of =
        ap (put_at 0 s.term)
        (meaning_agrees m (ns ++ n ∷ []) (below n (terms_of env)) (below n total) scope (below_agrees n ns (terms_of env) total total_is))
        ∙ (law is total n m s.term a leaves of total_typed
        ∙ meaning_agrees m (ns ++ n ∷ []) (standing n s.term total) (terms_of inner) scope standing_is)
