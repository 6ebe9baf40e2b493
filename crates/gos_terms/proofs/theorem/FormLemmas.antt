-- What holds of nodes, by the laws of closed forms and of uses: it holds of each such node that is kept, whose splits are none.
use Rattle.std.specs.Prelude.{◌≡◌, ℕ, List, [], Contains}
use Rattle.std.proofs.Common.{sym, subst}
use Rattle.gos_types.specs.Types.{Type', Com, Exp}
use Rattle.gos_model.specs.Terms as terms
use Rattle.gos_model.specs.Terms.{Term}
use Rattle.gos_check.specs.declared.linear.Split.{Split}
use Rattle.gos_check.specs.Nodes.{Numbered, Closed, Use}
use Rattle.gos_compile.specs.Wiring.{Types}
use Rattle.gos_terms.specs.numbers.Kept.{IsKept}

pub kept_so : (types : Types) (ns : List ℕ) (m n : Numbered) → m ≡ n → IsKept types ns m → IsKept types ns n
kept_so types ns m n e kept = subst (λ (x : Numbered). IsKept types ns x) e kept

module _ (Holds : Types → List ℕ → Numbered → Type 0) (types : Types) (ns : List ℕ) where
  -- it is so of another node that is the same
  pub same : (m n : Numbered) → m ≡ n → Holds types ns n → Holds types ns m
  same m n e holds = subst (λ (x : Numbered). Holds types ns x) (sym e) holds

  pub closed : Holds types ns (Closed Com [] terms.Skip) → ((w k : ℕ) → Holds types ns (Closed (Exp w) [] (terms.Lit k w)))
      → (t : Type') (ss : List Split) (c : Term) → IsKept types ns (Closed t ss c) → Holds types ns (Closed t ss c)
  closed skip literal t ss terms.Skip kept =
      same (Closed t ss terms.Skip) (Closed Com [] terms.Skip) (λ i. Closed (kept.typed.1 i) (kept.forks i) terms.Skip) skip
  closed skip literal t ss (terms.Lit k w) kept =
      same (Closed t ss (terms.Lit k w)) (Closed (Exp w) [] (terms.Lit k w)) (λ i. Closed (kept.typed.1 i) (kept.forks i) (terms.Lit k w)) (literal w k)
  closed skip literal t ss c kept = absurd kept.typed.1

  pub number_used : ((n : ℕ) (t : Type') → Contains ns n → t ≡ types n → Holds types ns (Use t [] n))
      → (t : Type') (ss : List Split) (n : ℕ) → IsKept types ns (Use t ss n) → Holds types ns (Use t ss n)
  number_used law t ss n kept = same (Use t ss n) (Use t [] n) (λ i. Use t (kept.forks i) n) (law n t kept.scope kept.typed.1)
