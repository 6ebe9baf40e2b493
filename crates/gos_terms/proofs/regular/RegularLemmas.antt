-- A wired node is regular with any regular supplies: closed by functions it is regular, and applied to the supplies it is the node,
-- wired to them.
use Rattle.std.specs.Prelude.{◌≡◌, ℕ, suc, Bool, true, false, List, [], ◌∷◌, ◌++◌, All, Contains, nat_eq, if◌then◌else◌}
use Rattle.std.proofs.Common.{refl, sym, ◌∙◌, ap, subst, arith}
use Rattle.std.proofs.lemmas.List.{append-nil}
use Rattle.std.proofs.lemmas.Bool.{eqb-true}
use Rattle.gos_types.specs.Types.{Type', Fun}
use Rattle.gos_types.proofs.ListLemmas.{first_is_in, rest_is_in}
use Rattle.gos_check.specs.Nodes.{Numbered, type_of_node}
use Rattle.gos_plan.specs.Kinds.{Part}
use Rattle.gos_plan.specs.Plans.{Plan}
use Rattle.gos_plan.specs.TokenBits.{LiteralFits}
use Rattle.gos_realises.specs.realises.Regular.{IsRegular}
use Rattle.gos_realises.specs.realises.Realises.{NamesDiffer}
use Rattle.gos_realises.proofs.realises.LiteralLemmas.{literals_among}
use Rattle.gos_realises.proofs.joined.WholeLemmas.{applied_is_joined}
use Rattle.gos_joining.specs.renumbered.Renumbered.{RenumberedIsRegular}
use Rattle.gos_supplies.specs.turns.Composed.{ApplyingIsRegular}
use Rattle.gos_compile.specs.Wiring.{Types, parts_of}
use Rattle.gos_terms.specs.wired.Wired.{Supplies, Placing, Own, Supplied, IsWired}
use Rattle.gos_terms.specs.wired.NodeFitting.{WiredNodeFits, FittingIsPlain}
use Rattle.gos_terms.specs.numbers.Kept.{IsKept}
use Rattle.gos_terms.specs.function_forms.Bodies.{with_supply, AppliedIsBody}
use Rattle.gos_terms.specs.function_forms.Functions.{FunctionNodeIsRegular}
use Rattle.gos_terms.proofs.function_forms.FunctionLemmas.{other_number, applied_fits}
use Rattle.gos_terms.specs.regular.Opened.{WiredIsOne, closed, AreSteady, RegularIsSteady, SteadyIsRealised}
use Rattle.gos_terms.proofs.regular.SlidLemmas.{lowered}
use Rattle.gos_terms.proofs.regular.ClosedLemmas.{append_three, closed_is_kept, closed_is_regular, closed_parts, closed_wired}

pub record Laws : Type 0 where
  pub fits : WiredNodeFits
  pub plain : FittingIsPlain
  pub body : AppliedIsBody
  pub function : FunctionNodeIsRegular
  pub applying : ApplyingIsRegular
  pub renumbered : RenumberedIsRegular
  pub one : WiredIsOne

-- a supply in its own place
same_at : (n : ℕ) (env : Supplies) (k : ℕ) → with_supply n (env n) env k ≡ env k
same_at n env k = by_test (nat_eq k n) refl
  where
    by_test : (b : Bool) → nat_eq k n ≡ b → with_supply n (env n) env k ≡ env k
    by_test true is = ap (λ (c : Bool). if c then env n else env k) is ∙ ap env (sym (eqb-true k n is))
    by_test false is = ap (λ (c : Bool). if c then env n else env k) is

same_supplies : (n : ℕ) (env : Supplies) → with_supply n (env n) env ≡ env
same_supplies n env = λ i k. same_at n env k i

-- a regular plan of a node, wired to these supplies
abbrev Reached : Types → ℕ → ℕ → Numbered → List ℕ → Supplies → Type 0
Reached types i j m ns env = (pl : Placing) × (r : Plan) × IsWired types i j m ns env pl r × IsRegular r

module _ (laws : Laws) (types : Types) (i j : ℕ) (m : Numbered) (env : Supplies) where
  -- the supplies for the numbers, one after another
  applied : (ks ns : List ℕ) (pl : Placing) (r : Plan) → IsKept types (ks ++ ns) m → IsWired types i j (closed types ns m) ks env pl r
      → IsRegular r → All LiteralFits r.parts → AreSteady types env ns → ((n : ℕ) → Contains ns n → All LiteralFits (env n).plan.parts)
      → Reached types i j m (ks ++ ns) env
  applied ks [] pl r kept w regular fit are literals =
      subst (λ (xs : List ℕ). Reached types i j m xs env) (sym (append-nil ks)) (pl, r, w, regular)
  applied ks (n ∷ ns) pl r kept w regular fit are literals =
      let b = closed types ns m in
      let a : Type' = types n in
      let u : Type' = type_of_node b in
      let own = are n (first_is_in n ns) in
      let lit = literals n (first_is_in n ns) in
      let (q, joined) = applied_is_joined a u r (env n).plan w.web.right own.right w.outcome own.outcome in
      let turns : IsRegular q = laws.applying a u r (env n).plan q w.outcome own.outcome fit lit regular own.regular joined in
      let other = other_number types ks (Fun a u) n b (closed_is_kept types ks (n ∷ ns) m kept) in
      let (p, wired) = laws.body types i j n b ks env pl r (env n) q w other own.right joined in
      let same : IsWired types i (suc j) b (ks ++ n ∷ []) env p q =
      subst (λ (e : Supplies). IsWired types i (suc j) b (ks ++ n ∷ []) e p q) (same_supplies n env) wired
      in
      subst (λ (xs : List ℕ). Reached types i j m xs env) (append_three ks n ns)
      (applied (ks ++ n ∷ []) ns p q (subst (λ (xs : List ℕ). IsKept types xs m) (sym (append_three ks n ns)) kept)
      (lowered types i j b (ks ++ n ∷ []) env p q same) turns (applied_fits a u r (env n).plan q joined fit lit)
      (λ k has. are k (rest_is_in n k ns has)) (λ k has. literals k (rest_is_in n k ns has)))

pub regular_is_steady : Laws → RegularIsSteady
regular_is_steady laws types ns m kept regular i j env pl r w are fit =
    let shut : Numbered = closed types ns m in
    let kept_shut : IsKept types [] shut = closed_is_kept types [] ns m kept in
    let (plc, c, wired, no_imports, own_parts) = closed_wired laws.fits laws.plain types i j shut env kept_shut in
    let own_fit : All LiteralFits (parts_of types m) = literals_among pl.own (parts_of types m) r.parts (λ k x at. (w.parts x (Own k) at).0) fit in
    let shut_fit : All LiteralFits c.parts = subst (λ (ps : List Part). All LiteralFits ps) (sym (own_parts ∙ closed_parts types ns m)) own_fit in
    let turns : IsRegular c =
    (closed_is_regular laws.function types [] ns m kept regular i j env plc c wired (λ n has. absurd (let low = has.1 in omega (arith, low)))
    (subst NamesDiffer (sym no_imports) tt) shut_fit).0
    in
    let (other, s, is, reached) =
    applied laws types i j m env [] ns plc c kept wired turns shut_fit are
    (λ n has. literals_among (pl.supplied n) (env n).plan.parts r.parts (λ k x at. (w.parts x (Supplied n k) (has, at)).0) fit)
    in
    let (g, same) = laws.one types i j m ns env env pl other r s (λ n has. refl) w is in
    laws.renumbered g r s same reached

-- what realises a term is right, of its type, and regular
pub steady_is_realised : RegularIsSteady → SteadyIsRealised
steady_is_realised law types ns m kept regular i j env pl r w are differ fit =
    law types ns m kept regular i j env pl r w
    (λ n has. record { right = (are n has).suits.right; outcome = (are n has).suits.outcome; regular = (are n has).suits.regular }) fit
