-- A function's node is regular and rests where its body does.
use Rattle.std.specs.Prelude.{◌≡◌, ◌≢◌, ℕ, zero, suc, Bool, true, false, List, [], ◌∷◌, ◌++◌, All, Contains, nat_eq, if◌then◌else◌}
use Rattle.std.proofs.Common.{refl, sym, ◌∙◌, ap, subst, arith}
use Rattle.std.proofs.lemmas.List.{append-nil}
use Rattle.std.proofs.lemmas.List.Elements.{All-nil, All-append}
use Rattle.std.proofs.lemmas.Bool.{eqb-true}
use Rattle.gos_types.specs.Types.{Type', Fun}
use Rattle.gos_model.specs.Terms.{Import}
use Rattle.gos_model.specs.Typing.{Imported}
use Rattle.gos_check.specs.Nodes.{Numbered, Under, OfFun, type_of_node}
use Rattle.gos_check.specs.Linearity.{made}
use Rattle.gos_check.proofs.TimesLemmas.{times_same, some_times}
use Rattle.gos_plan.specs.Kinds.{Part}
use Rattle.gos_plan.specs.Plans.{Plan}
use Rattle.gos_plan.specs.TokenBits.{LiteralFits}
use Rattle.gos_realises.specs.realises.Regular.{IsRegular}
use Rattle.gos_realises.specs.realises.Links.{IsJoined}
use Rattle.gos_realises.specs.realises.Wirings.{applying}
use Rattle.gos_realises.specs.realises.Modules.{Supply}
use Rattle.gos_realises.specs.realises.Realises.{NamesDiffer}
use Rattle.gos_realises.proofs.realises.PlaceLemmas.{differ_both}
use Rattle.gos_realises.proofs.joined.WholeLemmas.{applied_is_joined}
use Rattle.gos_supplies.specs.applications.Opened.{IsFunctionOf}
use Rattle.gos_supplies.proofs.applications.TogetherLemmas.{imports_of}
use Rattle.gos_supplies.specs.turns.Rests.{Rests}
use Rattle.gos_supplies.specs.turns.Names.{IsNamePlan, NameIsRegular, NamePlanIsThere}
use Rattle.gos_supplies.specs.turns.Composed.{FunctionIsRegular}
use Rattle.gos_supplies.specs.turns.Resting.{FunctionRests, NameRests}
use Rattle.gos_compile.specs.Wiring.{Types}
use Rattle.gos_terms.specs.wired.Wired.{Supplies}
use Rattle.gos_terms.specs.wired.Regular.{IsRegularOf, AreRegular, RegularWired}
use Rattle.gos_terms.specs.numbers.Kept.{IsKept}
use Rattle.gos_terms.proofs.regions.NamedLemmas.{before}
use Rattle.gos_terms.proofs.regions.FreshLemmas.{fresh_name, is_fresh}
use Rattle.gos_terms.specs.function_forms.Bodies.{with_supply, AppliedIsBody}
use Rattle.gos_terms.specs.function_forms.Functions.{FunctionNodeIsRegular}
use Rattle.gos_terms.proofs.function_forms.NamedLemmas.{named_is_body}

-- the bound number is none of those outside
pub other_number : (types : Types) (ns : List ℕ) (t : Type') (n : ℕ) (m : Numbered) → IsKept types ns (Under t [] OfFun n m)
    → (k : ℕ) → Contains ns k → k ≢ n
other_number types ns t n m kept k has same =
    let once = kept.once n in
    let here = times_same n (made m) in
    let some = some_times n ns (subst (λ (x : ℕ). Contains ns x) same has) in
    omega (arith, once, here, some)

-- what holds of the supplies and of one for the number holds of all
pub all_with : (P : ℕ → Supply → Type 0) (ns : List ℕ) (env : Supplies) (n : ℕ) (s : Supply) → ((k : ℕ) → Contains ns k → P k (env k)) → P n s
    → (k : ℕ) → Contains (ns ++ n ∷ []) k → P k (with_supply n s env k)
all_with P ns env n s all one k has = by_test (nat_eq k n) refl
  where
    by_test : (b : Bool) → nat_eq k n ≡ b → P k (with_supply n s env k)
    by_test true is =
        let number : n ≡ k = sym (eqb-true k n is) in
        let here : with_supply n s env k ≡ s = ap (λ (c : Bool). if c then s else env k) is in
        subst (P k) (sym here) (subst (λ (x : ℕ). P x s) number one)
    by_test false is =
        let there : with_supply n s env k ≡ env k = ap (λ (c : Bool). if c then s else env k) is in
        subst (P k) (sym there) (all k (before ns n k is has))

only : (x y : Imported) → Contains (x ∷ []) y → x ≡ y
only x y (zero, small, at) = at
only x y (suc k, small, at) = absurd (omega (arith, small))

-- the literals of an application
pub applied_fits : (a b : Type') (p q r : Plan) → IsJoined (applying a b p q) r → All LiteralFits p.parts → All LiteralFits q.parts → All LiteralFits r.parts
applied_fits a b p q r joined fit also =
    subst (λ (ps : List Part). All LiteralFits ps)
    (sym (joined.joining.parts ∙ ap (λ (ps : List Part). p.parts ++ ps) (append-nil q.parts)))
    (All-append LiteralFits p.parts q.parts fit also)

pub record TurnLaws : Type 0 where
  pub there : NamePlanIsThere
  pub name : NameIsRegular
  pub name_rests : NameRests
  pub function : FunctionIsRegular
  pub function_rests : FunctionRests

plain_is_regular : TurnLaws → AppliedIsBody → (types : Types) (ns : List ℕ) (n : ℕ) (m : Numbered)
    → IsKept types ns (Under (Fun (types n) (type_of_node m)) [] OfFun n m) → RegularWired types (ns ++ n ∷ []) m
    → RegularWired types ns (Under (Fun (types n) (type_of_node m)) [] OfFun n m)
plain_is_regular laws law types ns n m kept rm i j env pl r w supplies differ fit =
    ((laws.function x r q opens).0 body.0, (laws.function_rests x r q opens).0 body.1)
  where
    x : Imported
    x = record { name = fresh_name r.imports; ty = types n }

    e : Plan
    e = (laws.there x).0

    named : IsNamePlan x e
    named = (laws.there x).1

    s : Supply
    s = record { plan = e; term = Import x.name }

    pair : (q : Plan) × IsJoined (applying (types n) (type_of_node m) r e) q
    pair = applied_is_joined (types n) (type_of_node m) r e w.web.right named.right w.outcome named.outcome

    q : Plan
    q = pair.0

    joined : IsJoined (applying (types n) (type_of_node m) r e) q
    joined = pair.1

    opens : IsFunctionOf x r q
    opens = named_is_body x (type_of_node m) r e q w.web.right w.outcome named joined

    no_parts : All LiteralFits e.parts
    no_parts = subst (λ (ps : List Part). All LiteralFits ps) (sym named.parts) (All-nil LiteralFits)

    of_name : IsRegularOf (types n) e
    of_name =
        record { right = named.right; outcome = named.outcome; literals = no_parts; regular = laws.name x e named; rests = laws.name_rests x e named }

    regular : AreRegular types (with_supply n s env) (ns ++ n ∷ [])
    regular = all_with (λ k z. IsRegularOf (types k) z.plan) ns env n s supplies of_name

    one_name : NamesDiffer (x ∷ [])
    one_name = ((λ y has. absurd (let lt = has.1 in omega (arith, lt))), tt)

    names : NamesDiffer q.imports
    names =
        subst NamesDiffer (sym (imports_of (types n) (type_of_node m) r e q joined ∙ ap (λ (is : List Imported). r.imports ++ is) named.imports))
        (differ_both r.imports (x ∷ []) differ one_name others)
      where
        others : (y z : Imported) → Contains r.imports y → Contains (x ∷ []) z → y.name ≢ z.name
        others y z has last same = is_fresh r.imports y has (same ∙ ap (λ (v : Imported). v.name) (sym (only x z last)))

    body : IsRegular q × Rests q
    body =
        let (p, wired) = law types i j n m ns env pl r s q w (other_number types ns (Fun (types n) (type_of_node m)) n m kept) named.right joined in
        rm i (suc j) (with_supply n s env) p q wired regular names (applied_fits (types n) (type_of_node m) r e q joined fit no_parts)

pub function_node_is_regular : TurnLaws → AppliedIsBody → FunctionNodeIsRegular
function_node_is_regular laws law types ns t n m kept rm =
    let path : Under t [] OfFun n m ≡ Under (Fun (types n) (type_of_node m)) [] OfFun n m = ap (λ (u : Type'). Under u [] OfFun n m) kept.typed.1 in
    subst (λ (x : Numbered). RegularWired types ns x) (sym path)
    (plain_is_regular laws law types ns n m (subst (λ (x : Numbered). IsKept types ns x) path kept) rm)
