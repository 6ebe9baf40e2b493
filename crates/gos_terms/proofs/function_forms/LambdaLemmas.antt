-- A function's node realises its term: with an argument its plan is the body's, and its use unfolds to the body with the argument in it.
use Rattle.std.specs.Prelude.{◌≡◌, ◌≢◌, ℕ, suc, Bool, true, false, List, [], ◌∷◌, ◌++◌, All, Contains, nat_eq, if◌then◌else◌}
use Rattle.std.proofs.Common.{refl, sym, ap, subst, arith, inl}
use Rattle.std.proofs.lemmas.List.Elements.{Contains-append_left, Contains-append_right}
use Rattle.std.proofs.lemmas.Bool.{eqb-true, eq-eqb}
use Rattle.gos_types.specs.Types.{Type', Fun}
use Rattle.gos_model.specs.Terms.{Term, Lam, App}
use Rattle.gos_model.specs.Typing.{Imports, Thing, Named, things, Apart, Typed}
use Rattle.gos_model.specs.Laws.{OneType}
use Rattle.gos_model.specs.Substitution.{instantiate}
use Rattle.gos_check.specs.Nodes.{Numbered, Under, OfFun, below, meaning, type_of_node}
use Rattle.gos_plan.specs.Plans.{Plan}
use Rattle.gos_plan.specs.TokenBits.{LiteralFits}
use Rattle.gos_realises.specs.realises.Regular.{IsRegular}
use Rattle.gos_realises.specs.realises.Links.{IsJoined}
use Rattle.gos_realises.specs.realises.Wirings.{applying}
use Rattle.gos_realises.specs.realises.Modules.{Supply}
use Rattle.gos_realises.specs.realises.Realises.{NamesDiffer, HaveOtherNames, Suits, Means, Realises}
use Rattle.gos_realises.proofs.realises.PlaceLemmas.{differ_both}
use Rattle.gos_supplies.proofs.applications.TogetherLemmas.{imports_of}
use Rattle.gos_supplies.proofs.typing.WhenceLemmas.{named}
use Rattle.gos_supplies.proofs.unfoldings.HeadLemmas.{use_typed, head_is_realised}
use Rattle.gos_supplies.proofs.unfoldings.TypingLemmas.{typed_more, among_first}
use Rattle.gos_terms.specs.meanings.Meanings.{BodyIsInstantiated}
use Rattle.gos_compile.specs.Wiring.{Types}
use Rattle.gos_terms.specs.wired.Wired.{Supplies, Placing, IsWired, AreRealised, terms_of}
use Rattle.gos_terms.specs.numbers.Kept.{IsKept}
use Rattle.gos_terms.specs.numbers.Inherited.{BodyIsKept}
use Rattle.gos_terms.proofs.ground_forms.WiredLemmas.{imports_are_ports}
use Rattle.gos_terms.proofs.ground_forms.InstantiatedLemmas.{body_instantiated}
use Rattle.gos_terms.specs.ground_forms.Cases.{RealisesWired}
use Rattle.gos_terms.specs.function_forms.Bodies.{with_supply, AppliedIsBody}
use Rattle.gos_terms.specs.function_forms.Functions.{FunctionCase}
use Rattle.gos_terms.proofs.function_forms.TypeLemmas.{has_leaves, supply_typed}
use Rattle.gos_terms.proofs.function_forms.FunctionLemmas.{other_number, all_with, applied_fits}
use Rattle.gos_terms.proofs.ground_forms.PutLemmas.{under_any, put_typed}

pub record TermLaws : Type 0 where
  pub one : OneType
  pub kept : BodyIsKept
  pub body : AppliedIsBody
  pub instantiated : BodyIsInstantiated

module _
    (laws : TermLaws) (types : Types) (ns : List ℕ) (n : ℕ) (m : Numbered) (kept : IsKept types ns (Under (Fun (types n) (type_of_node m)) [] OfFun n m))
    (rm : RealisesWired types (ns ++ n ∷ []) m) (i j : ℕ) (env : Supplies) (pl : Placing) (r : Plan)
    (w : IsWired types i j (Under (Fun (types n) (type_of_node m)) [] OfFun n m) ns env pl r) (supplies : AreRealised types env ns)
    (differ : NamesDiffer r.imports) (fit : All LiteralFits r.parts) where
  abbrev a : Type'
  a = types n

  abbrev b : Type'
  b = type_of_node m

  abbrev body_term : Term
  body_term = meaning (below n (terms_of env)) m

  kept_body : IsKept types (ns ++ n ∷ []) m
  kept_body = (laws.kept types ns (Fun a b) [] OfFun n m kept).1

  other : (k : ℕ) → Contains ns k → k ≢ n
  other = other_number types ns (Fun a b) n m kept

  module _
      (typed : Typed r.imports (a ∷ []) body_term b) (s : Supply) (apart : HaveOtherNames r.imports s.plan.imports) (of : Realises a s.plan s.term)
      (q : Plan) (joined : IsJoined (applying a b r s.plan) q) where
    abbrev inner : Supplies
    inner = with_supply n s env

    abbrev numbers : List ℕ
    numbers = ns ++ n ∷ []

    inner_here : (k : ℕ) → nat_eq k n ≡ true → inner k ≡ s
    inner_here k is = ap (λ (c : Bool). if c then s else env k) is

    inner_there : (k : ℕ) → nat_eq k n ≡ false → inner k ≡ env k
    inner_there k is = ap (λ (c : Bool). if c then s else env k) is

    imports_are : q.imports ≡ r.imports ++ s.plan.imports
    imports_are = imports_of a b r s.plan q joined

    names : NamesDiffer q.imports
    names = subst NamesDiffer (sym imports_are) (differ_both r.imports s.plan.imports differ of.suits.names apart)

    realised : AreRealised types inner numbers
    realised = all_with (λ k z. Realises (types k) z.plan z.term) ns env n s supplies of

    wired : (p : Placing) × IsWired types i (suc j) m numbers inner p q
    wired = laws.body types i j n m ns env pl r s q w other of.suits.right joined

    -- the terms of the body's supplies are typed
    typed_at : (k : ℕ) → Contains numbers k → Typed q.imports [] (inner k).term (types k)
    typed_at = supply_typed laws.one types i (suc j) m numbers inner wired.0 q wired.1 realised names

    argument_typed : Typed q.imports [] s.term a
    argument_typed =
        subst (λ (z : Supply). Typed q.imports [] z.term a) (inner_here n (eq-eqb n n refl))
        (typed_at n (Contains-append_right ns (n ∷ []) n (0, omega arith, refl)))

    not_it : (k : ℕ) → Contains ns k → nat_eq k n ≡ false
    not_it k has = by_test (nat_eq k n) refl
      where
        by_test : (c : Bool) → nat_eq k n ≡ c → nat_eq k n ≡ false
        by_test true is = absurd (other k has (eqb-true k n is))
        by_test false is = is

    -- the body with the argument in it is what it means with the argument's supply
    outer_typed : (k : ℕ) → Contains ns k → Typed q.imports [] (env k).term (types k)
    outer_typed k has =
        subst (λ (z : Supply). Typed q.imports [] z.term (types k)) (inner_there k (not_it k has)) (typed_at k (Contains-append_left ns (n ∷ []) k has))

    instantiated : instantiate body_term s.term ≡ meaning (terms_of inner) m
    instantiated =
        body_instantiated types ns n env inner s inner_here inner_there q.imports outer_typed laws.instantiated m a (has_leaves types m kept_body.typed)
        kept_body.scope argument_typed

    -- and it has its type
    nothing_shared : Apart body_term s.term
    nothing_shared y one two =
        let second = named s.plan.imports y s.term 0 [] a (omega arith) of.suits.typed two in
        let there = under_any body_term 0 1 second.import.name (subst (λ (z : Thing). Contains (things 0 body_term) z) second.same one) in
        let first = named r.imports (Named second.import.name) body_term 1 (a ∷ []) b (omega arith) typed there in
        let name : first.import.name ≡ second.import.name = cc (first.same) in
        apart first.import second.import first.has second.has name

    body_typed : Typed q.imports [] (instantiate body_term s.term) b
    body_typed =
        put_typed q.imports s.term a argument_typed body_term [] b nothing_shared
        (subst (λ (is : Imports). Typed is (a ∷ []) body_term b) (sym imports_are)
        (typed_more r.imports (r.imports ++ s.plan.imports) (among_first r.imports s.plan.imports) body_term (a ∷ []) b typed))

    pub body_realises : Realises b q (instantiate body_term s.term)
    body_realises =
        subst (λ (z : Term). Realises b q z) (sym instantiated)
        (rm i (suc j) inner wired.0 q wired.1 realised names
        (applied_fits a b r s.plan q joined fit of.suits.literals)
        (subst (λ (z : Term). Typed q.imports [] z b) instantiated body_typed))

  -- so the function does with each argument what its use unfolds to
  applied : Typed r.imports (a ∷ []) body_term b → (k q : Plan) (v : Term) → HaveOtherNames r.imports k.imports → Suits a k v → Means a k v
      → IsJoined (applying a b r k) q → Suits b q (App (Lam a body_term) v) × Means b q (App (Lam a body_term) v)
  applied typed k q v apart suits means joined =
      let of : Realises a k v = record { suits = suits; means = means } in
      let there = body_realises typed (record { plan = k; term = v }) apart of q joined in
      let here = use_typed a b r k q (Lam a body_term) v apart (b, refl, typed) suits.typed joined in
      let whole = head_is_realised b q (App (Lam a body_term) v) (instantiate body_term v) (inl (a, body_term, refl, refl)) here there in
      (whole.suits, whole.means)

-- the node is regular, with supplies that realise their terms
abbrev RealisedIsRegular : Types → List ℕ → Numbered → Type 0
RealisedIsRegular types ns m =
    (i j : ℕ) (env : Supplies) (pl : Placing) (r : Plan)
    → IsWired types i j m ns env pl r → AreRealised types env ns → NamesDiffer r.imports → All LiteralFits r.parts → IsRegular r

plain_case : TermLaws → (types : Types) (ns : List ℕ) (n : ℕ) (m : Numbered)
    → IsKept types ns (Under (Fun (types n) (type_of_node m)) [] OfFun n m) → RealisedIsRegular types ns (Under (Fun (types n) (type_of_node m)) [] OfFun n m)
    → RealisesWired types (ns ++ n ∷ []) m → RealisesWired types ns (Under (Fun (types n) (type_of_node m)) [] OfFun n m)
plain_case laws types ns n m kept regular rm i j env pl r w supplies differ fit (b, same, typed) =
    let outcome : b ≡ type_of_node m = outcomes (types n) (type_of_node m) (types n) b same in
    record {
      suits =
          record {
            right = w.web.right;
            literals = fit;
            outcome = w.outcome;
            all_ports = imports_are_ports types i j (Under (Fun (types n) (type_of_node m)) [] OfFun n m) ns env pl r w supplies;
            names = differ;
            typed = (b, same, typed);
            regular = regular i j env pl r w supplies differ fit;
          };
      means =
          applied laws types ns n m kept rm i j env pl r w supplies differ fit
          (subst (λ (u : Type'). Typed r.imports (types n ∷ []) (meaning (below n (terms_of env)) m) u) outcome typed);
    }
  where
    outcomes : (a b c d : Type') → Fun a b ≡ Fun c d → d ≡ b
    outcomes a b c d e = cc e

pub function_case : TermLaws → FunctionCase
function_case laws types ns t n m kept regular rm =
    let path : Under t [] OfFun n m ≡ Under (Fun (types n) (type_of_node m)) [] OfFun n m = ap (λ (u : Type'). Under u [] OfFun n m) kept.typed.1 in
    subst (λ (x : Numbered). RealisesWired types ns x) (sym path)
    (plain_case laws types ns n m (subst (λ (x : Numbered). IsKept types ns x) path kept) (subst (λ (x : Numbered). RealisedIsRegular types ns x) path regular) rm)
