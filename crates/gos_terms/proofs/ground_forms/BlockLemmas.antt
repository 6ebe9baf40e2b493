-- A block: its body realises its term where a name that no import has stands for what is bound.
use Rattle.std.specs.Prelude.{◌≡◌, ◌≢◌, ℕ, suc, ◌+◌, Bool, true, false, List, [], ◌∷◌, ◌++◌, Some, All, Contains, slice_get, nat_eq}
use Rattle.std.specs.Str.{bytes_eq}
use Rattle.std.proofs.Common.{refl, sym, ◌∙◌, ap, subst, arith}
use Rattle.std.proofs.lemmas.Slice.Eq.{bytes_eq-Decides}
use Rattle.std.proofs.lemmas.List.Elements.{Contains-append_left, Contains-append_right}
use Rattle.std.proofs.lemmas.Bool.{eqb-true, eq-eqb}
use Rattle.gos_types.specs.Types.{Type', Var}
use Rattle.gos_types.proofs.BytesLemmas.{bytes_eq_same}
use Rattle.gos_model.specs.Terms.{Term, Name, Import, New, NewArray}
use Rattle.gos_model.specs.Typing.{Imported, import_type, Named, things, index_width, Typed}
use Rattle.gos_model.specs.Substitution.{instantiate}
use Rattle.gos_check.specs.Nodes.{Numbered, Under, OfNew, OfArray, below, meaning, type_of_node}
use Rattle.gos_check.proofs.TimesLemmas.{times-append, times_same, some_times}
use Rattle.gos_plan.specs.Plans.{Plan}
use Rattle.gos_plan.specs.TokenBits.{LiteralFits}
use Rattle.gos_realises.specs.realises.Modules.{Supply}
use Rattle.gos_realises.specs.realises.Realises.{NamesDiffer, Realises}
use Rattle.gos_realises.proofs.realises.PlaceLemmas.{contains_at, place_of}
use Rattle.gos_joining.proofs.renumbered.ImportLemmas.{type_has}
use Rattle.gos_supplies.proofs.typing.WhenceLemmas.{named}
use Rattle.gos_supplies.proofs.typing.NameLemmas.{typed_under_fewer}
use Rattle.gos_supplies.specs.names.Names.{imported, NameIsRealised}
use Rattle.gos_supplies.specs.arrays.ArrayNames.{ArrayNameIsRealised}
use Rattle.gos_nodes.specs.windows.OpenNodes.{IsHeard}
use Rattle.gos_nodes.specs.sessions.Sessions.{bits}
use Rattle.gos_nodes.specs.blocks.Block.{BlockRealises, ArrayBlockRealises}
use Rattle.gos_compile.specs.Wiring.{Types}
use Rattle.gos_terms.specs.wired.Wired.{Supplies, Placing, IsWired, AreRealised, terms_of}
use Rattle.gos_terms.specs.meanings.Meanings.{HasLeaves, BodyIsInstantiated}
use Rattle.gos_terms.specs.regions.Blocks.{port_plan, with_name, IsBound, HasBody, BlockIsWired, ArrayBlockIsWired}
use Rattle.gos_terms.proofs.regions.HolderLemmas.{Holder, OneNumber, ManyNumbers, binding_of, supply_of, server_of, name_supply}
use Rattle.gos_terms.proofs.regions.FreshLemmas.{fresh_name, is_fresh}
use Rattle.gos_terms.proofs.regions.NamedLemmas as named
use Rattle.gos_terms.proofs.regions.NamedLemmas.{before, inner_here, inner_there, inner_imports}
use Rattle.gos_terms.specs.numbers.Kept.{InScope}
use Rattle.gos_terms.specs.ground_forms.Cases.{RealisesWired, BlockCase, ArrayBlockCase}
use Rattle.gos_terms.proofs.ground_forms.WhoseLemmas.{below_whose, whose}
use Rattle.gos_terms.proofs.regions.CutLemmas.{literals_within}
use Rattle.gos_terms.proofs.regions.HeardLemmas.{body_heard}
use Rattle.gos_terms.proofs.ground_forms.WiredLemmas.{imports_are_ports}
use Rattle.gos_terms.proofs.ground_forms.InstantiatedLemmas.{body_instantiated}
use Rattle.gos_terms.proofs.ground_forms.PutLemmas.{IsWithout, name_apart, put_typed}

module _
    (types : Types) (ns : List ℕ) (hold : Holder) (n : ℕ) (m : Numbered) (type_n : types n ≡ supply_of hold) (bound : IsBound n m ns)
    (env : Supplies) (supplies : AreRealised types env ns) (x : Name) where
  abbrev inner : Supplies
  inner = with_name n x (supply_of hold) env

  -- the bound number is none of those outside
  other : (k : ℕ) → Contains ns k → nat_eq k n ≡ false
  other k has = by_test (nat_eq k n) refl
    where
      by_test : (b : Bool) → nat_eq k n ≡ b → nat_eq k n ≡ false
      by_test true is =
          let once = bound.once n in
          let sum = times-append n ns (n ∷ []) in
          let last = times_same n [] in
          let some = some_times n ns (subst (λ (j : ℕ). Contains ns j) (eqb-true k n is) has) in
          absurd (omega (arith, once, sum, last, some))
      by_test false is = is

  -- the supplies of the body
  abbrev Stands : ℕ → Supply → Type 0
  Stands k s = Realises (types k) s.plan s.term

  inner_supplies : Realises (supply_of hold) (port_plan x (supply_of hold)) (Import x) → AreRealised types inner (ns ++ n ∷ [])
  inner_supplies realised k has = by_test (nat_eq k n) refl
    where
      by_test : (b : Bool) → nat_eq k n ≡ b → Stands k (inner k)
      by_test true is =
          let type_k : types k ≡ supply_of hold = ap types (eqb-true k n is) ∙ type_n in
          subst (Stands k) (sym (inner_here n x (supply_of hold) env k is))
          (subst (λ (u : Type'). Realises u (port_plan x (supply_of hold)) (Import x)) (sym type_k) realised)
      by_test false is = subst (Stands k) (sym (inner_there n x (supply_of hold) env k is)) (supplies k (before ns n k is has))

  module _
      (t : Type') (i j a b : ℕ) (pl pc : Placing) (r body : Plan) (wired : IsWired types i j (Under t [] (binding_of hold) n m) ns env pl r)
      (v : IsWired types a b m (ns ++ n ∷ []) inner pc body) (differ : NamesDiffer r.imports)
      (fresh : (y : Imported) → Contains r.imports y → y.name ≢ x) where
    body_differ : NamesDiffer body.imports
    body_differ = named.body_differ types ns (binding_of hold) (supply_of hold) n m env x t i j a b pl pc r body wired v differ fresh

    -- a name of what stands for a number is that of an import of its plan, of the whole's and of the body's
    record IsImported (k : ℕ) (y : Name) : Type 0 where
      import : Imported
      own : Contains (env k).plan.imports import
      outside : Contains r.imports import
      within : Contains body.imports import
      same : bytes_eq import.name y ≡ true

    is_imported : (k : ℕ) → Contains ns k → (f : ℕ) (y : Name) → Contains (things f (env k).term) (Named y) → IsImported k y
    is_imported k has f y of_k =
        let of : Realises (types k) (env k).plan (env k).term = supplies k has in
        let name = named (env k).plan.imports (Named y) (env k).term f [] (types k) (omega arith) of.suits.typed of_k in
        let (q, at) = place_of (env k).plan.imports name.import name.has in
        let there = wired.imports k q name.import has at in
        let here =
        v.imports k q name.import (Contains-append_left ns (n ∷ []) k has)
        (ap (λ (s : Supply). slice_get s.plan.imports q) (inner_there n x (supply_of hold) env k (other k has)) ∙ at) in
        record {
          import = name.import;
          own = name.has;
          outside = contains_at r.imports (pl.import k q) name.import there.0;
          within = contains_at body.imports (pc.import k q) name.import here.0;
          same = (bytes_eq-Decides name.import.name y).1 (sym (cc (name.same)));
        }

    -- what stands for a number is typed under the body's imports
    supply_typed : (k : ℕ) → Contains ns k → Typed body.imports [] (env k).term (types k)
    supply_typed k has =
        let of : Realises (types k) (env k).plan (env k).term = supplies k has in
        typed_under_fewer (env k).plan.imports body.imports [] (env k).term (types k) (agree of.suits.names) of.suits.typed
      where
        agree : NamesDiffer (env k).plan.imports → (y : Name) → Contains (things 0 (env k).term) (Named y)
            → import_type body.imports y ≡ import_type (env k).plan.imports y
        agree apart y of_k =
            let name = is_imported k has 0 y of_k in
            type_has body.imports body_differ y name.import name.within name.same
            ∙ sym (type_has (env k).plan.imports apart y name.import name.own name.same)

    -- and so is the name
    name_typed : import_type body.imports x ≡ Some (supply_of hold)
    name_typed =
        type_has body.imports body_differ x (imported x (supply_of hold))
        (contains_at body.imports (pc.import n 0) (imported x (supply_of hold))
        (v.imports n 0 (imported x (supply_of hold)) (Contains-append_right ns (n ∷ []) n (0, omega arith, refl))
        (ap (λ (l : List Imported). slice_get l 0) (inner_imports n x (supply_of hold) env n (eq-eqb n n refl)))).0)
        ((bytes_eq-Decides x x).1 refl)

    abbrev body_term : Term
    body_term = meaning (below n (terms_of env)) m

    module _ (leaves : HasLeaves m) (scope : InScope (ns ++ n ∷ []) m) where
      instantiated : BodyIsInstantiated → instantiate body_term (Import x) ≡ meaning (terms_of inner) m
      instantiated law =
          body_instantiated types ns n env inner (name_supply x (supply_of hold)) (inner_here n x (supply_of hold) env) (inner_there n x (supply_of hold) env) body.imports
          supply_typed law m (supply_of hold) leaves scope name_typed

      body_name : (y : Name) → Contains (things 0 body_term) (Named y) → (k : ℕ) × IsImported k y
      body_name y has =
          let (k, f, there, of_k) = below_whose ns n (terms_of env) y (whose m (ns ++ n ∷ []) (below n (terms_of env)) 0 y leaves scope has) in
          (k, is_imported k there f y of_k)

      without : IsWithout x body_term
      without has = let (k, name) = body_name x has in fresh name.import name.outside (bytes_eq_same name.import.name x name.same)

      body_typed : Typed r.imports (supply_of hold ∷ []) body_term t → Typed body.imports [] (instantiate body_term (Import x)) t
      body_typed typed =
          put_typed body.imports (Import x) (supply_of hold) name_typed body_term [] t (name_apart x body_term without)
          (typed_under_fewer r.imports body.imports (supply_of hold ∷ []) body_term t agree typed)
        where
          agree : (y : Name) → Contains (things 0 body_term) (Named y) → import_type body.imports y ≡ import_type r.imports y
          agree y has =
              let (k, name) = body_name y has in
              type_has body.imports body_differ y name.import name.within name.same
              ∙ sym (type_has r.imports differ y name.import name.outside name.same)

      -- So the body realises it.
      body_realises : Realises (supply_of hold) (port_plan x (supply_of hold)) (Import x) → BodyIsInstantiated → RealisesWired types (ns ++ n ∷ []) m → type_of_node m ≡ t
          → All LiteralFits body.parts → Typed r.imports (supply_of hold ∷ []) body_term t → Realises t body (instantiate body_term (Import x))
      body_realises realised means rm type_m fit typed =
          let same = instantiated means in
          subst (λ (u : Type'). Realises u body (instantiate body_term (Import x))) type_m
          (subst (Realises (type_of_node m) body) (sym same)
          (rm a b inner pc body v (inner_supplies realised) body_differ fit
          (subst (Typed body.imports [] (meaning (terms_of inner) m)) (sym type_m)
          (subst (λ (c : Term). Typed body.imports [] c t) same (body_typed typed)))))

-- the block's term, and what the plan of its body realises
abbrev term_of : Holder → Term → Term
term_of (OneNumber w) m = New w m
term_of (ManyNumbers k w) m = NewArray k w m

module _
    (hold : Holder) (named_so : (x : Name) → Realises (supply_of hold) (port_plan x (supply_of hold)) (Import x)) (means : BodyIsInstantiated)
    (types : Types) (ns : List ℕ) (t : Type') (n : ℕ) (m : Numbered) (type_m : type_of_node m ≡ t) (type_n : types n ≡ supply_of hold) (bound : IsBound n m ns)
    (leaves : HasLeaves m) (scope : InScope (ns ++ n ∷ []) m) (rm : RealisesWired types (ns ++ n ∷ []) m)
    (i j : ℕ) (env : Supplies) (pl : Placing) (r : Plan) (wired : IsWired types i j (Under t [] (binding_of hold) n m) ns env pl r)
    (supplies : AreRealised types env ns) (differ : NamesDiffer r.imports) (fit : All LiteralFits r.parts)
    (typed : Typed r.imports (supply_of hold ∷ []) (meaning (below n (terms_of env)) m) t) where
  abbrev body : Term
  body = meaning (below n (terms_of env)) m

  abbrev Made : Name → Type 0
  Made x = HasBody types i j n m ns env (pl.own 0) (server_of hold (bits r.outcome)) x r

  -- where the block with such a body realises its term it does
  abbrev ByBody : Name → Type 0
  ByBody x =
      (h : Made x) → IsHeard h.block.cut r h.block.body → Realises r.outcome h.block.body (instantiate body (Import h.block.variable.name))
      → Realises r.outcome r (term_of hold body)

  finish : (x : Name) → ((y : Imported) → Contains r.imports y → y.name ≢ x) → ByBody x → Made x → Realises t r (term_of hold body)
  finish x fresh by h =
      let apart = named.body_differ types ns (binding_of hold) (supply_of hold) n m env x t i j (i + 1) (suc j) pl h.placing r h.block.body wired h.wired differ fresh in
      let realised =
      body_realises types ns hold n m type_n bound env supplies x t i j (i + 1) (suc j) pl h.placing r h.block.body wired h.wired differ fresh leaves scope
      (named_so x) means rm type_m (literals_within h.block.cut r h.block.body h.is_block.cut fit) typed in
      subst (λ (u : Type'). Realises u r (term_of hold body)) wired.outcome
      (by h (body_heard r h.block h.is_block apart h.imports)
      (subst (λ (y : Imported). Realises r.outcome h.block.body (instantiate body (Import y.name))) (sym h.name)
      (subst (λ (u : Type'). Realises u h.block.body (instantiate body (Import x))) (sym wired.outcome) realised)))

pub block_case : BlockIsWired → BlockRealises → NameIsRealised → BodyIsInstantiated → BlockCase
block_case wiring law names means types ns t w n m done type_m type_n bound leaves scope rm i j env pl r wired supplies differ fit (is_done, wide, typed) =
    let x = fresh_name r.imports in
    let fresh = is_fresh r.imports in
    let term : Term = meaning (below n (terms_of env)) m in
    finish (OneNumber w) (λ y. names y (Var w) tt wide) means types ns t n m type_m type_n bound leaves scope rm i j env pl r wired supplies differ fit typed x fresh
    (λ h heard body.
    law r h.block w term h.is_block heard h.server fit
    (imports_are_ports types i j (Under t [] (OfNew w) n m) ns env pl r wired supplies) differ
    (subst (λ (u : Type'). Typed r.imports [] (New w term) u) (sym wired.outcome) (is_done, wide, typed)) body)
    (wiring types i j w n t m ns env pl x r wired done type_m type_n bound fresh)

pub array_block_case : ArrayBlockIsWired → ArrayBlockRealises → ArrayNameIsRealised → BodyIsInstantiated → ArrayBlockCase
array_block_case wiring law names means types ns t k w n m done type_m type_n bound leaves scope rm i j env pl r wired supplies differ fit (is_done, length, wide, typed) =
    let x = fresh_name r.imports in
    let fresh = is_fresh r.imports in
    let term : Term = meaning (below n (terms_of env)) m in
    finish (ManyNumbers k w) (λ y. names y (index_width k) w wide) means types ns t n m type_m type_n bound leaves scope rm i j env pl r wired supplies differ fit typed x fresh
    (λ h heard body.
    law r h.block k w term h.is_block heard h.server fit
    (imports_are_ports types i j (Under t [] (OfArray k w) n m) ns env pl r wired supplies) differ
    (subst (λ (u : Type'). Typed r.imports [] (NewArray k w term) u) (sym wired.outcome) (is_done, length, wide, typed)) body)
    (wiring types i j k w n t m ns env pl x r wired done type_m type_n bound fresh)
