-- A block: its body has a name that no import has for what is bound, and the plan of a name is regular and rests.
use Rattle.std.specs.Prelude.{◌≢◌, ◌+◌, nat_eq, Contains, All}
use Rattle.std.proofs.Common.{◌≡◌, ℕ, suc, Bool, true, false, List, [], ◌∷◌, ◌++◌, refl, sym, ◌∙◌, ap, subst, arith}
use Rattle.std.proofs.lemmas.Bool.{eqb-true}
use Rattle.gos_types.specs.Types.{Type', IsDone}
use Rattle.gos_model.specs.Terms.{Name}
use Rattle.gos_model.specs.Typing.{Imported}
use Rattle.gos_check.specs.Nodes.{Numbered, Under, type_of_node}
use Rattle.gos_plan.specs.Plans.{Plan}
use Rattle.gos_plan.specs.TokenBits.{LiteralFits}
use Rattle.gos_realises.specs.realises.Modules.{Supply}
use Rattle.gos_realises.specs.realises.Regular.{IsRegular}
use Rattle.gos_realises.specs.realises.Realises.{NamesDiffer}
use Rattle.gos_nodes.specs.windows.Nodes.{IsRestful}
use Rattle.gos_nodes.specs.windows.OpenNodes.{IsHeard}
use Rattle.gos_supplies.specs.turns.Rests.{Rests}
use Rattle.gos_supplies.specs.turns.Names.{IsNamePlan}
use Rattle.gos_supplies.proofs.turns.NameLemmas.{name_is_regular, name_rests}
use Rattle.gos_supplies.specs.names.Names.{imported}
use Rattle.gos_nodes.specs.sessions.Sessions.{bits}
use Rattle.gos_nodes.specs.blocks.Block.{OpenBlockIsRegular, OpenBlockIsRestful}
use Rattle.gos_compile.specs.Wiring.{Types}
use Rattle.gos_terms.specs.wired.Wired.{Supplies, Placing, IsWired}
use Rattle.gos_terms.specs.wired.Regular.{IsRegularOf, AreRegular, RegularWired}
use Rattle.gos_terms.specs.regions.Blocks.{port_plan, with_name, IsBound, HasBody}
use Rattle.gos_terms.proofs.regions.HolderLemmas.{Holder, OneNumber, ManyNumbers, binding_of, supply_of, server_of, holder_name}
use Rattle.gos_terms.proofs.regions.BlockLemmas.{block_is_wired, array_block_is_wired}
use Rattle.gos_terms.proofs.regions.FreshLemmas.{fresh_name, is_fresh}
use Rattle.gos_terms.proofs.regions.NamedLemmas.{before, inner_here, inner_there, body_differ}
use Rattle.gos_terms.specs.regular_and_resting.Cases.{BlockIsSteady, ArrayBlockIsSteady}
use Rattle.gos_terms.proofs.regular_and_resting.RestLemmas.{rests_after_answers, rests_where_restful}
use Rattle.gos_terms.proofs.regions.HeardLemmas.{body_heard}
use Rattle.gos_terms.proofs.regions.CutLemmas.{literals_within}

-- it is regular and rests
name_is_such : (hold : Holder) (x : Name) → IsRegularOf (supply_of hold) (port_plan x (supply_of hold))
name_is_such hold x =
    record {
      right = is.right;
      outcome = is.outcome;
      literals = subst (All LiteralFits) (sym is.parts) (λ k d small. absurd (omega (arith, small)));
      regular = name_is_regular (imported x (supply_of hold)) (port_plan x (supply_of hold)) is;
      rests = name_rests (imported x (supply_of hold)) (port_plan x (supply_of hold)) is;
    }
  where
    is : IsNamePlan (imported x (supply_of hold)) (port_plan x (supply_of hold))
    is = holder_name hold x

module _
    (types : Types) (ns : List ℕ) (hold : Holder) (n : ℕ) (m : Numbered) (type_n : types n ≡ supply_of hold) (bound : IsBound n m ns) (env : Supplies) (x : Name) where
  abbrev inner : Supplies
  inner = with_name n x (supply_of hold) env

  -- the supplies of the body
  pub inner_regular : AreRegular types env ns → AreRegular types inner (ns ++ n ∷ [])
  inner_regular all k has = by_test (nat_eq k n) refl
    where
      by_test : (b : Bool) → nat_eq k n ≡ b → IsRegularOf (types k) (inner k).plan
      by_test true is =
          let type_k : types k ≡ supply_of hold = ap types (eqb-true k n is) ∙ type_n in
          subst (λ (s : Supply). IsRegularOf (types k) s.plan) (sym (inner_here n x (supply_of hold) env k is))
          (subst (λ (u : Type'). IsRegularOf u (port_plan x (supply_of hold))) (sym type_k) (name_is_such hold x))
      by_test false is =
          subst (λ (s : Supply). IsRegularOf (types k) s.plan) (sym (inner_there n x (supply_of hold) env k is)) (all k (before ns n k is has))

module _
    (law : OpenBlockIsRegular) (rest : OpenBlockIsRestful) (types : Types) (ns : List ℕ) (t : Type') (hold : Holder) (n : ℕ) (m : Numbered) (done : IsDone t) (type_m : type_of_node m ≡ t) (type_n : types n ≡ supply_of hold) (bound : IsBound n m ns)
    (steady : RegularWired types (ns ++ n ∷ []) m) (i j : ℕ) (env : Supplies) (pl : Placing) (r : Plan) (wired : IsWired types i j (Under t [] (binding_of hold) n m) ns env pl r)
    (supplies : AreRegular types env ns) (differ : NamesDiffer r.imports) (fit : All LiteralFits r.parts) (x : Name)
    (fresh : (y : Imported) → Contains r.imports y → y.name ≢ x) (h : HasBody types i j n m ns env (pl.own 0) (server_of hold (bits r.outcome)) x r) where
  abbrev body : Plan
  body = h.block.body

  names : NamesDiffer body.imports
  names = body_differ types ns (binding_of hold) (supply_of hold) n m env x t i j (i + 1) (suc j) pl h.placing r body wired h.wired differ fresh

  own : IsRegular body × Rests body
  own =
      steady (i + 1) (suc j) (with_name n x (supply_of hold) env) h.placing body h.wired (inner_regular types ns hold n m type_n bound env x supplies) names
      (literals_within h.block.cut r body h.is_block.cut fit)

  whole_done : IsDone r.outcome
  whole_done = h.is_block.done

  body_restful : IsRestful body
  body_restful = rests_after_answers body (subst IsDone (sym h.is_block.outcome) whole_done) own.0 own.1

  heard : IsHeard h.block.cut r body
  heard = body_heard r h.block h.is_block names h.imports

  regular : IsRegular r
  regular = law r h.block h.is_block heard fit differ names own.0

  pub block_steady : IsRegular r × Rests r
  block_steady = (regular, rests_where_restful r whole_done regular (rest r h.block h.is_block heard fit differ names own.0 body_restful))

pub block_is_steady : OpenBlockIsRegular → OpenBlockIsRestful → BlockIsSteady
block_is_steady law rest types ns t w n m done type_m type_n bound steady i j env pl r wired supplies differ fit =
    let x = fresh_name r.imports in
    let fresh = is_fresh r.imports in
    block_steady law rest types ns t (OneNumber w) n m done type_m type_n bound steady i j env pl r wired supplies differ fit x fresh
    (block_is_wired types i j w n t m ns env pl x r wired done type_m type_n bound fresh)

pub array_block_is_steady : OpenBlockIsRegular → OpenBlockIsRestful → ArrayBlockIsSteady
array_block_is_steady law rest types ns t k w n m done type_m type_n bound steady i j env pl r wired supplies differ fit =
    let x = fresh_name r.imports in
    let fresh = is_fresh r.imports in
    block_steady law rest types ns t (ManyNumbers k w) n m done type_m type_n bound steady i j env pl r wired supplies differ fit x fresh
    (array_block_is_wired types i j k w n t m ns env pl x r wired done type_m type_n bound fresh)
