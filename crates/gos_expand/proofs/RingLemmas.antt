-- Along a chain of gates the numbers of nets rise, so none closes.
--
-- Read first: Cycles of gos_netlist; GoodLemmas.
use Rattle.std.proofs.Common.{◌≡◌, ◌+◌, ◌<◌, ◌⊎◌, ℕ, List, [], ◌∷◌, slice_get, Some, Contains, inl, inr, sym, subst, ◌∙◌, arith}
use Rattle.std.specs.List.{AllByRecursion}
use Rattle.std.proofs.lemmas.Option.{same_Some}
use Rattle.std.proofs.lemmas.List.Elements.{All-from_recursion, All-contains}
use Rattle.gos_netlist.specs.Nets.{Cell, pins}
use Rattle.gos_netlist.specs.Cycles.{IsRegister, Feeds, Chain, CombinationalCycle, HasCycle}
use Rattle.gos_expand.proofs.StandLemmas.{Each}
use Rattle.gos_expand.proofs.NetLemmas.{IsCut}
use Rattle.gos_expand.proofs.GoodLemmas.{GoesBack, IsGood}

-- a net that feeds another is that of a gate
abbrev pub IsGate : List Cell → ℕ → Type 0
IsGate cells a = (c : Cell) × (slice_get cells a ≡ Some c) × (IsRegister c.gate → ⊥)

-- a net that another feeds has pins
abbrev pub IsFed : List Cell → ℕ → Type 0
IsFed cells b = (e : Cell) × (slice_get cells b ≡ Some e) × (pins e.gate ≡ [] → ⊥)

gate_of : (cells : List Cell) (a b : ℕ) → Feeds cells a b → IsGate cells a
gate_of cells a b (c, e, at, there, gate, pin) = (c, at, gate)

none_in_nil : (a : ℕ) (xs : List ℕ) → xs ≡ [] → Contains xs a → ⊥
none_in_nil a [] e (k, l, is) = omega (arith, l)
none_in_nil a (x ∷ xs) e h = grind (arith, e)

fed_by : (cells : List Cell) (a b : ℕ) → Feeds cells a b → IsFed cells b
fed_by cells a b (c, e, at, there, gate, pin) = (e, there, λ none. none_in_nil a (pins e.gate) none pin)

-- from a gate that is fed to a gate it goes up
rises : (cells : List Cell) → Each (IsGood IsCut cells) 0 cells → (a b : ℕ) → IsFed cells a → IsGate cells b → Feeds cells a b → a < b
rises cells good a b fed gate (c, e, at, there, cut, pin) = of_order (good b e there).order
  where
    same_gate : gate.0 ≡ e
    same_gate = same_Some gate.0 e (sym gate.1 ∙ there)

    same_fed : fed.0 ≡ c
    same_fed = same_Some fed.0 c (sym fed.1 ∙ at)

    of_cut : (d : Cell) → d ≡ c → IsCut d.gate → ⊥
    of_cut d same (inl register) = cut (subst (λ (x : Cell). IsRegister x.gate) same register)
    of_cut d same (inr none) = fed.2 (subst (λ (x : Cell). pins x.gate ≡ []) (same ∙ sym same_fed) none)

    of_back : GoesBack IsCut cells (0 + b) a → a < b
    of_back (d, found, inl is) = absurd (of_cut d (same_Some d c (sym found ∙ at)) is)
    of_back (d, found, inr low) = omega (arith, low)

    of_order : IsRegister e.gate ⊎ AllByRecursion (GoesBack IsCut cells (0 + b)) (pins e.gate) → a < b
    of_order (inl register) = absurd (gate.2 (subst (λ (x : Cell). IsRegister x.gate) (sym same_gate) register))
    of_order (inr all) =
        of_back (All-contains (GoesBack IsCut cells (0 + b)) (pins e.gate) a (All-from_recursion (GoesBack IsCut cells (0 + b)) (pins e.gate) all) pin)

chain_gate : (cells : List Cell) (a : ℕ) (ns : List ℕ) (z : ℕ) → Chain cells (a ∷ ns) z → IsGate cells a
chain_gate cells a [] z chain = gate_of cells a z chain
chain_gate cells a (b ∷ ns) z chain = gate_of cells a b chain.0

chain_fed : (cells : List Cell) (a : ℕ) (ns : List ℕ) (z : ℕ) → Chain cells (a ∷ ns) z → IsFed cells z
chain_fed cells a [] z chain = fed_by cells a z chain
chain_fed cells a (b ∷ ns) z chain = chain_fed cells b ns z chain.1

chain_rises : (cells : List Cell) → Each (IsGood IsCut cells) 0 cells → (a : ℕ) (ns : List ℕ) (z : ℕ) → IsFed cells a → IsGate cells z
    → Chain cells (a ∷ ns) z → a < z
chain_rises cells good a [] z fed gate chain = rises cells good a z fed gate chain
chain_rises cells good a (b ∷ ns) z fed gate chain =
    let first = rises cells good a b fed (chain_gate cells b ns z chain.1) chain.0 in
    let rest = chain_rises cells good b ns z (fed_by cells a b chain.0) gate chain.1 in
    omega (arith, first, rest)

no_ring : (cells : List Cell) → Each (IsGood IsCut cells) 0 cells → (nets : List ℕ) → CombinationalCycle cells nets → ⊥
no_ring cells good [] cycle = cycle
no_ring cells good (a ∷ ns) cycle =
    let up = chain_rises cells good a ns a (chain_fed cells a ns a cycle.1) (chain_gate cells a ns a cycle.1) cycle.1 in
    omega (arith, up)

-- good cells have no combinational cycle
pub no_cycle : (cells : List Cell) → Each (IsGood IsCut cells) 0 cells → HasCycle cells → ⊥
no_cycle cells good (nets, cycle) = no_ring cells good nets cycle
