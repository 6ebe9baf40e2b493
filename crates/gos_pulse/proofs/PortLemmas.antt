-- The ports of an accepted netlist are different, and the one that gives carries a command or an expression.
use Rattle.std.proofs.Common.{◌≡◌, ◌≢◌, ◌<◌, ℕ, zero, suc, refl, sym, ap, ◌∙◌, arith, Some}
use Rattle.std.specs.Prelude.{slice_get}
use Rattle.gos_types.specs.Types.{Type', IsDone}
use Rattle.gos_netlist.specs.Nets.{Side, Give, Take, NetPort, Netlist}
use Rattle.gos_netcheck.specs.PortRules.{HasSide}
use Rattle.gos_netcheck.specs.Accepted.{IsAccepted}
use Rattle.gos_model.specs.Labels.{Given, Taken}
use Rattle.gos_pace.specs.Flattening.{port_of}
use Rattle.gos_pulse.specs.Guarding.{PortsDiffer, HasPorts}

-- all but the first port are taken
taken_later : (k : ℕ) (side : Side) (ty : Type') → 0 < k → HasSide k side ty → side ≡ Take
taken_later zero side ty more h = absurd (omega (arith, more))
taken_later (suc k) side ty more h = h.0

given_first : (k : ℕ) (side : Side) (ty : Type') → side ≡ Give → HasSide k side ty → IsDone ty
given_first zero side ty give h = h.1
given_first (suc k) side ty give h = let wrong : Give ≡ Take = sym give ∙ h.0 in absurd (cc wrong)

-- a taken port has its own name among the ports before it
own_name : (p q : NetPort) (s : Side) → p.side ≡ s → q.side ≡ Take → p.name ≢ q.name → port_of p.side p.name ≡ port_of q.side q.name → ⊥
own_name p q Give gives takes differ same =
    let wrong : Given ≡ Taken q.name = ap (λ (s : Side). port_of s p.name) (sym gives) ∙ same ∙ ap (λ (s : Side). port_of s q.name) takes in
    cc
own_name p q Take gives takes differ same =
    let both : Taken p.name ≡ Taken q.name = ap (λ (s : Side). port_of s p.name) (sym gives) ∙ same ∙ ap (λ (s : Side). port_of s q.name) takes in
    differ (cc)

module _ (net : Netlist) (accepted : IsAccepted net) where
  earlier_differs : (i j : ℕ) (p q : NetPort) → slice_get net.ports i ≡ Some p → slice_get net.ports j ≡ Some q → i < j → port_of p.side p.name ≡ port_of q.side q.name → ⊥
  earlier_differs i j p q at_i at_j less same =
      let right = accepted.ports.each j q at_j in
      own_name p q p.side refl (taken_later j q.side q.ty (omega (arith, less)) right.side) (right.name i p less at_i) same

  differ : PortsDiffer net.ports
  differ i j p q at_i at_j same =
      let first : i < j → ⊥ = λ less. earlier_differs i j p q at_i at_j less same in
      let second : j < i → ⊥ = λ less. earlier_differs j i q p at_j at_i less (sym same) in
      omega (arith, first, second)

  -- what the guard asks of a netlist
  pub has_ports : HasPorts net
  has_ports = record { differ = differ; given = λ i p at gives. given_first i p.side p.ty gives (accepted.ports.each i p at).side }
