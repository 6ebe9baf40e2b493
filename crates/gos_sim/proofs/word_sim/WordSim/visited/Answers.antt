use Rattle.std.proofs.Common.{ℕ, ◌≡◌, ◌<◌, ◌∙◌, All, ap, inl, inr, length, map, subst, sym}
use Rattle.std.proofs.lemmas.List.{length-map}
use Rattle.std.proofs.lemmas.List.Elements.{All-from_get_or}
use Rattle.gos_netlist.specs.Nets.{Netlist}
use Rattle.gos_netlist.specs.Seen.{cell_of}
use Rattle.gos_netlist.specs.Settling.{Numbers}
use Rattle.gos_sim.specs.Cycle.{Simulator}
use Rattle.gos_sim.specs.Visits.{HasVisited, VisitsLevels}
use Rattle.gos_sim.specs.inner.Chains.{IsBounded}
use Rattle.gos_sim.specs.inner.Past.{settlings_of}
use Rattle.gos_sim.specs.inner.Places.{by_net}
use Rattle.gos_sim.specs.inner.Ready.{AreCellsReady}
use Rattle.gos_sim.proofs.ChainLemmas.{bounded_of_chained}
use Rattle.gos_sim.proofs.VisitLemmas.{visited_first, visited_later}
use Rattle.gos_sim.proofs.word_sim.WordSim.visited.Goals as goal

pub levels_visited-requires-clause-each : goal.levels_visited-requires-clause-each
levels_visited-requires-clause-each g c =
    let parts = c.self.inside in
    let machine = c.self.invariant.machine in
    let cells : map cell_of c.deref.result.now ≡ parts.net.cells = ap (map cell_of) c.deref.ensures.value ∙ ap (λ (n : Netlist). n.cells) (c.behind-self.view_is ∙ c.netlist.ensures.value) in
    let count : length c.deref.result.now ≡ length parts.net.cells = sym (length-map c.deref.result.now cell_of) ∙ ap length cells in
    machine.chained.each ∙ (machine.leveled.each ∙ sym count)

pub levels_visited-requires-clause-bounded : goal.levels_visited-requires-clause-bounded
levels_visited-requires-clause-bounded g c =
    let parts = c.self.inside in
    let machine = c.self.invariant.machine in
    let cells : map cell_of c.deref.result.now ≡ parts.net.cells = ap (map cell_of) c.deref.ensures.value ∙ ap (λ (n : Netlist). n.cells) (c.behind-self.view_is ∙ c.netlist.ensures.value) in
    let count : length c.deref.result.now ≡ length parts.net.cells = sym (length-map c.deref.result.now cell_of) ∙ ap length cells in
    let chains = parts.machine.levels in
    subst (λ (n : ℕ). IsBounded n chains.heads.items chains.next.items) (machine.leveled.each ∙ sym count)
    (bounded_of_chained (λ l. l) machine.levels chains.heads.items chains.next.items machine.chained.each machine.chained.chained)

pub levels_visited-requires-clause-cells : goal.levels_visited-requires-clause-cells
levels_visited-requires-clause-cells g c =
    let parts = c.self.inside in
    let machine = c.self.invariant.machine in
    let cells : map cell_of c.deref.result.now ≡ parts.net.cells = ap (map cell_of) c.deref.ensures.value ∙ ap (λ (n : Netlist). n.cells) (c.behind-self.view_is ∙ c.netlist.ensures.value) in
    subst AreCellsReady (sym cells) machine.of_net.ready.cells

pub levels_visited-requires-clause-places : goal.levels_visited-requires-clause-places
levels_visited-requires-clause-places g c =
    let parts = c.self.inside in
    let machine = c.self.invariant.machine in
    let cells : map cell_of c.deref.result.now ≡ parts.net.cells = ap (map cell_of) c.deref.ensures.value ∙ ap (λ (n : Netlist). n.cells) (c.behind-self.view_is ∙ c.netlist.ensures.value) in
    let count : length c.deref.result.now ≡ length parts.net.cells = sym (length-map c.deref.result.now cell_of) ∙ ap length cells in
    ap length c.deref-in-First.ensures.value ∙ (machine.each ∙ sym count)

pub levels_visited-requires-clause-there : goal.levels_visited-requires-clause-there
levels_visited-requires-clause-there g c =
    let parts = c.self.inside in
    let machine = c.self.invariant.machine in
    let each : parts.machine.count ≡ length parts.values = sym c.self.invariant.state.values_each in
    subst (λ (ps : Numbers). All (λ p. p < length parts.values) ps) (sym c.deref-in-First.ensures.value)
    (subst (λ (n : ℕ). All (λ p. p < n) parts.machine.places.items) each (All-from_get_or (λ p. p < parts.machine.count) parts.machine.places.items 0 machine.numbering.below))

pub returns-in-First : goal.returns-in-First
returns-in-First g c =
    let parts = c.self.inside in
    let machine = c.self.invariant.machine in
    let places = parts.machine.places.items in
    let before : Numbers = by_net places parts.before in
    let values : Numbers = by_net places parts.values in
    let cells : map cell_of c.deref.result.now ≡ parts.net.cells = ap (map cell_of) c.deref.ensures.value ∙ ap (λ (n : Netlist). n.cells) (c.behind-self.view_is ∙ c.netlist.ensures.value) in
    let counted = rw (cells, c.deref-in-First.ensures.value) at c.levels_visited.ensures in
    let visits : VisitsLevels parts.net.cells before values c.levels_visited.result = counted machine.levels machine.leveled machine.chained in
    let visited : HasVisited parts.net.cells (settlings_of parts.past values before) c.levels_visited.result =
    elim c.in-First.is [
      | inl first ↦ visited_first parts.net.cells values before parts.past c.levels_visited.result visits first c.self.invariant.came
      | inr later ↦ visited_later parts.net.cells values before parts.past c.levels_visited.result visits later
    ] in
    subst (λ (s : Simulator). HasVisited s.net.cells s.settlings c.levels_visited.result) c.self.view_is visited
