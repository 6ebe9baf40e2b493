-- The caller's module means it, and those with outputs or inputs swapped don't.
use Rattle.std.proofs.Common.{◌≡◌, ◌∙◌, ℕ, true, List, [], ◌∷◌, length, refl, codes}
use Rattle.gos_netlist.specs.Settling.{Numbers, at, shown, Settling}
use Rattle.gos_verilog.specs.PortNets.{port_nets}
use Rattle.gos_verilog.specs.SmallMeanings.{caller, only, CallerRuns, CallerWaits, CallerIsMeant, SwappedOutputsMeanOther, SwappedInputsMeanOther}
use Rattle.gos_verilog.proofs.MeaningLemmas.{AllFrom, AreRead, all_each, means}

-- what its cells read
abbrev sources : List (List ℕ)
sources = codes "main__run" ∷ codes "c__done" ∷ [] ∷ [] ∷ []

read : AreRead (port_nets caller.ports) 0 caller.cells sources
read = (
  (λ gate. (0, record { name = codes "main__run"; input = true; width = 1; cell = 0 }, refl, refl, refl, refl)),
  (
    (λ gate. (3, record { name = codes "c__done"; input = true; width = 1; cell = 1 }, refl, refl, refl, refl)),
    ((λ gate. absurd (cc gate)), ((λ gate. absurd (cc gate)), tt)),
  ),
)

pub caller_is_meant : CallerIsMeant
caller_is_meant = means caller sources read

-- the nets of the caller meet the equations of its cells
settled : (regs ins v : Numbers) → length v ≡ 4 → AllFrom (λ n c. at v n ≡ shown c.width c.gate (at regs n) (at ins n) (at v)) 0 caller.cells → Settling caller.cells regs ins v
settled regs ins v long all = (long, all_each (λ n c. at v n ≡ shown c.width c.gate (at regs n) (at ins n) (at v)) caller.cells all)

pub swapped_outputs : SwappedOutputsMeanOther
swapped_outputs means =
    let is = means.settles (0 ∷ 0 ∷ 1 ∷ 0 ∷ []) [] (0 ∷ 0 ∷ 1 ∷ 0 ∷ []) (only (codes "c__run")) (tt, (tt, (tt, (tt, tt)))) ((λ _. refl), ((λ no. absurd (cc no)), ((λ no. absurd (cc no)), ((λ _. refl), tt)))) in
    let meets = is.1 (settled (0 ∷ 0 ∷ 1 ∷ 0 ∷ []) [] (0 ∷ 0 ∷ 1 ∷ 0 ∷ []) refl (refl, (refl, (refl, (refl, tt)))), ((λ no. absurd (cc no)), ((λ _. refl), ((λ _. refl), ((λ no. absurd (cc no)), tt))))) in
    let wrong : 0 ≡ 1 = meets.1.1.1.1.1.0 in
    cc wrong

pub swapped_inputs : SwappedInputsMeanOther
swapped_inputs means =
    let is = means.settles [] (1 ∷ []) (1 ∷ 0 ∷ 0 ∷ 0 ∷ []) (only (codes "main__run")) (tt, (tt, (tt, (tt, tt)))) ((λ _. refl), ((λ no. absurd (cc no)), ((λ no. absurd (cc no)), ((λ _. refl), tt)))) in
    let meets = is.1 (settled [] (1 ∷ []) (1 ∷ 0 ∷ 0 ∷ 0 ∷ []) refl (refl, (refl, (refl, (refl, tt)))), ((λ no. absurd (cc no)), ((λ _. refl), ((λ _. refl), ((λ no. absurd (cc no)), tt))))) in
    let wrong : 1 ≡ 0 = meets.1.0 in
    cc wrong

pub caller_runs : CallerRuns
caller_runs = (
  (refl, (refl, (refl, (refl, (refl, (refl, (refl, tt))))))),
  0 ∷ 0 ∷ 1 ∷ 0 ∷ [],
  (tt, (tt, (refl, (refl, (tt, (tt, tt)))))),
  ((refl, (refl, (refl, (refl, (refl, (refl, (refl, tt))))))), [], (tt, (tt, (refl, (refl, (tt, (tt, tt)))))), refl),
)

pub caller_waits : CallerWaits
caller_waits v runs =
    let meets = runs.0 in
    let held : at v 2 ≡ 0 = meets.1.1.1.0 in
    let shown : 1 ≡ at v 2 = meets.1.1.1.1.1.1.0 in
    let wrong : 1 ≡ 0 = shown ∙ held in
    cc wrong
