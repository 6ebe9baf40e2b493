use Rattle.std.proofs.Common.{ℕ, ◌≡◌, ◌<◌, length, rules, subst}
use Rattle.gos_sim.proofs.NumberLemmas.{all_placed, numbering_of, places_few}
use Rattle.gos_sim.proofs.places.numbered.Goals as goal

pub returns-clause-numbering : goal.returns-clause-numbering
returns-clause-numbering c =
    let places = c.add_nets.new.self.of.items in
    let each : length places ≡ c.args.count = search rules in
    numbering_of places c.add_nets.new.self.count c.add_nets.ensures.partly
    (λ n below. all_placed places c.args.nets.now n (c.requires.all n (subst (λ (k : ℕ). n < k) each below)) c.add_nets.ensures.placed)

pub returns-clause-few : goal.returns-clause-few
returns-clause-few c = places_few c.add_nets.new.self.of.items c.add_nets.new.self.count c.add_nets.ensures.partly
