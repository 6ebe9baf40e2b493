use Rattle.std.proofs.Common.{◌≡◌, ◌∙◌, arith, get_or-set_same}
use Rattle.gos_netlist.specs.Settling.{at}
use Rattle.gos_sim.specs.inner.Places.{none}
use Rattle.gos_sim.proofs.MarkLemmas.{read_at}
use Rattle.gos_sim.proofs.NumberLemmas.{partly_more, place_left}
use Rattle.gos_sim.proofs.places.Places.add.Goals as goal

pub overflow_add-self : goal.overflow_add-self
overflow_add-self c =
    let places = c.args.self.now.of.items in
    let free : at places c.args.net ≡ none = read_at places _ _ c.requires.net c.index.ensures ∙ c.if-index.true in
    let left = place_left places c.args.net c.args.self.now.count c.requires.net free c.requires.partly in
    omega (arith, left)

pub returns-then-index-clause-partly : goal.returns-then-index-clause-partly
returns-then-index-clause-partly c =
    let places = c.args.self.now.of.items in
    let free : at places c.args.net ≡ none = read_at places _ _ c.requires.net c.index.ensures ∙ c.if-index.true in
    partly_more places c.args.net c.args.self.now.count c.requires.net free c.requires.partly

pub returns-then-index-clause-placed : goal.returns-then-index-clause-placed
returns-then-index-clause-placed c = λ same.
    let places = c.args.self.now.of.items in
    let free : at places c.args.net ≡ none = read_at places _ _ c.requires.net c.index.ensures ∙ c.if-index.true in
    let left = place_left places c.args.net c.args.self.now.count c.requires.net free c.requires.partly in
    let own = get_or-set_same places c.args.net c.args.self.now.count 0 c.requires.net in
    omega (arith, left, own, same)
