use Rattle.std.proofs.Common.{◌∷◌, [], List}
use Rattle.gos_netlist.specs.declared.nets.NetId.{NetId}
use Rattle.gos_netcheck.proofs.PinLemmas.{no_cell, pins_exist, all_done, first_learnt}
use Rattle.gos_netcheck.proofs.schedule.first_waited_for.Goals as goal

pub first_undone-requires-clause-there : goal.first_undone-requires-clause-there
first_undone-requires-clause-there c =
    pins_exist c.args.cells.now c.args.net.0 no_cell (c.in-One.a ∷ []) c.requires.nets c.requires.there c.in-One.ensures

pub first_undone-requires-in-Two-clause-there : goal.first_undone-requires-in-Two-clause-there
first_undone-requires-in-Two-clause-there c =
    pins_exist c.args.cells.now c.args.net.0 no_cell (c.in-Two.a ∷ c.in-Two.b ∷ []) c.requires.nets c.requires.there c.in-Two.ensures

pub first_undone-requires-in-Three-clause-there : goal.first_undone-requires-in-Three-clause-there
first_undone-requires-in-Three-clause-there c =
    pins_exist c.args.cells.now c.args.net.0 no_cell (c.in-Three.a ∷ c.in-Three.b ∷ c.in-Three.c ∷ []) c.requires.nets c.requires.there c.in-Three.ensures

pub returns-in-None : goal.returns-in-None
returns-in-None c =
    all_done c.args.cells.now c.args.marks.now c.args.net.0 no_cell [] c.requires.there c.in-None.ensures (λ k a is. absurd cc)

pub returns-in-One : goal.returns-in-One
returns-in-One c =
    let done = c.first_undone.ensures in
    first_learnt c.args.cells.now c.args.marks.now c.args.net.0 (c.in-One.a ∷ []) c.first_undone.result c.requires.there c.in-One.ensures
    done.none done.among done.undone

pub returns-in-Two : goal.returns-in-Two
returns-in-Two c =
    let nets : List NetId = c.in-Two.a ∷ c.in-Two.b ∷ [] in
    let done = c.first_undone-in-Two.ensures in
    first_learnt c.args.cells.now c.args.marks.now c.args.net.0 nets c.first_undone-in-Two.result c.requires.there c.in-Two.ensures
    done.none done.among done.undone

pub returns-in-Three : goal.returns-in-Three
returns-in-Three c =
    let nets : List NetId = c.in-Three.a ∷ c.in-Three.b ∷ c.in-Three.c ∷ [] in
    let done = c.first_undone-in-Three.ensures in
    first_learnt c.args.cells.now c.args.marks.now c.args.net.0 nets c.first_undone-in-Three.result c.requires.there c.in-Three.ensures
    done.none done.among done.undone
