use Rattle.std.proofs.Common.{◌≡◌, ap, sym, ◌∙◌, List, Some}
use Rattle.std.specs.Prelude.{slice_get}
use Rattle.std.proofs.lemmas.Option.{get_or_from_slice_get}
use Rattle.gos_netlist.specs.declared.event.Event as seen
use Rattle.gos_netlist.specs.Events.{events_of}
use Rattle.gos_pulse.proofs.TableLemmas.{none_named}
use Rattle.gos_pulse.proofs.event_table.EventTable.find.Goals as goal

pub returns-in-None : goal.returns-in-None
returns-in-None c =
    none_named c.args.net.now.ports (events_of c.args.net.now) c.args.self.now.numbers c.args.name.now c.requires.numbers c.in-None.ensures

pub returns-in-Some : goal.returns-in-Some
returns-in-Some c =
    let known = c.requires.numbers.sound c.args.name.now c.in-Some.number (sym c.in-Some.ensures) in
    let here : slice_get c.args.self.now.events.items c.in-Some.number ≡ Some known.0 = ap (λ (all : List seen.Event). slice_get all c.in-Some.number) c.requires.events ∙ known.1.there in
    (known.0, known.1, ap (λ (event : seen.Event). event.bits) (c.index.ensures ∙ get_or_from_slice_get c.args.self.now.events.items c.in-Some.number known.0 c.index.result.now here))
