use Rattle.std.specs.Prelude.{map}
use Rattle.std.proofs.Common.{arith}
use Rattle.std.proofs.lemmas.List.{length-map}
use Rattle.std.proofs.lemmas.Option.{slice_get_within}
use Rattle.gos_netlist.specs.Seen.{cell_of}
use Rattle.gos_netlist.specs.Settling.{at}
use Rattle.gos_tidy.proofs.ChangeLemmas.{number_quotient}
use Rattle.gos_tidy.proofs.PlaceLemmas.{number_made, number_count}
use Rattle.gos_tidy.proofs.SizeLemmas.{number_size}
use Rattle.gos_tidy.proofs.change.with_number.Goals as goal

pub replaced-requires : goal.replaced-requires
replaced-requires c =
    let may = c.requires.becomes in
    let low = slice_get_within (map cell_of c.args.cells.now) c.args.place may.0 may.1 in
    omega (arith, low, length-map c.args.cells.now cell_of)

pub returns-clause-quotient : goal.returns-clause-quotient
returns-clause-quotient c =
    let ds = c.args.cells.now in
    let items = c.in_ok-others.others.items in
    let goes_to = c.in_ok-map.map.items in
    let roots = c.in_ok-roots.roots.items in
    let targets = c.in_ok-map.ensures in
    let places = c.in_ok-roots.ensures in
    number_quotient (map cell_of ds) (map cell_of items) (at goes_to) roots c.args.place c.args.number c.requires.sound.nets c.requires.becomes
    (number_made ds items c.args.place c.args.number goes_to roots c.requires.becomes targets places c.in_ok-others.ensures)

pub returns-clause-few : goal.returns-clause-few
returns-clause-few c =
    let ds = c.args.cells.now in
    let goes_to = c.in_ok-map.map.items in
    let roots = c.in_ok-roots.roots.items in
    let targets = c.in_ok-map.ensures in
    let places = c.in_ok-roots.ensures in
    let count = number_count ds c.in_ok-others.others.items c.args.place c.args.number goes_to roots c.requires.becomes targets places c.in_ok-others.ensures in
    omega (arith, count)

pub returns-clause-smaller : goal.returns-clause-smaller
returns-clause-smaller c = number_size c.args.cells.now c.in_ok-others.others.items c.args.place c.args.number c.requires.becomes c.in_ok-others.ensures
