use Rattle.std.specs.Prelude.{ℕ, map, get_or, Option, IsNone}
use Rattle.gos_netlist.specs.declared.nets.Cell as declared
use Rattle.gos_netlist.specs.declared.nets.Gate.TheVariants as gates
use Rattle.std.proofs.Common.{arith, refl, sym, subst}
use Rattle.gos_netlist.specs.Seen.{cell_of}
use Rattle.gos_netcheck.proofs.RuleLemmas.{get_mapped}
use Rattle.gos_tidy.proofs.BreachLemmas.{may_be, firm_at}
use Rattle.gos_tidy.proofs.breach.change_at.Goals as goal

pub own_change-requires-clause-narrow : goal.own_change-requires-clause-narrow
own_change-requires-clause-narrow c =
    let cells = map cell_of c.args.cells.now in
    let nothing : declared.Cell = record { width = 0; gate = gates.Input } in
    let cell = cell_of (get_or c.args.cells.now c.args.net nothing) in
    let there = get_mapped cell_of c.args.cells.now c.args.net nothing c.requires.there in
    let narrow = (c.requires.fit c.args.net cell there).1 in
    omega (arith, narrow)

pub own_change-requires-clause-fit : goal.own_change-requires-clause-fit
own_change-requires-clause-fit c =
    let cells = map cell_of c.args.cells.now in
    let nothing : declared.Cell = record { width = 0; gate = gates.Input } in
    let cell = cell_of (get_or c.args.cells.now c.args.net nothing) in
    let there = get_mapped cell_of c.args.cells.now c.args.net nothing c.requires.there in
    (c.requires.fit c.args.net cell there).2

pub returns-in-Some-clause-may : goal.returns-in-Some-clause-may
returns-in-Some-clause-may c =
    let cells = map cell_of c.args.cells.now in
    let nothing : declared.Cell = record { width = 0; gate = gates.Input } in
    let cell = cell_of (get_or c.args.cells.now c.args.net nothing) in
    let there = get_mapped cell_of c.args.cells.now c.args.net nothing c.requires.there in
    may_be cells c.args.net cell there c.in-Some.change c.in-Some.ensures.allows

pub returns-in-None-2-clause-firm : goal.returns-in-None-2-clause-firm
returns-in-None-2-clause-firm c =
    let cells = map cell_of c.args.cells.now in
    let nothing : declared.Cell = record { width = 0; gate = gates.Input } in
    let cell = cell_of (get_or c.args.cells.now c.args.net nothing) in
    let there = get_mapped cell_of c.args.cells.now c.args.net nothing c.requires.there in
    let none : IsNone c.in_ok-first-in-None.field-0 = subst (λ (o : Option ℕ). IsNone o) (sym c.in-None-2.is) refl in
    λ own. firm_at cells c.args.net cell there (c.in-None.ensures.firm own) (c.in_ok-first-in-None.ensures.new none)
