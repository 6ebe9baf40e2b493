use Rattle.std.proofs.Common.{map, List, ℕ, subst, sym, ◌∙◌}
use Rattle.std.proofs.lemmas.List.{length-map}
use Rattle.gos_netlist.specs.declared.nets.Cell.{Cell}
use Rattle.gos_netlist.specs.Seen.{cell_of}
use Rattle.gos_netlist.specs.Settling.{at}
use Rattle.gos_tidy.specs.Reduced.{IsQuotient}
use Rattle.gos_tidy.proofs.RootLemmas.{quotient_right}
use Rattle.gos_tidy.proofs.quotient.Quotient.is_right.Goals as goal

pub returns : goal.returns
returns c so =
    let cells = map cell_of c.args.cells.now in
    let Others : List Cell → Type 0 = λ x. IsQuotient cells (map cell_of x) (at c.args.self.now.map.items) c.args.self.now.roots.items in
    let Targets : List ℕ → Type 0 = λ x. IsQuotient cells (map cell_of c.as_slice-others.result.now) (at x) c.args.self.now.roots.items in
    let Roots : List ℕ → Type 0 = λ x. IsQuotient cells (map cell_of c.as_slice-others.result.now) (at c.as_slice-targets.result.now) x in
    subst Others c.as_slice-others.ensures.value (subst Targets c.as_slice-targets.ensures.value (subst Roots c.as_slice-roots.ensures.value
    (quotient_right cells (map cell_of c.as_slice-others.result.now) (at c.as_slice-targets.result.now) c.as_slice-roots.result.now
    (c.if-roots-others.false ∙ sym (length-map c.as_slice-others.result.now cell_of)) (c.all_stand.ensures c.if-not-all_stand.false) (c.are_roots.ensures so))))
