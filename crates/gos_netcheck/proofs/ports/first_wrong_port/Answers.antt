use Rattle.std.proofs.Common.{◌≡◌, ℕ, List, map, length, arith, refl, sym, subst, ◌∙◌, inl, inr}
use Rattle.std.specs.Prelude.{Bool}
use Rattle.std.proofs.lemmas.Bool.{eqb-true, eqb-false}
use Rattle.std.proofs.lemmas.Option.{slice_get_read}
use Rattle.gos_netlist.specs.Nets.{NetPort}
use Rattle.gos_netlist.specs.Seen.{cell_of}
use Rattle.gos_netcheck.specs.PortRules.{IsRightPort, all_inputs}
use Rattle.gos_netcheck.specs.inner.PortSearch.{AreTaken}
use Rattle.gos_netcheck.proofs.RuleLemmas.{kept_more, kept_all}
use Rattle.gos_netcheck.proofs.KeepLemmas.{all_seen, is_loose, is_not}
use Rattle.gos_netcheck.proofs.ports.first_wrong_port.Goals as goal

pub loop-k-preserved : goal.loop-k-preserved
loop-k-preserved c =
    let ports : List NetPort = c.args.ports.now in
    let Rule : ℕ → NetPort → Type 0 = IsRightPort (map cell_of c.args.cells.now) ports in
    let at = slice_get_read ports (length ports) c.loop-k.k c.index-ports-k.result refl c.loop-k-test.true c.index-ports-k.is in
    let found = is_loose c.in_ok-keeps_rules.field-0 _ _ c.if-not-branch.false (c.in_ok-keeps_rules.ensures.right ports at c.loop-k.invariant.names c.loop-k.invariant.taken) in
    record {
      count = c.in_ok-keeps_rules.ensures.count ∙ c.loop-k.invariant.count;
      kept = kept_more Rule ports c.loop-k.k c.index-ports-k.result at c.loop-k.invariant.kept found.0;
      names = found.1;
      taken = found.2;
    }

pub returns-then-is_empty : goal.returns-then-is_empty
returns-then-is_empty c =
    let ports : List NetPort = c.args.ports.now in
    let Rule : ℕ → NetPort → Type 0 = IsRightPort (map cell_of c.args.cells.now) ports in
    let none : length ports ≡ 0 = eqb-true (length ports) 0 (sym c.is_empty.ensures ∙ c.if-is_empty.true) in
    inr (sym none, record { each = kept_all Rule ports c.loop-k.k c.loop-k-test.false c.loop-k.invariant.kept; lacks = inl none })

pub returns-then-has_loose_input : goal.returns-then-has_loose_input
returns-then-has_loose_input c =
    let ports : List NetPort = c.args.ports.now in
    let Rule : ℕ → NetPort → Type 0 = IsRightPort (map cell_of c.args.cells.now) ports in
    let P : List Bool → Type 0 = λ t. AreTaken t (all_inputs ports) in
    let marks = subst P (sym c.deref.ensures.value) (all_seen c.loop-k.taken.items ports c.loop-k.k c.loop-k-test.false c.loop-k.invariant.taken) in
    inr (
      refl,
      record {
        each = kept_all Rule ports c.loop-k.k c.loop-k-test.false c.loop-k.invariant.kept;
        lacks = inr (is_loose c.has_loose_input.result _ _ c.if-has_loose_input.true (c.has_loose_input.ensures (all_inputs ports) marks));
      },
    )

pub returns : goal.returns
returns c =
    let ports : List NetPort = c.args.ports.now in
    let Rule : ℕ → NetPort → Type 0 = IsRightPort (map cell_of c.args.cells.now) ports in
    let P : List Bool → Type 0 = λ t. AreTaken t (all_inputs ports) in
    let marks = subst P (sym c.deref.ensures.value) (all_seen c.loop-k.taken.items ports c.loop-k.k c.loop-k-test.false c.loop-k.invariant.taken) in
    let some = eqb-false (length ports) 0 (sym c.is_empty.ensures ∙ c.if-is_empty.false) in
    record {
      some = omega (arith, some);
      each = kept_all Rule ports c.loop-k.k c.loop-k-test.false c.loop-k.invariant.kept;
      inputs = is_not c.has_loose_input.result _ _ c.if-has_loose_input.false (c.has_loose_input.ensures (all_inputs ports) marks);
    }
