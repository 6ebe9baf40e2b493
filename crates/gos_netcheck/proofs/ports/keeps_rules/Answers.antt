use Rattle.std.proofs.Common.{◌≡◌, ◌++◌, ◌+◌, ℕ, List, Bool, true, false, sym, ap, subst, ◌∙◌, map, take, length}
use Rattle.std.specs.Prelude.{Some, slice_get, MatchBool}
use Rattle.std.proofs.lemmas.List.{length-map}
use Rattle.gos_netlist.specs.Nets.{Cell, NetPort}
use Rattle.gos_netlist.specs.Seen.{cell_of, number_of, side_of, ground_type}
use Rattle.gos_netcheck.specs.PortRules.{AreNew, IsRightPort, inputs_of, all_inputs}
use Rattle.gos_netcheck.specs.inner.PortSearch.{HasNames, AreTaken, has_name, is_named}
use Rattle.gos_netcheck.proofs.NameLemmas.{not_false, not_true, unnamed_before, named_before, names_more, taken_so_far}
use Rattle.gos_netcheck.proofs.KeepLemmas.{is_right, inputs_new, conclude, whole_after, inputs_within}
use Rattle.gos_netcheck.proofs.ports.keeps_rules.Goals as goal

pub returns-then-not-branch-clause-right : goal.returns-then-not-branch-clause-right
returns-then-not-branch-clause-right c ports at names taken right =
    let name = c.bytes.ensures.value ∙ ap (λ (p : NetPort). p.name) c.port.view_is in
    let known : has_name c.args.names.now c.bytes.result.now ≡ true =
    not_false (has_name c.args.names.now c.bytes.result.now) (sym c.if-not-branch.true ∙ c.in_ok-add_name.ensures.added) in
    let P : List ℕ → Type 0 = λ b. is_named (take c.args.k ports) b ≡ true in
    named_before ports c.args.k c.args.port.now.name (subst P name (sym (names c.bytes.result.now) ∙ known)) right.name

pub take_all-requires : goal.take_all-requires
take_all-requires c =
    let cells : List Cell = map cell_of c.args.cells.now in
    let fit = c.all_fit.ensures.0 c.if-not-all_fit.false in
    let here = rw (c.deref.ensures.value, c.deref-2.ensures.value) at fit in
    let inputs = rw (c.deref-3.ensures.value, c.deref-4.ensures.value) at c.in_ok-inputs.ensures in
    inputs_within cells c.in_ok-places.places.items (map number_of c.port.inside.nets.items) c.deref-5.result.now (length c.deref_mut.result.now) here
    (ap (map number_of) c.deref-5.ensures.value ∙ inputs)
    (length-map c.args.cells.now cell_of ∙ sym c.requires ∙ ap length (sym c.deref_mut.ensures.value))

pub returns-clause-right : goal.returns-clause-right
returns-clause-right c ports at names taken =
    let cells : List Cell = map cell_of c.args.cells.now in
    let seen : NetPort =
    record {
      name = c.port.inside.name;
      side = side_of c.port.inside.side;
      ty = ground_type c.port.inside.ground;
      nets = map number_of c.port.inside.nets.items;
    } in
    let here : slice_get ports c.args.k ≡ Some seen = at ∙ ap Some (sym c.port.view_is) in
    let before : List ℕ = all_inputs (take c.args.k ports) in
    let new : List Bool = c.take_all.new.taken in
    let known : has_name c.args.names.now c.bytes.result.now ≡ false =
    not_true (has_name c.args.names.now c.bytes.result.now) (sym c.if-not-branch.false ∙ c.in_ok-add_name.ensures.added) in
    let Unnamed : List ℕ → Type 0 = λ b. is_named (take c.args.k ports) b ≡ false in
    let unnamed = unnamed_before ports c.args.k seen.name (subst Unnamed c.bytes.ensures.value (sym (names c.bytes.result.now) ∙ known)) in
    let fit = rw (c.deref.ensures.value, c.in_ok-places.ensures, c.deref-2.ensures.value) at (c.all_fit.ensures.0 c.if-not-all_fit.false) in
    let inputs = rw (c.deref-3.ensures.value, c.in_ok-places.ensures, c.deref-4.ensures.value) at c.in_ok-inputs.ensures in
    let side = c.has_side.ensures.0 c.if-not-has_side.false in
    let Found : List ℕ → Type 0 = λ xs. MatchBool c.take_all.result (AreNew before xs × AreTaken new (before ++ xs)) (AreNew before xs → ⊥) in
    let marks : AreTaken c.deref_mut.result.now before = (let P : List Bool → Type 0 = λ t. AreTaken t before in subst P (sym c.deref_mut.ensures.value) taken) in
    let found : Found (inputs_of seen) = subst Found (ap (map number_of) c.deref-5.ensures.value ∙ inputs) (c.take_all.ensures.right before marks) in
    let adds = rw c.bytes.ensures.value at (c.in_ok-add_name.ensures.names c.if-not-branch.false) in
    let After : List Bool → Type 0 = λ t. AreTaken t (all_inputs (take (c.args.k + 1) ports)) in
    conclude c.take_all.result (AreNew before (inputs_of seen)) (AreTaken new (before ++ inputs_of seen)) (IsRightPort cells ports c.args.k c.args.port.now)
    (HasNames c.add_name.new.names (take (c.args.k + 1) ports)) _ found
    (λ all_new. is_right cells ports c.args.k seen c.args.port.now c.port.view_is side unnamed fit all_new)
    (λ right. inputs_new cells ports c.args.k seen c.args.port.now c.port.view_is right)
    (names_more c.args.names.now c.add_name.new.names ports c.args.k seen here names adds)
    (λ all_taken. subst After (sym (whole_after c.args.taken.now.len new c.args.taken.now.items (c.take_all.auto.taken ∙ ap length c.deref_mut.ensures.value) c.args.taken.now.ok.0))
    (taken_so_far new ports c.args.k seen here all_taken))
