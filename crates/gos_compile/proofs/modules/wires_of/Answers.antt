use Rattle.std.proofs.Common.{arith, refl, ap, ◌∙◌, ◌≡◌, ◌++◌, length, map, ℕ, List, []}
use Rattle.std.specs.List.{list_all}
use Rattle.gos_types.specs.declared.types.Ty.{Ty}
use Rattle.gos_types.specs.Types.{Type', type_of}
use Rattle.gos_model.specs.Sources.{import_of}
use Rattle.gos_model.specs.Typing.{Imports}
use Rattle.gos_check.specs.Nodes.{type_of_node, node_seen, Numbered}
use Rattle.gos_plan.specs.declared.kinds.Kind.{Kind}
use Rattle.gos_plan.specs.Seen.{part_of}
use Rattle.gos_ties.specs.declared.points.Place.TheVariants as places
use Rattle.gos_ties.specs.declared.points.Point.{Point}
use Rattle.gos_ties.specs.declared.points.Tie.{Tie}
use Rattle.gos_realises.specs.realises.Regular.{count}
use Rattle.gos_compile.specs.inner.Tables.{types_at}
use Rattle.gos_compile.specs.inner.Walked.{seen, is_plain}
use Rattle.gos_compile.specs.Wiring.{Types, row, with_types, all_types, import_ties}
use Rattle.gos_check.proofs.NodeTypeLemmas.{type_seen}
use Rattle.gos_compile.proofs.WalkLemmas.{module_parts, module_ties, module_plain}
use Rattle.gos_compile.specs.inner.Loads.{load}
use Rattle.gos_compile.proofs.TallyLemmas.{row_length}
use Rattle.gos_compile.proofs.modules.wires_of.Goals as goal

pub shakes-n-requires : goal.shakes-n-requires
shakes-n-requires c =
    let m : Numbered = node_seen c.args.node.now in
    let same : count (type_of c.args.node.now.ty) ≡ count (type_of_node m) = ap (λ (t : Type'). count t) (type_seen c.args.node.now) in
    omega (arith, same, c.requires.room)

pub wire-requires : goal.wire-requires
wire-requires c =
    let is : Imports = map import_of c.args.imports.now in
    let m : Numbered = node_seen c.args.node.now in
    let known : types_at c.deref.result.now ≡ all_types is m =
    ap (λ (ts : List Ty). types_at ts) c.deref.ensures.value
    ∙ (c.in_ok-set_types.ensures ∙ ap (λ (types : Types). with_types m types) c.in_ok-types.ensures)
    in
    let loaded : load (types_at c.deref.result.now) m ≡ load (all_types is m) m = ap (λ (types : Types). load types m) known in
    let same : count (type_of c.args.node.now.ty) ≡ count (type_of_node m) = ap (λ (t : Type'). count t) (type_seen c.args.node.now) in
    let size = row_length places.Result 0 c.shakes-n.result in
    let leads : length c.deref-2.result.now ≡ length (row places.Result 0 c.shakes-n.result) =
    ap (λ (ps : List Point). length ps) (c.deref-2.ensures.value ∙ c.in_ok-out.ensures)
    in
    let none : length c.new.result.items ≡ 0 = ap (λ (ks : List Kind). length ks) c.new.ensures.items in
    let few = c.requires.room in
    let shakes = c.shakes-n.ensures in
    omega (arith, loaded, same, size, leads, none, few, shakes)

pub returns-clause-parts : goal.returns-clause-parts
returns-clause-parts c =
    let is : Imports = map import_of c.args.imports.now in
    let m : Numbered = node_seen c.args.node.now in
    let none : map part_of c.new.result.items ≡ [] = ap (λ (ks : List Kind). map part_of ks) c.new.ensures.items in
    let known : types_at c.deref.result.now ≡ all_types is m =
    ap (λ (ts : List Ty). types_at ts) c.deref.ensures.value
    ∙ (c.in_ok-set_types.ensures ∙ ap (λ (types : Types). with_types m types) c.in_ok-types.ensures)
    in
    module_parts is m (types_at c.deref.result.now) c.deref-2.result.now
    (record { parts = map part_of c.new.result.items; ties = c.tie_imports.new.ties.items; nodes = 0; plain = list_all is_plain c.new.result.items }) (seen c.wire.new.wires) known none c.in_ok-wire.ensures.wired

pub returns-clause-ties : goal.returns-clause-ties
returns-clause-ties c =
    let is : Imports = map import_of c.args.imports.now in
    let m : Numbered = node_seen c.args.node.now in
    let none : map part_of c.new.result.items ≡ [] = ap (λ (ks : List Kind). map part_of ks) c.new.ensures.items in
    let known : types_at c.deref.result.now ≡ all_types is m =
    ap (λ (ts : List Ty). types_at ts) c.deref.ensures.value
    ∙ (c.in_ok-set_types.ensures ∙ ap (λ (types : Types). with_types m types) c.in_ok-types.ensures)
    in
    module_ties is m (types_at c.deref.result.now) c.deref-2.result.now
    (record { parts = map part_of c.new.result.items; ties = c.tie_imports.new.ties.items; nodes = 0; plain = list_all is_plain c.new.result.items }) (seen c.wire.new.wires) known
    (c.deref-2.ensures.value
    ∙ (c.in_ok-out.ensures ∙ ap (λ (n : ℕ). row places.Result 0 n) (c.shakes-n.ensures ∙ ap (λ (t : Type'). count t) (type_seen c.args.node.now))))
    none (c.in_ok-tie_imports.ensures ∙ ap (λ (ts : List Tie). ts ++ import_ties 0 is) c.new-ties.ensures.items) refl c.in_ok-wire.ensures.wired

pub returns-clause-plain : goal.returns-clause-plain
returns-clause-plain c =
    module_plain (node_seen c.args.node.now) (types_at c.deref.result.now) c.deref-2.result.now
    (record {
      parts = map part_of c.new.result.items;
      ties = c.tie_imports.new.ties.items;
      nodes = 0;
      plain = list_all is_plain c.new.result.items;
    }) (seen c.wire.new.wires) (ap (λ (ks : List Kind). list_all is_plain ks) c.new.ensures.items) c.in_ok-wire.ensures.wired
