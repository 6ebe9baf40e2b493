use Rattle.std.proofs.Common.{◌≡◌, ◌-◌, List, [], ℕ, true, false, length, take, map, refl, sym, ◌∙◌, ap, subst, append-nil}
use Rattle.std.specs.Prelude.{get_or}
use Rattle.std.proofs.lemmas.Option.{slice_get_read}
use Rattle.gos_lex.specs.Names.{IsNameOrWord}
use Rattle.gos_types.specs.Types.{Type'}
use Rattle.gos_netlist.specs.Nets.{NetPort}
use Rattle.gos_netlist.specs.Seen.{side_of, ground_type}
use Rattle.gos_netlist.specs.Writable.{IsWritablePort, IsPortType}
use Rattle.gos_verilog.specs.PortNets.{PortNet, nets_of_port}
use Rattle.gos_verilog.specs.inner.Stages.{suffix_length}
use Rattle.gos_verilog.proofs.FoundLemmas.{view, some_first, Told, told, side_is, port_cells}
use Rattle.gos_verilog.proofs.ports_of.port.Goals as goal
use Rattle.gos_verilog.proofs.ports_of.port.Goals.{then-not-is_name_or_word-via-then-not-is_name_or_word, then-not-is_name_or_word-via-else-not-is_name_or_word+then-not-is_port_type, then-first, else-first}

no_test : false ≡ true → ⊥
no_test is = cc is

-- what the first net tells
told_first : (p : NetPort) (nets : List PortNet) (first : PortNet) → IsWritablePort p → nets ≡ nets_of_port p → first ≡ get_or nets 0 first → Told p first
told_first p nets first is same read =
    let seen = view p nets [] is (same ∙ sym (append-nil (nets_of_port p))) in
    told p nets first seen (slice_get_read nets (length nets) 0 first refl (some_first p nets seen) read)

-- the name that is cut out
name_is : (p : NetPort) (first : PortNet) (t : Type') (bytes : List ℕ) (cut len end : ℕ) → Told p first → t ≡ p.ty → bytes ≡ first.name → cut ≡ len - end → len ≡ length bytes → end ≡ suffix_length t
    → take cut bytes ≡ p.name
name_is p first t bytes cut len end knows ty whole is long suffix =
    let size : cut ≡ length first.name - suffix_length p.ty = is ∙ (λ i. (long ∙ ap length whole) i - (suffix ∙ ap suffix_length ty) i) in
    (λ i. take (size i) (whole i)) ∙ knows.name

pub returns-then-not-is_name_or_word-clause-stands : goal.returns-then-not-is_name_or_word-clause-stands
returns-then-not-is_name_or_word-clause-stands c p is same ty =
    let first = c.index-nets-0.result in
    let knows = told_first p c.args.nets.now first is same c.index-nets-0.is in
    let whole : c.deref.result.now ≡ first.name = c.deref.ensures.value ∙ ap (λ (n : PortNet). n.name) c.first.view_is in
    let name = name_is p first (ground_type c.args.ground) c.deref.result.now c.saturating_sub.result c.len.result c.suffix.result knows ty whole c.saturating_sub.ensures (c.len.ensures ∙ sym c.deref.ensures.len) c.suffix.ensures in
    elim c.then-not-is_name_or_word.branch [
      | then-not-is_name_or_word-via-then-not-is_name_or_word w ↦ no_test (sym w.if-not-is_name_or_word.true ∙ c.is_name_or_word.ensures.1 (subst IsNameOrWord (sym name) is.name))
      | then-not-is_name_or_word-via-else-not-is_name_or_word+then-not-is_port_type w ↦ no_test (sym w.if-not-is_port_type.true ∙ w.is_port_type.ensures.1 (subst IsPortType (sym ty) is.ty))
    ]

pub returns-clause-stands : goal.returns-clause-stands
returns-clause-stands c p is same ty =
    let first = c.index-nets-0.result in
    let knows = told_first p c.args.nets.now first is same c.index-nets-0.is in
    let whole : c.deref.result.now ≡ first.name = c.deref.ensures.value ∙ ap (λ (n : PortNet). n.name) c.first.view_is in
    let name = c.in_ok-new_name.ensures ∙ name_is p first (ground_type c.args.ground) c.deref.result.now c.saturating_sub.result c.len.result c.suffix.result knows ty whole c.saturating_sub.ensures (c.len.ensures ∙ sym c.deref.ensures.len) c.suffix.ensures in
    let cells = c.in_ok-listed.ensures.cells ∙ (ap (map (λ (n : PortNet). n.cell)) same ∙ port_cells p is) in
    let input = ap (λ (n : PortNet). n.input) c.first.view_is in
    let sides = side_is p.side first.input knows.side in
    let side : side_of c.if-first.side ≡ p.side = elim c.if-first.branch [
      | then-first w ↦ ap side_of w.side-is ∙ sides.0 (sym input ∙ w.if-first.true)
      | else-first w ↦ ap side_of w.side-is ∙ sides.1 (sym input ∙ w.if-first.false)
    ] in
    (λ i. record { name = name i; side = side i; ty = ty i; nets = cells i })
