-- Each Input cell of an accepted netlist is a net of a port, which the table leads to: the lines that drive the cells' nets.
use Rattle.std.proofs.Common.{◌≡◌, ◌⊎◌, inl, inr, ℕ, zero, suc, ◌+◌, ◌<◌, Bool, true, false, if◌then◌else◌, List, [], ◌∷◌, ◌++◌, length, map, get_or, Some, refl, sym, ◌∙◌, ap, subst, arith, slice_get, codes}
use Rattle.std.proofs.lemmas.Bool.{cases_eq}
use Rattle.std.proofs.lemmas.Option.{slice_get_within}
use Rattle.gos_types.specs.Types.{Type', Com, Exp, Var, Pair, Fun}
use Rattle.gos_netlist.specs.Nets.{Side, Input, Cell, NetPort, Netlist}
use Rattle.gos_netlist.specs.Events.{is_input}
use Rattle.gos_netcheck.specs.PortRules.{place, places, inputs_among, inputs_of, all_inputs, PortsFit}
use Rattle.gos_netcheck.specs.Accepted.{IsAccepted}
use Rattle.gos_verilog.specs.declared.port_net.Role.{Role}
use Rattle.gos_verilog.specs.PortNets.{PortNet, direction, bits, roles, number_bits, net_in_role, nets_in_roles, nets_of_port, port_nets}
use Rattle.gos_verilog.specs.VerilogText.{AreDrivers, IsItsNet, IsVerilogOf, first_name}
use Rattle.gos_verilog.specs.Lines.{module_head, clock_declarations, port_declaration, cell_declarations, output_assignment}
use Rattle.std.specs.List.{flat_map}
use Rattle.gos_verilog.specs.inner.Drivers.{FeedsAt, LeadsToFeeds, name_of, driven, module_lines}
use Rattle.gos_verilog.specs.inner.Inputs.{AreFed}

-- the number is among these
abbrev In : ℕ → List ℕ → Type 0
In n [] = ⊥
In n (m ∷ ms) = (m ≡ n) ⊎ In n ms

-- some net is an input and cell i
abbrev pub IsFeeding : List PortNet → ℕ → Type 0
IsFeeding nets i = (k : ℕ) × FeedsAt nets k i

contains_in : (ns : List ℕ) (n k : ℕ) → k < length ns → get_or ns k n ≡ n → In n ns
contains_in [] n k within is = absurd (omega (arith, within))
contains_in (m ∷ ms) n zero within is = inl is
contains_in (m ∷ ms) n (suc k) within is = inr (contains_in ms n k (omega (arith, within)) is)

decide_in : (n : ℕ) (ns : List ℕ) → In n ns ⊎ (In n ns → ⊥)
decide_in n [] = inr (λ no. no)
decide_in n (m ∷ ms) =
    elim (cases_eq m n) [
      | inl same ↦ inl (inl same)
      | inr other ↦ elim (decide_in n ms) [
        | inl behind ↦ inl (inr behind)
        | inr none ↦ inr (λ found. elim found [ inl same ↦ other same | inr behind ↦ none behind ])
      ]
    ]

in_append : (n : ℕ) (ms ns : List ℕ) → In n (ms ++ ns) → In n ms ⊎ In n ns
in_append n [] ns found = inr found
in_append n (m ∷ ms) ns (inl same) = inl (inl same)
in_append n (m ∷ ms) ns (inr behind) = elim (in_append n ms ns behind) [ inl one ↦ inl (inr one) | inr other ↦ inr other ]

get_left : (xs ys : List PortNet) (k : ℕ) (x : PortNet) → slice_get xs k ≡ Some x → slice_get (xs ++ ys) k ≡ Some x
get_left [] ys k x is = absurd (omega (arith, slice_get_within [] k x is))
get_left (y ∷ xs) ys zero x is = is
get_left (y ∷ xs) ys (suc k) x is = get_left xs ys k x is

feeding_left : (xs ys : List PortNet) (i : ℕ) → IsFeeding xs i → IsFeeding (xs ++ ys) i
feeding_left xs ys i (k, feeds) = (k, (feeds.0, get_left xs ys k feeds.0 feeds.1, feeds.2, feeds.3))

feeding_right : (xs ys : List PortNet) (i : ℕ) → IsFeeding ys i → IsFeeding (xs ++ ys) i
feeding_right [] ys i feeds = feeds
feeding_right (x ∷ xs) ys i feeds = let rest = feeding_right xs ys i feeds in (suc rest.0, rest.1)

open_roles : (name : List ℕ) (side : Side) (w i : ℕ) (rs : List Role) (ns : List ℕ) → In i (inputs_among (map (λ role. place side (direction role) (bits w role)) rs) ns) → IsFeeding (nets_in_roles name side w ns rs) i
open_roles name side w i [] ns found = absurd found
open_roles name side w i (r ∷ rs) [] found = absurd found
open_roles name side w i (r ∷ rs) (n ∷ ns) found =
    by (is_input side (direction r)) refl found
    (λ behind. let rest = open_roles name side w i rs ns behind in (suc rest.0, rest.1))
  where
    by : (b : Bool) → is_input side (direction r) ≡ b
        → In i ((if b then n ∷ [] else []) ++ inputs_among (map (λ role. place side (direction role) (bits w role)) rs) ns)
        → (In i (inputs_among (map (λ role. place side (direction role) (bits w role)) rs) ns) → IsFeeding (nets_in_roles name side w (n ∷ ns) (r ∷ rs)) i)
        → IsFeeding (nets_in_roles name side w (n ∷ ns) (r ∷ rs)) i
    by true is (inl same) behind = (zero, (net_in_role name side w r n, refl, is, same))
    by true is (inr found) behind = behind found
    by false is found behind = behind found

open_type : (name : List ℕ) (side : Side) (i : ℕ) (ns : List ℕ) (t : Type') → In i (inputs_among (places side t) ns) → IsFeeding (nets_in_roles name side (number_bits t) ns (roles t)) i
open_type name side i ns Com found = open_roles name side 1 i (roles Com) ns found
open_type name side i ns (Exp w) found = open_roles name side w i (roles (Exp w)) ns found
open_type name side i ns (Var w) found = open_roles name side w i (roles (Var w)) ns found
open_type name side i ns (Pair a b) found = absurd found
open_type name side i ns (Fun a b) found = absurd found

open_port : (p : NetPort) (i : ℕ) → In i (inputs_of p) → IsFeeding (nets_of_port p) i
open_port p i found = open_type p.name p.side i p.nets p.ty found

open_ports : (ports : List NetPort) (i : ℕ) → In i (all_inputs ports) → IsFeeding (port_nets ports) i
open_ports [] i found = absurd found
open_ports (p ∷ ports) i found =
    elim (in_append i (inputs_of p) (all_inputs ports) found) [
      | inl here ↦ feeding_left (nets_of_port p) (port_nets ports) i (open_port p i here)
      | inr behind ↦ feeding_right (nets_of_port p) (port_nets ports) i (open_ports ports i behind)
    ]

-- each Input cell of an accepted netlist is a net of a port
cell_fed : (cells : List Cell) (ports : List NetPort) (i : ℕ) (c : Cell) → PortsFit cells ports → slice_get cells i ≡ Some c → c.gate ≡ Input → IsFeeding (port_nets ports) i
cell_fed cells ports i c fit is gate =
    elim (decide_in i (all_inputs ports)) [
      | inl found ↦ open_ports ports i found
      | inr none ↦ absurd (fit.inputs i (c, is, gate, λ found. none (contains_in (all_inputs ports) i found.0 found.1 found.2)))
    ]

-- the lines of the cells from number i on
drivers_from : (nets : List PortNet) (table : List ℕ) (cells : List Cell) (i : ℕ)
    → ((j : ℕ) (c : Cell) → slice_get cells j ≡ Some c → c.gate ≡ Input → FeedsAt nets (get_or table (i + j) 0) (i + j))
    → AreDrivers IsItsNet nets i cells (driven nets table i cells)
drivers_from nets table [] i fed = refl
drivers_from nets table (c ∷ cells) i fed = (
  name_of (slice_get nets (get_or table i 0)),
  driven nets table (suc i) cells,
  λ gate.
      let e : i + 0 ≡ i = omega arith in
      let feeds = subst (λ (n : ℕ). FeedsAt nets (get_or table n 0) n) e (fed 0 c refl gate) in
      (get_or table i 0, feeds.0, feeds.1, feeds.2, feeds.3, ap name_of feeds.1),
  drivers_from nets table cells (suc i)
      (λ j d is gate. let e : i + suc j ≡ suc i + j = omega arith in subst (λ (n : ℕ). FeedsAt nets (get_or table n 0) n) e (fed (suc j) d is gate)),
  refl,
)

pub accepted_fed : (net : Netlist) → IsAccepted net → AreFed (port_nets net.ports) net.cells
accepted_fed net accepted i c is gate = cell_fed net.cells net.ports i c accepted.ports is gate

-- the text of a netlist whose Input cells are inputs
pub text_is : (net : Netlist) (nets : List PortNet) (name table text : List ℕ) → AreFed (port_nets net.ports) net.cells → nets ≡ port_nets net.ports → name ≡ first_name net.ports
    → length table ≡ length net.cells → LeadsToFeeds nets (length nets) table → text ≡ module_lines name nets table net.cells
    → IsVerilogOf net text
text_is net nets name table text fed_all are named long leads is = (
  driven nets table 0 net.cells,
  subst (λ (list : List PortNet). AreDrivers IsItsNet list 0 net.cells (driven nets table 0 net.cells)) are
      (drivers_from nets table net.cells 0
      (λ j c is gate.
      let fed = fed_all j c is gate in
      let here : FeedsAt nets fed.0 j = subst (λ (list : List PortNet). FeedsAt list fed.0 j) (sym are) fed.1 in
      let e : j ≡ 0 + j = omega arith in
      subst (λ (n : ℕ). FeedsAt nets (get_or table n 0) n) e
      (leads fed.0 j (slice_get_within nets fed.0 here.0 here.1) (omega (arith, long, slice_get_within net.cells j c is)) here))),
  is
      ∙ (λ i.
      module_head (named i) (are i) ++ clock_declarations ++ flat_map port_declaration (are i) ++ cell_declarations 0 net.cells
      ++ driven nets table 0 net.cells
      ++ (flat_map output_assignment (are i) ++ codes "endmodule\n")),
)
