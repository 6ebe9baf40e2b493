-- What is left of a netlist whose cells are merged is the netlist, reduced.
use Rattle.std.specs.Prelude.{◌≡◌, ◌⊎◌, ℕ, zero, suc, ◌<◌, Bool, List, [], ◌∷◌, length, map, Some, None, slice_get, get_or, Contains}
use Rattle.std.proofs.Common.{arith, refl, sym, ap, subst, inl, inr, ◌∙◌}
use Rattle.std.proofs.lemmas.List.Elements.{Contains-append_cases}
use Rattle.std.proofs.lemmas.Option.{same_Some, slice_get-get_or, slice_get_within}
use Rattle.gos_netlist.specs.declared.nets.Cell as declared
use Rattle.gos_netlist.specs.Nets.{Const, Side, Cell, NetPort, Netlist, pins}
use Rattle.gos_netlist.specs.Seen.{cell_of}
use Rattle.gos_netlist.specs.Settling.{at, shown}
use Rattle.gos_types.specs.Types.{Type'}
use Rattle.gos_netcheck.specs.Rules.{Kept}
use Rattle.gos_netcheck.specs.CellRules.{PinsExist, NetsExist}
use Rattle.gos_netcheck.specs.PortRules.{places, FitsAt}
use Rattle.gos_netcheck.specs.Accepted.{IsAccepted}
use Rattle.gos_tidy.specs.Ends.{with_nets}
use Rattle.gos_tidy.specs.Mapped.{renamed, IsConst}
use Rattle.gos_tidy.specs.Reduced.{Stays, IsQuotient, IsReduced}
use Rattle.gos_tidy.specs.inner.Marks.{IsMarked, AreMarks}
use Rattle.gos_tidy.specs.Tidy.{AllLead}
use Rattle.gos_tidy.specs.inner.Places.{AreNumbers, ArePlaced, port_nets}
use Rattle.gos_tidy.proofs.ReadLemmas.{contains_map, closed_const}
use Rattle.gos_tidy.proofs.MarkLemmas.{each_below}
use Rattle.gos_tidy.proofs.PartLemmas.{IsLeft, left_part, left_leads, back, low_number, pins_below}
use Rattle.gos_tidy.proofs.PortLemmas.{back_ports, ports_below, port_nets_moved, map_twice}

-- merged cells name cells that are there
pub quotient_nets : (cells others : List Cell) (f : ℕ → ℕ) (roots : List ℕ) → IsQuotient cells others f roots → NetsExist cells → NetsExist others
quotient_nets cells others f roots q nets i e is =
    let inside = slice_get_within others i e is in
    let each = q.each in
    let root = slice_get-get_or roots i 0 (omega (arith, inside, each)) in
    let (goes, c, there, stays) = q.stays i (get_or roots i 0) root in
    by_case (get_or roots i 0) c goes there stays
  where
    below : (m : ℕ) (c : Cell) → slice_get cells m ≡ Some c → (a : ℕ) → Contains (pins c.gate) a → f a < length others
    below m c there a (k, inside, named) =
        let low = each_below (length cells) (pins c.gate) (nets m c there) k a inside in
        let net : a < length cells = subst (λ (x : ℕ). x < length cells) named low in
        let at_a = slice_get-get_or cells a c net in
        let (d, at_d, wide) = q.widths a (get_or cells a c) at_a in
        slice_get_within others (f a) d at_d

    by_const : (m k : ℕ) → f m ≡ i → IsConst others (f m) k → PinsExist (length others) e
    by_const m k goes (w, const) =
        let same : record { width = w; gate = Const k } ≡ e = same_Some (record { width = w; gate = Const k }) e (sym const ∙ ap (slice_get others) goes ∙ is) in
        subst (λ (x : Cell). PinsExist (length others) x) same tt

    by_case : (m : ℕ) (c : Cell) → f m ≡ i → slice_get cells m ≡ Some c → Stays others f m c → PinsExist (length others) e
    by_case m c goes there (inl kept) =
        let same : record { width = c.width; gate = renamed f c.gate } ≡ e = same_Some (record { width = c.width; gate = renamed f c.gate }) e (sym kept ∙ ap (slice_get others) goes ∙ is) in
        subst (λ (x : Cell). PinsExist (length others) x) same (pins_below f (length others) c.gate (below m c there))
    by_case m c goes there (inr (inl (v, consts, shows))) = by_const m (shown c.width c.gate 0 0 v) goes (shows 0 0)
    by_case m c goes there (inr (inr closed)) = by_const m 0 goes (closed_const others f m c.gate closed)

-- a net that fits its place is there
fits_there : (cells : List Cell) (side : Side) (ty : Type') (i n : ℕ) → FitsAt cells (slice_get (places side ty) i) n → (c : Cell) × (slice_get cells n ≡ Some c)
fits_there cells side ty i n =
    elim (slice_get (places side ty) i) as (λ o. FitsAt cells o n → (c : Cell) × (slice_get cells n ≡ Some c)) [
      | None ↦ λ h. absurd h
      | Some q ↦ λ h. (h.0, h.1)
    ]

-- the nets of right ports are there
nets_in : (cells : List Cell) (ports : List NetPort) → ((k : ℕ) (p : NetPort) → slice_get ports k ≡ Some p → (i n : ℕ) → slice_get p.nets i ≡ Some n → (c : Cell) × (slice_get cells n ≡ Some c))
    → (n : ℕ) → Contains (port_nets ports) n → (c : Cell) × (slice_get cells n ≡ Some c)
nets_in cells [] h n there = absurd (omega (arith, there.1))
nets_in cells (q ∷ ports) h n there =
    by_part (nets_in cells ports (λ k p is. h (suc k) p is) n) (Contains-append_cases q.nets (port_nets ports) n there)
  where
    by_part : (Contains (port_nets ports) n → (c : Cell) × (slice_get cells n ≡ Some c)) → Contains q.nets n ⊎ Contains (port_nets ports) n
        → (c : Cell) × (slice_get cells n ≡ Some c)
    by_part rest (inl (i, inside, is)) = h 0 q refl i n (slice_get-get_or q.nets i n inside ∙ ap Some is)
    by_part rest (inr later) = rest later

pub port_net_there : (net : Netlist) → IsAccepted net → (n : ℕ) → Contains (port_nets net.ports) n → (c : Cell) × (slice_get net.cells n ≡ Some c)
port_net_there net accepted =
    nets_in net.cells net.ports (λ k p is i n at_i. fits_there net.cells p.side p.ty i n ((accepted.ports.each k p is).nets.1 i n at_i))

-- the ends of a netlist whose cells are merged are nets of the merged ones
pub ends_low : (net : Netlist) (merged : List Cell) (f : ℕ → ℕ) (roots : List ℕ) → IsAccepted net → IsQuotient net.cells merged f roots
    → (n : ℕ) → Contains (port_nets net.ports) n → f n < length merged
ends_low net merged f roots accepted q n there =
    let (c, is) = port_net_there net accepted n there in
    let (d, at_d, wide) = q.widths n c is in
    slice_get_within merged (f n) d at_d

pub all_low : (f : ℕ → ℕ) (count : ℕ) (xs : List ℕ) → ((n : ℕ) → Contains xs n → f n < count) → (k d : ℕ) → k < length (map f xs) → get_or (map f xs) k d < count
all_low f count [] h k d l = absurd (omega (arith, l))
all_low f count (x ∷ xs) h zero d l = h x (0, omega arith, refl)
all_low f count (x ∷ xs) h (suc k) d l = all_low f count xs (λ n (i, inside, is). h n (suc i, omega (arith, inside), is)) k d (omega (arith, l))

-- where nets go in the end
abbrev pub moved : List ℕ → List ℕ → ℕ → ℕ
moved targets numbers n = at numbers (at targets n)

marked_end : (net : Netlist) (merged : List Cell) (targets : List ℕ) (marks : List Bool) (numbers places : List ℕ) (others : List Cell)
    → IsLeft merged (map (at targets) (port_nets net.ports)) marks numbers places others
    → (n : ℕ) → Contains (port_nets net.ports) n → IsMarked marks (at targets n)
marked_end net merged targets marks numbers places others l n there =
    let (i, inside, is) = contains_map (at targets) (port_nets net.ports) n there in
    l.marked.at_ends i (at targets n) (slice_get-get_or (map (at targets) (port_nets net.ports)) i (at targets n) inside ∙ ap Some is)

pub left_reduced : (net : Netlist) (merged : List Cell) (targets roots : List ℕ) (marks : List Bool) (numbers places : List ℕ) (others : List Cell) (ports : List NetPort)
    → IsQuotient net.cells merged (at targets) roots → IsLeft merged (map (at targets) (port_nets net.ports)) marks numbers places others
    → ports ≡ map (with_nets (moved targets numbers)) net.ports
    → IsReduced net (record { cells = others; ports = ports })
left_reduced net merged targets roots marks numbers places others ports q l same = record {
  merged = merged;
  roots = roots;
  merging = at targets;
  placing = at places;
  quotient = q;
  part = left_part merged ends marks numbers places others l;
  ports = ap (map (with_nets (at places))) same
      ∙ back_ports (moved targets numbers) (at places) (at targets) net.ports (λ n there. back merged ends marks numbers places others l (at targets n) (mark n there));
  ends = subst (λ (ps : List NetPort). Kept (λ _ p. Kept (λ _ n. n < length others) p.nets) ps) (sym same)
      (ports_below (moved targets numbers) (length others) net.ports (λ n there. low_number merged ends marks numbers places others l (at targets n) (mark n there)));
}
  where
    ends : List ℕ
    ends = map (at targets) (port_nets net.ports)

    mark : (n : ℕ) → Contains (port_nets net.ports) n → IsMarked marks (at targets n)
    mark = marked_end net merged targets marks numbers places others l

pub left_lead : (net : Netlist) (merged : List Cell) (targets : List ℕ) (marks : List Bool) (numbers places : List ℕ) (others : List Cell) (ports : List NetPort)
    → IsLeft merged (map (at targets) (port_nets net.ports)) marks numbers places others → ports ≡ map (with_nets (moved targets numbers)) net.ports
    → AllLead others (port_nets ports)
left_lead net merged targets marks numbers places others ports l same =
    let ends : map (at numbers) (map (at targets) (port_nets net.ports)) ≡ port_nets ports =
    map_twice (at targets) (at numbers) (port_nets net.ports) ∙ sym (port_nets_moved (moved targets numbers) net.ports) ∙ ap port_nets (sym same) in
    subst (λ (es : List ℕ). AllLead others es) ends (left_leads merged (map (at targets) (port_nets net.ports)) marks numbers places others l)

-- the same, as the program has it
pub ends_are : (ends seen : List ℕ) (targets read : List ℕ) (ports inside lent : List NetPort) → seen ≡ ends → ends ≡ map (at read) (port_nets lent) → read ≡ targets
    → lent ≡ inside → ports ≡ inside → seen ≡ map (at targets) (port_nets ports)
ends_are ends seen targets read ports inside lent same are reads lends views =
    same ∙ are ∙ ap (λ (ts : List ℕ). map (at ts) (port_nets lent)) reads
    ∙ ap (λ (ps : List NetPort). map (at targets) (port_nets ps)) (lends ∙ sym views)

pub ports_are : (out : List NetPort) (numbers named targets read : List ℕ) (ports inside lent : List NetPort)
    → out ≡ map (with_nets (λ n. at named (at read n))) lent → named ≡ numbers → read ≡ targets → lent ≡ inside → ports ≡ inside
    → out ≡ map (with_nets (moved targets numbers)) ports
ports_are out numbers named targets read ports inside lent are names reads lends views =
    are ∙ ap (λ (ns : List ℕ). map (with_nets (λ n. at ns (at read n))) lent) names
    ∙ ap (λ (ts : List ℕ). map (with_nets (λ n. at numbers (at ts n))) lent) reads
    ∙ ap (map (with_nets (moved targets numbers))) (lends ∙ sym views)

pub is_left : (merged first second : List declared.Cell) (ends seen : List ℕ) (marks lent : List Bool) (numbers named places placed : List ℕ) (others : List Cell)
    → first ≡ merged → second ≡ merged → seen ≡ ends → lent ≡ marks → named ≡ numbers → placed ≡ places
    → AreMarks (map cell_of first) seen marks → AreNumbers lent (length lent) numbers places → ArePlaced (map cell_of second) others named placed (length placed)
    → IsLeft (map cell_of merged) ends marks numbers places others
is_left merged first second ends seen marks lent numbers named places placed others a b e m n p marked numbered put = record {
  marked = subst (λ (x : List declared.Cell). AreMarks (map cell_of x) ends marks) a (subst (λ (x : List ℕ). AreMarks (map cell_of first) x marks) e marked);
  numbered = subst (λ (x : List Bool). AreNumbers x (length x) numbers places) m numbered;
  placed = subst (λ (x : List declared.Cell). ArePlaced (map cell_of x) others numbers places (length places)) b
      (subst (λ (x : List ℕ). ArePlaced (map cell_of second) others x places (length places)) n
      (subst (λ (x : List ℕ). ArePlaced (map cell_of second) others named x (length x)) p put));
}
