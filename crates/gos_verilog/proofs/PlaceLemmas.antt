-- Texts of the form of a netlist's, and where what begins like one breaks off.
use Rattle.std.proofs.Common.{◌≡◌, ℕ, suc, ◌+◌, ◌<◌, List, [], ◌∷◌, ◌++◌, length, Some, refl, sym, ◌∙◌, ap, subst, arith, append_assoc, slice_get, codes}
use Rattle.std.specs.List.{AllByRecursion}
use Rattle.std.proofs.lemmas.Option.{slice_get_within}
use Rattle.gos_lex.specs.Names.{IsNameOrWord}
use Rattle.gos_lex.specs.Items.{TextAt, Misses}
use Rattle.gos_lex.proofs.ItemLemmas.{breaks_off_once, word_misses}
use Rattle.gos_types.specs.Types.{Com}
use Rattle.gos_netlist.specs.Nets.{Input, Cell, Take, NetPort, Netlist}
use Rattle.gos_netlist.specs.Writable.{IsWritablePort}
use Rattle.gos_lex.specs.ItemTexts.{ended}
use Rattle.gos_lex.proofs.SequenceLemmas.{Then, misses_as, then_first}
use Rattle.gos_netcheck.specs.Rules.{Kept}
use Rattle.gos_verilog.specs.PortNets.{PortNet, port_nets}
use Rattle.gos_verilog.specs.VerilogText.{first_name, declarations, outputs, AreDrivers, IsItsNet}
use Rattle.gos_verilog.specs.Readable.{IsInputCell}
use Rattle.gos_verilog.specs.Place.{IsOfItsBits, IsFormed, IsFormedText, IsPlace, ReadIsFormed, HasOnePlace}
use Rattle.gos_verilog.specs.inner.Stages.{IsStart, start_text}
use Rattle.gos_verilog.proofs.DeclarationLemmas.{listed}
use Rattle.gos_verilog.proofs.OneTextLemmas.{behind_head, text_parts}
use Rattle.gos_verilog.proofs.StartLemmas.{no_first_word}

-- a text has one place
pub one_place : HasOnePlace
one_place text at other = breaks_off_once IsFormedText text 0 at other

-- the lines that drive cells' nets, where each input is an Input cell
drivers_formed : (all : List Cell) (nets : List PortNet) → Kept (λ _ n. IsInputCell all n) nets → (i : ℕ) (cells : List Cell) (lines : List ℕ)
    → ((j : ℕ) (c : Cell) → slice_get cells j ≡ Some c → slice_get all (i + j) ≡ Some c) → AreDrivers IsItsNet nets i cells lines → AreDrivers IsOfItsBits nets i cells lines
drivers_formed all nets inputs i [] lines here are = are
drivers_formed all nets inputs i (c ∷ cells) lines here are = (
  are.0,
  are.1,
  λ gate.
      let fed = are.2 gate in
      let e : i + 0 ≡ i = omega arith in
      let there : slice_get all i ≡ Some c = subst (λ (n : ℕ). slice_get all n ≡ Some c) e (here 0 c refl) in
      let found : slice_get all i ≡ Some (record { width = fed.1.width; gate = Input }) = subst (λ (n : ℕ). slice_get all n ≡ Some (record { width = fed.1.width; gate = Input })) fed.4 (inputs fed.0 fed.1 fed.2 fed.3) in
      let both : Some (record { width = fed.1.width; gate = Input }) ≡ Some c = sym found ∙ there in
      let same : record { width = fed.1.width; gate = Input } ≡ c = cc both in
      (fed.0, fed.1, fed.2, fed.3, ap (λ (d : Cell). d.width) same, fed.5),
  drivers_formed all nets inputs (suc i) cells are.1
      (λ j d is. let e : i + suc j ≡ suc i + j = omega arith in subst (λ (n : ℕ). slice_get all n ≡ Some d) e (here (suc j) d is)) are.3,
  are.4,
)

pub read_is_formed : ReadIsFormed
read_is_formed text net (readable, (drivers, are, is)) = (
  net,
  record { writable = readable.writable; some = readable.some; names = readable.names },
  (
    drivers,
    drivers_formed net.cells (port_nets net.ports) readable.inputs 0 net.cells drivers (λ j c at. let e : j ≡ 0 + j = omega arith in subst (λ (n : ℕ). slice_get net.cells n ≡ Some c) e at) are,
    is,
  ),
)

-- a netlist of one port of this name and of no cell
simple_port : List ℕ → NetPort
simple_port name = record { name = name; side = Take; ty = Com; nets = 0 ∷ 0 ∷ [] }

simple : List ℕ → Netlist
simple name = record { cells = []; ports = simple_port name ∷ [] }

simple_formed : (name : List ℕ) → IsNameOrWord name → IsFormed (simple name)
unfolding simple simple_port
simple_formed name is =
    record {
      writable = record {
        cells = tt;
        cell_count = omega arith;
        ports = (record { name = is; ty = tt; many = refl; nets = (omega arith, (omega arith, tt)) }, tt);
        port_count = omega arith;
      };
      some = omega arith;
      names = λ k p at j q before at_q. absurd (omega (arith, before, slice_get_within (simple_port name ∷ []) k p at));
    }

simple_drivers : (name : List ℕ) → AreDrivers IsOfItsBits (port_nets (simple name).ports) 0 (simple name).cells []
unfolding simple
simple_drivers name = refl

simple_first : (name : List ℕ) → first_name (simple name).ports ≡ name
unfolding simple simple_port
simple_first name = refl

-- the start, and what stands behind it
pub start_is : (name rest : List ℕ) → codes "module gos_" ++ (name ++ (codes "(clk, rst" ++ rest)) ≡ start_text name ++ rest
start_is name rest =
    ap (λ more. codes "module gos_" ++ more) (sym (append_assoc name (40 ∷ []) (codes "clk, rst" ++ rest)) ∙ sym (append_assoc (ended 40 name) (codes "clk, rst") rest))

behind_start : Netlist → List ℕ → List ℕ
behind_start net drivers = listed (port_nets net.ports) ++ (codes ");\n" ++ behind_head (port_nets net.ports) net.cells drivers (outputs net))

net_start : (net : Netlist) (drivers : List ℕ) → declarations net ++ drivers ++ outputs net ≡ start_text (first_name net.ports) ++ behind_start net drivers
unfolding behind_start
net_start net drivers = text_parts net drivers ∙ start_is (first_name net.ports) (listed (port_nets net.ports) ++ (codes ");\n" ++ behind_head (port_nets net.ports) net.cells drivers (outputs net)))

-- each start is one of a text
some_text : (name : List ℕ) → IsNameOrWord name → (rest : List ℕ) × IsFormedText (start_text name ++ rest)
some_text name is =
    let net : Netlist = simple name in
    let whole : IsFormedText (declarations net ++ [] ++ outputs net) = (net, simple_formed name is, ([], simple_drivers name, refl)) in
    let started : IsFormedText (start_text (first_name net.ports) ++ behind_start net []) = subst IsFormedText (net_start net []) whole in
    (behind_start net [], subst (λ (first : List ℕ). IsFormedText (start_text first ++ behind_start net [])) (simple_first name) started)

first_named : (ps : List NetPort) → 0 < length ps → AllByRecursion IsWritablePort ps → IsNameOrWord (first_name ps)
first_named [] some all = absurd (omega (arith, some))
first_named (p ∷ ps) some all = all.0.name

starts_so : (text : List ℕ) → IsFormedText text → (name rest : List ℕ) × IsNameOrWord name × (text ≡ start_text name ++ rest)
starts_so text (net, formed, (drivers, are, is)) = (first_name net.ports, behind_start net drivers, first_named net.ports formed.some formed.writable.ports, is ∙ net_start net drivers)

-- where the start breaks off, the text does
pub start_misses : (text : List ℕ) (at : ℕ) → Misses IsStart text 0 at → Misses IsFormedText text 0 at
start_misses text at misses =
    misses_as Parts IsFormedText text 0 at joined cut
    (then_first (List ℕ) IsNameOrWord start_text (λ name rest. IsFormedText (start_text name ++ rest)) text 0 at some_text misses)
  where
    Parts : List ℕ → Type 0
    Parts = Then (List ℕ) IsNameOrWord start_text (λ name rest. IsFormedText (start_text name ++ rest))

    joined : (bytes : List ℕ) → Parts bytes → IsFormedText bytes
    joined bytes (name, rest, is, formed, whole) = subst IsFormedText (sym whole) formed

    cut : (bytes : List ℕ) → IsFormedText bytes → Parts bytes
    cut bytes formed = let known = starts_so bytes formed in (known.0, known.1, known.2, subst IsFormedText known.3 formed, known.3)

pub start_place : (text : List ℕ) (at : ℕ) → Misses IsStart text 0 at → IsPlace text at
start_place text at misses = (start_misses text at misses).stops

-- a cursor at the start
pub start_at : (cursor : TextAt) (text : List ℕ) → cursor.text ≡ text → cursor.at ≡ 0 → cursor ≡ record { text = text; at = 0 }
start_at cursor text same at = λ i. record { text = same i; at = at i }

-- "modul x" breaks off at its blank
pub blank_is_place : IsPlace (codes "modul x") 5
blank_is_place =
    start_place (codes "modul x") 5
    (no_first_word (codes "modul x") 0 5
    (word_misses (codes "modul x") 0 (codes "module gos_") 5 (omega arith) (omega arith) refl (λ some same. let byte : 32 ≡ 101 = same in omega (arith, byte))))

pub earlier_is_none : IsPlace (codes "modul x") 4 → ⊥
earlier_is_none place = let same : 4 ≡ 5 = one_place (codes "modul x") 4 5 place blank_is_place in omega (arith, same)
