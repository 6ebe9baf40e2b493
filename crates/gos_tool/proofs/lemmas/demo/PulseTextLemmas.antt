-- What the demo's pulse file says, for every circuit with the demo's ports.
use Rattle.std.proofs.Common.{◌≡◌, ◌≤◌, ◌<◌, ◌∙◌, ◌+◌, ◌/◌, ◌%◌, ℕ, zero, suc, true, false, List, [], ◌∷◌, ◌++◌, length, None, slice_get, refl, ap, sym, subst, arith}
use Rattle.std.specs.Prelude.{codes, IsTrue}
use Rattle.std.specs.Fmt.{decimal}
use Rattle.std.proofs.lemmas.Fmt.{decimal_digit, decimal_step}
use Rattle.gos_lex.specs.Names.{spells_name, IsNameOrWord}
use Rattle.gos_lex.specs.Numerals.{is_numeral, value_of}
use Rattle.gos_types.specs.Types.{Com}
use Rattle.gos_lex.specs.Lines.{Word, Words, Statement, statements_of}
use Rattle.gos_netlist.specs.declared.event.Event.{Event}
use Rattle.gos_netlist.specs.Nets.{Side, Give, Take, NetPort, Netlist}
use Rattle.gos_netlist.specs.Events.{port_events, events_from, events_of}
use Rattle.gos_types.specs.Events.{events}
use Rattle.gos_pulse.specs.EventNames.{event_word, dotted, name_of, IsInput}
use Rattle.gos_pulse.specs.Entries.{IsEntry, IsValue}
use Rattle.gos_pulse.specs.PulseFile.{ReadsEntries, SaysPulses, IsPulseFile}
use Rattle.gos_pulse.specs.declared.entries.Entry.{Entry}
use Rattle.gos_tool.specs.demo.DemoFiles.{IsLevelCount, line, cycles_of, pulse_file}

-- five digits
abbrev digits : ℕ → List ℕ
digits n =
    (48 + n / 10 / 10 / 10 / 10) ∷ (48 + n / 10 / 10 / 10 % 10) ∷ (48 + n / 10 / 10 % 10) ∷ (48 + n / 10 % 10) ∷ (48 + n % 10) ∷ []

five_digits : (n : ℕ) → 10000 ≤ n → n < 100000 → decimal n ≡ digits n
five_digits n large small =
    let a : ℕ = n / 10 in
    let b : ℕ = a / 10 in
    let c : ℕ = b / 10 in
    let d : ℕ = c / 10 in
    let first : decimal d ≡ (48 + d) ∷ [] = decimal_digit d (omega (arith, small)) in
    let second : decimal c ≡ (48 + d) ∷ (48 + c % 10) ∷ [] =
    decimal_step c (omega (arith, large)) (omega (arith, small)) ∙ ap (λ (ds : List ℕ). ds ++ (48 + c % 10) ∷ []) first in
    let third : decimal b ≡ (48 + d) ∷ (48 + c % 10) ∷ (48 + b % 10) ∷ [] =
    decimal_step b (omega (arith, large)) (omega (arith, small)) ∙ ap (λ (ds : List ℕ). ds ++ (48 + b % 10) ∷ []) second in
    let fourth : decimal a ≡ (48 + d) ∷ (48 + c % 10) ∷ (48 + b % 10) ∷ (48 + a % 10) ∷ [] =
    decimal_step a (omega (arith, large)) (omega (arith, small)) ∙ ap (λ (ds : List ℕ). ds ++ (48 + a % 10) ∷ []) third in
    decimal_step n (omega (arith, large)) (omega (arith, small)) ∙ ap (λ (ds : List ℕ). ds ++ (48 + n % 10) ∷ []) fourth

-- the text, with these
abbrev plain_pulses : ℕ → List ℕ
plain_pulses levels =
    line (codes "cycles " ++ digits (cycles_of levels)) ++ (line (codes "next 0 main.run") ++ (line (codes "next 0 c.done") ++ line (codes "next 0 c.done")))

pulses_plain : (levels : ℕ) → IsLevelCount levels → (pulse_file levels).text ≡ plain_pulses levels
pulses_plain levels count =
    let some = count.0 in
    let few = count.1 in
    let digits_are : decimal (cycles_of levels) ≡ digits (cycles_of levels) = five_digits (cycles_of levels) (omega (arith, some)) (omega (arith, few)) in
    λ i.
    line (codes "cycles " ++ digits_are i) ++ (line (codes "next 0 main.run") ++ (line (codes "next 0 c.done") ++ line (codes "next 0 c.done")))

-- its lines
abbrev next_words : Word → Words
next_words name = codes "next" ∷ codes "0" ∷ name ∷ []

abbrev statements : ℕ → List Statement
statements levels =
    record { line = 1; words = codes "cycles" ∷ digits (cycles_of levels) ∷ [] } ∷ record { line = 2; words = next_words (codes "main.run") }
    ∷ record { line = 3; words = next_words (codes "c.done") } ∷ record { line = 4; words = next_words (codes "c.done") } ∷ []

record Tested (levels : ℕ) : Type 0 where
  short : length (plain_pulses levels) ≡ 57
  says : statements_of (plain_pulses levels) ≡ statements levels
  numeral : is_numeral (digits (cycles_of levels)) ≡ true
  value : value_of (digits (cycles_of levels)) ≡ cycles_of levels

tested : (k : ℕ) → k ≤ 11 → Tested (suc k)
tested zero few = record { short = refl; says = refl; numeral = refl; value = refl }
tested (suc zero) few = record { short = refl; says = refl; numeral = refl; value = refl }
tested (suc (suc zero)) few = record { short = refl; says = refl; numeral = refl; value = refl }
tested (suc (suc (suc zero))) few = record { short = refl; says = refl; numeral = refl; value = refl }
tested (suc (suc (suc (suc zero)))) few = record { short = refl; says = refl; numeral = refl; value = refl }
tested (suc (suc (suc (suc (suc zero))))) few = record { short = refl; says = refl; numeral = refl; value = refl }
tested (suc (suc (suc (suc (suc (suc zero)))))) few = record { short = refl; says = refl; numeral = refl; value = refl }
tested (suc (suc (suc (suc (suc (suc (suc zero))))))) few = record { short = refl; says = refl; numeral = refl; value = refl }
tested (suc (suc (suc (suc (suc (suc (suc (suc zero)))))))) few = record { short = refl; says = refl; numeral = refl; value = refl }
tested (suc (suc (suc (suc (suc (suc (suc (suc (suc zero))))))))) few = record { short = refl; says = refl; numeral = refl; value = refl }
tested (suc (suc (suc (suc (suc (suc (suc (suc (suc (suc zero)))))))))) few = record { short = refl; says = refl; numeral = refl; value = refl }
tested (suc (suc (suc (suc (suc (suc (suc (suc (suc (suc (suc zero))))))))))) few = record { short = refl; says = refl; numeral = refl; value = refl }
tested (suc (suc (suc (suc (suc (suc (suc (suc (suc (suc (suc (suc k)))))))))))) few = absurd (omega (arith, few))

-- a port of this name and side, at which a command is given or taken
pub record IsCommandPort (p : NetPort) (name : List ℕ) (side : Side) : Type 0 where
  pub named : p.name ≡ name
  pub sided : p.side ≡ side
  pub typed : p.ty ≡ Com

-- the demo's ports: the root gives a command, and `c` takes one
pub record HasPorts (net : Netlist) : Type 0 where
  pub main : NetPort
  pub c : NetPort
  pub are : net.ports ≡ main ∷ c ∷ []
  pub is_main : IsCommandPort main (codes "main") Give
  pub is_c : IsCommandPort c (codes "c") Take

-- its inputs
abbrev run_main : Event
run_main = record { port = 0; place = 0; input = true; bits = 0 }

abbrev done_c : Event
done_c = record { port = 1; place = 1; input = true; bits = 0 }

abbrev demo_events : List Event
demo_events = run_main ∷ record { port = 0; place = 1; input = false; bits = 0 } ∷ record { port = 1; place = 0; input = false; bits = 0 } ∷ done_c ∷ []

events_are : (net : Netlist) → HasPorts net → events_of net ≡ demo_events
events_are net has =
    let main : NetPort = has.main in
    let c : NetPort = has.c in
    ap (λ (ports : List NetPort). events_from 0 ports) has.are
    ∙ (λ i. port_events 0 (has.is_main.sided i) 0 (events (has.is_main.typed i)) ++ (port_events 1 (has.is_c.sided i) 0 (events (has.is_c.typed i)) ++ []))

main_input : (net : Netlist) → HasPorts net → IsInput net 0 run_main (codes "main.run")
main_input net has =
    record {
      there = ap (λ (es : List Event). slice_get es 0) (events_are net has);
      input = refl;
      named =
          ap (λ (ports : List NetPort). name_of ports run_main) has.are ∙ (λ i. dotted (has.is_main.named i) (event_word (has.is_main.typed i) 0));
    }

c_input : (net : Netlist) → HasPorts net → IsInput net 3 done_c (codes "c.done")
c_input net has =
    record {
      there = ap (λ (es : List Event). slice_get es 3) (events_are net has);
      input = refl;
      named = ap (λ (ports : List NetPort). name_of ports done_c) has.are ∙ (λ i. dotted (has.is_c.named i) (event_word (has.is_c.typed i) 1));
    }

-- the entries
abbrev next_of : ℕ → Entry
next_of event = record { at = false; number = 0; event = event; value = 0 }

abbrev pub entries : List Entry
entries = next_of 0 ∷ next_of 3 ∷ next_of 3 ∷ []

is_next : (net : Netlist) (cycles before i : ℕ) (event : Event) (port word : Word) → before < 100000 → event.bits ≡ 0 → IsNameOrWord port → IsNameOrWord word
    → IsInput net i event (dotted port word) → IsEntry net cycles before (next_words (dotted port word)) (next_of i)
is_next net cycles before i event port word few bits is_port is_word input =
    record {
      name = dotted port word;
      value = None;
      event = event;
      says =
          record {
            digits = codes "0";
            last = None;
            line = refl;
            number = (refl, refl, omega arith);
            name = (port, word, refl, is_port, is_word);
            value = tt;
          };
      within = (few, omega arith);
      input = input;
      fits = subst (λ (n : ℕ). IsValue n None 0) (sym bits) refl;
    }

name_is : (name : Word) → IsTrue (spells_name name) → length name ≤ 255 → IsNameOrWord name
name_is name spelled short = record { spelled = spelled; short = short }

entries_read : (net : Netlist) (cycles : ℕ) → HasPorts net
    → ReadsEntries net cycles 0
    (record { line = 2; words = next_words (codes "main.run") } ∷ record { line = 3; words = next_words (codes "c.done") } ∷ record { line = 4; words = next_words (codes "c.done") } ∷ [])
    entries None
entries_read net cycles has =
    let c_named = name_is (codes "c") refl (omega arith) in
    let done_named = name_is (codes "done") refl (omega arith) in (
      is_next net cycles 0 0 run_main (codes "main") (codes "run") (omega arith) refl (name_is (codes "main") refl (omega arith)) (name_is (codes "run") refl (omega arith)) (main_input net has),
      (
        is_next net cycles 1 3 done_c (codes "c") (codes "done") (omega arith) refl c_named done_named (c_input net has),
        (
          is_next net cycles 2 3 done_c (codes "c") (codes "done") (omega arith) refl c_named done_named (c_input net has),
          refl,
        ),
      ),
    )

plain_file : (k : ℕ) (net : Netlist) → k ≤ 11 → HasPorts net → Tested (suc k) → IsPulseFile net (plain_pulses (suc k)) (cycles_of (suc k)) entries
plain_file k net few has t =
    let size = t.short in
    record {
      short = omega (arith, size);
      says =
          subst (λ (ss : List Statement). SaysPulses net ss (cycles_of (suc k)) entries) (sym t.says)
          ((digits (cycles_of (suc k)), refl, (t.numeral, t.value, omega (arith, few))), (omega arith, omega (arith, few)), entries_read net (cycles_of (suc k)) has);
    }

-- the file says these entries, of which none is an `at` entry
pub is_pulse_file : (levels : ℕ) (net : Netlist) → IsLevelCount levels → HasPorts net → IsPulseFile net (pulse_file levels).text (cycles_of levels) entries
is_pulse_file zero net count has = let some = count.0 in absurd (omega (arith, some))
is_pulse_file (suc k) net count has =
    let few = count.1 in
    subst (λ (text : List ℕ). IsPulseFile net text (cycles_of (suc k)) entries) (sym (pulses_plain (suc k) count))
    (plain_file k net (omega (arith, few)) has (tested k (omega (arith, few))))
