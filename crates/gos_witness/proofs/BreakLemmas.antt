-- What follows the line of a label: cycles that don't fall. And where small texts break off, whose cycles do.
use Rattle.std.proofs.Common.{◌≡◌, ℕ, zero, suc, ◌≤◌, List, [], ◌∷◌, ◌++◌, get_or, refl, sym, ◌∙◌, ap, subst, arith, append_assoc, append-nil}
use Rattle.std.specs.Prelude.{codes}
use Rattle.std.specs.Fmt.{decimal, digits}
use Rattle.std.proofs.lemmas.Option.{slice_get_within}
use Rattle.gos_types.specs.Types.{Type', Com}
use Rattle.gos_lex.specs.Items.{StopsAt}
use Rattle.gos_lex.specs.ItemTexts.{ended}
use Rattle.gos_lex.specs.Names.{IsNameOrWord}
use Rattle.gos_lex.proofs.NumberTextLemmas.{number_code}
use Rattle.gos_netlist.specs.NetText.{line}
use Rattle.gos_netlist.specs.Writable.{IsPortType}
use Rattle.gos_witness.specs.declared.entry.Entry.{Entry}
use Rattle.gos_witness.specs.declared.entry.Entry.TheVariants.{Pulse, Last}
use Rattle.gos_witness.specs.declared.labels.Label.{Label}
use Rattle.gos_witness.specs.declared.program.ProgramPort.{ProgramPort}
use Rattle.gos_witness.specs.Ports.{AreOfPorts, ArePorts, AreApart}
use Rattle.gos_witness.specs.SmallTexts.{SmallTraceBreaks, IsPort}
use Rattle.gos_witness.specs.TraceText.{HasEvent, event_text, label_text, IsLabel, label_line, LinesText, IsTraceFrom, IsTraceText, IsTraceTextOf}
use Rattle.gos_witness.proofs.TraceLemmas.{entry_code}

-- The labels of a text are of its ports.

lines_of_ports : (ports : List ProgramPort) (labels : List Label) (from n : ℕ) (text : List ℕ) → LinesText ports from n labels text → AreOfPorts ports labels
lines_of_ports ports [] from n text is = tt
lines_of_ports ports (o ∷ labels) from n text (t, rest, later, under, (p, there, has), lines, whole) =
    (slice_get_within ports o.port p there, lines_of_ports ports labels t n rest lines)

pub labels_of_ports : (ports : List ProgramPort) (labels : List Label) (text : List ℕ) → IsTraceTextOf ports text labels → AreOfPorts ports labels
labels_of_ports ports labels text (n, above, below, lines) = lines_of_ports ports labels 0 n text lines

-- Behind the line of a label.

abbrev number_of : Entry → ℕ
number_of (Pulse t o) = t
number_of (Last n) = n

-- cycles go on with that of the label
behind_line : (ports : List ProgramPort) → ArePorts ports → (from t : ℕ) (o : Label) (labels : List Label) (more : List ℕ) → from ≤ t → t ≤ 999999 → IsLabel ports o
    → IsTraceFrom ports from labels (label_line ports t o ++ more) → (rest : List Label) × IsTraceFrom ports t rest more
behind_line ports are from t o [] more later small is (n, above, below, same) =
    let last = line (codes "cycles " ++ decimal n) in
    let known = entry_code ports from are.named are (Pulse t o) (Last n) more [] (later, small, is) (above, below) (same ∙ sym (append-nil last)) in
    absurd (cc (known.0))
behind_line ports are from t o (q ∷ labels) more later small is (n, above, below, (u, rest, after, under, is_q, lines, whole)) =
    let known = entry_code ports from are.named are (Pulse t o) (Pulse u q) more rest (later, small, is) (after, omega (arith, under, below), is_q) whole in
    let cycle : t ≡ u = ap number_of known.0 in
    let here = subst (λ (k : ℕ). LinesText ports k n labels rest) (sym cycle) lines in
    (labels, (n, omega (arith, cycle, under), below, subst (λ (bytes : List ℕ). LinesText ports t n labels bytes) (sym known.1) here))

abbrev cycle_text : ℕ → List ℕ
cycle_text t = ended 32 (decimal t)

line_parts : (ports : List ProgramPort) (t : ℕ) (o : Label) (rest : List ℕ) → label_line ports t o ++ rest ≡ cycle_text t ++ (line (label_text ports o) ++ rest)
line_parts ports t o rest =
    ap (λ bytes. bytes ++ rest) (append_assoc (decimal t ++ codes " ") (label_text ports o) (10 ∷ [])) ∙ append_assoc (cycle_text t) (line (label_text ports o)) rest

abbrev first : List ℕ → ℕ
first bytes = get_or bytes 0 0

-- no cycle falls to 4
no_four : (ports : List ProgramPort) (labels : List Label) (more : List ℕ) → IsTraceFrom ports 5 labels (codes "4 " ++ more) → ⊥
unfolding digits
no_four ports [] more (n, above, below, same) =
    let letter : 52 ≡ 99 = ap first same in
    omega (arith, letter)
no_four ports (q ∷ labels) more (n, above, below, (u, rest, after, under, is, lines, whole)) =
    let known = number_code 0 999999 32 (omega arith) refl 4 u more (line (label_text ports q) ++ rest) (omega arith, omega arith) (omega arith, omega (arith, under, below))
    (whole ∙ line_parts ports u q rest) in
    omega (arith, known.0, after)

-- none has a number of six digits that begins with 8, behind cycle 999,999
no_eight : (ports : List ProgramPort) (labels : List Label) (more : List ℕ) → IsTraceFrom ports 999999 labels (codes "8" ++ more) → ⊥
unfolding digits
no_eight ports [] more (n, above, below, same) =
    let letter : 56 ≡ 99 = ap first same in
    omega (arith, letter)
no_eight ports (q ∷ labels) more (n, above, below, (u, rest, after, under, is, lines, whole)) =
    let cycle : u ≡ 999999 = omega (arith, after, under, below) in
    let here : codes "8" ++ more ≡ label_line ports 999999 q ++ rest = whole ∙ ap (λ (t : ℕ). label_line ports t q ++ rest) cycle in
    let digit : 56 ≡ 57 = ap first here in
    omega (arith, digit)

-- five cycles are too few
no_five : (ports : List ProgramPort) → ArePorts ports → (labels : List Label) (more : List ℕ) → IsTraceFrom ports 5 labels (codes "cycles 5\n" ++ more) → ⊥
unfolding digits
no_five ports are [] more (n, above, below, same) =
    let last = line (codes "cycles " ++ decimal n) in
    let known = entry_code ports 0 are.named are (Last 5) (Last n) more [] (omega arith, omega arith) (omega (arith, above), below) (same ∙ sym (append-nil last)) in
    let count : 5 ≡ n = ap number_of known.0 in
    omega (arith, count, above)
no_five ports are (q ∷ labels) more (n, above, below, (u, rest, after, under, is, lines, whole)) =
    let known = entry_code ports 0 are.named are (Last 5) (Pulse u q) more rest (omega arith, omega arith) (omega arith, omega (arith, under, below), is) whole in
    absurd (cc (known.0))

module _ (main : ProgramPort) (is_main : IsPort main (codes "main") Com) where
  abbrev ports : List ProgramPort
  ports = main ∷ []

  apart : AreApart (main ∷ [])
  apart zero zero p q there at same = refl
  apart (suc i) j p q there at same = absurd (cc (there))
  apart zero (suc j) p q there at same = absurd (cc (at))

  are_ports : ArePorts (main ∷ [])
  are_ports =
      record {
        some = omega arith;
        few = omega arith;
        named = (subst IsNameOrWord (sym is_main.0) (record { spelled = refl; short = omega arith }), tt);
        types = (subst IsPortType (sym is_main.1) tt, tt);
        apart = apart;
      }

  abbrev event : ℕ → Label
  event place = record { port = 0; place = place; value = 0 }

  main_text : (t place : ℕ) (rest : List ℕ) → line (decimal t ++ codes " " ++ (codes "main" ++ codes "." ++ event_text Com place 0)) ++ rest ≡ label_line (main ∷ []) t (record { port = 0; place = place; value = 0 }) ++ rest
  main_text t place rest = λ i. line (decimal t ++ codes " " ++ (sym is_main.0 i ++ codes "." ++ event_text (sym is_main.1 i) place 0)) ++ rest

  main_label : (place : ℕ) → HasEvent Com place 0 → IsLabel (main ∷ []) (record { port = 0; place = place; value = 0 })
  main_label place has = (main, refl, subst (λ (t : Type'). HasEvent t place 0) (sym is_main.1) has)

  falls_behind : StopsAt (IsTraceText (main ∷ [])) (codes "5 main.run\n4 main.done\ncycles 20\n") 0 12
  unfolding digits
  falls_behind =
      record {
        after = omega arith;
        within = omega arith;
        before = (
          codes "0 main.done\ncycles 41\n",
          (
            event 0 ∷ event 1 ∷ [],
            (
              41,
              omega arith,
              omega arith,
              (
                5,
                codes "40 main.done\ncycles 41\n",
                omega arith,
                omega arith,
                main_label 0 refl,
                (40, codes "cycles 41\n", omega arith, omega arith, main_label 1 refl, refl, main_text 40 1 (codes "cycles 41\n")),
                main_text 5 0 (codes "40 main.done\ncycles 41\n"),
              ),
            ),
          ),
        );
        stops = λ some longer.
            let (more, (labels, is)) = longer in
            let rest = behind_line (main ∷ []) are_ports 0 5 (event 0) labels (codes "4 " ++ more) (omega arith) (omega arith) (main_label 0 refl)
            (subst (IsTraceFrom (main ∷ []) 0 labels) (main_text 5 0 (codes "4 " ++ more)) is) in
            no_four (main ∷ []) rest.0 more rest.1;
      }

  falls_at_once : StopsAt (IsTraceText (main ∷ [])) (codes "999999 main.run\n8 main.done\ncycles 20\n") 0 16
  unfolding digits
  falls_at_once =
      record {
        after = omega arith;
        within = omega arith;
        before = (
          codes "cycles 1000000\n",
          (
            event 0 ∷ [],
            (
              1000000,
              omega arith,
              omega arith,
              (
                999999,
                codes "cycles 1000000\n",
                omega arith,
                omega arith,
                main_label 0 refl,
                refl,
                main_text 999999 0 (codes "cycles 1000000\n"),
              ),
            ),
          ),
        );
        stops = λ some longer.
            let (more, (labels, is)) = longer in
            let rest = behind_line (main ∷ []) are_ports 0 999999 (event 0) labels (codes "8" ++ more) (omega arith) (omega arith) (main_label 0 refl)
            (subst (IsTraceFrom (main ∷ []) 0 labels) (main_text 999999 0 (codes "8" ++ more)) is) in
            no_eight (main ∷ []) rest.0 more rest.1;
      }

  too_few : StopsAt (IsTraceText (main ∷ [])) (codes "5 main.run\ncycles 5\n") 0 19
  unfolding digits
  too_few =
      record {
        after = omega arith;
        within = omega arith;
        before = (
          codes "0\n",
          (
            event 0 ∷ [],
            (
              50,
              omega arith,
              omega arith,
              (5, codes "cycles 50\n", omega arith, omega arith, main_label 0 refl, refl, main_text 5 0 (codes "cycles 50\n")),
            ),
          ),
        );
        stops = λ some longer.
            let (more, (labels, is)) = longer in
            let rest = behind_line (main ∷ []) are_ports 0 5 (event 0) labels (codes "cycles 5\n" ++ more) (omega arith) (omega arith) (main_label 0 refl)
            (subst (IsTraceFrom (main ∷ []) 0 labels) (main_text 5 0 (codes "cycles 5\n" ++ more)) is) in
            no_five (main ∷ []) are_ports rest.0 more rest.1;
      }

pub small_trace_breaks : SmallTraceBreaks
small_trace_breaks = λ main is. (falls_behind main is, falls_at_once main is, too_few main is)
