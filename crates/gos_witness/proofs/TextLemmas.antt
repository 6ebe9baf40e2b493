-- The laws of reading: a text has one value at most, and one answer at most.
use Rattle.std.proofs.Common.{◌≡◌, ◌≢◌, ℕ, zero, suc, List, [], ◌∷◌, ◌++◌, length, refl, sym, ◌∙◌, ap, subst, arith}
use Rattle.std.specs.Prelude.{codes}
use Rattle.std.specs.Fmt.{decimal, digits}
use Rattle.gos_types.specs.Types.{Type', Com, Exp}
use Rattle.gos_model.specs.Labels.{given, taken}
use Rattle.gos_netlist.specs.NetText.{line}
use Rattle.gos_netlist.specs.Writable.{IsPortType}
use Rattle.gos_lex.specs.Names.{IsNameOrWord}
use Rattle.gos_lex.proofs.ItemLemmas.{breaks_off_once}
use Rattle.gos_witness.specs.declared.fault.ExplainFault.{ExplainFault}
use Rattle.gos_witness.specs.declared.fault.ExplainFault.TheVariants as faults
use Rattle.gos_witness.specs.declared.program.ProgramPort.{ProgramPort}
use Rattle.gos_witness.specs.SmallTexts.{SmallLabels, SmallMoves, SmallPorts, SmallTraces, IsPort, four_labels}
use Rattle.gos_witness.specs.TextFaults.{IsFormFault, HasNoFault, HasOneFault, IsOneList, IsOneTrace, PrintedIsRead}
use Rattle.gos_witness.specs.TraceText.{HasEvent, event_text, IsLabel, label_line, IsTraceTextOf}
use Rattle.gos_witness.specs.Ports.{ArePorts, AreApart}
use Rattle.gos_witness.proofs.MovesLemmas.{moves_one}
use Rattle.gos_witness.proofs.TraceLemmas.{trace_one}

pub has_no_fault : (IsText : List ℕ → Type 0) (text : List ℕ) → HasNoFault IsText text
has_no_fault IsText text (faults.Form at) is fault = absurd (fault.1 is)
has_no_fault IsText text (faults.Wrong n) is none = absurd none
has_no_fault IsText text (faults.Labels n) is none = absurd none
has_no_fault IsText text (faults.NotTrace n) is none = absurd none
has_no_fault IsText text (faults.Spent n) is none = absurd none
has_no_fault IsText text faults.Taken is none = absurd none
has_no_fault IsText text (faults.Nodes n) is none = absurd none
has_no_fault IsText text faults.NoMemory is fault = refl

form_at : (IsText : List ℕ → Type 0) (text : List ℕ) (fault : ExplainFault) → IsFormFault IsText text fault → fault ≢ faults.NoMemory → (at : ℕ) × (fault ≡ faults.Form at) × IsFormFault IsText text (faults.Form at)
form_at IsText text (faults.Form at) is other = (at, refl, is)
form_at IsText text (faults.Wrong n) none other = absurd none
form_at IsText text (faults.Labels n) none other = absurd none
form_at IsText text (faults.NotTrace n) none other = absurd none
form_at IsText text (faults.Spent n) none other = absurd none
form_at IsText text faults.Taken none other = absurd none
form_at IsText text (faults.Nodes n) none other = absurd none
form_at IsText text faults.NoMemory is other = absurd (other refl)

pub has_one_fault : (IsText : List ℕ → Type 0) (text : List ℕ) → HasOneFault IsText text
has_one_fault IsText text fault other first second some any =
    let one = form_at IsText text fault first some in
    let two = form_at IsText text other second any in
    one.1 ∙ (ap (λ (at : ℕ). faults.Form at) (breaks_off_once IsText text 0 one.0 two.0 one.2.0 two.2.0) ∙ sym two.1)

pub one_list : (text : List ℕ) → IsOneList text
one_list text lines others first second = (moves_one lines others text text [] [] first second refl).0

pub one_trace : (ports : List ProgramPort) (text : List ℕ) → IsOneTrace ports text
one_trace ports text are labels others first second = trace_one ports are labels others text first second

pub printed_is_read : PrintedIsRead
printed_is_read lines are = record { are = are; is = refl }

pub small_moves : SmallMoves
unfolding digits
small_moves = (refl, refl, λ has. omega (arith, has.1.0))

module _ (main asked : ProgramPort) (is_main : IsPort main (codes "main") Com) (is_asked : IsPort asked (codes "x") (Exp 3)) where
  differ : main.name ≡ asked.name → ⊥
  differ same =
      let long : 4 ≡ 1 = ap length (sym is_main.0 ∙ (same ∙ is_asked.0)) in
      omega (arith, long)

  apart : AreApart (main ∷ asked ∷ [])
  apart zero zero p q there at same = refl
  apart (suc zero) (suc zero) p q there at same = refl
  apart zero (suc zero) p q there at same =
      let one : main ≡ p = cc there in
      let two : asked ≡ q = cc at in
      absurd (differ (ap (λ (r : ProgramPort). r.name) one ∙ (same ∙ sym (ap (λ (r : ProgramPort). r.name) two))))
  apart (suc zero) zero p q there at same =
      let one : asked ≡ p = cc there in
      let two : main ≡ q = cc at in
      absurd (differ (ap (λ (r : ProgramPort). r.name) two ∙ (sym same ∙ sym (ap (λ (r : ProgramPort). r.name) one))))
  apart (suc (suc i)) j p q there at same = absurd (cc (there))
  apart zero (suc (suc j)) p q there at same = absurd (cc (at))
  apart (suc zero) (suc (suc j)) p q there at same = absurd (cc (at))

  are_ports : ArePorts (main ∷ asked ∷ [])
  are_ports =
      record {
        some = omega arith;
        few = omega arith;
        named = (
          subst IsNameOrWord (sym is_main.0) (record { spelled = refl; short = omega arith }),
          (subst IsNameOrWord (sym is_asked.0) (record { spelled = refl; short = omega arith }), tt),
        );
        types = (subst IsPortType (sym is_main.1) tt, (subst IsPortType (sym is_asked.1) (omega arith, omega arith), tt));
        apart = apart;
      }

  main_text : (t place : ℕ) (rest : List ℕ) → line (decimal t ++ codes " " ++ (codes "main" ++ codes "." ++ event_text Com place 0)) ++ rest ≡ label_line (main ∷ asked ∷ []) t (record { port = 0; place = place; value = 0 }) ++ rest
  main_text t place rest = λ i. line (decimal t ++ codes " " ++ (sym is_main.0 i ++ codes "." ++ event_text (sym is_main.1 i) place 0)) ++ rest

  asked_text : (t place value : ℕ) (rest : List ℕ) → line (decimal t ++ codes " " ++ (codes "x" ++ codes "." ++ event_text (Exp 3) place value)) ++ rest ≡ label_line (main ∷ asked ∷ []) t (record { port = 1; place = place; value = value }) ++ rest
  asked_text t place value rest = λ i. line (decimal t ++ codes " " ++ (sym is_asked.0 i ++ codes "." ++ event_text (sym is_asked.1 i) place value)) ++ rest

  main_label : (place : ℕ) → HasEvent Com place 0 → IsLabel (main ∷ asked ∷ []) (record { port = 0; place = place; value = 0 })
  main_label place has = (main, refl, subst (λ (t : Type'). HasEvent t place 0) (sym is_main.1) has)

  asked_label : (place value : ℕ) → HasEvent (Exp 3) place value → IsLabel (main ∷ asked ∷ []) (record { port = 1; place = place; value = value })
  asked_label place value has = (asked, refl, subst (λ (t : Type'). HasEvent t place value) (sym is_asked.1) has)

  small_trace : IsTraceTextOf (main ∷ asked ∷ []) (codes "0 main.run\n0 x.ask\n12 x.ans 7\n13 main.done\ncycles 20\n") four_labels
  unfolding digits
  small_trace = (
    20,
    omega arith,
    omega arith,
    (
      0,
      codes "0 x.ask\n12 x.ans 7\n13 main.done\ncycles 20\n",
      omega arith,
      omega arith,
      main_label 0 refl,
      (
        0,
        codes "12 x.ans 7\n13 main.done\ncycles 20\n",
        omega arith,
        omega arith,
        asked_label 0 0 refl,
        (
          12,
          codes "13 main.done\ncycles 20\n",
          omega arith,
          omega arith,
          asked_label 1 7 (omega arith),
          (13, codes "cycles 20\n", omega arith, omega arith, main_label 1 refl, refl, main_text 13 1 (codes "cycles 20\n")),
          asked_text 12 1 7 (codes "13 main.done\ncycles 20\n"),
        ),
        asked_text 0 0 0 (codes "12 x.ans 7\n13 main.done\ncycles 20\n"),
      ),
      main_text 0 0 (codes "0 x.ask\n12 x.ans 7\n13 main.done\ncycles 20\n"),
    ),
  )

pub small_traces : SmallTraces
small_traces = (
  λ main asked is_main is_asked. (are_ports main asked is_main is_asked, small_trace main asked is_main is_asked),
  (λ has. omega (arith, has)),
  (λ none. none),
  λ has. omega (arith, has),
)

pub small_ports : SmallPorts
small_ports = (
  λ are. omega (arith, are.some),
  λ main are.
      let one : 0 ≡ 1 = are.apart 0 1 main main refl refl refl in
      omega (arith, one),
)

pub small_labels : SmallLabels
small_labels = λ main asked is_main is_asked. (
  λ i. record { name = is_asked.0 i; ty = is_asked.1 i } ∷ [],
  λ i. given 0 0 ∷ taken (is_asked.0 i) 0 0 ∷ taken (is_asked.0 i) 1 7 ∷ given 1 0 ∷ [],
  (omega arith, (omega arith, (omega arith, (omega arith, tt)))),
  λ few. omega (arith, few.1.0),
)
