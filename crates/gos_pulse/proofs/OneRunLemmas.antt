-- A file has one run at most: cycle by cycle two runs have the same labels and so the same values. A run that takes
-- all entries is not broken, and a broken one is broken at one place.
use Rattle.std.proofs.Common.{◌≡◌, ◌+◌, ◌<◌, ◌≤◌, ℕ, suc, List, [], ◌∷◌, ◌++◌, length, reverse, replicate, refl, sym, ap, subst, ◌∙◌, arith}
use Rattle.gos_netlist.specs.Nets.{Netlist}
use Rattle.gos_netlist.specs.Settling.{Numbers, RunFrom, Settling, next_registers}
use Rattle.gos_netcheck.specs.Accepted.{IsAccepted}
use Rattle.gos_model.specs.Labels.{Label}
use Rattle.gos_pace.specs.Flattening.{outputs, inputs, AnyOrder}
use Rattle.gos_pace.specs.Silence.{IsClean, InputsAreClean}
use Rattle.gos_pulse.specs.declared.entries.Entry.{Entry}
use Rattle.gos_pulse.specs.Driving.{TakesAll, BreaksAt, GivesIn, GoesBy, DrivesFrom, BreaksFrom, at_entries, next_entries}
use Rattle.gos_pulse.specs.OneAnswer.{HasOneRun, DrivenIsNotBroken, BreaksOnce}
use Rattle.gos_pulse.proofs.OneWayLemmas.{one_taking, one_giving, one_break, none_breaks}
use Rattle.gos_pulse.proofs.OneCycleLemmas.{outputs_are_held, one_settling}

-- from these registers on the nets show these values, with some clean inputs
record Runs (net : Netlist) (regs : Numbers) (vs : List Numbers) : Type 0 where
  ins : List Numbers
  run : RunFrom net.cells regs ins vs
  clean : InputsAreClean net ins

-- its first cycle, and what comes after it
record RunsOn (net : Netlist) (regs v : Numbers) (vs : List Numbers) : Type 0 where
  ins : Numbers
  settles : Settling net.cells regs ins v
  clean : IsClean net ins
  rest : Runs net (next_registers net.cells v) vs

runs_on : (net : Netlist) (regs v : Numbers) (vs ins : List Numbers) → RunFrom net.cells regs ins (v ∷ vs) → InputsAreClean net ins → RunsOn net regs v vs
runs_on net regs v vs [] run clean = absurd (cc run)
runs_on net regs v vs (i ∷ is) run clean =
    record { ins = i; settles = run.0; clean = clean.0; rest = record { ins = is; run = run.1; clean = clean.1 } }

first_cycle : (net : Netlist) (regs v : Numbers) (vs : List Numbers) → Runs net regs (v ∷ vs) → RunsOn net regs v vs
first_cycle net regs v vs runs = runs_on net regs v vs runs.ins runs.run runs.clean

module _ (net : Netlist) (accepted : IsAccepted net) (file : List Entry) where
  -- two cycles from the same registers, and what came before them
  module _ (regs v w : Numbers) (vs ws : List Numbers) (one : RunsOn net regs v vs) (two : RunsOn net regs w ws) (past : List Label) where
    -- the labels up to the outputs
    seen_same : reverse (outputs net v) ++ past ≡ reverse (outputs net w) ++ past
    seen_same =
        ap (λ (ls : List Label). reverse ls ++ past)
        (outputs_are_held net regs one.ins v accepted one.settles ∙ sym (outputs_are_held net regs two.ins w accepted two.settles))

    -- both go one way
    one_going : (t since : ℕ) (queue : List Entry) (came also : List Label) (last end : ℕ) (rest others : List Entry) → GoesBy net file past t since queue v came last rest → GoesBy net file past t since queue w also end others
        → (v ≡ w) × (came ≡ also) × (last ≡ end) × (rest ≡ others)
    one_going t since queue came also last end rest others goes went =
        let taken : goes.taken ≡ went.taken =
        one_taking net (reverse (outputs net w) ++ past) (at_entries t file) goes.taken went.taken
        (subst (λ (ls : List Label). TakesAll net ls (at_entries t file) goes.taken) seen_same goes.takes) went.takes in
        let given = one_giving net (reverse went.taken ++ (reverse (outputs net w) ++ past)) t since queue goes.given went.given last end rest others
        (subst (λ (ls : List Label). GivesIn net ls t since queue goes.given last rest) (λ i. reverse (taken i) ++ seen_same i) goes.gives) went.gives in
        let values : v ≡ w =
        one_settling net accepted regs one.ins v two.ins w (went.taken ++ went.given) one.settles one.clean two.settles two.clean
        (subst (λ (ls : List Label). AnyOrder ls (inputs net v)) (λ i. taken i ++ given.0 i) goes.inputs) went.inputs in
        (values, goes.after ∙ (λ i. reverse (taken i ++ given.0 i) ++ seen_same i) ∙ sym went.after, given.1, given.2)

    -- where the one goes by the file, the other is not broken
    going_not_broken : (t since : ℕ) (queue : List Entry) (came : List Label) (last : ℕ) (rest : List Entry) (event : ℕ) → GoesBy net file past t since queue v came last rest → BreaksAt net (reverse (outputs net w) ++ past) (at_entries t file) event → ⊥
    going_not_broken t since queue came last rest event goes breaks =
        none_breaks net (reverse (outputs net w) ++ past) (at_entries t file) goes.taken event
        (subst (λ (ls : List Label). TakesAll net ls (at_entries t file) goes.taken) seen_same goes.takes) breaks

    -- both are broken by one event
    one_breaking : (t event other : ℕ) → BreaksAt net (reverse (outputs net v) ++ past) (at_entries t file) event → BreaksAt net (reverse (outputs net w) ++ past) (at_entries t file) other → event ≡ other
    one_breaking t event other breaks broke =
        one_break net (reverse (outputs net w) ++ past) (at_entries t file) event other
        (subst (λ (ls : List Label). BreaksAt net ls (at_entries t file) event) seen_same breaks) broke

  -- two runs of one length are one
  one_driving : (regs : Numbers) (past : List Label) (t since : ℕ) (queue : List Entry) (vs ws : List Numbers) (unused left : ℕ) → Runs net regs vs → Runs net regs ws → length vs ≡ length ws
      → DrivesFrom net file past t since queue vs unused → DrivesFrom net file past t since queue ws left → (vs ≡ ws) × (unused ≡ left)
  one_driving regs past t since queue [] [] unused left runs ran long drives drove = (refl, drives ∙ sym drove)
  one_driving regs past t since queue [] (w ∷ ws) unused left runs ran long drives drove = absurd (omega (arith, long))
  one_driving regs past t since queue (v ∷ vs) [] unused left runs ran long drives drove = absurd (omega (arith, long))
  one_driving regs past t since queue (v ∷ vs) (w ∷ ws) unused left runs ran long (came, last, rest, goes, later) (also, end, others, went, then) =
      let one = first_cycle net regs v vs runs in
      let two = first_cycle net regs w ws ran in
      let same = one_going regs v w vs ws one two past t since queue came also last end rest others goes went in
      let more = one_driving (next_registers net.cells w) also (suc t) end others vs ws unused left
      (subst (λ (u : Numbers). Runs net (next_registers net.cells u) vs) same.0 one.rest) two.rest (omega (arith, long))
      (moved same later) then in
      ((λ i. same.0 i ∷ more.0 i), more.1)
    where
      moved : (v ≡ w) × (came ≡ also) × (last ≡ end) × (rest ≡ others) → DrivesFrom net file came (suc t) last rest vs unused → DrivesFrom net file also (suc t) end others vs unused
      moved same later =
          subst (λ (es : List Entry). DrivesFrom net file also (suc t) end es vs unused) same.3
          (subst (λ (n : ℕ). DrivesFrom net file also (suc t) n rest vs unused) same.2
          (subst (λ (ls : List Label). DrivesFrom net file ls (suc t) last rest vs unused) same.1 later))

  -- a run is broken in none of the cycles before
  broken_later : (past : List Label) (t since : ℕ) (queue : List Entry) (vs : List Numbers) (cycle event : ℕ) → BreaksFrom net file past t since queue vs cycle event → t ≤ cycle
  broken_later past t since queue [] cycle event breaks = absurd breaks
  broken_later past t since queue (v ∷ []) cycle event breaks = omega (arith, breaks.0)
  broken_later past t since queue (v ∷ w ∷ vs) cycle event (came, last, rest, goes, later) =
      let after = broken_later came (suc t) last rest (w ∷ vs) cycle event later in
      omega (arith, after)

  -- the labels and entries after a cycle are those after the other one
  broken_moved : (came also : List Label) (t last end : ℕ) (rest others : List Entry) (vs : List Numbers) (cycle event : ℕ) → came ≡ also → last ≡ end → rest ≡ others
      → BreaksFrom net file came t last rest vs cycle event → BreaksFrom net file also t end others vs cycle event
  broken_moved came also t last end rest others vs cycle event labels since entries breaks =
      subst (λ (es : List Entry). BreaksFrom net file also t end es vs cycle event) entries
      (subst (λ (n : ℕ). BreaksFrom net file also t n rest vs cycle event) since
      (subst (λ (ls : List Label). BreaksFrom net file ls t last rest vs cycle event) labels breaks))

  -- a run that is driven is not broken in any of its cycles
  driven_not_broken : (regs : Numbers) (past : List Label) (t since : ℕ) (queue : List Entry) (vs ws : List Numbers) (unused cycle event : ℕ) → Runs net regs vs → Runs net regs ws → cycle < t + length vs
      → DrivesFrom net file past t since queue vs unused → BreaksFrom net file past t since queue ws cycle event → ⊥
  driven_not_broken regs past t since queue [] ws unused cycle event runs ran less drives breaks =
      omega (arith, less, broken_later past t since queue ws cycle event breaks)
  driven_not_broken regs past t since queue (v ∷ vs) [] unused cycle event runs ran less drives breaks = breaks
  driven_not_broken regs past t since queue (v ∷ vs) (w ∷ []) unused cycle event runs ran less (came, last, rest, goes, later) breaks =
      going_not_broken regs v w vs [] (first_cycle net regs v vs runs) (first_cycle net regs w [] ran) past t since queue came last rest event goes breaks.1
  driven_not_broken regs past t since queue (v ∷ vs) (w ∷ x ∷ ws) unused cycle event runs ran less (came, last, rest, goes, later) (also, end, others, went, breaks) =
      let one = first_cycle net regs v vs runs in
      let two = first_cycle net regs w (x ∷ ws) ran in
      let same = one_going regs v w vs (x ∷ ws) one two past t since queue came also last end rest others goes went in
      driven_not_broken (next_registers net.cells v) came (suc t) last rest vs (x ∷ ws) unused cycle event one.rest
      (subst (λ (u : Numbers). Runs net (next_registers net.cells u) (x ∷ ws)) (sym same.0) two.rest) (omega (arith, less)) later
      (broken_moved also came (suc t) end last others rest (x ∷ ws) cycle event (sym same.1) (sym same.2) (sym same.3) breaks)

  -- two broken runs are broken at one place
  one_broken : (regs : Numbers) (past : List Label) (t since : ℕ) (queue : List Entry) (vs ws : List Numbers) (cycle other event also : ℕ) → Runs net regs vs → Runs net regs ws
      → BreaksFrom net file past t since queue vs cycle event → BreaksFrom net file past t since queue ws other also → (cycle ≡ other) × (event ≡ also)
  one_broken regs past t since queue [] ws cycle other event also runs ran breaks broke = absurd breaks
  one_broken regs past t since queue (v ∷ vs) [] cycle other event also runs ran breaks broke = absurd broke
  one_broken regs past t since queue (v ∷ []) (w ∷ []) cycle other event also runs ran breaks broke = (
    breaks.0 ∙ sym broke.0,
    one_breaking regs v w [] [] (first_cycle net regs v [] runs) (first_cycle net regs w [] ran) past t event also breaks.1 broke.1,
  )
  one_broken regs past t since queue (v ∷ []) (w ∷ x ∷ ws) cycle other event also runs ran breaks (came, last, rest, went, broke) =
      absurd (going_not_broken regs w v (x ∷ ws) [] (first_cycle net regs w (x ∷ ws) ran) (first_cycle net regs v [] runs) past t since queue came last rest event went breaks.1)
  one_broken regs past t since queue (v ∷ x ∷ vs) (w ∷ []) cycle other event also runs ran (came, last, rest, goes, breaks) broke =
      absurd (going_not_broken regs v w (x ∷ vs) [] (first_cycle net regs v (x ∷ vs) runs) (first_cycle net regs w [] ran) past t since queue came last rest also goes broke.1)
  one_broken regs past t since queue (v ∷ x ∷ vs) (w ∷ y ∷ ws) cycle other event also runs ran (came, last, rest, goes, breaks) (labels, end, others, went, broke) =
      let one = first_cycle net regs v (x ∷ vs) runs in
      let two = first_cycle net regs w (y ∷ ws) ran in
      let same = one_going regs v w (x ∷ vs) (y ∷ ws) one two past t since queue came labels last end rest others goes went in
      one_broken (next_registers net.cells w) labels (suc t) end others (x ∷ vs) (y ∷ ws) cycle other event also
      (subst (λ (u : Numbers). Runs net (next_registers net.cells u) (x ∷ vs)) same.0 one.rest) two.rest
      (broken_moved came labels (suc t) last end rest others (x ∷ vs) cycle event same.1 same.2 same.3 breaks) broke

  -- the registers at reset
  abbrev zeros : Numbers
  zeros = replicate (length net.cells) 0

  pub one_run : (cycles : ℕ) → HasOneRun net cycles file
  one_run cycles run other unused left (ins, clean, runs, long, drives) (given, also_clean, ran, count, drove) =
      one_driving zeros [] 0 0 (next_entries file) run other unused left
      (record { ins = ins; run = runs; clean = clean }) (record { ins = given; run = ran; clean = also_clean }) (long ∙ sym count) drives drove

  pub not_broken : (cycles : ℕ) → DrivenIsNotBroken net cycles file
  not_broken cycles run unused cycle event (ins, clean, runs, long, drives) (less, given, vs, also_clean, ran, breaks) =
      driven_not_broken zeros [] 0 0 (next_entries file) run vs unused cycle event
      (record { ins = ins; run = runs; clean = clean }) (record { ins = given; run = ran; clean = also_clean }) (omega (arith, less, long)) drives breaks

  pub breaks_once : (cycles : ℕ) → BreaksOnce net cycles file
  breaks_once cycles cycle event other also (less, ins, vs, clean, runs, breaks) (fewer, given, ws, also_clean, ran, broke) =
      one_broken zeros [] 0 0 (next_entries file) vs ws cycle other event also
      (record { ins = ins; run = runs; clean = clean }) (record { ins = given; run = ran; clean = also_clean }) breaks broke
