-- The plan of `import c : com; c`: cycles of its circuit are lists of it.
use Rattle.std.specs.Prelude.{None, codes}
use Rattle.std.proofs.Common.{◌≡◌, inl, ℕ, zero, suc, List, [], ◌∷◌, length, Some, slice_get, refl, sym, ap, subst, arith}
use Rattle.gos_types.specs.Events.{Request}
use Rattle.gos_netlist.specs.Nets.{Cell, Input, Reg}
use Rattle.gos_netlist.specs.Settling.{Numbers, Settling, shown, IsRun}
use Rattle.gos_netlist.specs.Settling as nets
use Rattle.gos_netlist.specs.SmallNets.{bit}
use Rattle.gos_model.specs.Labels.{Label, given, taken}
use Rattle.gos_pace.proofs.SmallPaceLemmas.{only_order}
use Rattle.gos_plan.specs.Plans.{PartEnd, ImportEnd, ResultEnd}
use Rattle.gos_plan.specs.Tokens.{Tokens, Element, Fire, Out, In, with_token, Runs}
use Rattle.gos_pace.specs.Cycles.{cycle_list, MakesCycle, IsPrompt}
use Rattle.gos_plan.specs.Made.{Made}
use Rattle.gos_plan.specs.SmallPlans.{at_first}
use Rattle.gos_pace.specs.SmallCycles.{call_circuit, call_inputs, call_cycles, CallIsListed}
use Rattle.gos_plan.specs.SmallCalls.{call_plan}
use Rattle.gos_plan.proofs.CallLemmas.{first, second, third, between, fourth, fifth}

abbrev made : Tokens → Made
made s = record { firings = []; after = s }

-- the labels
abbrev main_run : Label
main_run = given 0 0

abbrev main_done : Label
main_done = given 1 0

abbrev c_run : Label
c_run = taken (codes "c") 0 0

abbrev c_done : Label
c_done = taken (codes "c") 1 0

cycle_one : MakesCycle call_plan call_circuit (1 ∷ 0 ∷ 0 ∷ 0 ∷ []) at_first (made first)
cycle_one out inp o i =
    let e : cycle_list call_plan out inp [] ≡ In (ResultEnd 0) 0 ∷ [] = λ j. cycle_list call_plan (o j) (only_order main_run inp i j) [] in
    subst (λ (xs : List Element). Runs call_plan xs at_first first) (sym e) (first, (tt, (omega arith, refl)), refl)

-- c.run, with the state before it and that after it
calls : (s : Tokens) → s.in_place Request (ResultEnd 0) ≡ Some 0 → MakesCycle call_plan call_circuit (0 ∷ 0 ∷ 1 ∷ 0 ∷ []) s (made (with_token call_plan (ImportEnd 0 0) Request None s))
calls s lies out inp o i =
    let e : cycle_list call_plan out inp [] ≡ Out (ImportEnd 0 0) 0 ∷ [] = λ j. cycle_list call_plan (only_order c_run out o j) (i j) [] in
    subst (λ (xs : List Element). Runs call_plan xs s (with_token call_plan (ImportEnd 0 0) Request None s)) (sym e)
    (with_token call_plan (ImportEnd 0 0) Request None s, (tt, (lies, refl)), refl)

cycle_three : MakesCycle call_plan call_circuit (0 ∷ 0 ∷ 0 ∷ 1 ∷ []) second (made third)
cycle_three out inp o i =
    let e : cycle_list call_plan out inp [] ≡ In (ImportEnd 0 0) 0 ∷ [] = λ j. cycle_list call_plan (o j) (only_order c_done inp i j) [] in
    subst (λ (xs : List Element). Runs call_plan xs second third) (sym e) (third, (tt, (omega arith, refl)), refl)

cycle_four : MakesCycle call_plan call_circuit (1 ∷ 1 ∷ 0 ∷ 0 ∷ []) third (made fourth)
cycle_four out inp o i =
    let e : cycle_list call_plan out inp [] ≡ Out (ResultEnd 0) 0 ∷ In (ResultEnd 0) 0 ∷ [] =
    λ j. cycle_list call_plan (only_order main_done out o j) (only_order main_run inp i j) [] in
    subst (λ (xs : List Element). Runs call_plan xs third fourth) (sym e) (between, (tt, (refl, refl)), (fourth, (tt, (omega arith, refl)), refl))

abbrev all_made : List Made
all_made = made first ∷ made second ∷ made third ∷ made fourth ∷ made fifth ∷ []

-- what is possible after no cycle, and after one
prompt : IsPrompt call_plan call_circuit call_cycles at_first all_made
prompt t (In e n) after few does = tt
prompt t (Fire i k) after few (v, r, lies, fires, leads) = absurd (cc fires)
prompt t (Out (PartEnd i h) n) after few does = absurd does.0
prompt t (Out (ImportEnd zero (suc h)) n) after few does = absurd does.1
prompt t (Out (ImportEnd (suc i) h) n) after few does = absurd does.1
prompt t (Out (ResultEnd (suc h)) n) after few does = absurd does.1
prompt zero (Out (ImportEnd zero zero) n) after few does = let none = does.1.0 in absurd (cc none)
prompt zero (Out (ResultEnd zero) n) after few does = let none = does.1.0 in absurd (cc none)
prompt (suc zero) (Out (ImportEnd zero zero) n) after few does =
    let lies = does.1.0 in
    let same : 0 ≡ n = cc lies in
    (1, 0 ∷ 0 ∷ 1 ∷ 0 ∷ [], omega arith, omega arith, refl, (0, omega arith, ap (Out (ImportEnd 0 0)) same))
prompt (suc zero) (Out (ResultEnd zero) n) after few does = let none = does.1.0 in absurd (cc none)
prompt (suc (suc t)) (Out (ImportEnd zero zero) n) after few does = absurd (omega (arith, few))
prompt (suc (suc t)) (Out (ResultEnd zero) n) after few does = absurd (omega (arith, few))

-- the circuit's cells, one after another
settled : (regs ins v : Numbers) → length v ≡ 4 → nets.at v 0 ≡ nets.at ins 0 → nets.at v 1 ≡ nets.at regs 1 → nets.at v 2 ≡ nets.at regs 2 → nets.at v 3 ≡ nets.at ins 3
    → Settling call_circuit.cells regs ins v
settled regs ins v four run done asked answered = (four, at_each)
  where
    same : (n : ℕ) (a c : Cell) → a ≡ c → nets.at v n ≡ shown a.width a.gate (nets.at regs n) (nets.at ins n) (nets.at v)
        → nets.at v n ≡ shown c.width c.gate (nets.at regs n) (nets.at ins n) (nets.at v)
    same n a c is shows = subst (λ (x : Cell). nets.at v n ≡ shown x.width x.gate (nets.at regs n) (nets.at ins n) (nets.at v)) is shows

    at_each : (n : ℕ) (c : Cell) → slice_get call_circuit.cells n ≡ Some c → nets.at v n ≡ shown c.width c.gate (nets.at regs n) (nets.at ins n) (nets.at v)
    at_each zero c there = same 0 (bit Input) c (cc there) run
    at_each (suc zero) c there = same 1 (bit (Reg 3)) c (cc there) done
    at_each (suc (suc zero)) c there = same 2 (bit (Reg 0)) c (cc there) asked
    at_each (suc (suc (suc zero))) c there = same 3 (bit Input) c (cc there) answered
    at_each (suc (suc (suc (suc n)))) c there = absurd (cc there)

-- each cycle, by the registers before it, its inputs and its values
runs : IsRun call_circuit.cells call_inputs call_cycles
runs = (
  settled (0 ∷ 0 ∷ 0 ∷ 0 ∷ []) (1 ∷ 0 ∷ 0 ∷ 0 ∷ []) (1 ∷ 0 ∷ 0 ∷ 0 ∷ []) refl refl refl refl refl,
  (
    settled (0 ∷ 0 ∷ 1 ∷ 0 ∷ []) (0 ∷ 0 ∷ 0 ∷ 0 ∷ []) (0 ∷ 0 ∷ 1 ∷ 0 ∷ []) refl refl refl refl refl,
    (
      settled (0 ∷ 0 ∷ 0 ∷ 0 ∷ []) (0 ∷ 0 ∷ 0 ∷ 1 ∷ []) (0 ∷ 0 ∷ 0 ∷ 1 ∷ []) refl refl refl refl refl,
      (
        settled (0 ∷ 1 ∷ 0 ∷ 0 ∷ []) (1 ∷ 0 ∷ 0 ∷ 0 ∷ []) (1 ∷ 1 ∷ 0 ∷ 0 ∷ []) refl refl refl refl refl,
        (
          settled (0 ∷ 0 ∷ 1 ∷ 0 ∷ []) (0 ∷ 0 ∷ 0 ∷ 0 ∷ []) (0 ∷ 0 ∷ 1 ∷ 0 ∷ []) refl refl refl refl refl,
          refl,
        ),
      ),
    ),
  ),
)

pub call_is_listed : CallIsListed
call_is_listed = (
  runs,
  (
    at_first,
    all_made,
    ((λ way e. refl), λ i. refl),
    (cycle_one, (calls first refl, (cycle_three, (cycle_four, (calls fourth refl, tt))))),
    prompt,
    inl refl,
  ),
)
