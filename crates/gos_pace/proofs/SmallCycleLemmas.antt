-- The cycles of the circuit of `skip` are lists of its plan: its register tells whether an answer waits.
use Rattle.std.specs.Prelude.{None, Option, not, filter, Contains, ◌⊎◌}
use Rattle.std.proofs.Common.{◌≡◌, inl, inr, ℕ, zero, suc, ◌<◌, Bool, true, false, List, [], ◌∷◌, ◌++◌, length, Some, slice_get, refl, sym, ◌∙◌, ap, subst, arith, nat_eq, if◌then◌else◌}
use Rattle.gos_types.specs.Events.{Request, Answer}
use Rattle.gos_netlist.specs.Nets.{Input, Reg}
use Rattle.gos_netlist.specs.Settling.{Numbers, next_registers, RunFrom}
use Rattle.gos_netlist.specs.Settling as nets
use Rattle.gos_netlist.specs.SmallNets.{bit}
use Rattle.gos_model.specs.Labels.{Label, given, is_output}
use Rattle.gos_pace.specs.Flattening.{if_pulse, outputs, inputs, AnyOrder}
use Rattle.gos_pace.specs.RunProtocol.{InputsInRange}
use Rattle.gos_pace.specs.SmallPace.{skip_circuit}
use Rattle.gos_pace.proofs.SmallPaceLemmas.{only_order}
use Rattle.gos_plan.specs.Firing.{Rest, Slot, Req, Ans}
use Rattle.gos_plan.specs.Plans.{End, PartEnd, ImportEnd, ResultEnd, same_end}
use Rattle.gos_plan.specs.Tokens.{Tokens, Element, Fire, Out, In, places_of, held_at, with_token, fired, Does, Runs}
use Rattle.gos_pace.specs.Cycles.{outs_of, cycle_list, MakesCycles, IsMadeSoon, IsBroken}
use Rattle.gos_plan.specs.Made.{PartFiring, Made, state_after}
use Rattle.gos_plan.specs.SmallPlans.{skip_plan, at_first}
use Rattle.gos_pace.specs.SmallCycles.{eager_circuit, SkipIsListed, EagerIsNotListed}
use Rattle.gos_plan.proofs.SmallPlanLemmas.{answers}

abbrev run : Label
run = given 0 0

abbrev done : Label
done = given 1 0

-- the pulses of a cycle in which the input is a and the register b
abbrev all_pulses : ℕ → ℕ → List Label
all_pulses a b = (if_pulse a run ++ (if_pulse b done ++ [])) ++ []

-- where the register is b an answer waits if b is 1, and nothing else does
record IsAt (b : ℕ) (s : Tokens) : Type 0 where
  no_request : (e : End) → s.in_place Request e ≡ None
  answer : s.in_place Answer (ResultEnd 0) ≡ (if nat_eq b 1 then Some 0 else None)
  no_other : (e : End) → same_end e (ResultEnd 0) ≡ false → s.in_place Answer e ≡ None
  rests : (i : ℕ) → (s.state i).phase ≡ Rest

-- what a cycle makes of a token state: an answer goes out, and a request comes in and is answered
abbrev gone : ℕ → Tokens → Tokens
gone b s = if nat_eq b 1 then with_token skip_plan (ResultEnd 0) Answer None s else s

abbrev served : Tokens → Tokens
served s = fired skip_plan 0 (answers (s.state 0).number) 0 (with_token skip_plan (ResultEnd 0) Request (Some 0) s)

abbrev made : ℕ → ℕ → Tokens → Made
made a b s =
    record {
      firings = if nat_eq a 1 then record { part = 0; takes = Req 0 } ∷ [] else [];
      after = if nat_eq a 1 then served (gone b s) else gone b s;
    }

-- an answer that goes out leaves none
after_gone : (b : ℕ) (s : Tokens) → b < 2 → IsAt b s → IsAt 0 (gone b s)
after_gone zero s small is = is
after_gone (suc zero) s small is =
    record { no_request = is.no_request; answer = refl; no_other = λ e apart. rw apart (is.no_other e apart); rests = is.rests }
after_gone (suc (suc b)) s small is = absurd (omega (arith, small))

-- a request that is answered leaves one
after_served : (s : Tokens) → IsAt 0 s → IsAt 1 (served s)
after_served s is =
    record {
      no_request = λ e. request e (same_end e (ResultEnd 0)) refl;
      answer = refl;
      no_other = λ e apart. rw apart (is.no_other e apart);
      rests = states;
    }
  where
    request : (e : End) (t : Bool) → same_end e (ResultEnd 0) ≡ t → (served s).in_place Request e ≡ None
    request e true t = rw t refl
    request e false t = rw t (is.no_request e)

    states : (i : ℕ) → ((served s).state i).phase ≡ Rest
    states zero = refl
    states (suc i) = let other : nat_eq (suc i) 0 ≡ false = grind arith in rw other (is.rests (suc i))

after_cycle : (a b : ℕ) (s : Tokens) → a < 2 → b < 2 → IsAt b s → IsAt a (made a b s).after
after_cycle zero b s l k is = after_gone b s k is
after_cycle (suc zero) b s l k is = after_served (gone b s) (after_gone b s k is)
after_cycle (suc (suc a)) b s l k is = absurd (omega (arith, l))

-- the request comes in and is answered
serves : (s : Tokens) → IsAt 0 s → Runs skip_plan (In (ResultEnd 0) 0 ∷ Fire 0 (Req 0) ∷ []) s (served s)
serves s is = (
  with_token skip_plan (ResultEnd 0) Request (Some 0) s,
  (tt, (omega arith, refl)),
  (served s, (0, answers (s.state 0).number, refl, rw (is.rests 0) refl, refl), refl),
)

runs : (a b : ℕ) (s : Tokens) (out inp : List Label) → a < 2 → b < 2 → IsAt b s → AnyOrder (filter is_output (all_pulses a b)) out
    → AnyOrder (filter (λ l. not (is_output l)) (all_pulses a b)) inp
    → Runs skip_plan (cycle_list skip_plan out inp (made a b s).firings) s (made a b s).after
runs zero zero s out inp l k is o i =
    let e : cycle_list skip_plan out inp [] ≡ [] = λ j. cycle_list skip_plan (o j) (i j) [] in
    subst (λ (xs : List Element). Runs skip_plan xs s s) (sym e) refl
runs zero (suc zero) s out inp l k is o i =
    let e : cycle_list skip_plan out inp [] ≡ Out (ResultEnd 0) 0 ∷ [] = λ j. cycle_list skip_plan (only_order done out o j) (i j) [] in
    subst (λ (xs : List Element). Runs skip_plan xs s (gone 1 s)) (sym e) (gone 1 s, (tt, (is.answer, refl)), refl)
runs (suc zero) zero s out inp l k is o i =
    let fires : List PartFiring = (made 1 0 s).firings in
    let e : cycle_list skip_plan out inp fires ≡ In (ResultEnd 0) 0 ∷ Fire 0 (Req 0) ∷ [] = λ j. cycle_list skip_plan (o j) (only_order run inp i j) fires in
    subst (λ (xs : List Element). Runs skip_plan xs s (served s)) (sym e) (serves s is)
runs (suc zero) (suc zero) s out inp l k is o i =
    let fires : List PartFiring = (made 1 1 s).firings in
    let e : cycle_list skip_plan out inp fires ≡ Out (ResultEnd 0) 0 ∷ In (ResultEnd 0) 0 ∷ Fire 0 (Req 0) ∷ [] =
    λ j. cycle_list skip_plan (only_order done out o j) (only_order run inp i j) fires in
    subst (λ (xs : List Element). Runs skip_plan xs s (served (gone 1 s))) (sym e)
    (gone 1 s, (tt, (is.answer, refl)), serves (gone 1 s) (after_gone 1 s (omega arith) is))
runs (suc (suc a)) b s out inp l k is o i = absurd (omega (arith, l))
runs a (suc (suc b)) s out inp l k is o i = absurd (omega (arith, k))

-- the values of each cycle, and that the register tells what waits then
abbrev Told : List Numbers → Tokens → List Made → Type 0
Told vs s ms = (t : ℕ) → t < length ms → (v : Numbers) × (slice_get vs t ≡ Some v) × (nets.at v 1 < 2) × IsAt (nets.at v 1) (state_after s ms t)

listed : (ins vs : List Numbers) (regs : Numbers) (s : Tokens) → nets.at regs 1 < 2 → InputsInRange skip_circuit ins
    → RunFrom skip_circuit.cells regs ins vs → IsAt (nets.at regs 1) s
    → (ms : List Made) × MakesCycles skip_plan skip_circuit vs s ms × (length ms ≡ length vs) × Told vs s ms
listed [] [] regs s k range r is = ([], tt, refl, λ t l. absurd (omega (arith, l)))
listed [] (v ∷ vs) regs s k range r is = absurd cc
listed (i ∷ ins) [] regs s k range r is = absurd r
listed (i ∷ ins) (v ∷ vs) regs s k range r is =
    let input = r.0.1 0 (bit Input) refl in
    let register = r.0.1 1 (bit (Reg 0)) refl in
    let small : nets.at v 0 < 2 = subst (λ (m : ℕ). m < 2) (sym input) (range.0 0 (bit Input) refl refl) in
    let held : nets.at v 1 < 2 = subst (λ (m : ℕ). m < 2) (sym register) k in
    let now : IsAt (nets.at v 1) s = subst (λ (b : ℕ). IsAt b s) (sym register) is in
    let m = made (nets.at v 0) (nets.at v 1) s in
    let (ms, rest, as_many, told) =
    listed ins vs (next_registers skip_circuit.cells v) m.after small range.1 r.1 (after_cycle (nets.at v 0) (nets.at v 1) s small held now) in (
      m ∷ ms,
      ((λ out inp o n. runs (nets.at v 0) (nets.at v 1) s out inp small held now o n), rest),
      ap suc as_many,
      at_time ms told held now,
    )
  where
    at_time : (ms : List Made) → Told vs (made (nets.at v 0) (nets.at v 1) s).after ms → nets.at v 1 < 2 → IsAt (nets.at v 1) s
        → Told (v ∷ vs) s (made (nets.at v 0) (nets.at v 1) s ∷ ms)
    at_time ms told held now zero l = (v, refl, held, now)
    at_time ms told held now (suc t) l = told t (omega (arith, l))

-- no firing is possible where no request waits
no_firing : (b i : ℕ) (t : Slot) (s w : Tokens) → IsAt b s → Does skip_plan (Fire i t) s w → ⊥
no_firing b i (Req h) s w is (v, r, lies, fires, leads) = by_place (places_of skip_plan (PartEnd i h)) refl
  where
    by_place : (o : Option End) → places_of skip_plan (PartEnd i h) ≡ o → ⊥
    by_place None e = let no : None ≡ Some v = sym (ap (held_at s Request) e) ∙ lies in cc no
    by_place (Some a) e =
        let held : s.in_place Request a ≡ Some v = sym (ap (held_at s Request) e) ∙ lies in
        let no : None ≡ Some v = sym (is.no_request a) ∙ held in cc no
no_firing b zero (Ans h) s w is (v, r, lies, fires, leads) =
    let rest = is.rests 0 in grind (arith, fires, rest)
no_firing b (suc i) (Ans h) s w is (v, r, lies, fires, leads) = grind (arith, fires)

-- an answer that waits is shown
shown : (a b n : ℕ) → b < 2 → (if nat_eq b 1 then Some 0 else None) ≡ Some n
    → Contains (outs_of skip_plan (filter is_output (all_pulses a b))) (Out (ResultEnd 0) n)
shown a zero n k e = absurd cc
shown a (suc zero) n k e = by_input (nat_eq a 1) refl
  where
    same : 0 ≡ n
    same = cc e

    by_input : (t : Bool) → nat_eq a 1 ≡ t → Contains (outs_of skip_plan (filter is_output (all_pulses a 1))) (Out (ResultEnd 0) n)
    by_input true t = rw t (0, omega arith, ap (Out (ResultEnd 0)) same)
    by_input false t = rw t (0, omega arith, ap (Out (ResultEnd 0)) same)
shown a (suc (suc b)) n k e = absurd (omega (arith, k))

soon : (vs : List Numbers) (s after : Tokens) (ms : List Made) (t : ℕ) (x : Element) → Told vs s ms → t < length ms
    → Does skip_plan x (state_after s ms t) after → IsMadeSoon skip_plan skip_circuit vs ms t x
soon vs s after ms t (In e n) told l does = tt
soon vs s after ms t (Fire i k) told l does =
    let (v, there, small, is) = told t l in absurd (no_firing (nets.at v 1) i k (state_after s ms t) after is does)
soon vs s after ms t (Out (PartEnd i h) n) told l does = absurd does.0
soon vs s after ms t (Out (ImportEnd i h) n) told l does = absurd (grind (arith, does.1))
soon vs s after ms t (Out (ResultEnd zero) n) told l does =
    let (v, there, small, is) = told t l in
    let waits : (if nat_eq (nets.at v 1) 1 then Some 0 else None) ≡ Some n = sym is.answer ∙ does.1.0 in
    (t, v, omega arith, omega arith, there, shown (nets.at v 0) (nets.at v 1) n small waits)
soon vs s after ms t (Out (ResultEnd (suc h)) n) told l does = absurd (grind (arith, does.1))

pub skip_is_listed : SkipIsListed
skip_is_listed ins vs range r =
    let first : IsAt 0 at_first = record { no_request = λ e. refl; answer = refl; no_other = λ e apart. refl; rests = λ i. refl } in
    let (ms, makes, as_many, told) = listed ins vs (0 ∷ 0 ∷ []) at_first (omega arith) range r first in (
      at_first,
      ms,
      ((λ way e. refl), λ i. refl),
      makes,
      (λ t x after l does. soon vs at_first after ms t x told (omega (arith, l)) does),
      inl as_many,
    )

-- done comes where nothing can be put out
pub eager_is_not_listed : EagerIsNotListed
eager_is_not_listed (s, ms, idle, makes, prompt, ends) = by_cycles ms makes ends
  where
    none : (xs : List Element) (t : Tokens) → Runs skip_plan (Out (ResultEnd 0) 0 ∷ xs) s t → ⊥
    none xs t (w, does, rest) = let no : None ≡ Some 0 = sym (idle.0 Answer (ResultEnd 0)) ∙ does.1.0 in cc no

    by_cycles : (ms : List Made) → MakesCycles skip_plan eager_circuit ((0 ∷ 1 ∷ []) ∷ []) s ms
        → (length ms ≡ 1) ⊎ IsBroken skip_plan eager_circuit ((0 ∷ 1 ∷ []) ∷ []) s ms → ⊥
    by_cycles [] makes (inl e) = omega (arith, e)
    by_cycles [] makes (inr (v, fs, t, there, broken, out_of_order)) =
        let is : (0 ∷ 1 ∷ []) ≡ v = cc there in
        none _ t (subst (λ (u : Numbers). Runs skip_plan (cycle_list skip_plan (outputs eager_circuit u) (inputs eager_circuit u) fs) s t) (sym is) broken)
    by_cycles (m ∷ ms) makes ends = none _ m.after (makes.0 (done ∷ []) [] ([], [], refl, refl) refl)
