-- Plans of nets, and the same ones at the places of these nets.
use Rattle.std.specs.Prelude.{◌≡◌, ◌≢◌, ℕ, suc, ◌+◌, ◌<◌, ◌≤◌, ◌⊎◌, List, [], ◌∷◌, ◌++◌, All, Option, Some, None, get_or, length, map, nat_eq, replicate, slice_get}
use Rattle.std.specs.Option.{option_map}
use Rattle.std.proofs.Common.{arith, refl, sym, ap, subst, inl, inr, ◌∙◌}
use Rattle.std.proofs.lemmas.Bool.{cases_order}
use Rattle.std.proofs.lemmas.List.{length-map, get_or-replicate, get_or_past, length-append, length-replicate, ext_get_or}
use Rattle.std.proofs.lemmas.List.Elements.{All-contains, All-map, All-weaker}
use Rattle.std.proofs.lemmas.Option.{slice_get-get_or, slice_get_within, get_or_from_slice_get}
use Rattle.gos_netlist.specs.declared.nets.Gate.TheVariants as gates
use Rattle.gos_netlist.specs.Nets.{Function, Input, Const, Not, And, Or, Xor, Mux, Add, Sub, Eq, Less, Gate, Reg, Cell, pins}
use Rattle.gos_netlist.specs.Renamed.{renamed}
use Rattle.gos_netlist.specs.Seen.{function_of}
use Rattle.gos_netlist.specs.Settling.{Numbers, at, shown}
use Rattle.gos_netlist.proofs.SettlingLemmas.{same_shown}
use Rattle.gos_sim.specs.declared.event_nets.EventNets.{EventNets}
use Rattle.gos_sim.specs.declared.pulse.Pulse.{Pulse}
use Rattle.gos_sim.specs.declared.program.Step.{Step}
use Rattle.gos_sim.specs.declared.program.Latch.{Latch}
use Rattle.gos_sim.specs.EventNets.{Names, OnNets, OnNumber}
use Rattle.gos_sim.specs.Cycle.{Gives, GivesAll, HasNumber, number_shown, pulse_shown}
use Rattle.gos_sim.specs.inner.Program.{IsLatchWithin, IsShort, IsSized, IsStepWithin, Spares, cell_of_step, reads}
use Rattle.gos_sim.specs.inner.Running.{AreLoaded, AreShown, AreTaken, HaveOnePin, KeepsOtherSteps, KeepsOthers}
use Rattle.gos_sim.specs.inner.Ready.{AreApart, AreTwo}
use Rattle.gos_sim.specs.inner.Evaluation.{bits_of}
use Rattle.gos_sim.specs.inner.Places.{AreStepsMoved, IsNumbering, IsStepMoved, by_net, event_moved, latch_moved}
use Rattle.gos_sim.specs.inner.Machine.{IsMoved, IsRunnable, Plan, RunsThrough, SettlesAtReset}
use Rattle.gos_sim.proofs.PlaceLemmas.{all_at, all_of_at, moved_at, moved_from}
use Rattle.gos_sim.proofs.ProgramLemmas.{pushed}

-- the value of a net is the one at its place
pub at_by_net : (places v : Numbers) (n : ℕ) → n < length places → at (by_net places v) n ≡ at v (at places n)
at_by_net places v n below =
    get_or_from_slice_get (by_net places v) n (at v (at places n)) 0 (moved_at (at v) places n (at places n) (slice_get-get_or places n 0 below))

-- what is no net has none
none_by_net : (places v : Numbers) (n : ℕ) → length places ≤ n → at (by_net places v) n ≡ 0
none_by_net places v n past = get_or_past (by_net places v) n 0 (subst (λ (k : ℕ). k ≤ n) (sym (length-map places (at v))) past)

-- so what two lists have in common at places they have at nets
same_by_net : (places u v : Numbers) (n : ℕ) → (n < length places → at u (at places n) ≡ at v (at places n)) → at (by_net places u) n ≡ at (by_net places v) n
same_by_net places u v n same = by_order (cases_order n (length places))
  where
    by_order : (n ≡ length places) ⊎ ((n < length places) ⊎ (length places < n)) → at (by_net places u) n ≡ at (by_net places v) n
    by_order (inl e) = none_by_net places u n (omega (arith, e)) ∙ sym (none_by_net places v n (omega (arith, e)))
    by_order (inr (inl below)) = at_by_net places u n below ∙ (same below ∙ sym (at_by_net places v n below))
    by_order (inr (inr past)) = none_by_net places u n (omega (arith, past)) ∙ sym (none_by_net places v n (omega (arith, past)))

-- zeros are zeros at any places
pub zeros_by_net : (places : Numbers) (count : ℕ) → by_net places (replicate count 0) ≡ replicate (length places) 0
zeros_by_net places count =
    let none : ℕ = 0 in
    ext_get_or 0 (by_net places (replicate count none)) (replicate (length places) none)
    (length-map places (at (replicate count none)) ∙ sym (length-replicate (length places) none))
    (λ n below. at_zero n (subst (λ (k : ℕ). n < k) (length-map places (at (replicate count 0))) below))
  where
    zero_at : (k : ℕ) → at (replicate count 0) k ≡ 0
    zero_at k = by_order (cases_order k count)
      where
        none : ℕ
        none = 0

        long : length (replicate count none) ≡ count
        long = length-replicate count none

        by_order : (k ≡ count) ⊎ ((k < count) ⊎ (count < k)) → at (replicate count 0) k ≡ 0
        by_order (inl e) = get_or_past (replicate count 0) k 0 (omega (arith, e, long))
        by_order (inr (inl below)) = get_or-replicate count k 0 0 below
        by_order (inr (inr past)) = get_or_past (replicate count 0) k 0 (omega (arith, past, long))

    at_zero : (n : ℕ) → n < length places → at (by_net places (replicate count 0)) n ≡ at (replicate (length places) 0) n
    at_zero n below = at_by_net places (replicate count 0) n below ∙ (zero_at (at places n) ∙ sym (get_or-replicate (length places) n 0 0 below))

-- the pins of a moved function
pub pins_moved : (p : ℕ → ℕ) (f : Function) → pins (renamed p f) ≡ map p (pins f)
pins_moved p Input = refl
pins_moved p (Const k) = refl
pins_moved p (Not a) = refl
pins_moved p (And a b) = refl
pins_moved p (Or a b) = refl
pins_moved p (Xor a b) = refl
pins_moved p (Mux s a b) = refl
pins_moved p (Add a b) = refl
pins_moved p (Sub a b) = refl
pins_moved p (Eq a b) = refl
pins_moved p (Less a b) = refl
pins_moved p (Gate s a) = refl
pins_moved p (Reg a) = refl

short_moved : (bits : ℕ) (p : ℕ → ℕ) (f : Function) → IsShort bits f → IsShort bits (renamed p f)
short_moved bits p Input h = tt
short_moved bits p (Const k) h = h
short_moved bits p (Not a) h = tt
short_moved bits p (And a b) h = tt
short_moved bits p (Or a b) h = tt
short_moved bits p (Xor a b) h = tt
short_moved bits p (Mux s a b) h = tt
short_moved bits p (Add a b) h = tt
short_moved bits p (Sub a b) h = tt
short_moved bits p (Eq a b) h = tt
short_moved bits p (Less a b) h = tt
short_moved bits p (Gate s a) h = tt
short_moved bits p (Reg a) h = tt

-- it shows what the function shows of the values at its places
shown_moved : (w : ℕ) (p : ℕ → ℕ) (f : Function) (v : ℕ → ℕ) → shown w (renamed p f) 0 0 v ≡ shown w f 0 0 (λ a. v (p a))
shown_moved w p Input v = refl
shown_moved w p (Const k) v = refl
shown_moved w p (Not a) v = refl
shown_moved w p (And a b) v = refl
shown_moved w p (Or a b) v = refl
shown_moved w p (Xor a b) v = refl
shown_moved w p (Mux s a b) v = refl
shown_moved w p (Add a b) v = refl
shown_moved w p (Sub a b) v = refl
shown_moved w p (Eq a b) v = refl
shown_moved w p (Less a b) v = refl
shown_moved w p (Gate s a) v = refl
shown_moved w p (Reg a) v = refl

-- a step and the moved one, from either
any_step : Step
any_step = record { net = 0; width = 0; gate = gates.Input }

pub step_from : (p : ℕ → ℕ) (old new : List Step) (j : ℕ) (t : Step) → AreStepsMoved p old new → slice_get new j ≡ Some t
    → (s : Step) × (slice_get old j ≡ Some s) × IsStepMoved p s t
step_from p old new j t are is =
    let below : j < length old = omega (arith, slice_get_within new j t is, are.each) in
    let at_old = slice_get-get_or old j any_step below in
    (get_or old j any_step, at_old, are.moved j (get_or old j any_step) t at_old is)

pub step_to : (p : ℕ → ℕ) (old new : List Step) (j : ℕ) (s : Step) → AreStepsMoved p old new → slice_get old j ≡ Some s
    → (t : Step) × (slice_get new j ≡ Some t) × IsStepMoved p s t
step_to p old new j s are is =
    let below : j < length new = omega (arith, slice_get_within old j s is, are.each) in
    let at_new = slice_get-get_or new j any_step below in
    (get_or new j any_step, at_new, are.moved j s (get_or new j any_step) is at_new)

-- moved steps, and one more
pub steps_pushed : (p : ℕ → ℕ) (old new : List Step) (s t : Step) → AreStepsMoved p old new → IsStepMoved p s t → AreStepsMoved p (old ++ s ∷ []) (new ++ t ∷ [])
steps_pushed p old new s t are m =
    record {
      each = length-append new (t ∷ []) ∙ (ap (λ (n : ℕ). n + 1) are.each ∙ sym (length-append old (s ∷ [])));
      moved = λ j u w at_u at_w. by_place j u w (pushed old s u j at_u) (pushed new t w j at_w);
    }
  where
    by_place : (j : ℕ) (u w : Step) → (slice_get old j ≡ Some u) × (j < length old) ⊎ (j ≡ length old) × (s ≡ u)
        → (slice_get new j ≡ Some w) × (j < length new) ⊎ (j ≡ length new) × (t ≡ w) → IsStepMoved p u w
    by_place j u w (inl (at_u, below)) (inl (at_w, too)) = are.moved j u w at_u at_w
    by_place j u w (inl (at_u, below)) (inr (end, one)) = absurd (omega (arith, below, end, are.each))
    by_place j u w (inr (end, one)) (inl (at_w, below)) = absurd (omega (arith, below, end, are.each))
    by_place j u w (inr (end, one)) (inr (last, same)) = subst (IsStepMoved p u) same (subst (λ (x : Step). IsStepMoved p x t) one m)

pub reads_moved : (p : ℕ → ℕ) (s t : Step) → IsStepMoved p s t → reads t ≡ map p (reads s)
reads_moved p s t m = ap pins m.gate ∙ pins_moved p (function_of s.gate)

-- bits that don't matter change nothing of what is shown
shown_bits : (w : ℕ) (p : ℕ → ℕ) (f : Function) (v : ℕ → ℕ) → shown (bits_of f w) (renamed p f) 0 0 v ≡ shown w (renamed p f) 0 0 v
shown_bits w p Input v = refl
shown_bits w p (Const k) v = refl
shown_bits w p (Not a) v = refl
shown_bits w p (And a b) v = refl
shown_bits w p (Or a b) v = refl
shown_bits w p (Xor a b) v = refl
shown_bits w p (Mux s a b) v = refl
shown_bits w p (Add a b) v = refl
shown_bits w p (Sub a b) v = refl
shown_bits w p (Eq a b) v = refl
shown_bits w p (Less a b) v = refl
shown_bits w p (Gate s a) v = refl
shown_bits w p (Reg a) v = refl

bits_small : (f : Function) (w bits : ℕ) → w ≤ bits → bits_of f w ≤ bits
bits_small Input w bits h = omega arith
bits_small (Const k) w bits h = omega arith
bits_small (Not a) w bits h = h
bits_small (And a b) w bits h = omega arith
bits_small (Or a b) w bits h = omega arith
bits_small (Xor a b) w bits h = omega arith
bits_small (Mux s a b) w bits h = omega arith
bits_small (Add a b) w bits h = h
bits_small (Sub a b) w bits h = h
bits_small (Eq a b) w bits h = omega arith
bits_small (Less a b) w bits h = omega arith
bits_small (Gate s a) w bits h = omega arith
bits_small (Reg a) w bits h = omega arith

-- steps show at places what they show at nets
shown_by_net : (places v : Numbers) (old new : List Step) → AreStepsMoved (at places) old new → All (IsStepWithin (length places)) old → AreShown new v
    → AreShown old (by_net places v)
shown_by_net places v old new are within all = λ j s is.
    let (t, at_t, m) = step_to (at places) old new j s are is in
    let here : IsStepWithin (length places) s = all_at (IsStepWithin (length places)) old j s within is in
    at_by_net places v s.net here.net
    ∙ (ap (at v) (sym m.net)
    ∙ (all j t at_t
    ∙ ((λ i. shown (m.width i) (m.gate i) 0 0 (at v))
    ∙ (shown_bits s.width (at places) (function_of s.gate) (at v)
    ∙ (shown_moved s.width (at places) (function_of s.gate) (at v)
    ∙ same_shown s.width 0 0 (function_of s.gate) (λ a. at v (at places a)) (at (by_net places v))
    (λ a read. sym (at_by_net places v a (All-contains (λ b. b < length places) (reads s) a here.reads read))))))))

-- and keep at places what they keep at nets
kept_by_net : (places u v : Numbers) (count : ℕ) (old new : List Step) → AreStepsMoved (at places) old new → All (IsStepWithin (length places)) old
    → IsNumbering places count → KeepsOtherSteps new u v → KeepsOtherSteps old (by_net places u) (by_net places v)
kept_by_net places u v count old new are within numbering kept = λ n free.
    same_by_net places v u n (λ below. kept (at places n) (all_of_at (λ t. t.net ≢ at places n) new (λ k t is. apart n below free k t is)))
  where
    apart : (n : ℕ) → n < length places → All (λ s. s.net ≢ n) old → (k : ℕ) (t : Step) → slice_get new k ≡ Some t → t.net ≢ at places n
    apart n below free k t is same =
        let (s, at_s, m) = step_from (at places) old new k t are is in
        let here : IsStepWithin (length places) s = all_at (IsStepWithin (length places)) old k s within at_s in
        all_at (λ (s : Step). s.net ≢ n) old k s free at_s (numbering.one s.net n here.net below (sym m.net ∙ same))

-- so do registers
loaded_by_net : (places held v : Numbers) (old : List Latch) → All (IsLatchWithin (length places)) old → AreLoaded (map (latch_moved (at places)) old) held v
    → AreLoaded old (by_net places held) (by_net places v)
loaded_by_net places held v old within loaded = λ j l is.
    let here : IsLatchWithin (length places) l = all_at (IsLatchWithin (length places)) old j l within is in
    at_by_net places v l.net here.net
    ∙ (loaded j (latch_moved (at places) l) (moved_at (latch_moved (at places)) old j l is) ∙ sym (at_by_net places held l.net here.net))

taken_by_net : (places v after : Numbers) (old : List Latch) → All (IsLatchWithin (length places)) old → AreTaken (map (latch_moved (at places)) old) v after
    → AreTaken old (by_net places v) (by_net places after)
taken_by_net places v after old within taken = λ j l is.
    let here : IsLatchWithin (length places) l = all_at (IsLatchWithin (length places)) old j l within is in
    at_by_net places after l.net here.net
    ∙ (taken j (latch_moved (at places) l) (moved_at (latch_moved (at places)) old j l is) ∙ sym (at_by_net places v l.pin here.pin))

others_by_net : (places u v : Numbers) (count : ℕ) (old : List Latch) → All (IsLatchWithin (length places)) old → IsNumbering places count
    → KeepsOthers (map (latch_moved (at places)) old) u v → KeepsOthers old (by_net places u) (by_net places v)
others_by_net places u v count old within numbering kept = λ n free.
    same_by_net places v u n (λ below. kept (at places n) (All-map (λ m. m.net ≢ at places n) (latch_moved (at places)) old
    (all_of_at (λ l. at places l.net ≢ at places n) old (λ k l is. apart n below free k l is))))
  where
    apart : (n : ℕ) → n < length places → All (λ l. l.net ≢ n) old → (k : ℕ) (l : Latch) → slice_get old k ≡ Some l → at places l.net ≢ at places n
    apart n below free k l is same =
        let here : IsLatchWithin (length places) l = all_at (IsLatchWithin (length places)) old k l within is in
        all_at (λ (l : Latch). l.net ≢ n) old k l free is (numbering.one l.net n here.net below same)

-- and events
given_by_net : (places v : Numbers) (e : EventNets) (q : Pulse) → OnNets (λ a. a < length places) e → Gives v (event_moved (at places) e) q → Gives (by_net places v) e q
given_by_net places v e q on given = (at_by_net places v e.pulse on.0 ∙ given.0, number e.number on.1 given.1)
  where
    number : (o : Option ℕ) → OnNumber (λ a. a < length places) o → HasNumber v (option_map (at places) o) q.value → HasNumber (by_net places v) o q.value
    number None below h = tt
    number (Some x) below h = at_by_net places v x below ∙ h

all_given_by_net : (places v : Numbers) (es : List EventNets) (qs : List Pulse) → All (OnNets (λ a. a < length places)) es
    → GivesAll (map (event_moved (at places)) es) qs v → GivesAll es qs (by_net places v)
all_given_by_net places v es qs on given = λ k e q at_e at_q.
    given_by_net places v e q (all_at (OnNets (λ a. a < length places)) es k e on at_e)
    (given k (event_moved (at places) e) q (moved_at (event_moved (at places)) es k e at_e) at_q)

pulse_by_net : (places v : Numbers) (e : EventNets) → OnNets (λ a. a < length places) e → pulse_shown v (event_moved (at places) e) ≡ pulse_shown (by_net places v) e
pulse_by_net places v e on =
    let same = sym (at_by_net places v e.pulse on.0) in
    (λ i. record { on = nat_eq (same i) 1; value = number e.number on.1 i })
  where
    number : (o : Option ℕ) → OnNumber (λ a. a < length places) o → number_shown v (option_map (at places) o) ≡ number_shown (by_net places v) o
    number None below = refl
    number (Some x) below = sym (at_by_net places v x below)

pub pulses_by_net : (places v : Numbers) (es : List EventNets) → All (OnNets (λ a. a < length places)) es
    → map (pulse_shown v) (map (event_moved (at places)) es) ≡ map (pulse_shown (by_net places v)) es
pulses_by_net places v [] on = refl
pulses_by_net places v (e ∷ es) on =
    let first = pulse_by_net places v e (all_at (OnNets (λ a. a < length places)) (e ∷ es) 0 e on refl) in
    let others = pulses_by_net places v es (all_of_at (OnNets (λ a. a < length places)) es (λ k f is. all_at (OnNets (λ a. a < length places)) (e ∷ es) (suc k) f on is)) in
    (λ i. first i ∷ others i)

-- an event at its places names the places of its nets
named : (places : Numbers) (e : EventNets) (x : ℕ) → OnNets (λ a. a < length places) e → Names (event_moved (at places) e) x
    → (a : ℕ) × Names e a × (a < length places) × (at places a ≡ x)
named places e x on (inl same) = (e.pulse, inl refl, on.0, sym same)
named places e x on (inr is) = number e.number refl on.1 is
  where
    number : (o : Option ℕ) → e.number ≡ o → OnNumber (λ a. a < length places) o → option_map (at places) o ≡ Some x
        → (a : ℕ) × Names e a × (a < length places) × (at places a ≡ x)
    number None same below is = absurd (cc)
    number (Some a) same below is = (a, inr same, below, cc)

apart_moved : (places : Numbers) (count : ℕ) (es : List EventNets) → All (OnNets (λ a. a < length places)) es → IsNumbering places count → AreApart es
    → AreApart (map (event_moved (at places)) es)
apart_moved places count es on numbering apart =
    record {
      within = All-map AreTwo (event_moved (at places)) es (all_of_at (λ e. AreTwo (event_moved (at places) e)) es
          (λ k e is. two e (all_at (OnNets (λ a. a < length places)) es k e on is) (all_at AreTwo es k e apart.within is)));
      between = λ j k x e f at_e at_f x_e x_f.
          let (old_e, at_j, moved_e) = moved_from (event_moved (at places)) es j e at_e in
          let (old_f, at_k, moved_f) = moved_from (event_moved (at places)) es k f at_f in
          let (a, a_is, a_below, a_there) = named places old_e x (all_at (OnNets (λ a. a < length places)) es j old_e on at_j) (subst (λ (g : EventNets). Names g x) (sym moved_e) x_e) in
          let (b, b_is, b_below, b_there) = named places old_f x (all_at (OnNets (λ a. a < length places)) es k old_f on at_k) (subst (λ (g : EventNets). Names g x) (sym moved_f) x_f) in
          let one : a ≡ b = numbering.one a b a_below b_below (a_there ∙ sym b_there) in
          apart.between j k b old_e old_f at_j at_k (subst (Names old_e) one a_is) b_is;
    }
  where
    two : (e : EventNets) → OnNets (λ a. a < length places) e → AreTwo e → AreTwo (event_moved (at places) e)
    two e below apart = λ x is same. number e.number refl below.1 x is same
      where
        number : (o : Option ℕ) → e.number ≡ o → OnNumber (λ a. a < length places) o → (x : ℕ) → option_map (at places) o ≡ Some x → at places e.pulse ≡ x → ⊥
        number None at_number within x is same = absurd (cc)
        number (Some a) at_number within x is same =
            let there : at places a ≡ x = cc in
            apart a at_number (numbering.one e.pulse a below.0 within (same ∙ sym there))

-- a step that is within, at places
step_within : (places : Numbers) (count : ℕ) (s t : Step) → IsNumbering places count → IsStepMoved (at places) s t → IsStepWithin (length places) s → IsStepWithin count t
step_within places count s t numbering m within =
    record {
      net = subst (λ (n : ℕ). n < count) (sym m.net) (numbering.below s.net within.net);
      reads = subst (All (λ a. a < count)) (sym (reads_moved (at places) s t m))
          (All-map (λ a. a < count) (at places) (reads s) (All-weaker (λ a. a < length places) (λ a. at places a < count) numbering.below (reads s) within.reads));
    }

-- it has at most as many bits
pub bits_moved : (bits : ℕ) (p : ℕ → ℕ) (s t : Step) → IsStepMoved p s t → IsSized bits s → IsSized bits t
bits_moved bits p s t m has =
    record {
      width = subst (λ (w : ℕ). w ≤ bits) (sym m.width) (bits_small (function_of s.gate) s.width bits has.width);
      short = subst (IsShort bits) (sym m.gate) (short_moved bits p (function_of s.gate) has.short);
    }

-- a step that spares what another one reads does so at places
spares_moved : (places : Numbers) (count : ℕ) (s t u w : Step) → IsNumbering places count → IsStepMoved (at places) s u → IsStepMoved (at places) t w
    → IsStepWithin (length places) s → IsStepWithin (length places) t → Spares t (reads s) → Spares w (reads u)
spares_moved places count s t u w numbering moved_s moved_t within_s within_t spares =
    subst (Spares w) (sym (reads_moved (at places) s u moved_s))
    (All-map (λ a. a ≢ w.net) (at places) (reads s) (all_of_at (λ a. at places a ≢ w.net) (reads s) apart))
  where
    apart : (k a : ℕ) → slice_get (reads s) k ≡ Some a → at places a ≢ w.net
    apart k a is same =
        all_at (λ b. b ≢ t.net) (reads s) k a spares is
        (numbering.one a t.net (all_at (λ b. b < length places) (reads s) k a within_s.reads is) within_t.net (same ∙ moved_t.net))

abbrev cell_moved : (ℕ → ℕ) → Cell → Cell
cell_moved p c = record { width = bits_of c.gate c.width; gate = renamed p c.gate }

module _ (places : Numbers) (count : ℕ) (old new : Plan) (move : IsMoved places old new) (numbering : IsNumbering places count)
    (runs : IsRunnable (length places) old) where
  events_within : (es : List EventNets) → All (OnNets (λ a. a < length places)) es → All (OnNets (λ a. a < count)) (map (event_moved (at places)) es)
  events_within es below = All-map (OnNets (λ a. a < count)) (event_moved (at places)) es (All-weaker (OnNets (λ a. a < length places)) (λ e. OnNets (λ a. a < count) (event_moved (at places) e)) one es below)
    where
      number : (o : Option ℕ) → OnNumber (λ a. a < length places) o → OnNumber (λ a. a < count) (option_map (at places) o)
      number None h = tt
      number (Some x) h = numbering.below x h

      one : (e : EventNets) → OnNets (λ a. a < length places) e → OnNets (λ a. a < count) (event_moved (at places) e)
      one e h = (numbering.below e.pulse h.0, number e.number h.1)

  -- a plan that is moved can run over the places
  pub runnable_moved : IsRunnable count new
  runnable_moved =
      record {
        inputs = subst (All (OnNets (λ a. a < count))) (sym move.inputs) (events_within old.inputs runs.inputs);
        outputs = subst (All (OnNets (λ a. a < count))) (sym move.outputs) (events_within old.outputs runs.outputs);
        apart = subst AreApart (sym move.inputs) (apart_moved places count old.inputs runs.inputs numbering runs.apart);
        ordered = λ j k u w at_j at_k order.
            let (s, at_s, moved_s) = step_from (at places) old.steps new.steps j u move.steps at_j in
            let (t, at_t, moved_t) = step_from (at places) old.steps new.steps k w move.steps at_k in
            spares_moved places count s t u w numbering moved_s moved_t (here j s at_s) (here k t at_t) (runs.ordered j k s t at_s at_t order);
        one_cell = λ j k u w at_j at_k same.
            let (s, at_s, moved_s) = step_from (at places) old.steps new.steps j u move.steps at_j in
            let (t, at_t, moved_t) = step_from (at places) old.steps new.steps k w move.steps at_k in
            let net : s.net ≡ t.net = numbering.one s.net t.net (here j s at_s).net (here k t at_t).net (sym moved_s.net ∙ (same ∙ moved_t.net)) in
            let cell : cell_of_step s ≡ cell_of_step t = runs.one_cell j k s t at_s at_t net in
            moved_cell s u moved_s ∙ (ap (cell_moved (at places)) cell ∙ sym (moved_cell t w moved_t));
        steps = all_of_at (IsStepWithin count) new.steps (λ k t is.
            let (s, at_s, moved_s) = step_from (at places) old.steps new.steps k t move.steps is in
            step_within places count s t numbering moved_s (here k s at_s));
        latches = subst (All (IsLatchWithin count)) (sym move.latches) (All-map (IsLatchWithin count) (latch_moved (at places)) old.latches
            (All-weaker (IsLatchWithin (length places)) (λ l. IsLatchWithin count (latch_moved (at places) l)) (λ l h. record { net = numbering.below l.net h.net; pin = numbering.below l.pin h.pin }) old.latches runs.latches));
        one_pin = subst HaveOnePin (sym move.latches) one_pin_moved;
        inputs_apart_from_latches = λ j e x is names. subst (All (λ l. l.net ≢ x)) (sym move.latches) (all_of_at (λ l. l.net ≢ x) (map (latch_moved (at places)) old.latches)
            (λ k l at_k same. no_input_latch j e x k l (subst (λ (es : List EventNets). slice_get es j ≡ Some e) move.inputs is) names at_k same));
        inputs_apart_from_steps = λ j e x is names. all_of_at (λ s. s.net ≢ x) new.steps (λ k t at_k same.
            no_input_moved j e x k t (subst (λ (es : List EventNets). slice_get es j ≡ Some e) move.inputs is) names at_k same);
        apart_from_steps = λ j l is. all_of_at (λ s. s.net ≢ l.net) new.steps (λ k t at_k same. no_step_moved j l k t (subst (λ (ls : List Latch). slice_get ls j ≡ Some l) move.latches is) at_k same);
      }
    where
      here : (k : ℕ) (s : Step) → slice_get old.steps k ≡ Some s → IsStepWithin (length places) s
      here k s is = all_at (IsStepWithin (length places)) old.steps k s runs.steps is

      moved_cell : (s t : Step) → IsStepMoved (at places) s t → cell_of_step t ≡ cell_moved (at places) (cell_of_step s)
      moved_cell s t m = λ i. record { width = m.width i; gate = m.gate i }

      latch_here : (k : ℕ) (l : Latch) → slice_get old.latches k ≡ Some l → IsLatchWithin (length places) l
      latch_here k l is = all_at (IsLatchWithin (length places)) old.latches k l runs.latches is

      one_pin_moved : HaveOnePin (map (latch_moved (at places)) old.latches)
      one_pin_moved = λ j k l m at_j at_k same.
          let (a, at_a, moved_a) = moved_from (latch_moved (at places)) old.latches j l at_j in
          let (b, at_b, moved_b) = moved_from (latch_moved (at places)) old.latches k m at_k in
          let nets : at places a.net ≡ at places b.net = ap (λ (x : Latch). x.net) moved_a ∙ (same ∙ sym (ap (λ (x : Latch). x.net) moved_b)) in
          let pin : a.pin ≡ b.pin = runs.one_pin j k a b at_a at_b (numbering.one a.net b.net (latch_here j a at_a).net (latch_here k b at_b).net nets) in
          sym (ap (λ (x : Latch). x.pin) moved_a) ∙ (ap (at places) pin ∙ ap (λ (x : Latch). x.pin) moved_b)

      no_input_moved : (j : ℕ) (e : EventNets) (x k : ℕ) (t : Step) → slice_get (map (event_moved (at places)) old.inputs) j ≡ Some e → Names e x
          → slice_get new.steps k ≡ Some t → t.net ≢ x
      no_input_moved j e x k t is names at_k same =
          let (f, at_f, moved_f) = moved_from (event_moved (at places)) old.inputs j e is in
          let (s, at_s, moved_s) = step_from (at places) old.steps new.steps k t move.steps at_k in
          let (a, a_is, a_below, a_there) = named places f x (all_at (OnNets (λ a. a < length places)) old.inputs j f runs.inputs at_f)
          (subst (λ (g : EventNets). Names g x) (sym moved_f) names) in
          all_at (λ (s : Step). s.net ≢ a) old.steps k s (runs.inputs_apart_from_steps j f a at_f a_is) at_s
          (numbering.one s.net a (here k s at_s).net a_below (sym moved_s.net ∙ (same ∙ sym a_there)))

      no_input_latch : (j : ℕ) (e : EventNets) (x k : ℕ) (l : Latch) → slice_get (map (event_moved (at places)) old.inputs) j ≡ Some e → Names e x
          → slice_get (map (latch_moved (at places)) old.latches) k ≡ Some l → l.net ≢ x
      no_input_latch j e x k l is names at_k same =
          let (f, at_f, moved_f) = moved_from (event_moved (at places)) old.inputs j e is in
          let (b, at_b, moved_b) = moved_from (latch_moved (at places)) old.latches k l at_k in
          let (a, a_is, a_below, a_there) = named places f x (all_at (OnNets (λ a. a < length places)) old.inputs j f runs.inputs at_f)
          (subst (λ (g : EventNets). Names g x) (sym moved_f) names) in
          all_at (λ (m : Latch). m.net ≢ a) old.latches k b (runs.inputs_apart_from_latches j f a at_f a_is) at_b
          (numbering.one b.net a (latch_here k b at_b).net a_below (ap (λ (m : Latch). m.net) moved_b ∙ (same ∙ sym a_there)))

      no_step_moved : (j : ℕ) (l : Latch) (k : ℕ) (t : Step) → slice_get (map (latch_moved (at places)) old.latches) j ≡ Some l → slice_get new.steps k ≡ Some t → t.net ≢ l.net
      no_step_moved j l k t is at_k same =
          let (a, at_a, moved_a) = moved_from (latch_moved (at places)) old.latches j l is in
          let (s, at_s, moved_s) = step_from (at places) old.steps new.steps k t move.steps at_k in
          all_at (λ (s : Step). s.net ≢ a.net) old.steps k s (runs.apart_from_steps j a at_a) at_s
          (numbering.one s.net a.net (here k s at_s).net (latch_here j a at_a).net (sym moved_s.net ∙ (same ∙ sym (ap (λ (x : Latch). x.net) moved_a))))

  -- a cycle through it is one through the plan of nets
  pub through_by_net : (given seen : List Pulse) (held v after : Numbers) → RunsThrough new given held v seen after
      → RunsThrough old given (by_net places held) (by_net places v) seen (by_net places after)
  through_by_net given seen held v after run =
      let settles = run.settles in
      let loads = subst (λ (ls : List Latch). AreLoaded ls held settles.loaded) move.latches settles.registers in
      record {
        settles = record {
          first = by_net places settles.first;
          loaded = by_net places settles.loaded;
          pulses = all_given_by_net places settles.first old.inputs given runs.inputs (subst (λ (es : List EventNets). GivesAll es given settles.first) move.inputs settles.pulses);
          registers = loaded_by_net places held settles.loaded old.latches runs.latches loads;
          others = others_by_net places settles.first settles.loaded count old.latches runs.latches numbering (subst (λ (ls : List Latch). KeepsOthers ls settles.first settles.loaded) move.latches settles.others);
          evaluated = shown_by_net places v old.steps new.steps move.steps runs.steps settles.evaluated;
          sources = kept_by_net places settles.loaded v count old.steps new.steps move.steps runs.steps numbering settles.sources;
        };
        shows = run.shows ∙ (ap (map (pulse_shown v)) move.outputs ∙ pulses_by_net places v old.outputs runs.outputs);
        taken = taken_by_net places v after old.latches runs.latches (subst (λ (ls : List Latch). AreTaken ls v after) move.latches run.taken);
        rest = others_by_net places held after count old.latches runs.latches numbering (subst (λ (ls : List Latch). KeepsOthers ls held after) move.latches run.rest);
      }

  -- and so is a settling at reset
  pub reset_by_net : (v : Numbers) → SettlesAtReset new v → SettlesAtReset old (by_net places v)
  reset_by_net v settles =
      let zeros : by_net places (replicate (length v) 0) ≡ replicate (length (by_net places v)) 0 = zeros_by_net places (length v) ∙ ap (λ (n : ℕ). replicate n 0) (sym (length-map places (at v))) in
      record {
        evaluated = shown_by_net places v old.steps new.steps move.steps runs.steps settles.evaluated;
        sources = subst (λ (u : Numbers). KeepsOtherSteps old.steps u (by_net places v)) zeros
            (kept_by_net places (replicate (length v) 0) v count old.steps new.steps move.steps runs.steps numbering settles.sources);
      }
