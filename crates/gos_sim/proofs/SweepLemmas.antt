-- Items, one after another: where one is evaluated and its readers are marked, all that isn't marked stands as it must.
use Rattle.std.specs.Prelude.{◌≡◌, ◌≢◌, ℕ, ◌+◌, ◌<◌, ◌-◌, ◌≤◌, ◌⊎◌, List, [], ◌∷◌, ◌++◌, All, Some, length, set, slice_get}
use Rattle.std.proofs.Common.{arith, refl, ap, sym, subst, inl, inr, ◌∙◌, get_or-set_same, get_or-set_other}
use Rattle.std.proofs.lemmas.Bool.{cases_eq}
use Rattle.std.proofs.lemmas.List.Elements.{All-contains, All-push}
use Rattle.std.proofs.lemmas.Option.{slice_get_within}
use Rattle.gos_netlist.specs.Nets.{Cell}
use Rattle.gos_netlist.specs.Settling.{Numbers, at, shown}
use Rattle.gos_netlist.specs.Seen.{function_of}
use Rattle.gos_netlist.proofs.SettlingLemmas.{same_shown}
use Rattle.gos_sim.specs.declared.program.Step.{Step}
use Rattle.gos_sim.specs.declared.program.Latch.{Latch}
use Rattle.gos_sim.specs.declared.log.Log.{Log}
use Rattle.gos_sim.specs.declared.wake.Wake.{Wake}
use Rattle.gos_sim.specs.declared.active.Active.{Active}
use Rattle.gos_sim.specs.inner.Program.{HasLatch, HaveOneCell, reads}
use Rattle.gos_sim.specs.inner.Running.{AreShown, AreTaken, HaveOnePin}
use Rattle.gos_sim.specs.inner.Marks.{IsUnmarked}
use Rattle.gos_sim.specs.inner.Readers.{ReadAll, Reads}
use Rattle.gos_sim.specs.inner.Active.{Follows, HasSwept, Lacks, Stand, StandBut}
use Rattle.gos_sim.proofs.PlaceLemmas.{same_element}
use Rattle.gos_sim.proofs.OrderLemmas.{contains_at}
use Rattle.gos_sim.proofs.StepLemmas.{kept_by_step}
use Rattle.gos_sim.proofs.LatchLemmas.{kept_by_latch}

-- a step that isn't marked shows what it showed
pub shows_same : (steps : List Step) (latches : List Latch) (old new : Wake) (v w : Numbers) (k : ℕ) (s : Step) → ReadAll steps latches old.readers
    → Follows old new v w → slice_get steps k ≡ Some s → IsUnmarked new.marks.words.items k
    → shown s.width (function_of s.gate) 0 0 (at w) ≡ shown s.width (function_of s.gate) 0 0 (at v)
shows_same steps latches old new v w k s reading follows is bare =
    same_shown s.width 0 0 (function_of s.gate) (at w) (at v)
    (λ a read. follows.marked a k (All-contains (λ p. Reads old.readers p k) (reads s) a (reading.stepped k s is) read) bare)

-- a step is evaluated
pub stand_step : (steps : List Step) (latches : List Latch) (old new : Wake) (v registers : Numbers) (k x : ℕ) (t : Step) → HaveOneCell steps
    → slice_get steps k ≡ Some t → t.net < length v → x ≡ shown t.width (function_of t.gate) 0 0 (at v) → ReadAll steps latches old.readers
    → Follows old new v (set v t.net x) → StandBut steps latches old.marks.words.items v registers k
    → Stand steps latches new.marks.words.items (set v t.net x) registers
stand_step steps latches old new v registers k x t one is low e reading follows stand =
    record {
      shown = λ j s at_j bare. by_place j s at_j bare (cases_eq j k);
      taken = λ j l at_j bare.
          let within : k < length steps = slice_get_within steps k t is in
          stand.taken j l at_j (follows.kept (length steps + j) bare) (λ same. absurd (omega (arith, same, within)))
          ∙ sym (follows.marked l.pin (length steps + j) (reading.latched j l at_j) bare);
    }
  where
    w : Numbers
    w = set v t.net x

    by_net : (j : ℕ) (s : Step) → slice_get steps j ≡ Some s → at v s.net ≡ shown s.width (function_of s.gate) 0 0 (at v)
        → (s.net ≡ t.net) ⊎ (s.net ≢ t.net) → at w s.net ≡ shown s.width (function_of s.gate) 0 0 (at v)
    by_net j s at_j old_shown (inl same) =
        ap (at w) same
        ∙ (get_or-set_same v t.net x 0 low ∙ (e ∙ ap (λ (c : Cell). shown c.width c.gate 0 0 (at v)) (sym (one j k s t at_j is same))))
    by_net j s at_j old_shown (inr apart) = get_or-set_other v t.net s.net x 0 apart ∙ old_shown

    by_place : (j : ℕ) (s : Step) → slice_get steps j ≡ Some s → IsUnmarked new.marks.words.items j → (j ≡ k) ⊎ (j ≢ k)
        → at w s.net ≡ shown s.width (function_of s.gate) 0 0 (at w)
    by_place j s at_j bare (inl here) =
        let same : t ≡ s = same_element steps k t s is (subst (λ (n : ℕ). slice_get steps n ≡ Some s) here at_j) in
        let now : at w t.net ≡ shown t.width (function_of t.gate) 0 0 (at v) = get_or-set_same v t.net x 0 low ∙ e in
        subst (λ (u : Step). at w u.net ≡ shown u.width (function_of u.gate) 0 0 (at v)) same now
        ∙ sym (shows_same steps latches old new v w j s reading follows at_j bare)
    by_place j s at_j bare (inr apart) =
        by_net j s at_j (stand.shown j s at_j (follows.kept j bare) apart) (cases_eq s.net t.net)
        ∙ sym (shows_same steps latches old new v w j s reading follows at_j bare)

-- a register takes over
pub stand_latch : (steps : List Step) (latches : List Latch) (marks v registers : Numbers) (item k : ℕ) (l : Latch) → HaveOnePin latches
    → slice_get latches k ≡ Some l → item ≡ length steps + k → l.net < length registers → StandBut steps latches marks v registers item
    → Stand steps latches marks v (set registers l.net (at v l.pin))
stand_latch steps latches marks v registers item k l one is place low stand =
    record {
      shown = λ j s at_j bare.
          let within : j < length steps = slice_get_within steps j s at_j in
          stand.shown j s at_j bare (λ same. absurd (omega (arith, same, place, within)));
      taken = λ j m at_j bare. by_net j m at_j bare (cases_eq m.net l.net);
    }
  where
    by_net : (j : ℕ) (m : Latch) → slice_get latches j ≡ Some m → IsUnmarked marks (length steps + j) → (m.net ≡ l.net) ⊎ (m.net ≢ l.net)
        → at (set registers l.net (at v l.pin)) m.net ≡ at v m.pin
    by_net j m at_j bare (inl same) =
        ap (at (set registers l.net (at v l.pin))) same
        ∙ (get_or-set_same registers l.net (at v l.pin) 0 low ∙ ap (at v) (sym (one j k m l at_j is same)))
    by_net j m at_j bare (inr apart) =
        get_or-set_other registers l.net m.net (at v l.pin) 0 apart
        ∙ stand.taken j m at_j bare
        (λ same.
        let here : j ≡ k = omega (arith, same, place) in
        let it : m ≡ l = same_element latches k m l (subst (λ (n : ℕ). slice_get latches n ≡ Some m) here at_j) is in
        apart (ap (λ (r : Latch). r.net) it))

-- an item that is neither a step nor a register is none
pub stand_none : (steps : List Step) (latches : List Latch) (marks v registers : Numbers) (item : ℕ) → length steps ≤ item
    → length latches ≤ item - length steps → StandBut steps latches marks v registers item → Stand steps latches marks v registers
stand_none steps latches marks v registers item past beyond stand =
    record {
      shown = λ j s at_j bare.
          let within : j < length steps = slice_get_within steps j s at_j in
          stand.shown j s at_j bare (λ same. absurd (omega (arith, same, past, within)));
      taken = λ j l at_j bare.
          let within : j < length latches = slice_get_within latches j l at_j in
          stand.taken j l at_j bare (λ same. absurd (omega (arith, same, beyond, within)));
    }

-- the inputs are given and the registers loaded, where all stood as it must
pub stand_begun : (steps : List Step) (latches : List Latch) (old new : Wake) (v w registers : Numbers) → ReadAll steps latches old.readers
    → Follows old new v w → AreShown steps v → AreTaken latches v registers
    → ((k : ℕ) (s : Step) → slice_get steps k ≡ Some s → at w s.net ≡ at v s.net) → Stand steps latches new.marks.words.items w registers
stand_begun steps latches old new v w registers reading follows all_shown taken kept =
    record {
      shown = λ k s at_k bare. kept k s at_k ∙ (all_shown k s at_k ∙ sym (shows_same steps latches old new v w k s reading follows at_k bare));
      taken = λ j l at_j bare. taken j l at_j ∙ sym (follows.marked l.pin (length steps + j) (reading.latched j l at_j) bare);
    }

-- a step is evaluated: the cycle has come further
pub swept_step : (steps : List Step) (latches : List Latch) (start loaded held : Numbers) (old new : Active) (v registers : Numbers) (k x : ℕ) (t : Step)
    → ((j : ℕ) (l : Latch) → slice_get latches j ≡ Some l → All (λ s. s.net ≢ l.net) steps) → slice_get steps k ≡ Some t
    → Follows old.wake new.wake v (set v t.net x) → new.changed ≡ old.changed → HasSwept steps latches start loaded held old v registers
    → HasSwept steps latches start loaded held new (set v t.net x) registers
swept_step steps latches start loaded held old new v registers k x t apart is follows same swept =
    record {
      noted = λ place lacks. let sooner = follows.noted place lacks in sooner.1 ∙ swept.noted place sooner.0;
      others = λ n free. kept_by_step steps v k n x t is free ∙ swept.others n free;
      rest = swept.rest;
      unchanged = λ j l at_j lacks.
          kept_by_step steps v k l.net x t is (apart j l at_j) ∙ swept.unchanged j l at_j (subst (λ (log : Log). Lacks log l.net) same lacks);
      listed = subst (λ (log : Log). All (HasLatch latches) log.places.items) (sym same) swept.listed;
    }

-- and a register takes over
pub swept_latch : (steps : List Step) (latches : List Latch) (start loaded held : Numbers) (old new : Active) (v registers : Numbers) (k : ℕ) (l : Latch)
    → slice_get latches k ≡ Some l → new.wake ≡ old.wake
    → ((p : ℕ) → Lacks new.changed p → Lacks old.changed p × (at (set registers l.net (at v l.pin)) p ≡ at registers p))
    → (new.changed.places.items ≡ old.changed.places.items) ⊎ (new.changed.places.items ≡ old.changed.places.items ++ l.net ∷ [])
    → HasSwept steps latches start loaded held old v registers → HasSwept steps latches start loaded held new v (set registers l.net (at v l.pin))
swept_latch steps latches start loaded held old new v registers k l is same noted listed swept =
    record {
      noted = λ place lacks. swept.noted place (subst (λ (w : Wake). Lacks w.touched place) same lacks);
      others = swept.others;
      rest = λ n free. kept_by_latch latches registers k n (at v l.pin) l is free ∙ swept.rest n free;
      unchanged = λ j m at_j lacks. let sooner = noted m.net lacks in swept.unchanged j m at_j sooner.0 ∙ sym sooner.1;
      listed = by_list listed;
    }
  where
    has : HasLatch latches l.net
    has = (l, contains_at latches k l is, refl)

    by_list : (new.changed.places.items ≡ old.changed.places.items) ⊎ (new.changed.places.items ≡ old.changed.places.items ++ l.net ∷ [])
        → All (HasLatch latches) new.changed.places.items
    by_list (inl e) = subst (All (HasLatch latches)) (sym e) swept.listed
    by_list (inr e) = subst (All (HasLatch latches)) (sym e) (All-push (HasLatch latches) old.changed.places.items l.net swept.listed has)
