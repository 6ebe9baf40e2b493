-- The pulses of a netlist's ports are what the elements of its plan show.
--
-- A label leads to an end of the plan and back to itself: the ports have the names of the imports, which are
-- different.
use Rattle.std.specs.Prelude.{not}
use Rattle.std.proofs.Common.{◌≡◌, ℕ, zero, suc, ◌+◌, Bool, true, false, List, [], ◌∷◌, ◌++◌, map, filter, Some, None, slice_get, refl, sym, ◌∙◌, ap, subst, arith, if◌then◌else◌, nat_eq}
use Rattle.gos_types.specs.Types.{Type', Com, Exp, Var, Pair, Fun, IsGround, IsDone}
use Rattle.gos_types.specs.Events.{Event, Is, events}
use Rattle.gos_types.proofs.BytesLemmas.{same_bytes_eq}
use Rattle.gos_netlist.specs.Nets.{NetPort, Netlist}
use Rattle.gos_netlist.specs.Settling.{Numbers, at}
use Rattle.gos_model.specs.Typing.{Imported, Imports}
use Rattle.gos_model.specs.Labels.{Port, Given, Taken, Label, is_output}
use Rattle.gos_pace.specs.Flattening.{port_of, if_pulse, pulses_from, port_pulses, pulses, outputs, inputs, AnyOrder}
use Rattle.gos_pace.specs.RunProtocol.{taken_by}
use Rattle.gos_plan.specs.Plans.{Plan}
use Rattle.gos_plan.specs.Tokens.{Element}
use Rattle.gos_pace.specs.Cycles.{import_number, out_of, in_of, outs_of, ins_of}
use Rattle.gos_realises.specs.realises.Matched.{shows, all_shown}
use Rattle.gos_realises.specs.realises.Realises.{AllGround, NamesDiffer}
use Rattle.gos_realises.proofs.realises.PlaceLemmas.{contains_at}
use Rattle.gos_realises.proofs.realises.ToldLemmas.{test_differ}
use Rattle.gos_linked.specs.keeping.Ports.{AreTaken, HasPorts}

-- a label is what its element shows
abbrev pub IsShown : Plan → Label → Type 0
IsShown p l = (is_output l ≡ true → shows p (out_of p l) ≡ l ∷ []) × (is_output l ≡ false → shows p (in_of p l) ≡ l ∷ [])

abbrev pub AllShown : Plan → List Label → Type 0
AllShown p [] = Unit {0}
AllShown p (l ∷ ls) = IsShown p l × AllShown p ls

shown_append : (p : Plan) (ls more : List Label) → AllShown p ls → AllShown p more → AllShown p (ls ++ more)
shown_append p [] more h g = g
shown_append p (l ∷ ls) more h g = (h.0, shown_append p ls more h.1 g)

-- labels as the elements f makes of them
abbrev pub ShowThemselves : Plan → (Label → Element) → List Label → Type 0
ShowThemselves p f [] = Unit {0}
ShowThemselves p f (l ∷ ls) = (shows p (f l) ≡ l ∷ []) × ShowThemselves p f ls

of_outputs : (p : Plan) (ls : List Label) → AllShown p ls → ShowThemselves p (out_of p) (filter is_output ls)
of_outputs p [] h = tt
of_outputs p (l ∷ ls) h = by_test (is_output l) refl (of_outputs p ls h.1)
  where
    by_test : (b : Bool) → is_output l ≡ b → ShowThemselves p (out_of p) (filter is_output ls) → ShowThemselves p (out_of p) (if is_output l then l ∷ filter is_output ls else filter is_output ls)
    by_test true e more = rw e (h.0.0 e, more)
    by_test false e more = rw e more

of_inputs : (p : Plan) (ls : List Label) → AllShown p ls → ShowThemselves p (in_of p) (filter (λ l. not (is_output l)) ls)
of_inputs p [] h = tt
of_inputs p (l ∷ ls) h = by_test (is_output l) refl (of_inputs p ls h.1)
  where
    by_test : (b : Bool) → is_output l ≡ b → ShowThemselves p (in_of p) (filter (λ l. not (is_output l)) ls)
        → ShowThemselves p (in_of p) (if not (is_output l) then l ∷ filter (λ l. not (is_output l)) ls else filter (λ l. not (is_output l)) ls)
    by_test true e more = rw e more
    by_test false e more = rw e (h.0.1 e, more)

-- the labels of a port's events from number n on
abbrev EventsShown : Plan → Port → ℕ → List Event → Type 0
EventsShown p port n [] = Unit {0}
EventsShown p port n (e ∷ es) = ((k : ℕ) → IsShown p (record { port = port; event = n; value = k })) × EventsShown p port (suc n) es

one_shown : (p : Plan) (on : ℕ) (l : Label) → IsShown p l → AllShown p (if_pulse on l)
one_shown p on l h = by_test (nat_eq on 1)
  where
    by_test : (b : Bool) → AllShown p (if b then l ∷ [] else [])
    by_test true = (h, tt)
    by_test false = tt

from_shown : (p : Plan) (port : Port) (n : ℕ) (es : List Event) (nets : List ℕ) (v : Numbers) → EventsShown p port n es
    → AllShown p (pulses_from port n es nets v)
from_shown p port n [] nets v h = tt
from_shown p port n (Is way None ∷ es) [] v h = tt
from_shown p port n (Is way None ∷ es) (a ∷ nets) v h =
    shown_append p (if_pulse (at v a) (record { port = port; event = n; value = 0 })) (pulses_from port (suc n) es nets v)
    (one_shown p (at v a) (record { port = port; event = n; value = 0 }) (h.0 0)) (from_shown p port (suc n) es nets v h.1)
from_shown p port n (Is way (Some b) ∷ es) [] v h = tt
from_shown p port n (Is way (Some b) ∷ es) (a ∷ []) v h = tt
from_shown p port n (Is way (Some b) ∷ es) (a ∷ x ∷ nets) v h =
    shown_append p (if_pulse (at v a) (record { port = port; event = n; value = at v x })) (pulses_from port (suc n) es nets v)
    (one_shown p (at v a) (record { port = port; event = n; value = at v x }) (h.0 (at v x))) (from_shown p port (suc n) es nets v h.1)

-- the result's port
given_shown : (p : Plan) (t : Type') → IsDone t → EventsShown p Given 0 (events t)
given_shown p Com d = ((λ k. ((λ o. absurd (cc o)), (λ o. refl))), ((λ k. ((λ o. refl), (λ o. absurd (cc o)))), tt))
given_shown p (Exp w) d = ((λ k. ((λ o. absurd (cc o)), (λ o. refl))), ((λ k. ((λ o. refl), (λ o. absurd (cc o)))), tt))
given_shown p (Var w) d = absurd d
given_shown p (Pair a b) d = absurd d
given_shown p (Fun a b) d = absurd d

-- an import's port
number_found : (is : Imports) (n k : ℕ) (i : Imported) → NamesDiffer is → slice_get is k ≡ Some i → import_number n is i.name ≡ n + k
number_found [] n k i differ there = absurd (grind (arith, there))
number_found (j ∷ js) n zero i differ there = rw (same_bytes_eq j.name i.name (ap (λ (x : Imported). x.name) here)) (omega arith)
  where
    here : j ≡ i
    here = grind (arith, there)
number_found (j ∷ js) n (suc k) i differ there =
    rw (test_differ j.name i.name (differ.0 i (contains_at js k i there))) (number_found js (suc n) k i differ.1 there ∙ omega arith)

import_shown : (p : Plan) (k : ℕ) (i : Imported) (t : Type') → NamesDiffer p.imports → slice_get p.imports k ≡ Some i → IsGround t
    → EventsShown p (Taken i.name) 0 (events t)
import_shown p k i t differ there ground = by_type t ground
  where
    number : import_number 0 p.imports i.name ≡ k
    number = number_found p.imports 0 k i differ there ∙ omega arith

    by_type : (t : Type') → IsGround t → EventsShown p (Taken i.name) 0 (events t)
    by_type Com ground =
        ((λ v. ((λ o. rw (number, there) refl), (λ o. absurd (cc o)))), ((λ v. ((λ o. absurd (cc o)), (λ o. rw (number, there) refl))), tt))
    by_type (Exp w) ground =
        ((λ v. ((λ o. rw (number, there) refl), (λ o. absurd (cc o)))), ((λ v. ((λ o. absurd (cc o)), (λ o. rw (number, there) refl))), tt))
    by_type (Var w) ground = (
      (λ v. ((λ o. rw (number, there) refl), (λ o. absurd (cc o)))),
      (
        (λ v. ((λ o. absurd (cc o)), (λ o. rw (number, there) refl))),
        ((λ v. ((λ o. rw (number, there) refl), (λ o. absurd (cc o)))), ((λ v. ((λ o. absurd (cc o)), (λ o. rw (number, there) refl))), tt)),
      ),
    )
    by_type (Pair a b) ground = absurd ground
    by_type (Fun a b) ground = absurd ground

taken_shown : (p : Plan) (is : Imports) (k : ℕ) (qs : List NetPort) (v : Numbers) → NamesDiffer p.imports
    → ((m : ℕ) → slice_get is m ≡ slice_get p.imports (k + m)) → AllGround is → AreTaken is qs → AllShown p (pulses qs v)
taken_shown p [] k [] v differ there ground h = tt
taken_shown p [] k (q ∷ qs) v differ there ground h = absurd h
taken_shown p (i ∷ is) k [] v differ there ground h = absurd h
taken_shown p (i ∷ is) k (q ∷ qs) v differ there ground h =
    shown_append p (port_pulses v q) (pulses qs v)
    (from_shown p (port_of q.side q.name) 0 (events q.ty) q.nets v (rw (h.0, h.1, h.2) (import_shown p k i i.ty differ here ground.0)))
    (taken_shown p is (suc k) qs v differ (λ m. there (suc m) ∙ ap (slice_get p.imports) (later m)) ground.1 h.3)
  where
    here : slice_get p.imports k ≡ Some i
    here = let same : k + 0 ≡ k = omega arith in sym (there 0 ∙ ap (slice_get p.imports) same)

    later : (m : ℕ) → k + suc m ≡ suc k + m
    later m = omega arith

pub pulses_shown : (p : Plan) (qs : List NetPort) (v : Numbers) → IsDone p.outcome → AllGround p.imports → NamesDiffer p.imports → HasPorts p qs
    → AllShown p (pulses qs v)
pulses_shown p [] v done ground differ h = absurd h
pulses_shown p (q ∷ qs) v done ground differ h =
    shown_append p (port_pulses v q) (pulses qs v)
    (from_shown p (port_of q.side q.name) 0 (events q.ty) q.nets v (rw (h.0, h.1) (given_shown p p.outcome done)))
    (taken_shown p p.imports 0 qs v differ (λ m. ap (slice_get p.imports) (same m)) ground h.2)
  where
    same : (m : ℕ) → m ≡ 0 + m
    same m = omega arith

-- the imports of the netlist's ports are those of the plan
all_taken : (is : Imports) (qs : List NetPort) → AreTaken is qs → taken_by qs ≡ is
all_taken [] [] h = refl
all_taken [] (q ∷ qs) h = absurd h
all_taken (i ∷ is) [] h = absurd h
all_taken (i ∷ is) (q ∷ qs) h = rw h.0 (λ j. record { name = h.1 j; ty = h.2 j } ∷ all_taken is qs h.3 j)

pub ports_taken : (p : Plan) (qs : List NetPort) → HasPorts p qs → taken_by qs ≡ p.imports
ports_taken p [] h = absurd h
ports_taken p (q ∷ qs) h = rw h.0 (all_taken p.imports qs h.2)

-- in any order
inserted : (p : Plan) (f : Label → Element) (before : List Label) (l : Label) (after : List Label) → shows p (f l) ≡ l ∷ []
    → ShowThemselves p f (before ++ after) → ShowThemselves p f (before ++ l ∷ after)
inserted p f [] l after one h = (one, h)
inserted p f (x ∷ before) l after one h = (h.0, inserted p f before l after one h.1)

in_order : (p : Plan) (f : Label → Element) (ls order : List Label) → ShowThemselves p f ls → AnyOrder ls order → ShowThemselves p f order
in_order p f [] order h o = subst (ShowThemselves p f) (sym o) tt
in_order p f (l ∷ ls) order h (before, after, is, o) =
    subst (ShowThemselves p f) (sym is) (inserted p f before l after h.0 (in_order p f ls (before ++ after) h.1 o))

all_themselves : (p : Plan) (f : Label → Element) (ls : List Label) → ShowThemselves p f ls → all_shown p (map f ls) ≡ ls
all_themselves p f [] h = refl
all_themselves p f (l ∷ ls) h = λ i. h.0 i ++ all_themselves p f ls h.1 i

-- the outputs and the inputs of a cycle are what their elements show
pub outputs_shown : (p : Plan) (net : Netlist) (v : Numbers) (out : List Label) → AllShown p (pulses net.ports v) → AnyOrder (outputs net v) out
    → all_shown p (outs_of p out) ≡ out
outputs_shown p net v out h o =
    all_themselves p (out_of p) out (in_order p (out_of p) (outputs net v) out (of_outputs p (pulses net.ports v) h) o)

pub inputs_shown : (p : Plan) (net : Netlist) (v : Numbers) (inp : List Label) → AllShown p (pulses net.ports v) → AnyOrder (inputs net v) inp
    → all_shown p (ins_of p inp) ≡ inp
inputs_shown p net v inp h o =
    all_themselves p (in_of p) inp (in_order p (in_of p) (inputs net v) inp (of_inputs p (pulses net.ports v) h) o)
