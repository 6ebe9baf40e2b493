-- The list of a run: its labels are those of a flattening, and a run that keeps the protocol has no broken cycle.
use Rattle.std.proofs.Common.{◌≡◌, List, [], ◌∷◌, ◌++◌, length, map, Some, slice_get, refl, sym, ◌∙◌, ap, subst, arith, append_assoc}
use Rattle.gos_netlist.specs.Nets.{Netlist}
use Rattle.gos_netlist.specs.Settling.{Numbers}
use Rattle.gos_model.specs.Typing.{Imports}
use Rattle.gos_model.specs.Terms.{Term}
use Rattle.gos_model.specs.Labels.{Label}
use Rattle.gos_pace.specs.Flattening.{outputs, inputs, pulses, AnyOrder, Flattening, flat}
use Rattle.gos_model.specs.Protocol.{KeepsAfter, KeepsProtocol}
use Rattle.gos_pace.specs.RunProtocol.{taken_by, RunKeeps}
use Rattle.gos_plan.specs.Plans.{Plan}
use Rattle.gos_plan.specs.Tokens.{Tokens, Element, IsIdle}
use Rattle.gos_plan.specs.Orderly.{Open, OrderlyFrom, IsOrderly}
use Rattle.gos_pace.specs.Cycles.{outs_of, ins_of, cycle_list, list_of, IsBroken}
use Rattle.gos_plan.specs.Made.{PartFiring, fires_of, Made}
use Rattle.gos_realises.specs.realises.Matched.{all_shown, RealisesDone}
use Rattle.gos_realises.proofs.realises.MatchedLemmas.{shown_then}
use Rattle.gos_linked.proofs.keeping.LabelLemmas.{AllShown, outputs_shown, inputs_shown}

-- a part of a list
orderly_front : (p : Plan) (xs ys : List Element) (o u : Open) (s t : Tokens) → OrderlyFrom p (xs ++ ys) o s u t
    → (m : Open) × (w : Tokens) × OrderlyFrom p xs o s m w
orderly_front p [] ys o u s t h = (o, s, (refl, refl))
orderly_front p (x ∷ xs) ys o u s t (m, w, does, comes, welcome, rest) =
    let more = orderly_front p xs ys m u w t rest in
    (more.0, more.1, (m, w, does, comes, welcome, more.2))

pub orderly_first : (p : Plan) (xs ys : List Element) (s : Tokens) → IsOrderly p (xs ++ ys) s → IsOrderly p xs s
orderly_first p xs ys s (u, t, h) = orderly_front p xs ys _ u s t h

fires_show : (p : Plan) (fs : List PartFiring) → all_shown p (fires_of fs) ≡ []
fires_show p [] = refl
fires_show p (f ∷ fs) = fires_show p fs

pub append_nothing : (ls : List Label) → ls ++ [] ≡ ls
append_nothing [] = refl
append_nothing (l ∷ ls) = ap (λ (xs : List Label). l ∷ xs) (append_nothing ls)

-- what is shown in each cycle
abbrev pub CyclesShown : Plan → Netlist → Type 0
CyclesShown p net = (v : Numbers) → AllShown p (pulses net.ports v)

pub cycle_shows : (p : Plan) (net : Netlist) (v : Numbers) (out inp : List Label) (fs : List PartFiring) → CyclesShown p net
    → AnyOrder (outputs net v) out → AnyOrder (inputs net v) inp → all_shown p (cycle_list p out inp fs) ≡ out ++ inp
cycle_shows p net v out inp fs shown o i =
    shown_then p (outs_of p out) (ins_of p inp ++ fires_of fs)
    ∙ (λ j. outputs_shown p net v out (shown v) o j ++ behind j)
  where
    behind : all_shown p (ins_of p inp ++ fires_of fs) ≡ inp
    behind =
        shown_then p (ins_of p inp) (fires_of fs) ∙ (λ j. inputs_shown p net v inp (shown v) i j ++ fires_show p fs j) ∙ append_nothing inp

-- the pulses of each cycle in the order of events
pub own_order : (ls : List Label) → AnyOrder ls ls
own_order [] = refl
own_order (l ∷ ls) = ([], ls, refl, own_order ls)

abbrev own_part : Netlist → Numbers → List Label
own_part net v = outputs net v ++ inputs net v

own_flattening : (net : Netlist) (vs : List Numbers) → Flattening net vs (map (own_part net) vs)
own_flattening net [] = tt
own_flattening net (v ∷ vs) =
    ((outputs net v, inputs net v, own_order (outputs net v), own_order (inputs net v), refl), own_flattening net vs)

-- the labels up to a cycle are the first ones of the run
up_to : (p : Plan) (net : Netlist) (vs : List Numbers) (s : Tokens) (ms : List Made) (v : Numbers) (fs : List PartFiring) → CyclesShown p net
    → slice_get vs (length ms) ≡ Some v
    → (rest : List Label) × (flat (map (own_part net) vs) ≡ all_shown p (list_of p net vs ms ++ cycle_list p (outputs net v) (inputs net v) fs) ++ rest)
up_to p net [] s ms v fs shown there = absurd (grind (arith, there))
up_to p net (w ∷ vs) s [] v fs shown there = (
  flat (map (own_part net) vs),
  λ j. (ap (own_part net) is ∙ sym (cycle_shows p net v (outputs net v) (inputs net v) fs shown (own_order (outputs net v)) (own_order (inputs net v)))) j
      ++ flat (map (own_part net) vs),
)
  where
    is : w ≡ v
    is = grind (arith, there)
up_to p net (w ∷ vs) s (m ∷ ms) v fs shown there =
    let more = up_to p net vs s ms v fs shown there in (
      more.0,
      (λ j. sym here j ++ more.1 j) ∙ sym (append_assoc (all_shown p cycle) (all_shown p behind) more.0)
          ∙ ap (λ (ls : List Label). ls ++ more.0) (sym (shown_then p cycle behind))
          ∙ ap (λ (xs : List Element). all_shown p xs ++ more.0) (sym (append_assoc cycle (list_of p net vs ms) last)),
    )
  where
    cycle : List Element
    cycle = cycle_list p (outputs net w) (inputs net w) m.firings

    last : List Element
    last = cycle_list p (outputs net v) (inputs net v) fs

    behind : List Element
    behind = list_of p net vs ms ++ last

    here : all_shown p cycle ≡ own_part net w
    here = cycle_shows p net w (outputs net w) (inputs net w) m.firings shown (own_order (outputs net w)) (own_order (inputs net w))

-- labels that come first keep the protocol
keeps_first : (i : Imports) (past ls more : List Label) → KeepsAfter i past (ls ++ more) → KeepsAfter i past ls
keeps_first i past [] more h = tt
keeps_first i past (l ∷ ls) more h = (h.0, keeps_first i (l ∷ past) ls more h.1)

pub first_keeps : (p : Plan) (net : Netlist) (vs : List Numbers) (parts : List (List Label)) (ls more : List Label) → taken_by net.ports ≡ p.imports
    → RunKeeps net vs → Flattening net vs parts → flat parts ≡ ls ++ more → KeepsProtocol p.imports ls
first_keeps p net vs parts ls more same keeps f is =
    keeps_first p.imports [] ls more (subst (KeepsAfter p.imports []) is (subst (λ (i : Imports). KeepsAfter i [] (flat parts)) same (keeps parts f)))

-- so no cycle is broken
pub none_broken : (p : Plan) (m : Term) (net : Netlist) (vs : List Numbers) (s : Tokens) (ms : List Made) → CyclesShown p net
    → taken_by net.ports ≡ p.imports → RealisesDone p m → IsIdle p s → RunKeeps net vs → IsBroken p net vs s ms → ⊥
none_broken p m net vs s ms shown same realises idle keeps (v, fs, t, there, runs, not_orderly) =
    let first = up_to p net vs s ms v fs shown there in
    not_orderly (realises s t (list_of p net vs ms ++ cycle_list p (outputs net v) (inputs net v) fs) idle runs
    (first_keeps p net vs (map (own_part net) vs) (all_shown p (list_of p net vs ms ++ cycle_list p (outputs net v) (inputs net v) fs)) first.0 same keeps
    (own_flattening net vs) first.1)).1
