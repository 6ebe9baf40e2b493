-- What an element of a stage is in the whole: it leaves what is outside as it is, its tokens are those of the stage's plan, and it
-- shows the same.
use Rattle.std.specs.Prelude.{◌≡◌, ◌≢◌, ℕ, true, List, [], ◌∷◌, Option, Some, None, slice_get, length, nat_eq, nat_lt}
use Rattle.std.proofs.Common.{arith, refl, sym, ap, ◌∙◌}
use Rattle.std.proofs.lemmas.Bool.{cond-true, cond-false, ne_eqb}
use Rattle.std.proofs.lemmas.Option.{slice_get_within}
use Rattle.gos_types.specs.Events.{Direction, Request, Answer}
use Rattle.gos_model.specs.Typing.{Imported}
use Rattle.gos_model.specs.Labels.{Label}
use Rattle.gos_model.specs.Moves.{Act}
use Rattle.gos_plan.specs.Kinds.{Part, Contact}
use Rattle.gos_plan.specs.Firing.{Rest, Slot, Req, Ans, State, at}
use Rattle.gos_plan.specs.Plans.{End, PartEnd, ImportEnd, Joint, Plan, contact_at}
use Rattle.gos_plan.specs.Tokens.{Tokens, Element, Fire, Out, In, places_of, held_at, token_at, way_taken, way_put, firing_of, Passes, Does}
use Rattle.gos_plan.proofs.JointLemmas.{IsIn, Found, found, stands_there, contained, which_end}
use Rattle.gos_plan.proofs.TurnLemmas.{token_state, fired_state}
use Rattle.gos_plan.proofs.ElementLemmas.{firing_part}
use Rattle.gos_realises.specs.realises.Matched.{port_if, event_number, label_at, shows, GoesOn}
use Rattle.gos_joining.specs.webs.Webs.{joint}
use Rattle.gos_joining.specs.webs.Cutting.{Cut, lies_at, StandsIn, asks_in, cut_tokens}
use Rattle.gos_joining.proofs.webs.MovedLemmas.{listed}
use Rattle.gos_joining.proofs.webs.CutLemmas.{stands_cut, asks_there}
use Rattle.gos_nodes.specs.windows.Regions.{Serving, IsRegion, whole_element}
use Rattle.gos_nodes.specs.windows.Nodes.{Stage}
use Rattle.gos_nodes.specs.windows.Windows.{seen, IsAtPort}

-- an end at which a token lies stands in a joint
pub token_stands : (c : Plan) (s : Tokens) (e : End) (way : Direction) (v : ℕ) → token_at c s e way ≡ Some v → StandsIn c e
token_stands c s e way v h = by_place (places_of c e) refl
  where
    no_value : None ≡ Some v → ⊥
    no_value x = cc x

    by_place : (o : Option End) → places_of c e ≡ o → StandsIn c e
    by_place None n = absurd (no_value (ap (held_at s way) (sym n) ∙ h))
    by_place (Some a) n =
        let at : Found c.joints e a = found c.joints e a n in (at.joint, listed c.joints at.joint at.is_in, at.stands)

-- what lies at an end of the region
pub token_same : (f : Cut) (ss : List Serving) (r c : Plan) → IsRegion f ss r c → (e : End) → StandsIn c e → (s : Tokens) (way : Direction)
    → token_at c (cut_tokens f c s) e way ≡ token_at r s (lies_at f e) way
token_same f ss r c is e (j, listing, stands) s way =
    let is_in : IsIn j c.joints = contained c.joints j listing in
    let whole : Joint = joint (lies_at f j.asking) (lies_at f j.serving) in
    let there : places_of r (lies_at f e) ≡ Some (lies_at f j.asking) =
    stands_there r whole (lies_at f e) is.whole_right (contained r.joints whole (is.joints j.asking j.serving listing)) (stands_cut f e j (which_end e j stands)) in
    ap (held_at (cut_tokens f c s) way) (stands_there c j e is.right is_in stands)
    ∙ (cond-true (asks_in c.joints j.asking) (s.in_place way (lies_at f j.asking)) None (asks_there c.joints j is_in)
    ∙ ap (held_at s way) (sym there))

-- what is outside stays as it is
apart_number : (f : Cut) (i j d : ℕ) → f.number i ≡ Some j → f.number d ≡ None → d ≢ i
apart_number f i j d there none same = let clash : Some j ≡ None = sym there ∙ (ap f.number (sym same) ∙ none) in cc clash

passes_state : (p : Plan) (e : End) (v d : ℕ) (c : Option Contact) (s t : Tokens) → Passes p (Out e v) c s t → t.state d ≡ s.state d
passes_state p e v d None s t h = absurd h
passes_state p e v d (Some c) s t (held, is) = ap (λ (u : Tokens). u.state d) is ∙ token_state p e (way_taken c.role) None s d

comes_state : (p : Plan) (e : End) (v d : ℕ) (c : Option Contact) (s t : Tokens) → Passes p (In e v) c s t → t.state d ≡ s.state d
comes_state p e v d None s t h = absurd h
comes_state p e v d (Some c) s t (fits, is) = ap (λ (u : Tokens). u.state d) is ∙ token_state p e (way_put c.role) (Some v) s d

pub outside_stays : (r : Plan) (g : Stage) → IsRegion g.cut g.sides r g.plan → (n : ℕ) → g.cut.number n ≡ None → (y : Element) (s u t : Tokens)
    → Does g.plan y (seen g s) u → Does r (whole_element g.cut y) s t → t.state n ≡ s.state n
outside_stays r g region n out (Fire i slot) s u t (v, row, held, by, to) (w, line, lies, fires, is_t) =
    let there = firing_part (slice_get g.plan.parts i) ((seen g s).state i) slot row by in
    let other : n ≢ g.cut.part i = apart_number g.cut (g.cut.part i) i n (region.parts i there.0 there.1).1 out in
    ap (λ (x : Tokens). x.state n) is_t
    ∙ (fired_state r (g.cut.part i) line w s n
    ∙ cond-false (nat_eq n (g.cut.part i)) (line.next w) (s.state n) (ne_eqb n (g.cut.part i) other))
outside_stays r g region n out (Out e v) s u t does (port, passes) = passes_state r (lies_at g.cut e) v n (contact_at r (lies_at g.cut e)) s t passes
outside_stays r g region n out (In e v) s u t does (port, passes) = comes_state r (lies_at g.cut e) v n (contact_at r (lies_at g.cut e)) s t passes

-- the import at whose end it passes
import_shown : (r c : Plan) (i k h : ℕ) (way : Direction) (v : ℕ) → slice_get r.imports k ≡ slice_get c.imports i
    → label_at r (ImportEnd k h) way v ≡ label_at c (ImportEnd i h) way v
import_shown r c i k h way v same = ap (λ (o : Option Imported). record { port = port_if o; event = event_number way h; value = v }) same

-- a firing of the region shows nothing, and goes on where the stage's does
pub fires_goes_on : (r : Plan) (g : Stage) → IsRegion g.cut g.sides r g.plan → (i : ℕ) (slot : Slot) (s u t : Tokens) (acts : List Act)
    → Does g.plan (Fire i slot) (seen g s) u → GoesOn g.plan (seen g s) (Fire i slot) acts → GoesOn r s (Fire (g.cut.part i) slot) acts
fires_goes_on r g region i (Req h) s u t acts does k = tt
fires_goes_on r g region i (Ans h) s u t acts (v, row, held, by, to) k = λ w line lies fires asks.
    let there = firing_part (slice_get g.plan.parts i) ((seen g s).state i) (Ans h) row by in
    let stands : StandsIn g.plan (PartEnd i h) = token_stands g.plan (seen g s) (PartEnd i h) Answer v held in
    let same : token_at g.plan (seen g s) (PartEnd i h) Answer ≡ Some w =
    token_same g.cut g.sides r g.plan region (PartEnd i h) stands s Answer ∙ lies in
    let less = slice_get_within g.plan.parts i there.0 there.1 in
    let within : nat_lt i (length g.plan.parts) ≡ true = grind (arith, less) in
    let state : (seen g s).state i ≡ s.state (g.cut.part i) = cond-true (nat_lt i (length g.plan.parts)) (s.state (g.cut.part i)) (at Rest 0) within in
    let part : slice_get g.plan.parts i ≡ slice_get r.parts (g.cut.part i) = there.1 ∙ sym (region.parts i there.0 there.1).0 in
    let fired : firing_of (slice_get g.plan.parts i) ((seen g s).state i) (Ans h) ≡ Some line =
    ap (λ (o : Option Part). firing_of o ((seen g s).state i) (Ans h)) part ∙ (ap (λ (q : State). firing_of (slice_get r.parts (g.cut.part i)) q (Ans h)) state ∙ fires) in
    k w line same fired asks

-- so does an output or an input at an import of the whole
pub out_shown : (r : Plan) (g : Stage) (i h v : ℕ) → IsAtPort r g (ImportEnd i h)
    → shows r (Out (g.cut.outer (ImportEnd i h)) v) ≡ shows g.plan (Out (ImportEnd i h) v)
out_shown r g i h v port =
    ap (λ (e : End). shows r (Out e v)) port.1 ∙ ap (λ (l : Label). l ∷ []) (import_shown r g.plan i port.0 h Request v port.2)

pub in_shown : (r : Plan) (g : Stage) (i h v : ℕ) → IsAtPort r g (ImportEnd i h)
    → shows r (In (g.cut.outer (ImportEnd i h)) v) ≡ shows g.plan (In (ImportEnd i h) v)
in_shown r g i h v port =
    ap (λ (e : End). shows r (In e v)) port.1 ∙ ap (λ (l : Label). l ∷ []) (import_shown r g.plan i port.0 h Answer v port.2)
