-- What is idle where nothing is open at ports.
--
-- What no joint names as a place stays empty, and what is no part's number stays at rest; and nothing passes but ports.
use Rattle.std.specs.Prelude.{ℕ, Bool, true, false, List, Option, Some, None, slice_get, nat_eq, if◌then◌else◌}
use Rattle.std.proofs.Common.{◌≡◌, [], ◌∷◌, ◌⊎◌, inl, inr, refl, sym, ◌∙◌, ap, subst, arith}
use Rattle.std.proofs.lemmas.Option.{slice_get_within}
use Rattle.std.proofs.lemmas.Bool.{false_from_ne_true}
use Rattle.gos_types.specs.Events.{Direction}
use Rattle.gos_model.specs.Typing.{Imported}
use Rattle.gos_plan.specs.Kinds.{Part, Contact, contacts_of}
use Rattle.gos_plan.specs.Firing.{Rest, State, Slot, Token, Row}
use Rattle.gos_plan.specs.Plans.{End, PartEnd, ImportEnd, ResultEnd, Joint, Plan, contact_at, contacts_of_import, same_end}
use Rattle.gos_plan.specs.Tokens.{Tokens, Element, Fire, Out, In, IsPortEnd, with_token, with_state, with_puts, end_of, way_of, fired, firing_of, way_taken, way_put, Passes, Does, Runs, IsIdle}
use Rattle.gos_plan.proofs.JointLemmas.{IsIn, Found, found, same_is, same_itself}
use Rattle.gos_plan.proofs.TurnLemmas.{token_state}
use Rattle.gos_plan.proofs.ContactLemmas.{turned_some}
use Rattle.gos_realises.specs.realises.Regular.{Pass, pass, way_in, way_out, is_open, is_request, count, some_open}
use Rattle.gos_realises.proofs.realises.GroundTurnLemmas.{there_some}
use Rattle.gos_realises.proofs.realises.InputLemmas.{passed, in_there, out_there}
use Rattle.gos_realises.proofs.realises.RingLemmas.{after}
use Rattle.gos_joining.specs.webs.Webs.{joint}
use Rattle.gos_supplies.specs.turns.Rests.{passes, AllShut}
use Rattle.gos_supplies.proofs.turns.StandLemmas.{placed_apart}
use Rattle.gos_supplies.proofs.turns.GoesLemmas.{IsTurned}
use Rattle.gos_supplies.proofs.turns.TurnedLemmas.{imp, res, to_each}

-- what passed, in both forms
pub passes_are : (p : Plan) (past : List Pass) (xs : List Element) → passes p past xs ≡ passed p past xs
passes_are p past [] = refl
passes_are p past (Fire i t ∷ xs) = passes_are p past xs
passes_are p past (Out e v ∷ xs) = passes_are p (after p (Out e v) past) xs
passes_are p past (In e v ∷ xs) = passes_are p (after p (In e v) past) xs

-- what is no place of a joint is empty, and what is no part is at rest
pub record Neat (p : Plan) (s : Tokens) : Type 0 where
  pub places : (way : Direction) (a : End) → ((b : End) → IsIn (joint a b) p.joints → ⊥) → s.in_place way a ≡ None
  pub states : (i : ℕ) → slice_get p.parts i ≡ None → (s.state i).phase ≡ Rest

pub neat_first : (p : Plan) (s : Tokens) → IsIdle p s → Neat p s
neat_first p s idle = record { places = λ way a none. idle.0 way a; states = λ i none. idle.1 i }

neat_token : (p : Plan) (e : End) (way : Direction) (held : Option ℕ) (s : Tokens) → Neat p s → Neat p (with_token p e way held s)
neat_token p e way held s neat =
    record {
      places = λ w a none. placed_apart p e a way w held s (λ same named. clash a none (found p.joints e a named)) ∙ neat.places w a none;
      states = λ i none. ap (λ (q : State). q.phase) (token_state p e way held s i) ∙ neat.states i none;
    }
  where
    clash : (a : End) → ((b : End) → IsIn (joint a b) p.joints → ⊥) → Found p.joints e a → ⊥
    clash a none f = none f.joint.serving (subst (λ (x : End). IsIn (joint x f.joint.serving) p.joints) f.named f.is_in)

neat_puts : (p : Plan) (i : ℕ) (ts : List Token) (s : Tokens) → Neat p s → Neat p (with_puts p i ts s)
neat_puts p i [] s neat = neat
neat_puts p i (t ∷ ts) s neat =
    neat_puts p i ts (with_token p (end_of i t.slot) (way_of t.slot) (Some t.value) s) (neat_token p (end_of i t.slot) (way_of t.slot) (Some t.value) s neat)

neat_fired : (p : Plan) (i : ℕ) (r : Row) (v : ℕ) (s : Tokens) (slot : Slot) → firing_of (slice_get p.parts i) (s.state i) slot ≡ Some r → Neat p s → Neat p (fired p i r v s)
neat_fired p i r v s slot fires neat =
    neat_puts p i (r.puts v) (with_state i (r.next v) (with_token p (end_of i r.takes) (way_of r.takes) None s))
    (record {
      places = taken.places;
      states = λ j none. ap (λ (b : Bool). (if b then r.next v else (with_token p (end_of i r.takes) (way_of r.takes) None s).state j).phase) (apart j none)
          ∙ taken.states j none;
    })
  where
    taken : Neat p (with_token p (end_of i r.takes) (way_of r.takes) None s)
    taken = neat_token p (end_of i r.takes) (way_of r.takes) None s neat

    apart : (j : ℕ) → slice_get p.parts j ≡ None → nat_eq j i ≡ false
    apart j none = by_test (nat_eq j i) refl
      where
        by_test : (b : Bool) → nat_eq j i ≡ b → b ≡ false
        by_test true e =
            let same : j ≡ i = grind (arith, e) in
            let no_part : slice_get p.parts i ≡ None = ap (slice_get p.parts) (sym same) ∙ none in
            let never : None ≡ Some r = sym (ap (λ (f : Option Part). firing_of f (s.state i) slot) no_part) ∙ fires in absurd (cc never)
        by_test false e = refl

neat_step : (p : Plan) (x : Element) (s t : Tokens) → Does p x s t → Neat p s → Neat p t
neat_step p (Fire i slot) s t (v, row, lies, fires, led) neat = subst (Neat p) (sym led) (neat_fired p i row v s slot fires neat)
neat_step p (Out e v) s t does neat =
    let (c, there) = out_there p e v s t does in
    let moves = subst (λ (f : Option Contact). Passes p (Out e v) f s t) there does.1 in
    subst (Neat p) (sym moves.1) (neat_token p e (way_taken c.role) None s neat)
neat_step p (In e v) s t does neat =
    let (c, there) = in_there p e v s t does in
    let moves = subst (λ (f : Option Contact). Passes p (In e v) f s t) there does.1 in
    subst (Neat p) (sym moves.1) (neat_token p e (way_put c.role) (Some v) s neat)

pub stays_neat : (p : Plan) (xs : List Element) (s t : Tokens) → Runs p xs s t → Neat p s → Neat p t
stays_neat p [] s t runs neat = subst (Neat p) (sym runs) neat
stays_neat p (x ∷ xs) s t (y, does, runs) neat = stays_neat p xs y t runs (neat_step p x s y does neat)

-- whether an end asks in a joint
pub told_asker : (js : List Joint) (a : End) → ((b : End) × IsIn (joint a b) js) ⊎ ((b : End) → IsIn (joint a b) js → ⊥)
told_asker [] a = inr (λ b has. has)
told_asker (j ∷ js) a = by_test (same_end j.asking a) refl (told_asker js a)
  where
    by_test : (t : Bool) → same_end j.asking a ≡ t → ((b : End) × IsIn (joint a b) js) ⊎ ((b : End) → IsIn (joint a b) js → ⊥)
        → ((b : End) × IsIn (joint a b) (j ∷ js)) ⊎ ((b : End) → IsIn (joint a b) (j ∷ js) → ⊥)
    by_test true t rest = inl (j.serving, inl (ap (λ (x : End). joint x j.serving) (sym (same_is j.asking a t))))
    by_test false t (inl (b, has)) = inl (b, inr has)
    by_test false t (inr none) = inr clash
      where
        clash : (b : End) → IsIn (joint a b) (j ∷ js) → ⊥
        clash b (inl same) =
            let self = same_itself a in
            let one : same_end j.asking a ≡ true = ap (λ (k : Joint). same_end k.asking a) (sym same) ∙ self in
            let never : true ≡ false = sym one ∙ t in cc never
        clash b (inr has) = none b has

-- what is open is a port that there is
abbrev pub IsPortThere : Plan → End → Type 0
IsPortThere p e = IsPortEnd e × ((c : Contact) × (contact_at p e ≡ Some c))

passes_port : (p : Plan) (past : List Pass) (d e : End) (way : Direction) → IsPortThere p d → is_open (pass d way ∷ past) e ≡ true
    → (is_open past e ≡ true) ⊎ IsPortThere p e
passes_port p past d e way port up = by_test (same_end d e) refl
  where
    by_test : (b : Bool) → same_end d e ≡ b → (is_open past e ≡ true) ⊎ IsPortThere p e
    by_test true t = inr (subst (IsPortThere p) (same_is d e t) port)
    by_test false t = inl (sym (ap (λ (b : Bool). if b then is_request way else is_open past e) t) ∙ up)

pub open_ports : (p : Plan) (xs : List Element) (s t : Tokens) (past : List Pass) (e : End) → Runs p xs s t → is_open (passed p past xs) e ≡ true
    → (is_open past e ≡ true) ⊎ IsPortThere p e
open_ports p [] s t past e runs up = inl up
open_ports p (Fire i slot ∷ xs) s t past e (y, does, runs) up = open_ports p xs y t past e runs up
open_ports p (Out d v ∷ xs) s t past e (y, does, runs) up = afterwards (open_ports p xs y t (after p (Out d v) past) e runs up)
  where
    afterwards : (is_open (after p (Out d v) past) e ≡ true) ⊎ IsPortThere p e → (is_open past e ≡ true) ⊎ IsPortThere p e
    afterwards (inl now) = passes_port p past d e (way_out (contact_at p d)) (does.0, out_there p d v s y does) now
    afterwards (inr port) = inr port
open_ports p (In d v ∷ xs) s t past e (y, does, runs) up = afterwards (open_ports p xs y t (after p (In d v) past) e runs up)
  where
    afterwards : (is_open (after p (In d v) past) e ≡ true) ⊎ IsPortThere p e → (is_open past e ≡ true) ⊎ IsPortThere p e
    afterwards (inl now) = passes_port p past d e (way_in (contact_at p d)) (does.0, in_there p d v s y does) now
    afterwards (inr port) = inr port

-- where the result is closed all is, since turns are kept
pub shut_ports : (p : Plan) (past : List Pass) → IsTurned p past → (some_open (count p.outcome) (res past) ≡ true → ⊥) → (e : End) → IsPortThere p e
    → is_open past e ≡ true → ⊥
shut_ports p past turned shut (PartEnd i h) (port, there) up = port
shut_ports p past turned shut (ResultEnd h) (port, (c, there)) up =
    let (d, at) = turned_some (slice_get (contacts_of p.outcome) h) c there in
    shut (there_some (count p.outcome) (res past) h (slice_get_within (contacts_of p.outcome) h d at) up)
shut_ports p past turned shut (ImportEnd i h) (port, (c, there)) up = by_import (slice_get p.imports i) refl
  where
    by_import : (o : Option Imported) → slice_get p.imports i ≡ o → ⊥
    by_import None none =
        let never : None ≡ Some c = sym (ap (λ (o : Option Imported). slice_get (contacts_of_import o) h) none) ∙ there in cc never
    by_import (Some x) at =
        let contact : slice_get (contacts_of x.ty) h ≡ Some c = sym (ap (λ (o : Option Imported). slice_get (contacts_of_import o) h) at) ∙ there in
        shut (((to_each p past turned).0 i x at).1 (there_some (count x.ty) (imp past i) h (slice_get_within (contacts_of x.ty) h c contact) up))

none_open_at_first : (e : End) → is_open [] e ≡ true → ⊥
none_open_at_first e up = cc up

pub all_shut : (p : Plan) (xs : List Element) (s t : Tokens) → Runs p xs s t → IsTurned p (passed p [] xs)
    → (some_open (count p.outcome) (res (passed p [] xs)) ≡ true → ⊥) → AllShut (passes p [] xs)
all_shut p xs s t runs turned shut e =
    subst (λ (past : List Pass). is_open past e ≡ false) (sym (passes_are p [] xs)) (false_from_ne_true (is_open (passed p [] xs) e) never)
  where
    never : is_open (passed p [] xs) e ≡ true → ⊥
    never up = by_port (open_ports p xs s t [] e runs up)
      where
        by_port : (is_open [] e ≡ true) ⊎ IsPortThere p e → ⊥
        by_port (inl first) = none_open_at_first e first
        by_port (inr port) = shut_ports p (passed p [] xs) turned shut e port up
