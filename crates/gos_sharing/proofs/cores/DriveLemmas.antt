-- A list of a whole that reads or writes a variable's plan is a list of that plan, whose inputs keep turns.
use Rattle.std.specs.Prelude.{ℕ, zero, suc, ◌<◌, ◌≤◌, ◌^◌, Bool, true, false, ◌&&◌, List, Option, Some, None, All, length, slice_get, nat_eq, nat_lt, if◌then◌else◌}
use Rattle.std.proofs.Common.{◌≡◌, [], ◌∷◌, ◌++◌, refl, sym, ◌∙◌, ap, subst, arith}
use Rattle.std.proofs.lemmas.Bool.Decides.{nat_tests}
use Rattle.std.proofs.lemmas.Bool.{and_right}
use Rattle.gos_types.specs.declared.shakes.Role.TheVariants.{Ask}
use Rattle.gos_types.specs.Types.{Type', Var, IsDone}
use Rattle.gos_model.specs.Typing.{Imported}
use Rattle.gos_types.specs.Events.{Direction, Request, Answer}
use Rattle.gos_plan.specs.Kinds.{Part, Contact, asks, serves, contacts_of}
use Rattle.gos_plan.specs.Firing.{Phase, Rest, State, Slot}
use Rattle.gos_plan.specs.Plans.{End, PartEnd, ImportEnd, ResultEnd, Plan, IsRight, contact_at, contacts_of_import, turned_if, same_end}
use Rattle.gos_plan.specs.Tokens.{Tokens, Element, Fire, Out, In, places_of, token_at, with_token, with_state, end_of, way_of, bits_of, way_taken, way_put, Passes, Does, Runs, IsIdle}
use Rattle.gos_plan.specs.TokenBits.{LiteralFits}
use Rattle.gos_plan.specs.Orderly.{Open, none_open}
use Rattle.gos_plan.proofs.JointLemmas.{same_itself, apart_is_not_same}
use Rattle.gos_plan.proofs.TokenBitsLemmas.{all_stay_fit, idle_fits}
use Rattle.gos_plan.proofs.TurnLemmas.{puts_state}
use Rattle.gos_realises.specs.realises.Regular.{Pass, pass, way_in, way_out, is_request, is_open, KeepsTurnsOf, ComesInTurn, KeepsTurns, InputsKeepTurns, IsRegular}
use Rattle.gos_realises.proofs.realises.InputLemmas.{first_turns, later_turns, in_there, out_there, runs_then}
use Rattle.gos_realises.proofs.realises.RingLemmas.{after}
use Rattle.gos_realises.proofs.realises.PassLemmas.{same_turn}
use Rattle.gos_sharing.proofs.buffers.DrivenLemmas.{IsDriven}
use Rattle.gos_supplies.proofs.turns.RunLemmas.{Reached, at_first, next}
use Rattle.gos_supplies.proofs.turns.GoesLemmas.{IsTurned}
use Rattle.gos_supplies.proofs.turns.WholeLemmas.{first_turned}
use Rattle.gos_supplies.proofs.turns.TurnedLemmas.{imp, res, to_each, in_import, in_result}
use Rattle.gos_sharing.proofs.cores.DriverLemmas.{IsOther, Agree, held_state, fire_inner, out_import, in_import_too, import_contact, result_agrees, state_other, other_agrees, driver_agrees, driver_token}

-- where one handshake of a variable alone is open turns are kept
one_open : (v w : ℕ) (g : ℕ → Bool) → ((h : ℕ) → (h ≡ v → ⊥) → g h ≡ false) → KeepsTurnsOf (Var w) g
one_open zero w g others = and_right (g 0) (g 1) (others 1 (λ e. omega (arith, e)))
one_open (suc v) w g others = let first = others 0 (λ e. omega (arith, e)) in λ i. first i && g 1

module _ (v f : ℕ) (ds : List Part) (Own : ℕ → End → End → Type 0) (p x : Plan) (right : IsRight p) (driven : IsDriven v f ds Own p x) (w : ℕ) (outcome : p.outcome ≡ Var w)
    (own_ends : (a b : End) → Own (length p.parts) a b → IsOther (length p.parts) f a × IsOther (length p.parts) f b)
    (driver_asks : (c : Contact) × (contact_at x (PartEnd (length p.parts) f) ≡ Some c) × (c.role ≡ Ask)) (done : IsDone x.outcome)
    (asked : Phase → Bool) (at_rest : asked Rest ≡ false) (q b : ℕ) (contact : slice_get (contacts_of (Var w)) v ≡ Some (serves q b)) (regular : IsRegular p) where
  abbrev size : ℕ
  size = length p.parts

  abbrev pub Alike : Tokens → Tokens → Type 0
  Alike = Agree v f ds Own p x right driven w outcome own_ends driver_asks done

  -- the driving part waits for the plan
  abbrev pub waits : Tokens → Bool
  waits t = asked (t.state size).phase

  -- the plan has gone on as the whole has
  pub record Goes (past : List Pass) (t : Tokens) : Type 0 where
    pub opens : Open
    pub own_past : List Pass
    pub tokens : Tokens
    pub alike : Alike t tokens
    pub reached : Reached p opens own_past tokens
    pub turned : IsTurned p own_past
    pub imports : (k h : ℕ) → is_open past (ImportEnd k h) ≡ is_open own_past (ImportEnd k h)
    pub shut : (h : ℕ) → (h ≡ v → ⊥) → is_open own_past (ResultEnd h) ≡ false
    pub busy : is_open own_past (ResultEnd v) ≡ waits t

  first_goes : (s : Tokens) → IsIdle x s → Goes [] s
  first_goes s idle =
      record {
        opens = none_open;
        own_past = [];
        tokens = record { in_place = λ way e. None; state = s.state };
        alike = record { inner = λ way e inner. sym (idle.0 way e); driver_same = λ way. sym (idle.0 way (PartEnd size f)); states = λ i low. refl };
        reached = at_first p (record { in_place = λ way e. None; state = s.state }) ((λ way e. refl), idle.1);
        turned = first_turned p;
        imports = λ k h. refl;
        shut = λ h apart. refl;
        busy = sym (ap asked (idle.1 size) ∙ at_rest);
      }

  -- where the driving part alone has done something
  pub silent : (past : List Pass) (t t' : Tokens) (so : Goes past t) → Alike t' so.tokens → waits t' ≡ waits t → Goes past t'
  silent past t t' so alike same =
      record {
        opens = so.opens;
        own_past = so.own_past;
        tokens = so.tokens;
        alike = alike;
        reached = so.reached;
        turned = so.turned;
        imports = so.imports;
        shut = so.shut;
        busy = so.busy ∙ sym same;
      }

  -- states of other parts
  port_state : (e : End) (n i : ℕ) (t t' : Tokens) (o : Option Contact) → Passes x (Out e n) o t t' → t'.state i ≡ t.state i
  port_state e n i t t' None h = absurd h
  port_state e n i t t' (Some c) (lies, leads) = ap (λ (z : Tokens). z.state i) leads ∙ held_state (way_taken c.role) (places_of x e) None t i

  in_state : (e : End) (n i : ℕ) (t t' : Tokens) (o : Option Contact) → Passes x (In e n) o t t' → t'.state i ≡ t.state i
  in_state e n i t t' None h = absurd h
  in_state e n i t t' (Some c) (small, leads) = ap (λ (z : Tokens). z.state i) leads ∙ held_state (way_put c.role) (places_of x e) (Some n) t i

  fire_state : (i n : ℕ) (slot : Slot) (t t' : Tokens) → i < n → Does x (Fire i slot) t t' → t'.state n ≡ t.state n
  fire_state i n slot t t' low (a, row, lies, fires, leads) =
      let test : nat_eq n i ≡ false = grind (arith, low) in
      ap (λ (z : Tokens). z.state n) leads
      ∙ (puts_state x i (row.puts a) (with_state i (row.next a) (with_token x (end_of i row.takes) (way_of row.takes) None t)) n
      ∙ ((λ k. if test k then row.next a else (with_token x (end_of i row.takes) (way_of row.takes) None t).state n)
      ∙ held_state (way_of row.takes) (places_of x (end_of i row.takes)) None t n))

  -- a part of the plan fires
  step_inner : (past : List Pass) (t t' : Tokens) (i : ℕ) (slot : Slot) → i < size → Goes past t → Does x (Fire i slot) t t' → Goes past t'
  step_inner past t t' i slot low so does =
      let (z, own, alike) = fire_inner v f ds Own p x right driven w outcome own_ends driver_asks done i slot t t' so.tokens low so.alike does in
      let n = next p (Fire i slot) so.opens so.own_past so.tokens z regular so.reached own tt in
      record {
        opens = n.open_then;
        own_past = so.own_past;
        tokens = z;
        alike = alike;
        reached = n.reached;
        turned = so.turned;
        imports = so.imports;
        shut = so.shut;
        busy = so.busy ∙ ap (λ (y : State). asked y.phase) (sym (fire_state i size slot t t' low does));
      }

  -- an output at an import
  step_out : (past : List Pass) (t t' : Tokens) (k h a : ℕ) → Goes past t → Does x (Out (ImportEnd k h) a) t t' → Goes (after x (Out (ImportEnd k h) a) past) t'
  step_out past t t' k h a so does =
      let (z, own, alike) = out_import v f ds Own p x right driven w outcome own_ends driver_asks done k h a t t' so.tokens so.alike does in
      let n = next p (Out (ImportEnd k h) a) so.opens so.own_past so.tokens z regular so.reached own tt in
      let ways : way_out (contact_at x (ImportEnd k h)) ≡ way_out (contact_at p (ImportEnd k h)) =
      ap way_out (sym (import_contact v f ds Own p x right driven w outcome own_ends driver_asks done k h))
      in
      record {
        opens = n.open_then;
        own_past = pass (ImportEnd k h) (way_out (contact_at p (ImportEnd k h))) ∷ so.own_past;
        tokens = z;
        alike = alike;
        reached = n.reached;
        turned = n.outputs.0.1;
        imports = λ l g. λ i. if same_end (ImportEnd k h) (ImportEnd l g) then is_request (ways i) else so.imports l g i;
        shut = so.shut;
        busy = so.busy ∙ ap (λ (y : State). asked y.phase) (sym (port_state (ImportEnd k h) a size t t' (contact_at x (ImportEnd k h)) does.1));
      }

  import_there : (k h : ℕ) (c : Contact) → contact_at p (ImportEnd k h) ≡ Some c
      → (y : Imported) × (slice_get p.imports k ≡ Some y) × (slice_get (contacts_of y.ty) h ≡ Some c)
  import_there k h c there = by_import (slice_get p.imports k) refl there
    where
      by_import : (o : Option Imported) → slice_get p.imports k ≡ o → slice_get (contacts_of_import o) h ≡ Some c
          → (y : Imported) × (slice_get p.imports k ≡ Some y) × (slice_get (contacts_of y.ty) h ≡ Some c)
      by_import None none e = absurd (cc e)
      by_import (Some y) at e = (y, at, e)

  -- an input there
  step_in : (past : List Pass) (t t' : Tokens) (k h a : ℕ) → Goes past t → Does x (In (ImportEnd k h) a) t t'
      → KeepsTurns x past (pass (ImportEnd k h) (way_in (contact_at x (ImportEnd k h)))) → Goes (after x (In (ImportEnd k h) a) past) t'
  step_in past t t' k h a so does keeps =
      let (z, own, alike) = in_import_too v f ds Own p x right driven w outcome own_ends driver_asks done k h a t t' so.tokens so.alike does in
      let n = next p (In (ImportEnd k h) a) so.opens so.own_past so.tokens z regular so.reached own (keeps_own, tt) in
      record {
        opens = n.open_then;
        own_past = pass (ImportEnd k h) (way_in (contact_at p (ImportEnd k h))) ∷ so.own_past;
        tokens = z;
        alike = alike;
        reached = n.reached;
        turned = keeps_own.1;
        imports = imports_then;
        shut = so.shut;
        busy = so.busy ∙ ap (λ (y : State). asked y.phase) (sym (in_state (ImportEnd k h) a size t t' (contact_at x (ImportEnd k h)) does.1));
      }
    where
      same_contact : contact_at p (ImportEnd k h) ≡ contact_at x (ImportEnd k h)
      same_contact = import_contact v f ds Own p x right driven w outcome own_ends driver_asks done k h

      ways : way_in (contact_at x (ImportEnd k h)) ≡ way_in (contact_at p (ImportEnd k h))
      ways = ap way_in (sym same_contact)

      imports_then : (l g : ℕ) → is_open (pass (ImportEnd k h) (way_in (contact_at x (ImportEnd k h))) ∷ past) (ImportEnd l g)
          ≡ is_open (pass (ImportEnd k h) (way_in (contact_at p (ImportEnd k h))) ∷ so.own_past) (ImportEnd l g)
      imports_then l g = λ i. if same_end (ImportEnd k h) (ImportEnd l g) then is_request (ways i) else so.imports l g i

      keeps_own : KeepsTurns p so.own_past (pass (ImportEnd k h) (way_in (contact_at p (ImportEnd k h))))
      keeps_own =
          let (c, there) = in_there x (ImportEnd k h) a t t' does in
          let at_p : contact_at p (ImportEnd k h) ≡ Some c = same_contact ∙ there in
          let (y, at, at_y) = import_there k h c at_p in
          let at_x : slice_get x.imports k ≡ Some y = ap (λ (js : List Imported). slice_get js k) driven.imports ∙ at in
          let of_x = ((to_each x (pass (ImportEnd k h) (way_in (contact_at x (ImportEnd k h))) ∷ past) keeps.1).0 k y at_x).0 in
          let of_p : KeepsTurnsOf y.ty (imp (pass (ImportEnd k h) (way_in (contact_at p (ImportEnd k h))) ∷ so.own_past) k) =
          subst (KeepsTurnsOf y.ty) (λ i g. imports_then k g i) of_x
          in (
            subst (ComesInTurn so.own_past (ImportEnd k h)) ways
                (same_turn past so.own_past (ImportEnd k h) (ImportEnd k h) (way_in (contact_at x (ImportEnd k h))) (so.imports k h) keeps.0),
            in_import p so.own_past k h y c (way_in (contact_at p (ImportEnd k h))) so.turned at at_y (sym (ap way_in at_p)) of_p,
          )

  -- what passes the whole's result
  step_result : (past : List Pass) (t t' : Tokens) (h : ℕ) (c : Contact) (way : Direction) (held : Option ℕ) (x_way : Direction) → Goes past t
      → contact_at x (ResultEnd h) ≡ Some c → t' ≡ with_token x (ResultEnd h) way held t → Goes (pass (ResultEnd h) x_way ∷ past) t'
  step_result past t t' h c way held x_way so there leads =
      record {
        opens = so.opens;
        own_past = so.own_past;
        tokens = so.tokens;
        alike =
            subst (λ (z : Tokens). Alike z so.tokens) (sym leads)
            (result_agrees v f ds Own p x right driven w outcome own_ends driver_asks done h c way held t so.tokens there so.alike);
        reached = so.reached;
        turned = so.turned;
        imports = so.imports;
        shut = so.shut;
        busy = so.busy ∙ ap (λ (y : State). asked y.phase) (sym (ap (λ (z : Tokens). z.state size) leads ∙ held_state way (places_of x (ResultEnd h)) held t size));
      }

  -- the driving part asks the plan
  at_result : contact_at p (ResultEnd v) ≡ Some (asks q b)
  at_result = ap (λ (t : Type'). turned_if (slice_get (contacts_of t) v)) outcome ∙ ap turned_if contact

  pub asks_plan : (past : List Pass) (t t' : Tokens) (a : ℕ) (so : Goes past t) → Alike t' (with_token p (ResultEnd v) Request (Some a) so.tokens) → a < 2 ^ q
      → waits t ≡ false → waits t' ≡ true → Goes past t'
  asks_plan past t t' a so alike small before now =
      let n = next p (In (ResultEnd v) a) so.opens so.own_past so.tokens z regular so.reached does (subst (λ (y : Direction). KeepsTurns p so.own_past (pass (ResultEnd v) y)) (sym led) keeps, tt) in
      record {
        opens = n.open_then;
        own_past = pass (ResultEnd v) Request ∷ so.own_past;
        tokens = z;
        alike = alike;
        reached = subst (λ (y : Direction). Reached p n.open_then (pass (ResultEnd v) y ∷ so.own_past) z) led n.reached;
        turned = keeps.1;
        imports = so.imports;
        shut = shut_then;
        busy = (let one = same_itself (ResultEnd v) in λ i. if one i then true else is_open so.own_past (ResultEnd v)) ∙ sym now;
      }
    where
      z : Tokens
      z = with_token p (ResultEnd v) Request (Some a) so.tokens

      led : way_in (contact_at p (ResultEnd v)) ≡ Request
      led = ap way_in at_result

      does : Does p (In (ResultEnd v) a) so.tokens z
      does = (tt, subst (λ (o : Option Contact). Passes p (In (ResultEnd v) a) o so.tokens z) (sym at_result) (small, refl))

      shut_then : (h : ℕ) → (h ≡ v → ⊥) → is_open (pass (ResultEnd v) Request ∷ so.own_past) (ResultEnd h) ≡ false
      shut_then h apart =
          let other = apart_is_not_same (ResultEnd v) (ResultEnd h) (λ same. (let number : h ≡ v = cc same in apart number)) in
          (λ i. if other i then true else is_open so.own_past (ResultEnd h)) ∙ so.shut h apart

      keeps : KeepsTurns p so.own_past (pass (ResultEnd v) Request)
      keeps = (
        so.busy ∙ before,
        in_result p so.own_past v (serves q b) Request so.turned (ap (λ (t : Type'). slice_get (contacts_of t) v) outcome ∙ contact) refl
            (subst (λ (t : Type'). KeepsTurnsOf t (res (pass (ResultEnd v) Request ∷ so.own_past))) (sym outcome)
            (one_open v w (res (pass (ResultEnd v) Request ∷ so.own_past)) shut_then)),
      )

  -- and takes its answer
  pub takes_answer : (past : List Pass) (t t' : Tokens) (a : ℕ) (so : Goes past t) → Alike t' (with_token p (ResultEnd v) Answer None so.tokens)
      → token_at p so.tokens (ResultEnd v) Answer ≡ Some a → waits t' ≡ false → Goes past t'
  takes_answer past t t' a so alike lies now =
      let n = next p (Out (ResultEnd v) a) so.opens so.own_past so.tokens z regular so.reached does tt in
      record {
        opens = n.open_then;
        own_past = pass (ResultEnd v) Answer ∷ so.own_past;
        tokens = z;
        alike = alike;
        reached = subst (λ (y : Direction). Reached p n.open_then (pass (ResultEnd v) y ∷ so.own_past) z) led n.reached;
        turned = subst (λ (y : Direction). IsTurned p (pass (ResultEnd v) y ∷ so.own_past)) led n.outputs.0.1;
        imports = so.imports;
        shut = λ h apart.
            (let other = apart_is_not_same (ResultEnd v) (ResultEnd h) (λ same. (let number : h ≡ v = cc same in apart number)) in
            (λ i. if other i then false else is_open so.own_past (ResultEnd h)) ∙ so.shut h apart);
        busy = (let one = same_itself (ResultEnd v) in λ i. if one i then false else is_open so.own_past (ResultEnd v)) ∙ sym now;
      }
    where
      z : Tokens
      z = with_token p (ResultEnd v) Answer None so.tokens

      led : way_out (contact_at p (ResultEnd v)) ≡ Answer
      led = ap way_out at_result

      does : Does p (Out (ResultEnd v) a) so.tokens z
      does = (tt, subst (λ (o : Option Contact). Passes p (Out (ResultEnd v) a) o so.tokens z) (sym at_result) (lies, refl))

  -- what a driving part may do: ask the plan, take its answer, or nothing of these
  state_then : (e : End) (way : Direction) (held : Option ℕ) (i : ℕ) (y : State) (z : Tokens) → (with_token x e way held (with_state i y z)).state size
      ≡ (if nat_eq size i then y else z.state size)
  state_then e way held i y z = held_state way (places_of x e) held (with_state i y z) size

  here : nat_eq size size ≡ true
  here = grind arith

  pub drive_asks : (past : List Pass) (t t' : Tokens) (a : ℕ) (y : State) (e : End) (way : Direction) → Goes past t
      → t' ≡ with_token x (PartEnd size f) Request (Some a) (with_state size y (with_token x e way None t)) → IsOther size f e → a < 2 ^ q → waits t ≡ false
      → asked y.phase ≡ true → Goes past t'
  drive_asks past t t' a y e way so leads other small before now =
      asks_plan past t t' a so
      (subst (λ (z : Tokens). Alike z (with_token p (ResultEnd v) Request (Some a) so.tokens)) (sym leads)
      (driver_agrees v f ds Own p x right driven w outcome own_ends driver_asks done Request (Some a) (with_state size y (with_token x e way None t)) so.tokens
      (state_other v f ds Own p x right driven w outcome own_ends driver_asks done size y (with_token x e way None t) so.tokens (omega arith)
      (other_agrees v f ds Own p x right driven w outcome own_ends driver_asks done e way None t so.tokens other so.alike)))) small before
      (ap waits leads
      ∙ (ap (λ (s : State). asked s.phase) (state_then (PartEnd size f) Request (Some a) size y (with_token x e way None t))
      ∙ ((λ k. asked (if here k then y else (with_token x e way None t).state size).phase) ∙ now)))

  pub drive_takes : (past : List Pass) (t t' : Tokens) (a n : ℕ) (y : State) (e : End) (way : Direction) → Goes past t
      → t' ≡ with_token x e way (Some n) (with_state size y (with_token x (PartEnd size f) Answer None t)) → IsOther size f e
      → token_at x t (PartEnd size f) Answer ≡ Some a → asked y.phase ≡ false → Goes past t'
  drive_takes past t t' a n y e way so leads other lies now =
      takes_answer past t t' a so
      (subst (λ (z : Tokens). Alike z (with_token p (ResultEnd v) Answer None so.tokens)) (sym leads)
      (other_agrees v f ds Own p x right driven w outcome own_ends driver_asks done e way (Some n) (with_state size y (with_token x (PartEnd size f) Answer None t))
      (with_token p (ResultEnd v) Answer None so.tokens) other
      (state_other v f ds Own p x right driven w outcome own_ends driver_asks done size y (with_token x (PartEnd size f) Answer None t)
      (with_token p (ResultEnd v) Answer None so.tokens) (omega arith)
      (driver_agrees v f ds Own p x right driven w outcome own_ends driver_asks done Answer None t so.tokens so.alike))))
      (driver_token v f ds Own p x right driven w outcome own_ends driver_asks done Answer a t so.tokens so.alike lies)
      (ap waits leads
      ∙ (ap (λ (s : State). asked s.phase) (state_then e way (Some n) size y (with_token x (PartEnd size f) Answer None t))
      ∙ ((λ k. asked (if here k then y else (with_token x (PartEnd size f) Answer None t).state size).phase) ∙ now)))

  pub drive_silent : (past : List Pass) (t t' : Tokens) (n i : ℕ) (y : State) (e d : End) (way also : Direction) → Goes past t → size ≤ i
      → t' ≡ with_token x e way (Some n) (with_state i y (with_token x d also None t)) → IsOther size f e → IsOther size f d
      → asked (if nat_eq size i then y else t.state size).phase ≡ waits t → Goes past t'
  drive_silent past t t' n i y e d way also so high leads other too now =
      silent past t t' so
      (subst (λ (z : Tokens). Alike z so.tokens) (sym leads)
      (other_agrees v f ds Own p x right driven w outcome own_ends driver_asks done e way (Some n) (with_state i y (with_token x d also None t)) so.tokens other
      (state_other v f ds Own p x right driven w outcome own_ends driver_asks done i y (with_token x d also None t) so.tokens high
      (other_agrees v f ds Own p x right driven w outcome own_ends driver_asks done d also None t so.tokens too so.alike))))
      (ap waits leads
      ∙ (ap (λ (s : State). asked s.phase) (state_then e way (Some n) i y (with_token x d also None t))
      ∙ (ap (λ (s : State). asked (if nat_eq size i then y else s).phase) (held_state also (places_of x d) None t size) ∙ now)))

  -- tokens have at most their bits
  abbrev pub Bits : Tokens → Type 0
  Bits t = (e : End) (c : Contact) (way : Direction) (n : ℕ) → contact_at x e ≡ Some c → token_at x t e way ≡ Some n → n < 2 ^ bits_of c way

  -- so it is along a list, where each firing of a driving part is one of these
  module _ (literals : All LiteralFits x.parts)
      (drives : (past : List Pass) (t t' : Tokens) (i : ℕ) (slot : Slot) → Goes past t → Bits t → size ≤ i → Does x (Fire i slot) t t' → Goes past t') where
    step : (past : List Pass) (t t' : Tokens) (y : Element) → Goes past t → Bits t → Does x y t t' → InputsKeepTurns x past (y ∷ []) → Goes (after x y past) t'
    step past t t' (Fire i slot) so bits does keeps = by_test (nat_lt i size) refl
      where
        by_test : (l : Bool) → nat_lt i size ≡ l → Goes past t'
        by_test true test = step_inner past t t' i slot (grind (arith, nat_tests, test)) so does
        by_test false test = drives past t t' i slot so bits (grind (arith, nat_tests, test)) does
    step past t t' (Out (PartEnd i h) a) so bits does keeps = absurd does.0
    step past t t' (Out (ImportEnd k h) a) so bits does keeps = step_out past t t' k h a so does
    step past t t' (Out (ResultEnd h) a) so bits does keeps =
        let (c, there) = out_there x (ResultEnd h) a t t' does in
        let (lies, leads) = subst (λ (o : Option Contact). Passes x (Out (ResultEnd h) a) o t t') there does.1 in
        step_result past t t' h c (way_taken c.role) None (way_out (contact_at x (ResultEnd h))) so there leads
    step past t t' (In (PartEnd i h) a) so bits does keeps = absurd does.0
    step past t t' (In (ImportEnd k h) a) so bits does keeps = step_in past t t' k h a so does keeps.0
    step past t t' (In (ResultEnd h) a) so bits does keeps =
        let (c, there) = in_there x (ResultEnd h) a t t' does in
        let (small, leads) = subst (λ (o : Option Contact). Passes x (In (ResultEnd h) a) o t t') there does.1 in
        step_result past t t' h c (way_put c.role) (Some a) (way_in (contact_at x (ResultEnd h))) so there leads

    along : (ys done : List Element) (first t t' : Tokens) (past : List Pass) → Goes past t → IsIdle x first → Runs x done first t → Runs x ys t t' → InputsKeepTurns x past ys
        → (later : List Pass) × Goes later t'
    along [] done first t t' past so idle before runs keeps = (past, subst (Goes past) (sym runs) so)
    along (y ∷ ys) done first t t' past so idle before (z, does, runs) keeps =
        let bits = (all_stay_fit x done first t driven.right literals (idle_fits x first idle) before).0 in
        along ys (done ++ y ∷ []) first z t' (after x y past) (step past t z y so bits does (first_turns x past y ys keeps)) idle
        (runs_then x done y first t z before does) runs (later_turns x past y ys keeps)

    pub goes_along : (s t : Tokens) (ys : List Element) → IsIdle x s → Runs x ys s t → InputsKeepTurns x [] ys → (past : List Pass) × Goes past t
    goes_along s t ys idle runs keeps = along ys [] s s t [] (first_goes s idle) idle refl runs keeps
