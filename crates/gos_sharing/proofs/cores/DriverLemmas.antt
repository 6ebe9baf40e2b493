-- The tokens of a plan of a variable in a whole that reads it or writes it.
--
-- The whole is the plan with driving parts behind it (`IsDriven` of buffers): what lies at the driven handshake of the plan's result lies at
-- the driving part.
use Rattle.std.specs.Prelude.{ℕ, ◌<◌, ◌≤◌, Bool, true, false, ◌&&◌, List, Option, Some, None, length, slice_get, nat_eq, if◌then◌else◌}
use Rattle.std.proofs.Common.{◌≡◌, [], ◌∷◌, ◌⊎◌, inl, inr, refl, sym, ◌∙◌, ap, subst, arith}
use Rattle.std.proofs.lemmas.Bool.{and_right}
use Rattle.gos_types.specs.declared.shakes.Role.TheVariants.{Serve, Ask}
use Rattle.gos_types.specs.Types.{Type', Var, IsDone}
use Rattle.gos_types.specs.Handshakes.{turned}
use Rattle.gos_model.specs.Typing.{Imported}
use Rattle.gos_types.specs.Events.{Direction}
use Rattle.gos_plan.specs.Kinds.{Part, Contact, asks, serves, contacts_of, turned_contact}
use Rattle.gos_plan.specs.Firing.{State, Slot, Token}
use Rattle.gos_plan.specs.Plans.{End, PartEnd, ImportEnd, ResultEnd, Joint, Plan, IsRight, contact_at, contacts_of_import, turned_if, same_end, stands_in}
use Rattle.gos_plan.specs.Tokens.{Tokens, Element, Fire, Out, In, places_of, same_way, with_state, held_at, with_held, token_at, with_token, with_puts, end_of, way_of, way_taken, way_put, fired, firing_of, Passes, Does}
use Rattle.gos_plan.proofs.JointLemmas.{IsIn, same_itself, Found, found, fits, has_place, stands_there, contained, apart_is_not_same, which_end}
use Rattle.gos_plan.proofs.HeldLemmas.{nothing_there}
use Rattle.gos_realises.proofs.realises.InputLemmas.{import_serves, result_asks}
use Rattle.gos_joining.specs.webs.Webs.{joint}
use Rattle.gos_joining.proofs.webs.CutLemmas.{stands_by}
use Rattle.gos_joining.proofs.webs.MovedLemmas.{listed}
use Rattle.gos_sharing.proofs.buffers.DrivenLemmas.{IsPlain, DrivenJoint, IsDriven, before_end}
use Rattle.gos_supplies.proofs.unjoined.SettledLemmas.{end_there}
use Rattle.gos_supplies.proofs.turns.StandLemmas.{asks_own}

-- an end of the first n parts, or of an import
abbrev pub IsInner : ℕ → End → Type 0
IsInner n (PartEnd i h) = i < n
IsInner n (ImportEnd i h) = Unit {0}
IsInner n (ResultEnd h) = ⊥

-- an end of the driving parts, but for the one that drives, or of the whole's result
abbrev pub IsOther : ℕ → ℕ → End → Type 0
IsOther n f (PartEnd i h) = (n ≤ i) × (PartEnd i h ≡ PartEnd n f → ⊥)
IsOther n f (ImportEnd i h) = ⊥
IsOther n f (ResultEnd h) = Unit {0}

inner_other : (n f : ℕ) (e : End) → IsInner n e → IsOther n f e → ⊥
inner_other n f (PartEnd i h) inner other = let high = other.0 in omega (arith, inner, high)
inner_other n f (ImportEnd i h) inner other = other
inner_other n f (ResultEnd h) inner other = inner

inner_driver : (n f : ℕ) (e : End) → IsInner n e → e ≡ PartEnd n f → ⊥
inner_driver n f e inner same = let low : n < n = subst (IsInner n) same inner in omega (arith, low)

inner_result : (n h : ℕ) (e : End) → IsInner n e → e ≡ ResultEnd h → ⊥
inner_result n h e inner same = subst (IsInner n) same inner

other_driver : (n f : ℕ) (e : End) → IsOther n f e → e ≡ PartEnd n f → ⊥
other_driver n f e other same = (subst (IsOther n f) same other).1 refl

-- whether an end names this place
abbrev names : End → Option End → Bool
names e None = false
names e (Some d) = same_end e d

held_there : (way w : Direction) (o : Option End) (held : Option ℕ) (s : Tokens) (e : End)
    → (with_held way o held s).in_place w e ≡ (if same_way w way && names e o then held else s.in_place w e)
held_there way w None held s e = let none = and_right (same_way w way) false refl in λ i. if sym none i then held else s.in_place w e
held_there way w (Some d) held s e = refl

pub held_state : (way : Direction) (o : Option End) (held : Option ℕ) (s : Tokens) (i : ℕ) → (with_held way o held s).state i ≡ s.state i
held_state way None held s i = refl
held_state way (Some d) held s i = refl

-- the driven handshake v of the plan's result, at handshake f of the first driving part
module _ (v f : ℕ) (ds : List Part) (Own : ℕ → End → End → Type 0) (p x : Plan) (right : IsRight p) (driven : IsDriven v f ds Own p x) (w : ℕ) (outcome : p.outcome ≡ Var w)
    (own_ends : (a b : End) → Own (length p.parts) a b → IsOther (length p.parts) f a × IsOther (length p.parts) f b)
    (driver_asks : (c : Contact) × (contact_at x (PartEnd (length p.parts) f) ≡ Some c) × (c.role ≡ Ask)) (done : IsDone x.outcome) where
  abbrev pub size : ℕ
  size = length p.parts

  abbrev pub driver : End
  driver = PartEnd size f

  abbrev pub Inner : End → Type 0
  Inner = IsInner size

  abbrev pub Other : End → Type 0
  Other = IsOther size f

  -- how the tokens agree
  pub record Agree (t u : Tokens) : Type 0 where
    pub inner : (way : Direction) (e : End) → Inner e → u.in_place way e ≡ t.in_place way e
    pub driver_same : (way : Direction) → u.in_place way (ResultEnd v) ≡ t.in_place way driver
    pub states : (i : ℕ) → i < size → u.state i ≡ t.state i

  -- places that agree
  pub record Same (at_x at_p : Option End) : Type 0 where
    pub inner : (e : End) → Inner e → names e at_p ≡ names e at_x
    pub driver_same : names (ResultEnd v) at_p ≡ names driver at_x

  pub held_agree : (at_x at_p : Option End) (way : Direction) (held : Option ℕ) (t u : Tokens) → Same at_x at_p → Agree t u
      → Agree (with_held way at_x held t) (with_held way at_p held u)
  held_agree at_x at_p way held t u same agree =
      record {
        inner = λ k e inner.
            held_there way k at_p held u e
            ∙ ((λ i. if same_way k way && same.inner e inner i then held else agree.inner k e inner i) ∙ sym (held_there way k at_x held t e));
        driver_same = λ k.
            held_there way k at_p held u (ResultEnd v)
            ∙ ((λ i. if same_way k way && same.driver_same i then held else agree.driver_same k i) ∙ sym (held_there way k at_x held t driver));
        states = λ i low. held_state way at_p held u i ∙ (agree.states i low ∙ sym (held_state way at_x held t i));
      }

  same_inner : (d : End) → Inner d → Same (Some d) (Some d)
  same_inner d inner =
      record {
        inner = λ e also. refl;
        driver_same = apart_is_not_same (ResultEnd v) d (λ same. inner_result size v d inner (sym same)) ∙ sym (apart_is_not_same driver d (λ same. inner_driver size f d inner (sym same)));
      }

  same_driver : Same (Some driver) (Some (ResultEnd v))
  same_driver =
      record {
        inner = λ e inner. apart_is_not_same e (ResultEnd v) (inner_result size v e inner) ∙ sym (apart_is_not_same e driver (inner_driver size f e inner));
        driver_same = same_itself (ResultEnd v) ∙ sym (same_itself driver);
      }

  result_apart : (h : ℕ) → (h ≡ v → ⊥) → ResultEnd v ≡ ResultEnd h → ⊥
  result_apart h apart same = let number : h ≡ v = cc same in apart number

  pub same_lost : (h : ℕ) → (h ≡ v → ⊥) → Same None (Some (ResultEnd h))
  same_lost h apart =
      record {
        inner = λ e inner. apart_is_not_same e (ResultEnd h) (inner_result size h e inner);
        driver_same = apart_is_not_same (ResultEnd v) (ResultEnd h) (result_apart h apart);
      }

  same_none : Same None None
  same_none = record { inner = λ e inner. refl; driver_same = refl }

  pub same_other : (o : Option End) → ((d : End) → o ≡ Some d → Other d) → Same o None
  same_other None other = same_none
  same_other (Some d) other =
      let here = other d refl in
      record {
        inner = λ e inner. sym (apart_is_not_same e d (λ same. inner_other size f e inner (subst Other (sym same) here)));
        driver_same = sym (apart_is_not_same driver d (λ same. other_driver size f d here (sym same)));
      }

  -- the plan's joints ask at inner ends or at the result, and serve at inner ends
  result_role : (h : ℕ) (c : Contact) → contact_at p (ResultEnd h) ≡ Some c → Ask ≡ c.role
  result_role h c there = by_contact (slice_get (contacts_of (Var w)) h) refl (ap (λ (t : Type'). turned_if (slice_get (contacts_of t) h)) (sym outcome) ∙ there)
    where
      by_contact : (o : Option Contact) → slice_get (contacts_of (Var w)) h ≡ o → turned_if o ≡ Some c → Ask ≡ c.role
      by_contact None at e = absurd (cc e)
      by_contact (Some d) at e =
          let same : turned_contact d ≡ c = cc e in ap (λ r. turned r) (import_serves (Var w) tt h d at) ∙ ap (λ (k : Contact). k.role) same

  ask_serve : Ask ≡ Serve → ⊥
  ask_serve e = cc e

  pub asking_inner : (a b : End) → IsIn (joint a b) p.joints → IsPlain a → Inner a
  asking_inner (PartEnd i h) b has plain = let (q, k, asked, served) = fits p [] p.joints (joint (PartEnd i h) b) right has in end_there p (PartEnd i h) (asks q k) asked
  asking_inner (ImportEnd i h) b has plain = tt
  asking_inner (ResultEnd h) b has plain = absurd plain

  pub serving_inner : (a b : End) → IsIn (joint a b) p.joints → Inner b
  serving_inner a (PartEnd i h) has = let (q, k, asked, served) = fits p [] p.joints (joint a (PartEnd i h)) right has in end_there p (PartEnd i h) (serves q k) served
  serving_inner a (ImportEnd i h) has = tt
  serving_inner a (ResultEnd h) has =
      let (q, k, asked, served) = fits p [] p.joints (joint a (ResultEnd h)) right has in absurd (ask_serve (result_role h (serves q k) served))

  pub of_joint : (j : Joint) → IsIn j x.joints → DrivenJoint v f Own size p j.asking j.serving
  of_joint j has = (driven.joints j.asking j.serving).0 (listed x.joints j has)

  in_x : (a b : End) → DrivenJoint v f Own size p a b → IsIn (joint a b) x.joints
  in_x a b here = contained x.joints (joint a b) ((driven.joints a b).1 here)

  -- the places of an inner end
  abbrev Seat : End → Type 0
  Seat e =
      ((d : End) × (places_of x e ≡ Some d) × (places_of p e ≡ Some d) × Inner d)
      ⊎ ((places_of x e ≡ Some driver) × (places_of p e ≡ Some (ResultEnd v)))
      ⊎ ((places_of x e ≡ None) × ((a : End) → places_of p e ≡ Some a → (h : ℕ) × (a ≡ ResultEnd h) × (h ≡ v → ⊥)))

  seat : (e : End) → Inner e → Seat e
  seat e inner = by_place (places_of x e) refl
    where
      of_found : (d : End) → places_of x e ≡ Some d → (j : Joint) → j.asking ≡ d → stands_in e j ≡ true → DrivenJoint v f Own size p j.asking j.serving → Seat e
      of_found d at j named stands (inl (in_p, plain)) =
          inl (j.asking, at ∙ ap Some (sym named), stands_there p j e right in_p stands, asking_inner j.asking j.serving in_p plain)
      of_found d at j named stands (inr (inl (drives, in_p))) =
          elim (which_end e j stands) [
            | inl same ↦ absurd (inner_driver size f e inner (same ∙ drives))
            | inr same ↦ inr (inl (
              at ∙ ap Some (sym named ∙ drives),
              stands_there p (joint (ResultEnd v) j.serving) e right in_p (stands_by e (joint (ResultEnd v) j.serving) (inr same)),
            ))
          ]
      of_found d at j named stands (inr (inr own)) =
          let (a, b) = own_ends j.asking j.serving own in
          elim (which_end e j stands) [
            | inl same ↦ absurd (inner_other size f e inner (subst Other (sym same) a))
            | inr same ↦ absurd (inner_other size f e inner (subst Other (sym same) b))
          ]

      none_there : places_of x e ≡ None → (j : Joint) → IsIn j p.joints → stands_in e j ≡ true → (a b : End) → j.asking ≡ a → j.serving ≡ b
          → (h : ℕ) × (a ≡ ResultEnd h) × (h ≡ v → ⊥)
      none_there none j in_p stands (PartEnd i g) b at_a at_b =
          absurd (has_place x.joints j e (in_x j.asking j.serving (inl (in_p, subst IsPlain (sym at_a) tt))) stands none)
      none_there none j in_p stands (ImportEnd i g) b at_a at_b =
          absurd (has_place x.joints j e (in_x j.asking j.serving (inl (in_p, subst IsPlain (sym at_a) tt))) stands none)
      none_there none j in_p stands (ResultEnd h) b at_a at_b = (
        h,
        refl,
        λ same.
            (let in_v : IsIn (joint (ResultEnd v) j.serving) p.joints =
            subst (λ (d : End). IsIn (joint d j.serving) p.joints) (at_a ∙ ap (λ (n : ℕ). ResultEnd n) same) in_p
            in
            elim (which_end e j stands) [
              | inl here ↦ absurd (inner_result size h e inner (here ∙ at_a))
              | inr here ↦ has_place x.joints (joint driver j.serving) e (in_x driver j.serving (inr (inl (refl, in_v))))
                  (stands_by e (joint driver j.serving) (inr here)) none
            ]),
      )

      by_place : (o : Option End) → places_of x e ≡ o → Seat e
      by_place (Some d) at = let j = found x.joints e d at in of_found d at j.joint j.named j.stands (of_joint j.joint j.is_in)
      by_place None none =
          inr (inr (none, λ a named. (let j = found p.joints e a named in none_there none j.joint j.is_in j.stands a j.joint.serving j.named refl)))

  pub same_places : (e : End) → Inner e → Same (places_of x e) (places_of p e)
  same_places e inner = by_seat (seat e inner)
    where
      lost : (o : Option End) → ((a : End) → o ≡ Some a → (h : ℕ) × (a ≡ ResultEnd h) × (h ≡ v → ⊥)) → Same None o
      lost None all = same_none
      lost (Some a) all = let (h, at, apart) = all a refl in subst (λ (d : End). Same None (Some d)) (sym at) (same_lost h apart)

      by_seat : Seat e → Same (places_of x e) (places_of p e)
      by_seat (inl (d, at_x, at_p, inner_d)) =
          subst (λ (o : Option End). Same o (places_of p e)) (sym at_x) (subst (Same (Some d)) (sym at_p) (same_inner d inner_d))
      by_seat (inr (inl (at_x, at_p))) =
          subst (λ (o : Option End). Same o (places_of p e)) (sym at_x) (subst (Same (Some driver)) (sym at_p) same_driver)
      by_seat (inr (inr (none, all))) = subst (λ (o : Option End). Same o (places_of p e)) (sym none) (lost (places_of p e) all)

  pub token_inner : (e : End) (way : Direction) (n : ℕ) (t u : Tokens) → Inner e → Agree t u → token_at x t e way ≡ Some n → token_at p u e way ≡ Some n
  token_inner e way n t u inner agree lies = by_seat (seat e inner)
    where
      by_seat : Seat e → token_at p u e way ≡ Some n
      by_seat (inl (d, at_x, at_p, inner_d)) =
          ap (held_at u way) at_p ∙ (agree.inner way d inner_d ∙ (sym (ap (held_at t way) at_x) ∙ lies))
      by_seat (inr (inl (at_x, at_p))) = ap (held_at u way) at_p ∙ (agree.driver_same way ∙ (sym (ap (held_at t way) at_x) ∙ lies))
      by_seat (inr (inr (none, all))) = absurd (nothing_there x e way n t lies none)

  pub put_inner : (e : End) (way : Direction) (held : Option ℕ) (t u : Tokens) → Inner e → Agree t u → Agree (with_token x e way held t) (with_token p e way held u)
  put_inner e way held t u inner agree = held_agree (places_of x e) (places_of p e) way held t u (same_places e inner) agree

  puts_inner : (i : ℕ) → i < size → (ts : List Token) (t u : Tokens) → Agree t u → Agree (with_puts x i ts t) (with_puts p i ts u)
  puts_inner i low [] t u agree = agree
  puts_inner i low (y ∷ ts) t u agree =
      puts_inner i low ts (with_token x (end_of i y.slot) (way_of y.slot) (Some y.value) t) (with_token p (end_of i y.slot) (way_of y.slot) (Some y.value) u)
      (put_inner (end_of i y.slot) (way_of y.slot) (Some y.value) t u low agree)

  state_inner : (i : ℕ) (q : State) (t u : Tokens) → Agree t u → Agree (with_state i q t) (with_state i q u)
  state_inner i q t u agree =
      record {
        inner = agree.inner;
        driver_same = agree.driver_same;
        states = λ j low. λ k. if nat_eq j i then q else agree.states j low k;
      }

  pub state_other : (i : ℕ) (q : State) (t u : Tokens) → size ≤ i → Agree t u → Agree (with_state i q t) u
  state_other i q t u high agree =
      record {
        inner = agree.inner;
        driver_same = agree.driver_same;
        states = λ j low. (let test : nat_eq j i ≡ false = grind (arith, low, high) in agree.states j low ∙ (λ k. if sym test k then q else t.state j));
      }

  -- a part of the plan fires in both
  abbrev Both : Element → Tokens → Tokens → Type 0
  Both y t u = (z : Tokens) × Does p y u z × Agree t z

  pub fire_inner : (i : ℕ) (slot : Slot) (t t' u : Tokens) → i < size → Agree t u → Does x (Fire i slot) t t' → Both (Fire i slot) t' u
  fire_inner i slot t t' u low agree (n, row, lies, fires, leads) = (
    fired p i row n u,
    (n, row, token_inner (end_of i slot) (way_of slot) n t u low agree lies, by, refl),
    subst (λ (z : Tokens). Agree z (fired p i row n u)) (sym leads)
        (puts_inner i low (row.puts n) _ _ (state_inner i (row.next n) _ _ (put_inner (end_of i row.takes) (way_of row.takes) None t u low agree))),
  )
    where
      parts : slice_get p.parts i ≡ slice_get x.parts i
      parts = sym (before_end p.parts ds i low) ∙ ap (λ (ks : List Part). slice_get ks i) (sym driven.parts)

      by : firing_of (slice_get p.parts i) (u.state i) slot ≡ Some row
      by = (λ k. firing_of (parts k) (agree.states i low k) slot) ∙ fires

  -- what passes an import
  pub import_contact : (k h : ℕ) → contact_at p (ImportEnd k h) ≡ contact_at x (ImportEnd k h)
  import_contact k h = ap (λ (js : List Imported). slice_get (contacts_of_import (slice_get js k)) h) (sym driven.imports)

  pub out_import : (k h n : ℕ) (t t' u : Tokens) → Agree t u → Does x (Out (ImportEnd k h) n) t t' → Both (Out (ImportEnd k h) n) t' u
  out_import k h n t t' u agree (port, passes) = by_contact (contact_at x (ImportEnd k h)) refl passes
    where
      e : End
      e = ImportEnd k h

      by_contact : (o : Option Contact) → contact_at x e ≡ o → Passes x (Out e n) o t t' → Both (Out e n) t' u
      by_contact None there h = absurd h
      by_contact (Some c) there (lies, leads) =
          let z = with_token p e (way_taken c.role) None u in (
            z,
            (tt, subst (λ (o : Option Contact). Passes p (Out e n) o u z) (sym (import_contact k h ∙ there)) (token_inner e (way_taken c.role) n t u tt agree lies, refl)),
            subst (λ (s : Tokens). Agree s z) (sym leads) (put_inner e (way_taken c.role) None t u tt agree),
          )

  pub in_import_too : (k h n : ℕ) (t t' u : Tokens) → Agree t u → Does x (In (ImportEnd k h) n) t t' → Both (In (ImportEnd k h) n) t' u
  in_import_too k h n t t' u agree (port, passes) = by_contact (contact_at x (ImportEnd k h)) refl passes
    where
      e : End
      e = ImportEnd k h

      by_contact : (o : Option Contact) → contact_at x e ≡ o → Passes x (In e n) o t t' → Both (In e n) t' u
      by_contact None there h = absurd h
      by_contact (Some c) there (small, leads) =
          let z = with_token p e (way_put c.role) (Some n) u in (
            z,
            (tt, subst (λ (o : Option Contact). Passes p (In e n) o u z) (sym (import_contact k h ∙ there)) (small, refl)),
            subst (λ (s : Tokens). Agree s z) (sym leads) (put_inner e (way_put c.role) (Some n) t u tt agree),
          )

  -- what passes the whole's result is nothing to the plan
  result_other : (h : ℕ) (c : Contact) → contact_at x (ResultEnd h) ≡ Some c → Same (places_of x (ResultEnd h)) None
  result_other h c there =
      same_other (places_of x (ResultEnd h))
      (λ d at. subst Other (sym (asks_own x (ResultEnd h) d c driven.right there (sym (result_asks x.outcome done h c there).1) at)) tt)

  pub result_agrees : (h : ℕ) (c : Contact) (way : Direction) (held : Option ℕ) (t u : Tokens) → contact_at x (ResultEnd h) ≡ Some c → Agree t u
      → Agree (with_token x (ResultEnd h) way held t) u
  result_agrees h c way held t u there agree = held_agree (places_of x (ResultEnd h)) None way held t u (result_other h c there) agree

  -- an end of the driving parts but for the driver
  pub other_places : (e : End) → Other e → Same (places_of x e) None
  other_places e other = same_other (places_of x e) (λ d at. of_place d at)
    where
      of_place : (d : End) → places_of x e ≡ Some d → Other d
      of_place d at = by_joint (of_joint j.joint j.is_in)
        where
          j : Found x.joints e d
          j = found x.joints e d at

          by_joint : DrivenJoint v f Own size p j.joint.asking j.joint.serving → Other d
          by_joint (inr (inr own)) = subst Other j.named (own_ends j.joint.asking j.joint.serving own).0
          by_joint (inr (inl (drives, in_p))) =
              elim (which_end e j.joint j.stands) [
                | inl same ↦ absurd (other_driver size f e other (same ∙ drives))
                | inr same ↦ absurd (inner_other size f e (subst Inner (sym same) (serving_inner (ResultEnd v) j.joint.serving in_p)) other)
              ]
          by_joint (inl (in_p, plain)) =
              elim (which_end e j.joint j.stands) [
                | inl same ↦ absurd (inner_other size f e (subst Inner (sym same) (asking_inner j.joint.asking j.joint.serving in_p plain)) other)
                | inr same ↦ absurd (inner_other size f e (subst Inner (sym same) (serving_inner j.joint.asking j.joint.serving in_p)) other)
              ]

  pub other_agrees : (e : End) (way : Direction) (held : Option ℕ) (t u : Tokens) → Other e → Agree t u → Agree (with_token x e way held t) u
  other_agrees e way held t u other agree = held_agree (places_of x e) None way held t u (other_places e other) agree

  -- the driver
  abbrev pub DriverSeat : Type 0
  DriverSeat =
      ((places_of x driver ≡ Some driver) × (places_of p (ResultEnd v) ≡ Some (ResultEnd v)))
      ⊎ ((places_of x driver ≡ None) × (places_of p (ResultEnd v) ≡ None))

  driver_seat : DriverSeat
  driver_seat = by_place (places_of x driver) (places_of p (ResultEnd v)) refl refl
    where
      of_found : (d : End) → places_of x driver ≡ Some d → (j : Joint) → stands_in driver j ≡ true → DrivenJoint v f Own size p j.asking j.serving → DriverSeat
      of_found d at j stands (inl (in_p, plain)) =
          elim (which_end driver j stands) [
            | inl same ↦ absurd (inner_driver size f j.asking (asking_inner j.asking j.serving in_p plain) (sym same))
            | inr same ↦ absurd (inner_driver size f j.serving (serving_inner j.asking j.serving in_p) (sym same))
          ]
      of_found d at j stands (inr (inl (drives, in_p))) =
          inl (
            at ∙ ap Some (asks_own x driver d driver_asks.0 driven.right driver_asks.1 driver_asks.2 at),
            stands_there p (joint (ResultEnd v) j.serving) (ResultEnd v) right in_p (stands_by (ResultEnd v) (joint (ResultEnd v) j.serving) (inl refl)),
          )
      of_found d at j stands (inr (inr own)) =
          let (a, b) = own_ends j.asking j.serving own in
          elim (which_end driver j stands) [
            | inl same ↦ absurd (other_driver size f j.asking a (sym same))
            | inr same ↦ absurd (other_driver size f j.serving b (sym same))
          ]

      none_too : places_of x driver ≡ None → (j : Joint) → IsIn j p.joints → stands_in (ResultEnd v) j ≡ true → ⊥
      none_too none j in_p stands =
          elim (which_end (ResultEnd v) j stands) [
            | inl same ↦ has_place x.joints (joint driver j.serving) driver
                (in_x driver j.serving (inr (inl (refl, subst (λ (d : End). IsIn (joint d j.serving) p.joints) (sym same) in_p))))
                (stands_by driver (joint driver j.serving) (inl refl)) none
            | inr same ↦ inner_result size v j.serving (serving_inner j.asking j.serving in_p) (sym same)
          ]

      by_place : (o q : Option End) → places_of x driver ≡ o → places_of p (ResultEnd v) ≡ q → DriverSeat
      by_place (Some d) q at at_p = let j = found x.joints driver d at in of_found d at j.joint j.stands (of_joint j.joint j.is_in)
      by_place None None none none_p = inr (none, none_p)
      by_place None (Some a) none at_p = let j = found p.joints (ResultEnd v) a at_p in absurd (none_too none j.joint j.is_in j.stands)

  pub driver_agrees : (way : Direction) (held : Option ℕ) (t u : Tokens) → Agree t u → Agree (with_token x driver way held t) (with_token p (ResultEnd v) way held u)
  driver_agrees way held t u agree = held_agree (places_of x driver) (places_of p (ResultEnd v)) way held t u (by_seat driver_seat) agree
    where
      by_seat : DriverSeat → Same (places_of x driver) (places_of p (ResultEnd v))
      by_seat (inl (at_x, at_p)) =
          subst (λ (o : Option End). Same o (places_of p (ResultEnd v))) (sym at_x) (subst (Same (Some driver)) (sym at_p) same_driver)
      by_seat (inr (none, none_p)) = subst (λ (o : Option End). Same o (places_of p (ResultEnd v))) (sym none) (subst (Same None) (sym none_p) same_none)

  pub driver_token : (way : Direction) (n : ℕ) (t u : Tokens) → Agree t u → token_at x t driver way ≡ Some n → token_at p u (ResultEnd v) way ≡ Some n
  driver_token way n t u agree lies = by_seat driver_seat
    where
      by_seat : DriverSeat → token_at p u (ResultEnd v) way ≡ Some n
      by_seat (inl (at_x, at_p)) = ap (held_at u way) at_p ∙ (agree.driver_same way ∙ (sym (ap (held_at t way) at_x) ∙ lies))
      by_seat (inr (none, none_p)) = absurd (nothing_there x driver way n t lies none)
