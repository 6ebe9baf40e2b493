-- An orderly list leaves at most one token on each joint.
--
-- By the name of a joint: where its handshake is closed both its places are empty, and where it is open one of them is.
use Rattle.std.specs.Prelude.{Option, None}
use Rattle.std.proofs.Common.{◌≡◌, inl, inr, ◌⊎◌, ℕ, Bool, true, false, List, [], ◌∷◌, Some, slice_get, refl, sym, ◌∙◌, ap, subst, if◌then◌else◌}
use Rattle.gos_types.specs.Events.{Direction, Request, Answer}
use Rattle.gos_plan.specs.Kinds.{Part, Contact}
use Rattle.gos_plan.specs.Firing.{State, Slot, Token, Row, rows, row_for}
use Rattle.gos_plan.specs.Plans.{End, Plan, contact_at, same_end}
use Rattle.gos_plan.specs.Tokens.{Tokens, Element, Fire, Out, In, places_of, held_at, with_held, with_token, with_state, with_puts, token_at, end_of, way_of, way_taken, way_put, firing_of, Passes, Does}
use Rattle.gos_plan.specs.Orderly.{Open, named_by, handshake_at, with_open, after_taken, after_put, ComesWell, AllComeWell, after_puts, ComesInOrder, OrderlyFrom, OrderlyHoldsOne}
use Rattle.gos_plan.specs.laws.Inversion.{first_or_later}
use Rattle.gos_plan.proofs.JointLemmas.{same_is}

-- what lies in the two places of a joint, by whether its handshake is open
abbrev pub Fits : Bool → Option ℕ → Option ℕ → Type 0
Fits false q r = (q ≡ None) × (r ≡ None)
Fits true q r = (q ≡ None) ⊎ (r ≡ None)

abbrev pub AllFit : Open → Tokens → Type 0
AllFit o s = (a : End) → Fits (o a) (s.in_place Request a) (s.in_place Answer a)

once_open : (b : Bool) (q r : Option ℕ) → Fits b q r → Fits true q r
once_open false q r h = inl h.0
once_open true q r h = h

without_request : (b : Bool) (q r : Option ℕ) → Fits b q r → Fits b None r
without_request false q r h = (refl, h.1)
without_request true q r h = inl refl

no_request_beside : (b : Bool) (q : Option ℕ) (v : ℕ) → Fits b q (Some v) → q ≡ None
no_request_beside false q v h = h.0
no_request_beside true q v (inl none) = none
no_request_beside true q v (inr some) = absurd (cc some)

not_two : (b : Bool) (v w : ℕ) → Fits b (Some v) (Some w) → ⊥
not_two false v w h = let some = h.0 in cc some
not_two true v w (inl some) = cc some
not_two true v w (inr some) = cc some

-- a token is taken
pub nothing_there : (p : Plan) (e : End) (way : Direction) (v : ℕ) (s : Tokens) → token_at p s e way ≡ Some v → places_of p e ≡ None → ⊥
nothing_there p e way v s lies none = let no : None ≡ Some v = sym (ap (held_at s way) none) ∙ lies in cc no

pub taken : (p : Plan) (e : End) (way : Direction) (v : ℕ) (o : Open) (s : Tokens) → token_at p s e way ≡ Some v → AllFit o s
    → AllFit (after_taken p e way o) (with_token p e way None s)
taken p e Request v o s lies fit = by_place (places_of p e) refl
  where
    by_place : (f : Option End) → places_of p e ≡ f → AllFit o (with_token p e Request None s)
    by_place None none = absurd (nothing_there p e Request v s lies none)
    by_place (Some n) there = subst (λ (f : Option End). AllFit o (with_held Request f None s)) (sym there) (λ a. at_end a (same_end a n) refl)
      where
        at_end : (a : End) (t : Bool) → same_end a n ≡ t → Fits (o a) (if same_end a n then None else s.in_place Request a) (s.in_place Answer a)
        at_end a true t = rw t (without_request (o a) (s.in_place Request a) (s.in_place Answer a) (fit a))
        at_end a false t = rw t (fit a)
taken p e Answer v o s lies fit = by_place (places_of p e) refl
  where
    by_place : (f : Option End) → places_of p e ≡ f → AllFit (with_open (handshake_at p e) false o) (with_token p e Answer None s)
    by_place None none = absurd (nothing_there p e Answer v s lies none)
    by_place (Some n) there =
        subst (λ (f : Option End). AllFit (with_open (named_by f e) false o) (with_held Answer f None s)) (sym there) (λ a. at_end a (same_end a n) refl)
      where
        lies_there : s.in_place Answer n ≡ Some v
        lies_there = sym (ap (held_at s Answer) there) ∙ lies

        at_end : (a : End) (t : Bool) → same_end a n ≡ t
            → Fits (if same_end a n then false else o a) (s.in_place Request a) (if same_end a n then None else s.in_place Answer a)
        at_end a true t =
            let here : s.in_place Answer a ≡ Some v = ap (s.in_place Answer) (same_is a n t) ∙ lies_there in
            rw t (no_request_beside (o a) (s.in_place Request a) v (subst (λ (r : Option ℕ). Fits (o a) (s.in_place Request a) r) here (fit a)), refl)
        at_end a false t = rw t (fit a)

-- a token is put
pub put_well : (p : Plan) (e : End) (way : Direction) (v : ℕ) (o : Open) (s : Tokens) → ComesWell p e way o s → AllFit o s
    → AllFit (after_put p e way o) (with_token p e way (Some v) s)
put_well p e Request v o s closed fit = by_place (places_of p e) refl
  where
    opens : (n a : End) (t : Bool) → same_end a n ≡ t → Fits (if same_end a n then true else o a) (s.in_place Request a) (s.in_place Answer a)
    opens n a true t = rw t (once_open (o a) (s.in_place Request a) (s.in_place Answer a) (fit a))
    opens n a false t = rw t (fit a)

    by_place : (f : Option End) → places_of p e ≡ f → AllFit (with_open (handshake_at p e) true o) (with_token p e Request (Some v) s)
    by_place None none =
        subst (λ (f : Option End). AllFit (with_open (named_by f e) true o) (with_held Request f (Some v) s)) (sym none) (λ a. opens e a (same_end a e) refl)
    by_place (Some n) there =
        subst (λ (f : Option End). AllFit (with_open (named_by f e) true o) (with_held Request f (Some v) s)) (sym there) (λ a. at_end a (same_end a n) refl)
      where
        is_closed : o n ≡ false
        is_closed = subst (λ (f : Option End). o (named_by f e) ≡ false) there closed

        at_end : (a : End) (t : Bool) → same_end a n ≡ t
            → Fits (if same_end a n then true else o a) (if same_end a n then Some v else s.in_place Request a) (s.in_place Answer a)
        at_end a true t =
            let shut : o a ≡ false = ap o (same_is a n t) ∙ is_closed in
            rw t (inr (subst (λ (b : Bool). Fits b (s.in_place Request a) (s.in_place Answer a)) shut (fit a)).1)
        at_end a false t = rw t (fit a)
put_well p e Answer v o s well fit = by_place (places_of p e) refl
  where
    by_place : (f : Option End) → places_of p e ≡ f → AllFit o (with_token p e Answer (Some v) s)
    by_place None none = subst (λ (f : Option End). AllFit o (with_held Answer f (Some v) s)) (sym none) fit
    by_place (Some n) there =
        subst (λ (f : Option End). AllFit o (with_held Answer f (Some v) s)) (sym there) (λ a. at_end a (same_end a n) refl)
      where
        is_open : o n ≡ true
        is_open = subst (λ (f : Option End). o (named_by f e) ≡ true) there well.0

        empty : s.in_place Request n ≡ None
        empty = sym (ap (held_at s Request) there) ∙ well.1 Request

        at_end : (a : End) (t : Bool) → same_end a n ≡ t → Fits (o a) (s.in_place Request a) (if same_end a n then Some v else s.in_place Answer a)
        at_end a true t =
            let none : s.in_place Request a ≡ None = ap (s.in_place Request) (same_is a n t) ∙ empty in
            let up : o a ≡ true = ap o (same_is a n t) ∙ is_open in
            rw (t, up) (inl none)
        at_end a false t = rw t (fit a)

all_put : (p : Plan) (i : ℕ) (ts : List Token) (o : Open) (s : Tokens) → AllComeWell p i ts o s → AllFit o s → AllFit (after_puts p i ts o) (with_puts p i ts s)
all_put p i [] o s well fit = fit
all_put p i (t ∷ ts) o s well fit =
    all_put p i ts (after_put p (end_of i t.slot) (way_of t.slot) o) (with_token p (end_of i t.slot) (way_of t.slot) (Some t.value) s) well.1
    (put_well p (end_of i t.slot) (way_of t.slot) t.value o s well.0 fit)

-- the row of a token takes it
takes : (t : Slot) (rs : List Row) (r : Row) → row_for t rs ≡ Some r → r.takes ≡ t
takes t [] r e = absurd (cc e)
takes t (x ∷ xs) r e =
    elim (first_or_later x r xs t e) [
      | inl here ↦ ap (λ (y : Row). y.takes) (sym here.1) ∙ here.0
      | inr later ↦ takes t xs r later
    ]

pub takes_of : (f : Option Part) (q : State) (t : Slot) (r : Row) → firing_of f q t ≡ Some r → r.takes ≡ t
takes_of None q t r e = absurd (cc e)
takes_of (Some k) q t r e = takes t (rows k q.phase q.number) r e

-- so each element keeps it
pub step : (p : Plan) (x : Element) (o u : Open) (s t : Tokens) → Does p x s t → ComesInOrder p x s o u → AllFit o s → AllFit u t
step p (Fire i slot) o u s t (v, r, lies, fire, leads) puts fit =
    let now = puts v r lies fire in
    let is = takes_of (slice_get p.parts i) (s.state i) slot r fire in
    let first =
    subst (λ (c : Slot). AllFit (after_taken p (end_of i slot) (way_of slot) o) (with_token p (end_of i c) (way_of c) None s)) (sym is)
    (taken p (end_of i slot) (way_of slot) v o s lies fit) in
    let all = all_put p i (r.puts v) (after_taken p (end_of i slot) (way_of slot) o)
    (with_state i (r.next v) (with_token p (end_of i r.takes) (way_of r.takes) None s)) now.0 first in
    subst (λ (w : Open). AllFit w t) (sym now.1) (subst (λ (w : Tokens). AllFit (after_puts p i (r.puts v) (after_taken p (end_of i slot) (way_of slot) o)) w) (sym leads) all)
step p (Out e v) o u s t does puts fit = of_contact (contact_at p e) refl
  where
    of_contact : (f : Option Contact) → contact_at p e ≡ f → AllFit u t
    of_contact None k = absurd (subst (λ (f : Option Contact). Passes p (Out e v) f s t) k does.1)
    of_contact (Some c) k =
        let passes = subst (λ (f : Option Contact). Passes p (Out e v) f s t) k does.1 in
        subst (λ (w : Open). AllFit w t) (sym (puts c k))
        (subst (λ (w : Tokens). AllFit (after_taken p e (way_taken c.role) o) w) (sym passes.1) (taken p e (way_taken c.role) v o s passes.0 fit))
step p (In e v) o u s t does puts fit = of_contact (contact_at p e) refl
  where
    of_contact : (f : Option Contact) → contact_at p e ≡ f → AllFit u t
    of_contact None k = absurd (subst (λ (f : Option Contact). Passes p (In e v) f s t) k does.1)
    of_contact (Some c) k =
        let passes = subst (λ (f : Option Contact). Passes p (In e v) f s t) k does.1 in
        let now = puts c k in
        subst (λ (w : Open). AllFit w t) (sym now.1)
        (subst (λ (w : Tokens). AllFit (after_put p e (way_put c.role) o) w) (sym passes.1) (put_well p e (way_put c.role) v o s now.0 fit))

pub all_fit : (p : Plan) (xs : List Element) (o u : Open) (s t : Tokens) → OrderlyFrom p xs o s u t → AllFit o s → AllFit u t
all_fit p [] o u s t list fit = subst (λ (w : Open). AllFit w t) (sym list.0) (subst (AllFit o) (sym list.1) fit)
all_fit p (x ∷ xs) o u s t (m, w, does, puts, welcome, list) fit = all_fit p xs m u w t list (step p x o m s w does puts fit)

pub orderly_holds_one : OrderlyHoldsOne
orderly_holds_one p xs u s t idle list e v w request answer = by_place (places_of p e) refl
  where
    fit : AllFit u t
    fit = all_fit p xs _ u s t list (λ a. (idle.0 Request a, idle.0 Answer a))

    by_place : (f : Option End) → places_of p e ≡ f → ⊥
    by_place None none = nothing_there p e Request v t request none
    by_place (Some n) there =
        let q : t.in_place Request n ≡ Some v = sym (ap (held_at t Request) there) ∙ request in
        let r : t.in_place Answer n ≡ Some w = sym (ap (held_at t Answer) there) ∙ answer in
        not_two (u n) v w
        (subst (λ (x : Option ℕ). Fits (u n) (Some v) x) r (subst (λ (x : Option ℕ). Fits (u n) x (t.in_place Answer n)) q (fit n)))
