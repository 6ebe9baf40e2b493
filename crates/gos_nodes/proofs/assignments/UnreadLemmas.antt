-- The plan of a variable without the joint by which it is read: in a session in which it is written it does what the plan does.
--
-- At that joint nothing lies, since its handshake isn't open: nobody asks there, and an answer comes where it is open alone.
use Rattle.std.specs.Prelude.{◌^◌, ◌<◌, None, slice_get}
use Rattle.std.proofs.Common.{◌≡◌, ℕ, Bool, true, false, List, [], ◌∷◌, ◌++◌, ◌⊎◌, Option, Some, inl, inr, refl, sym, ◌∙◌, ap, subst, arith, if◌then◌else◌}
use Rattle.gos_types.specs.declared.shakes.Role.{Role}
use Rattle.gos_types.specs.declared.shakes.Role.TheVariants.{Serve, Ask}
use Rattle.std.proofs.lemmas.Option.{same_Some}
use Rattle.std.proofs.lemmas.List.{append-nil}
use Rattle.gos_types.specs.Types.{Type', Var, IsGround}
use Rattle.gos_types.specs.Events.{Direction, Request, Answer}
use Rattle.gos_types.proofs.BoolLemmas.{true_is_not_false}
use Rattle.gos_plan.specs.Kinds as kinds
use Rattle.gos_plan.specs.Kinds.{Part, Contact, asks, serves}
use Rattle.gos_plan.specs.Firing.{Slot, Req, Ans, Token, Row}
use Rattle.gos_plan.specs.Plans.{End, PartEnd, ImportEnd, ResultEnd, Joint, Plan, contact_at, same_end, stands_in, IsRight}
use Rattle.gos_plan.specs.Tokens.{Tokens, Element, Fire, Out, In, asking_in, places_of, held_at, with_held, token_at, with_token, with_state, with_puts, end_of, way_of, way_taken, way_put, bits_of, fired, firing_of, Passes, Does, Runs, IsIdle}
use Rattle.gos_plan.specs.Orderly.{named_by, handshake_at, Open, none_open, with_open, after_taken, after_put, after_puts, ComesWell, AllComeWell, ComesInOrder, AllWelcome, OrderlyFrom}
use Rattle.gos_plan.proofs.AskingLemmas.{RequestAsks, PutsAsking, row_asks}
use Rattle.gos_plan.proofs.HeldLemmas.{nothing_there, takes_of}
use Rattle.gos_plan.proofs.JointLemmas.{found, fits, stands_there, same_is, which_end}
use Rattle.gos_plan.proofs.ProjectionLemmas.{named}
use Rattle.gos_plan.proofs.ElementLemmas.{firing_part, orderly_then}
use Rattle.gos_realises.specs.realises.Regular.{Pass, InputsKeepTurns, IsRegular}
use Rattle.gos_realises.proofs.realises.InputLemmas.{passed, passed_then, inputs_then, first_turns, later_turns, last_order, runs_then, in_there, out_there}
use Rattle.gos_joining.specs.webs.Cutting.{StandsIn}
use Rattle.gos_nodes.specs.windows.Regions.{IsLoyal}
use Rattle.gos_nodes.proofs.windows.PortLemmas.{stands_place}
use Rattle.gos_nodes.specs.windows.OneSession.{IsAsked, AllStay, EndsWell, IsOneSession, IsRegularAt, IsLoyalAt}
use Rattle.gos_nodes.specs.assignments.Written.{unread_joints, unread}
use Rattle.gos_nodes.proofs.windows.OneSessionLemmas.{open_is_one}
use Rattle.gos_nodes.proofs.windows.AskedLemmas.{ground_asks}
use Rattle.gos_nodes.proofs.windows.ClosingLemmas.{asks_itself}
use Rattle.gos_nodes.proofs.assignments.JoinedLemmas.{was_in, unread_right}

-- the places of an end of another joint
asking_same : (js : List Joint) (e : End) → (asking_in js e ≡ Some (ResultEnd 0) → ⊥) → asking_in (unread_joints js) e ≡ asking_in js e
asking_same [] e apart = refl
asking_same (j ∷ js) e apart = by_test (same_end j.asking (ResultEnd 0)) refl (stands_in e j) refl (λ further. asking_same js e further)
  where
    by_test : (b : Bool) → same_end j.asking (ResultEnd 0) ≡ b → (t : Bool) → stands_in e j ≡ t
        → ((asking_in js e ≡ Some (ResultEnd 0) → ⊥) → asking_in (unread_joints js) e ≡ asking_in js e)
        → asking_in (if b then unread_joints js else j ∷ unread_joints js) e ≡ (if stands_in e j then Some j.asking else asking_in js e)
    by_test true dropped true stands further =
        absurd (apart (ap (λ (x : Bool). if x then Some j.asking else asking_in js e) stands ∙ ap (λ (x : End). Some x) (same_is j.asking (ResultEnd 0) dropped)))
    by_test true dropped false stands further =
        let here : (if stands_in e j then Some j.asking else asking_in js e) ≡ asking_in js e = ap (λ (x : Bool). if x then Some j.asking else asking_in js e) stands in
        further (λ is. apart (here ∙ is)) ∙ sym here
    by_test false kept true stands further =
        ap (λ (x : Bool). if x then Some j.asking else asking_in (unread_joints js) e) stands
        ∙ sym (ap (λ (x : Bool). if x then Some j.asking else asking_in js e) stands)
    by_test false kept false stands further =
        let here : (if stands_in e j then Some j.asking else asking_in js e) ≡ asking_in js e = ap (λ (x : Bool). if x then Some j.asking else asking_in js e) stands in
        ap (λ (x : Bool). if x then Some j.asking else asking_in (unread_joints js) e) stands ∙ (further (λ is. apart (here ∙ is)) ∙ sym here)

-- where an input comes: at handshake 1, or at an import's end that stands in a joint or asks
abbrev Comes : Plan → End → Type 0
Comes c e = (e ≡ ResultEnd 1) ⊎ ((i h : ℕ) × (e ≡ ImportEnd i h) × (StandsIn c e ⊎ IsAsked c e))

abbrev pub AllCome : Plan → List Element → Type 0
AllCome c [] = Unit {0}
AllCome c (Fire i t ∷ xs) = AllCome c xs
AllCome c (Out e v ∷ xs) = AllCome c xs
AllCome c (In e v ∷ xs) = Comes c e × AllCome c xs

stay_come : (c : Plan) (xs ys : List Element) → AllStay c xs → AllCome c ys → AllCome c (xs ++ ys)
stay_come c [] ys all last = last
stay_come c (Fire i t ∷ xs) ys all last = stay_come c xs ys all.1 last
stay_come c (Out e v ∷ xs) ys all last = stay_come c xs ys all.1 last
stay_come c (In (PartEnd i h) v ∷ xs) ys all last = absurd all.0
stay_come c (In (ResultEnd h) v ∷ xs) ys all last = absurd all.0
stay_come c (In (ImportEnd i h) v ∷ xs) ys all last = (inr (i, h, refl, all.0), stay_come c xs ys all.1 last)

well_come : (c : Plan) (xs : List Element) → EndsWell 1 c xs → AllCome c xs
well_come c xs (inl all) = subst (AllCome c) (append-nil xs) (stay_come c xs [] all tt)
well_come c xs (inr (zs, v, all, is)) = subst (AllCome c) (sym is) (stay_come c zs (Out (ResultEnd 1) v ∷ []) all tt)

session_come : (c : Plan) (xs : List Element) → IsOneSession 1 c xs → AllCome c xs
session_come c [] one = absurd one
session_come c (Fire i t ∷ xs) one = absurd one
session_come c (Out e v ∷ xs) one = absurd one
session_come c (In e v ∷ xs) one = (inl one.0, well_come c xs one.1)

module _ (p : Plan) (w : ℕ) (right : IsRight p) (outcome : p.outcome ≡ Var w) (regular : IsRegular p) where
  abbrev c : Plan
  c = unread p

  abbrev Same : End → Type 0
  Same e = places_of c e ≡ places_of p e

  c_right : IsRight c
  c_right = unread_right p right

  grounded : IsGround p.outcome
  grounded = subst IsGround (sym outcome) tt

  apart_same : (e : End) → (places_of p e ≡ Some (ResultEnd 0) → ⊥) → Same e
  apart_same e apart = asking_same p.joints e apart

  named_same : (e a : End) → places_of c e ≡ Some a → Same e
  named_same e a named_so =
      let at = found c.joints e a named_so in
      let (there, apart) = was_in at.joint p.joints at.is_in in
      named_so ∙ (ap (λ (x : End). Some x) (sym at.named) ∙ sym (stands_there p at.joint e right there at.stands))

  held_same : (s : Tokens) (e : End) (way : Direction) (v : ℕ) → token_at c s e way ≡ Some v → Same e
  held_same s e way v held = by_place (places_of c e) refl
    where
      by_place : (o : Option End) → places_of c e ≡ o → Same e
      by_place None none = absurd (nothing_there c e way v s held none)
      by_place (Some a) named_so = named_same e a named_so

  stands_same : (e : End) → StandsIn c e → Same e
  stands_same e stands = let (a, named_so) = stands_place c c_right e stands in named_same e a named_so

  -- handshake 1 isn't joined to handshake 0
  not_read : places_of p (ResultEnd 1) ≡ Some (ResultEnd 0) → ⊥
  not_read is =
      let at = found p.joints (ResultEnd 1) (ResultEnd 0) is in
      let fit = fits p [] p.joints at.joint right at.is_in in
      by_end at.joint at.named fit (which_end (ResultEnd 1) at.joint at.stands)
    where
      by_end : (j : Joint) → j.asking ≡ ResultEnd 0 → (x y : ℕ) × (contact_at p j.asking ≡ Some (asks x y)) × (contact_at p j.serving ≡ Some (serves x y))
          → (ResultEnd 1 ≡ j.asking) ⊎ (ResultEnd 1 ≡ j.serving) → ⊥
      by_end j asking fit (inl is) = let clash : ResultEnd 1 ≡ ResultEnd 0 = is ∙ asking in let shake : ◌≡◌ {A = ℕ} 1 0 = cc clash in omega (arith, shake)
      by_end j asking fit (inr is) =
          let role : Ask ≡ Serve = ground_asks p.outcome grounded 1 (serves fit.0 fit.1) (ap (contact_at p) is ∙ fit.3) in cc role

  -- nor is an end at which the surroundings ask
  asks_apart : (i h : ℕ) → IsAsked p (ImportEnd i h) → places_of p (ImportEnd i h) ≡ Some (ResultEnd 0) → ⊥
  asks_apart i h (k, at_end, asks) named_so =
      let at = found p.joints (ImportEnd i h) (ResultEnd 0) named_so in
      let fit = fits p [] p.joints at.joint right at.is_in in
      by_end at.joint at.named fit (which_end (ImportEnd i h) at.joint at.stands)
    where
      by_end : (j : Joint) → j.asking ≡ ResultEnd 0 → (x y : ℕ) × (contact_at p j.asking ≡ Some (kinds.asks x y)) × (contact_at p j.serving ≡ Some (serves x y))
          → (ImportEnd i h ≡ j.asking) ⊎ (ImportEnd i h ≡ j.serving) → ⊥
      by_end j asking fit (inl is) = let clash : ImportEnd i h ≡ ResultEnd 0 = is ∙ asking in cc clash
      by_end j asking fit (inr is) =
          let same : k ≡ serves fit.0 fit.1 = same_Some k (serves fit.0 fit.1) (sym at_end ∙ (ap (contact_at p) is ∙ fit.3)) in
          let clash : Ask ≡ Serve = sym asks ∙ ap (λ (x : Contact). x.role) same in cc clash

  -- tokens and names at such an end
  put_same : (e : End) → Same e → (way : Direction) (held : Option ℕ) (s : Tokens) → with_token c e way held s ≡ with_token p e way held s
  put_same e same way held s = ap (λ (o : Option End). with_held way o held s) same

  token_same : (e : End) → Same e → (s : Tokens) (way : Direction) → token_at c s e way ≡ token_at p s e way
  token_same e same s way = ap (held_at s way) same

  name_same : (e : End) → Same e → handshake_at c e ≡ handshake_at p e
  name_same e same = ap (λ (o : Option End). named_by o e) same

  taken_same : (e : End) → Same e → (way : Direction) (o : Open) → after_taken c e way o ≡ after_taken p e way o
  taken_same e same Request o = refl
  taken_same e same Answer o = ap (λ (x : End). with_open x false o) (name_same e same)

  opened_same : (e : End) → Same e → (way : Direction) (o : Open) → after_put c e way o ≡ after_put p e way o
  opened_same e same Request o = ap (λ (x : End). with_open x true o) (name_same e same)
  opened_same e same Answer o = refl

  well_same : (e : End) → Same e → (way : Direction) (o : Open) (s : Tokens) → ComesWell p e way o s → ComesWell c e way o s
  well_same e same Request o s well = ap o (name_same e same) ∙ well
  well_same e same Answer o s well = (ap o (name_same e same) ∙ well.0, λ way. token_same e same s way ∙ well.1 way)

  -- the read is closed
  abbrev Shut : Open → Type 0
  Shut o = o (ResultEnd 0) ≡ false

  shut_taken : (e : End) (way : Direction) (o : Open) → Shut o → Shut (after_taken p e way o)
  shut_taken e Request o shut = shut
  shut_taken e Answer o shut = by_test (same_end (ResultEnd 0) (handshake_at p e))
    where
      by_test : (b : Bool) → (if b then false else o (ResultEnd 0)) ≡ false
      by_test true = refl
      by_test false = shut

  -- what a part puts
  one_put : (i : ℕ) (k : Part) → slice_get p.parts i ≡ Some k → (slot : Slot) → RequestAsks k slot → (o : Open) (s : Tokens) → Shut o
      → ComesWell p (end_of i slot) (way_of slot) o s → Same (end_of i slot) × Shut (after_put p (end_of i slot) (way_of slot) o)
  one_put i k is (Req h) asking o s shut well =
      let name = named p i h k right is asking in (
        apart_same (PartEnd i h) (λ place.
            let clash : PartEnd i h ≡ ResultEnd 0 = sym name ∙ ap (λ (x : Option End). named_by x (PartEnd i h)) place in cc clash),
        ap (λ (x : End). with_open x true o (ResultEnd 0)) name ∙ shut,
      )
  one_put i k is (Ans h) asking o s shut well = (
    apart_same (PartEnd i h) (λ place.
        true_is_not_false (o (ResultEnd 0)) (sym (ap o (ap (λ (x : Option End). named_by x (PartEnd i h)) place)) ∙ well.0) shut),
    shut,
  )

  record Put (i : ℕ) (ts : List Token) (o : Open) (s : Tokens) : Type 0 where
    same : with_puts c i ts s ≡ with_puts p i ts s
    well : AllComeWell c i ts o s
    opens : after_puts c i ts o ≡ after_puts p i ts o
    shut : Shut (after_puts p i ts o)

  puts_same : (i : ℕ) (k : Part) → slice_get p.parts i ≡ Some k → (ts : List Token) → PutsAsking k ts → (o : Open) (s : Tokens) → Shut o → AllComeWell p i ts o s
      → Put i ts o s
  puts_same i k is [] asking o s shut well = record { same = refl; well = tt; opens = refl; shut = shut }
  puts_same i k is (t ∷ ts) asking o s shut (well, more) =
      let e = end_of i t.slot in
      let (same, shut_now) = one_put i k is t.slot asking.0 o s shut well in
      let rest =
      puts_same i k is ts asking.1 (after_put p e (way_of t.slot) o) (with_token p e (way_of t.slot) (Some t.value) s) shut_now more in
      record {
        same = ap (with_puts c i ts) (put_same e same (way_of t.slot) (Some t.value) s) ∙ rest.same;
        well = (
          well_same e same (way_of t.slot) o s well,
          subst (λ (x : Open). AllComeWell c i ts x (with_token c e (way_of t.slot) (Some t.value) s)) (sym (opened_same e same (way_of t.slot) o))
              (subst (λ (x : Tokens). AllComeWell c i ts (after_put p e (way_of t.slot) o) x) (sym (put_same e same (way_of t.slot) (Some t.value) s)) rest.well),
        );
        opens = ap (after_puts c i ts) (opened_same e same (way_of t.slot) o) ∙ rest.opens;
        shut = rest.shut;
      }

  -- the list so far
  record At (first : Tokens) (hs : List Element) (s : Tokens) (o : Open) : Type 0 where
    idle : IsIdle p first
    ran : Runs p hs first s
    turns : InputsKeepTurns p [] hs
    orderly : OrderlyFrom p hs none_open first o s
    shut : Shut o

  -- an element of the plan without the joint is one of the plan
  record Next (first : Tokens) (hs : List Element) (y : Element) (s t : Tokens) (o : Open) : Type 0 where
    now : Open
    does : Does p y s t
    comes : ComesInOrder c y s o now
    welcome : AllWelcome c t
    at : At first (hs ++ y ∷ []) t now

  -- its order in the plan
  ordered : (first : Tokens) (hs : List Element) (y : Element) (s t : Tokens) (o : Open) → At first hs s o → InputsKeepTurns p (passed p [] hs) (y ∷ []) → Does p y s t
      → (m : Open) × ComesInOrder p y s o m × AllWelcome p t
  ordered first hs y s t o so turn does =
      let all = (regular first t (hs ++ y ∷ []) so.idle (runs_then p hs y first s t so.ran does) (inputs_then p [] hs (y ∷ []) so.turns turn)).0 in
      last_order p hs y none_open all.0 o first all.1 s t all.2 so.orderly does

  make : (first : Tokens) (hs : List Element) (y : Element) (s t : Tokens) (o : Open) → At first hs s o → InputsKeepTurns p (passed p [] hs) (y ∷ []) → Does p y s t
      → (m : Open) → ComesInOrder p y s o m → AllWelcome p t → ComesInOrder c y s o m → Shut m → Next first hs y s t o
  make first hs y s t o so turn does m comes welcome own shut =
      record {
        now = m;
        does = does;
        comes = own;
        welcome = λ i slot k v at_end way held.
            welcome i slot k v at_end way (sym (token_same (end_of i slot) (held_same t (end_of i slot) (way_of slot) v held) t (way_of slot)) ∙ held);
        at =
            record {
              idle = so.idle;
              ran = runs_then p hs y first s t so.ran does;
              turns = inputs_then p [] hs (y ∷ []) so.turns turn;
              orderly = orderly_then p hs (y ∷ []) none_open o m first s t so.orderly (m, t, does, comes, welcome, (refl, refl));
              shut = shut;
            };
      }

  abbrev taken_state : ℕ → Tokens → Row → ℕ → Tokens
  taken_state i s y n = with_state i (y.next n) (with_token p (end_of i y.takes) (way_of y.takes) None s)

  fire_next : (first : Tokens) (hs : List Element) (i : ℕ) (slot : Slot) (s t : Tokens) (o : Open) → At first hs s o → Does c (Fire i slot) s t
      → Next first hs (Fire i slot) s t o
  fire_next first hs i slot s t o so (v, row, held, by, leads) = make first hs (Fire i slot) s t o so tt does order.0 order.1 order.2 comes shut
    where
      e : End
      e = end_of i slot

      same : Same (end_of i slot)
      same = held_same s (end_of i slot) (way_of slot) v held

      kind : (k : Part) × (slice_get p.parts i ≡ Some k)
      kind = firing_part (slice_get p.parts i) (s.state i) slot row by

      takes_same : (y : Row) → firing_of (slice_get p.parts i) (s.state i) slot ≡ Some y → Same (end_of i y.takes)
      takes_same y fires = subst (λ (x : Slot). Same (end_of i x)) (sym (takes_of (slice_get p.parts i) (s.state i) slot y fires)) same

      asking : (y : Row) (n : ℕ) → firing_of (slice_get p.parts i) (s.state i) slot ≡ Some y → PutsAsking kind.0 (y.puts n)
      asking y n fires = (row_asks kind.0 (s.state i) slot y n (subst (λ (x : Option Part). firing_of x (s.state i) slot ≡ Some y) kind.1 fires)).1.1

      between_same : (y : Row) (n : ℕ) → firing_of (slice_get p.parts i) (s.state i) slot ≡ Some y
          → with_state i (y.next n) (with_token c (end_of i y.takes) (way_of y.takes) None s) ≡ taken_state i s y n
      between_same y n fires = ap (λ (x : Tokens). with_state i (y.next n) x) (put_same (end_of i y.takes) (takes_same y fires) (way_of y.takes) None s)

      held_p : token_at p s (end_of i slot) (way_of slot) ≡ Some v
      held_p = sym (token_same (end_of i slot) same s (way_of slot)) ∙ held

      by_itself : Does p (Fire i slot) s (fired p i row v s)
      by_itself = (v, row, held_p, by, refl)

      order : (m : Open) × ComesInOrder p (Fire i slot) s o m × AllWelcome p t
      order =
          let here = ordered first hs (Fire i slot) s (fired p i row v s) o so tt by_itself in
          (here.0, here.1, subst (AllWelcome p) (sym leads_same) here.2)
        where
          leads_same : t ≡ fired p i row v s
          leads_same =
              let here = ordered first hs (Fire i slot) s (fired p i row v s) o so tt by_itself in
              let put =
              puts_same i kind.0 kind.1 (row.puts v) (asking row v by) (after_taken p (end_of i slot) (way_of slot) o) (taken_state i s row v)
              (shut_taken (end_of i slot) (way_of slot) o so.shut) (here.1 v row held_p by).0 in
              leads ∙ (ap (with_puts c i (row.puts v)) (between_same row v by) ∙ put.same)

      put_at : (n : ℕ) (y : Row) → token_at p s (end_of i slot) (way_of slot) ≡ Some n → firing_of (slice_get p.parts i) (s.state i) slot ≡ Some y
          → Put i (y.puts n) (after_taken p (end_of i slot) (way_of slot) o) (taken_state i s y n)
      put_at n y lying fires =
          puts_same i kind.0 kind.1 (y.puts n) (asking y n fires) (after_taken p (end_of i slot) (way_of slot) o) (taken_state i s y n)
          (shut_taken (end_of i slot) (way_of slot) o so.shut) (order.1 n y lying fires).0

      does : Does p (Fire i slot) s t
      does = (v, row, held_p, by, leads ∙ (ap (with_puts c i (row.puts v)) (between_same row v by) ∙ (put_at v row held_p by).same))

      comes : ComesInOrder c (Fire i slot) s o order.0
      comes n y lying fires =
          let lying_p = sym (token_same (end_of i slot) same s (way_of slot)) ∙ lying in
          let put = put_at n y lying_p fires in (
            subst (λ (x : Open). AllComeWell c i (y.puts n) x (with_state i (y.next n) (with_token c (end_of i y.takes) (way_of y.takes) None s)))
                (sym (taken_same (end_of i slot) same (way_of slot) o))
                (subst (λ (x : Tokens). AllComeWell c i (y.puts n) (after_taken p (end_of i slot) (way_of slot) o) x) (sym (between_same y n fires)) put.well),
            (order.1 n y lying_p fires).1
                ∙ (sym put.opens ∙ sym (ap (after_puts c i (y.puts n)) (taken_same (end_of i slot) same (way_of slot) o))),
          )

      shut : Shut order.0
      shut = subst Shut (sym (order.1 v row held_p by).1) (put_at v row held_p by).shut

  out_next : (first : Tokens) (hs : List Element) (e : End) (v : ℕ) (s t : Tokens) (o : Open) → At first hs s o → Does c (Out e v) s t → Next first hs (Out e v) s t o
  out_next first hs e v s t o so own =
      let order = ordered first hs (Out e v) s t o so tt does in
      make first hs (Out e v) s t o so tt does order.0 order.1 order.2 (λ k at. order.1 k at ∙ sym (taken_same e same (way_taken k.role) o))
      (subst Shut (sym (order.1 there.0 there.1)) (shut_taken e (way_taken there.0.role) o so.shut))
    where
      there : (k : Contact) × (contact_at p e ≡ Some k)
      there = out_there c e v s t own

      passes : (token_at c s e (way_taken there.0.role) ≡ Some v) × (t ≡ with_token c e (way_taken there.0.role) None s)
      passes = subst (λ (x : Option Contact). Passes c (Out e v) x s t) there.1 own.1

      same : Same e
      same = held_same s e (way_taken there.0.role) v passes.0

      does : Does p (Out e v) s t
      does = (
        own.0,
        subst (λ (x : Option Contact). Passes p (Out e v) x s t) (sym there.1)
            (sym (token_same e same s (way_taken there.0.role)) ∙ passes.0, passes.1 ∙ put_same e same (way_taken there.0.role) None s),
      )

  in_next : (first : Tokens) (hs : List Element) (e : End) (v : ℕ) (s t : Tokens) (o : Open) → At first hs s o → InputsKeepTurns p (passed p [] hs) (In e v ∷ [])
      → Comes c e → Does c (In e v) s t → Next first hs (In e v) s t o
  in_next first hs e v s t o so turn which own =
      let order = ordered first hs (In e v) s t o so turn does in
      make first hs (In e v) s t o so turn does order.0 order.1 order.2
      (λ k at. (well_same e same (way_put k.role) o s (order.1 k at).0, (order.1 k at).1 ∙ sym (opened_same e same (way_put k.role) o)))
      (subst Shut (sym (order.1 there.0 there.1).1) (stays_shut which))
    where
      there : (k : Contact) × (contact_at p e ≡ Some k)
      there = in_there c e v s t own

      passes : (v < 2 ^ bits_of there.0 (way_put there.0.role)) × (t ≡ with_token c e (way_put there.0.role) (Some v) s)
      passes = subst (λ (x : Option Contact). Passes c (In e v) x s t) there.1 own.1

      same : Same e
      same =
          elim which [
            | inl is ↦ subst Same (sym is) (apart_same (ResultEnd 1) not_read)
            | inr (i, h, is, inl stands) ↦ stands_same e stands
            | inr (i, h, is, inr asked) ↦ subst Same (sym is) (apart_same (ImportEnd i h) (asks_apart i h (subst (IsAsked c) is asked)))
          ]

      does : Does p (In e v) s t
      does =
          (own.0, subst (λ (x : Option Contact). Passes p (In e v) x s t) (sym there.1) (passes.0, passes.1 ∙ put_same e same (way_put there.0.role) (Some v) s))

      put_shut : there.0.role ≡ Ask → same_end (ResultEnd 0) e ≡ false → Shut (after_put p e Request o)
      put_shut role apart =
          ap (λ (x : End). with_open x true o (ResultEnd 0)) (asks_itself p right e there.0 there.1 role)
          ∙ (ap (λ (b : Bool). if b then true else o (ResultEnd 0)) apart ∙ so.shut)

      stays_shut : Comes c e → Shut (after_put p e (way_put there.0.role) o)
      stays_shut (inl is) =
          let role : Ask ≡ there.0.role = ground_asks p.outcome grounded 1 there.0 (ap (contact_at p) (sym is) ∙ there.1) in
          subst (λ (way : Direction). Shut (after_put p e way o)) (ap way_put role) (put_shut (sym role) (ap (same_end (ResultEnd 0)) is))
      stays_shut (inr (i, h, is, which)) = by_role there.0.role refl
        where
          by_role : (role : Role) → there.0.role ≡ role → Shut (after_put p e (way_put role) o)
          by_role Serve serves = so.shut
          by_role Ask role = put_shut role (ap (same_end (ResultEnd 0)) is)

  -- turns, element by element
  turns_on : (hs : List Element) (y : Element) (ys : List Element) → InputsKeepTurns p (passed p [] hs) (y ∷ ys) → InputsKeepTurns p (passed p [] (hs ++ y ∷ [])) ys
  turns_on hs y ys turns = subst (λ (x : List Pass). InputsKeepTurns p x ys) (sym (passed_then p [] hs y)) (later_turns p (passed p [] hs) y ys turns)

  next : (first : Tokens) (hs : List Element) (y : Element) (s t : Tokens) (o : Open) → At first hs s o → InputsKeepTurns p (passed p [] hs) (y ∷ []) → AllCome c (y ∷ [])
      → Does c y s t → Next first hs y s t o
  next first hs (Fire i slot) s t o so turn come does = fire_next first hs i slot s t o so does
  next first hs (Out e v) s t o so turn come does = out_next first hs e v s t o so does
  next first hs (In e v) s t o so turn come does = in_next first hs e v s t o so turn come.0 does

  first_come : (y : Element) (ys : List Element) → AllCome c (y ∷ ys) → AllCome c (y ∷ []) × AllCome c ys
  first_come (Fire i t) ys all = (tt, all)
  first_come (Out e v) ys all = (tt, all)
  first_come (In e v) ys all = ((all.0, tt), all.1)

  along : (xs hs : List Element) (first s t : Tokens) (o : Open) → At first hs s o → InputsKeepTurns p (passed p [] hs) xs → AllCome c xs → Runs c xs s t
      → Runs p xs s t × ((u : Open) × (z : Tokens) × OrderlyFrom c xs o s u z)
  along [] hs first s t o so turns come runs = (runs, (o, s, (refl, refl)))
  along (y ∷ ys) hs first s t o so turns come (z, does, runs) =
      let both = first_come y ys come in
      let step = next first hs y s z o so (first_turns p (passed p [] hs) y ys turns) both.0 does in
      let rest = along ys (hs ++ y ∷ []) first z t step.now step.at (turns_on hs y ys turns) both.1 runs in
      ((z, step.does, rest.0), (rest.1.0, rest.1.1, (step.now, z, does, step.comes, step.welcome, rest.1.2)))

  first_at : (s : Tokens) → IsIdle p s → At s [] s none_open
  first_at s idle = record { idle = idle; ran = refl; turns = tt; orderly = (refl, refl); shut = refl }

  pub unread_regular : IsRegularAt 1 c
  unread_regular s t xs tidy idle one runs turns =
      let here = along xs [] s s t none_open (first_at s idle) turns (session_come c xs one) runs in
      (here.1, (regular s t xs idle here.0 turns).1)

  -- it is one of the plan's
  pub unread_runs : (s t : Tokens) (xs : List Element) → IsIdle c s → IsOneSession 1 c xs → Runs c xs s t → InputsKeepTurns p [] xs → Runs p xs s t
  unread_runs s t xs idle one runs turns = (along xs [] s s t none_open (first_at s idle) turns (session_come c xs one) runs).0

  -- where the list so far leads to
  reach : (xs hs : List Element) (first s t : Tokens) (o : Open) → At first hs s o → InputsKeepTurns p (passed p [] hs) xs → AllCome c xs → Runs c xs s t
      → (gs : List Element) × (u : Open) × At first gs t u
  reach [] hs first s t o so turns come is = (hs, o, subst (λ (x : Tokens). At first hs x o) (sym is) so)
  reach (y ∷ ys) hs first s t o so turns come (z, does, runs) =
      let both = first_come y ys come in
      let step = next first hs y s z o so (first_turns p (passed p [] hs) y ys turns) both.0 does in
      reach ys (hs ++ y ∷ []) first z t step.now step.at (turns_on hs y ys turns) both.1 runs

  pub unread_loyal : (i : ℕ) (t : Type') (side : ℕ) → IsLoyal i t side p → IsLoyalAt 1 i t side c
  unread_loyal i t side loyal s v u xs slot tidy idle begun runs turns does low =
      let come = session_come c xs (open_is_one 1 c xs begun) in
      let (gs, o, at_end) = reach xs [] s s v none_open (first_at s idle) turns come runs in
      let here = along xs [] s s v none_open (first_at s idle) turns come runs in
      let step = fire_next s gs i slot v u o at_end does in loyal s v u xs slot idle here.0 turns step.does low
