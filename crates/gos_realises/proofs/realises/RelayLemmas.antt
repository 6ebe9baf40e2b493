-- A plan of one joint between two ports: the ring of a request, of what it asks, of the answer to that, and of its own answer.
use Rattle.std.specs.Prelude.{◌≡◌, ℕ, Bool, true, false, List, ◌∷◌, ◌⊎◌, Option, Some, None, if◌then◌else◌}
use Rattle.std.proofs.Common.{refl, sym, ◌∙◌, ap, subst, inl, inr}
use Rattle.std.proofs.lemmas.Option.{same_Some}
use Rattle.gos_types.specs.Events.{Direction, Request, Answer}
use Rattle.gos_types.proofs.BoolLemmas.{true_is_not_false}
use Rattle.gos_plan.specs.Kinds.{Contact, asks, serves}
use Rattle.gos_plan.specs.Firing.{Slot}
use Rattle.gos_plan.specs.Plans.{End, PartEnd, Plan, contact_at, same_end}
use Rattle.gos_plan.specs.Tokens.{Tokens, Element, Fire, Out, In, places_of, held_at, with_held, with_place, shake_of, way_taken, way_put, Passes, Does}
use Rattle.gos_plan.specs.Turns.{IsEmptyAt}
use Rattle.gos_plan.specs.Orderly.{Open, named_by, handshake_at, with_open, after_taken, after_put, ComesWell, ComesInOrder, AllWelcome}
use Rattle.gos_plan.proofs.JointLemmas.{same_itself}
use Rattle.gos_realises.specs.realises.Regular.{Pass, pass, way_in, way_out, is_request, is_open, ComesInTurn}
use Rattle.gos_realises.proofs.realises.OneJointLemmas.{Lies, rests_alone, with_request, with_answer, not_both}
use Rattle.gos_realises.proofs.realises.RingLemmas.{after, OutputTurns, IsCircle, IsFirst}
use Rattle.gos_realises.proofs.realises.PassLemmas.{open_itself}

pub data Stage : Type 0 where
  Resting Asked Away Back : Stage

-- it is asked at the one end, and asks at the other
abbrev pub next : End → End → Stage → Element
next a b Resting = In a 0
next a b Asked = Out b 0
next a b Away = In b 0
next a b Back = Out a 0

abbrev pub succ : Stage → Stage
succ Resting = Asked
succ Asked = Away
succ Away = Back
succ Back = Resting

abbrev pub At : End → Stage → Tokens → Type 0
At a Resting s = Lies a None None s
At a Asked s = Lies a (Some 0) None s
At a Away s = Lies a None None s
At a Back s = Lies a None (Some 0) s

abbrev pub OpenAt : End → Stage → Open → Type 0
OpenAt a Resting o = o a ≡ false
OpenAt a Asked o = o a ≡ true
OpenAt a Away o = o a ≡ true
OpenAt a Back o = o a ≡ true

-- of both ends
abbrev pub Opened : End → End → Stage → (End → Bool) → Type 0
Opened a b Resting f = (f a ≡ false) × (f b ≡ false)
Opened a b Asked f = (f a ≡ true) × (f b ≡ false)
Opened a b Away f = (f a ≡ true) × (f b ≡ true)
Opened a b Back f = (f a ≡ true) × (f b ≡ false)

-- the plan's ports have these two handshakes alone, which are one joint's, and it has no parts
pub record IsRelay (p : Plan) (a b : End) : Type 0 where
  pub asking : contact_at p a ≡ Some (asks 0 0)
  pub serving : contact_at p b ≡ Some (serves 0 0)
  pub at_a : places_of p a ≡ Some a
  pub at_b : places_of p b ≡ Some a
  pub a_not_b : same_end a b ≡ false
  pub b_not_a : same_end b a ≡ false
  pub fires : (i : ℕ) (x : Slot) (s w : Tokens) → Does p (Fire i x) s w → ⊥
  pub none : (i h : ℕ) (c : Contact) → contact_at p (PartEnd i h) ≡ Some c → ⊥
  pub out_of :
      (e : End) (v : ℕ) (s w : Tokens) → Does p (Out e v) s w
      → ((e ≡ a) × (s.in_place Answer a ≡ Some v)) ⊎ ((e ≡ b) × (s.in_place Request a ≡ Some v))
  pub in_of : (e : End) (v : ℕ) (s w : Tokens) → Does p (In e v) s w → ((e ≡ a) ⊎ (e ≡ b)) × (v ≡ 0)
  pub asks_in_turn : (past : List Pass) → is_open past a ≡ true → is_open past b ≡ false → OutputTurns p past (Out b 0)
  pub answers_in_turn : (past : List Pass) → is_open past a ≡ true → is_open past b ≡ false → OutputTurns p past (Out a 0)

other_pass : (d e : End) (way : Direction) (past : List Pass) → same_end d e ≡ false → is_open (pass d way ∷ past) e ≡ is_open past e
other_pass d e way past apart = ap (λ (t : Bool). if t then is_request way else is_open past e) apart

pub opened_itself : (e : End) (x : Bool) (o : Open) → with_open e x o e ≡ x
opened_itself e x o = ap (λ (t : Bool). if t then x else o e) (same_itself e)

module _ (p : Plan) (a b : End) (is : IsRelay p a b) where
  -- where the tokens are then
  run : (v : ℕ) (s w : Tokens) → Does p (In a v) s w → w ≡ with_place Request a (Some v) s
  run v s w does =
      (subst (λ (c : Option Contact). Passes p (In a v) c s w) is.asking does.1).1 ∙ ap (λ (x : Option End). with_held Request x (Some v) s) is.at_a

  ask : (v : ℕ) (s w : Tokens) → Does p (Out b v) s w → w ≡ with_place Request a None s
  ask v s w does =
      (subst (λ (c : Option Contact). Passes p (Out b v) c s w) is.serving does.1).1 ∙ ap (λ (x : Option End). with_held Request x None s) is.at_b

  hear : (v : ℕ) (s w : Tokens) → Does p (In b v) s w → w ≡ with_place Answer a (Some v) s
  hear v s w does =
      (subst (λ (c : Option Contact). Passes p (In b v) c s w) is.serving does.1).1 ∙ ap (λ (x : Option End). with_held Answer x (Some v) s) is.at_b

  answer : (v : ℕ) (s w : Tokens) → Does p (Out a v) s w → w ≡ with_place Answer a None s
  answer v s w does =
      (subst (λ (c : Option Contact). Passes p (Out a v) c s w) is.asking does.1).1 ∙ ap (λ (x : Option End). with_held Answer x None s) is.at_a

  leads : (q : Stage) (s w : Tokens) → At a q s → Does p (next a b q) s w → At a (succ q) w
  leads Resting s w here does = subst (λ x. Lies a (Some 0) None x) (sym (run 0 s w does)) (with_request a None None (Some 0) s here)
  leads Asked s w here does = subst (λ x. Lies a None None x) (sym (ask 0 s w does)) (with_request a (Some 0) None None s here)
  leads Away s w here does = subst (λ x. Lies a None (Some 0) x) (sym (hear 0 s w does)) (with_answer a None None (Some 0) s here)
  leads Back s w here does = subst (λ x. Lies a None None x) (sym (answer 0 s w does)) (with_answer a None (Some 0) None s here)

  fires : (q : Stage) (i : ℕ) (x : Slot) (s w : Tokens) → At a q s → Does p (Fire i x) s w → Fire i x ≡ next a b q
  fires q i x s w here does = absurd (is.fires i x s w does)

  no_answer : (held : Option ℕ) (e : End) (v : ℕ) (s w : Tokens) → Lies a held None s → Does p (Out e v) s w → (e ≡ b) × (held ≡ Some v)
  no_answer held e v s w here does =
      elim (is.out_of e v s w does) [
        | inl x ↦ absurd (not_both (s.in_place Answer a) v here.answer x.1)
        | inr x ↦ (x.0, sym here.request ∙ x.1)
      ]

  puts_out : (q : Stage) (e : End) (v : ℕ) (s w : Tokens) → At a q s → Does p (Out e v) s w → Out e v ≡ next a b q
  puts_out Resting e v s w here does = let none = (no_answer None e v s w here does).1 in absurd (cc none)
  puts_out Asked e v s w here does =
      let (at, lies) = no_answer (Some 0) e v s w here does in
      let zero_is : v ≡ 0 = sym (cc lies) in
      λ i. Out (at i) (zero_is i)
  puts_out Away e v s w here does = let none = (no_answer None e v s w here does).1 in absurd (cc none)
  puts_out Back e v s w here does =
      elim (is.out_of e v s w does) [
        | inl x ↦ (let lies : Some 0 ≡ Some v = sym here.answer ∙ x.1 in
            let zero_is : v ≡ 0 = sym (cc lies) in
            λ i. Out (x.0 i) (zero_is i))
        | inr x ↦ absurd (not_both (s.in_place Request a) v here.request x.1)
      ]

  -- which input may come in a stage, by what must be open for each
  pub comes_in : (q : Stage) (e : End) (v : ℕ) (s w : Tokens) (f : End → Bool) → Opened a b q f → Does p (In e v) s w
      → (e ≡ a → f a ≡ false) → (e ≡ b → f b ≡ true) → In e v ≡ next a b q
  comes_in q e v s w f o does shut due = by_end q o (is.in_of e v s w does)
    where
      by_end : (q : Stage) → Opened a b q f → ((e ≡ a) ⊎ (e ≡ b)) × (v ≡ 0) → In e v ≡ next a b q
      by_end Resting o (inl at, none) = λ i. In (at i) (none i)
      by_end Resting o (inr at, none) = absurd (true_is_not_false (f b) (due at) o.1)
      by_end Asked o (inl at, none) = absurd (true_is_not_false (f a) o.0 (shut at))
      by_end Asked o (inr at, none) = absurd (true_is_not_false (f b) (due at) o.1)
      by_end Away o (inl at, none) = absurd (true_is_not_false (f a) o.0 (shut at))
      by_end Away o (inr at, none) = λ i. In (at i) (none i)
      by_end Back o (inl at, none) = absurd (true_is_not_false (f a) o.0 (shut at))
      by_end Back o (inr at, none) = absurd (true_is_not_false (f b) (due at) o.1)

  in_turn : (q : Stage) (e : End) (v : ℕ) (s w : Tokens) (past : List Pass)
      → Does p (In e v) s w → Opened a b q (is_open past) → ComesInTurn past e (way_in (contact_at p e)) → In e v ≡ next a b q
  in_turn q e v s w past does o turn =
      comes_in q e v s w (is_open past) o does
      (λ at. subst (λ (c : Option Contact). ComesInTurn past a (way_in c)) is.asking (there at))
      (λ at. subst (λ (c : Option Contact). ComesInTurn past b (way_in c)) is.serving (there at))
    where
      there : {d : End} → e ≡ d → ComesInTurn past d (way_in (contact_at p d))
      there at = subst (λ (x : End). ComesInTurn past x (way_in (contact_at p x))) at turn

  passed : (q : Stage) (past : List Pass) → Opened a b q (is_open past) → Opened a b (succ q) (is_open (after p (next a b q) past))
  passed Resting past o = (
    open_itself a (way_in (contact_at p a)) past ∙ ap (λ (c : Option Contact). is_request (way_in c)) is.asking,
    other_pass a b (way_in (contact_at p a)) past is.a_not_b ∙ o.1,
  )
  passed Asked past o = (
    other_pass b a (way_out (contact_at p b)) past is.b_not_a ∙ o.0,
    open_itself b (way_out (contact_at p b)) past ∙ ap (λ (c : Option Contact). is_request (way_out c)) is.serving,
  )
  passed Away past o = (
    other_pass b a (way_in (contact_at p b)) past is.b_not_a ∙ o.0,
    open_itself b (way_in (contact_at p b)) past ∙ ap (λ (c : Option Contact). is_request (way_in c)) is.serving,
  )
  passed Back past o = (
    open_itself a (way_out (contact_at p a)) past ∙ ap (λ (c : Option Contact). is_request (way_out c)) is.asking,
    other_pass a b (way_out (contact_at p a)) past is.a_not_b ∙ o.1,
  )

  turns : (q : Stage) (past : List Pass) → Opened a b q (is_open past) → OutputTurns p past (next a b q)
  turns Resting past o = tt
  turns Asked past o = is.asks_in_turn past o.0 o.1
  turns Away past o = tt
  turns Back past o = is.answers_in_turn past o.0 o.1

  -- the joint's name
  name_a : handshake_at p a ≡ a
  name_a = ap (λ (x : Option End). named_by x a) is.at_a

  name_b : handshake_at p b ≡ a
  name_b = ap (λ (x : Option End). named_by x b) is.at_b

  comes : (q : Stage) (s w : Tokens) (o : Open)
      → At a q s → OpenAt a q o → Does p (next a b q) s w → (u : Open) × ComesInOrder p (next a b q) s o u × OpenAt a (succ q) u
  comes Resting s w o here now does = (
    with_open a true o,
    (λ k there. subst (λ (d : Contact). ComesWell p a (way_put d.role) o s × (with_open a true o ≡ after_put p a (way_put d.role) o))
        (same_Some (asks 0 0) k (sym is.asking ∙ there)) (ap o name_a ∙ now, ap (λ (e : End). with_open e true o) (sym name_a))),
    opened_itself a true o,
  )
  comes Asked s w o here now does = (
    o,
    (λ k there. subst (λ (d : Contact). o ≡ after_taken p b (way_taken d.role) o) (same_Some (serves 0 0) k (sym is.serving ∙ there)) refl),
    now,
  )
  comes Away s w o here now does = (
    o,
    (λ k there. subst (λ (d : Contact). ComesWell p b (way_put d.role) o s × (o ≡ after_put p b (way_put d.role) o))
        (same_Some (serves 0 0) k (sym is.serving ∙ there)) ((ap o name_b ∙ now, nothing_lies), refl)),
    now,
  )
    where
      nothing_lies : IsEmptyAt p s b
      nothing_lies Request = ap (held_at s Request) is.at_b ∙ here.request
      nothing_lies Answer = ap (held_at s Answer) is.at_b ∙ here.answer
  comes Back s w o here now does = (
    with_open a false o,
    (λ k there. subst (λ (d : Contact). with_open a false o ≡ after_taken p a (way_taken d.role) o)
        (same_Some (asks 0 0) k (sym is.asking ∙ there)) (ap (λ (e : End). with_open e false o) (sym name_a))),
    opened_itself a false o,
  )

  -- no part is there to take a token
  welcome : (q : Stage) (s : Tokens) → At a q s → AllWelcome p s
  welcome q s here i x k v there way lies = absurd (is.none i (shake_of x) k there)

  pub circle : IsCircle p Stage (next a b) succ (At a) (OpenAt a) (Opened a b)
  circle =
      record {
        leads = leads;
        fires = fires;
        puts_out = puts_out;
        in_turn = in_turn;
        passed = passed;
        turns = turns;
        comes = comes;
        welcome = welcome;
      }

  pub first : IsFirst p Stage (At a) (OpenAt a) (Opened a b) Resting
  first = record { rests = λ s idle. rests_alone a p s idle; none = refl; closed = (refl, refl) }
