-- Renumbering the parts of a plan changes nothing that is seen.
--
-- Token states, open handshakes and lists are moved along. A lemma in one direction is one in the other, since a
-- renumbering can be undone.
use Rattle.std.specs.Prelude.{◌≡◌, ℕ, Bool, true, false, ◌&&◌, List, [], ◌∷◌, Option, Some, None, nat_eq, slice_get, if◌then◌else◌}
use Rattle.std.proofs.Common.{refl, sym, ◌∙◌, ap, subst, arith}
use Rattle.gos_types.specs.Events.{Direction, Request, Answer}
use Rattle.gos_model.specs.Terms.{Term}
use Rattle.gos_model.specs.Moves.{Program, Config, Idle, Act}
use Rattle.gos_plan.specs.Kinds.{Part, Contact}
use Rattle.gos_plan.specs.Firing.{Slot, Req, Ans, State, Token, Row}
use Rattle.gos_plan.specs.Plans.{End, PartEnd, ImportEnd, ResultEnd, Joint, Plan, contact_at, contacts_of_part, same_end}
use Rattle.gos_plan.specs.Tokens.{Tokens, Element, Fire, Out, In, IsPortEnd, Passes, places_of, held_at, with_held, with_place, with_state, same_way, token_at, with_token, with_puts, shake_of, end_of, way_of, way_taken, way_put, firing_of, fired, Does, Runs, IsIdle, IsQuiet}
use Rattle.gos_plan.specs.Orderly.{Open, none_open, named_by, handshake_at, with_open, after_taken, after_put, after_puts, ComesWell, AllComeWell, ComesInOrder, AllWelcome, OrderlyFrom, IsOrderly}
use Rattle.gos_realises.specs.realises.Regular.{Pass, pass, way_in, way_out, InputsKeepTurns, OutputsKeepTurns, IsRegular}
use Rattle.gos_realises.specs.realises.Matched.{shows, GoesOn, Agrees, IsMatched, program_of, RealisesInTurn}
use Rattle.gos_realises.specs.realises.Renumbered.{moved, moved_if, RenumberingKeeps}

-- the same, where the imports and the outcome show in the handshakes at ports alone
pub record Renumbers (forth back : ℕ → ℕ) (r q : Plan) : Type 0 where
  pub returns : (i : ℕ) → back (forth i) ≡ i
  pub comes : (i : ℕ) → forth (back i) ≡ i
  pub parts : (i : ℕ) → slice_get q.parts (forth i) ≡ slice_get r.parts i
  pub ports : (e : End) → IsPortEnd e → contact_at q e ≡ contact_at r e
  pub places : (e : End) → places_of q (moved forth e) ≡ moved_if forth (places_of r e)

abbrev pub moved_tokens : (ℕ → ℕ) → Tokens → Tokens
moved_tokens back s = record { in_place = λ way e. s.in_place way (moved back e); state = λ i. s.state (back i) }

abbrev pub moved_open : (ℕ → ℕ) → Open → Open
moved_open back o = λ e. o (moved back e)

abbrev pub moved_element : (ℕ → ℕ) → Element → Element
moved_element forth (Fire i t) = Fire (forth i) t
moved_element forth (Out e v) = Out e v
moved_element forth (In e v) = In e v

abbrev pub moved_list : (ℕ → ℕ) → List Element → List Element
moved_list forth [] = []
moved_list forth (x ∷ xs) = moved_element forth x ∷ moved_list forth xs

pub tests_agree : (a b c d : ℕ) → (a ≡ b → c ≡ d) → (c ≡ d → a ≡ b) → nat_eq a b ≡ nat_eq c d
tests_agree a b c d to from = by_tests (nat_eq a b) (nat_eq c d) refl refl
  where
    by_tests : (x y : Bool) → nat_eq a b ≡ x → nat_eq c d ≡ y → nat_eq a b ≡ nat_eq c d
    by_tests true true e f = e ∙ sym f
    by_tests false false e f = e ∙ sym f
    by_tests true false e f = let same : a ≡ b = grind (arith, e) in let both = to same in grind (arith, f, both)
    by_tests false true e f = let same : c ≡ d = grind (arith, f) in let both = from same in grind (arith, e, both)

pub moved_twice : (forth back : ℕ → ℕ) → ((i : ℕ) → back (forth i) ≡ i) → (e : End) → moved back (moved forth e) ≡ e
moved_twice forth back returns (PartEnd i h) = ap (λ j. PartEnd j h) (returns i)
moved_twice forth back returns (ImportEnd i h) = refl
moved_twice forth back returns (ResultEnd h) = refl

moved_if_twice : (forth back : ℕ → ℕ) → ((i : ℕ) → back (forth i) ≡ i) → (o : Option End) → moved_if back (moved_if forth o) ≡ o
moved_if_twice forth back returns None = refl
moved_if_twice forth back returns (Some e) = ap Some (moved_twice forth back returns e)

element_twice : (forth back : ℕ → ℕ) → ((i : ℕ) → back (forth i) ≡ i) → (x : Element) → moved_element back (moved_element forth x) ≡ x
element_twice forth back returns (Fire i t) = ap (λ j. Fire j t) (returns i)
element_twice forth back returns (Out e v) = refl
element_twice forth back returns (In e v) = refl

list_twice : (forth back : ℕ → ℕ) → ((i : ℕ) → back (forth i) ≡ i) → (xs : List Element) → moved_list back (moved_list forth xs) ≡ xs
list_twice forth back returns [] = refl
list_twice forth back returns (x ∷ xs) = λ i. element_twice forth back returns x i ∷ list_twice forth back returns xs i

tokens_twice : (forth back : ℕ → ℕ) → ((i : ℕ) → back (forth i) ≡ i) → (s : Tokens) → moved_tokens forth (moved_tokens back s) ≡ s
tokens_twice forth back returns s =
    λ i. record { in_place = λ way e. s.in_place way (moved_twice forth back returns e i); state = λ j. s.state (returns j i) }

pub other_way : (forth back : ℕ → ℕ) (r q : Plan) → Renumbers forth back r q → Renumbers back forth q r
other_way forth back r q rn =
    record {
      returns = rn.comes;
      comes = rn.returns;
      parts = λ i. sym (rn.parts (back i)) ∙ ap (λ j. slice_get q.parts j) (rn.comes i);
      ports = λ e port. sym (rn.ports e port);
      places = λ e.
          sym (moved_if_twice forth back rn.returns (places_of r (moved back e)))
          ∙ (ap (moved_if back) (sym (rn.places (moved back e))) ∙ ap (λ d. moved_if back (places_of q d)) (moved_twice back forth rn.comes e));
    }

module _ (forth back : ℕ → ℕ) (r q : Plan) (rn : Renumbers forth back r q) where
  same_number : (i j : ℕ) → nat_eq (back j) i ≡ nat_eq j (forth i)
  same_number i j =
      tests_agree (back j) i j (forth i) (λ e. sym (rn.comes j) ∙ ap forth e) (λ e. ap back e ∙ rn.returns i)

  same_moved : (d e : End) → same_end (moved back d) e ≡ same_end d (moved forth e)
  same_moved (PartEnd j g) (PartEnd i h) = λ k. same_number i j k && nat_eq g h
  same_moved (PartEnd j g) (ImportEnd i h) = refl
  same_moved (PartEnd j g) (ResultEnd h) = refl
  same_moved (ImportEnd j g) (PartEnd i h) = refl
  same_moved (ImportEnd j g) (ImportEnd i h) = refl
  same_moved (ImportEnd j g) (ResultEnd h) = refl
  same_moved (ResultEnd g) (PartEnd i h) = refl
  same_moved (ResultEnd g) (ImportEnd i h) = refl
  same_moved (ResultEnd g) (ResultEnd h) = refl

  place_moved : (way : Direction) (e : End) (held : Option ℕ) (s : Tokens)
      → moved_tokens back (with_place way e held s) ≡ with_place way (moved forth e) held (moved_tokens back s)
  place_moved way e held s =
      λ k. record {
        in_place = λ w d. if same_way w way && same_moved d e k then held else s.in_place w (moved back d);
        state = λ i. s.state (back i);
      }

  state_moved : (i : ℕ) (z : State) (s : Tokens) → moved_tokens back (with_state i z s) ≡ with_state (forth i) z (moved_tokens back s)
  state_moved i z s =
      λ k. record {
        in_place = λ w d. s.in_place w (moved back d);
        state = λ j. if same_number i j k then z else s.state (back j);
      }

  held_moved : (s : Tokens) (way : Direction) (o : Option End) → held_at (moved_tokens back s) way (moved_if forth o) ≡ held_at s way o
  held_moved s way None = refl
  held_moved s way (Some e) = ap (s.in_place way) (moved_twice forth back rn.returns e)

  token_moved : (s : Tokens) (e : End) (way : Direction) → token_at q (moved_tokens back s) (moved forth e) way ≡ token_at r s e way
  token_moved s e way = ap (held_at (moved_tokens back s) way) (rn.places e) ∙ held_moved s way (places_of r e)

  with_held_moved : (way : Direction) (o : Option End) (held : Option ℕ) (s : Tokens)
      → moved_tokens back (with_held way o held s) ≡ with_held way (moved_if forth o) held (moved_tokens back s)
  with_held_moved way None held s = refl
  with_held_moved way (Some e) held s = place_moved way e held s

  with_token_moved : (e : End) (way : Direction) (held : Option ℕ) (s : Tokens)
      → moved_tokens back (with_token r e way held s) ≡ with_token q (moved forth e) way held (moved_tokens back s)
  with_token_moved e way held s =
      with_held_moved way (places_of r e) held s ∙ ap (λ o. with_held way o held (moved_tokens back s)) (sym (rn.places e))

  puts_moved : (i : ℕ) (ts : List Token) (s : Tokens)
      → moved_tokens back (with_puts r i ts s) ≡ with_puts q (forth i) ts (moved_tokens back s)
  puts_moved i [] s = refl
  puts_moved i (t ∷ ts) s =
      puts_moved i ts (with_token r (end_of i t.slot) (way_of t.slot) (Some t.value) s)
      ∙ ap (with_puts q (forth i) ts) (with_token_moved (end_of i t.slot) (way_of t.slot) (Some t.value) s)

  taken_moved : (i : ℕ) (x : Row) (v : ℕ) (s : Tokens)
      → moved_tokens back (with_state i (x.next v) (with_token r (end_of i x.takes) (way_of x.takes) None s))
      ≡ with_state (forth i) (x.next v) (with_token q (end_of (forth i) x.takes) (way_of x.takes) None (moved_tokens back s))
  taken_moved i x v s =
      state_moved i (x.next v) (with_token r (end_of i x.takes) (way_of x.takes) None s)
      ∙ ap (with_state (forth i) (x.next v)) (with_token_moved (end_of i x.takes) (way_of x.takes) None s)

  fired_moved : (i : ℕ) (x : Row) (v : ℕ) (s : Tokens) → moved_tokens back (fired r i x v s) ≡ fired q (forth i) x v (moved_tokens back s)
  fired_moved i x v s =
      puts_moved i (x.puts v) (with_state i (x.next v) (with_token r (end_of i x.takes) (way_of x.takes) None s))
      ∙ ap (with_puts q (forth i) (x.puts v)) (taken_moved i x v s)

  firing_moved : (i : ℕ) (t : Slot) (s : Tokens)
      → firing_of (slice_get q.parts (forth i)) (s.state (back (forth i))) t ≡ firing_of (slice_get r.parts i) (s.state i) t
  firing_moved i t s = λ k. firing_of (rn.parts i k) (s.state (rn.returns i k)) t

  -- an end of a port stays where it is
  port_stays : (e : End) → IsPortEnd e → moved forth e ≡ e
  port_stays (PartEnd i h) port = absurd port
  port_stays (ImportEnd i h) port = refl
  port_stays (ResultEnd h) port = refl

  port_token : (s : Tokens) (e : End) (way : Direction) → IsPortEnd e → token_at q (moved_tokens back s) e way ≡ token_at r s e way
  port_token s e way port = ap (λ d. token_at q (moved_tokens back s) d way) (sym (port_stays e port)) ∙ token_moved s e way

  port_with_token : (e : End) (way : Direction) (held : Option ℕ) (s : Tokens) → IsPortEnd e
      → moved_tokens back (with_token r e way held s) ≡ with_token q e way held (moved_tokens back s)
  port_with_token e way held s port =
      with_token_moved e way held s ∙ ap (λ d. with_token q d way held (moved_tokens back s)) (port_stays e port)

  passes_out : (e : End) (v : ℕ) (o : Option Contact) (s w : Tokens) → IsPortEnd e
      → Passes r (Out e v) o s w → Passes q (Out e v) o (moved_tokens back s) (moved_tokens back w)
  passes_out e v None s w port passes = passes
  passes_out e v (Some c) s w port passes = (
    port_token s e (way_taken c.role) port ∙ passes.0,
    ap (moved_tokens back) passes.1 ∙ port_with_token e (way_taken c.role) None s port,
  )

  passes_in : (e : End) (v : ℕ) (o : Option Contact) (s w : Tokens) → IsPortEnd e
      → Passes r (In e v) o s w → Passes q (In e v) o (moved_tokens back s) (moved_tokens back w)
  passes_in e v None s w port passes = passes
  passes_in e v (Some c) s w port passes = (passes.0, ap (moved_tokens back) passes.1 ∙ port_with_token e (way_put c.role) (Some v) s port)

  pub does_moved : (x : Element) (s w : Tokens) → Does r x s w → Does q (moved_element forth x) (moved_tokens back s) (moved_tokens back w)
  does_moved (Fire i t) s w (v, x, lies, fires, leads) = (
    v,
    x,
    token_moved s (end_of i t) (way_of t) ∙ lies,
    firing_moved i t s ∙ fires,
    ap (moved_tokens back) leads ∙ fired_moved i x v s,
  )
  does_moved (Out e v) s w (port, passes) = (
    port,
    subst (λ o. Passes q (Out e v) o (moved_tokens back s) (moved_tokens back w)) (sym (rn.ports e port))
        (passes_out e v (contact_at r e) s w port passes),
  )
  does_moved (In e v) s w (port, passes) = (
    port,
    subst (λ o. Passes q (In e v) o (moved_tokens back s) (moved_tokens back w)) (sym (rn.ports e port))
        (passes_in e v (contact_at r e) s w port passes),
  )

  pub runs_moved : (xs : List Element) (s t : Tokens) → Runs r xs s t → Runs q (moved_list forth xs) (moved_tokens back s) (moved_tokens back t)
  runs_moved [] s t same = ap (moved_tokens back) same
  runs_moved (x ∷ xs) s t (w, does, runs) = (moved_tokens back w, does_moved x s w does, runs_moved xs w t runs)

  pub idle_moved : (s : Tokens) → IsIdle r s → IsIdle q (moved_tokens back s)
  idle_moved s idle = ((λ way e. idle.0 way (moved back e)), λ i. idle.1 (back i))

  -- open handshakes
  named_moved : (o : Option End) (e : End) → named_by (moved_if forth o) (moved forth e) ≡ moved forth (named_by o e)
  named_moved None e = refl
  named_moved (Some d) e = refl

  name_moved : (e : End) → handshake_at q (moved forth e) ≡ moved forth (handshake_at r e)
  name_moved e = ap (λ o. named_by o (moved forth e)) (rn.places e) ∙ named_moved (places_of r e) e

  with_open_moved : (e : End) (b : Bool) (o : Open) → moved_open back (with_open e b o) ≡ with_open (moved forth e) b (moved_open back o)
  with_open_moved e b o = λ k d. if same_moved d e k then b else o (moved back d)

  after_taken_moved : (e : End) (way : Direction) (o : Open)
      → moved_open back (after_taken r e way o) ≡ after_taken q (moved forth e) way (moved_open back o)
  after_taken_moved e Request o = refl
  after_taken_moved e Answer o =
      with_open_moved (handshake_at r e) false o ∙ ap (λ d. with_open d false (moved_open back o)) (sym (name_moved e))

  after_put_moved : (e : End) (way : Direction) (o : Open)
      → moved_open back (after_put r e way o) ≡ after_put q (moved forth e) way (moved_open back o)
  after_put_moved e Request o =
      with_open_moved (handshake_at r e) true o ∙ ap (λ d. with_open d true (moved_open back o)) (sym (name_moved e))
  after_put_moved e Answer o = refl

  after_puts_moved : (i : ℕ) (ts : List Token) (o : Open)
      → moved_open back (after_puts r i ts o) ≡ after_puts q (forth i) ts (moved_open back o)
  after_puts_moved i [] o = refl
  after_puts_moved i (t ∷ ts) o =
      after_puts_moved i ts (after_put r (end_of i t.slot) (way_of t.slot) o)
      ∙ ap (after_puts q (forth i) ts) (after_put_moved (end_of i t.slot) (way_of t.slot) o)

  open_at : (e : End) (o : Open) → moved_open back o (handshake_at q (moved forth e)) ≡ o (handshake_at r e)
  open_at e o = ap (moved_open back o) (name_moved e) ∙ ap o (moved_twice forth back rn.returns (handshake_at r e))

  well_moved : (e : End) (way : Direction) (o : Open) (s : Tokens)
      → ComesWell r e way o s → ComesWell q (moved forth e) way (moved_open back o) (moved_tokens back s)
  well_moved e Request o s well = open_at e o ∙ well
  well_moved e Answer o s well = (open_at e o ∙ well.0, λ way. token_moved s e way ∙ well.1 way)

  all_well_moved : (i : ℕ) (ts : List Token) (o : Open) (s : Tokens)
      → AllComeWell r i ts o s → AllComeWell q (forth i) ts (moved_open back o) (moved_tokens back s)
  all_well_moved i [] o s well = tt
  all_well_moved i (t ∷ ts) o s well = (
    well_moved (end_of i t.slot) (way_of t.slot) o s well.0,
    subst (λ u. AllComeWell q (forth i) ts u (with_token q (end_of (forth i) t.slot) (way_of t.slot) (Some t.value) (moved_tokens back s)))
        (after_put_moved (end_of i t.slot) (way_of t.slot) o)
        (subst (λ w. AllComeWell q (forth i) ts (moved_open back (after_put r (end_of i t.slot) (way_of t.slot) o)) w)
        (with_token_moved (end_of i t.slot) (way_of t.slot) (Some t.value) s)
        (all_well_moved i ts (after_put r (end_of i t.slot) (way_of t.slot) o) (with_token r (end_of i t.slot) (way_of t.slot) (Some t.value) s) well.1)),
  )

  port_well : (e : End) (way : Direction) (o : Open) (s : Tokens) → IsPortEnd e
      → ComesWell r e way o s → ComesWell q e way (moved_open back o) (moved_tokens back s)
  port_well e way o s port well =
      subst (λ d. ComesWell q d way (moved_open back o) (moved_tokens back s)) (port_stays e port) (well_moved e way o s well)

  pub comes_moved : (x : Element) (s w : Tokens) (o u : Open) → Does r x s w
      → ComesInOrder r x s o u → ComesInOrder q (moved_element forth x) (moved_tokens back s) (moved_open back o) (moved_open back u)
  comes_moved (Fire i t) s w o u does comes = λ v x lies fires.
      let both = comes v x (sym (token_moved s (end_of i t) (way_of t)) ∙ lies) (sym (firing_moved i t s) ∙ fires) in (
        subst (λ a. AllComeWell q (forth i) (x.puts v) a (with_state (forth i) (x.next v) (with_token q (end_of (forth i) x.takes) (way_of x.takes) None (moved_tokens back s))))
            (after_taken_moved (end_of i t) (way_of t) o)
            (subst (λ z. AllComeWell q (forth i) (x.puts v) (moved_open back (after_taken r (end_of i t) (way_of t) o)) z) (taken_moved i x v s)
            (all_well_moved i (x.puts v) (after_taken r (end_of i t) (way_of t) o) (with_state i (x.next v) (with_token r (end_of i x.takes) (way_of x.takes) None s)) both.0)),
        ap (moved_open back) both.1
            ∙ (after_puts_moved i (x.puts v) (after_taken r (end_of i t) (way_of t) o) ∙ ap (after_puts q (forth i) (x.puts v)) (after_taken_moved (end_of i t) (way_of t) o)),
      )
  comes_moved (Out e v) s w o u (port, passes) comes = λ c there.
      ap (moved_open back) (comes c (sym (rn.ports e port) ∙ there))
      ∙ (after_taken_moved e (way_taken c.role) o ∙ ap (λ d. after_taken q d (way_taken c.role) (moved_open back o)) (port_stays e port))
  comes_moved (In e v) s w o u (port, passes) comes = λ c there.
      let both = comes c (sym (rn.ports e port) ∙ there) in (
        port_well e (way_put c.role) o s port both.0,
        ap (moved_open back) both.1
            ∙ (after_put_moved e (way_put c.role) o ∙ ap (λ d. after_put q d (way_put c.role) (moved_open back o)) (port_stays e port)),
      )

  abbrev TakesAt : Plan → Tokens → ℕ → Type 0
  TakesAt p s i =
      (t : Slot) (c : Contact) (v : ℕ)
      → contact_at p (end_of i t) ≡ Some c → way_taken c.role ≡ way_of t → token_at p s (end_of i t) (way_of t) ≡ Some v
      → (x : Row) × (firing_of (slice_get p.parts i) (s.state i) t ≡ Some x)

  pub welcome_moved : (s : Tokens) → AllWelcome r s → AllWelcome q (moved_tokens back s)
  welcome_moved s all i t c v there way lies = subst (TakesAt q (moved_tokens back s)) (rn.comes i) (at_moved (back i)) t c v there way lies
    where
      at_moved : (j : ℕ) → TakesAt q (moved_tokens back s) (forth j)
      at_moved j t c v there way lies =
          let (x, fires) = all j t c v (sym (ap (λ k. slice_get (contacts_of_part k) (shake_of t)) (rn.parts j)) ∙ there) way (sym (token_moved s (end_of j t) (way_of t)) ∙ lies) in
          (x, firing_moved j t s ∙ fires)

  pub orderly_moved : (xs : List Element) (o u : Open) (s t : Tokens) → OrderlyFrom r xs o s u t
      → OrderlyFrom q (moved_list forth xs) (moved_open back o) (moved_tokens back s) (moved_open back u) (moved_tokens back t)
  orderly_moved [] o u s t same = (ap (moved_open back) same.0, ap (moved_tokens back) same.1)
  orderly_moved (x ∷ xs) o u s t (m, w, does, comes, welcome, rest) = (
    moved_open back m,
    moved_tokens back w,
    does_moved x s w does,
    comes_moved x s w o m does comes,
    welcome_moved w welcome,
    orderly_moved xs m u w t rest,
  )

module _ (forth back : ℕ → ℕ) (r q : Plan) (rn : Renumbers forth back r q) where
  quiet_moved : (s : Tokens) → IsQuiet r s → IsQuiet q (moved_tokens back s)
  quiet_moved s quiet = (
    λ i t w does. quiet.0 (back i) t (moved_tokens forth w)
        (subst (λ x. Does r (Fire (back i) t) x (moved_tokens forth w)) (tokens_twice forth back rn.returns s)
        (does_moved back forth q r (other_way forth back r q rn) (Fire i t) (moved_tokens back s) w does)),
    λ e v w does. quiet.1 e v (moved_tokens forth w)
        (subst (λ x. Does r (Out e v) x (moved_tokens forth w)) (tokens_twice forth back rn.returns s)
        (does_moved back forth q r (other_way forth back r q rn) (Out e v) (moved_tokens back s) w does)),
  )

  idle_back : (s : Tokens) → IsIdle q (moved_tokens back s) → IsIdle r s
  idle_back s idle =
      subst (λ x. IsIdle r x) (tokens_twice forth back rn.returns s)
      (idle_moved back forth q r (other_way forth back r q rn) (moved_tokens back s) idle)

  ordered_back : (xs : List Element) (s : Tokens) → IsOrderly q (moved_list forth xs) (moved_tokens back s) → IsOrderly r xs s
  ordered_back xs s (u, t, order) =
      let there = orderly_moved back forth q r (other_way forth back r q rn) (moved_list forth xs) none_open u (moved_tokens back s) t order in
      let at_s = subst (λ x. OrderlyFrom r (moved_list back (moved_list forth xs)) none_open x (moved_open forth u) (moved_tokens forth t)) (tokens_twice forth back rn.returns s) there in (
        moved_open forth u,
        moved_tokens forth t,
        subst (λ ys. OrderlyFrom r ys none_open s (moved_open forth u) (moved_tokens forth t)) (list_twice forth back rn.returns xs) at_s,
      )

  goes_back : (x : Element) (s : Tokens) (acts : List Act) → GoesOn q (moved_tokens back s) (moved_element forth x) acts → GoesOn r s x acts
  goes_back (Fire i (Req h)) s acts goes = tt
  goes_back (Fire i (Ans h)) s acts goes = λ v x lies fires.
      goes v x (token_moved forth back r q rn s (PartEnd i h) Answer ∙ lies) (firing_moved forth back r q rn i (Ans h) s ∙ fires)
  goes_back (Out e v) s acts goes = tt
  goes_back (In e v) s acts goes = tt

-- a plan with the imports and the outcome of r
abbrev with_body : Plan → ℕ → List Part → List Joint → Plan
with_body r w ps js = record r { weight = w; parts = ps; joints = js }

module _
    (forth back : ℕ → ℕ) (r : Plan) (w : ℕ) (ps : List Part) (js : List Joint) (rn : Renumbers forth back r (with_body r w ps js)) where
  shows_same : (x : Element) → shows (with_body r w ps js) (moved_element forth x) ≡ shows r x
  shows_same (Fire i t) = refl
  shows_same (Out (PartEnd i h) v) = refl
  shows_same (Out (ImportEnd i h) v) = refl
  shows_same (Out (ResultEnd h) v) = refl
  shows_same (In (PartEnd i h) v) = refl
  shows_same (In (ImportEnd i h) v) = refl
  shows_same (In (ResultEnd h) v) = refl

  agrees_back : (g : Program) (s : Tokens) (c : Config) → Agrees (with_body r w ps js) g (moved_tokens back s) c → Agrees r g s c
  agrees_back g s c agrees = (
    λ quiet. agrees.0 (quiet_moved forth back r (with_body r w ps js) rn s quiet),
    λ e. idle_back forth back r (with_body r w ps js) rn s (agrees.1 e),
  )

  matched_back : (g : Program) (xs : List Element) (s : Tokens) (c : Config)
      → IsMatched (with_body r w ps js) g (moved_list forth xs) (moved_tokens back s) c → IsMatched r g xs s c
  matched_back g [] s c matched = agrees_back g s c matched
  matched_back g (x ∷ xs) s c (agrees, after) = (
    agrees_back g s c agrees,
    λ t does.
        let (acts, d, moves, shown, goes, rest) = after (moved_tokens back t) (does_moved forth back r (with_body r w ps js) rn x s t does) in
        (acts, d, moves, shown ∙ shows_same x, goes_back forth back r (with_body r w ps js) rn x s acts goes, matched_back g xs t d rest),
  )

  inputs_moved : (xs : List Element) (past : List Pass) (s t : Tokens) → Runs r xs s t
      → InputsKeepTurns r past xs → InputsKeepTurns (with_body r w ps js) past (moved_list forth xs)
  inputs_moved [] past s t runs keeps = tt
  inputs_moved (Fire i k ∷ xs) past s t (z, does, runs) keeps = inputs_moved xs past z t runs keeps
  inputs_moved (Out (PartEnd i h) v ∷ xs) past s t (z, does, runs) keeps = absurd does.0
  inputs_moved (Out (ImportEnd i h) v ∷ xs) past s t (z, does, runs) keeps =
      inputs_moved xs (pass (ImportEnd i h) (way_out (contact_at r (ImportEnd i h))) ∷ past) z t runs keeps
  inputs_moved (Out (ResultEnd h) v ∷ xs) past s t (z, does, runs) keeps =
      inputs_moved xs (pass (ResultEnd h) (way_out (contact_at r (ResultEnd h))) ∷ past) z t runs keeps
  inputs_moved (In (PartEnd i h) v ∷ xs) past s t (z, does, runs) keeps = absurd does.0
  inputs_moved (In (ImportEnd i h) v ∷ xs) past s t (z, does, runs) keeps =
      (keeps.0, inputs_moved xs (pass (ImportEnd i h) (way_in (contact_at r (ImportEnd i h))) ∷ past) z t runs keeps.1)
  inputs_moved (In (ResultEnd h) v ∷ xs) past s t (z, does, runs) keeps =
      (keeps.0, inputs_moved xs (pass (ResultEnd h) (way_in (contact_at r (ResultEnd h))) ∷ past) z t runs keeps.1)

  realises_back : (m : Term) → RealisesInTurn (with_body r w ps js) m → RealisesInTurn r m
  realises_back m done s t xs idle runs keeps =
      let both =
      done (moved_tokens back s) (moved_tokens back t) (moved_list forth xs) (idle_moved forth back r (with_body r w ps js) rn s idle)
      (runs_moved forth back r (with_body r w ps js) rn xs s t runs) (inputs_moved xs [] s t runs keeps) in
      (matched_back (program_of r m) xs s Idle both.0, ordered_back forth back r (with_body r w ps js) rn xs s both.1)

  outputs_back : (xs : List Element) (past : List Pass) (s t : Tokens) → Runs r xs s t
      → OutputsKeepTurns (with_body r w ps js) past (moved_list forth xs) → OutputsKeepTurns r past xs
  outputs_back [] past s t runs keeps = tt
  outputs_back (Fire i k ∷ xs) past s t (z, does, runs) keeps = outputs_back xs past z t runs keeps
  outputs_back (In (PartEnd i h) v ∷ xs) past s t (z, does, runs) keeps = absurd does.0
  outputs_back (In (ImportEnd i h) v ∷ xs) past s t (z, does, runs) keeps =
      outputs_back xs (pass (ImportEnd i h) (way_in (contact_at r (ImportEnd i h))) ∷ past) z t runs keeps
  outputs_back (In (ResultEnd h) v ∷ xs) past s t (z, does, runs) keeps =
      outputs_back xs (pass (ResultEnd h) (way_in (contact_at r (ResultEnd h))) ∷ past) z t runs keeps
  outputs_back (Out (PartEnd i h) v ∷ xs) past s t (z, does, runs) keeps = absurd does.0
  outputs_back (Out (ImportEnd i h) v ∷ xs) past s t (z, does, runs) keeps =
      (keeps.0, outputs_back xs (pass (ImportEnd i h) (way_out (contact_at r (ImportEnd i h))) ∷ past) z t runs keeps.1)
  outputs_back (Out (ResultEnd h) v ∷ xs) past s t (z, does, runs) keeps =
      (keeps.0, outputs_back xs (pass (ResultEnd h) (way_out (contact_at r (ResultEnd h))) ∷ past) z t runs keeps.1)

  regular_back : IsRegular (with_body r w ps js) → IsRegular r
  regular_back regular s t xs idle runs keeps =
      let both =
      regular (moved_tokens back s) (moved_tokens back t) (moved_list forth xs) (idle_moved forth back r (with_body r w ps js) rn s idle)
      (runs_moved forth back r (with_body r w ps js) rn xs s t runs) (inputs_moved xs [] s t runs keeps) in
      (ordered_back forth back r (with_body r w ps js) rn xs s both.0, outputs_back xs [] s t runs both.1)

pub renumbering_keeps : RenumberingKeeps
renumbering_keeps forth back r q rn = (
  λ regular. regular_back forth back r q.weight q.parts q.joints there (subst IsRegular same regular),
  λ m done. realises_back forth back r q.weight q.parts q.joints there m (subst (λ p. RealisesInTurn p m) same done),
)
  where
    same : q ≡ with_body r q.weight q.parts q.joints
    same = λ i. record { weight = q.weight; imports = rn.imports i; outcome = rn.outcome i; parts = q.parts; joints = q.joints }

    ports : (e : End) → IsPortEnd e → contact_at (with_body r q.weight q.parts q.joints) e ≡ contact_at r e
    ports (PartEnd i h) port = absurd port
    ports (ImportEnd i h) port = refl
    ports (ResultEnd h) port = refl

    there : Renumbers forth back r (with_body r q.weight q.parts q.joints)
    there = record { returns = rn.returns; comes = rn.comes; parts = rn.parts; ports = ports; places = rn.places }
