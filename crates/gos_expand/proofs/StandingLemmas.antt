-- What stands at the beginning of a cycle: the registers hold the tokens that lie on the joints, each in one of three
-- places.
--
-- A token that was put at an end is pending in a register of its part's gates, or in the register of its joint, if that is
-- kept, or in the register of the output that takes it. A number counts only where its pulse is there: what else a
-- register of numbers holds has its bits, and no more is known of it.
use Rattle.std.specs.Prelude.{Option, None}
use Rattle.std.proofs.Common.{◌≡◌, inl, inr, ℕ, zero, suc, ◌+◌, ◌^◌, ◌≤◌, ◌<◌, Bool, true, false, List, [], ◌∷◌, ◌++◌, Some, slice_get, Contains, refl, sym, ◌∙◌, ap, subst, arith}
use Rattle.gos_types.specs.declared.shakes.Role.{Role}
use Rattle.gos_types.specs.declared.shakes.Role.TheVariants.{Serve, Ask}
use Rattle.gos_netlist.specs.Nets.{Netlist}
use Rattle.gos_types.specs.Events.{Direction, Request, Answer}
use Rattle.gos_netlist.specs.Settling.{Numbers, at}
use Rattle.gos_plan.specs.Kinds.{Part, Contact, asks, serves}
use Rattle.gos_plan.specs.Firing.{Token}
use Rattle.gos_plan.specs.Plans.{End, PartEnd, Joint, Plan, IsRight, Fits, contact_at}
use Rattle.gos_plan.specs.Tokens.{Tokens, Element, IsPortEnd, IsIdle, places_of, token_at, held_at, bits_of, way_taken}
use Rattle.gos_plan.specs.TokenBits.{AllFit}
use Rattle.gos_plan.specs.Orderly.{Open, none_open, AllWelcome, OrderlyFrom}
use Rattle.gos_macro.specs.Gates.{Incoming, incoming_bits, bits_in, value_in}
use Rattle.gos_plan.specs.Firings.{due, value_due}
use Rattle.gos_plan.specs.Projection.{TakesValues}
use Rattle.gos_plan.proofs.AccountLemmas.{parts_fill_places}
use Rattle.gos_plan.proofs.JointLemmas.{IsIn, found, fits}
use Rattle.gos_plan.proofs.BalanceLemmas.{IsOf, of_role}
use Rattle.gos_expand.specs.Gates.{Making, pending_of, stands_of}
use Rattle.gos_expand.specs.Blocks.{Nets}
use Rattle.gos_expand.specs.Starts.{Laying, bits_if, bits_taken}
use Rattle.gos_expand.specs.Facts.{Places, source, target, width, bits_put, incoming_at, CycleFacts, PlanFacts, PartFacts}
use Rattle.gos_plan.specs.Accounts.{count, number, AddsUp, PartsPut}
use Rattle.gos_expand.proofs.ChainLemmas.{orderly-append}

-- the number that comes with a pulse: 0 where there is none
abbrev pub number_by_pulse : ℕ → ℕ → ℕ
number_by_pulse zero x = 0
number_by_pulse (suc m) x = x

abbrev pub carried : Numbers → Nets → ℕ
carried v nets = number_by_pulse (at v nets.pulse) (at v nets.number)

-- the number itself where there is a pulse
pub carried_one : (v : Numbers) (nets : Nets) → at v nets.pulse ≡ 1 → carried v nets ≡ at v nets.number
carried_one v nets pulse = ap (λ (m : ℕ). number_by_pulse m (at v nets.number)) pulse

-- it is the same where pulse and number are
pub carried_same : (v w : Numbers) (nets from : Nets) → at v nets.pulse ≡ at w from.pulse → at v nets.number ≡ at w from.number → carried v nets ≡ carried w from
carried_same v w nets from pulse value = λ i. number_by_pulse (pulse i) (value i)

-- the tokens that are pending at an end, and the sum of their numbers
abbrev pub pending_if : Making → Option Part → ℕ → Numbers → List Token
pending_if m None b regs = []
pending_if m (Some k) b regs = pending_of m k b regs

abbrev pub pending_at : Laying → Plan → Places → Numbers → End → ℕ
pending_at lay p n regs (PartEnd i h) = due h (pending_if (lay.making i) (slice_get p.parts i) (n.start i) regs)
pending_at lay p n regs e = 0

abbrev pub pending_numbers : Laying → Plan → Places → Numbers → End → ℕ
pending_numbers lay p n regs (PartEnd i h) = value_due h (pending_if (lay.making i) (slice_get p.parts i) (n.start i) regs)
pending_numbers lay p n regs e = 0

-- the token that the output of a port holds
abbrev pub shown_at : Places → Numbers → End → ℕ
shown_at n regs (PartEnd i h) = 0
shown_at n regs e = at regs (n.shows e).pulse

abbrev pub shown_numbers : Places → Numbers → End → ℕ
shown_numbers n regs (PartEnd i h) = 0
shown_numbers n regs e = carried regs (n.shows e)

-- what the registers of a direction hold, if they are kept
abbrev pub held_pulse : Bool → Numbers → Nets → ℕ
held_pulse true regs nets = at regs nets.pulse
held_pulse false regs nets = 0

abbrev pub held_number : Bool → Numbers → Nets → ℕ
held_number true regs nets = carried regs nets
held_number false regs nets = 0

-- without a pulse they hold no number
pub nothing_held : (b : Bool) (regs : Numbers) (nets : Nets) → held_pulse b regs nets ≡ 0 → held_number b regs nets ≡ 0
nothing_held true regs nets none = ap (λ (m : ℕ). number_by_pulse m (at regs nets.number)) none
nothing_held false regs nets none = refl

-- where what lies in a direction of joint x is
pub record Lies (lay : Laying) (p : Plan) (n : Places) (regs : Numbers) (s : Tokens) (x : ℕ) (j : Joint) (way : Direction) : Type 0 where
  pub counts :
      count (s.in_place way j.asking)
      ≡ held_pulse (lay.keep x way) regs (n.arrives (target j way)) + (pending_at lay p n regs (source j way) + shown_at n regs (target j way))
  pub numbers :
      0 < width p j way
      → number (s.in_place way j.asking)
      ≡ held_number (lay.keep x way) regs (n.arrives (target j way)) + (pending_numbers lay p n regs (source j way) + shown_numbers n regs (target j way))
  pub narrow :
      lay.keep x way ≡ true → 0 < width p j way → at regs (n.arrives (target j way)).pulse ≡ 0
      → at regs (n.arrives (target j way)).number < 2 ^ width p j way

-- registers and tokens at the beginning of a cycle
pub record Standing (lay : Laying) (p : Plan) (n : Places) (regs : Numbers) (s : Tokens) : Type 0 where
  pub welcome : AllWelcome p s
  pub fit : AllFit p s
  pub parts : (i : ℕ) (k : Part) → slice_get p.parts i ≡ Some k → stands_of (lay.making i) k (n.start i) regs (s.state i)
  pub joints : (x : ℕ) (j : Joint) (way : Direction) → slice_get p.joints x ≡ Some j → Lies lay p n regs s x j way
  pub loose : (e : End) (c : Contact) → IsPortEnd e → contact_at p e ≡ Some c → places_of p e ≡ None → at regs (n.shows e).pulse ≡ 0

-- an orderly list leads from an idle state to this one
pub record Led (p : Plan) (o : Open) (s : Tokens) : Type 0 where
  pub past : List Element
  pub first : Tokens
  pub idle : IsIdle p first
  pub list : OrderlyFrom p past none_open first o s

pub led_on : (p : Plan) (xs : List Element) (o u : Open) (s t : Tokens) → Led p o s → OrderlyFrom p xs o s u t → Led p u t
led_on p xs o u s t led more =
    record {
      past = led.past ++ xs;
      first = led.first;
      idle = led.idle;
      list = orderly-append p led.past xs none_open o u led.first s t led.list more;
    }

-- all that is known of a cycle at its beginning
pub record Now (lay : Laying) (p : Plan) (net : Netlist) (n : Places) (rank : End → ℕ) (v regs after : Numbers) (o : Open) (s : Tokens) : Type 0 where
  pub right : IsRight p
  pub part_facts : PartFacts lay p rank
  pub plan_facts : PlanFacts lay p n
  pub facts : CycleFacts lay p net n v regs after
  pub led : Led p o s
  pub standing : Standing lay p n regs s

-- the values that come in at a part
abbrev pub values_if : Option Part → Numbers → Incoming → ℕ → ℕ
values_if None v i h = 0
values_if (Some k) v i h = value_in k v i h

abbrev pub values : Plan → Places → Numbers → ℕ → ℕ → ℕ
values p n v i = values_if (slice_get p.parts i) v (incoming_at p n i)

-- a joint by its place
pub index_of : (j : Joint) (js : List Joint) → IsIn j js → (x : ℕ) × (slice_get js x ≡ Some j)
index_of j [] h = absurd h
index_of j (y ∷ js) (inl e) = (0, ap Some (sym e))
index_of j (y ∷ js) (inr h) = let rest = index_of j js h in (suc rest.0, rest.1)

pub is_in_at : (x : ℕ) (js : List Joint) (j : Joint) → slice_get js x ≡ Some j → IsIn j js
is_in_at x [] j e = absurd (grind (arith, e))
is_in_at zero (y ∷ js) j e = inl (cc e)
is_in_at (suc x) (y ∷ js) j e = inr (is_in_at x js j e)

-- an end with a place is where the tokens of a direction are taken
pub record Taking (p : Plan) (e : End) (c : Contact) : Type 0 where
  pub index : ℕ
  pub joint : Joint
  pub there : slice_get p.joints index ≡ Some joint
  pub is_target : e ≡ target joint (way_taken c.role)
  pub bits : width p joint (way_taken c.role) ≡ bits_taken (Some c)
  pub place : places_of p e ≡ Some joint.asking

pub taking : (p : Plan) (e a : End) (c : Contact) → IsRight p → contact_at p e ≡ Some c → places_of p e ≡ Some a → Taking p e c
taking p e a c right there place =
    let f = found p.joints e a place in
    let x = index_of f.joint p.joints f.is_in in
    record {
      index = x.0;
      joint = f.joint;
      there = x.1;
      is_target = is_target c.role (of_role p f.joint e c right f.is_in f.stands there);
      bits = of_bits c.role refl (of_role p f.joint e c right f.is_in f.stands there) (fits p [] p.joints f.joint right f.is_in);
      place = place ∙ ap Some (sym f.named);
    }
  where
    is_target : (role : Role) → IsOf role e (found p.joints e a place).joint → e ≡ target (found p.joints e a place).joint (way_taken role)
    is_target Serve is = is
    is_target Ask is = is

    of_bits : (role : Role) → c.role ≡ role → IsOf role e (found p.joints e a place).joint → Fits p (found p.joints e a place).joint
        → width p (found p.joints e a place).joint (way_taken c.role) ≡ bits_of c (way_taken c.role)
    of_bits Serve is here fit =
        let same : contact_at p e ≡ Some (serves fit.0 fit.1) = ap (contact_at p) here ∙ fit.3 in
        let is_c : c ≡ serves fit.0 fit.1 = cc (there, same) in
        rw (is, fit.2) (ap (λ (d : Contact). d.ask_bits) (sym is_c))
    of_bits Ask is here fit =
        let same : contact_at p e ≡ Some (asks fit.0 fit.1) = ap (contact_at p) here ∙ fit.2 in
        let is_c : c ≡ asks fit.0 fit.1 = cc (there, same) in
        rw (is, fit.2) (ap (λ (d : Contact). d.answer_bits) (sym is_c))

-- the two ends of a direction of a joint
pub record Ends (p : Plan) (j : Joint) (way : Direction) : Type 0 where
  pub from : Contact
  pub from_there : contact_at p (source j way) ≡ Some from
  pub from_bits : bits_put (Some from) ≡ width p j way
  pub to : Contact
  pub to_there : contact_at p (target j way) ≡ Some to
  pub to_bits : bits_taken (Some to) ≡ width p j way
  pub to_way : way_taken to.role ≡ way

pub ends_of : (p : Plan) (j : Joint) (way : Direction) → Fits p j → Ends p j way
ends_of p j Request (q, a, asking, serving) =
    record {
      from = asks q a;
      from_there = asking;
      from_bits = sym (ap (λ (f : Option Contact). bits_if f Request) asking);
      to = serves q a;
      to_there = serving;
      to_bits = sym (ap (λ (f : Option Contact). bits_if f Request) asking);
      to_way = refl;
    }
ends_of p j Answer (q, a, asking, serving) =
    record {
      from = serves q a;
      from_there = serving;
      from_bits = sym (ap (λ (f : Option Contact). bits_if f Answer) asking);
      to = asks q a;
      to_there = asking;
      to_bits = sym (ap (λ (f : Option Contact). bits_if f Answer) asking);
      to_way = refl;
    }

contains_at : {X : Type 0} (xs : List X) (m : ℕ) (x : X) → slice_get xs m ≡ Some x → Contains xs x
contains_at [] m x e = absurd (grind (arith, e))
contains_at (y ∷ xs) zero x e = (0, omega arith, cc e)
contains_at (y ∷ xs) (suc m) x e = let rest = contains_at xs m x e in let lt = rest.1 in (suc rest.0, omega (arith, lt), rest.2)

-- what the parts put in a list of the cycle, and how the joints add up
pub filled : (p : Plan) (n : Places) (v : Numbers) (o u : Open) (s t : Tokens) (xs : List Element)
    → IsRight p → Led p o s → OrderlyFrom p xs o s u t → ((i : ℕ) → TakesValues p i (values p n v i) xs s)
    → (puts : ℕ → List Token) × PartsPut p (values p n v) puts xs o s u t
    × ((x : ℕ) (j : Joint) (way : Direction) → slice_get p.joints x ≡ Some j
    → AddsUp (values p n v) puts xs s t way j.asking (source j way) (target j way))
filled p n v o u s t xs right led list takes =
    let law = parts_fill_places p (values p n v) led.past xs o u led.first s t right led.idle led.list list takes in
    (law.0, law.1, λ x j way there. by_way way j (law.2 j (contains_at p.joints x j there)))
  where
    by_way : {puts : ℕ → List Token} (way : Direction) (j : Joint)
        → AddsUp (values p n v) puts xs s t Request j.asking j.asking j.serving × AddsUp (values p n v) puts xs s t Answer j.asking j.serving j.asking
        → AddsUp (values p n v) puts xs s t way j.asking (source j way) (target j way)
    by_way Request j both = both.0
    by_way Answer j both = both.1

-- what lies in a place is one token at most
pub small_count : (f : Option ℕ) → count f ≤ 1
small_count None = omega arith
small_count (Some v) = omega arith

pub one_token : (f : Option ℕ) → count f ≡ 1 → f ≡ Some (number f)
one_token None e = absurd (omega (arith, e))
one_token (Some v) e = refl

pub counts_token : (f : Option ℕ) (v : ℕ) → f ≡ Some v → (count f ≡ 1) × (number f ≡ v)
counts_token f v e = (ap count e, ap number e)

pub lies_at : (p : Plan) (s : Tokens) (e : End) (c : Contact) (t : Taking p e c) → token_at p s e (way_taken c.role) ≡ s.in_place (way_taken c.role) t.joint.asking
lies_at p s e c t = ap (held_at s (way_taken c.role)) t.place

-- the bits of what comes in
pub incoming_at_handshake : (cs : List Contact) (h : ℕ) (c : Contact) → slice_get cs h ≡ Some c → incoming_bits cs h ≡ bits_taken (Some c)
incoming_at_handshake [] h c e = absurd (grind (arith, e))
incoming_at_handshake (d ∷ cs) zero c e =
    let is : d ≡ c = cc e in subst (λ (y : Contact). bits_in d.role d ≡ bits_taken (Some y)) is (by_role d.role)
  where
    by_role : (role : Role) → bits_in role d ≡ bits_of d (way_taken role)
    by_role Serve = refl
    by_role Ask = refl
incoming_at_handshake (d ∷ cs) (suc h) c e = incoming_at_handshake cs h c e
