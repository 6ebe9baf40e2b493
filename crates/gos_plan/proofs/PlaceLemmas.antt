-- What an element does to one place of a joint: it takes at one end and puts at the other, or leaves the place alone.
--
-- A token of number v is worth f v, so that counts and sums are one. A place is empty before it is filled
-- (HeldLemmas).
use Rattle.std.specs.Prelude.{Option, None, ◌&&◌}
use Rattle.std.proofs.Common.{◌≡◌, ℕ, ◌+◌, Bool, true, false, List, [], ◌∷◌, Some, slice_get, refl, sym, ◌∙◌, ap, subst, arith, if◌then◌else◌}
use Rattle.std.proofs.lemmas.Bool.{and_parts}
use Rattle.gos_types.specs.declared.shakes.Role.{Role}
use Rattle.gos_types.specs.declared.shakes.Role.TheVariants.{Serve, Ask}
use Rattle.gos_types.specs.Events.{Direction, Request, Answer}
use Rattle.gos_plan.specs.Kinds.{Part, Contact}
use Rattle.gos_plan.specs.Firing.{Slot, Token, Row, firing}
use Rattle.gos_plan.specs.Plans.{End, Joint, Plan, IsRight, contacts_of_part, contact_at, same_end, stands_in}
use Rattle.gos_plan.specs.Tokens.{Tokens, Fire, places_of, same_way, with_state, held_at, with_held, token_at, with_token, shake_of, way_of, end_of, with_puts, way_taken, way_put, firing_of, fired}
use Rattle.gos_plan.specs.Orderly.{named_by, Open, after_taken, after_put, ComesWell, AllComeWell, ComesInOrder}
use Rattle.gos_plan.proofs.JointLemmas.{IsIn, same_itself, same_is, fits, one_joint, found, asking_role, serving_role, joined, stands_there, asking_stands, serving_stands}
use Rattle.gos_plan.proofs.RowLemmas.{role_taking, role_putting}
use Rattle.gos_plan.proofs.AskingLemmas.{RoleIs, PutsInRole, row_roles}
use Rattle.gos_plan.proofs.TurnLemmas.{way_to_take, way_to_put}
use Rattle.gos_plan.proofs.TokenBitsLemmas.{same_way_is, same_way_itself}
use Rattle.gos_plan.proofs.HeldLemmas as holding

-- what a place is worth, where a token of number v is worth f v
abbrev pub worth : (ℕ → ℕ) → Option ℕ → ℕ
worth f None = 0
worth f (Some v) = f v

-- The end of a joint at which tokens of this direction are put, or at which they are taken: g is how a role does it.
pub record Side (p : Plan) (j : Joint) (way : Direction) (e : End) (g : Role → Direction) : Type 0 where
  pub is_in : IsIn j p.joints
  pub stands : stands_in e j ≡ true
  pub meets : Contact
  pub there : contact_at p e ≡ Some meets
  pub ways : g meets.role ≡ way
  pub only : (d : End) (c : Contact) → stands_in d j ≡ true → contact_at p d ≡ Some c → g c.role ≡ way → d ≡ e

pub asking_side : (p : Plan) (j : Joint) (way : Direction) (g : Role → Direction) → IsRight p → IsIn j p.joints → g Ask ≡ way → (g Serve ≡ way → ⊥) → Side p j way j.asking g
asking_side p j way g right is_in yes' never =
    let fit = fits p [] p.joints j right is_in in
    record { is_in = is_in; stands = asking_stands j; meets = _; there = fit.2; ways = yes'; only = only }
  where
    only : (d : End) (c : Contact) → stands_in d j ≡ true → contact_at p d ≡ Some c → g c.role ≡ way → d ≡ j.asking
    only d c stands at_d way_of_d = by_test (same_end d j.asking) refl
      where
        by_test : (b : Bool) → same_end d j.asking ≡ b → d ≡ j.asking
        by_test true t = same_is d j.asking t
        by_test false t =
            let s : same_end d j.serving ≡ true = grind (arith, stands, t) in
            let role : c.role ≡ Serve = serving_role p j c (fits p [] p.joints j right is_in) (ap (contact_at p) (sym (same_is d j.serving s)) ∙ at_d) in
            absurd (never (ap g (sym role) ∙ way_of_d))

pub serving_side : (p : Plan) (j : Joint) (way : Direction) (g : Role → Direction) → IsRight p → IsIn j p.joints → g Serve ≡ way → (g Ask ≡ way → ⊥) → Side p j way j.serving g
serving_side p j way g right is_in yes' never =
    let fit = fits p [] p.joints j right is_in in
    record { is_in = is_in; stands = serving_stands j; meets = _; there = fit.3; ways = yes'; only = only }
  where
    only : (d : End) (c : Contact) → stands_in d j ≡ true → contact_at p d ≡ Some c → g c.role ≡ way → d ≡ j.serving
    only d c stands at_d way_of_d = by_test (same_end d j.asking) refl
      where
        by_test : (b : Bool) → same_end d j.asking ≡ b → d ≡ j.serving
        by_test true t =
            let role : c.role ≡ Ask = asking_role p j c (fits p [] p.joints j right is_in) (ap (contact_at p) (sym (same_is d j.asking t)) ∙ at_d) in
            absurd (never (ap g (sym role) ∙ way_of_d))
        by_test false t = let s : same_end d j.serving ≡ true = grind (arith, stands, t) in same_is d j.serving s

-- at that end the joint's place is filled or emptied
record Changed (p : Plan) (j : Joint) (way : Direction) (e : End) (w : Direction) (held : Option ℕ) (s : Tokens) : Type 0 where
  turns : w ≡ way
  before : token_at p s e w ≡ s.in_place way j.asking
  after : (with_token p e w held s).in_place way j.asking ≡ held

at_side : (p : Plan) (j : Joint) (way : Direction) (e : End) (g : Role → Direction) → IsRight p → Side p j way e g → (w : Direction)
    → ((c : Contact) → contact_at p e ≡ Some c → w ≡ g c.role) → (held : Option ℕ) (s : Tokens) → Changed p j way e w held s
at_side p j way e g right side w by_role held s =
    record {
      turns = is;
      before = ap (held_at s w) named ∙ ap (λ (z : Direction). s.in_place z j.asking) is;
      after =
          ap (λ (f : Option End). (with_held w f held s).in_place way j.asking) named
          ∙ ap (λ (b : Bool). if b then held else s.in_place way j.asking) (λ i. one i && same_itself j.asking i);
    }
  where
    is : w ≡ way
    is = by_role side.meets side.there ∙ side.ways

    named : places_of p e ≡ Some j.asking
    named = stands_there p j e right side.is_in side.stands

    one : same_way way w ≡ true
    one = ap (same_way way) is ∙ same_way_itself way

-- at another end it is left alone
off_side : (p : Plan) (j : Joint) (way : Direction) (e : End) (g : Role → Direction) → IsRight p → Side p j way e g → (d : End) (w : Direction)
    → ((c : Contact) → contact_at p d ≡ Some c → w ≡ g c.role) → same_end d e ≡ false → (held : Option ℕ) (s : Tokens)
    → (with_token p d w held s).in_place way j.asking ≡ s.in_place way j.asking
off_side p j way e g right side d w by_role apart held s = by_place (places_of p d) refl
  where
    in_one : (a : End) → places_of p d ≡ Some a → (same_way way w && same_end j.asking a) ≡ true → ⊥
    in_one a named t =
        let tests = and_parts (same_way way w) (same_end j.asking a) t in
        let f = found p.joints d a named in
        let is : f.joint.asking ≡ j.asking = f.named ∙ sym (same_is j.asking a tests.1) in
        let one : j ≡ f.joint =
        one_joint p [] p.joints j f.joint j.asking right side.is_in f.is_in (asking_stands j) (subst (λ (x : End). stands_in x f.joint ≡ true) is (asking_stands f.joint)) in
        let at_d = joined p d a right named in
        let same : d ≡ e =
        side.only d at_d.here (subst (λ (x : Joint). stands_in d x ≡ true) (sym one) f.stands) at_d.is_here
        (sym (by_role at_d.here at_d.is_here) ∙ sym (same_way_is way w tests.0)) in
        let itself : same_end d e ≡ true = ap (same_end d) (sym same) ∙ same_itself d in
        let clash : true ≡ false = sym itself ∙ apart in
        cc clash

    by_test : (a : End) → places_of p d ≡ Some a → (b : Bool) → (same_way way w && same_end j.asking a) ≡ b
        → (with_held w (Some a) held s).in_place way j.asking ≡ s.in_place way j.asking
    by_test a named true t = absurd (in_one a named t)
    by_test a named false t = ap (λ (b : Bool). if b then held else s.in_place way j.asking) t

    by_place : (f : Option End) → places_of p d ≡ f → (with_token p d w held s).in_place way j.asking ≡ s.in_place way j.asking
    by_place None none = ap (λ (f : Option End). (with_held w f held s).in_place way j.asking) none
    by_place (Some a) named =
        ap (λ (f : Option End). (with_held w f held s).in_place way j.asking) named ∙ by_test a named (same_way way w && same_end j.asking a) refl

-- a token is taken
pub took : (f : ℕ → ℕ) (p : Plan) (j : Joint) (way : Direction) (target : End) → IsRight p → Side p j way target way_taken → (e : End) (w : Direction) (v : ℕ) (s : Tokens)
    → ((c : Contact) → contact_at p e ≡ Some c → w ≡ way_taken c.role) → token_at p s e w ≡ Some v
    → worth f ((with_token p e w None s).in_place way j.asking) + (if same_end e target then f v else 0) ≡ worth f (s.in_place way j.asking)
took f p j way target right side e w v s by_role lies = by_test (same_end e target) refl
  where
    by_test : (b : Bool) → same_end e target ≡ b
        → worth f ((with_token p e w None s).in_place way j.asking) + (if b then f v else 0) ≡ worth f (s.in_place way j.asking)
    by_test true t =
        let here = subst (λ (x : End). Side p j way x way_taken) (sym (same_is e target t)) side in
        let change = at_side p j way e way_taken right here w by_role None s in
        let after = ap (worth f) change.after in
        let before = ap (worth f) (sym change.before ∙ lies) in
        omega (arith, after, before)
    by_test false t =
        let same = ap (worth f) (off_side p j way target way_taken right side e w by_role t None s) in
        omega (arith, same)

-- a token is put where none lies
pub filled : (f : ℕ → ℕ) (p : Plan) (j : Joint) (way : Direction) (source : End) → IsRight p → Side p j way source way_put → (e : End) (w : Direction) (v : ℕ) (s : Tokens)
    → ((c : Contact) → contact_at p e ≡ Some c → w ≡ way_put c.role) → token_at p s e w ≡ None
    → worth f ((with_token p e w (Some v) s).in_place way j.asking) ≡ worth f (s.in_place way j.asking) + (if same_end e source then f v else 0)
filled f p j way source right side e w v s by_role empty = by_test (same_end e source) refl
  where
    by_test : (b : Bool) → same_end e source ≡ b
        → worth f ((with_token p e w (Some v) s).in_place way j.asking) ≡ worth f (s.in_place way j.asking) + (if b then f v else 0)
    by_test true t =
        let here = subst (λ (x : End). Side p j way x way_put) (sym (same_is e source t)) side in
        let change = at_side p j way e way_put right here w by_role (Some v) s in
        let after = ap (worth f) change.after in
        let before = ap (worth f) (sym change.before ∙ empty) in
        omega (arith, after, before)
    by_test false t =
        let same = ap (worth f) (off_side p j way source way_put right side e w by_role t (Some v) s) in
        omega (arith, same)

-- what comes well finds its place empty
pub empty_before : (p : Plan) (e : End) (w : Direction) (o : Open) (s : Tokens) → ComesWell p e w o s → holding.AllFit o s → token_at p s e w ≡ None
empty_before p e Request o s closed fit = by_place (places_of p e) refl
  where
    by_place : (f : Option End) → places_of p e ≡ f → token_at p s e Request ≡ None
    by_place None none = ap (held_at s Request) none
    by_place (Some n) named =
        let shut : o n ≡ false = subst (λ (f : Option End). o (named_by f e) ≡ false) named closed in
        ap (held_at s Request) named ∙ (subst (λ (b : Bool). holding.Fits b (s.in_place Request n) (s.in_place Answer n)) shut (fit n)).0
empty_before p e Answer o s well fit = well.1 Answer

-- how a part takes and puts
pub takes_so : (p : Plan) (i : ℕ) (k : Part) (t : Slot) → slice_get p.parts i ≡ Some k → RoleIs k (shake_of t) (role_taking t)
    → (c : Contact) → contact_at p (end_of i t) ≡ Some c → way_of t ≡ way_taken c.role
takes_so p i k t is role c there =
    way_to_take t ∙ ap way_taken (sym (role c (subst (λ (f : Option Part). slice_get (contacts_of_part f) (shake_of t) ≡ Some c) is there)))

puts_so : (p : Plan) (i : ℕ) (k : Part) (t : Slot) → slice_get p.parts i ≡ Some k → RoleIs k (shake_of t) (role_putting t)
    → (c : Contact) → contact_at p (end_of i t) ≡ Some c → way_of t ≡ way_put c.role
puts_so p i k t is role c there =
    way_to_put t ∙ ap way_put (sym (role c (subst (λ (f : Option Part). slice_get (contacts_of_part f) (shake_of t) ≡ Some c) is there)))

-- what a part's tokens are worth at an end
abbrev pub put_here : (ℕ → ℕ) → ℕ → List Token → End → ℕ
put_here f i [] e = 0
put_here f i (t ∷ ts) e = (if same_end (end_of i t.slot) e then f t.value else 0) + put_here f i ts e

all_filled : (f : ℕ → ℕ) (p : Plan) (j : Joint) (way : Direction) (source : End) → IsRight p → Side p j way source way_put
    → (i : ℕ) (k : Part) → slice_get p.parts i ≡ Some k → (ts : List Token) (o : Open) (s : Tokens) → PutsInRole k ts → AllComeWell p i ts o s → holding.AllFit o s
    → worth f ((with_puts p i ts s).in_place way j.asking) ≡ worth f (s.in_place way j.asking) + put_here f i ts source
all_filled f p j way source right side i k is [] o s roles well fit = omega arith
all_filled f p j way source right side i k is (t ∷ ts) o s roles well fit =
    let first =
    filled f p j way source right side (end_of i t.slot) (way_of t.slot) t.value s (puts_so p i k t.slot is roles.0)
    (empty_before p (end_of i t.slot) (way_of t.slot) o s well.0 fit) in
    let rest =
    all_filled f p j way source right side i k is ts (after_put p (end_of i t.slot) (way_of t.slot) o)
    (with_token p (end_of i t.slot) (way_of t.slot) (Some t.value) s) roles.1 well.1
    (holding.put_well p (end_of i t.slot) (way_of t.slot) t.value o s well.0 fit) in
    omega (arith, first, rest)

-- a firing
pub fire_step : (f : ℕ → ℕ) (p : Plan) (j : Joint) (way : Direction) (source target : End) → IsRight p → Side p j way source way_put → Side p j way target way_taken
    → (i : ℕ) (k : Part) (t : Slot) (v : ℕ) (r : Row) (o m : Open) (s w : Tokens) → slice_get p.parts i ≡ Some k → token_at p s (end_of i t) (way_of t) ≡ Some v
    → firing k (s.state i) t ≡ Some r → firing_of (slice_get p.parts i) (s.state i) t ≡ Some r → w ≡ fired p i r v s → ComesInOrder p (Fire i t) s o m → holding.AllFit o s
    → worth f (w.in_place way j.asking) + (if same_end (end_of i t) target then f v else 0) ≡ worth f (s.in_place way j.asking) + put_here f i (r.puts v) source
fire_step f p j way source target right puts takes i k t v r o m s w is lies fires fire leads comes fit =
    let row = row_roles k (s.state i) t r v fires in
    let role = subst (λ (x : Slot). RoleIs k (shake_of x) (role_taking x)) row.0 row.1.0 in
    let first = took f p j way target right takes (end_of i t) (way_of t) v s (takes_so p i k t is role) lies in
    let same : with_token p (end_of i r.takes) (way_of r.takes) None s ≡ with_token p (end_of i t) (way_of t) None s =
    ap (λ (x : Slot). with_token p (end_of i x) (way_of x) None s) row.0 in
    let fit_now =
    subst (λ (x : Tokens). holding.AllFit (after_taken p (end_of i t) (way_of t) o) x) (sym same) (holding.taken p (end_of i t) (way_of t) v o s lies fit) in
    let rest =
    all_filled f p j way source right puts i k is (r.puts v) (after_taken p (end_of i t) (way_of t) o)
    (with_state i (r.next v) (with_token p (end_of i r.takes) (way_of r.takes) None s)) row.1.1 (comes v r lies fire).0 fit_now in
    let there = ap (λ (x : Tokens). worth f (x.in_place way j.asking)) leads in
    let between = ap (λ (x : Tokens). worth f (x.in_place way j.asking)) same in
    omega (arith, first, rest, there, between)

-- one end's way of taking
pub turns_at : (p : Plan) (j : Joint) (way : Direction) (target : End) → IsRight p → Side p j way target way_taken → (e : End) (w : Direction) (s : Tokens)
    → ((c : Contact) → contact_at p e ≡ Some c → w ≡ way_taken c.role) → same_end e target ≡ true → w ≡ way
turns_at p j way target right side e w s by_role t =
    (at_side p j way e way_taken right (subst (λ (x : End). Side p j way x way_taken) (sym (same_is e target t)) side) w by_role None s).turns
