-- The joint by which a whole runs one of its parts: what lies there comes from the result or from this part, and from no other end.
use Rattle.std.specs.Prelude.{◌≡◌, ◌&&◌, ℕ, Bool, true, false, List, [], ◌∷◌, Option, Some, None, Contains, nat_eq, if◌then◌else◌}
use Rattle.std.proofs.Common.{arith, refl, sym, ap, subst, inl, inr, ◌∙◌}
use Rattle.gos_types.specs.Types.{IsDone}
use Rattle.gos_types.specs.Events.{Direction, Request, Answer}
use Rattle.gos_model.proofs.NumberLemmas.{nat_eq_itself}
use Rattle.gos_plan.specs.Kinds.{Contact}
use Rattle.gos_plan.specs.Firing.{State, Token, Row}
use Rattle.gos_plan.specs.Plans.{End, PartEnd, ResultEnd, Joint, Plan, IsRight, contact_at, same_end, stands_in}
use Rattle.gos_plan.specs.Tokens.{Tokens, Element, Out, In, places_of, same_way, with_held, with_token, with_state, with_puts, end_of, way_of, fired, Passes, Does}
use Rattle.gos_plan.proofs.JointLemmas.{contained, found, one_joint, same_is, stands_there, asking_stands, serving_stands, which_end}
use Rattle.gos_plan.proofs.TurnLemmas.{token_state, fired_state}
use Rattle.gos_joining.specs.webs.Webs.{joint}
use Rattle.gos_realises.proofs.realises.InputLemmas.{result_asks}

-- what lies on the joint of the result
abbrev pub gate : Tokens → Direction → Option ℕ
gate s way = s.in_place way (ResultEnd 0)

-- nothing of the part that asks changes
pub record Same (d : ℕ) (s t : Tokens) : Type 0 where
  pub state : t.state d ≡ s.state d
  pub gates : (way : Direction) → gate t way ≡ gate s way

-- The result of the whole is joined to the end at which part d is run.
pub record IsRun (r : Plan) (d run : ℕ) : Type 0 where
  pub right : IsRight r
  pub there : Contains r.joints (joint (ResultEnd 0) (PartEnd d run))

-- where an input or an output leads
pub passes_out : (r : Plan) (e : End) (v : ℕ) (s t : Tokens) → Does r (Out e v) s t → (way : Direction) × (t ≡ with_token r e way None s)
passes_out r e v s t (port, passes) = by_contact (contact_at r e) passes
  where
    by_contact : (o : Option Contact) → Passes r (Out e v) o s t → (way : Direction) × (t ≡ with_token r e way None s)
    by_contact None h = absurd h
    by_contact (Some c) h = (_, h.1)

pub passes_in : (r : Plan) (e : End) (v : ℕ) (s t : Tokens) → Does r (In e v) s t → (way : Direction) × (t ≡ with_token r e way (Some v) s)
passes_in r e v s t (port, passes) = by_contact (contact_at r e) passes
  where
    by_contact : (o : Option Contact) → Passes r (In e v) o s t → (way : Direction) × (t ≡ with_token r e way (Some v) s)
    by_contact None h = absurd h
    by_contact (Some c) h = (_, h.1)

-- what passes a port has a contact there
pub there_contact : (r : Plan) (x : Element) (o : Option Contact) (s t : Tokens) → Passes r x o s t → (c : Contact) × (o ≡ Some c)
there_contact r x None s t h = absurd h
there_contact r x (Some c) s t h = (c, refl)

-- a command or an expression is asked at one handshake
pub first_shake : (r : Plan) → IsDone r.outcome → (k : ℕ) (x : Element) (s t : Tokens) → Passes r x (contact_at r (ResultEnd k)) s t → k ≡ 0
first_shake r done k x s t passes =
    let (c, there) = there_contact r x (contact_at r (ResultEnd k)) s t passes in (result_asks r.outcome done k c there).0

module _ {r : Plan} {d run : ℕ} (is : IsRun r d run) where
  abbrev run_joint : Joint
  run_joint = joint (ResultEnd 0) (PartEnd d run)

  pub result_gate : places_of r (ResultEnd 0) ≡ Some (ResultEnd 0)
  result_gate = stands_there r run_joint (ResultEnd 0) is.right (contained r.joints run_joint is.there) (asking_stands run_joint)

  pub part_gate : places_of r (PartEnd d run) ≡ Some (ResultEnd 0)
  part_gate = stands_there r run_joint (PartEnd d run) is.right (contained r.joints run_joint is.there) (serving_stands run_joint)

  place_apart : (w t : Bool) (held old : Option ℕ) → t ≡ false → (if w && t then held else old) ≡ old
  place_apart true t held old e = ap (λ (b : Bool). if b then held else old) e
  place_apart false t held old e = refl

  pub gate_kept : (e : End) → (e ≡ ResultEnd 0 → ⊥) → (e ≡ PartEnd d run → ⊥) → (w : Direction) (held : Option ℕ) (s : Tokens) (way : Direction)
      → gate (with_token r e w held s) way ≡ gate s way
  gate_kept e not_result not_part w held s way = there (places_of r e) refl
    where
      never : (a : End) → places_of r e ≡ Some a → ResultEnd 0 ≡ a → ⊥
      never a named at =
          let there = found r.joints e a named in
          let asks_there : stands_in (ResultEnd 0) there.joint ≡ true =
          subst (λ (x : End). stands_in x there.joint ≡ true) (there.named ∙ sym at) (asking_stands there.joint) in
          let one : there.joint ≡ run_joint =
          one_joint r [] r.joints there.joint run_joint (ResultEnd 0) is.right there.is_in (contained r.joints run_joint is.there) asks_there
          (asking_stands run_joint) in
          elim (which_end e run_joint (subst (λ (j : Joint). stands_in e j ≡ true) one there.stands)) [ inl at_result ↦ not_result at_result | inr at_part ↦ not_part at_part ]

      differs : (a : End) → places_of r e ≡ Some a → (t : Bool) → same_end (ResultEnd 0) a ≡ t → t ≡ false
      differs a named true t = absurd (never a named (same_is (ResultEnd 0) a t))
      differs a named false t = refl

      there : (o : Option End) → places_of r e ≡ o → gate (with_held w o held s) way ≡ gate s way
      there None named = refl
      there (Some a) named = place_apart (same_way way w) (same_end (ResultEnd 0) a) held (gate s way) (differs a named (same_end (ResultEnd 0) a) refl)

  pub gate_apart : (k : ℕ) → (k ≡ run → ⊥) → (w : Direction) (held : Option ℕ) (s : Tokens) (way : Direction)
      → gate (with_token r (PartEnd d k) w held s) way ≡ gate s way
  gate_apart k other = gate_kept (PartEnd d k) (λ e. cc e) (λ e. let same : k ≡ run = cc e in other same)

  pub gate_taken : (s : Tokens) → gate (with_token r (PartEnd d run) Request None s) Request ≡ None
  gate_taken s = ap (λ o. gate (with_held Request o None s) Request) part_gate

  pub gate_left : (s : Tokens) → gate (with_token r (PartEnd d run) Request None s) Answer ≡ gate s Answer
  gate_left s = ap (λ o. gate (with_held Request o None s) Answer) part_gate

  pub gate_filled : (v : ℕ) (s : Tokens) → gate (with_token r (PartEnd d run) Answer (Some v) s) Answer ≡ Some v
  gate_filled v s = ap (λ o. gate (with_held Answer o (Some v) s) Answer) part_gate

  pub gate_beside : (v : ℕ) (s : Tokens) → gate (with_token r (PartEnd d run) Answer (Some v) s) Request ≡ gate s Request
  gate_beside v s = ap (λ o. gate (with_held Answer o (Some v) s) Request) part_gate

  -- the part's state
  pub new_state : (c : State) (s : Tokens) → (with_state d c s).state d ≡ c
  new_state c s = ap (λ (b : Bool). if b then c else s.state d) (nat_eq_itself d)

  pub kept_state : (k : ℕ) (way : Direction) (held : Option ℕ) (s : Tokens) → (with_token r (PartEnd d k) way held s).state d ≡ s.state d
  kept_state k way held s = token_state r (PartEnd d k) way held s d

  -- a firing of another part
  puts_gate : (i : ℕ) → (i ≡ d → ⊥) → (ts : List Token) (s : Tokens) (way : Direction) → gate (with_puts r i ts s) way ≡ gate s way
  puts_gate i other [] s way = refl
  puts_gate i other (x ∷ ts) s way =
      puts_gate i other ts (with_token r (end_of i x.slot) (way_of x.slot) (Some x.value) s) way
      ∙ gate_kept (end_of i x.slot) (λ e. cc e) (λ e. let same : i ≡ d = cc e in other same) (way_of x.slot) (Some x.value) s way

  pub fired_same : (i : ℕ) → (i ≡ d → ⊥) → (row : Row) (v : ℕ) (s t : Tokens) → t ≡ fired r i row v s → Same d s t
  fired_same i other row v s t leads =
      record {
        state =
            ap (λ (u : Tokens). u.state d) leads
            ∙ (fired_state r i row v s d ∙ ap (λ (b : Bool). if b then row.next v else s.state d) apart);
        gates = λ way.
            ap (λ (u : Tokens). gate u way) leads
            ∙ (puts_gate i other (row.puts v) (with_state i (row.next v) (with_token r (end_of i row.takes) (way_of row.takes) None s)) way
            ∙ gate_kept (end_of i row.takes) (λ e. cc e) (λ e. let same : i ≡ d = cc e in other same) (way_of row.takes) None s way);
      }
    where
      apart : nat_eq d i ≡ false
      apart = by_test (nat_eq d i) refl
        where
          by_test : (b : Bool) → nat_eq d i ≡ b → b ≡ false
          by_test true e = let same : d ≡ i = grind (arith, e) in absurd (other (sym same))
          by_test false e = refl

  -- what passes another port
  pub port_same : (e : End) (w : Direction) (held : Option ℕ) (s t : Tokens) → (e ≡ ResultEnd 0 → ⊥) → (e ≡ PartEnd d run → ⊥)
      → t ≡ with_token r e w held s → Same d s t
  port_same e w held s t not_result not_part leads =
      record {
        state = ap (λ (u : Tokens). u.state d) leads ∙ token_state r e w held s d;
        gates = λ way. ap (λ (u : Tokens). gate u way) leads ∙ gate_kept e not_result not_part w held s way;
      }
