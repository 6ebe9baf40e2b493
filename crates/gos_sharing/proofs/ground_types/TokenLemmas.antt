-- Token states with one token, or none, and the firings between them.
use Rattle.std.specs.Prelude.{◌≡◌, ◌&&◌, ℕ, Bool, true, false, Option, Some, None, slice_get, nat_eq, if◌then◌else◌}
use Rattle.std.proofs.Common.{refl, sym, ◌∙◌, ap, subst, arith}
use Rattle.std.proofs.lemmas.Option.{none-some}
use Rattle.gos_types.specs.Events.{Direction, Request}
use Rattle.gos_plan.specs.Kinds.{Part, Contact, asks}
use Rattle.gos_plan.specs.Firing.{Rest, State, Slot, Token, Row, at, row, firing}
use Rattle.gos_plan.specs.Plans.{End, ResultEnd, Plan, contact_at, same_end}
use Rattle.gos_plan.specs.Tokens.{Tokens, Element, Fire, Out, In, places_of, same_way, with_place, with_state, held_at, with_held, with_token, end_of, way_of, way_taken, firing_of, fired, Passes, Does, IsIdle, IsQuiet}
use Rattle.gos_plan.proofs.JointLemmas.{same_itself}
use Rattle.gos_plan.proofs.TokenBitsLemmas.{same_way_itself}
use Rattle.gos_plan.proofs.TurnLemmas.{token_state}

-- nothing anywhere, and every part at rest
abbrev pub resting : Tokens
resting = record { in_place = λ w e. None; state = λ i. at Rest 0 }

pub resting_idle : (p : Plan) → IsIdle p resting
resting_idle p = (λ w e. refl, λ i. refl)

-- nothing lies anywhere, or one token alone
abbrev pub Empty : Tokens → Type 0
Empty s = (w : Direction) (e : End) → s.in_place w e ≡ None

abbrev pub Only : Direction → End → ℕ → Tokens → Type 0
Only way a v s = (w : Direction) (e : End) → s.in_place w e ≡ (if same_way w way && same_end e a then Some v else None)

it_lies : (way : Direction) (a : End) (v : ℕ) (s : Tokens) → Only way a v s → s.in_place way a ≡ Some v
it_lies way a v s only =
    let one = same_way_itself way in
    let two = same_itself a in
    only way a ∙ (λ i. if one i && two i then Some v else None)

filled : (way : Direction) (a : End) (v : ℕ) (s : Tokens) → Empty s → Only way a v (with_place way a (Some v) s)
filled way a v s empty w e = ap (λ (x : Option ℕ). if same_way w way && same_end e a then Some v else x) (empty w e)

emptied : (way : Direction) (a : End) (v : ℕ) (s : Tokens) → Only way a v s → Empty (with_place way a None s)
emptied way a v s only w e = by_test (same_way w way && same_end e a) (only w e)
  where
    by_test : (b : Bool) → s.in_place w e ≡ (if b then Some v else None) → (if b then None else s.in_place w e) ≡ None
    by_test true h = refl
    by_test false h = h

pub put_there : (p : Plan) (e : End) (way : Direction) (a : End) (v : ℕ) (s : Tokens) → places_of p e ≡ Some a → Empty s
    → Only way a v (with_token p e way (Some v) s)
put_there p e way a v s place empty =
    subst (λ (o : Option End). Only way a v (with_held way o (Some v) s)) (sym place) (filled way a v s empty)

pub take_there : (p : Plan) (e : End) (way : Direction) (a : End) (v : ℕ) (s : Tokens) → places_of p e ≡ Some a → Only way a v s
    → Empty (with_token p e way None s)
take_there p e way a v s place only =
    subst (λ (o : Option End). Empty (with_held way o None s)) (sym place) (emptied way a v s only)

-- what is put where no joint is, is lost
pub put_lost : (p : Plan) (e : End) (way : Direction) (v : ℕ) (s : Tokens) → places_of p e ≡ None → Empty s → Empty (with_token p e way (Some v) s)
put_lost p e way v s place empty =
    subst (λ (o : Option End). Empty (with_held way o (Some v) s)) (sym place) empty

-- where nothing lies nothing happens
pub empty_quiet : (p : Plan) (s : Tokens) → Empty s → IsQuiet p s
empty_quiet p s empty = (
  λ i t s' does. none-some does.0 (sym (held_none (places_of p (end_of i t)) (way_of t)) ∙ does.2),
  λ e v s' does. passes_none e v s' (contact_at p e) does.1,
)
  where
    held_none : (o : Option End) (w : Direction) → held_at s w o ≡ None
    held_none None w = refl
    held_none (Some e) w = empty w e

    passes_none : (e : End) (v : ℕ) (s' : Tokens) (o : Option Contact) → Passes p (Out e v) o s s' → ⊥
    passes_none e v s' None h = h
    passes_none e v s' (Some c) h = none-some v (sym (held_none (places_of p e) (way_taken c.role)) ∙ h.0)

-- a request at the result
abbrev pub request : Element
request = In (ResultEnd 0) 0

pub comes : (p : Plan) (b : ℕ) (s : Tokens) → contact_at p (ResultEnd 0) ≡ Some (asks 0 b) → Does p request s (with_token p (ResultEnd 0) Request (Some 0) s)
comes p b s there =
    (tt, subst (λ (o : Option Contact). Passes p request o s (with_token p (ResultEnd 0) Request (Some 0) s)) (sym there) (omega arith, refl))

-- a part fires on the one token
module _ (p : Plan) (i : ℕ) (k : Part) (part : slice_get p.parts i ≡ Some k) where
  pub fires : (t : Slot) (q : State) (x : Row) (a : End) (v : ℕ) (s : Tokens)
      → s.state i ≡ q → firing k q t ≡ Some x → places_of p (end_of i t) ≡ Some a → Only (way_of t) a v s → Does p (Fire i t) s (fired p i x v s)
  fires t q x a v s state by place only = (
    v,
    x,
    ap (held_at s (way_of t)) place ∙ it_lies (way_of t) a v s only,
    ap (λ (o : Option Part). firing_of o (s.state i) t) part ∙ (ap (λ (z : State). firing k z t) state ∙ by),
    refl,
  )

  -- by a row that puts one token
  pub puts_one : (t : Slot) (q : State) (f : ℕ → Token) (a b : End) (v : ℕ) (s : Tokens)
      → places_of p (end_of i t) ≡ Some a → Only (way_of t) a v s → places_of p (end_of i (f v).slot) ≡ Some b
      → Only (way_of (f v).slot) b (f v).value (fired p i (row t q f) v s)
  puts_one t q f a b v s place only other =
      put_there p (end_of i (f v).slot) (way_of (f v).slot) b (f v).value (with_state i q (with_token p (end_of i t) (way_of t) None s)) other
      (take_there p (end_of i t) (way_of t) a v s place only)

  pub loses_one : (t : Slot) (q : State) (f : ℕ → Token) (a : End) (v : ℕ) (s : Tokens)
      → places_of p (end_of i t) ≡ Some a → Only (way_of t) a v s → places_of p (end_of i (f v).slot) ≡ None
      → Empty (fired p i (row t q f) v s)
  loses_one t q f a v s place only none =
      put_lost p (end_of i (f v).slot) (way_of (f v).slot) (f v).value (with_state i q (with_token p (end_of i t) (way_of t) None s)) none
      (take_there p (end_of i t) (way_of t) a v s place only)

  pub state_after : (t : Slot) (q : State) (f : ℕ → Token) (v : ℕ) (s : Tokens) (j : ℕ)
      → (fired p i (row t q f) v s).state j ≡ (if nat_eq j i then q else s.state j)
  state_after t q f v s j =
      token_state p (end_of i (f v).slot) (way_of (f v).slot) (Some (f v).value) (with_state i q (with_token p (end_of i t) (way_of t) None s)) j
      ∙ ap (λ (z : State). if nat_eq j i then q else z) (token_state p (end_of i t) (way_of t) None s j)
