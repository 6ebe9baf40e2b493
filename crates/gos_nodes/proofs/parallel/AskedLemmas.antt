-- What a region that hangs on an end opens and closes in the whole where its result is asked and answers, and that its parts are ready
-- there where they are ready in the region.
use Rattle.std.specs.Prelude.{◌≡◌, ℕ, Bool, true, false, List, ◌∷◌, Option, Some, None, slice_get, if◌then◌else◌}
use Rattle.std.proofs.Common.{refl, sym, ap, subst, inl, ◌∙◌}
use Rattle.std.proofs.lemmas.Option.{none-some}
use Rattle.gos_types.specs.Events.{Direction, Request, Answer}
use Rattle.gos_plan.specs.Kinds.{Part, Contact, asks}
use Rattle.gos_plan.specs.Firing.{State, Slot, Row}
use Rattle.gos_plan.specs.Plans.{End, PartEnd, ResultEnd, Plan, contacts_of_part, same_end}
use Rattle.gos_plan.specs.Tokens.{Tokens, Element, Out, In, held_at, token_at, with_token, with_state, end_of, shake_of, way_of, way_taken, firing_of, Does}
use Rattle.gos_plan.specs.Orderly.{Open, named_by, handshake_at, with_open, after_taken, after_put, ComesWell, ComesInOrder, AllWelcome, OrderlyFrom}
use Rattle.gos_plan.proofs.JointLemmas.{same_itself, apart_is_not_same}
use Rattle.gos_plan.proofs.DecidedLemmas.{one_state}
use Rattle.gos_joining.specs.webs.Cutting.{Cut, cut_tokens}
use Rattle.gos_realises.specs.realises.Regular.{Pass, is_open}
use Rattle.gos_realises.proofs.realises.RingLemmas.{after}
use Rattle.gos_nodes.specs.parallel.Parallel.{IsPartOf}
use Rattle.gos_nodes.proofs.parallel.HungLemmas.{IsHung, Local, fires, puts_out, takes_in, result_held, held_token}
use Rattle.gos_nodes.proofs.parallel.GateLemmas.{gate, IsRun, part_gate, gate_apart}
use Rattle.gos_nodes.proofs.parallel.OpenLemmas.{AgreeBy, opened_so, put_agrees, taken_agrees, firing_same}

-- what is open at an end after it was opened or closed, and at another end
pub with_itself : (e : End) (b : Bool) (o : Open) → with_open e b o e ≡ b
with_itself e b o = ap (λ (t : Bool). if t then b else o e) (same_itself e)

pub with_other : (e n : End) (b : Bool) (o : Open) → (n ≡ e → ⊥) → with_open e b o n ≡ o n
with_other e n b o other = opened_so (same_end n e) b (o n) (apart_is_not_same n e other)

-- the first element of a region's list
pub peel : (a : Plan) (y : Element) (ys : List Element) (own u : Open) (b w t : Tokens) → Does a y b w → OrderlyFrom a (y ∷ ys) own b u t
    → (next : Open) × ComesInOrder a y b own next × AllWelcome a w × OrderlyFrom a ys next w u t
peel a y ys own u b w t does (next, v, also, comes, welcome, rest) =
    let same : v ≡ w = one_state a y b v w also does in
    (next, comes, subst (AllWelcome a) same welcome, subst (λ (z : Tokens). OrderlyFrom a ys next z u t) same rest)

-- what passes in a region leaves the result of the whole as it was
pub local_past : (f : Cut) (r p : Plan) (past : List Pass) (x y : Element) → Local f r p x y → is_open past (ResultEnd 0) ≡ is_open (after r x past) (ResultEnd 0)
local_past f r p past x y (fires i j k number) = refl
local_past f r p past x y (puts_out i j k v stands leads slices) = refl
local_past f r p past x y (takes_in i j k v stands leads slices) = refl

pub contact_part : (o : Option Part) (h : ℕ) (c : Contact) → slice_get (contacts_of_part o) h ≡ Some c → (k : Part) × (o ≡ Some k)
contact_part None h c e = absurd (none-some c e)
contact_part (Some k) h c e = (k, refl)

module _ {Counted : End → Type 0} {d h w : ℕ} {f : Cut} {r p : Plan} (hung : IsHung Counted d h w f r p) where
  -- the result, as the region has it
  pub asked_next : (s : Tokens) (own next : Open) → ComesInOrder p (In (ResultEnd 0) 0) s own next → next ≡ after_put p (ResultEnd 0) Request own
  asked_next s own next comes = (comes (asks 0 w) hung.there).1

  pub told_next : (v : ℕ) (s : Tokens) (own next : Open) → ComesInOrder p (Out (ResultEnd 0) v) s own next → next ≡ after_taken p (ResultEnd 0) Answer own
  told_next v s own next comes = comes (asks 0 w) hung.there

  -- and as the whole has it
  pub asked_agrees : handshake_at r (PartEnd d h) ≡ PartEnd d h → (o own : Open) → AgreeBy Counted f p o own
      → AgreeBy Counted f p (with_open (PartEnd d h) true o) (after_put p (ResultEnd 0) Request own)
  asked_agrees name o own agree =
      subst (λ (x : Open). AgreeBy Counted f p x (after_put p (ResultEnd 0) Request own))
      (ap (λ (e : End). after_put r e Request o) hung.result ∙ ap (λ (n : End). with_open n true o) name)
      (put_agrees hung (ResultEnd 0) Request o own (result_held hung) agree)

  pub told_agrees : handshake_at r (PartEnd d h) ≡ PartEnd d h → (o own : Open) → AgreeBy Counted f p o own
      → AgreeBy Counted f p (with_open (PartEnd d h) false o) (after_taken p (ResultEnd 0) Answer own)
  told_agrees name o own agree =
      subst (λ (x : Open). AgreeBy Counted f p x (after_taken p (ResultEnd 0) Answer own))
      (ap (λ (e : End). after_taken r e Answer o) hung.result ∙ ap (λ (n : End). with_open n false o) name)
      (taken_agrees hung (ResultEnd 0) Answer o own (result_held hung) agree)

  -- a part of the region finds a row in the whole where it does in the region
  pub welcome_inside : (s : Tokens) → AllWelcome p (cut_tokens f p s) → (i : ℕ) → IsPartOf f i → (t : Slot) (x : Contact) (v : ℕ)
      → slice_get (contacts_of_part (slice_get r.parts i)) (shake_of t) ≡ Some x → way_taken x.role ≡ way_of t
      → token_at r s (end_of i t) (way_of t) ≡ Some v → (row : Row) × (firing_of (slice_get r.parts i) (s.state i) t ≡ Some row)
  welcome_inside s welcome i (j, number) t x v there way lies =
      let (at, (k, part)) = hung.cut.numbers i j number in
      let whole = (hung.cut.parts j k part).0 in
      let same_part : slice_get p.parts j ≡ slice_get r.parts i = part ∙ (sym whole ∙ ap (λ n. slice_get r.parts n) at) in
      let (row, by) = welcome j t x v (ap (λ o. slice_get (contacts_of_part o) (shake_of t)) same_part ∙ there) way
      (held_token hung (end_of j t) (inl (k, part)) s (way_of t) ∙ (ap (λ n. token_at r s (PartEnd n (shake_of t)) (way_of t)) at ∙ lies)) in
      (row, ap (λ n. firing_of (slice_get r.parts n) (s.state n) t) (sym at) ∙ (sym (firing_same hung j k part t s) ∙ by))

module _ {r : Plan} {d run : ℕ} (is : IsRun r d run) where
  -- the answer of the part is put well where the result is open and nothing lies on its joint
  pub last_well : (h : ℕ) (s : Tokens) (q : State) (o : Open) → (h ≡ run → ⊥) → handshake_at r (PartEnd d h) ≡ PartEnd d h → o (ResultEnd 0) ≡ true
      → gate s Request ≡ None → gate s Answer ≡ None
      → ComesWell r (PartEnd d run) Answer (after_taken r (PartEnd d h) Answer o) (with_state d q (with_token r (PartEnd d h) Answer None s))
  last_well h s q o other name up none empty = (
    (λ i. with_open (name i) false o (run_name i)) ∙ up,
    λ way.
        ap (held_at (with_state d q (with_token r (PartEnd d h) Answer None s)) way) (part_gate is)
        ∙ (gate_apart is h other Answer None s way ∙ nothing way),
  )
    where
      run_name : handshake_at r (PartEnd d run) ≡ ResultEnd 0
      run_name = ap (λ o. named_by o (PartEnd d run)) (part_gate is)

      nothing : (way : Direction) → gate s way ≡ None
      nothing Request = none
      nothing Answer = empty
