-- A list of the whole is orderly where that of the plan is.
use Rattle.std.specs.Prelude.{◌≡◌, ℕ, Bool, true, false, List, [], ◌∷◌, Option, Some, None, slice_get, if◌then◌else◌}
use Rattle.std.proofs.Common.{refl, sym, ◌∙◌, ap, subst}
use Rattle.gos_types.specs.Events.{Direction, Request, Answer}
use Rattle.gos_plan.specs.Kinds.{Contact}
use Rattle.gos_plan.specs.Firing.{Slot, Token, Row}
use Rattle.gos_plan.specs.Plans.{End, Plan, contact_at, same_end}
use Rattle.gos_plan.specs.Tokens.{Tokens, Element, Fire, Out, In, places_of, token_at, with_token, with_state, end_of, way_of, shake_of, way_taken, way_put, firing_of, Runs}
use Rattle.gos_plan.specs.Orderly.{Open, none_open, named_by, handshake_at, with_open, after_taken, after_put, after_puts, ComesWell, AllComeWell, ComesInOrder, AllWelcome, OrderlyFrom, IsOrderly}
use Rattle.gos_plan.proofs.DecidedLemmas.{one_state}
use Rattle.gos_supplies.specs.unjoined.Beside.{Placing, placed}
use Rattle.gos_supplies.proofs.unjoined.PlacedLemmas.{IsPlaced, end_in, part_if, placed_if, in_placed, placed_in, same_placed, loose_other, contact_placed, place_placed}
use Rattle.gos_supplies.proofs.unjoined.TokenLemmas.{set, set_list, own_tokens, token_own, token_filled, taken_own, firing_own, does_own}
use Rattle.gos_supplies.proofs.unjoined.StillLemmas.{IsStill, no_token, stays_still}

-- what is open in the whole: what is in the plan, and nothing loose
abbrev pub open_if : Open → Option End → Bool
open_if o None = false
open_if o (Some e) = o e

abbrev pub whole_open : Placing → Open → Open
whole_open f o = λ e. open_if o (end_in f e)

none_in : (x : Option End) → open_if none_open x ≡ false
none_in None = refl
none_in (Some e) = refl

pub none_whole : (f : Placing) → whole_open f none_open ≡ none_open
none_whole f = λ i e. none_in (end_in f e) i

module _ (f : Placing) (r c : Plan) (is : IsPlaced f r c) where
  named_placed : (o : Option End) (e : End) → named_by (placed_if f o) (placed f e) ≡ placed f (named_by o e)
  named_placed None e = refl
  named_placed (Some d) e = refl

  name_placed : (e : End) → handshake_at r (placed f e) ≡ placed f (handshake_at c e)
  name_placed e = ap (λ (o : Option End). named_by o (placed f e)) (place_placed f r c is e) ∙ named_placed (places_of c e) e

  with_open_at : (e : End) (b : Bool) (o : Open) (d : End)
      → open_if (with_open e b o) (end_in f d) ≡ (if same_end d (placed f e) then b else open_if o (end_in f d))
  with_open_at e b o d = by_end (end_in f d) refl
    where
      by_end : (x : Option End) → end_in f d ≡ x → open_if (with_open e b o) x ≡ (if same_end d (placed f e) then b else open_if o x)
      by_end None loose = ap (λ (t : Bool). if t then b else false) (sym (loose_other f r c is d e loose))
      by_end (Some a) at =
          let same : same_end a e ≡ same_end d (placed f e) =
          sym (same_placed f r c is a e) ∙ ap (λ (x : End). same_end x (placed f e)) (placed_in f r c is d a at)
          in
          ap (λ (t : Bool). if t then b else o a) same

  with_open_whole : (e : End) (b : Bool) (o : Open) → whole_open f (with_open e b o) ≡ with_open (placed f e) b (whole_open f o)
  with_open_whole e b o = λ i d. with_open_at e b o d i

  after_taken_whole : (e : End) (way : Direction) (o : Open)
      → whole_open f (after_taken c e way o) ≡ after_taken r (placed f e) way (whole_open f o)
  after_taken_whole e Request o = refl
  after_taken_whole e Answer o =
      with_open_whole (handshake_at c e) false o ∙ ap (λ (d : End). with_open d false (whole_open f o)) (sym (name_placed e))

  after_put_whole : (e : End) (way : Direction) (o : Open)
      → whole_open f (after_put c e way o) ≡ after_put r (placed f e) way (whole_open f o)
  after_put_whole e Request o =
      with_open_whole (handshake_at c e) true o ∙ ap (λ (d : End). with_open d true (whole_open f o)) (sym (name_placed e))
  after_put_whole e Answer o = refl

  after_puts_whole : (i : ℕ) (ts : List Token) (o : Open)
      → whole_open f (after_puts c i ts o) ≡ after_puts r (f.part i) ts (whole_open f o)
  after_puts_whole i [] o = refl
  after_puts_whole i (t ∷ ts) o =
      after_puts_whole i ts (after_put c (end_of i t.slot) (way_of t.slot) o)
      ∙ ap (after_puts r (f.part i) ts) (after_put_whole (end_of i t.slot) (way_of t.slot) o)

  open_at : (e : End) (o : Open) → whole_open f o (handshake_at r (placed f e)) ≡ o (handshake_at c e)
  open_at e o = ap (whole_open f o) (name_placed e) ∙ ap (open_if o) (in_placed f r c is (handshake_at c e))

  well_whole : (e : End) (way : Direction) (o : Open) (s : Tokens)
      → ComesWell c e way o (own_tokens f s) → ComesWell r (placed f e) way (whole_open f o) s
  well_whole e Request o s well = open_at e o ∙ well
  well_whole e Answer o s well = (open_at e o ∙ well.0, λ way. token_own f r c is s e way ∙ well.1 way)

  all_well_whole : (i : ℕ) (ts : List Token) (o : Open) (s : Tokens)
      → AllComeWell c i ts o (own_tokens f s) → AllComeWell r (f.part i) ts (whole_open f o) s
  all_well_whole i [] o s well = tt
  all_well_whole i (t ∷ ts) o s well = (
    well_whole (end_of i t.slot) (way_of t.slot) o s well.0,
    subst (λ (u : Open). AllComeWell r (f.part i) ts u (with_token r (end_of (f.part i) t.slot) (way_of t.slot) (Some t.value) s))
        (after_put_whole (end_of i t.slot) (way_of t.slot) o)
        (all_well_whole i ts (after_put c (end_of i t.slot) (way_of t.slot) o) (with_token r (end_of (f.part i) t.slot) (way_of t.slot) (Some t.value) s)
        (subst (AllComeWell c i ts (after_put c (end_of i t.slot) (way_of t.slot) o))
        (sym (token_filled f r c is (end_of i t.slot) (way_of t.slot) (Some t.value) s)) well.1)),
  )

  comes_whole : (x : Element) (s : Tokens) (o u : Open)
      → ComesInOrder c x (own_tokens f s) o u → ComesInOrder r (set f x) s (whole_open f o) (whole_open f u)
  comes_whole (Fire i t) s o u comes = λ v x lies fires.
      let both = comes v x (sym (token_own f r c is s (end_of i t) (way_of t)) ∙ lies) (sym (firing_own f r c is i t s) ∙ fires) in (
        subst
            (λ (a : Open). AllComeWell r (f.part i) (x.puts v) a (with_state (f.part i) (x.next v) (with_token r (end_of (f.part i) x.takes) (way_of x.takes) None s)))
            (after_taken_whole (end_of i t) (way_of t) o)
            (all_well_whole i (x.puts v) (after_taken c (end_of i t) (way_of t) o)
            (with_state (f.part i) (x.next v) (with_token r (end_of (f.part i) x.takes) (way_of x.takes) None s))
            (subst (AllComeWell c i (x.puts v) (after_taken c (end_of i t) (way_of t) o)) (sym (taken_own f r c is i x v s)) both.0)),
        ap (whole_open f) both.1
            ∙ (after_puts_whole i (x.puts v) (after_taken c (end_of i t) (way_of t) o)
            ∙ ap (after_puts r (f.part i) (x.puts v)) (after_taken_whole (end_of i t) (way_of t) o)),
      )
  comes_whole (Out e v) s o u comes = λ k there.
      ap (whole_open f) (comes k (sym (contact_placed f r c is e) ∙ there)) ∙ after_taken_whole e (way_taken k.role) o
  comes_whole (In e v) s o u comes = λ k there.
      let both = comes k (sym (contact_placed f r c is e) ∙ there) in
      (well_whole e (way_put k.role) o s both.0, ap (whole_open f) both.1 ∙ after_put_whole e (way_put k.role) o)

  abbrev TakesAt : Tokens → ℕ → Type 0
  TakesAt s i =
      (t : Slot) (k : Contact) (v : ℕ)
      → contact_at r (end_of i t) ≡ Some k → way_taken k.role ≡ way_of t → token_at r s (end_of i t) (way_of t) ≡ Some v
      → (x : Row) × (firing_of (slice_get r.parts i) (s.state i) t ≡ Some x)

  welcome_whole : (s : Tokens) → IsStill f s → AllWelcome c (own_tokens f s) → AllWelcome r s
  welcome_whole s still all i = by_number (f.number i) refl
    where
      at_own : (j : ℕ) → TakesAt s (f.part j)
      at_own j t k v there way lies =
          let (x, fires) =
          all j t k v (sym (contact_placed f r c is (end_of j t)) ∙ there) way (sym (token_own f r c is s (end_of j t) (way_of t)) ∙ lies)
          in
          (x, firing_own f r c is j t s ∙ fires)

      by_number : (o : Option ℕ) → f.number i ≡ o → TakesAt s i
      by_number None loose = λ t k v there way lies.
          let none = no_token f r c is s (end_of i t) (way_of t) still (ap (λ (o : Option ℕ). part_if o (shake_of t)) loose) in
          let both : None ≡ Some v = sym none ∙ lies in absurd (cc both)
      by_number (Some j) at = subst (TakesAt s) (is.number_part i j at) (at_own j)

  pub orderly_whole : (xs : List Element) (o u : Open) (s t w : Tokens)
      → IsStill f s → Runs r (set_list f xs) s t → OrderlyFrom c xs o (own_tokens f s) u w
      → OrderlyFrom r (set_list f xs) (whole_open f o) s (whole_open f u) t
  orderly_whole [] o u s t w still runs order = (ap (whole_open f) order.0, runs)
  orderly_whole (x ∷ xs) o u s t w still (z, does, runs) (m, y, does_y, comes, welcome, rest) =
      let one : y ≡ own_tokens f z = one_state c x (own_tokens f s) y (own_tokens f z) does_y (does_own f r c is x s z does) in
      let still_z = stays_still f r c is x s z still does in (
        whole_open f m,
        z,
        does,
        comes_whole x s o m comes,
        welcome_whole z still_z (subst (AllWelcome c) one welcome),
        orderly_whole xs m u z t w still_z runs (subst (λ (a : Tokens). OrderlyFrom c xs m a u w) one rest),
      )

  -- from an idle state
  pub ordered_whole : (xs : List Element) (s t : Tokens)
      → IsStill f s → Runs r (set_list f xs) s t → IsOrderly c xs (own_tokens f s) → IsOrderly r (set_list f xs) s
  ordered_whole xs s t still runs (u, w, order) = (
    whole_open f u,
    t,
    subst (λ (o : Open). OrderlyFrom r (set_list f xs) o s (whole_open f u) t) (none_whole f)
        (orderly_whole xs none_open u s t w still runs order),
  )
