-- Loose parts stay still: no token comes to them, so none fires.
use Rattle.std.specs.Prelude.{◌≡◌, ℕ, Bool, true, false, ◌&&◌, List, [], ◌∷◌, Option, Some, None, if◌then◌else◌}
use Rattle.std.proofs.Common.{refl, sym, ◌∙◌, ap, subst}
use Rattle.gos_types.specs.Events.{Direction}
use Rattle.gos_plan.specs.Kinds.{Contact}
use Rattle.gos_plan.specs.Firing.{Rest, State, Slot, Token, Row}
use Rattle.gos_plan.specs.Plans.{End, Plan, contact_at, same_end}
use Rattle.gos_plan.specs.Tokens.{Tokens, Element, Fire, Out, In, places_of, same_way, with_state, held_at, with_held, token_at, with_token, with_puts, end_of, way_of, shake_of, way_taken, way_put, fired, Passes, Does, IsIdle}
use Rattle.gos_supplies.specs.unjoined.Beside.{Placing, placed}
use Rattle.gos_supplies.proofs.unjoined.PlacedLemmas.{IsPlaced, end_in, part_if, placed_if, placed_in, loose_other, other_number, place_placed, loose_place}
use Rattle.gos_supplies.proofs.unjoined.TokenLemmas.{set}

-- nothing lies in a loose end's place, and loose parts are at rest
pub record IsStill (f : Placing) (s : Tokens) : Type 0 where
  pub places : (way : Direction) (e : End) → end_in f e ≡ None → s.in_place way e ≡ None
  pub states : (i : ℕ) → f.number i ≡ None → (s.state i).phase ≡ Rest

pub idle_still : (f : Placing) (r : Plan) (s : Tokens) → IsIdle r s → IsStill f s
idle_still f r s idle = record { places = λ way e loose. idle.0 way e; states = λ i loose. idle.1 i }

module _ (f : Placing) (r c : Plan) (is : IsPlaced f r c) where
  -- at a loose end there is no token
  pub no_token : (s : Tokens) (e : End) (way : Direction) → IsStill f s → end_in f e ≡ None → token_at r s e way ≡ None
  no_token s e way still loose = by_place (places_of r e) refl
    where
      by_place : (o : Option End) → places_of r e ≡ o → token_at r s e way ≡ None
      by_place None h = ap (held_at s way) h
      by_place (Some a) h = ap (held_at s way) h ∙ still.places way a (loose_place f r c is e a loose h)

  held_still : (way : Direction) (o : Option End) (held : Option ℕ) (s : Tokens) → IsStill f s → IsStill f (with_held way (placed_if f o) held s)
  held_still way None held s still = still
  held_still way (Some a) held s still =
      record {
        places = λ w e loose. ap (λ (b : Bool). if b then held else s.in_place w e) (untouched w e loose) ∙ still.places w e loose;
        states = still.states;
      }
    where
      never : (b : Bool) → (b && false) ≡ false
      never true = refl
      never false = refl

      untouched : (w : Direction) (e : End) → end_in f e ≡ None → (same_way w way && same_end e (placed f a)) ≡ false
      untouched w e loose = ap (λ (b : Bool). same_way w way && b) (loose_other f r c is e a loose) ∙ never (same_way w way)

  token_still : (e : End) (way : Direction) (held : Option ℕ) (s : Tokens) → IsStill f s → IsStill f (with_token r (placed f e) way held s)
  token_still e way held s still =
      subst (λ (o : Option End). IsStill f (with_held way o held s)) (sym (place_placed f r c is e))
      (held_still way (places_of c e) held s still)

  state_still : (i : ℕ) (q : State) (s : Tokens) → IsStill f s → IsStill f (with_state (f.part i) q s)
  state_still i q s still =
      record {
        places = still.places;
        states = λ j loose. ap (λ (b : Bool). (if b then q else s.state j).phase) (other_number f r c is j i loose) ∙ still.states j loose;
      }

  puts_still : (i : ℕ) (ts : List Token) (s : Tokens) → IsStill f s → IsStill f (with_puts r (f.part i) ts s)
  puts_still i [] s still = still
  puts_still i (t ∷ ts) s still =
      puts_still i ts (with_token r (end_of (f.part i) t.slot) (way_of t.slot) (Some t.value) s)
      (token_still (end_of i t.slot) (way_of t.slot) (Some t.value) s still)

  fired_still : (i : ℕ) (x : Row) (v : ℕ) (s : Tokens) → IsStill f s → IsStill f (fired r (f.part i) x v s)
  fired_still i x v s still =
      puts_still i (x.puts v) (with_state (f.part i) (x.next v) (with_token r (end_of (f.part i) x.takes) (way_of x.takes) None s))
      (state_still i (x.next v) (with_token r (end_of (f.part i) x.takes) (way_of x.takes) None s)
      (token_still (end_of i x.takes) (way_of x.takes) None s still))

  out_still : (e : End) (v : ℕ) (o : Option Contact) (s t : Tokens) → IsStill f s → Passes r (Out (placed f e) v) o s t → IsStill f t
  out_still e v None s t still h = absurd h
  out_still e v (Some k) s t still (held, is_t) = subst (IsStill f) (sym is_t) (token_still e (way_taken k.role) None s still)

  in_still : (e : End) (v : ℕ) (o : Option Contact) (s t : Tokens) → IsStill f s → Passes r (In (placed f e) v) o s t → IsStill f t
  in_still e v None s t still h = absurd h
  in_still e v (Some k) s t still (fits, is_t) = subst (IsStill f) (sym is_t) (token_still e (way_put k.role) (Some v) s still)

  -- they stay so
  pub stays_still : (x : Element) (s t : Tokens) → IsStill f s → Does r (set f x) s t → IsStill f t
  stays_still (Fire i slot) s t still (v, x, held, by, is_t) = subst (IsStill f) (sym is_t) (fired_still i x v s still)
  stays_still (Out e v) s t still (port, passes) = out_still e v (contact_at r (placed f e)) s t still passes
  stays_still (In e v) s t still (port, passes) = in_still e v (contact_at r (placed f e)) s t still passes

  -- what fires is the plan's
  abbrev Own : Element → Type 0
  Own x = (y : Element) × (x ≡ set f y)

  pub fire_own : (i : ℕ) (slot : Slot) (s t : Tokens) → IsStill f s → Does r (Fire i slot) s t → Own (Fire i slot)
  fire_own i slot s t still (v, x, held, by, is_t) = by_number (f.number i) refl
    where
      by_number : (o : Option ℕ) → f.number i ≡ o → Own (Fire i slot)
      by_number None loose =
          let none = no_token s (end_of i slot) (way_of slot) still (ap (λ (o : Option ℕ). part_if o (shake_of slot)) loose) in
          let both : None ≡ Some v = sym none ∙ held in absurd (cc both)
      by_number (Some j) at = (Fire j slot, ap (λ (k : ℕ). Fire k slot) (sym (is.number_part i j at)))

  -- and so is what comes out
  pub out_own : (e : End) (v : ℕ) (s t : Tokens) → IsStill f s → Does r (Out e v) s t → Own (Out e v)
  out_own e v s t still (port, passes) = by_end (end_in f e) refl
    where
      no_pass : (o : Option Contact) → end_in f e ≡ None → Passes r (Out e v) o s t → ⊥
      no_pass None loose h = h
      no_pass (Some k) loose (held, is_t) =
          let none = no_token s e (way_taken k.role) still loose in let both : None ≡ Some v = sym none ∙ held in cc both

      by_end : (o : Option End) → end_in f e ≡ o → Own (Out e v)
      by_end None loose = absurd (no_pass (contact_at r e) loose passes)
      by_end (Some d) at = (Out d v, ap (λ (x : End). Out x v) (sym (placed_in f r c is e d at)))
