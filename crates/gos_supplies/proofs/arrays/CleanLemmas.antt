-- Tokens lie in the joints of a plan alone, and a part that isn't there rests.
use Rattle.std.specs.Prelude.{◌≡◌, ℕ, Bool, true, false, ◌&&◌, List, [], ◌∷◌, Option, Some, None, slice_get, nat_eq, if◌then◌else◌}
use Rattle.std.proofs.Common.{refl, sym, ◌∙◌, ap, subst, arith}
use Rattle.std.proofs.lemmas.Option.{none-some}
use Rattle.gos_types.specs.Events.{Direction}
use Rattle.gos_plan.specs.Kinds.{Part, Contact}
use Rattle.gos_plan.specs.Firing.{Rest, State, Token}
use Rattle.gos_plan.specs.Plans.{End, Plan, contact_at, same_end}
use Rattle.gos_plan.specs.Tokens.{Tokens, Element, Fire, Out, In, Passes, places_of, with_held, with_token, with_state, with_puts, with_place, same_way, end_of, way_of, way_taken, way_put, Does, IsIdle}
use Rattle.gos_plan.proofs.ElementLemmas.{firing_part}
use Rattle.gos_plan.proofs.JointLemmas.{same_is}
use Rattle.gos_joining.specs.webs.Cutting.{asks_in}
use Rattle.gos_joining.proofs.webs.CutLemmas.{asker_asks}

pub record IsClean (r : Plan) (s : Tokens) : Type 0 where
  pub places : (way : Direction) (e : End) → asks_in r.joints e ≡ false → s.in_place way e ≡ None
  pub states : (k : ℕ) → slice_get r.parts k ≡ None → (s.state k).phase ≡ Rest

pub idle_is_clean : (r : Plan) (s : Tokens) → IsIdle r s → IsClean r s
idle_is_clean r s idle = record { places = λ way e no. idle.0 way e; states = λ k no. idle.1 k }

clash : true ≡ false → ⊥
clash e = cc e

token_clean : (r : Plan) (d : End) (way : Direction) (held : Option ℕ) (s : Tokens) → IsClean r s → IsClean r (with_token r d way held s)
token_clean r d way held s clean = by_place (places_of r d) refl
  where
    by_place : (o : Option End) → places_of r d ≡ o → IsClean r (with_held way o held s)
    by_place None at = clean
    by_place (Some a) at = record { places = places; states = clean.states }
      where
        places : (w : Direction) (e : End) → asks_in r.joints e ≡ false → (with_place way a held s).in_place w e ≡ None
        places w e none = by_test (same_way w way) (same_end e a) refl
          where
            other : same_end e a ≡ true → ⊥
            other same = clash (sym (asker_asks r d a at) ∙ (ap (asks_in r.joints) (sym (same_is e a same)) ∙ none))

            by_test : (b c : Bool) → same_end e a ≡ c → (if b && c then held else s.in_place w e) ≡ None
            by_test true true same = absurd (other same)
            by_test true false same = clean.places w e none
            by_test false c same = clean.places w e none

state_clean : (r : Plan) (i : ℕ) (z : Part) (q : State) (s : Tokens) → slice_get r.parts i ≡ Some z → IsClean r s → IsClean r (with_state i q s)
state_clean r i z q s there clean = record { places = clean.places; states = states }
  where
    states : (k : ℕ) → slice_get r.parts k ≡ None → ((with_state i q s).state k).phase ≡ Rest
    states k none = by_test (nat_eq k i) refl
      where
        by_test : (b : Bool) → nat_eq k i ≡ b → (if b then q else s.state k).phase ≡ Rest
        by_test true same = let one : k ≡ i = grind (arith, same) in absurd (none-some z (sym none ∙ (ap (slice_get r.parts) one ∙ there)))
        by_test false same = clean.states k none

puts_clean : (r : Plan) (i : ℕ) (ts : List Token) (s : Tokens) → IsClean r s → IsClean r (with_puts r i ts s)
puts_clean r i [] s clean = clean
puts_clean r i (t ∷ ts) s clean =
    puts_clean r i ts (with_token r (end_of i t.slot) (way_of t.slot) (Some t.value) s) (token_clean r (end_of i t.slot) (way_of t.slot) (Some t.value) s clean)

pub stays_clean : (r : Plan) (y : Element) (s t : Tokens) → Does r y s t → IsClean r s → IsClean r t
stays_clean r (Fire i slot) s t (v, row, held, by, leads) clean =
    let (z, there) = firing_part (slice_get r.parts i) (s.state i) slot row by in
    subst (IsClean r) (sym leads)
    (puts_clean r i (row.puts v) (with_state i (row.next v) (with_token r (end_of i row.takes) (way_of row.takes) None s))
    (state_clean r i z (row.next v) (with_token r (end_of i row.takes) (way_of row.takes) None s) there (token_clean r (end_of i row.takes) (way_of row.takes) None s clean)))
stays_clean r (Out e v) s t (port, passes) clean = by_contact (contact_at r e) refl
  where
    by_contact : (o : Option Contact) → contact_at r e ≡ o → IsClean r t
    by_contact None there = absurd (subst (λ (o : Option Contact). Passes r (Out e v) o s t) there passes)
    by_contact (Some k) there =
        let here = subst (λ (o : Option Contact). Passes r (Out e v) o s t) there passes in
        subst (IsClean r) (sym here.1) (token_clean r e (way_taken k.role) None s clean)
stays_clean r (In e v) s t (port, passes) clean = by_contact (contact_at r e) refl
  where
    by_contact : (o : Option Contact) → contact_at r e ≡ o → IsClean r t
    by_contact None there = absurd (subst (λ (o : Option Contact). Passes r (In e v) o s t) there passes)
    by_contact (Some k) there =
        let here = subst (λ (o : Option Contact). Passes r (In e v) o s t) there passes in
        subst (IsClean r) (sym here.1) (token_clean r e (way_put k.role) (Some v) s clean)
