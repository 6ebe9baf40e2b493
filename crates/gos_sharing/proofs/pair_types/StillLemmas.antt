-- The core of a side behind a Share is all of it that gets a token.
use Rattle.std.specs.Prelude.{◌≡◌, ℕ, ◌+◌, ◌<◌, List, [], ◌⊎◌, length, Option, Some, None, All, slice_get, Contains}
use Rattle.std.proofs.Common.{refl, sym, ◌∙◌, ap, inl, inr}
use Rattle.std.proofs.lemmas.Option.{slice_get_within, same_Some}
use Rattle.gos_types.specs.declared.shakes.Role.{Role}
use Rattle.gos_types.specs.declared.shakes.Role.TheVariants.{Serve, Ask}
use Rattle.gos_types.specs.Handshakes.{turned}
use Rattle.gos_types.specs.Types.{Type'}
use Rattle.gos_types.specs.Events.{Direction, Request, Answer}
use Rattle.gos_plan.specs.Kinds.{Contact, asks, serves, contacts_of, turned_contact}
use Rattle.gos_plan.specs.Plans.{End, ResultEnd, Plan, contact_at}
use Rattle.gos_plan.specs.Tokens.{Tokens, Element, places_of, way_put, Runs, IsIdle}
use Rattle.gos_plan.specs.TokenBits.{LiteralFits}
use Rattle.gos_plan.specs.Orderly.{Open}
use Rattle.gos_plan.specs.Joining.{place}
use Rattle.gos_plan.proofs.JointLemmas.{IsIn, fits, stands_there, contained}
use Rattle.gos_realises.specs.realises.Regular.{count, InputsKeepTurns, IsRegular}
use Rattle.gos_realises.specs.realises.Links.{IsJoined}
use Rattle.gos_realises.specs.realises.Wirings.{side}
use Rattle.gos_realises.proofs.realises.InputLemmas.{passed}
use Rattle.gos_joining.specs.webs.Webs.{joint}
use Rattle.gos_joining.proofs.webs.CutLemmas.{stands_by}
use Rattle.gos_sharing.specs.sharing.Sharing.{source_end}
use Rattle.gos_sharing.specs.behind.Behind.{IsBehind}
use Rattle.gos_sharing.proofs.behind.EndLemmas.{source_contact}
use Rattle.gos_supplies.proofs.turns.StandLemmas.{asks_own, one_server}
use Rattle.gos_supplies.proofs.turns.FollowLemmas.{Family, IsLoose}
use Rattle.gos_supplies.proofs.turns.GoesLemmas.{Goes}
use Rattle.gos_sharing.specs.cores.Core.{IsStill}
use Rattle.gos_sharing.proofs.pair_types.HalfLemmas.{Half}
use Rattle.gos_sharing.proofs.pair_types.SideLemmas.{part_down}
use Rattle.gos_sharing.proofs.pair_types.CoreLemmas.{core_of, z, touches}
use Rattle.gos_sharing.proofs.pair_types.TargetLemmas.{target}
use Rattle.gos_sharing.proofs.pair_types.SourceLemmas.{never}

-- each list of a side is followed by the plan
abbrev pub GoesAlong : ℕ → Type' → Plan → Plan → Type 0
GoesAlong n s R x =
    (k w : Tokens) (xs : List Element) → IsIdle x k → Runs x xs k w → InputsKeepTurns x [] xs
    → (G : Family) × (u : Open) × Goes (side n s R) x G u (passed x [] xs) w

asked_serves : (role : Role) → turned role ≡ Ask → role ≡ Serve
asked_serves Serve same = refl
asked_serves Ask same = absurd (cc same)

served_asks : (role : Role) → turned role ≡ Serve → role ≡ Ask
served_asks Serve same = absurd (cc same)
served_asks Ask same = refl

puts_request : (role : Role) → Request ≡ way_put role → role ≡ Ask
puts_request Serve same = absurd (cc same)
puts_request Ask same = refl

puts_answer : (role : Role) → Answer ≡ way_put role → role ≡ Serve
puts_answer Serve same = refl
puts_answer Ask same = absurd (cc same)

module _ (t s o : Type') (n m : ℕ) (half : Half t s o n m) (c : ℕ) (p R x v u : Plan) (behind : IsBehind (length p.parts) t c R p) (of_x : IsJoined (side n s R) x)
    (of_v : IsJoined (side n s p) v) (also : IsBehind (length p.parts) s c u v) (literals : All LiteralFits p.parts) (regular : IsRegular p)
    (loose : (l : ℕ) → l < count o → IsLoose (side n s R) x (place 0 (ResultEnd (m + l)))) (goes : GoesAlong n s R x)
  where
    abbrev core : Plan
    core = z t s o n m half c p R x v u behind of_x of_v also

    at_source : (l : ℕ) (d : Contact) → slice_get (contacts_of o) l ≡ Some d → contact_at x (source_end (length p.parts) (m + l)) ≡ Some (turned_contact d)
    at_source l d at_l =
        part_down s n R x of_x (length p.parts) (m + l) (turned_contact d)
        (source_contact (length p.parts) t c R p behind.frame (m + l) d (half.other l d at_l))

    module _ (k w : Tokens) (xs : List Element) (a b : End) (idle : IsIdle x k) (runs : Runs x xs k w) (turns : InputsKeepTurns x [] xs) (has : Contains x.joints (joint a b)) where
      is_in : IsIn (joint a b) x.joints
      is_in = contained x.joints (joint a b) has

      fit : (q : ℕ) × (y : ℕ) × (contact_at x a ≡ Some (asks q y)) × (contact_at x b ≡ Some (serves q y))
      fit = fits x [] x.joints (joint a b) of_x.joining.right is_in

      nothing_lies : (l : ℕ) (d : Contact) → slice_get (contacts_of o) l ≡ Some d → (source_end (length p.parts) (m + l) ≡ a) ⊎ (source_end (length p.parts) (m + l) ≡ b)
          → (way : Direction) → way ≡ way_put d.role → (f : Option ℕ) → w.in_place way a ≡ f → f ≡ None
      nothing_lies l d at_l touch way is_way None none = refl
      nothing_lies l d at_l touch way is_way (Some y) lies =
          let (G, g, so) = goes k w xs idle runs turns in
          absurd (target t s o n m half c p R behind x of_x literals regular loose G g (passed x [] xs) w so a b has l d at_l touch way is_way y lies)

      nothing_comes : (l : ℕ) (d : Contact) → slice_get (contacts_of o) l ≡ Some d → (way : Direction)
          → ((e : End) (y : Contact) → contact_at x e ≡ Some y → way ≡ way_put y.role → places_of x e ≡ Some a → e ≡ source_end (length p.parts) (m + l))
          → w.in_place way a ≡ None
      nothing_comes l d at_l way only =
          never t s o n m half c p R behind x of_x l (slice_get_within (contacts_of o) l d at_l) (slice_get_within (contacts_of t) (m + l) d (half.other l d at_l)) a way only xs k w runs
          (idle.0 way a)

      -- what asks has the name of its joint, and one end alone serves there
      asks_here : (e : End) (y : Contact) → contact_at x e ≡ Some y → Request ≡ way_put y.role → places_of x e ≡ Some a → e ≡ a
      asks_here e y there way placed = sym (asks_own x e a y of_x.joining.right there (puts_request y.role way) placed)

      serves_here : (e : End) (y : Contact) → contact_at x e ≡ Some y → Answer ≡ way_put y.role → places_of x e ≡ Some a → e ≡ b
      serves_here e y there way placed =
          one_server x e b a y (serves fit.0 fit.1) of_x.joining.right there (puts_answer y.role way) fit.3 refl placed
          (stands_there x (joint a b) b of_x.joining.right is_in (stands_by b (joint a b) (inr refl)))

      asking : (l : ℕ) (d : Contact) → slice_get (contacts_of o) l ≡ Some d → a ≡ source_end (length p.parts) (m + l) → (way : Direction) → w.in_place way a ≡ None
      asking l d at_l same Request =
          nothing_comes l d at_l Request (λ e y there way placed. asks_here e y there way placed ∙ same)
      asking l d at_l same Answer =
          let one : asks fit.0 fit.1 ≡ turned_contact d = same_Some (asks fit.0 fit.1) (turned_contact d) (sym fit.2 ∙ (ap (contact_at x) same ∙ at_source l d at_l)) in
          let role : d.role ≡ Serve = asked_serves d.role (sym (ap (λ (y : Contact). y.role) one)) in
          nothing_lies l d at_l (inl (sym same)) Answer (ap way_put (sym role)) (w.in_place Answer a) refl

      serving : (l : ℕ) (d : Contact) → slice_get (contacts_of o) l ≡ Some d → b ≡ source_end (length p.parts) (m + l) → (way : Direction) → w.in_place way a ≡ None
      serving l d at_l same Answer =
          nothing_comes l d at_l Answer (λ e y there way placed. serves_here e y there way placed ∙ same)
      serving l d at_l same Request =
          let one : serves fit.0 fit.1 ≡ turned_contact d = same_Some (serves fit.0 fit.1) (turned_contact d) (sym fit.3 ∙ (ap (contact_at x) same ∙ at_source l d at_l)) in
          let role : d.role ≡ Ask = served_asks d.role (sym (ap (λ (y : Contact). y.role) one)) in
          nothing_lies l d at_l (inr (sym same)) Request (ap way_put (sym role)) (w.in_place Request a) refl

    pub still : IsStill (core_of x) x core
    still k w xs a b way idle runs turns dead =
        elim (touches t s o n m half c p R x v u behind of_x of_v also a b dead) [
          | inl (l, d, at_l, same) ↦ asking k w xs a b idle runs turns dead.0 l d at_l same way
          | inr (l, d, at_l, same) ↦ serving k w xs a b idle runs turns dead.0 l d at_l same way
        ]
