-- The joints of a plan are right one after another, and the seats of a new plan are those of its ends.
use Rattle.std.specs.Prelude.{Option, None, MatchOption, not}
use Rattle.std.proofs.Common.{◌≡◌, ℕ, zero, suc, true, List, [], ◌∷◌, ◌++◌, Some, slice_get, get_or, length, ◌+◌, ◌<◌, ◌≤◌, refl, sym, ap, ◌∙◌, subst, map, take, reverse}
use Rattle.std.proofs.lemmas.List.{append_assoc, append-nil, map-append, reverse-append, take-map, take_more, take_all}
use Rattle.std.proofs.lemmas.Option.{get_or_from_slice_get}
use Rattle.gos_plan.specs.Faults.{IsFirstWrong}
use Rattle.gos_types.specs.Types.{type_of}
use Rattle.gos_plan.specs.declared.kinds.Kind.{Kind}
use Rattle.gos_plan.specs.declared.plan.Joint as declared
use Rattle.gos_plan.specs.declared.plan.PlanImport.{PlanImport}
use Rattle.gos_plan.specs.declared.seats.Seat.{Seat}
use Rattle.gos_plan.specs.declared.seats.Seats.{Seats}
use Rattle.gos_plan.specs.Kinds.{Contact, contacts_of, other_side, part_contacts}
use Rattle.gos_plan.specs.Plans.{PartEnd, ImportEnd, ResultEnd, Joint, Plan, contact_at, contacts_of_part, contacts_of_import, IsRightAfter, AreRight, IsRight}
use Rattle.gos_plan.specs.Seen.{SeenPlan, plan_of, part_of, import_of, joint_of}
use Rattle.gos_plan.specs.inner.Seats.{free_seat, contact_of, seat_in, seat_at, Stands, kind_seats, import_seats, AreSeats}
use Rattle.gos_plan.proofs.ContactLemmas.{other_side_at}

-- one joint more
pub right_more : (p : Plan) (before js : List Joint) (j : Joint) → AreRight p before js → IsRightAfter p (reverse js ++ before) j → AreRight p before (js ++ j ∷ [])
right_more p before [] j r a = (a, tt)
right_more p before (x ∷ xs) j r a =
    let turned : reverse (x ∷ xs) ++ before ≡ reverse xs ++ x ∷ before =
    ap (λ (b : List Joint). b ++ before) (reverse-append (x ∷ []) xs) ∙ append_assoc (reverse xs) (x ∷ []) before in
    (r.0, right_more p (x ∷ before) xs j r.1 (subst (λ (b : List Joint). IsRightAfter p b j) turned a))

-- a free seat of a handshake that there is
abbrev free_if : Option Contact → Option Seat
free_if None = None
free_if (Some c) = Some (free_seat c)

-- the seat of a free handshake
free_there : (c : Option Contact) (o : Option Seat) → o ≡ free_if c
    → MatchOption o (c ≡ None) (λ seat. (c ≡ Some (contact_of seat)) × (seat.taken ≡ not true))
free_there None o e = rw e refl
free_there (Some c) o e = rw e (refl, refl)

seat_of_list : (cs : List Contact) (h : ℕ) → slice_get (map free_seat cs) h ≡ free_if (slice_get cs h)
seat_of_list [] h = refl
seat_of_list (c ∷ cs) zero = refl
seat_of_list (c ∷ cs) (suc h) = seat_of_list cs h

seat_of_kinds : (kinds : List Kind) (i h : ℕ) → seat_in (slice_get (map kind_seats kinds) i) h ≡ free_if (slice_get (contacts_of_part (slice_get (map part_of kinds) i)) h)
seat_of_kinds [] i h = refl
seat_of_kinds (k ∷ ks) zero h = seat_of_list (part_contacts (part_of k)) h
seat_of_kinds (k ∷ ks) (suc i) h = seat_of_kinds ks i h

seat_of_imports : (is : List PlanImport) (i h : ℕ) → seat_in (slice_get (map import_seats is) i) h ≡ free_if (slice_get (contacts_of_import (slice_get (map import_of is) i)) h)
seat_of_imports [] i h = refl
seat_of_imports (x ∷ xs) zero h = seat_of_list (contacts_of (type_of x.ty)) h
seat_of_imports (x ∷ xs) (suc i) h = seat_of_imports xs i h

-- the seats of a plan without joints so far
pub stands_at_first : (p : SeenPlan) (seats : Seats) → AreSeats p.imports p.outcome p.parts seats → Stands (plan_of p) [] seats
stands_at_first p seats a (PartEnd i h) =
    free_there (contact_at (plan_of p) (PartEnd i h)) (seat_at seats (PartEnd i h))
    (ap (λ (lists : List (List Seat)). seat_in (slice_get lists i) h) a.of_parts ∙ seat_of_kinds p.parts i h)
stands_at_first p seats a (ImportEnd i h) =
    free_there (contact_at (plan_of p) (ImportEnd i h)) (seat_at seats (ImportEnd i h))
    (ap (λ (lists : List (List Seat)). seat_in (slice_get lists i) h) a.of_imports ∙ seat_of_imports p.imports i h)
stands_at_first p seats a (ResultEnd h) =
    free_there (contact_at (plan_of p) (ResultEnd h)) (seat_at seats (ResultEnd h))
    (ap (λ (list : List Seat). slice_get list h) a.of_result ∙ (seat_of_list (other_side (contacts_of (type_of p.outcome))) h ∙ ap free_if (other_side_at (contacts_of (type_of p.outcome)) h)))

-- the joints up to one of them, and with it
pub joints_more : (p : SeenPlan) (i : ℕ) (j : declared.Joint) → i < length p.joints → slice_get p.joints i ≡ Some j
    → map joint_of (take (i + 1) p.joints) ≡ map joint_of (take i p.joints) ++ joint_of j ∷ []
joints_more p i j within e =
    ap (map joint_of) (take_more p.joints i j within)
    ∙ (map-append joint_of (take i p.joints) (get_or p.joints i j ∷ [])
    ∙ ap (λ (k : declared.Joint). map joint_of (take i p.joints) ++ joint_of k ∷ []) (get_or_from_slice_get p.joints i j j e))

-- what a loop over the joints keeps
pub record Judged (p : SeenPlan) (i : ℕ) (seats : Seats) : Type 0 where
  pub stands : Stands (plan_of p) (reverse (map joint_of (take i p.joints))) seats
  pub right : AreRight (plan_of p) [] (map joint_of (take i p.joints))

pub judged_more : (p : SeenPlan) (i : ℕ) (j : declared.Joint) (before after : Seats) → i < length p.joints → slice_get p.joints i ≡ Some j → Judged p i before
    → IsRightAfter (plan_of p) (reverse (map joint_of (take i p.joints))) (joint_of j)
    → Stands (plan_of p) (joint_of j ∷ reverse (map joint_of (take i p.joints))) after → Judged p (i + 1) after
judged_more p i j before after within e judged fits stands =
    let js : List Joint = map joint_of (take i p.joints) in
    let more : map joint_of (take (i + 1) p.joints) ≡ js ++ joint_of j ∷ [] = joints_more p i j within e in
    let turned : reverse (js ++ joint_of j ∷ []) ≡ joint_of j ∷ reverse js = reverse-append js (joint_of j ∷ []) in
    record {
      stands = subst (λ (b : List Joint). Stands (plan_of p) b after) (sym (ap reverse more ∙ turned)) stands;
      right =
          subst (λ (b : List Joint). AreRight (plan_of p) [] b) (sym more)
          (right_more (plan_of p) [] js (joint_of j) judged.right (subst (λ (b : List Joint). IsRightAfter (plan_of p) b (joint_of j)) (sym (append-nil (reverse js))) fits));
    }

-- all joints were judged
pub judged_all : (p : SeenPlan) (i : ℕ) (seats : Seats) → length p.joints ≤ i → Judged p i seats → IsRight (plan_of p)
judged_all p i seats over judged = subst (λ (js : List declared.Joint). AreRight (plan_of p) [] (map joint_of js)) (take_all i p.joints over) judged.right

-- the joint at which the judging stops is the first that is not right
pub first_wrong : (p : SeenPlan) (i : ℕ) (j : declared.Joint) (seats : Seats) → slice_get p.joints i ≡ Some j → Judged p i seats
    → (IsRightAfter (plan_of p) (reverse (map joint_of (take i p.joints))) (joint_of j) → ⊥) → IsFirstWrong (plan_of p) i
first_wrong p i j seats e judged wrong =
    let same : take i (map joint_of p.joints) ≡ map joint_of (take i p.joints) = take-map joint_of i p.joints in
    record {
      joint = joint_of j;
      stands = slice_get_map p.joints i j e;
      before = subst (λ (js : List Joint). AreRight (plan_of p) [] js) (sym same) judged.right;
      wrong = λ fits. wrong (subst (λ (js : List Joint). IsRightAfter (plan_of p) (reverse js) (joint_of j)) same fits);
    }
  where
    slice_get_map : (js : List declared.Joint) (i : ℕ) (j : declared.Joint) → slice_get js i ≡ Some j → slice_get (map joint_of js) i ≡ Some (joint_of j)
    slice_get_map [] i j e = absurd (cc e)
    slice_get_map (k ∷ ks) zero j e = let is : k ≡ j = cc e in ap (λ (x : declared.Joint). Some (joint_of x)) is
    slice_get_map (k ∷ ks) (suc i) j e = slice_get_map ks i j e
