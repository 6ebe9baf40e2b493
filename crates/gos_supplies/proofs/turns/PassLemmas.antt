-- Turns pass through a wiring in which each link joins an import, or the argument of a function, to the result of a plan that
-- stands for it.
use Rattle.std.specs.Prelude.{ℕ, ◌+◌, ◌<◌, Bool, true, false, List, Option, Some, None, slice_get, nat_eq, if◌then◌else◌, option_map}
use Rattle.std.proofs.Common.{◌≡◌, ◌∷◌, ◌⊎◌, inl, inr, refl, sym, ◌∙◌, ap, subst, arith}
use Rattle.std.proofs.lemmas.Option.{slice_get-map, slice_get_within}
use Rattle.gos_types.specs.Types.{Type', Fun}
use Rattle.gos_types.specs.Handshakes.{turned}
use Rattle.gos_types.specs.Events.{Direction}
use Rattle.gos_types.proofs.ListLemmas.{element_at}
use Rattle.gos_model.specs.Typing.{Imported}
use Rattle.gos_plan.specs.Kinds.{Contact, contacts_of, turned_contact}
use Rattle.gos_plan.specs.Plans.{End, PartEnd, ImportEnd, ResultEnd, Plan, contact_at, contacts_of_import, turned_if}
use Rattle.gos_plan.specs.Tokens.{IsPortEnd, way_taken, way_put}
use Rattle.gos_plan.specs.Joining.{Place, place, Wiring, Linked, LeftImport, all_left, left_place, origin, IsJoining}
use Rattle.gos_realises.specs.realises.Regular.{Pass, pass, is_open, is_request, count, some_open, KeepsTurnsOf}
use Rattle.gos_realises.specs.realises.Links.{contact_of, LinksFit}
use Rattle.gos_realises.proofs.realises.GroundTurnLemmas.{some_there, there_some, count_fun}
use Rattle.gos_plan.proofs.DecidedLemmas.{Told}
use Rattle.gos_realises.proofs.joined.ReachLemmas.{told_number, told_end}
use Rattle.gos_realises.proofs.joined.OriginLemmas.{left_at}
use Rattle.gos_plan.proofs.JointLemmas.{same_itself, apart_is_not_same}
use Rattle.gos_plan.proofs.ContactLemmas.{turned_contact_twice, turned_put, turned_taken}
use Rattle.gos_plan.proofs.WiringLemmas.{linked_back, place_is}
use Rattle.gos_supplies.proofs.turns.TrailLemmas.{LinksArePorts, contact_place, link_contacts}
use Rattle.gos_supplies.proofs.turns.FollowLemmas.{is_free, is_alone}
use Rattle.gos_supplies.proofs.turns.GoesLemmas.{IsTurned, AllTurned, AllAgree, PortsAgree, LooseShut, PassesTurns}
use Rattle.gos_joining.proofs.renumbered.TurnLemmas.{Agree, some_agree, turns_agree}
use Rattle.gos_supplies.proofs.turns.TypeLemmas.{Changed, told_same}
use Rattle.gos_supplies.proofs.turns.TurnedLemmas.{imp, res, to_each, from_each, import_changed, result_changed, in_import, in_result, in_argument}

-- plan m stands for an import of plan k, or for the argument of its function
abbrev pub StandsForImport : Wiring → ℕ → Plan → ℕ → Plan → Type 0
StandsForImport w k p m q =
    (n : ℕ) × (x : Imported) × (slice_get p.imports n ≡ Some x) × (x.ty ≡ q.outcome)
    × ((g : ℕ) → g < count q.outcome → Linked w (place k (ImportEnd n g)) (place m (ResultEnd g)))

abbrev pub StandsForArgument : Wiring → ℕ → Plan → ℕ → Plan → Type 0
StandsForArgument w k p m q =
    (b : Type') × (p.outcome ≡ Fun q.outcome b) × ((g : ℕ) → g < count q.outcome → Linked w (place k (ResultEnd g)) (place m (ResultEnd g)))

-- the two ends of a link between a plan that has an import or an argument and one that stands for it
abbrev pub IsPair : Wiring → Place → Place → Type 0
IsPair w a b =
    (p : Plan) × (q : Plan) × (h : ℕ) × (slice_get w.plans a.plan ≡ Some p) × (slice_get w.plans b.plan ≡ Some q) × (b.end ≡ ResultEnd h) × (h < count q.outcome)
    × (((s : StandsForImport w a.plan p b.plan q) × (a.end ≡ ImportEnd s.0 h)) ⊎ (StandsForArgument w a.plan p b.plan q × (a.end ≡ ResultEnd h)))

-- Each link is of such a pair; each plan but the giver stands for something of the giver; and what of the giver's result is the
-- whole's keeps the giver's turns as it keeps its own.
pub record Composes (w : Wiring) (r : Plan) : Type 0 where
  pub giver : Plan
  pub is_giver : slice_get w.plans w.giver ≡ Some giver
  pub pairs : (a b : Place) → Linked w a b → IsPair w a b ⊎ IsPair w b a
  pub parent :
      (m : ℕ) (q : Plan) → slice_get w.plans m ≡ Some q
      → (m ≡ w.giver) ⊎ (StandsForImport w w.giver giver m q ⊎ StandsForArgument w w.giver giver m q)
  pub in_rest :
      (P : ℕ → List Pass) (h : ℕ) (c : Contact) (way : Direction)
      → LooseShut w r P → IsTurned giver (P w.giver) → slice_get (contacts_of w.outcome) h ≡ Some c → way_taken c.role ≡ way
      → KeepsTurnsOf w.outcome (λ g. res (pass (ResultEnd (w.skipped + h)) way ∷ P w.giver) (w.skipped + g))
      → IsTurned giver (pass (ResultEnd (w.skipped + h)) way ∷ P w.giver)
  pub out_rest : (P : List Pass) → IsTurned giver P → KeepsTurnsOf w.outcome (λ g. res P (w.skipped + g))
  pub busy_rest :
      (P : ℕ → List Pass)
      → LooseShut w r P → IsTurned giver (P w.giver) → some_open (count giver.outcome) (res (P w.giver)) ≡ true
      → some_open (count w.outcome) (λ g. res (P w.giver) (w.skipped + g)) ≡ true

unturn : (o : Option Contact) (c : Contact) → turned_if o ≡ Some (turned_contact c) → o ≡ Some c
unturn None c e = absurd (cc e)
unturn (Some d) c e =
    let same : turned_contact d ≡ turned_contact c = cc e in ap Some (sym (turned_contact_twice d) ∙ (ap turned_contact same ∙ turned_contact_twice c))

-- one more has passed a port of one plan
abbrev adding : ℕ → Pass → (ℕ → List Pass) → ℕ → List Pass
adding k x P m = if nat_eq m k then x ∷ P m else P m

adding_here : (k : ℕ) (x : Pass) (P : ℕ → List Pass) (m : ℕ) → m ≡ k → adding k x P m ≡ x ∷ P m
adding_here k x P m same = let one : nat_eq m k ≡ true = grind (arith, same) in rw one refl

adding_else : (k : ℕ) (x : Pass) (P : ℕ → List Pass) (m : ℕ) → (m ≡ k → ⊥) → adding k x P m ≡ P m
adding_else k x P m apart = by_test (nat_eq m k) refl
  where
    by_test : (b : Bool) → nat_eq m k ≡ b → (if b then x ∷ P m else P m) ≡ P m
    by_test true t = absurd (apart (grind (arith, t)))
    by_test false t = refl

shown_else : (k : ℕ) (d : End) (way : Direction) (P : ℕ → List Pass) (a : Place) → (a ≡ place k d → ⊥)
    → is_open (adding k (pass d way) P a.plan) a.end ≡ is_open (P a.plan) a.end
shown_else k d way P a apart = by_told (told_number a.plan k)
  where
    by_told : Told (a.plan ≡ k) → is_open (adding k (pass d way) P a.plan) a.end ≡ is_open (P a.plan) a.end
    by_told (inl same) =
        let other = apart_is_not_same d a.end (λ ends. apart (place_is a (place k d) same (sym ends))) in
        ap (λ (q : List Pass). is_open q a.end) (adding_here k (pass d way) P a.plan same) ∙ (λ i. if other i then is_request way else is_open (P a.plan) a.end)
    by_told (inr other) = ap (λ (q : List Pass). is_open q a.end) (adding_else k (pass d way) P a.plan other)

-- an import of the whole, in its plan
record ImportView (w : Wiring) (i : ℕ) (x : Imported) : Type 0 where
  plan : ℕ
  number : ℕ
  of : Plan
  is : slice_get w.plans plan ≡ Some of
  has : slice_get of.imports number ≡ Some x
  stands : (h : ℕ) → origin w (ImportEnd i h) ≡ place plan (ImportEnd number h)

module _ (w : Wiring) (r : Plan) (fit : LinksFit w) (ported : LinksArePorts w) (whole : IsJoining w r) (composes : Composes w r) where
  view : (i : ℕ) (x : Imported) → slice_get r.imports i ≡ Some x → ImportView w i x
  view i x at = by_left (slice_get (all_left w) i) refl
    where
      import_of : LeftImport → Imported
      import_of l = l.import

      mapped : option_map import_of (slice_get (all_left w) i) ≡ Some x
      mapped = sym (slice_get-map import_of (all_left w) i) ∙ (ap (λ (xs : List Imported). slice_get xs i) (sym whole.imports) ∙ at)

      by_left : (o : Option LeftImport) → slice_get (all_left w) i ≡ o → ImportView w i x
      by_left None none = let never : None ≡ Some x = sym (ap (option_map import_of) none) ∙ mapped in absurd (cc never)
      by_left (Some l) is =
          let there = left_at w.links 0 w.plans i l is in
          let plan = there.plan_is in
          let same : there.plan ≡ l.plan = omega (arith, plan) in
          let import : Some l.import ≡ Some x = sym (ap (option_map import_of) is) ∙ mapped in
          record {
            plan = l.plan;
            number = l.number;
            of = there.of;
            is = ap (slice_get w.plans) (sym same) ∙ there.is;
            has = there.has ∙ import;
            stands = λ h. ap (λ (o : Option LeftImport). left_place o h) is;
          }

  import_contact : (i h : ℕ) (x : Imported) (c : Contact) → slice_get r.imports i ≡ Some x → slice_get (contacts_of x.ty) h ≡ Some c → contact_at r (ImportEnd i h) ≡ Some c
  import_contact i h x c at there = ap (λ (o : Option Imported). slice_get (contacts_of_import o) h) at ∙ there

  -- what is open at an import of the whole is so in its plan, and what is open at the result is so at the giver's
  import_agree : (P : ℕ → List Pass) (past : List Pass) → PortsAgree w r P past → (i : ℕ) (x : Imported) (v : ImportView w i x) → slice_get r.imports i ≡ Some x
      → Agree (count x.ty) (imp past i) (imp (P v.plan) v.number)
  import_agree P past ports i x v at h low =
      let (c, there) = element_at (contacts_of x.ty) h low in
      ports (ImportEnd i h) c tt (import_contact i h x c at there) ∙ ap (λ (z : Place). is_open (P z.plan) z.end) (v.stands h)

  pub result_agree : (P : ℕ → List Pass) (past : List Pass) → PortsAgree w r P past → Agree (count w.outcome) (res past) (λ g. res (P w.giver) (w.skipped + g))
  result_agree P past ports h low =
      let (c, there) = element_at (contacts_of w.outcome) h low in
      ports (ResultEnd h) (turned_contact c) tt (ap (λ (t : Type'). turned_if (slice_get (contacts_of t) h)) whole.outcome ∙ ap turned_if there)

  -- where a plan's result is busy the giver's is
  pub giver_busy : (P : ℕ → List Pass) → AllAgree w P → AllTurned w P → (m : ℕ) (q : Plan) → slice_get w.plans m ≡ Some q
      → some_open (count q.outcome) (res (P m)) ≡ true → some_open (count composes.giver.outcome) (res (P w.giver)) ≡ true
  giver_busy P agree turned m q is busy = by_parent (composes.parent m q is)
    where
      by_parent : (m ≡ w.giver) ⊎ (StandsForImport w w.giver composes.giver m q ⊎ StandsForArgument w w.giver composes.giver m q)
          → some_open (count composes.giver.outcome) (res (P w.giver)) ≡ true
      by_parent (inl same) =
          let plans : q ≡ composes.giver = cc (is, composes.is_giver, same) in
          subst (λ (z : Plan). some_open (count z.outcome) (res (P w.giver)) ≡ true) plans
          (subst (λ (n : ℕ). some_open (count q.outcome) (res (P n)) ≡ true) same busy)
      by_parent (inr (inl (n, x, at, ty, links))) =
          let (g, low, up) = some_there (count q.outcome) (res (P m)) busy in
          let open_there : imp (P w.giver) n g ≡ true = agree (place w.giver (ImportEnd n g)) (place m (ResultEnd g)) (links g low) ∙ up in
          let low_x : g < count x.ty = subst (λ (t : Type'). g < count t) (sym ty) low in
          ((to_each composes.giver (P w.giver) (turned w.giver composes.giver composes.is_giver)).0 n x at).1 (there_some (count x.ty) (imp (P w.giver) n) g low_x open_there)
      by_parent (inr (inr (b, fun, links))) =
          let (g, low, up) = some_there (count q.outcome) (res (P m)) busy in
          let open_there : res (P w.giver) g ≡ true = agree (place w.giver (ResultEnd g)) (place m (ResultEnd g)) (links g low) ∙ up in
          let sum = count_fun q.outcome b in
          let low_fun : g < count (Fun q.outcome b) = omega (arith, sum, low) in
          there_some (count composes.giver.outcome) (res (P w.giver)) g (subst (λ (t : Type'). g < count t) (sym fun) low_fun) open_there

  -- turns of all plans are turns of the whole
  outer_turned : (P : ℕ → List Pass) (past : List Pass) → AllAgree w P → PortsAgree w r P past → LooseShut w r P → AllTurned w P → IsTurned r past
  outer_turned P past agree ports shut turned = from_each r past (each, result)
    where
      giver_turned : IsTurned composes.giver (P w.giver)
      giver_turned = turned w.giver composes.giver composes.is_giver

      whole_busy : some_open (count composes.giver.outcome) (res (P w.giver)) ≡ true → some_open (count r.outcome) (res past) ≡ true
      whole_busy busy =
          subst (λ (t : Type'). some_open (count t) (res past) ≡ true) (sym whole.outcome)
          (some_agree (count w.outcome) (res past) (λ g. res (P w.giver) (w.skipped + g)) (result_agree P past ports) ∙ composes.busy_rest P shut giver_turned busy)

      result : KeepsTurnsOf r.outcome (res past)
      result =
          subst (λ (t : Type'). KeepsTurnsOf t (res past)) (sym whole.outcome)
          (turns_agree w.outcome (λ g. res (P w.giver) (w.skipped + g)) (res past) (λ h low. sym (result_agree P past ports h low)) (composes.out_rest (P w.giver) giver_turned))

      each : (i : ℕ) (x : Imported) → slice_get r.imports i ≡ Some x
          → KeepsTurnsOf x.ty (imp past i) × (some_open (count x.ty) (imp past i) ≡ true → some_open (count r.outcome) (res past) ≡ true)
      each i x at =
          let v = view i x at in
          let own = (to_each v.of (P v.plan) (turned v.plan v.of v.is)).0 v.number x v.has in
          let same = import_agree P past ports i x v at in (
            turns_agree x.ty (imp (P v.plan) v.number) (imp past i) (λ h low. sym (same h low)) own.0,
            λ busy. whole_busy (giver_busy P agree turned v.plan v.of v.is (own.1 (sym (some_agree (count x.ty) (imp past i) (imp (P v.plan) v.number) same) ∙ busy))),
          )

  leaves : (P : ℕ → List Pass) (past : List Pass) → AllAgree w P → PortsAgree w r P past → LooseShut w r P → AllTurned w P → IsTurned r past
      → (e : End) (p : Plan) (c : Contact) (way : Direction) → IsPortEnd e → contact_at r e ≡ Some c → slice_get w.plans (origin w e).plan ≡ Some p
      → way_taken c.role ≡ way → IsTurned p (pass (origin w e).end way ∷ P (origin w e).plan) → IsTurned r (pass e way ∷ past)
  leaves P past agree ports shut turned outer e p c way port there is ways new = outer_turned Q (pass e way ∷ past) agree_then ports_then shut_then turned_then
    where
      Q : ℕ → List Pass
      Q = adding (origin w e).plan (pass (origin w e).end way) P

      agree_then : AllAgree w Q
      agree_then a b linked =
          shown_else (origin w e).plan (origin w e).end way P a (λ same. is_free w r fit ported whole e c there b (subst (λ (z : Place). Linked w z b) same linked))
          ∙ (agree a b linked
          ∙ sym (shown_else (origin w e).plan (origin w e).end way P b
          (λ same. is_free w r fit ported whole e c there a (subst (λ (z : Place). Linked w z a) same (linked_back w a b linked)))))

      shut_then : LooseShut w r Q
      shut_then a port_a loose =
          shown_else (origin w e).plan (origin w e).end way P a (λ same. loose.1 e c there (sym same)) ∙ shut a port_a loose

      ports_then : PortsAgree w r Q (pass e way ∷ past)
      ports_then x d port_x at_x = by_told (told_end e x)
        where
          by_told : Told (e ≡ x) → is_open (pass e way ∷ past) x ≡ is_open (Q (origin w x).plan) (origin w x).end
          by_told (inl same) =
              subst (λ (y : End). is_open (pass e way ∷ past) y ≡ is_open (Q (origin w y).plan) (origin w y).end) same
              ((let one = same_itself e in λ i. if one i then is_request way else is_open past e)
              ∙ sym (ap (λ (q : List Pass). is_open q (origin w e).end) (adding_here (origin w e).plan (pass (origin w e).end way) P (origin w e).plan refl)
              ∙ (let two = same_itself (origin w e).end in λ i. if two i then is_request way else is_open (P (origin w e).plan) (origin w e).end)))
          by_told (inr apart) =
              (let other = apart_is_not_same e x apart in λ i. if other i then is_request way else is_open past x)
              ∙ (ports x d port_x at_x
              ∙ sym (shown_else (origin w e).plan (origin w e).end way P (origin w x) (λ same. apart (is_alone w r fit ported whole e x c d there at_x (sym same)))))

      turned_then : AllTurned w Q
      turned_then m z at = by_told (told_number m (origin w e).plan)
        where
          by_told : Told (m ≡ (origin w e).plan) → IsTurned z (Q m)
          by_told (inl same) =
              let plans : z ≡ p = cc (at, is, same) in
              subst (IsTurned z) (sym (adding_here (origin w e).plan (pass (origin w e).end way) P m same))
              (subst (λ (y : Plan). IsTurned y (pass (origin w e).end way ∷ P m)) (sym plans)
              (subst (λ (n : ℕ). IsTurned p (pass (origin w e).end way ∷ P n)) (sym same) new))
          by_told (inr other) = subst (IsTurned z) (sym (adding_else (origin w e).plan (pass (origin w e).end way) P m other)) (turned m z at)

  enters : (P : ℕ → List Pass) (past : List Pass) → AllAgree w P → PortsAgree w r P past → LooseShut w r P → AllTurned w P → IsTurned r past
      → (e : End) (p : Plan) (c : Contact) (way : Direction) → IsPortEnd e → contact_at r e ≡ Some c → slice_get w.plans (origin w e).plan ≡ Some p
      → way_put c.role ≡ way → IsTurned r (pass e way ∷ past) → IsTurned p (pass (origin w e).end way ∷ P (origin w e).plan)
  enters P past agree ports shut turned outer (PartEnd i h) p c way port there is ways new = absurd port
  enters P past agree ports shut turned outer (ImportEnd i h) p c way port there is ways new = by_import (slice_get r.imports i) refl
    where
      of_import : (x : Imported) → slice_get r.imports i ≡ Some x
          → IsTurned p (pass (origin w (ImportEnd i h)).end way ∷ P (origin w (ImportEnd i h)).plan)
      of_import x at =
          subst (λ (z : Place). IsTurned p (pass z.end way ∷ P z.plan)) (sym (v.stands h))
          (in_import p (P v.plan) v.number h x c way (turned v.plan p is_v) has contact ways
          (turns_agree x.ty (imp (pass (ImportEnd i h) way ∷ past) i) (imp (pass (ImportEnd v.number h) way ∷ P v.plan) v.number) agree_then ((to_each r (pass (ImportEnd i h) way ∷ past) new).0 i x at).0))
        where
          v : ImportView w i x
          v = view i x at

          is_v : slice_get w.plans v.plan ≡ Some p
          is_v = sym (ap (λ (z : Place). slice_get w.plans z.plan) (v.stands h)) ∙ is

          has : slice_get p.imports v.number ≡ Some x
          has = let plans : v.of ≡ p = cc (v.is, is_v) in subst (λ (y : Plan). slice_get y.imports v.number ≡ Some x) plans v.has

          contact : slice_get (contacts_of x.ty) h ≡ Some c
          contact = sym (ap (λ (o : Option Imported). slice_get (contacts_of_import o) h) at) ∙ there

          agree_then : Agree (count x.ty) (imp (pass (ImportEnd i h) way ∷ past) i) (imp (pass (ImportEnd v.number h) way ∷ P v.plan) v.number)
          agree_then g low = by_told (told_same g h)
            where
              one : Changed (count x.ty) (imp past i) (imp (pass (ImportEnd i h) way ∷ past) i) h way
              one = import_changed past i h (count x.ty) way (slice_get_within (contacts_of x.ty) h c contact)

              other : Changed (count x.ty) (imp (P v.plan) v.number) (imp (pass (ImportEnd v.number h) way ∷ P v.plan) v.number) h way
              other = import_changed (P v.plan) v.number h (count x.ty) way (slice_get_within (contacts_of x.ty) h c contact)

              by_told : (g ≡ h) ⊎ (g ≡ h → ⊥) → imp (pass (ImportEnd i h) way ∷ past) i g ≡ imp (pass (ImportEnd v.number h) way ∷ P v.plan) v.number g
              by_told (inl same) =
                  subst (λ (k : ℕ). imp (pass (ImportEnd i h) way ∷ past) i k ≡ imp (pass (ImportEnd v.number h) way ∷ P v.plan) v.number k) (sym same) (one.here ∙ sym other.here)
              by_told (inr apart) = one.else_same g low apart ∙ (import_agree P past ports i x v at g low ∙ sym (other.else_same g low apart))

      by_import : (o : Option Imported) → slice_get r.imports i ≡ o → IsTurned p (pass (origin w (ImportEnd i h)).end way ∷ P (origin w (ImportEnd i h)).plan)
      by_import None none =
          let never : None ≡ Some c = sym (ap (λ (o : Option Imported). slice_get (contacts_of_import o) h) none) ∙ there in absurd (cc never)
      by_import (Some x) at = of_import x at
  enters P past agree ports shut turned outer (ResultEnd h) p c way port there is ways new =
      let plans : composes.giver ≡ p = cc (composes.is_giver, is) in
      subst (λ (y : Plan). IsTurned y (pass (ResultEnd (w.skipped + h)) way ∷ P w.giver)) plans
      (composes.in_rest P h (turned_contact c) way shut (turned w.giver composes.giver composes.is_giver) contact (turned_taken c.role ∙ ways)
      (turns_agree w.outcome (res (pass (ResultEnd h) way ∷ past)) (λ g. res (pass (ResultEnd (w.skipped + h)) way ∷ P w.giver) (w.skipped + g)) agree_then
      (subst (λ (t : Type'). KeepsTurnsOf t (res (pass (ResultEnd h) way ∷ past))) whole.outcome (to_each r (pass (ResultEnd h) way ∷ past) new).1)))
    where
      contact : slice_get (contacts_of w.outcome) h ≡ Some (turned_contact c)
      contact =
          unturn (slice_get (contacts_of w.outcome) h) (turned_contact c)
          (sym (ap (λ (t : Type'). turned_if (slice_get (contacts_of t) h)) whole.outcome) ∙ (there ∙ ap Some (sym (turned_contact_twice c))))

      agree_then : Agree (count w.outcome) (res (pass (ResultEnd h) way ∷ past)) (λ g. res (pass (ResultEnd (w.skipped + h)) way ∷ P w.giver) (w.skipped + g))
      agree_then g low = by_told (told_same g h)
        where
          low_h : h < count w.outcome
          low_h = slice_get_within (contacts_of w.outcome) h (turned_contact c) contact

          one : Changed (count w.outcome) (res past) (res (pass (ResultEnd h) way ∷ past)) h way
          one = result_changed past h (count w.outcome) way low_h

          other : Changed (w.skipped + count w.outcome) (res (P w.giver)) (res (pass (ResultEnd (w.skipped + h)) way ∷ P w.giver)) (w.skipped + h) way
          other = result_changed (P w.giver) (w.skipped + h) (w.skipped + count w.outcome) way (omega (arith, low_h))

          by_told : (g ≡ h) ⊎ (g ≡ h → ⊥) → res (pass (ResultEnd h) way ∷ past) g ≡ res (pass (ResultEnd (w.skipped + h)) way ∷ P w.giver) (w.skipped + g)
          by_told (inl same) =
              subst (λ (k : ℕ). res (pass (ResultEnd h) way ∷ past) k ≡ res (pass (ResultEnd (w.skipped + h)) way ∷ P w.giver) (w.skipped + k)) (sym same)
              (one.here ∙ sym other.here)
          by_told (inr apart) =
              one.else_same g low apart
              ∙ (result_agree P past ports g low ∙ sym (other.else_same (w.skipped + g) (omega (arith, low)) (λ same. apart (omega (arith, same)))))

  -- both ends of a link see the same
  result_there : (a b : Place) (q : Plan) (h : ℕ) (c : Contact) → Linked w a b → slice_get w.plans b.plan ≡ Some q → b.end ≡ ResultEnd h → contact_of w a ≡ Some c
      → slice_get (contacts_of q.outcome) h ≡ Some c
  result_there a b q h c linked is end at =
      let (d, one, other) = link_contacts w fit ported a b linked in
      let same : d ≡ c = cc (one, at) in
      unturn (slice_get (contacts_of q.outcome) h) c (ap (contact_at q) (sym end) ∙ (sym (contact_place w b q is) ∙ (other ∙ ap (λ (x : Contact). Some (turned_contact x)) same)))

  agree_import : (P : ℕ → List Pass) → AllAgree w P → (k m n h j : ℕ) (way : Direction) → h < j
      → ((g : ℕ) → g < j → Linked w (place k (ImportEnd n g)) (place m (ResultEnd g)))
      → Agree j (imp (pass (ImportEnd n h) way ∷ P k) n) (res (pass (ResultEnd h) way ∷ P m))
  agree_import P agree k m n h j way low links g small = by_told (told_same g h)
    where
      by_told : (g ≡ h) ⊎ (g ≡ h → ⊥) → imp (pass (ImportEnd n h) way ∷ P k) n g ≡ res (pass (ResultEnd h) way ∷ P m) g
      by_told (inl same) =
          subst (λ (x : ℕ). imp (pass (ImportEnd n h) way ∷ P k) n x ≡ res (pass (ResultEnd h) way ∷ P m) x) (sym same)
          ((import_changed (P k) n h j way low).here ∙ sym (result_changed (P m) h j way low).here)
      by_told (inr apart) =
          (import_changed (P k) n h j way low).else_same g small apart
          ∙ (agree (place k (ImportEnd n g)) (place m (ResultEnd g)) (links g small) ∙ sym ((result_changed (P m) h j way low).else_same g small apart))

  agree_argument : (P : ℕ → List Pass) → AllAgree w P → (k m h j : ℕ) (way : Direction) → h < j
      → ((g : ℕ) → g < j → Linked w (place k (ResultEnd g)) (place m (ResultEnd g)))
      → Agree j (res (pass (ResultEnd h) way ∷ P k)) (res (pass (ResultEnd h) way ∷ P m))
  agree_argument P agree k m h j way low links g small = by_told (told_same g h)
    where
      by_told : (g ≡ h) ⊎ (g ≡ h → ⊥) → res (pass (ResultEnd h) way ∷ P k) g ≡ res (pass (ResultEnd h) way ∷ P m) g
      by_told (inl same) =
          subst (λ (x : ℕ). res (pass (ResultEnd h) way ∷ P k) x ≡ res (pass (ResultEnd h) way ∷ P m) x) (sym same)
          ((result_changed (P k) h j way low).here ∙ sym (result_changed (P m) h j way low).here)
      by_told (inr apart) =
          (result_changed (P k) h j way low).else_same g small apart
          ∙ (agree (place k (ResultEnd g)) (place m (ResultEnd g)) (links g small) ∙ sym ((result_changed (P m) h j way low).else_same g small apart))

  -- from an import or an argument to the result that stands for it, and back
  to_result : (P : ℕ → List Pass) → AllAgree w P → AllTurned w P → (a b : Place) (p q : Plan) (c : Contact) (way : Direction) → IsPair w a b → Linked w a b
      → slice_get w.plans a.plan ≡ Some p → slice_get w.plans b.plan ≡ Some q → contact_of w a ≡ Some c → way_taken c.role ≡ way
      → IsTurned p (pass a.end way ∷ P a.plan) → IsTurned q (pass b.end way ∷ P b.plan)
  to_result P agree turned a b p q c way (p', q', h, is_p', is_q', end, low, stands) linked is_p is_q at ways new =
      subst (λ (e : End). IsTurned q (pass e way ∷ P b.plan)) (sym end)
      (in_result q (P b.plan) h c way (turned b.plan q is_q) (result_there a b q h c linked is_q end at) ways (by_stand stands))
    where
      plans_p : p' ≡ p
      plans_p = cc (is_p', is_p)

      plans_q : q' ≡ q
      plans_q = cc (is_q', is_q)

      low_q : h < count q.outcome
      low_q = subst (λ (z : Plan). h < count z.outcome) plans_q low

      by_stand : ((s : StandsForImport w a.plan p' b.plan q') × (a.end ≡ ImportEnd s.0 h)) ⊎ (StandsForArgument w a.plan p' b.plan q' × (a.end ≡ ResultEnd h))
          → KeepsTurnsOf q.outcome (res (pass (ResultEnd h) way ∷ P b.plan))
      by_stand (inl ((n, x, at_x, ty, links), a_end)) =
          let of_p : slice_get p.imports n ≡ Some x = subst (λ (z : Plan). slice_get z.imports n ≡ Some x) plans_p at_x in
          let types : x.ty ≡ q.outcome = ty ∙ ap (λ (z : Plan). z.outcome) plans_q in
          let fresh : IsTurned p (pass (ImportEnd n h) way ∷ P a.plan) = subst (λ (e : End). IsTurned p (pass e way ∷ P a.plan)) a_end new in
          let keeps = ((to_each p (pass (ImportEnd n h) way ∷ P a.plan) fresh).0 n x of_p).0 in
          turns_agree q.outcome (imp (pass (ImportEnd n h) way ∷ P a.plan) n) (res (pass (ResultEnd h) way ∷ P b.plan))
          (agree_import P agree a.plan b.plan n h (count q.outcome) way low_q
          (subst (λ (z : Plan). (g : ℕ) → g < count z.outcome → Linked w (place a.plan (ImportEnd n g)) (place b.plan (ResultEnd g))) plans_q links))
          (subst (λ (t : Type'). KeepsTurnsOf t (imp (pass (ImportEnd n h) way ∷ P a.plan) n)) types keeps)
      by_stand (inr ((b', fun, links), a_end)) =
          let funs : p.outcome ≡ Fun q.outcome b' = ap (λ (z : Plan). z.outcome) (sym plans_p) ∙ (fun ∙ ap (λ (z : Plan). Fun z.outcome b') plans_q) in
          let fresh : IsTurned p (pass (ResultEnd h) way ∷ P a.plan) = subst (λ (e : End). IsTurned p (pass e way ∷ P a.plan)) a_end new in
          let keeps = subst (λ (t : Type'). KeepsTurnsOf t (res (pass (ResultEnd h) way ∷ P a.plan))) funs (to_each p (pass (ResultEnd h) way ∷ P a.plan) fresh).1 in
          turns_agree q.outcome (res (pass (ResultEnd h) way ∷ P a.plan)) (res (pass (ResultEnd h) way ∷ P b.plan))
          (agree_argument P agree a.plan b.plan h (count q.outcome) way low_q
          (subst (λ (z : Plan). (g : ℕ) → g < count z.outcome → Linked w (place a.plan (ResultEnd g)) (place b.plan (ResultEnd g))) plans_q links)) keeps.0

  from_result : (P : ℕ → List Pass) → AllAgree w P → AllTurned w P → (a b : Place) (p q : Plan) (c : Contact) (way : Direction) → IsPair w a b → Linked w a b
      → slice_get w.plans a.plan ≡ Some p → slice_get w.plans b.plan ≡ Some q → contact_of w a ≡ Some c → way_put c.role ≡ way
      → IsTurned q (pass b.end way ∷ P b.plan) → IsTurned p (pass a.end way ∷ P a.plan)
  from_result P agree turned a b p q c way (p', q', h, is_p', is_q', end, low, stands) linked is_p is_q at ways new = by_stand stands
    where
      plans_p : p' ≡ p
      plans_p = cc (is_p', is_p)

      plans_q : q' ≡ q
      plans_q = cc (is_q', is_q)

      low_q : h < count q.outcome
      low_q = subst (λ (z : Plan). h < count z.outcome) plans_q low

      contact : slice_get (contacts_of q.outcome) h ≡ Some c
      contact = result_there a b q h c linked is_q end at

      keeps : KeepsTurnsOf q.outcome (res (pass (ResultEnd h) way ∷ P b.plan))
      keeps = (to_each q (pass (ResultEnd h) way ∷ P b.plan) (subst (λ (e : End). IsTurned q (pass e way ∷ P b.plan)) end new)).1

      by_stand : ((s : StandsForImport w a.plan p' b.plan q') × (a.end ≡ ImportEnd s.0 h)) ⊎ (StandsForArgument w a.plan p' b.plan q' × (a.end ≡ ResultEnd h))
          → IsTurned p (pass a.end way ∷ P a.plan)
      by_stand (inl ((n, x, at_x, ty, links), a_end)) =
          let of_p : slice_get p.imports n ≡ Some x = subst (λ (z : Plan). slice_get z.imports n ≡ Some x) plans_p at_x in
          let types : x.ty ≡ q.outcome = ty ∙ ap (λ (z : Plan). z.outcome) plans_q in
          let same = agree_import P agree a.plan b.plan n h (count q.outcome) way low_q
          (subst (λ (z : Plan). (g : ℕ) → g < count z.outcome → Linked w (place a.plan (ImportEnd n g)) (place b.plan (ResultEnd g))) plans_q links) in
          subst (λ (e : End). IsTurned p (pass e way ∷ P a.plan)) (sym a_end)
          (in_import p (P a.plan) n h x c way (turned a.plan p is_p) of_p (subst (λ (t : Type'). slice_get (contacts_of t) h ≡ Some c) (sym types) contact) ways
          (subst (λ (t : Type'). KeepsTurnsOf t (imp (pass (ImportEnd n h) way ∷ P a.plan) n)) (sym types)
          (turns_agree q.outcome (res (pass (ResultEnd h) way ∷ P b.plan)) (imp (pass (ImportEnd n h) way ∷ P a.plan) n) (λ g small. sym (same g small)) keeps)))
      by_stand (inr ((b', fun, links), a_end)) =
          let funs : p.outcome ≡ Fun q.outcome b' = ap (λ (z : Plan). z.outcome) (sym plans_p) ∙ (fun ∙ ap (λ (z : Plan). Fun z.outcome b') plans_q) in
          let same = agree_argument P agree a.plan b.plan h (count q.outcome) way low_q
          (subst (λ (z : Plan). (g : ℕ) → g < count z.outcome → Linked w (place a.plan (ResultEnd g)) (place b.plan (ResultEnd g))) plans_q links) in
          subst (λ (e : End). IsTurned p (pass e way ∷ P a.plan)) (sym a_end)
          (in_argument p (P a.plan) h q.outcome b' c way (turned a.plan p is_p) funs contact ways
          (turns_agree q.outcome (res (pass (ResultEnd h) way ∷ P b.plan)) (res (pass (ResultEnd h) way ∷ P a.plan)) (λ g small. sym (same g small)) keeps))

  crosses : (P : ℕ → List Pass) → AllAgree w P → LooseShut w r P → AllTurned w P → (a b : Place) (p q : Plan) (c : Contact) (way : Direction) → Linked w a b
      → slice_get w.plans a.plan ≡ Some p → slice_get w.plans b.plan ≡ Some q → contact_at p a.end ≡ Some c → way_taken c.role ≡ way
      → IsTurned p (pass a.end way ∷ P a.plan) → IsTurned q (pass b.end way ∷ P b.plan)
  crosses P agree shut turned a b p q c way linked is_p is_q there ways new = by_pair (composes.pairs a b linked)
    where
      at : contact_of w a ≡ Some c
      at = contact_place w a p is_p ∙ there

      at_b : contact_of w b ≡ Some (turned_contact c)
      at_b =
          let (d, one, other) = link_contacts w fit ported a b linked in
          let same : d ≡ c = cc (one, at) in other ∙ ap (λ (x : Contact). Some (turned_contact x)) same

      by_pair : IsPair w a b ⊎ IsPair w b a → IsTurned q (pass b.end way ∷ P b.plan)
      by_pair (inl pair) = to_result P agree turned a b p q c way pair linked is_p is_q at ways new
      by_pair (inr pair) =
          from_result P agree turned b a q p (turned_contact c) way pair (linked_back w a b linked) is_q is_p at_b (turned_put c.role ∙ ways) new

  pub passes_turns : PassesTurns w r
  passes_turns = record { crosses = crosses; enters = enters; leaves = leaves }
