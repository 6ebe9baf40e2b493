-- A plan without the joints that its core has not stands beside loose parts: it is the core, and parts and imports without a joint.
--
-- Numbers that the core does not have get later ones, as in SettledLemmas of gos_supplies, so that no two ends stand in one.
use Rattle.std.specs.Prelude.{ℕ, Bool, true, not, ◌&&◌, ◌||◌, IsTrue, List, Option, Some, length, slice_get, Contains}
use Rattle.std.proofs.Common.{◌≡◌, [], ◌∷◌, inl, inr, refl, sym, ◌∙◌, ap, subst}
use Rattle.gos_types.proofs.BoolLemmas.{same_tests}
use Rattle.gos_plan.specs.Kinds.{Contact, asks, serves, contacts_of}
use Rattle.gos_plan.specs.Plans.{End, PartEnd, ImportEnd, ResultEnd, Joint, Plan, IsRight, AreRight, contact_at, contacts_of_part, contacts_of_import, turned_if, same_end, is_free}
use Rattle.gos_plan.proofs.JointLemmas.{IsIn, same_itself, same_is, fits, contained}
use Rattle.gos_joining.specs.webs.Webs.{joint}
use Rattle.gos_joining.proofs.webs.MovedLemmas.{listed}
use Rattle.gos_supplies.specs.unjoined.Beside.{Placing, placed}
use Rattle.gos_supplies.proofs.unjoined.PlacedLemmas.{IsPlaced, end_in, part_if, import_if}
use Rattle.gos_supplies.proofs.unjoined.SettledLemmas.{settled, settled_back, low, settled_get, settled_forth, settled_return, end_there}
use Rattle.gos_sharing.specs.cores.Core.{Core, core_end, IsCore, IsDead}
use Rattle.gos_sharing.proofs.cores.TrimLemmas.{trimmed, IsOut}

-- joints of the core, in the plan
abbrev pub seated : Placing → List Joint → List Joint
seated f [] = []
seated f (j ∷ js) = joint (placed f j.asking) (placed f j.serving) ∷ seated f js

seated_has : (f : Placing) (js : List Joint) (a b : End) → IsIn (joint a b) js → IsIn (joint (placed f a) (placed f b)) (seated f js)
seated_has f [] a b h = absurd h
seated_has f (j ∷ js) a b (inl e) = inl (ap (λ (k : Joint). joint (placed f k.asking) (placed f k.serving)) e)
seated_has f (j ∷ js) a b (inr h) = inr (seated_has f js a b h)

abbrev pub From : Placing → List Joint → Joint → Type 0
From f js k = (d : End) × (e : End) × IsIn (joint d e) js × (placed f d ≡ k.asking) × (placed f e ≡ k.serving)

pub seated_from : (f : Placing) (js : List Joint) (k : Joint) → IsIn k (seated f js) → From f js k
seated_from f [] k h = absurd h
seated_from f (j ∷ js) k (inl e) =
    (j.asking, j.serving, inl refl, ap (λ (x : Joint). x.asking) (sym e), ap (λ (x : Joint). x.serving) (sym e))
seated_from f (j ∷ js) k (inr h) = let (d, e, has, at_d, at_e) = seated_from f js k h in (d, e, inr has, at_d, at_e)

module _ (f : Core) (r c : Plan) (is : IsCore f r c) where
  abbrev pub seats : Placing
  seats =
      record {
        part = settled (length c.parts) (length r.parts) f.part;
        number = settled_back (length c.parts) (length r.parts) f.number;
        import = settled (length c.imports) (length r.imports) f.import;
        import_number = settled_back (length c.imports) (length r.imports) f.origin;
      }

  -- the joints that the core has, and the plan with these alone
  abbrev pub kept : List Joint
  kept = seated seats c.joints

  abbrev pub live : Plan
  live = trimmed r kept

  parts : (i : ℕ) → slice_get r.parts (seats.part i) ≡ slice_get c.parts i
  parts = settled_get c.parts r.parts f.part f.number is.parts is.numbers

  part_number : (i : ℕ) → seats.number (seats.part i) ≡ Some i
  part_number = settled_forth c.parts r.parts f.part f.number is.parts is.numbers

  imports : (i : ℕ) → slice_get r.imports (seats.import i) ≡ slice_get c.imports i
  imports = settled_get c.imports r.imports f.import f.origin is.imports is.origins

  import_number : (i : ℕ) → seats.import_number (seats.import i) ≡ Some i
  import_number = settled_forth c.imports r.imports f.import f.origin is.imports is.origins

  contact_seat : (e : End) → contact_at live (placed seats e) ≡ contact_at c e
  contact_seat (PartEnd i h) = ap (λ k. slice_get (contacts_of_part k) h) (parts i)
  contact_seat (ImportEnd i h) = ap (λ k. slice_get (contacts_of_import k) h) (imports i)
  contact_seat (ResultEnd h) = ap (λ t. turned_if (slice_get (contacts_of t) h)) is.outcome

  in_seat : (e : End) → end_in seats (placed seats e) ≡ Some e
  in_seat (PartEnd i h) = ap (λ (o : Option ℕ). part_if o h) (part_number i)
  in_seat (ImportEnd i h) = ap (λ (o : Option ℕ). import_if o h) (import_number i)
  in_seat (ResultEnd h) = refl

  one_seat : (a b : End) → placed seats a ≡ placed seats b → a ≡ b
  one_seat a b e = let both : Some a ≡ Some b = sym (in_seat a) ∙ (ap (end_in seats) e ∙ in_seat b) in cc both

  same_seat : (a b : End) → same_end (placed seats a) (placed seats b) ≡ same_end a b
  same_seat a b = same_tests (same_end (placed seats a) (placed seats b)) (same_end a b) to from
    where
      to : same_end (placed seats a) (placed seats b) ≡ true → same_end a b ≡ true
      to t = subst (λ (x : End). same_end a x ≡ true) (one_seat a b (same_is (placed seats a) (placed seats b) t)) (same_itself a)

      from : same_end a b ≡ true → same_end (placed seats a) (placed seats b) ≡ true
      from t = subst (λ (x : End). same_end (placed seats a) (placed seats x) ≡ true) (same_is a b t) (same_itself (placed seats a))

  free_seat : (e : End) (js : List Joint) → is_free (placed seats e) (seated seats js) ≡ is_free e js
  free_seat e [] = refl
  free_seat e (j ∷ js) = λ i. not (same_seat e j.asking i || same_seat e j.serving i) && free_seat e js i

  right_seat : (before js : List Joint) → AreRight c before js → AreRight live (seated seats before) (seated seats js)
  right_seat before [] right = tt
  right_seat before (j ∷ js) (((q, a, asked, served), free_a, free_s), rest) = (
    (
      (q, a, contact_seat j.asking ∙ asked, contact_seat j.serving ∙ served),
      subst (λ (b : Bool). IsTrue b) (sym (free_seat j.asking before)) free_a,
      subst (λ (b : Bool). IsTrue b) (sym (free_seat j.serving before)) free_s,
    ),
    right_seat (j ∷ before) js rest,
  )

  pub live_right : IsRight live
  live_right = right_seat [] c.joints is.also_right

  -- an end that is there has the number that the core gives it
  seat_same : (e : End) (k : Contact) → contact_at c e ≡ Some k → placed seats e ≡ core_end f e
  seat_same (PartEnd i h) k at = ap (λ (n : ℕ). PartEnd n h) (low (length c.parts) (length r.parts) f.part i (end_there c (PartEnd i h) k at))
  seat_same (ImportEnd i h) k at = ap (λ (n : ℕ). ImportEnd n h) (low (length c.imports) (length r.imports) f.import i (end_there c (ImportEnd i h) k at))
  seat_same (ResultEnd h) k at = refl

  abbrev pub BothSame : End → End → Type 0
  BothSame d e = (placed seats d ≡ core_end f d) × (placed seats e ≡ core_end f e)

  pub joint_same : (d e : End) → IsIn (joint d e) c.joints → BothSame d e
  joint_same d e has =
      let (q, v, asked, served) = fits c [] c.joints (joint d e) is.also_right has in (seat_same d (asks q v) asked, seat_same e (serves q v) served)

  pub within : (a b : End) → Contains kept (joint a b) → Contains r.joints (joint a b)
  within a b has =
      let (d, e, in_c, at_d, at_e) = seated_from seats c.joints (joint a b) (contained kept (joint a b) has) in
      let (same_d, same_e) = joint_same d e in_c in
      subst (λ (x : End). Contains r.joints (joint x b)) (sym same_d ∙ at_d)
      (subst (λ (x : End). Contains r.joints (joint (core_end f d) x)) (sym same_e ∙ at_e) (is.joints d e (listed c.joints (joint d e) in_c)))

  pub live_placed : IsPlaced seats live c
  live_placed =
      record {
        whole_right = live_right;
        right = is.also_right;
        outcome = is.outcome;
        parts = parts;
        part_number = part_number;
        number_part = settled_return c.parts r.parts f.part f.number is.parts is.numbers;
        imports = imports;
        import_number = import_number;
        number_import = settled_return c.imports r.imports f.import f.origin is.imports is.origins;
        joints = λ a b has. listed kept (joint (placed seats a) (placed seats b)) (seated_has seats c.joints a b (contained c.joints (joint a b) has));
        all = λ a b has.
            (let (d, e, in_c, at_d, at_e) = seated_from seats c.joints (joint a b) (contained kept (joint a b) has) in
            inl (d, e, listed c.joints (joint d e) in_c, at_d, at_e));
      }

  -- a joint that is left out is dead
  pub out_dead : (a b : End) → IsOut r kept is.right within a b → IsDead f r c a b
  out_dead a b (has, never) = (
    has,
    λ d e in_c at_d at_e.
        (let here = contained c.joints (joint d e) in_c in
        let (same_d, same_e) = joint_same d e here in
        never
        (subst (λ (x : End). Contains kept (joint x b)) (same_d ∙ at_d)
        (subst (λ (x : End). Contains kept (joint (placed seats d) x)) (same_e ∙ at_e)
        (listed kept (joint (placed seats d) (placed seats e)) (seated_has seats c.joints d e here))))),
  )
