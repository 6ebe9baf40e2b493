-- The whole is regular where the plan is, and rests where it does: each list of it is one of the plan's.
use Rattle.std.specs.Prelude.{◌≡◌, ℕ, ◌+◌, Bool, true, false, List, [], ◌∷◌, Option, Some, None, slice_get, if◌then◌else◌}
use Rattle.std.proofs.Common.{refl, sym, ◌∙◌, ap, subst, arith}
use Rattle.gos_types.specs.declared.shakes.Role.{Role}
use Rattle.gos_types.specs.declared.shakes.Role.TheVariants.{Serve, Ask}
use Rattle.gos_types.specs.Events.{Direction, Request, Answer}
use Rattle.gos_types.proofs.RoleLemmas.{ask_is_not_serve}
use Rattle.gos_model.specs.Typing.{Imported}
use Rattle.gos_plan.specs.Kinds.{Contact, contacts_of}
use Rattle.gos_plan.specs.Plans.{End, PartEnd, ImportEnd, ResultEnd, Plan, contact_at, contacts_of_import, same_end}
use Rattle.gos_plan.specs.Tokens.{Tokens, Element, Fire, Out, In, IsPortEnd, way_put, Does, Runs, IsIdle}
use Rattle.gos_plan.specs.Orderly.{IsOrderly}
use Rattle.gos_realises.specs.realises.Regular.{Pass, pass, way_in, way_out, is_open, KeepsTurnsOf, whole_end, ComesInTurn, KeepsTurns, InputsKeepTurns, OutputsKeepTurns, IsRegular}
use Rattle.gos_realises.proofs.realises.InputLemmas.{in_there}
use Rattle.gos_plan.specs.Firing.{Rest}
use Rattle.gos_supplies.specs.turns.Rests.{passes, AllShut, Rests}
use Rattle.gos_supplies.specs.unjoined.Beside.{Placing, placed}
use Rattle.gos_plan.proofs.JointLemmas.{same_itself, same_is}
use Rattle.gos_joining.proofs.renumbered.TurnLemmas.{keeps_each}
use Rattle.gos_supplies.proofs.unjoined.AskedLemmas.{one_serves}
use Rattle.gos_supplies.proofs.unjoined.PlacedLemmas.{IsPlaced, import_if, end_in, placed_in}
use Rattle.gos_supplies.proofs.unjoined.TokenLemmas.{set, set_list, own_tokens, own_idle, runs_own}
use Rattle.gos_supplies.proofs.unjoined.StillLemmas.{IsStill, idle_still, stays_still, fire_own, out_own}
use Rattle.gos_supplies.proofs.unjoined.OrderLemmas.{ordered_whole}
use Rattle.gos_supplies.proofs.unjoined.TurnLemmas.{set_passes, open_placed, loose_closed, out_pass, in_pass, inputs_after, inputs_own, outputs_whole}

-- another handshake of the import
other_end : (i h g : ℕ) → (g ≡ h → ⊥) → same_end (ImportEnd i h) (ImportEnd i g) ≡ false
other_end i h g apart = by_test (same_end (ImportEnd i h) (ImportEnd i g)) refl
  where
    by_test : (b : Bool) → same_end (ImportEnd i h) (ImportEnd i g) ≡ b → b ≡ false
    by_test false t = refl
    by_test true t = let same = same_is (ImportEnd i h) (ImportEnd i g) t in let number : g ≡ h = cc same in absurd (apart number)

loose_too_if : (o : Option ℕ) (h g : ℕ) → import_if o h ≡ None → import_if o g ≡ None
loose_too_if None h g loose = refl
loose_too_if (Some i) h g loose = cc loose

module _ (f : Placing) (r c : Plan) (is : IsPlaced f r c) where
  loose_too : (i h g : ℕ) → end_in f (ImportEnd i h) ≡ None → end_in f (ImportEnd i g) ≡ None
  loose_too i h g loose = loose_too_if (f.import_number i) h g loose

  abbrev Own : Element → Type 0
  Own x = (y : Element) × (x ≡ set f y)

  import_there : (i h : ℕ) (k : Contact) → contact_at r (ImportEnd i h) ≡ Some k
      → (x : Imported) × (slice_get r.imports i ≡ Some x) × (slice_get (contacts_of x.ty) h ≡ Some k)
  import_there i h k there = by_import (slice_get r.imports i) refl
    where
      by_import : (o : Option Imported) → slice_get r.imports i ≡ o → (x : Imported) × (slice_get r.imports i ≡ Some x) × (slice_get (contacts_of x.ty) h ≡ Some k)
      by_import None none =
          let both : slice_get (contacts_of_import None) h ≡ Some k = sym (ap (λ (o : Option Imported). slice_get (contacts_of_import o) h) none) ∙ there in
          absurd (cc both)
      by_import (Some x) at = (x, at, sym (ap (λ (o : Option Imported). slice_get (contacts_of_import o) h) at) ∙ there)

  -- None comes in at a loose end: a request would open a handshake of an argument where the outcome has no open one.
  abbrev Comes : List Pass → End → Direction → Type 0
  Comes past e way = KeepsTurns r (set_passes f past) (pass e way)

  no_request : (i h : ℕ) (k : Contact) (past : List Pass) → contact_at r (ImportEnd i h) ≡ Some k → end_in f (ImportEnd i h) ≡ None → k.role ≡ Ask
      → Comes past (ImportEnd i h) Request → ⊥
  no_request i h k past there loose asks (turn, keeps) =
      let (x, at, both) = import_there i h k there in
      let each = (keeps_each 0 r.imports r.outcome (λ g. is_open now (whole_end 0 r.imports g)) (is_open now) (λ g. refl) keeps).0 i x at in
      let zeros : 0 + i ≡ i = omega arith in
      let turned : KeepsTurnsOf x.ty (λ g. is_open now (ImportEnd i g)) = subst (λ (n : ℕ). KeepsTurnsOf x.ty (λ g. is_open now (ImportEnd n g))) zeros each.0 in
      let serves = one_serves x.ty h k (λ g. is_open now (ImportEnd i g)) both turned up others in
      ask_is_not_serve (sym asks ∙ serves)
    where
      now : List Pass
      now = pass (ImportEnd i h) Request ∷ set_passes f past

      up : is_open now (ImportEnd i h) ≡ true
      up = λ j. if same_itself (ImportEnd i h) j then true else is_open (set_passes f past) (ImportEnd i h)

      others : (g : ℕ) → (g ≡ h → ⊥) → is_open now (ImportEnd i g) ≡ false
      others g apart =
          (λ j. if other_end i h g apart j then true else is_open (set_passes f past) (ImportEnd i g))
          ∙ loose_closed f r c is past (ImportEnd i g) (loose_too i h g loose)

  in_own : (e : End) (v : ℕ) (s t : Tokens) (past : List Pass) → Does r (In e v) s t → Comes past e (way_in (contact_at r e)) → Own (In e v)
  in_own e v s t past does turn = by_end (end_in f e) refl
    where
      no_answer : (d : End) → end_in f d ≡ None → ComesInTurn (set_passes f past) d Answer → ⊥
      no_answer d loose asked = let both : true ≡ false = sym asked ∙ loose_closed f r c is past d loose in cc both

      no_pass : (d : End) → end_in f d ≡ None → IsPortEnd d → (k : Contact) → contact_at r d ≡ Some k → Comes past d (way_in (contact_at r d)) → ⊥
      no_pass (PartEnd i h) loose port k there turn = port
      no_pass (ResultEnd h) loose port k there turn = cc loose
      no_pass (ImportEnd i h) loose port k there turn = by_role k.role refl (subst (Comes past (ImportEnd i h)) (ap way_in there) turn)
        where
          by_role : (role : Role) → k.role ≡ role → Comes past (ImportEnd i h) (way_put k.role) → ⊥
          by_role Serve is comes = no_answer (ImportEnd i h) loose (subst (Comes past (ImportEnd i h)) (ap way_put is) comes).0
          by_role Ask is comes = no_request i h k past there loose is (subst (Comes past (ImportEnd i h)) (ap way_put is) comes)

      by_end : (o : Option End) → end_in f e ≡ o → Own (In e v)
      by_end None loose = let (k, there) = in_there r e v s t does in absurd (no_pass e loose does.0 k there turn)
      by_end (Some d) at = (In d v, ap (λ (x : End). In x v) (sym (placed_in f r c is e d at)))

  first_own : (x : Element) (xs : List Element) (s t : Tokens) (past : List Pass) → IsStill f s → Does r x s t
      → InputsKeepTurns r (set_passes f past) (x ∷ xs) → Own x
  first_own (Fire i slot) xs s t past still does keeps = fire_own f r c is i slot s t still does
  first_own (Out e v) xs s t past still does keeps = out_own f r c is e v s t still does
  first_own (In e v) xs s t past still does keeps = in_own e v s t past does keeps.0

  -- each list is one of the plan's
  pub all_own : (xs : List Element) (s t : Tokens) (past : List Pass) → IsStill f s → Runs r xs s t
      → InputsKeepTurns r (set_passes f past) xs → (ys : List Element) × (xs ≡ set_list f ys)
  all_own [] s t past still runs keeps = ([], refl)
  all_own (x ∷ xs) s t past still (w, does, runs) keeps =
      let (y, e) = first_own x xs s w past still does keeps in
      let does_y : Does r (set f y) s w = subst (λ (z : Element). Does r z s w) e does in
      let (later, rest) = inputs_after f r c is y xs past (subst (λ (z : Element). InputsKeepTurns r (set_passes f past) (z ∷ xs)) e keeps) in
      let (ys, es) = all_own xs w t later (stays_still f r c is y s w still does_y) runs rest in
      (y ∷ ys, λ i. e i ∷ es i)

  placed_regular : (ys : List Element) (s t : Tokens) → IsRegular c → IsIdle r s → Runs r (set_list f ys) s t → InputsKeepTurns r [] (set_list f ys)
      → IsOrderly r (set_list f ys) s × OutputsKeepTurns r [] (set_list f ys)
  placed_regular ys s t regular idle runs keeps =
      let both = regular (own_tokens f s) (own_tokens f t) ys (own_idle f r c s idle) (runs_own f r c is ys s t runs) (inputs_own f r c is ys [] keeps) in
      (ordered_whole f r c is ys s t (idle_still f r s idle) runs both.0, outputs_whole f r c is ys [] both.1)

  pub whole_regular : IsRegular c → IsRegular r
  whole_regular regular s t xs idle runs keeps =
      let (ys, e) = all_own xs s t [] (idle_still f r s idle) runs keeps in
      subst (λ (zs : List Element). IsOrderly r zs s × OutputsKeepTurns r [] zs) (sym e)
      (placed_regular ys s t regular idle (subst (λ (zs : List Element). Runs r zs s t) e runs) (subst (InputsKeepTurns r []) e keeps))

  -- and rests where the plan does
  all_still : (ys : List Element) (s t : Tokens) → IsStill f s → Runs r (set_list f ys) s t → IsStill f t
  all_still [] s t still runs = subst (IsStill f) (sym runs) still
  all_still (y ∷ ys) s t still (w, does, runs) = all_still ys w t (stays_still f r c is y s w still does) runs

  passes_set : (ys : List Element) (past : List Pass) → passes r (set_passes f past) (set_list f ys) ≡ set_passes f (passes c past ys)
  passes_set [] past = refl
  passes_set (Fire i k ∷ ys) past = passes_set ys past
  passes_set (Out e v ∷ ys) past =
      ap (λ (x : Pass). passes r (x ∷ set_passes f past) (set_list f ys)) (out_pass f r c is e) ∙ passes_set ys (pass e (way_out (contact_at c e)) ∷ past)
  passes_set (In e v ∷ ys) past =
      ap (λ (x : Pass). passes r (x ∷ set_passes f past) (set_list f ys)) (in_pass f r c is e) ∙ passes_set ys (pass e (way_in (contact_at c e)) ∷ past)

  idle_whole : (t : Tokens) → IsStill f t → IsIdle c (own_tokens f t) → IsIdle r t
  idle_whole t still idle = (λ way e. at_place way e (end_in f e) refl, λ i. at_state i (f.number i) refl)
    where
      at_place : (way : Direction) (e : End) (o : Option End) → end_in f e ≡ o → t.in_place way e ≡ None
      at_place way e None loose = still.places way e loose
      at_place way e (Some d) at = ap (t.in_place way) (sym (placed_in f r c is e d at)) ∙ idle.0 way d

      at_state : (i : ℕ) (o : Option ℕ) → f.number i ≡ o → (t.state i).phase ≡ Rest
      at_state i None loose = still.states i loose
      at_state i (Some j) at = ap (λ (k : ℕ). (t.state k).phase) (sym (is.number_part i j at)) ∙ idle.1 j

  placed_rests : (ys : List Element) (s t : Tokens) → Rests c → IsIdle r s → Runs r (set_list f ys) s t → InputsKeepTurns r [] (set_list f ys)
      → AllShut (passes r [] (set_list f ys)) → IsIdle r t
  placed_rests ys s t rests idle runs keeps shut =
      idle_whole t (all_still ys s t (idle_still f r s idle) runs)
      (rests (own_tokens f s) (own_tokens f t) ys (own_idle f r c s idle) (runs_own f r c is ys s t runs) (inputs_own f r c is ys [] keeps)
      (λ e. sym (open_placed f r c is (passes c [] ys) e) ∙ (ap (λ (q : List Pass). is_open q (placed f e)) (sym (passes_set ys [])) ∙ shut (placed f e))))

  pub whole_rests : Rests c → Rests r
  whole_rests rests s t xs idle runs keeps shut =
      let (ys, e) = all_own xs s t [] (idle_still f r s idle) runs keeps in
      placed_rests ys s t rests idle (subst (λ (zs : List Element). Runs r zs s t) e runs) (subst (InputsKeepTurns r []) e keeps)
      (subst (λ (zs : List Element). AllShut (passes r [] zs)) e shut)
