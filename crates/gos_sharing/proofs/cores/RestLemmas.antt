-- A plan rests where its core does, and what has loose parts beside a core is still.
use Rattle.std.specs.Prelude.{List, Option, None, Contains}
use Rattle.std.proofs.Common.{◌≡◌, [], ◌∷◌, ◌⊎◌, inl, inr, refl, sym, ◌∙◌, ap, subst}
use Rattle.gos_plan.specs.Kinds.{Contact}
use Rattle.gos_plan.specs.Plans.{End, PartEnd, ImportEnd, ResultEnd, Plan, contact_at}
use Rattle.gos_plan.specs.Tokens.{Tokens, Element, Fire, Out, In, Runs}
use Rattle.gos_realises.specs.realises.Regular.{Pass, pass, way_in, way_out, InputsKeepTurns}
use Rattle.gos_joining.specs.webs.Webs.{joint}
use Rattle.gos_supplies.specs.unjoined.Beside.{Placing, placed, IsOwn, IsLoose}
use Rattle.gos_supplies.proofs.unjoined.PlacedLemmas.{IsPlaced, AreLoose}
use Rattle.gos_supplies.proofs.unjoined.SettledLemmas.{settling, settled_placed, joint_placed}
use Rattle.gos_supplies.proofs.unjoined.StillLemmas as loose
use Rattle.gos_supplies.proofs.unjoined.TokenLemmas.{set_list, own_tokens, own_idle, runs_own}
use Rattle.gos_supplies.proofs.unjoined.TurnLemmas.{set_passes, open_placed, out_pass, in_pass, inputs_own}
use Rattle.gos_supplies.proofs.unjoined.RegularLemmas.{all_own}
use Rattle.gos_supplies.proofs.unjoined.DoneLemmas.{idle_whole}
use Rattle.gos_supplies.specs.turns.Rests.{passes, AllShut, Rests}
use Rattle.gos_sharing.specs.cores.Core.{Core, core_end, IsCore, IsStill}
use Rattle.gos_sharing.specs.cores.Cores.{CoreRests}
use Rattle.gos_sharing.specs.cores.Beside.{core_of, BesideIsCore}
use Rattle.gos_sharing.proofs.cores.TrimLemmas.{contact_small}
use Rattle.gos_sharing.proofs.cores.CoreLemmas.{seats, kept, live, within, live_placed}
use Rattle.gos_sharing.proofs.cores.RegularLemmas.{live_runs, inputs_small}

-- beside loose parts
module _ (f : Placing) (r c : Plan) (is : IsPlaced f r c) where
  passes_set : (ys : List Element) (past : List Pass) → passes r (set_passes f past) (set_list f ys) ≡ set_passes f (passes c past ys)
  passes_set [] past = refl
  passes_set (Fire i t ∷ ys) past = passes_set ys past
  passes_set (Out e v ∷ ys) past =
      ap (λ (y : Pass). passes r (y ∷ set_passes f past) (set_list f ys)) (out_pass f r c is e) ∙ passes_set ys (pass e (way_out (contact_at c e)) ∷ past)
  passes_set (In e v ∷ ys) past =
      ap (λ (y : Pass). passes r (y ∷ set_passes f past) (set_list f ys)) (in_pass f r c is e) ∙ passes_set ys (pass e (way_in (contact_at c e)) ∷ past)

  still_along : (ys : List Element) (s t : Tokens) → loose.IsStill f s → Runs r (set_list f ys) s t → loose.IsStill f t
  still_along [] s t still runs = subst (loose.IsStill f) (sym runs) still
  still_along (y ∷ ys) s t still (w, does, runs) = still_along ys w t (loose.stays_still f r c is y s w still does) runs

  pub placed_rests : Rests c → Rests r
  placed_rests rests s t xs idle runs inputs shut =
      let (ys, e) = all_own f r c is xs s t [] (loose.idle_still f r s idle) runs inputs in
      let runs_set = subst (λ (zs : List Element). Runs r zs s t) e runs in
      let inputs_c = inputs_own f r c is ys [] (subst (λ (zs : List Element). InputsKeepTurns r [] zs) e inputs) in
      let shut_set : AllShut (set_passes f (passes c [] ys)) = subst AllShut (ap (passes r []) e ∙ passes_set ys []) shut in
      let shut_c : AllShut (passes c [] ys) = λ d. sym (open_placed f r c is (passes c [] ys) d) ∙ shut_set (placed f d) in
      idle_whole f r c is t (still_along ys s t (loose.idle_still f r s idle) runs_set)
      (rests (own_tokens f s) (own_tokens f t) ys (own_idle f r c s idle) (runs_own f r c is ys s t runs_set) inputs_c shut_c)

-- with dead joints
passes_small : (f : Core) (r c : Plan) (is : IsCore f r c) (xs : List Element) (past : List Pass) → passes (live f r c is) past xs ≡ passes r past xs
passes_small f r c is [] past = refl
passes_small f r c is (Fire i t ∷ xs) past = passes_small f r c is xs past
passes_small f r c is (Out e v ∷ xs) past =
    ap (λ (k : Option Contact). passes (live f r c is) (pass e (way_out k) ∷ past) xs) (contact_small r (kept f r c is) is.right (within f r c is) e)
    ∙ passes_small f r c is xs (pass e (way_out (contact_at r e)) ∷ past)
passes_small f r c is (In e v ∷ xs) past =
    ap (λ (k : Option Contact). passes (live f r c is) (pass e (way_in k) ∷ past) xs) (contact_small r (kept f r c is) is.right (within f r c is) e)
    ∙ passes_small f r c is xs (pass e (way_in (contact_at r e)) ∷ past)

pub core_rests : CoreRests
core_rests f r c is still rests s t xs idle runs inputs shut =
    placed_rests (seats f r c is) (live f r c is) c (live_placed f r c is) rests s t xs idle (live_runs f r c is still s t xs idle runs inputs)
    (inputs_small f r c is xs [] inputs) (subst AllShut (sym (passes_small f r c is xs [])) shut)

-- what has loose parts beside it is the core of the whole, which is still
core_placed : (f : Placing) (e : End) → core_end (core_of f) e ≡ placed f e
core_placed f (PartEnd i h) = refl
core_placed f (ImportEnd i h) = refl
core_placed f (ResultEnd h) = refl

pub beside_is_core : BesideIsCore
beside_is_core f r c is = (core, calm)
  where
    core : IsCore (core_of f) r c
    core =
        record {
          right = is.whole_right;
          also_right = is.right;
          outcome = is.lies.outcome;
          parts = is.lies.parts;
          numbers = is.lies.numbers;
          imports = is.lies.imports;
          origins = is.lies.import_numbers;
          joints = λ a b has.
              subst (λ (x : End). Contains r.joints (joint x (core_end (core_of f) b))) (sym (core_placed f a))
              (subst (λ (x : End). Contains r.joints (joint (placed f a) x)) (sym (core_placed f b)) (is.joints a b has));
        }

    its : IsPlaced (settling f r c is) r c
    its = settled_placed f r c is

    calm : IsStill (core_of f) r c
    calm s t xs a b way idle runs inputs dead = by_sort (is.all a b dead.0) (its.all a b dead.0)
      where
        all_still : loose.IsStill (settling f r c is) t
        all_still =
            let (ys, e) = all_own (settling f r c is) r c its xs s t [] (loose.idle_still (settling f r c is) r s idle) runs inputs in
            still_along (settling f r c is) r c its ys s t (loose.idle_still (settling f r c is) r s idle) (subst (λ (zs : List Element). Runs r zs s t) e runs)

        not_own : IsOwn f c a b → ⊥
        not_own (d, e, has, at_d, at_e) = dead.1 d e has (core_placed f d ∙ at_d) (core_placed f e ∙ at_e)

        by_sort : IsOwn f c a b ⊎ (IsLoose f a × IsLoose f b)
            → IsOwn (settling f r c is) c a b ⊎ AreLoose (settling f r c is) a b → t.in_place way a ≡ None
        by_sort (inl own) other = absurd (not_own own)
        by_sort (inr free) (inr (loose_a, loose_b)) = all_still.places way a loose_a
        by_sort (inr free) (inl (d, e, has, at_d, at_e)) = absurd (not_own (d, e, has, same_d, same_e))
          where
            both : (placed (settling f r c is) d ≡ placed f d) × (placed (settling f r c is) e ≡ placed f e)
            both = joint_placed f r c is d e has

            same_d : placed f d ≡ a
            same_d = sym both.0 ∙ at_d

            same_e : placed f e ≡ b
            same_e = sym both.1 ∙ at_e
