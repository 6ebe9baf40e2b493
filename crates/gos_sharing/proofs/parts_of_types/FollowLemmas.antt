-- Lists of the plan with the wide Share are lists of the one with the narrow Share, and matched where these are.
use Rattle.std.specs.Prelude.{◌≡◌, ℕ, List, [], ◌∷◌, Some, None}
use Rattle.std.proofs.Common.{refl, sym, ◌∙◌, ap, subst}
use Rattle.gos_model.specs.Terms.{Term}
use Rattle.gos_model.specs.Moves.{Program, Config, Idle}
use Rattle.gos_plan.specs.Kinds.{Part}
use Rattle.gos_plan.specs.Plans.{PartEnd, ImportEnd, ResultEnd, Joint, Plan, contact_at}
use Rattle.gos_plan.specs.Tokens.{Tokens, Element, Fire, Out, In, Runs, IsIdle}
use Rattle.gos_plan.specs.Orderly.{none_open, IsOrderly}
use Rattle.gos_realises.specs.realises.Regular.{Pass, pass, way_in, way_out, is_open, InputsKeepTurns, OutputsKeepTurns, IsRegular}
use Rattle.gos_realises.specs.realises.Matched.{shows, Agrees, IsMatched, program_of, RealisesInTurn}
use Rattle.gos_supplies.specs.turns.Rests.{passes, Rests}
use Rattle.gos_sharing.proofs.function_types.AlikeLemmas.{Placed, placed_on}
use Rattle.gos_sharing.specs.parts_of_types.Narrow.{Narrowing, IsNarrow, NarrowIsRegular, NarrowIsDone, NarrowRests}
use Rattle.gos_sharing.proofs.parts_of_types.MovedLemmas.{before}
use Rattle.gos_sharing.proofs.parts_of_types.StepLemmas.{narrow_element, narrow_list, does_so, runs_so, idle_so, quiet_so, idle_back, orderly_so, goes_so}

-- a plan with the imports and the outcome of z
abbrev with_body : Plan → ℕ → List Part → List Joint → Plan
with_body z w ps js = record z { weight = w; parts = ps; joints = js }

idle_placed : (z : Plan) (s : Tokens) → IsIdle z s → Placed z s
idle_placed z s idle way e v lies = let clash : None ≡ Some v = sym (idle.0 way e) ∙ lies in absurd (cc clash)

module _ (f : Narrowing) (z : Plan) (w : ℕ) (ps : List Part) (js : List Joint) (is : IsNarrow f z (with_body z w ps js)) where
  abbrev u : Plan
  u = with_body z w ps js

  shows_so : (x : Element) → shows (with_body z w ps js) (narrow_element f x) ≡ shows z x
  shows_so (Fire n t) = refl
  shows_so (Out (PartEnd n h) v) = refl
  shows_so (Out (ImportEnd n h) v) = refl
  shows_so (Out (ResultEnd h) v) = refl
  shows_so (In (PartEnd n h) v) = refl
  shows_so (In (ImportEnd n h) v) = refl
  shows_so (In (ResultEnd h) v) = refl

  agrees_back : (g : Program) (s : Tokens) (c : Config) → Placed z s → Agrees (with_body z w ps js) g (before f s) c → Agrees z g s c
  agrees_back g s c placed agrees = (
    λ quiet. agrees.0 (quiet_so f z (with_body z w ps js) is s quiet),
    λ e. idle_back f z (with_body z w ps js) is s placed (agrees.1 e),
  )

  matched_back : (g : Program) (xs : List Element) (s : Tokens) (c : Config) → Placed z s
      → IsMatched (with_body z w ps js) g (narrow_list f xs) (before f s) c → IsMatched z g xs s c
  matched_back g [] s c placed matched = agrees_back g s c placed matched
  matched_back g (x ∷ xs) s c placed (agrees, after) = (
    agrees_back g s c placed agrees,
    λ t does.
        let (acts, d, moves, shown, goes, rest) = after (before f t) (does_so f z (with_body z w ps js) is x s t does) in
        (acts, d, moves, shown ∙ shows_so x, goes_so f z (with_body z w ps js) is x s acts goes, matched_back g xs t d (placed_on z x s t does placed) rest),
  )

  ordered_back : (xs : List Element) (s t : Tokens) → Runs z xs s t → IsOrderly (with_body z w ps js) (narrow_list f xs) (before f s) → IsOrderly z xs s
  ordered_back xs s t runs (p, k, order) =
      let (n, ordered) = orderly_so f z (with_body z w ps js) is xs none_open s t p k runs order in (n, t, ordered)

  inputs_so : (xs : List Element) (past : List Pass) (s t : Tokens) → Runs z xs s t
      → InputsKeepTurns z past xs → InputsKeepTurns (with_body z w ps js) past (narrow_list f xs)
  inputs_so [] past s t runs keeps = tt
  inputs_so (Fire n k ∷ xs) past s t (y, does, runs) keeps = inputs_so xs past y t runs keeps
  inputs_so (Out (PartEnd n h) v ∷ xs) past s t (y, does, runs) keeps = absurd does.0
  inputs_so (Out (ImportEnd n h) v ∷ xs) past s t (y, does, runs) keeps =
      inputs_so xs (pass (ImportEnd n h) (way_out (contact_at z (ImportEnd n h))) ∷ past) y t runs keeps
  inputs_so (Out (ResultEnd h) v ∷ xs) past s t (y, does, runs) keeps =
      inputs_so xs (pass (ResultEnd h) (way_out (contact_at z (ResultEnd h))) ∷ past) y t runs keeps
  inputs_so (In (PartEnd n h) v ∷ xs) past s t (y, does, runs) keeps = absurd does.0
  inputs_so (In (ImportEnd n h) v ∷ xs) past s t (y, does, runs) keeps =
      (keeps.0, inputs_so xs (pass (ImportEnd n h) (way_in (contact_at z (ImportEnd n h))) ∷ past) y t runs keeps.1)
  inputs_so (In (ResultEnd h) v ∷ xs) past s t (y, does, runs) keeps =
      (keeps.0, inputs_so xs (pass (ResultEnd h) (way_in (contact_at z (ResultEnd h))) ∷ past) y t runs keeps.1)

  realises_back : (m : Term) → RealisesInTurn (with_body z w ps js) m → RealisesInTurn z m
  realises_back m done s t xs idle runs keeps =
      let both =
      done (before f s) (before f t) (narrow_list f xs) (idle_so f z (with_body z w ps js) is s idle)
      (runs_so f z (with_body z w ps js) is xs s t runs) (inputs_so xs [] s t runs keeps) in
      (matched_back (program_of z m) xs s Idle (idle_placed z s idle) both.0, ordered_back xs s t runs both.1)

  outputs_back : (xs : List Element) (past : List Pass) (s t : Tokens) → Runs z xs s t
      → OutputsKeepTurns (with_body z w ps js) past (narrow_list f xs) → OutputsKeepTurns z past xs
  outputs_back [] past s t runs keeps = tt
  outputs_back (Fire n k ∷ xs) past s t (y, does, runs) keeps = outputs_back xs past y t runs keeps
  outputs_back (In (PartEnd n h) v ∷ xs) past s t (y, does, runs) keeps = absurd does.0
  outputs_back (In (ImportEnd n h) v ∷ xs) past s t (y, does, runs) keeps =
      outputs_back xs (pass (ImportEnd n h) (way_in (contact_at z (ImportEnd n h))) ∷ past) y t runs keeps
  outputs_back (In (ResultEnd h) v ∷ xs) past s t (y, does, runs) keeps =
      outputs_back xs (pass (ResultEnd h) (way_in (contact_at z (ResultEnd h))) ∷ past) y t runs keeps
  outputs_back (Out (PartEnd n h) v ∷ xs) past s t (y, does, runs) keeps = absurd does.0
  outputs_back (Out (ImportEnd n h) v ∷ xs) past s t (y, does, runs) keeps =
      (keeps.0, outputs_back xs (pass (ImportEnd n h) (way_out (contact_at z (ImportEnd n h))) ∷ past) y t runs keeps.1)
  outputs_back (Out (ResultEnd h) v ∷ xs) past s t (y, does, runs) keeps =
      (keeps.0, outputs_back xs (pass (ResultEnd h) (way_out (contact_at z (ResultEnd h))) ∷ past) y t runs keeps.1)

  regular_back : IsRegular (with_body z w ps js) → IsRegular z
  regular_back regular s t xs idle runs keeps =
      let both =
      regular (before f s) (before f t) (narrow_list f xs) (idle_so f z (with_body z w ps js) is s idle)
      (runs_so f z (with_body z w ps js) is xs s t runs) (inputs_so xs [] s t runs keeps) in
      (ordered_back xs s t runs both.0, outputs_back xs [] s t runs both.1)

  passes_so : (xs : List Element) (past : List Pass) (s t : Tokens) → Runs z xs s t → passes (with_body z w ps js) past (narrow_list f xs) ≡ passes z past xs
  passes_so [] past s t runs = refl
  passes_so (Fire n k ∷ xs) past s t (y, does, runs) = passes_so xs past y t runs
  passes_so (In (PartEnd n h) v ∷ xs) past s t (y, does, runs) = absurd does.0
  passes_so (In (ImportEnd n h) v ∷ xs) past s t (y, does, runs) = passes_so xs (pass (ImportEnd n h) (way_in (contact_at z (ImportEnd n h))) ∷ past) y t runs
  passes_so (In (ResultEnd h) v ∷ xs) past s t (y, does, runs) = passes_so xs (pass (ResultEnd h) (way_in (contact_at z (ResultEnd h))) ∷ past) y t runs
  passes_so (Out (PartEnd n h) v ∷ xs) past s t (y, does, runs) = absurd does.0
  passes_so (Out (ImportEnd n h) v ∷ xs) past s t (y, does, runs) = passes_so xs (pass (ImportEnd n h) (way_out (contact_at z (ImportEnd n h))) ∷ past) y t runs
  passes_so (Out (ResultEnd h) v ∷ xs) past s t (y, does, runs) = passes_so xs (pass (ResultEnd h) (way_out (contact_at z (ResultEnd h))) ∷ past) y t runs

  all_placed : (xs : List Element) (s t : Tokens) → Runs z xs s t → Placed z s → Placed z t
  all_placed [] s t runs placed = subst (Placed z) (sym runs) placed
  all_placed (x ∷ xs) s t (y, does, runs) placed = all_placed xs y t runs (placed_on z x s y does placed)

  rests_back : Rests (with_body z w ps js) → Rests z
  rests_back rests s t xs idle runs keeps shut =
      idle_back f z (with_body z w ps js) is t (all_placed xs s t runs (idle_placed z s idle))
      (rests (before f s) (before f t) (narrow_list f xs) (idle_so f z (with_body z w ps js) is s idle) (runs_so f z (with_body z w ps js) is xs s t runs)
      (inputs_so xs [] s t runs keeps) (λ e. ap (λ (past : List Pass). is_open past e) (passes_so xs [] s t runs) ∙ shut e))

module _ (f : Narrowing) (z u : Plan) (is : IsNarrow f z u) where
  same : u ≡ with_body z u.weight u.parts u.joints
  same = λ l. record { weight = u.weight; imports = is.frame.imports l; outcome = is.frame.outcome l; parts = u.parts; joints = u.joints }

  there : IsNarrow f z (with_body z u.weight u.parts u.joints)
  there = subst (λ (p : Plan). IsNarrow f z p) same is

  pub regular_so : IsRegular u → IsRegular z
  regular_so regular = regular_back f z u.weight u.parts u.joints there (subst IsRegular same regular)

  pub realised_so : (m : Term) → RealisesInTurn u m → RealisesInTurn z m
  realised_so m done = realises_back f z u.weight u.parts u.joints there m (subst (λ (p : Plan). RealisesInTurn p m) same done)

  pub rests_so : Rests u → Rests z
  rests_so rests = rests_back f z u.weight u.parts u.joints there (subst Rests same rests)

pub narrow_is_regular : NarrowIsRegular
narrow_is_regular f z u is regular = regular_so f z u is regular

pub narrow_is_done : NarrowIsDone
narrow_is_done f z u m is done = realised_so f z u is m done

pub narrow_rests : NarrowRests
narrow_rests f z u is rests = rests_so f z u is rests
