-- A plan whose core is regular is regular.
use Rattle.std.specs.Prelude.{List, [], ◌∷◌}
use Rattle.std.proofs.Common.{◌≡◌, sym, subst}
use Rattle.gos_plan.specs.Plans.{End, Plan, contact_at}
use Rattle.gos_plan.specs.Tokens.{Tokens, Element, Fire, Out, In, Runs, IsIdle}
use Rattle.gos_plan.specs.Orderly.{IsOrderly}
use Rattle.gos_realises.specs.realises.Regular.{Pass, pass, way_in, way_out, KeepsTurns, InputsKeepTurns, OutputsKeepTurns, IsRegular}
use Rattle.gos_supplies.proofs.unjoined.RegularLemmas.{whole_regular}
use Rattle.gos_sharing.specs.cores.Core.{Core, IsCore, IsStill}
use Rattle.gos_sharing.specs.cores.Clear.{IsClear, ClearIsRegular, StillByStep}
use Rattle.gos_sharing.specs.cores.Cores.{CoreIsRegular}
use Rattle.gos_sharing.proofs.cores.AlongLemmas.{Always, all_along, along_map, always_by_step}
use Rattle.gos_sharing.proofs.cores.TrimLemmas.{Clear, ClearAlong, contact_small, runs_small, order_large}
use Rattle.gos_sharing.proofs.cores.CoreLemmas.{seats, kept, live, within, live_placed, out_dead}

module _ (f : Core) (r c : Plan) (is : IsCore f r c) where
  abbrev pub Along : List Element → Tokens → Type 0
  Along = ClearAlong r (kept f r c is) is.right (within f r c is)

  abbrev small : Plan
  small = live f r c is

  same_contact : (e : End) → contact_at small e ≡ contact_at r e
  same_contact = contact_small r (kept f r c is) is.right (within f r c is)

  pub inputs_small : (xs : List Element) (past : List Pass) → InputsKeepTurns r past xs → InputsKeepTurns small past xs
  inputs_small [] past keeps = tt
  inputs_small (Fire i t ∷ xs) past keeps = inputs_small xs past keeps
  inputs_small (Out e v ∷ xs) past keeps =
      subst (λ k. InputsKeepTurns small (pass e (way_out k) ∷ past) xs) (sym (same_contact e)) (inputs_small xs (pass e (way_out (contact_at r e)) ∷ past) keeps)
  inputs_small (In e v ∷ xs) past keeps =
      subst (λ k. KeepsTurns small past (pass e (way_in k)) × InputsKeepTurns small (pass e (way_in k) ∷ past) xs) (sym (same_contact e))
      (keeps.0, inputs_small xs (pass e (way_in (contact_at r e)) ∷ past) keeps.1)

  outputs_large : (xs : List Element) (past : List Pass) → OutputsKeepTurns small past xs → OutputsKeepTurns r past xs
  outputs_large [] past keeps = tt
  outputs_large (Fire i t ∷ xs) past keeps = outputs_large xs past keeps
  outputs_large (In e v ∷ xs) past keeps =
      outputs_large xs (pass e (way_in (contact_at r e)) ∷ past) (subst (λ k. OutputsKeepTurns small (pass e (way_in k) ∷ past) xs) (same_contact e) keeps)
  outputs_large (Out e v ∷ xs) past keeps =
      let (one, rest) =
      subst (λ k. KeepsTurns small past (pass e (way_out k)) × OutputsKeepTurns small (pass e (way_out k) ∷ past) xs) (same_contact e) keeps
      in
      (one, outputs_large xs (pass e (way_out (contact_at r e)) ∷ past) rest)

  -- a list along which the dead joints are clear
  list_regular : IsRegular c → (s t : Tokens) (xs : List Element) → IsIdle r s → Runs r xs s t → InputsKeepTurns r [] xs → Along xs s
      → IsOrderly r xs s × OutputsKeepTurns r [] xs
  list_regular regular s t xs idle runs keeps clear =
      let ((u, z, order), outputs) =
      whole_regular (seats f r c is) small c (live_placed f r c is) regular s t xs idle (runs_small r (kept f r c is) is.right (within f r c is) xs s t clear runs)
      (inputs_small xs [] keeps)
      in
      ((u, z, order_large r (kept f r c is) is.right (within f r c is) xs _ s u z clear order), outputs_large xs [] outputs)

  module _ (still : IsStill f r c) where
    pub clear_always : Always r (Clear r (kept f r c is) is.right (within f r c is))
    clear_always s t xs idle runs keeps a b way out = still s t xs a b way idle runs keeps (out_dead f r c is a b out)

    pub along : (s : Tokens) (xs : List Element) → IsIdle r s → InputsKeepTurns r [] xs → Along xs s
    along s xs idle keeps = all_along r (Clear r (kept f r c is) is.right (within f r c is)) clear_always xs s idle keeps

    pub live_runs : (s t : Tokens) (xs : List Element) → IsIdle r s → Runs r xs s t → InputsKeepTurns r [] xs → Runs small xs s t
    live_runs s t xs idle runs keeps = runs_small r (kept f r c is) is.right (within f r c is) xs s t (along s xs idle keeps) runs

    pub core_regular : IsRegular c → IsRegular r
    core_regular regular s t xs idle runs keeps = list_regular regular s t xs idle runs keeps (along s xs idle keeps)

pub core_is_regular : CoreIsRegular
core_is_regular f r c is still regular = core_regular f r c is still regular

-- so far
pub clear_is_regular : ClearIsRegular
clear_is_regular f r c s t xs is regular idle runs keeps clear =
    list_regular f r c is regular s t xs idle runs keeps
    (along_map r (IsClear f r c) (Clear r (kept f r c is) is.right (within f r c is)) (λ z all a b way out. all a b way (out_dead f r c is a b out)) xs s clear)

pub still_by_step : StillByStep
still_by_step f r c stays s t xs a b way idle runs keeps dead =
    always_by_step r (IsClear f r c) (λ z rests d e w also. rests.0 w d) stays s t xs idle runs keeps a b way dead
