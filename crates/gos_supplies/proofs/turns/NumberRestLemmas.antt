-- A plan rests where a renumbered one does.
use Rattle.std.specs.Prelude.{List, [], ◌∷◌}
use Rattle.std.proofs.Common.{◌≡◌, refl, sym, ◌∙◌, ap, subst}
use Rattle.gos_plan.specs.Plans.{Plan, contact_at}
use Rattle.gos_plan.specs.Tokens.{Element, Fire, Out, In, IsIdle}
use Rattle.gos_realises.specs.realises.Regular.{Pass, pass, way_in, way_out, is_open}
use Rattle.gos_joining.specs.webs.Renumbering.{Renumber, IsRenumbered, back, moved_end, moved_list, moved_tokens}
use Rattle.gos_joining.proofs.webs.IdleLemmas.{there_and_back}
use Rattle.gos_joining.proofs.webs.MovedLemmas.{tokens_round, runs_is_moved}
use Rattle.gos_joining.proofs.renumbered.OrderLemmas.{idle_moved, out_pass, in_pass, inputs_moved}
use Rattle.gos_joining.proofs.renumbered.TurnLemmas.{moved_passes, open_moved}
use Rattle.gos_supplies.specs.turns.Rests.{passes, AllShut}
use Rattle.gos_supplies.specs.turns.Resting.{RenumberedRests}

module _ (f : Renumber) (p q : Plan) (is : IsRenumbered f p q) where
  passes_moved : (xs : List Element) (past : List Pass) → passes q (moved_passes f past) (moved_list f xs) ≡ moved_passes f (passes p past xs)
  passes_moved [] past = refl
  passes_moved (Fire i k ∷ xs) past = passes_moved xs past
  passes_moved (Out e v ∷ xs) past =
      ap (λ (x : Pass). passes q (x ∷ moved_passes f past) (moved_list f xs)) (out_pass f p q is e) ∙ passes_moved xs (pass e (way_out (contact_at p e)) ∷ past)
  passes_moved (In e v ∷ xs) past =
      ap (λ (x : Pass). passes q (x ∷ moved_passes f past) (moved_list f xs)) (in_pass f p q is e) ∙ passes_moved xs (pass e (way_in (contact_at p e)) ∷ past)

  shut_moved : (past : List Pass) → AllShut past → AllShut (moved_passes f past)
  shut_moved past shut e =
      ap (is_open (moved_passes f past)) (sym (there_and_back f is.one_to_one e)) ∙ (open_moved f p q is past (moved_end (back f) e) ∙ shut (moved_end (back f) e))

pub renumbered_rests : RenumberedRests
renumbered_rests f p q is rests s t xs idle runs keeps shut =
    subst (IsIdle p) (tokens_round f is.one_to_one t)
    (idle_moved (back f) q p (moved_tokens f t)
    (rests (moved_tokens f s) (moved_tokens f t) (moved_list f xs) (idle_moved f p q s idle) (runs_is_moved f p q xs s t is runs) (inputs_moved f p q is xs [] keeps)
    (subst AllShut (sym (passes_moved f p q is xs [])) (shut_moved f p q is (passes p [] xs) shut))))
