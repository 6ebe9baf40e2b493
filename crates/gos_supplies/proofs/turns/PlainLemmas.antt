-- A giver whose whole result is the whole's.
use Rattle.std.specs.Prelude.{ℕ, ◌+◌, true, List, Some, slice_get}
use Rattle.std.proofs.Common.{◌≡◌, ◌∷◌, sym, ◌∙◌, ap, subst, zero-add}
use Rattle.gos_types.specs.Events.{Direction}
use Rattle.gos_plan.specs.Kinds.{Contact, contacts_of}
use Rattle.gos_plan.specs.Plans.{ResultEnd, Plan}
use Rattle.gos_plan.specs.Tokens.{way_taken}
use Rattle.gos_realises.specs.realises.Regular.{Pass, pass, count, some_open, KeepsTurnsOf}
use Rattle.gos_supplies.proofs.turns.GoesLemmas.{IsTurned}
use Rattle.gos_joining.proofs.renumbered.TurnLemmas.{some_agree, turns_agree}
use Rattle.gos_supplies.proofs.turns.TurnedLemmas.{res, to_each, in_result}

pub plain_in : (p : Plan) (P : List Pass) (h : ℕ) (c : Contact) (way : Direction) → IsTurned p P → slice_get (contacts_of p.outcome) h ≡ Some c → way_taken c.role ≡ way
    → KeepsTurnsOf p.outcome (λ g. res (pass (ResultEnd (0 + h)) way ∷ P) (0 + g)) → IsTurned p (pass (ResultEnd (0 + h)) way ∷ P)
plain_in p P h c way turned there ways keeps =
    let same = zero-add h in
    subst (λ (n : ℕ). IsTurned p (pass (ResultEnd n) way ∷ P)) (sym same)
    (in_result p P h c way turned there ways
    (turns_agree p.outcome (λ g. res (pass (ResultEnd (0 + h)) way ∷ P) (0 + g)) (res (pass (ResultEnd h) way ∷ P))
    (λ g low. (let also = zero-add g in λ i. res (pass (ResultEnd (same i)) way ∷ P) (also i))) keeps))

pub plain_out : (p : Plan) (P : List Pass) → IsTurned p P → KeepsTurnsOf p.outcome (λ g. res P (0 + g))
plain_out p P turned = turns_agree p.outcome (res P) (λ g. res P (0 + g)) (λ g low. ap (res P) (sym (zero-add g))) (to_each p P turned).1

pub plain_busy : (p : Plan) (P : List Pass) → some_open (count p.outcome) (res P) ≡ true → some_open (count p.outcome) (λ g. res P (0 + g)) ≡ true
plain_busy p P busy = some_agree (count p.outcome) (λ g. res P (0 + g)) (res P) (λ g low. ap (res P) (zero-add g)) ∙ busy
