-- The beginning of a trace is a trace, so one label at most is the first that can't come.
use Rattle.std.proofs.Common.{◌≡◌, ◌<◌, ◌≤◌, ℕ, zero, suc, Bool, true, false, nat_lt, List, [], ◌∷◌, take, refl, ap, subst, arith, ◌∙◌}
use Rattle.gos_model.specs.Labels.{Label}
use Rattle.gos_model.specs.Moves.{Program, Config, Act, Computing, Showing, Moves, Trace, labels}
use Rattle.gos_witness.specs.Find.{IsNotTrace, OneIsNotTrace, ExplainedIsNotRefused}
use Rattle.gos_witness.proofs.ExplainLemmas.{explained_is_trace}

-- the moves up to the label before number k
cut : (p : Program) (k : ℕ) (acts : List Act) (c d : Config) → Moves p acts c d
    → (before : List Act) × (e : Config) × Moves p before c e × (labels before ≡ take k (labels acts))
cut p zero acts c d h = ([], c, refl, refl)
cut p (suc k) [] c d h = ([], c, refl, refl)
cut p (suc k) (Computing ∷ acts) c d (b, move, rest) =
    let (before, e, moves, are) = cut p (suc k) acts b d rest in (Computing ∷ before, e, (b, move, moves), are)
cut p (suc k) (Showing o ∷ acts) c d (b, move, rest) =
    let (before, e, moves, are) = cut p k acts b d rest in (Showing o ∷ before, e, (b, move, moves), ap (λ ls. o ∷ ls) are)

pub beginning : (p : Program) (ls : List Label) (k : ℕ) → Trace p ls → Trace p (take k ls)
beginning p ls k (acts, c, moves, are) =
    let (before, e, first, is) = cut p k acts _ c moves in (before, e, first, is ∙ ap (take k) are)

fewer : (i k : ℕ) (ls : List Label) → i ≤ k → take i (take k ls) ≡ take i ls
fewer zero k ls h = refl
fewer (suc i) zero ls h = absurd (omega (arith, h))
fewer (suc i) (suc k) [] h = refl
fewer (suc i) (suc k) (o ∷ ls) h = ap (λ xs. o ∷ xs) (fewer i k ls (omega (arith, h)))

-- a label that can't come isn't before one that is the first that can't
not_before : (p : Program) (ls : List Label) (j k : ℕ) → IsNotTrace p ls j → IsNotTrace p ls k → j < k → ⊥
not_before p ls j k first later less =
    first.none (subst (Trace p) (fewer (suc j) k ls (omega (arith, less))) (beginning p (take k ls) (suc j) later.before))

pub one_is_not_trace : OneIsNotTrace
one_is_not_trace p ls j k one other = by (nat_lt j k) refl (nat_lt k j) refl
  where
    by : (a : Bool) → nat_lt j k ≡ a → (b : Bool) → nat_lt k j ≡ b → j ≡ k
    by true e b f = absurd (not_before p ls j k one other (grind (arith, e)))
    by false e true f = absurd (not_before p ls k j other one (grind (arith, f)))
    by false e false f = grind (arith, e, f)

pub explained_is_not_refused : ExplainedIsNotRefused
explained_is_not_refused p ls lines k explained refused =
    refused.none (beginning p ls (suc k) (explained_is_trace p ls lines explained))
