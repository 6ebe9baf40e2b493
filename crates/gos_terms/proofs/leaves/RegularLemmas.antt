-- Leaves are regular and rest.
use Rattle.std.specs.Prelude.{◌≡◌, ℕ, Bool, false, [], ◌∷◌}
use Rattle.std.proofs.Common.{refl, sym, ◌∙◌}
use Rattle.gos_types.specs.Types.{Com, Exp, Var}
use Rattle.gos_types.proofs.BoolLemmas.{true_is_not_false}
use Rattle.gos_model.specs.Terms as terms
use Rattle.gos_check.specs.Nodes.{Closed, Use, One, OfDeref}
use Rattle.gos_plan.specs.Kinds as kinds
use Rattle.gos_plan.specs.Plans.{End, ResultEnd}
use Rattle.gos_plan.specs.SmallPlans.{skip_plan}
use Rattle.gos_plan.specs.Tokens.{Tokens, IsIdle}
use Rattle.gos_realises.specs.realises.Regular.{IsRegular}
use Rattle.gos_realises.specs.realises.Wirings.{lone, reading}
use Rattle.gos_realises.proofs.realises.OneJointLemmas.{is_idle}
use Rattle.gos_realises.proofs.realises.RingLemmas.{circle_is_regular}
use Rattle.gos_realises.proofs.realises.SkipLemmas as skipping
use Rattle.gos_realises.proofs.realises.SkipLemmas.{Stage, Resting, Asked, Answered, skip_is_realised}
use Rattle.gos_supplies.specs.literals.Literals.{done_plan}
use Rattle.gos_supplies.proofs.literals.ClosedLemmas.{same_renumbered}
use Rattle.gos_supplies.proofs.literals.LeafLemmas.{done_is_realised}
use Rattle.gos_joining.specs.renumbered.SmallRewirings.{unchanged}
use Rattle.gos_supplies.proofs.turns.NumberRestLemmas.{renumbered_rests}
use Rattle.gos_supplies.proofs.literals.NumberLemmas as numbers
use Rattle.gos_supplies.specs.turns.Rests.{Rests}
use Rattle.gos_supplies.proofs.turns.CircleRestLemmas.{circle_rests}
use Rattle.gos_joining.specs.webs.Webs.{own_web}
use Rattle.gos_terms.specs.leaves.RegularLeaves.{UseIsRegular, SkipIsRegular, LiteralIsRegular}
use Rattle.gos_terms.specs.leaves.Readings.{ReadIsRegular}
use Rattle.gos_terms.proofs.leaves.ReaderLemmas.{reading_is_regular}
use Rattle.gos_terms.proofs.leaves.ReadLemmas.{read_leaf}
use Rattle.gos_realises.proofs.joined.WholeLemmas.{variables_are_joined}
use Rattle.gos_joining.specs.unions.Unions.{union}
use Rattle.gos_terms.proofs.leaves.LeafLemmas.{leaf_regular}
use Rattle.gos_terms.proofs.leaves.UseLemmas.{use_leaf}
use Rattle.gos_terms.proofs.leaves.ClosedLemmas.{closed_leaf}

-- the plan of `skip`, and of a number
skip_plan_rests : Rests skip_plan
skip_plan_rests = circle_rests skip_plan Stage skipping.next skipping.succ skipping.At skipping.OpenAt skipping.Opened skipping.circle Resting skipping.first shuts
  where
    shuts : (z : Stage) (t : Tokens) (F : End → Bool) → skipping.At z t → skipping.Opened z F → ((e : End) → F e ≡ false) → IsIdle skip_plan t
    shuts Resting t F here opened shut = is_idle (ResultEnd 0) skip_plan t here
    shuts Asked t F here opened shut = absurd (true_is_not_false (F (ResultEnd 0)) opened (shut (ResultEnd 0)))
    shuts Answered t F here opened shut = absurd (true_is_not_false (F (ResultEnd 0)) opened (shut (ResultEnd 0)))

skip_regular : IsRegular (lone kinds.Skip 0 Com)
skip_regular = (done_is_realised 0).suits.regular

skip_rests : Rests (lone kinds.Skip 0 Com)
skip_rests =
    let right = skip_is_realised.suits.right in
    renumbered_rests unchanged (done_plan 0) skip_plan (same_renumbered (done_plan 0) skip_plan refl refl refl (λ a b. ((λ h. h), (λ h. h))) right right) skip_plan_rests

number_regular : (w k : ℕ) → IsRegular (lone (kinds.Lit w k) 0 (Exp w))
number_regular w k =
    circle_is_regular (lone (kinds.Lit w k) 0 (Exp w)) Stage _ skipping.succ (numbers.At 0 w k) skipping.OpenAt skipping.Opened (numbers.circle 0 w k)
    Resting (numbers.first 0 w k)

number_rests : (w k : ℕ) → Rests (lone (kinds.Lit w k) 0 (Exp w))
number_rests w k =
    circle_rests (lone (kinds.Lit w k) 0 (Exp w)) Stage _ skipping.succ (numbers.At 0 w k) skipping.OpenAt skipping.Opened (numbers.circle 0 w k) Resting
    (numbers.first 0 w k) shuts
  where
    shuts : (z : Stage) (t : Tokens) (F : End → Bool) → numbers.At 0 w k z t → skipping.Opened z F → ((e : End) → F e ≡ false)
        → IsIdle (lone (kinds.Lit w k) 0 (Exp w)) t
    shuts Resting t F here opened shut = is_idle (ResultEnd 0) (lone (kinds.Lit w k) 0 (Exp w)) t here
    shuts Asked t F here opened shut = absurd (true_is_not_false (F (ResultEnd 0)) opened (shut (ResultEnd 0)))
    shuts Answered t F here opened shut = absurd (true_is_not_false (F (ResultEnd 0)) opened (shut (ResultEnd 0)))

pub use_is_regular : UseIsRegular
use_is_regular types ns n t has same i j env pl r is are names literals =
    let one = are n has in
    leaf_regular types i j (Use t [] n) ns env (env n).plan (own_web (env n).plan) (use_leaf types i j n t ns env has same one.right (one.outcome ∙ sym same)) pl r is
    one.regular one.rests

pub skip_is_regular : SkipIsRegular
skip_is_regular types ns i j env pl r is are names literals =
    leaf_regular types i j (Closed Com [] terms.Skip) ns env (lone kinds.Skip 0 Com) (own_web (lone kinds.Skip 0 Com))
    (closed_leaf types i j Com terms.Skip ns env kinds.Skip refl refl (((0, 0, refl, refl), refl, refl), tt)) pl r is skip_regular skip_rests

pub literal_is_regular : LiteralIsRegular
literal_is_regular types ns w k i j env pl r is are names literals =
    leaf_regular types i j (Closed (Exp w) [] (terms.Lit k w)) ns env (lone (kinds.Lit w k) 0 (Exp w)) (own_web (lone (kinds.Lit w k) 0 (Exp w)))
    (closed_leaf types i j (Exp w) (terms.Lit k w) ns env (kinds.Lit w k) refl refl (((0, w, refl, refl), refl, refl), tt)) pl r is (number_regular w k) (number_rests w k)

pub read_is_regular : ReadIsRegular
read_is_regular types ns n w has same i j env pl r is are names literals =
    let one = are n has in
    let outcome = one.outcome ∙ same in
    let (s, joined) = (variables_are_joined w 0 (env n).plan one.right outcome).0 in
    let both = reading_is_regular w (env n).plan s outcome one.literals one.regular one.rests joined in
    leaf_regular types i j (One (Exp w) [] OfDeref (Use (Var w) [] n)) ns env s (union (reading w (env n).plan) (own_web (env n).plan ∷ own_web (lone (kinds.Deref w) 1 (Exp w)) ∷ []))
    (read_leaf types i j w n ns env has same one.right s joined) pl r is both.0 both.1
