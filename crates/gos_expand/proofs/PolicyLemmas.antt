-- The choice of a policy leaves no combinational cycle; and that of few registers is the one that is asked for.
--
-- Read first: Choices; Choosing. What is a ring of handshakes is a combinational cycle, and the other way round.
use Rattle.std.proofs.Common.{◌≡◌, ◌+◌, ◌<◌, ◌≤◌, ℕ, zero, suc, Bool, true, false, List, [], ◌∷◌, length, slice_get, get_or, Some, refl, sym, ap, subst, ◌∙◌, arith}
use Rattle.std.specs.Prelude.{None}
use Rattle.std.proofs.lemmas.Option.{none-some, slice_get_within, get_or_from_slice_get}
use Rattle.gos_types.specs.Events.{Direction, Request, Answer}
use Rattle.gos_netcheck.specs.Accepted.{IsAccepted}
use Rattle.gos_plan.specs.Plans.{Joint, Plan}
use Rattle.gos_plan.specs.Seen.{SeenPlan, plan_of}
use Rattle.gos_expand.specs.declared.whole.Policy.{Policy}
use Rattle.gos_expand.specs.declared.whole.Policy.TheVariants as policies
use Rattle.gos_expand.specs.Gates.{Making, ForEach}
use Rattle.gos_expand.specs.Starts.{plain, Keep, keep_all, chosen, place_of}
use Rattle.gos_expand.specs.Laid.{laid, circuit_cells}
use Rattle.gos_expand.specs.Choices.{left_out_at, KeepsFewOf, IsLaidBy}
use Rattle.gos_expand.specs.Acceptance.{CanBeLaid}
use Rattle.gos_expand.specs.inner.Directions.{directions}
use Rattle.gos_expand.specs.inner.Numbering.{laying}
use Rattle.gos_expand.specs.inner.Choosing.{KeepsFewRings, IsChoiceOf}
use Rattle.gos_expand.proofs.GoodLemmas.{is_there}
use Rattle.gos_expand.proofs.KeptLemmas.{all_paths}
use Rattle.gos_expand.proofs.AcceptLemmas.{laid_accepted, all_cut}
use Rattle.gos_expand.proofs.RunLemmas.{rings_cycles}

place_low : (x n : ℕ) (way : Direction) → x < n → place_of x way < n + n
place_low x n Request low = omega (arith, low)
place_low x n Answer low = omega (arith, low)

place_high : (x n : ℕ) (way : Direction) → n ≤ x → n + n ≤ place_of x way
place_high x n Request high = omega (arith, high)
place_high x n Answer high = omega (arith, high)

-- behind a list nothing is found
behind_all : (keeps : List Bool) (n : ℕ) → length keeps ≤ n → get_or keeps n true ≡ true
behind_all [] n high = refl
behind_all (k ∷ keeps) zero high = absurd (omega (arith, high))
behind_all (k ∷ keeps) (suc n) high = behind_all keeps n (omega (arith, high))

-- beyond one joint all is kept
pub two_chosen : (request answer : Bool) (j : Joint) (x : ℕ) (way : Direction) → slice_get (j ∷ []) x ≡ None
    → chosen (request ∷ answer ∷ []) x way ≡ true
two_chosen request answer j zero way none = absurd (none-some j (sym none))
two_chosen request answer j (suc x) Request none = behind_all (request ∷ answer ∷ []) (suc x + suc x) (omega arith)
two_chosen request answer j (suc x) Answer none = behind_all (request ∷ answer ∷ []) (suc (suc x + suc x)) (omega arith)

none_beyond : {A : Type 0} (xs : List A) (n : ℕ) → slice_get xs n ≡ None → length xs ≤ n
none_beyond [] n none = omega arith
none_beyond (x ∷ xs) zero none = absurd (none-some x (sym none))
none_beyond (x ∷ xs) (suc n) none = let rest = none_beyond xs n none in omega (arith, rest)

-- what is chosen for a direction
found : (p : Plan) (keeps : List Bool) → length keeps ≡ directions p → (x : ℕ) (j : Joint) (way : Direction) (k : Bool) → slice_get p.joints x ≡ Some j
    → chosen keeps x way ≡ k
    → slice_get keeps (place_of x way) ≡ Some k
found p keeps long x j way k stands is =
    let low = place_low x (length p.joints) way (slice_get_within p.joints x j stands) in
    let here = is_there keeps (place_of x way) (omega (arith, low, long)) in
    here.1 ∙ ap (λ (b : Bool). Some b) (sym (get_or_from_slice_get keeps (place_of x way) here.0 true here.1) ∙ is)

-- few rings are few cycles
pub keeps_few : (making : ℕ → Making) (p : SeenPlan) (root : List ℕ) → CanBeLaid p root → (keeps : List Bool)
    → KeepsFewRings making (plan_of p) keeps
    → KeepsFewOf (λ keep. circuit_cells (laying keep making) (plan_of p)) (plan_of p) (chosen keeps)
keeps_few making p root can keeps few =
    record {
      kept = λ x j way stands is.
          (rings_cycles all_paths (laying (left_out_at (chosen keeps) (place_of x way)) making) p root can).1
          (few.kept (place_of x way) (found (plan_of p) keeps few.all x j way true stands is));
      left_out = λ x j way stands is cycle.
          few.left_out (place_of x way) (found (plan_of p) keeps few.all x j way false stands is)
          ((rings_cycles all_paths (laying (left_out_at (chosen keeps) (place_of x way)) making) p root can).0 cycle);
      beyond = λ x way none.
          let high = place_high x (length (plan_of p).joints) way (none_beyond (plan_of p).joints x none) in
          let long = few.all in
          behind_all keeps (place_of x way) (omega (arith, high, long));
    }

-- the choice of a policy is laid out as it asks
pub laid_by : (policy : Policy) (p : SeenPlan) (root : List ℕ) → CanBeLaid p root → (keeps : List Bool) → IsChoiceOf policy (plan_of p) keeps
    → IsLaidBy policy (plan_of p) root (laid (chosen keeps) (plan_of p) root)
laid_by policies.All p root can keeps all = ap (λ (keep : Keep). laid keep (plan_of p) root) all
laid_by policies.Few p root can keeps few = (chosen keeps, keeps_few (λ i. ForEach) p root can keeps few, refl)

-- without a combinational cycle, so that the netlist is accepted
pub accepted_by : (policy : Policy) (p : SeenPlan) (root : List ℕ) → CanBeLaid p root → (keeps : List Bool) → IsChoiceOf policy (plan_of p) keeps
    → IsAccepted (laid (chosen keeps) (plan_of p) root)
accepted_by policies.All p root can keeps all =
    subst (λ (keep : Keep). IsAccepted (laid keep (plan_of p) root)) (sym all) (laid_accepted keep_all p root can (all_cut p root can))
accepted_by policies.Few p root can keeps few =
    laid_accepted (chosen keeps) p root can (λ cycle. few.ringless ((rings_cycles all_paths (plain (chosen keeps)) p root can).0 cycle))
