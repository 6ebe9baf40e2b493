-- Small examples of numbers that are parted and bound, and of what ties speak.
use Rattle.std.specs.Prelude.{◌≤◌, ℕ, zero, suc, [], ◌∷◌, Contains}
use Rattle.std.proofs.Common.{arith, subst, ◌≡◌, ap, refl}
use Rattle.gos_model.proofs.NumberLemmas.{number_cases}
use Rattle.gos_model.specs.Typing.{array_type, index_width}
use Rattle.gos_plan.specs.Kinds.{asks}
use Rattle.gos_plan.specs.Plans.{PartEnd, ImportEnd, ResultEnd, Joint}
use Rattle.gos_joining.specs.webs.Webs.{joint}
use Rattle.gos_supplies.specs.names.Names.{name_plan}
use Rattle.gos_check.specs.Linearity.{times}
use Rattle.gos_check.proofs.TimesLemmas.{times_same, times_other}
use Rattle.gos_terms.specs.regions.SmallFrames.{UsesAreParted, SharedIsNotParted, UseIsBound, OtherIsNotBound, UseSpeaksOfIt, NotOfParts, PortsHaveNames, GroundNameIsNone, WholeIsKept, TornIsNotKept}
use Rattle.gos_terms.proofs.regions.HolderLemmas.{OneNumber, ManyNumbers, holder_name}

-- a list of one number has it once, and of two numbers each once
one_at_most : (k a : ℕ) → times k (a ∷ []) ≤ 1
one_at_most k a =
    number_cases a k (λ same test. subst (λ n. times n (a ∷ []) ≤ 1) same (let one = times_same a [] in omega (arith, one)))
    (λ other test. let none = times_other k a [] other in omega (arith, none))

two_at_most : (k : ℕ) → times k (0 ∷ 1 ∷ []) ≤ 1
two_at_most k =
    number_cases 0 k (λ same test. subst (λ n. times n (0 ∷ 1 ∷ []) ≤ 1) same (omega arith))
    (λ other test. let rest = times_other k 0 (1 ∷ []) other in let one = one_at_most k 1 in omega (arith, rest, one))

pub uses_are_parted : UsesAreParted
uses_are_parted =
    record {
      once = λ k. (let two = two_at_most k in omega (arith, two));
      split = λ k. omega arith;
      left = λ k some. omega (arith, some);
      right = λ k some. omega (arith, some);
    }

pub shared_is_not_parted : SharedIsNotParted
shared_is_not_parted ms ks are =
    let one = are.left 0 (omega arith) in
    let other = are.right 0 (omega arith) in
    let both = are.split 0 in omega (arith, one, other, both)

pub use_is_bound : UseIsBound
use_is_bound = record { once = λ k. (let one = one_at_most k 0 in omega (arith, one)); knows = λ k some. omega (arith, some) }

pub other_is_not_bound : OtherIsNotBound
other_is_not_bound is = let some = is.knows 1 (omega arith) in omega (arith, some)

pub use_speaks_of_it : UseSpeaksOfIt
use_speaks_of_it types = omega arith

pub not_of_parts : NotOfParts
not_of_parts types k (low, high) = omega (arith, low, high)

pub whole_is_kept : WholeIsKept
whole_is_kept i h k n at = let same : 1 ≡ k = cc at in ap (λ (x : ℕ). ImportEnd x n) same

pub torn_is_not_kept : TornIsNotKept
torn_is_not_kept keeps = let clash : PartEnd 0 0 ≡ ImportEnd 1 1 = keeps 0 0 1 1 refl in cc clash

pub ports_have_names : PortsHaveNames
ports_have_names x k w = (holder_name (OneNumber w) x, holder_name (ManyNumbers k w) x)

apart : (h : ℕ) → joint (ResultEnd h) (ImportEnd 0 h) ≡ joint (ImportEnd 0 0) (ResultEnd 0) → ⊥
apart h e = let ends : ResultEnd h ≡ ImportEnd 0 0 = ap (λ (j : Joint). j.asking) e in cc ends

pub ground_name_is_none : GroundNameIsNone
ground_name_is_none x k w is = by_place (is.asking 0 (asks 0 (index_width k)) refl refl)
  where
    by_place : Contains (name_plan x (array_type k w)).joints (joint (ImportEnd 0 0) (ResultEnd 0)) → ⊥
    by_place (zero, lt, e) = apart 0 e
    by_place (suc zero, lt, e) = apart 1 e
    by_place (suc (suc zero), lt, e) = apart 2 e
    by_place (suc (suc (suc n)), lt, e) = omega (arith, lt)
