-- The plan of `fun a : com . a` behind a Share, and behind two.
use Rattle.std.specs.Prelude.{◌≡◌, ◌≢◌, ℕ, zero, suc, ◌+◌, ◌*◌, ◌<◌, [], ◌∷◌, ◌⊎◌, Some, slice_get, Contains}
use Rattle.std.proofs.Common.{refl, sym, ap, subst, arith, inl, inr}
use Rattle.gos_types.specs.Types.{Com, Fun}
use Rattle.gos_plan.specs.Kinds.{Part, Share}
use Rattle.gos_plan.specs.Plans.{End, PartEnd, ImportEnd, ResultEnd, Joint, IsRight}
use Rattle.gos_plan.specs.Tokens.{IsPortEnd}
use Rattle.gos_plan.proofs.JointLemmas.{IsIn, contained, which_end}
use Rattle.gos_joining.specs.webs.Webs.{joint}
use Rattle.gos_joining.specs.webs.Cutting.{StandsIn}
use Rattle.gos_sharing.specs.sharing.Sharing.{source_end, caller_end}
use Rattle.gos_sharing.specs.behind.SmallBehind.{shared_same, FirstIsBehind}
use Rattle.gos_sharing.specs.function_types.Split.{IsUsed}
use Rattle.gos_sharing.specs.function_types.SmallSplit.{split_same, same_end_moved, same_end_back, one_less, same_split, SameIsSplit, WholeIsNoSplit}

-- a joint among three
one_of : (j a b c : Joint) → IsIn j (a ∷ b ∷ c ∷ []) → (j ≡ a) ⊎ ((j ≡ b) ⊎ (j ≡ c))
one_of j a b c (inl e) = inl e
one_of j a b c (inr (inl e)) = inr (inl e)
one_of j a b c (inr (inr (inl e))) = inr (inr e)
one_of j a b c (inr (inr (inr none))) = absurd none

abbrev Used : End → Type 0
Used = IsUsed same_split

source_used : (h : ℕ) → h < 2 → Used (PartEnd 0 h)
source_used h low = inr (refl, inl low)

caller_used : (j : ℕ) → j < 2 → Used (PartEnd 0 (2 + 0 * 2 + j))
caller_used j low = inr (refl, inr (j, low, refl))

ends_used : (j : Joint) → IsIn j shared_same.joints → Used j.asking × Used j.serving
ends_used j here = elim (one_of j (joint (PartEnd 0 1) (PartEnd 0 0)) (joint (PartEnd 0 2) (ResultEnd 0)) (joint (ResultEnd 1) (PartEnd 0 3)) here) [
  | inl e ↦ subst (λ (x : Joint). Used x.asking × Used x.serving) (sym e) (source_used 1 (omega arith), source_used 0 (omega arith))
  | inr (inl e) ↦ subst (λ (x : Joint). Used x.asking × Used x.serving) (sym e) (caller_used 0 (omega arith), tt)
  | inr (inr e) ↦ subst (λ (x : Joint). Used x.asking × Used x.serving) (sym e) (tt, caller_used 1 (omega arith))
]

used_stands : (e : End) → StandsIn shared_same e → Used e
used_stands e (j, has, stands) =
    let both = ends_used j (contained shared_same.joints j has) in
    elim (which_end e j stands) [
      | inl one ↦ subst Used (sym one) both.0
      | inr one ↦ subst Used (sym one) both.1
    ]

comes_back : (e : End) → same_end_back (same_end_moved e) ≡ e
comes_back (PartEnd zero zero) = refl
comes_back (PartEnd zero (suc zero)) = refl
comes_back (PartEnd zero (suc (suc zero))) = refl
comes_back (PartEnd zero (suc (suc (suc h)))) = refl
comes_back (PartEnd (suc n) h) = refl
comes_back (ImportEnd n h) = refl
comes_back (ResultEnd h) = refl

goes : (d e : End) → Contains shared_same.joints (joint d e) → Contains split_same.joints (joint (same_end_moved d) (same_end_moved e))
goes d e has = elim (one_of (joint d e) (joint (PartEnd 0 1) (PartEnd 0 0)) (joint (PartEnd 0 2) (ResultEnd 0)) (joint (ResultEnd 1) (PartEnd 0 3)) (contained shared_same.joints (joint d e) has)) [
  | inl same ↦ (0, omega arith, λ l. joint (same_end_moved (sym same l).asking) (same_end_moved (sym same l).serving))
  | inr (inl same) ↦ (1, omega arith, λ l. joint (same_end_moved (sym same l).asking) (same_end_moved (sym same l).serving))
  | inr (inr same) ↦ (2, omega arith, λ l. joint (same_end_moved (sym same l).asking) (same_end_moved (sym same l).serving))
]

comes : (a b : End) → Contains split_same.joints (joint a b)
    → (d : End) × (e : End) × Contains shared_same.joints (joint d e) × (same_end_moved d ≡ a) × (same_end_moved e ≡ b)
comes a b has = elim (one_of (joint a b) (joint (PartEnd 1 0) (PartEnd 0 1)) (joint (PartEnd 0 0) (ResultEnd 0)) (joint (ResultEnd 1) (PartEnd 1 1)) (contained split_same.joints (joint a b) has)) [
  | inl same ↦ (PartEnd 0 1, PartEnd 0 0, (0, omega arith, refl), ap (λ (x : Joint). x.asking) (sym same), ap (λ (x : Joint). x.serving) (sym same))
  | inr (inl same) ↦ (PartEnd 0 2, ResultEnd 0, (1, omega arith, refl), ap (λ (x : Joint). x.asking) (sym same), ap (λ (x : Joint). x.serving) (sym same))
  | inr (inr same) ↦ (ResultEnd 1, PartEnd 0 3, (2, omega arith, refl), ap (λ (x : Joint). x.asking) (sym same), ap (λ (x : Joint). x.serving) (sym same))
]

split_right : IsRight split_same
split_right = (((0, 0, refl, refl), refl, refl), (((0, 0, refl, refl), refl, refl), (((0, 0, refl, refl), refl, refl), tt)))

one_only : (P : ℕ → Type 0) → P 0 → (j : ℕ) → j < 1 → P j
one_only P here zero low = here
one_only P here (suc j) low = absurd (omega (arith, low))

other_part : (n : ℕ) → n ≢ 0
    → (slice_get split_same.parts (suc n) ≡ slice_get shared_same.parts n) × (one_less (suc n) ≡ n) × (suc n ≢ 0) × (suc n ≢ 1)
other_part zero own = absurd (own refl)
other_part (suc n) own = (refl, refl, (λ e. omega (arith, e)), λ e. omega (arith, e))

others_back : (n : ℕ) → n ≢ 0 → n ≢ 1 → (suc (one_less n) ≡ n) × (one_less n ≢ 0)
others_back zero one other = absurd (one refl)
others_back (suc zero) one other = absurd (other refl)
others_back (suc (suc n)) one other = (refl, λ e. omega (arith, e))

port_kept : (e : End) → IsPortEnd e → same_end_moved e ≡ e
port_kept (PartEnd n h) port = absurd port
port_kept (ImportEnd n h) port = refl
port_kept (ResultEnd h) port = refl

part_moved : (n h : ℕ) → n ≢ 0 → same_end_moved (PartEnd n h) ≡ PartEnd (suc n) h
part_moved zero h own = absurd (own refl)
part_moved (suc n) h own = refl

pub same_is_split : FirstIsBehind → SameIsSplit
same_is_split first =
    record {
      chosen = omega arith;
      wide_share = refl;
      argument_share = refl;
      outcome_share = refl;
      apart = λ e. omega (arith, e);
      right = first.right;
      also_right = split_right;
      imports = refl;
      outcome = refl;
      parts = other_part;
      others = others_back;
      ports = port_kept;
      ends = part_moved;
      argument_source = one_only (λ j. same_end_moved (source_end 0 j) ≡ caller_end 0 Com 0 j) refl;
      argument_caller = one_only (λ j. same_end_moved (caller_end 0 (Fun Com Com) 0 j) ≡ source_end 0 j) refl;
      outcome_source = one_only (λ j. same_end_moved (source_end 0 (1 + j)) ≡ source_end 1 j) refl;
      outcome_caller = one_only (λ j. same_end_moved (caller_end 0 (Fun Com Com) 0 (1 + j)) ≡ caller_end 1 Com 0 j) refl;
      used = used_stands;
      returns = λ e own. comes_back e;
      joints = goes;
      all = comes;
    }

no_part : (k : Part) → slice_get shared_same.parts 1 ≡ Some k → ⊥
no_part k e = cc e

pub whole_is_no_split : WholeIsNoSplit
whole_is_no_split is = no_part (Share Com) is.outcome_share
