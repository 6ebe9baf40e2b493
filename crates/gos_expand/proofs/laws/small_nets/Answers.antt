use Rattle.std.proofs.Common.{arith, refl, List, ℕ, zero, suc, [], ◌∷◌, codes, Some, ◌≡◌, slice_get, ◌<◌}
use Rattle.std.proofs.lemmas.Option.{none-some}
use Rattle.std.proofs.lemmas.List.Elements.{All-from_recursion}
use Rattle.gos_plan.specs.Ranges.{IsInRange}
use Rattle.gos_plan.specs.declared.kinds.Kind.TheVariants as kinds
use Rattle.gos_expand.proofs.SmallChoiceLemmas.{ring_left}
use Rattle.gos_expand.proofs.laws.small_nets.Goals as goal

pub returns-clause-laid : goal.returns-clause-laid
returns-clause-laid c = refl

pub returns-clause-chosen : goal.returns-clause-chosen
returns-clause-chosen c = (refl, refl)

pub returns-clause-ring : goal.returns-clause-ring
returns-clause-ring c = ring_left

-- one name is not two
one_name : (name : List ℕ) (i j : ℕ) (a b : List ℕ) → i < j → slice_get (name ∷ []) i ≡ Some a → slice_get (name ∷ []) j ≡ Some b → ⊥
one_name name i zero a b low is there = omega (arith, low)
one_name name i (suc j) a b low is there = none-some b there

pub returns-clause-can : goal.returns-clause-can
returns-clause-can c = (
  refl,
  record {
    in_range =
        record {
          of_imports = λ k d low. absurd (omega (arith, low));
          of_result = (tt, omega arith);
          of_parts = All-from_recursion IsInRange (kinds.Skip ∷ []) (tt, tt);
        };
    right = (((0, 0, refl, refl), refl, refl), tt);
    ports = record { result = tt; ground = λ k d low. absurd (omega (arith, low)) };
    names = λ i j a b low is there same. one_name (codes "main") i j a b low is there;
  },
)
