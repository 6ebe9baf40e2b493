-- A policy gives a plan one netlist: where few registers are kept, the direction at each place is decided by those before it.
use Rattle.std.specs.Prelude.{◌≡◌, ℕ, zero, suc, ◌<◌, Bool, true, false, not, List, Option, Some, None, slice_get, nat_eq, nat_lt, if◌then◌else◌}
use Rattle.std.proofs.Common.{refl, sym, ◌∙◌, ap, subst, arith}
use Rattle.std.proofs.lemmas.Bool.Decides.{nat_tests}
use Rattle.gos_types.specs.Events.{Direction}
use Rattle.gos_netlist.specs.Nets.{Cell}
use Rattle.gos_netlist.specs.Cycles.{HasCycle}
use Rattle.gos_plan.specs.Plans.{Joint, Plan}
use Rattle.gos_expand.specs.declared.whole.Policy.TheVariants.{All, Few}
use Rattle.gos_expand.specs.Starts.{Keep, place_of}
use Rattle.gos_expand.specs.Laid.{laid_cells, laid}
use Rattle.gos_expand.specs.Choices.{left_out_at, KeepsFewOf, LaidByIsOne}

-- choices that agree before a place agree without the direction there
agree_without : (one other : Keep) (n : ℕ) → ((x : ℕ) (way : Direction) → place_of x way < n → one x way ≡ other x way)
    → left_out_at one n ≡ left_out_at other n
agree_without one other n agree = λ i x way. path x way i
  where
    path : (x : ℕ) (way : Direction) → left_out_at one n x way ≡ left_out_at other n x way
    path x way = by (nat_lt (place_of x way) n) refl
      where
        by : (b : Bool) → nat_lt (place_of x way) n ≡ b
            → (if b then one x way else not (nat_eq (place_of x way) n)) ≡ (if b then other x way else not (nat_eq (place_of x way) n))
        by true low = agree x way (grind (arith, nat_tests, low))
        by false low = refl

module _ (cells : Keep → List Cell) (p : Plan) (one other : Keep) (few : KeepsFewOf cells p one) (also : KeepsFewOf cells p other) where
  decided : (x : ℕ) (way : Direction) → left_out_at one (place_of x way) ≡ left_out_at other (place_of x way)
      → (o : Option Joint) → slice_get p.joints x ≡ o → (a b : Bool) → one x way ≡ a → other x way ≡ b → a ≡ b
  decided x way same None there a b here here_too = sym here ∙ (few.beyond x way there ∙ (sym (also.beyond x way there) ∙ here_too))
  decided x way same (Some j) there true true here here_too = refl
  decided x way same (Some j) there false false here here_too = refl
  decided x way same (Some j) there true false here here_too =
      absurd (also.left_out x j way there here_too (subst (λ (keep : Keep). HasCycle (cells keep)) same (few.kept x j way there here)))
  decided x way same (Some j) there false true here here_too =
      absurd (few.left_out x j way there here (subst (λ (keep : Keep). HasCycle (cells keep)) (sym same) (also.kept x j way there here_too)))

  below : (n x : ℕ) (way : Direction) → place_of x way < n → one x way ≡ other x way
  below zero x way low = absurd (omega (arith, low))
  below (suc n) x way low =
      decided x way (agree_without one other (place_of x way) (λ y to before. below n y to (omega (arith, low, before)))) (slice_get p.joints x) refl
      (one x way) (other x way) refl refl

  pub few_is_one : one ≡ other
  few_is_one = λ i x way. below (suc (place_of x way)) x way (omega arith) i

pub laid_by_is_one : LaidByIsOne
laid_by_is_one All p root n m one other = one ∙ sym other
laid_by_is_one Few p root n m (keep, few, one) (keep_too, also, other) =
    one ∙ (ap (λ (k : Keep). laid k p root) (few_is_one (λ k. laid_cells k p) p keep keep_too few also) ∙ sym other)
