-- The fast circuit of the plan of `skip`.
use Rattle.std.proofs.Common.{◌≡◌, ◌⊎◌, ℕ, zero, suc, ◌<◌, false, true, [], ◌∷◌, Some, None, Bool, length, if◌then◌else◌, slice_get, inl, inr, refl, sym, ap, subst, arith}
use Rattle.std.specs.Prelude.{codes}
use Rattle.std.proofs.lemmas.Option.{none-some}
use Rattle.gos_types.specs.Types.{Type'}
use Rattle.gos_types.specs.Events.{Direction, Request, Answer}
use Rattle.gos_netlist.specs.Cycles.{HasCycle}
use Rattle.gos_netlist.specs.Nets.{Netlist}
use Rattle.gos_plan.specs.Kinds.{Part, Skip, Share, part_contacts}
use Rattle.gos_plan.specs.Plans.{End, PartEnd, ImportEnd, ResultEnd, Joint, same_end}
use Rattle.gos_plan.specs.SmallPlans.{skip_plan}
use Rattle.gos_expand.specs.Starts.{chosen, place_of, plain}
use Rattle.gos_expand.specs.Laid.{Seat, seat_of, laid_cells}
use Rattle.gos_expand.specs.Choices.{left_out_at}
use Rattle.gos_expand.specs.Facts.{source, target, PassesOn, Rises}
use Rattle.gos_expand.specs.SmallFast.{straight, skip_depth, SkipIsFast, RegistersAreNotFast, SkipHasDepths, OneIsNoDepth, NoneIsNoDepth}
use Rattle.gos_expand.specs.SmallNets.{skip_netlist, skip_straight}
use Rattle.gos_expand.proofs.PolicyLemmas.{two_chosen}
use Rattle.gos_expand.proofs.SmallChoiceLemmas as small
use Rattle.gos_expand.proofs.FastLemmas.{fast_is_one}

abbrev skip_joint : Joint
skip_joint = record { asking = ResultEnd 0; serving = PartEnd 0 0 }

skip_kept : (x : ℕ) (j : Joint) (way : Direction) → slice_get skip_plan.joints x ≡ Some j → chosen (false ∷ false ∷ []) x way ≡ true
    → HasCycle (laid_cells (left_out_at (chosen (false ∷ false ∷ [])) (place_of x way)) skip_plan)
skip_kept zero j Request there is = absurd (cc is)
skip_kept zero j Answer there is = absurd (cc is)
skip_kept (suc x) j way there is = absurd (none-some j there)

skip_left_out : (x : ℕ) (j : Joint) (way : Direction) → slice_get skip_plan.joints x ≡ Some j → chosen (false ∷ false ∷ []) x way ≡ false
    → HasCycle (laid_cells (left_out_at (chosen (false ∷ false ∷ [])) (place_of x way)) skip_plan)
    → ⊥
skip_left_out zero j Request there is = small.skip_answered
skip_left_out zero j Answer there is = small.skip_straight
skip_left_out (suc x) j way there is = absurd (none-some j there)

-- what the part answers comes to the result
answered : PassesOn straight skip_plan 0 0 (ResultEnd 0)
answered =
    record {
      joint = 0;
      passed = skip_joint;
      way = Answer;
      part = Skip;
      out = 0;
      stands = refl;
      straight = refl;
      leaves = refl;
      there = refl;
      from_there = omega arith;
      out_there = omega arith;
      passes = refl;
      arrives = refl;
    }

skip_rises : Rises straight skip_plan skip_depth
skip_rises zero zero to x = by_joint x.joint x.passed x.way x.stands x.leaves x.arrives
  where
    by_joint : (n : ℕ) (j : Joint) (way : Direction) → slice_get skip_plan.joints n ≡ Some j → source j way ≡ PartEnd 0 x.out → target j way ≡ to → 1 < skip_depth to
    by_joint zero j Request there leaves arrives = absurd (cc (there, leaves))
    by_joint zero j Answer there leaves arrives =
        let is : ResultEnd 0 ≡ to = cc (there, arrives) in
        subst (λ (e : End). 1 < skip_depth e) is (omega arith)
    by_joint (suc n) j way there leaves arrives = absurd (none-some j there)
skip_rises zero (suc from) to x =
    let same : Skip ≡ x.part = cc x.there in
    let low : suc from < 1 = subst (λ (k : Part). suc from < length (part_contacts k)) (sym same) x.from_there in
    absurd (omega (arith, low))
skip_rises (suc i) from to x = absurd (none-some x.part x.there)

pub skip_has_depths : SkipHasDepths
skip_has_depths =
    record {
      rises = skip_rises;
      loose = loose;
      least = least;
    }
  where
    loose : (e : End) → seat_of skip_plan e ≡ None → skip_depth e ≡ 0
    loose (PartEnd zero zero) none = absurd (cc none)
    loose (PartEnd zero (suc h)) none = refl
    loose (PartEnd (suc i) h) none = refl
    loose (ImportEnd i h) none = refl
    loose (ResultEnd zero) none = absurd (cc none)
    loose (ResultEnd (suc h)) none = refl

    least : (e : End) (s : Seat) → seat_of skip_plan e ≡ Some s
        → (skip_depth e ≡ 1) ⊎ ((i from : ℕ) × PassesOn straight skip_plan i from e × (skip_depth e ≡ suc (skip_depth (PartEnd i from))))
    least (PartEnd zero zero) s seat = inl refl
    least (PartEnd zero (suc h)) s seat =
        let other : same_end (PartEnd 0 (suc h)) (PartEnd 0 0) ≡ false = grind arith in
        absurd (none-some s (subst (λ (b : Bool). (if b then Some (record { joint = 0; way = Request; other = ResultEnd 0 }) else None) ≡ Some s) other seat))
    least (PartEnd (suc i) h) s seat =
        let other : same_end (PartEnd (suc i) h) (PartEnd 0 0) ≡ false = grind arith in
        absurd (none-some s (subst (λ (b : Bool). (if b then Some (record { joint = 0; way = Request; other = ResultEnd 0 }) else None) ≡ Some s) other seat))
    least (ImportEnd i h) s seat = absurd (none-some s seat)
    least (ResultEnd zero) s seat = inr (0, 0, answered, refl)
    least (ResultEnd (suc h)) s seat =
        let other : same_end (ResultEnd (suc h)) (ResultEnd 0) ≡ false = grind arith in
        absurd (none-some s (subst (λ (b : Bool). (if b then Some (record { joint = 0; way = Answer; other = PartEnd 0 0 }) else None) ≡ Some s) other seat))

pub skip_is_fast : SkipIsFast
skip_is_fast = (
  plain (chosen (false ∷ false ∷ [])),
  record {
    few = record { kept = skip_kept; left_out = skip_left_out; beyond = λ x way none. two_chosen false false skip_joint x way none };
    rank = skip_depth;
    depths = skip_has_depths;
    follow = record { shares = λ i t is. absurd (no_share i t is); others = λ i other. refl };
  },
  refl,
)
  where
    no_share : (i : ℕ) (t : Type') → slice_get skip_plan.parts i ≡ Some (Share t) → ⊥
    no_share zero t is = cc is
    no_share (suc i) t is = none-some (Share t) is

pub registers_are_not_fast : RegistersAreNotFast
registers_are_not_fast fast =
    let same = fast_is_one skip_plan (codes "main") skip_netlist skip_straight fast skip_is_fast in
    let sizes : length skip_netlist.cells ≡ length skip_straight.cells = ap (λ (net : Netlist). length net.cells) same in
    omega (arith, sizes)

pub one_is_no_depth : OneIsNoDepth
one_is_no_depth depths = let up = depths.rises 0 0 (ResultEnd 0) answered in omega (arith, up)

pub none_is_no_depth : NoneIsNoDepth
none_is_no_depth depths = let up = depths.rises 0 0 (ResultEnd 0) answered in omega (arith, up)
