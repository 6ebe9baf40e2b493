-- A joining of regular plans that rest does so where each plan but one stands for something of that one.
use Rattle.std.specs.Prelude.{ℕ, zero, suc, ◌+◌, ◌<◌, true, false, List, Option, Some, None, All, slice_get}
use Rattle.std.proofs.Common.{◌≡◌, [], ◌⊎◌, inl, inr, refl, sym, ◌∙◌, ap, subst}
use Rattle.gos_types.specs.Events.{Direction}
use Rattle.gos_types.proofs.ListLemmas.{some_is_not_none}
use Rattle.gos_plan.specs.Kinds.{Part}
use Rattle.gos_plan.specs.Firing.{Rest, State}
use Rattle.gos_plan.specs.Plans.{End, ResultEnd, Plan}
use Rattle.gos_plan.specs.Tokens.{Tokens, Element, Runs, IsIdle}
use Rattle.gos_plan.specs.TokenBits.{LiteralFits}
use Rattle.gos_plan.specs.Orderly.{Open}
use Rattle.gos_plan.specs.Joining.{Place, Wiring, origin, IsJoining}
use Rattle.gos_plan.proofs.JointLemmas.{IsIn}
use Rattle.gos_realises.specs.realises.Regular.{Pass, is_open, count, some_open, IsRegular}
use Rattle.gos_realises.specs.realises.Links.{LinksFit}
use Rattle.gos_realises.proofs.realises.GroundTurnLemmas.{some_there}
use Rattle.gos_realises.proofs.realises.InputLemmas.{passed}
use Rattle.gos_joining.specs.webs.Webs.{joint}
use Rattle.gos_supplies.specs.turns.Rests.{passes, AllShut, Rests}
use Rattle.gos_supplies.proofs.turns.RestLemmas.{passes_are, Neat, neat_first, stays_neat, told_asker, all_shut}
use Rattle.gos_supplies.proofs.turns.RunLemmas.{Reached}
use Rattle.gos_supplies.proofs.turns.TrailLemmas.{LinksArePorts, Trail, plan_at}
use Rattle.gos_supplies.proofs.turns.FollowLemmas.{Family, Seat, seat, at_place, joint_trail, lying}
use Rattle.gos_supplies.proofs.turns.GoesLemmas.{IsTurned, Goes}
use Rattle.gos_supplies.proofs.turns.TurnedLemmas.{res}
use Rattle.gos_supplies.proofs.turns.PassLemmas.{Composes, passes_turns, giver_busy, result_agree}
use Rattle.gos_joining.proofs.renumbered.TurnLemmas.{some_agree}
use Rattle.gos_supplies.proofs.turns.WholeLemmas.{goes_all}

module _ (w : Wiring) (r : Plan) (fit : LinksFit w) (ported : LinksArePorts w) (whole : IsJoining w r)
    (regular : (k : ℕ) (p : Plan) → slice_get w.plans k ≡ Some p → IsRegular p)
    (literals : (k : ℕ) (p : Plan) → slice_get w.plans k ≡ Some p → All LiteralFits p.parts)
    (rests : (k : ℕ) (p : Plan) → slice_get w.plans k ≡ Some p → Rests p) (composes : Composes w r) where
  module _ (s t : Tokens) (xs : List Element) (first : IsIdle r s) (runs : Runs r xs s t) (shut : AllShut (passes r [] xs))
      (F : Family) (o : Open) (so : Goes w r F o (passed r [] xs) t) where
    abbrev past : List Pass
    past = passed r [] xs

    -- nothing is open at the result, so nothing is at those of the plans
    no_result : some_open (count w.outcome) (λ g. res (F w.giver).past (w.skipped + g)) ≡ true → ⊥
    no_result busy = of_open (some_there (count w.outcome) (res past) (some_agree (count w.outcome) (res past) (λ g. res (F w.giver).past (w.skipped + g))
        (result_agree w r fit ported whole composes (λ n. (F n).past) past so.follows.ports) ∙ busy))
      where
        of_open : (k : ℕ) × (k < count w.outcome) × (res past k ≡ true) → ⊥
        of_open (k, low, up) =
            let down : is_open past (ResultEnd k) ≡ false = subst (λ (q : List Pass). is_open q (ResultEnd k) ≡ false) (passes_are r [] xs) (shut (ResultEnd k)) in
            let never : true ≡ false = sym up ∙ down in cc never

    plan_shut : (k : ℕ) (p : Plan) → slice_get w.plans k ≡ Some p → some_open (count p.outcome) (res (F k).past) ≡ true → ⊥
    plan_shut k p is busy =
        no_result (composes.busy_rest (λ n. (F n).past) so.follows.dead (so.turned w.giver composes.giver composes.is_giver)
        (giver_busy w r fit ported whole composes (λ n. (F n).past) so.follows.agree so.turned k p is busy))

    plan_idle : (k : ℕ) (p : Plan) → slice_get w.plans k ≡ Some p → IsIdle p (F k).tokens
    plan_idle k p is =
        rests k p is m.first (F k).tokens m.list m.idle m.runs m.inputs
        (all_shut p m.list m.first (F k).tokens m.runs (subst (IsTurned p) (sym m.is_past) (so.turned k p is))
        (λ busy. plan_shut k p is (subst (λ (q : List Pass). some_open (count p.outcome) (res q) ≡ true) m.is_past busy)))
      where
        m : Reached p (F k).opens (F k).past (F k).tokens
        m = so.reached k p is

    -- so the whole is idle
    neat : Neat r t
    neat = stays_neat r xs s t runs (neat_first r s first)

    at_rest : (i : ℕ) → (t.state i).phase ≡ Rest
    at_rest i = by_part (slice_get r.parts i) refl
      where
        by_part : (f : Option Part) → slice_get r.parts i ≡ f → (t.state i).phase ≡ Rest
        by_part None none = neat.states i none
        by_part (Some f) is =
            let q : Seat w i f = seat w r fit ported whole i f is in
            ap (λ (z : State). z.phase) (so.states i f q is) ∙ (plan_idle q.plan q.of q.is).1 q.part

    trail_plan : (n : ℕ) (a c : Place) → (a_there : (p : Plan) × (slice_get w.plans a.plan ≡ Some p)) → Trail w n a c → (p : Plan) × (slice_get w.plans c.plan ≡ Some p)
    trail_plan zero a c (p, is) same = (p, ap (λ (z : Place). slice_get w.plans z.plan) (sym same) ∙ is)
    trail_plan (suc n) a c there (b, e, t, seg, linked, (x, at, asks)) = let (p, is, has) = plan_at w c x at in (p, is)

    joint_empty : (way : Direction) (a b : End) → IsIn (joint a b) r.joints → t.in_place way a ≡ None
    joint_empty way a b has = by_held (t.in_place way a) refl
      where
        by_held : (h : Option ℕ) → t.in_place way a ≡ h → h ≡ None
        by_held None none = refl
        by_held (Some v) held =
            let (n, c, trail, lies) = so.follows.lies a b has way v held in
            let (x, at_a, asks) = (joint_trail w r fit ported whole a b has).0 in
            let (q, is_q, has_q) = plan_at w (origin w a) x (at_place w r fit ported whole a x at_a) in
            let (p, is) = trail_plan n (origin w a) c (q, is_q) trail in
            absurd (some_is_not_none v (lying F way c) lies ((plan_idle c.plan p is).0 way c.end))

    place_empty : (way : Direction) (a : End) → t.in_place way a ≡ None
    place_empty way a = by_joint (told_asker r.joints a)
      where
        by_joint : ((b : End) × IsIn (joint a b) r.joints) ⊎ ((b : End) → IsIn (joint a b) r.joints → ⊥) → t.in_place way a ≡ None
        by_joint (inl (b, has)) = joint_empty way a b has
        by_joint (inr none) = neat.places way a none

    idle_then : IsIdle r t
    idle_then = (place_empty, at_rest)

  pub joining_rests : Rests r
  joining_rests s t xs idle runs inputs shut =
      let (F, o, so) = goes_all w r fit ported whole regular literals (passes_turns w r fit ported whole composes) s t xs idle runs inputs in
      idle_then s t xs idle runs shut F o so
