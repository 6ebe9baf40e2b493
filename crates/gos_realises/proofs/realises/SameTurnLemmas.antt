-- The plan of `fun a : com . a` is regular: the ring of its run, of the argument's run and answer, and of its own answer.
use Rattle.std.specs.Prelude.{◌≡◌, ℕ, zero, suc, ◌<◌, true, false, ◌⊎◌, Some}
use Rattle.std.proofs.Common.{refl, arith, inl, inr}
use Rattle.gos_types.specs.Events.{Request, Answer}
use Rattle.gos_plan.specs.Firing.{Slot}
use Rattle.gos_plan.specs.Plans.{End, PartEnd, ImportEnd, ResultEnd}
use Rattle.gos_plan.specs.Tokens.{Tokens, Fire, Out, In, Does}
use Rattle.gos_plan.specs.SmallPlans.{same_plan}
use Rattle.gos_realises.specs.realises.Regular.{IsRegular}
use Rattle.gos_realises.proofs.realises.RingLemmas.{circle_is_regular}
use Rattle.gos_realises.proofs.realises.RelayLemmas.{Stage, Resting, next, succ, At, OpenAt, Opened, IsRelay, circle, first}

fires_none : (i : ℕ) (x : Slot) (s w : Tokens) → Does same_plan (Fire i x) s w → ⊥
fires_none i x s w (v, r, lies, fires, leads) = cc fires

-- an output takes what lies on the joint
out_of : (e : End) (v : ℕ) (s w : Tokens) → Does same_plan (Out e v) s w
    → ((e ≡ ResultEnd 1) × (s.in_place Answer (ResultEnd 1) ≡ Some v)) ⊎ ((e ≡ ResultEnd 0) × (s.in_place Request (ResultEnd 1) ≡ Some v))
out_of (PartEnd i h) v s w does = absurd does.0
out_of (ImportEnd i h) v s w does = absurd does.1
out_of (ResultEnd zero) v s w does = inr (refl, does.1.0)
out_of (ResultEnd (suc zero)) v s w does = inl (refl, does.1.0)
out_of (ResultEnd (suc (suc h))) v s w does = absurd does.1

in_of : (e : End) (v : ℕ) (s w : Tokens) → Does same_plan (In e v) s w → ((e ≡ ResultEnd 1) ⊎ (e ≡ ResultEnd 0)) × (v ≡ 0)
in_of (PartEnd i h) v s w does = absurd does.0
in_of (ImportEnd i h) v s w does = absurd does.1
in_of (ResultEnd zero) v s w does = let small : v < 1 = does.1.0 in (inr refl, omega (arith, small))
in_of (ResultEnd (suc zero)) v s w does = let small : v < 1 = does.1.0 in (inl refl, omega (arith, small))
in_of (ResultEnd (suc (suc h))) v s w does = absurd does.1

same_is_relay : IsRelay same_plan (ResultEnd 1) (ResultEnd 0)
same_is_relay =
    record {
      asking = refl;
      serving = refl;
      at_a = refl;
      at_b = refl;
      a_not_b = refl;
      b_not_a = refl;
      fires = λ i x s w does. fires_none i x s w does;
      none = λ i h c there. cc there;
      out_of = out_of;
      in_of = in_of;
      asks_in_turn = λ past up down. (down, (tt, tt, λ asked. rw up refl));
      answers_in_turn = λ past up down. (up, (tt, tt, λ asked. let no : false ≡ true = rw down at asked in absurd (cc no)));
    }

pub same_is_regular : IsRegular same_plan
same_is_regular =
    circle_is_regular same_plan Stage (next (ResultEnd 1) (ResultEnd 0)) succ (At (ResultEnd 1)) (OpenAt (ResultEnd 1)) (Opened (ResultEnd 1) (ResultEnd 0))
    (circle same_plan (ResultEnd 1) (ResultEnd 0) same_is_relay) Resting (first same_plan (ResultEnd 1) (ResultEnd 0) same_is_relay)
