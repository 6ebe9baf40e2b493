-- The Share of the first child of `c ; c` is loyal to it: while `c` is under way the Share has taken its first caller's request.
use Rattle.std.specs.Prelude.{◌≡◌, ℕ, zero, suc, ◌+◌, ◌*◌, ◌<◌, true, Some, None, List, [], ◌∷◌}
use Rattle.std.proofs.Common.{sym, ◌∙◌, ap, subst, arith}
use Rattle.std.proofs.lemmas.Option.{none-some, same_Some}
use Rattle.gos_types.specs.Types.{Com}
use Rattle.gos_types.specs.Events.{Request, Answer}
use Rattle.gos_plan.specs.Kinds.{Share}
use Rattle.gos_plan.specs.Firing.{Phase, Rest, State, Slot, Req, Ans, Row, row, at, put, row_for, rows}
use Rattle.gos_plan.specs.Plans.{PartEnd, ImportEnd, ResultEnd}
use Rattle.gos_plan.specs.Tokens.{Tokens, Element, Fire, Out, In, shake_of, fired, Does, Runs, IsIdle}
use Rattle.gos_plan.proofs.TurnLemmas.{fired_state}
use Rattle.gos_realises.specs.realises.Regular.{Pass, is_open, InputsKeepTurns}
use Rattle.gos_realises.proofs.realises.InputLemmas.{InputTurns, first_turn, later_turns}
use Rattle.gos_realises.proofs.realises.RingLemmas.{after}
use Rattle.gos_nodes.specs.windows.SmallNodes.{call_plan, CallIsLoyal}

-- the rows of the Share
data TakenBy (b : ℕ) : Slot → Row → Type 0 where
  first : TakenBy b (Req 1) (row (Req 1) (at Rest 0) (put (Req 0)))
  second : TakenBy b (Req 2) (row (Req 2) (at Rest 1) (put (Req 0)))
  back : TakenBy b (Ans 0) (row (Ans 0) (at Rest b) (put (Ans (1 + b * 1 + 0))))

no_row : {A : Type 0} (r : Row) → None ≡ Some r → A
no_row r is = absurd (none-some r is)

by_row : (b : ℕ) (slot : Slot) (r : Row) → row_for slot (rows (Share Com) Rest b) ≡ Some r → TakenBy b slot r
by_row b (Req zero) r is = no_row r is
by_row b (Req (suc zero)) r is = subst (TakenBy b (Req 1)) (same_Some _ r is) first
by_row b (Req (suc (suc zero))) r is = subst (TakenBy b (Req 2)) (same_Some _ r is) second
by_row b (Req (suc (suc (suc h)))) r is = absurd (grind (arith, is))
by_row b (Ans zero) r is = subst (TakenBy b (Ans 0)) (same_Some _ r is) back
by_row b (Ans (suc h)) r is = absurd (grind (arith, is))

by_phase : (p : Phase) (b : ℕ) (slot : Slot) (r : Row) → row_for slot (rows (Share Com) p b) ≡ Some r → TakenBy b slot r
by_phase Rest b slot r is = by_row b slot r is
by_phase p b slot r is = no_row r is

-- while `c` is under way the branch is the first
record Kept (past : List Pass) (s : Tokens) : Type 0 where
  asked : (v : ℕ) → s.in_place Request (PartEnd 0 0) ≡ Some v → (s.state 0).number ≡ 0
  answered : (v : ℕ) → s.in_place Answer (PartEnd 0 0) ≡ Some v → (s.state 0).number ≡ 0
  away : is_open past (ImportEnd 0 0) ≡ true → (s.state 0).number ≡ 0

always : (past : List Pass) (s : Tokens) → (s.state 0).number ≡ 0 → Kept past s
always past s zero_is = record { asked = λ v is. zero_is; answered = λ v is. zero_is; away = λ up. zero_is }

after_fire : (s t : Tokens) (past : List Pass) (v : ℕ) (slot : Slot) (r : Row) → TakenBy (s.state 0).number slot r → Kept past s
    → Does call_plan (Fire 0 slot) s t → t ≡ fired call_plan 0 r v s → (t.state 0).number ≡ 0
after_fire s t past v slot r first kept does leads = ap (λ (x : Tokens). (x.state 0).number) leads
after_fire s t past v slot r second kept does leads = absurd (none-some does.0 does.2)
after_fire s t past v slot r back kept does leads =
    ap (λ (x : Tokens). (x.state 0).number) leads
    ∙ (ap (λ (q : State). q.number) (fired_state call_plan 0 r v s 0) ∙ kept.answered does.0 does.2)

step : (x : Element) (s t : Tokens) (past : List Pass) → Kept past s → Does call_plan x s t → InputTurns call_plan past x → Kept (after call_plan x past) t
step (Fire zero slot) s t past kept (v, r, lies, fires, leads) turn =
    always past t (after_fire s t past v slot r (by_phase (s.state 0).phase (s.state 0).number slot r fires) kept (v, r, lies, fires, leads) leads)
step (Fire (suc i) slot) s t past kept (v, r, lies, fires, leads) turn = no_row r fires
step (Out (PartEnd i h) v) s t past kept does turn = absurd does.0
step (Out (ImportEnd zero zero) v) s t past kept does turn =
    always (after call_plan (Out (ImportEnd 0 0) v) past) t (ap (λ (x : Tokens). (x.state 0).number) does.1.1 ∙ kept.asked v does.1.0)
step (Out (ImportEnd zero (suc h)) v) s t past kept does turn = absurd does.1
step (Out (ImportEnd (suc i) h) v) s t past kept does turn = absurd does.1
step (Out (ResultEnd zero) v) s t past kept does turn =
    subst (Kept (after call_plan (Out (ResultEnd 0) v) past)) (sym does.1.1) (record { asked = kept.asked; answered = kept.answered; away = kept.away })
step (Out (ResultEnd (suc h)) v) s t past kept does turn = absurd does.1
step (In (PartEnd i h) v) s t past kept does turn = absurd does.0
step (In (ImportEnd zero zero) v) s t past kept does turn =
    always (after call_plan (In (ImportEnd 0 0) v) past) t (ap (λ (x : Tokens). (x.state 0).number) does.1.1 ∙ kept.away turn.0)
step (In (ImportEnd zero (suc h)) v) s t past kept does turn = absurd does.1
step (In (ImportEnd (suc i) h) v) s t past kept does turn = absurd does.1
step (In (ResultEnd zero) v) s t past kept does turn =
    subst (Kept (after call_plan (In (ResultEnd 0) v) past)) (sym does.1.1) (record { asked = kept.asked; answered = kept.answered; away = kept.away })
step (In (ResultEnd (suc h)) v) s t past kept does turn = absurd does.1

along : (xs : List Element) (s t : Tokens) (past : List Pass) → Kept past s → Runs call_plan xs s t → InputsKeepTurns call_plan past xs → (gone : List Pass) × Kept gone t
along [] s t past kept is turns = (past, subst (Kept past) (sym is) kept)
along (x ∷ xs) s t past kept (w, does, runs) turns =
    along xs w t (after call_plan x past) (step x s w past kept does (first_turn call_plan past x xs turns)) runs (later_turns call_plan past x xs turns)

at_first : (s : Tokens) → IsIdle call_plan s → Kept [] s
at_first s idle =
    record {
      asked = λ v is. absurd (none-some v (sym (idle.0 Request (PartEnd 0 0)) ∙ is));
      answered = λ v is. absurd (none-some v (sym (idle.0 Answer (PartEnd 0 0)) ∙ is));
      away = λ up. absurd (cc up);
    }

from_source : (w u : Tokens) (gone : List Pass) (slot : Slot) (r : Row) → TakenBy (w.state 0).number slot r → Kept gone w → Does call_plan (Fire 0 slot) w u
    → shake_of slot < 1 → (w.state 0).number ≡ 0
from_source w u gone slot r first kept does low = absurd (omega (arith, low))
from_source w u gone slot r second kept does low = absurd (omega (arith, low))
from_source w u gone slot r back kept does low = kept.answered does.0 does.2

pub call_is_loyal : CallIsLoyal
call_is_loyal s w u xs slot idle runs turns does low =
    let (gone, kept) = along xs s w [] (at_first s idle) runs turns in
    from_source w u gone slot does.1 (by_phase (w.state 0).phase (w.state 0).number slot does.1 does.3) kept does low
