-- The plan of `import c : com; c`: running it twice is orderly.
use Rattle.std.specs.Prelude.{None}
use Rattle.std.proofs.Common.{◌≡◌, true, false, Some, refl, subst, arith}
use Rattle.gos_types.specs.Events.{Request, Answer}
use Rattle.gos_plan.specs.Kinds.{Contact, asks, serves}
use Rattle.gos_plan.specs.Firing.{Req, Ans}
use Rattle.gos_plan.specs.Plans.{ImportEnd, ResultEnd}
use Rattle.gos_plan.specs.Tokens.{Tokens, with_token, way_taken, way_put}
use Rattle.gos_plan.specs.Turns.{IsEmptyAt}
use Rattle.gos_plan.specs.Orderly.{Open, none_open, with_open, after_taken, after_put, ComesWell, AllWelcome}
use Rattle.gos_plan.specs.SmallPlans.{at_first}
use Rattle.gos_plan.specs.SmallCalls.{call_plan, CallRunsInOrder, UnaskedIsNoOrder}

-- the token states: asked at the result, asking the import, answered there, answering the result, and so on
abbrev pub first : Tokens
first = with_token call_plan (ResultEnd 0) Request (Some 0) at_first

abbrev pub second : Tokens
second = with_token call_plan (ImportEnd 0 0) Request None first

abbrev pub third : Tokens
third = with_token call_plan (ImportEnd 0 0) Answer (Some 0) second

abbrev pub between : Tokens
between = with_token call_plan (ResultEnd 0) Answer None third

abbrev pub fourth : Tokens
fourth = with_token call_plan (ResultEnd 0) Request (Some 0) between

abbrev pub fifth : Tokens
fifth = with_token call_plan (ImportEnd 0 0) Request None fourth

-- no part is there to take a token
welcome : (s : Tokens) → AllWelcome call_plan s
welcome s i (Req h) c v there way lies = absurd (cc there)
welcome s i (Ans h) c v there way lies = absurd (cc there)

abbrev opened : Open → Open
opened o = with_open (ResultEnd 0) true o

abbrev closed : Open → Open
closed o = with_open (ResultEnd 0) false o

nothing_lies : IsEmptyAt call_plan second (ImportEnd 0 0)
nothing_lies Request = refl
nothing_lies Answer = refl

run_well : (o : Open) (s : Tokens) → o (ResultEnd 0) ≡ false → (c : Contact) → Some (asks 0 0) ≡ Some c
    → ComesWell call_plan (ResultEnd 0) (way_put c.role) o s × (opened o ≡ after_put call_plan (ResultEnd 0) (way_put c.role) o)
run_well o s shut c there =
    let is : asks 0 0 ≡ c = cc there in
    subst (λ (d : Contact). ComesWell call_plan (ResultEnd 0) (way_put d.role) o s × (opened o ≡ after_put call_plan (ResultEnd 0) (way_put d.role) o)) is (shut, refl)

calling : (o : Open) (c : Contact) → Some (serves 0 0) ≡ Some c → o ≡ after_taken call_plan (ImportEnd 0 0) (way_taken c.role) o
calling o c there = let is : serves 0 0 ≡ c = cc there in subst (λ (d : Contact). o ≡ after_taken call_plan (ImportEnd 0 0) (way_taken d.role) o) is refl

answered_well : (o : Open) (s : Tokens) → o (ResultEnd 0) ≡ true → IsEmptyAt call_plan s (ImportEnd 0 0) → (c : Contact) → Some (serves 0 0) ≡ Some c
    → ComesWell call_plan (ImportEnd 0 0) (way_put c.role) o s × (o ≡ after_put call_plan (ImportEnd 0 0) (way_put c.role) o)
answered_well o s up empty c there =
    let is : serves 0 0 ≡ c = cc there in
    subst (λ (d : Contact). ComesWell call_plan (ImportEnd 0 0) (way_put d.role) o s × (o ≡ after_put call_plan (ImportEnd 0 0) (way_put d.role) o)) is ((up, empty), refl)

done_well : (o : Open) (c : Contact) → Some (asks 0 0) ≡ Some c → closed o ≡ after_taken call_plan (ResultEnd 0) (way_taken c.role) o
done_well o c there = let is : asks 0 0 ≡ c = cc there in subst (λ (d : Contact). closed o ≡ after_taken call_plan (ResultEnd 0) (way_taken d.role) o) is refl

pub call_runs_in_order : CallRunsInOrder
call_runs_in_order =
    let up : Open = opened none_open in
    let down : Open = closed up in
    let again : Open = opened down in (
      again,
      fifth,
      (
        up,
        first,
        (tt, (omega arith, refl)),
        run_well none_open at_first refl,
        welcome first,
        (
          up,
          second,
          (tt, (refl, refl)),
          calling up,
          welcome second,
          (
            up,
            third,
            (tt, (omega arith, refl)),
            answered_well up second refl nothing_lies,
            welcome third,
            (
              down,
              between,
              (tt, (refl, refl)),
              done_well up,
              welcome between,
              (
                again,
                fourth,
                (tt, (omega arith, refl)),
                run_well down between refl,
                welcome fourth,
                (again, fifth, (tt, (refl, refl)), calling again, welcome fifth, (refl, refl)),
              ),
            ),
          ),
        ),
      ),
    )

pub unasked_is_no_order : UnaskedIsNoOrder
unasked_is_no_order (u, t, (m, w, does, puts, taken_well, rest)) =
    let open_there : false ≡ true = (puts (serves 0 0) refl).0.0 in cc open_there
