-- The plan of `skip`: orderly lists of it, and the cycles of its circuit.
use Rattle.std.specs.Prelude.{None}
use Rattle.std.proofs.Common.{◌≡◌, ℕ, zero, suc, true, false, Some, refl, sym, ◌∙◌, ap, subst, arith}
use Rattle.gos_types.specs.Events.{Request, Answer}
use Rattle.gos_plan.specs.Kinds.{Contact, asks}
use Rattle.gos_plan.specs.Firing.{Rest, Req, Ans, Row, row, at, put}
use Rattle.gos_plan.specs.Plans.{PartEnd, ResultEnd, IsRight}
use Rattle.gos_plan.specs.Tokens.{Tokens, with_token, with_state, end_of, way_of, way_taken, way_put, fired}
use Rattle.gos_plan.specs.Turns.{IsEmptyAt}
use Rattle.gos_plan.specs.Orderly.{Open, none_open, with_open, after_taken, after_put, ComesWell, AllComeWell, after_puts, AllWelcome}
use Rattle.gos_plan.specs.SmallPlans.{skip_plan, at_first, SkipRunsInOrder, HasteIsNoOrder}

-- the one row of Skip
abbrev pub answers : ℕ → Row
answers n = row (Req 0) (at Rest n) (λ v. put (Ans 0) 0)

-- a part that is Skip takes whatever waits for it
welcome : (s : Tokens) → (s.state 0).phase ≡ Rest → AllWelcome skip_plan s
welcome s rests zero (Req zero) c v there way lies = (answers (s.state 0).number, rw rests refl)
welcome s rests zero (Req (suc h)) c v there way lies = absurd (grind (arith, there))
welcome s rests zero (Ans zero) c v there way lies = absurd (grind (arith, there, way))
welcome s rests zero (Ans (suc h)) c v there way lies = absurd (grind (arith, there))
welcome s rests (suc i) (Req h) c v there way lies = absurd (grind (arith, there))
welcome s rests (suc i) (Ans h) c v there way lies = absurd (grind (arith, there))

abbrev asked : Tokens
asked = with_token skip_plan (ResultEnd 0) Request (Some 0) at_first

abbrev answered : Tokens
answered = fired skip_plan 0 (answers 0) 0 asked

abbrev ended : Tokens
ended = with_token skip_plan (ResultEnd 0) Answer None answered

abbrev opened : Open
opened = with_open (ResultEnd 0) true none_open

abbrev closed : Open
closed = with_open (ResultEnd 0) false opened

-- where the request is taken, nothing lies on the joint
nothing_lies : IsEmptyAt skip_plan (with_state 0 (at Rest 0) (with_token skip_plan (PartEnd 0 0) Request None asked)) (PartEnd 0 0)
nothing_lies Request = refl
nothing_lies Answer = refl

pub skip_runs_in_order : SkipRunsInOrder
skip_runs_in_order = (
  closed,
  ended,
  (
    opened,
    asked,
    (tt, (omega arith, refl)),
    (λ c there. let is : asks 0 0 ≡ c = cc there in
        subst (λ (d : Contact). ComesWell skip_plan (ResultEnd 0) (way_put d.role) none_open at_first × (opened ≡ after_put skip_plan (ResultEnd 0) (way_put d.role) none_open)) is (refl, refl)),
    welcome asked refl,
    (
      opened,
      answered,
      (0, answers 0, refl, refl, refl),
      (λ v r lies fire. let is : answers 0 ≡ r = cc fire in
          subst (λ (w : Row). AllComeWell skip_plan 0 (w.puts v) opened (with_state 0 (w.next v) (with_token skip_plan (end_of 0 w.takes) (way_of w.takes) None asked)) × (opened ≡ after_puts skip_plan 0 (w.puts v) opened)) is (((refl, nothing_lies), tt), refl)),
      welcome answered refl,
      (
        closed,
        ended,
        (tt, (refl, refl)),
        (λ c there. let is : asks 0 0 ≡ c = cc there in
            subst (λ (d : Contact). closed ≡ after_taken skip_plan (ResultEnd 0) (way_taken d.role) opened) is refl),
        welcome ended refl,
        (refl, refl),
      ),
    ),
  ),
)

pub haste_is_no_order : HasteIsNoOrder
haste_is_no_order (u, t, (m, w, does, puts, taken, (n, z, again, puts_again, rest, none))) =
    let first : m ≡ opened = (puts (asks 0 0) refl).1 in
    let second : m (ResultEnd 0) ≡ false = (puts_again (asks 0 0) refl).0 in
    let both : true ≡ false = sym (ap (λ (o : Open). o (ResultEnd 0)) first) ∙ second in
    cc both

pub skip_is_right : IsRight skip_plan
skip_is_right = (((0, 0, refl, refl), refl, refl), tt)
