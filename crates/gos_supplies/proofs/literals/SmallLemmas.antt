-- The number 5 of 8 bits, and what its plan doesn't realise.
use Rattle.std.specs.Prelude.{◌≡◌, ◌<◌, ◌^◌, ℕ, zero, suc, List, [], ◌∷◌, Some, None}
use Rattle.std.proofs.Common.{arith, refl, sym, ◌∙◌, ap, subst, inl, inr}
use Rattle.gos_types.specs.Events.{Request, Answer}
use Rattle.gos_model.specs.Terms as terms
use Rattle.gos_model.specs.Terms.{Term}
use Rattle.gos_model.specs.Reach.{Unfolds}
use Rattle.gos_model.specs.Labels.{Label, given}
use Rattle.gos_model.specs.Moves.{Program, Config, Idle, Running, Act, Computing, Showing, Moves, labels, Unfoldings, ActsTo}
use Rattle.gos_plan.specs.Firing.{Rest, Req, Ans, Row, row, at, put}
use Rattle.gos_plan.specs.Plans.{ResultEnd, Plan}
use Rattle.gos_plan.specs.Tokens.{Tokens, Fire, Out, In, with_token, fired, Does}
use Rattle.gos_plan.specs.SmallPlans.{at_first}
use Rattle.gos_realises.specs.realises.Matched.{program_of}
use Rattle.gos_supplies.specs.literals.Literals.{number_plan}
use Rattle.gos_types.specs.Types.{Com, Exp}
use Rattle.gos_supplies.specs.literals.SmallLiterals.{FiveIsRealised, FiveIsNotSix, NoneIsTooLarge, FiveIsNotDone}
use Rattle.gos_supplies.proofs.literals.NumberLemmas.{literal_is_realised}

pub five_is_realised : FiveIsRealised
five_is_realised = literal_is_realised 0 8 5 (omega arith, omega arith) (omega arith)

pub none_is_too_large : NoneIsTooLarge
none_is_too_large real = let small : 5 < 2 ^ 2 = real.suits.typed.2 in omega (arith, small)

pub five_is_not_done : FiveIsNotDone
five_is_not_done real = let no : Exp 8 ≡ Com = real.suits.outcome in cc no

-- the moves of 6
abbrev six : Program
six = program_of (number_plan 0 8 5) (terms.Lit 6 8)

unfolds_none : (n : ℕ) (u : Term) → Unfoldings n (terms.Lit 6 8) u → terms.Lit 6 8 ≡ u
unfolds_none zero u h = h
unfolds_none (suc n) u h = absurd (no_unfolding h.0 h.1)
  where
    no_unfolding : (u : Term) → Unfolds (terms.Lit 6 8) u → ⊥
    no_unfolding u h = grind (arith, h)

computes_none : (e : Config) → ActsTo [] Computing [] (terms.Lit 6 8) e → ⊥
computes_none Idle h = h
computes_none (Running m s) h = grind (arith, h)

stays : (acts : List Act) (e : Config) → Moves six acts (Running (terms.Lit 6 8) []) e → labels acts ≡ [] → e ≡ Running (terms.Lit 6 8) []
stays [] e m l = sym m
stays (Computing ∷ acts) e (b, (n, u, us, h), m) l =
    absurd (computes_none b (subst (λ (v : Term). ActsTo [] Computing [] v b) (sym (unfolds_none n u us)) h))
stays (Showing o ∷ acts) e m l = absurd cc

begins : (acts : List Act) (e : Config) → Moves six acts Idle e → labels acts ≡ given 0 0 ∷ [] → e ≡ Running (terms.Lit 6 8) []
begins [] e m l = absurd cc
begins (Computing ∷ acts) e (b, (is, at_body), m) l = absurd cc
begins (Showing o ∷ acts) e (b, (is, at_body), m) l =
    let rest : labels acts ≡ [] = cc in
    stays acts e (subst (λ (x : Config). Moves six acts x e) at_body m) rest

shows_five : (o : Label) (b : Config) → o ≡ given 1 5 → ActsTo [] (Showing o) [] (terms.Lit 6 8) b → ⊥
shows_five o Idle is (inl (e, f)) = cc e
shows_five o Idle is (inr (k, w, e, f)) =
    let number : 6 ≡ k = cc e in
    let value : given 1 5 ≡ given 1 k = sym is ∙ f in
    let other : 5 ≡ k = ap (λ (l : Label). l.value) value in
    omega (arith, number, other)
shows_five o (Running m s) is h = grind (arith, h)

answers : (acts : List Act) (e : Config) → Moves six acts (Running (terms.Lit 6 8) []) e → labels acts ≡ given 1 5 ∷ [] → ⊥
answers [] e m l = absurd cc
answers (Computing ∷ acts) e (b, (n, u, us, h), m) l =
    computes_none b (subst (λ (v : Term). ActsTo [] Computing [] v b) (sym (unfolds_none n u us)) h)
answers (Showing o ∷ acts) e (b, (n, u, us, h), m) l =
    let is : o ≡ given 1 5 = cc l in
    shows_five o b is (subst (λ (v : Term). ActsTo [] (Showing o) [] v b) (sym (unfolds_none n u us)) h)

-- the list of the plan of 5
abbrev five : Plan
five = number_plan 0 8 5

abbrev asked : Tokens
asked = with_token five (ResultEnd 0) Request (Some 0) at_first

abbrev fires : Row
fires = row (Req 0) (at Rest 0) (λ v. put (Ans 0) 5)

abbrev answered : Tokens
answered = fired five 0 fires 0 asked

abbrev ended : Tokens
ended = with_token five (ResultEnd 0) Answer None answered

pub five_is_not_six : FiveIsNotSix
five_is_not_six real =
    let one : Does five (In (ResultEnd 0) 0) at_first asked = (tt, (omega arith, refl)) in
    let two : Does five (Fire 0 (Req 0)) asked answered = (0, fires, refl, refl, refl) in
    let three : Does five (Out (ResultEnd 0) 5) answered ended = (tt, (refl, refl)) in
    let (matched, orderly) =
    real.means at_first ended (In (ResultEnd 0) 0 ∷ Fire 0 (Req 0) ∷ Out (ResultEnd 0) 5 ∷ []) ((λ way e. refl), λ i. refl)
    (asked, one, (answered, two, (ended, three, refl))) ((refl, tt), tt) in
    let (acts, b, moves, shown, goes, first) = matched.1 asked one in
    let (more, d, then, none, on, second) = first.1 answered two in
    let (last, e, end, five_shown, go, third) = second.1 ended three in
    let at_b = begins acts b moves shown in
    let at_d = stays more d (subst (λ (x : Config). Moves six more x d) at_b then) none in
    answers last e (subst (λ (x : Config). Moves six last x e) at_d end) five_shown
