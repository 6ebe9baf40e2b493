-- A plan whose lists go round a circle of stages rests where the one stage in which nothing is open is idle.
use Rattle.std.specs.Prelude.{Bool, false, List}
use Rattle.std.proofs.Common.{◌≡◌, [], ◌∷◌, sym, ◌∙◌, ap, subst}
use Rattle.gos_plan.specs.Plans.{End, Plan}
use Rattle.gos_plan.specs.Tokens.{Tokens, Element, Fire, Out, In, Does, Runs, IsIdle}
use Rattle.gos_plan.specs.Orderly.{Open}
use Rattle.gos_realises.specs.realises.Regular.{Pass, is_open, InputsKeepTurns}
use Rattle.gos_realises.proofs.realises.InputLemmas.{passed}
use Rattle.gos_realises.proofs.realises.RingLemmas.{after, IsCircle, IsFirst, leads_on}
use Rattle.gos_supplies.specs.turns.Rests.{Rests}
use Rattle.gos_supplies.proofs.turns.RestLemmas.{passes_are}

module _
    (p : Plan) (S : Type 0) (next : S → Element) (succ : S → S) (At : S → Tokens → Type 0) (OpenAt : S → Open → Type 0)
    (Opened : S → (End → Bool) → Type 0) (circle : IsCircle p S next succ At OpenAt Opened) where
  -- where a list ends
  abbrev Ends : List Pass → Tokens → Type 0
  Ends past t = (q : S) × At q t × Opened q (is_open past)

  passed_so : (x : Element) (q : S) (past : List Pass) → x ≡ next q → Opened q (is_open past) → Opened (succ q) (is_open (after p x past))
  passed_so x q past e opened = subst (λ (y : Element). Opened (succ q) (is_open (after p y past))) (sym e) (circle.passed q past opened)

  led_so : (x : Element) (q : S) (s w : Tokens) → x ≡ next q → At q s → Does p x s w → At (succ q) w
  led_so = leads_on p S next succ At OpenAt Opened circle

  ends : (xs : List Element) (q : S) (s t : Tokens) (past : List Pass) → At q s → Runs p xs s t → Opened q (is_open past) → InputsKeepTurns p past xs
      → Ends (passed p past xs) t
  ends [] q s t past here runs opened keeps = (q, subst (At q) (sym runs) here, opened)
  ends (Fire i k ∷ xs) q s t past here (w, does, runs) opened keeps =
      let e = circle.fires q i k s w here does in
      ends xs (succ q) w t past (led_so (Fire i k) q s w e here does) runs (passed_so (Fire i k) q past e opened) keeps
  ends (Out a v ∷ xs) q s t past here (w, does, runs) opened keeps =
      let e = circle.puts_out q a v s w here does in
      ends xs (succ q) w t (after p (Out a v) past) (led_so (Out a v) q s w e here does) runs (passed_so (Out a v) q past e opened) keeps
  ends (In a v ∷ xs) q s t past here (w, does, runs) opened keeps =
      let e = circle.in_turn q a v s w past does opened keeps.0.0 in
      ends xs (succ q) w t (after p (In a v) past) (led_so (In a v) q s w e here does) runs (passed_so (In a v) q past e opened) keeps.1

  pub circle_rests : (q : S) → IsFirst p S At OpenAt Opened q
      → ((z : S) (t : Tokens) (F : End → Bool) → At z t → Opened z F → ((e : End) → F e ≡ false) → IsIdle p t) → Rests p
  circle_rests q first shuts s t xs idle runs keeps shut =
      let (z, here, opened) = ends xs q s t [] (first.rests s idle) runs first.closed keeps in
      shuts z t (is_open (passed p [] xs)) here opened (λ e. ap (λ (past : List Pass). is_open past e) (sym (passes_are p [] xs)) ∙ shut e)
