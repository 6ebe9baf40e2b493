-- Plans whose lists go round a ring of stages: from each stage one element leads on.
--
-- Where the inputs of a list keep turns, each of its elements is the one of its stage (`Script`).
-- From this follow the order and the turns, and the moves of a program that goes round with it.
use Rattle.std.specs.Prelude.{◌≡◌, ℕ, Bool, List, [], ◌∷◌}
use Rattle.std.proofs.Common.{refl, sym, ◌∙◌, ap, subst}
use Rattle.gos_model.specs.Terms.{Term}
use Rattle.gos_model.specs.Moves.{Program, Config, Idle, Act, Moves, labels}
use Rattle.gos_plan.specs.Firing.{Slot}
use Rattle.gos_plan.specs.Plans.{End, Plan, contact_at}
use Rattle.gos_plan.specs.Tokens.{Tokens, Element, Fire, Out, In, Does, Runs, IsIdle}
use Rattle.gos_plan.specs.Orderly.{Open, none_open, ComesInOrder, AllWelcome, OrderlyFrom}
use Rattle.gos_realises.specs.realises.Regular.{Pass, pass, way_in, way_out, is_open, ComesInTurn, KeepsTurns, InputsKeepTurns, OutputsKeepTurns, IsRegular}
use Rattle.gos_realises.specs.realises.Matched.{shows, GoesOn, Agrees, IsMatched, program_of, RealisesInTurn}

-- what passed, after an element
abbrev pub after : Plan → Element → List Pass → List Pass
after p (Fire i t) past = past
after p (Out e v) past = pass e (way_out (contact_at p e)) ∷ past
after p (In e v) past = pass e (way_in (contact_at p e)) ∷ past

-- an output keeps turns
abbrev pub OutputTurns : Plan → List Pass → Element → Type 0
OutputTurns p past (Fire i t) = Unit {0}
OutputTurns p past (Out e v) = KeepsTurns p past (pass e (way_out (contact_at p e)))
OutputTurns p past (In e v) = Unit {0}

-- The stages of a plan: in each the tokens, the handshakes that are open and those that are open at ports are of some form,
-- one element alone may come in turn, and it leads to the next stage.
pub record IsCircle
    (p : Plan) (S : Type 0) (next : S → Element) (succ : S → S) (At : S → Tokens → Type 0) (OpenAt : S → Open → Type 0)
    (Opened : S → (End → Bool) → Type 0) : Type 0 where
  pub leads : (q : S) (s w : Tokens) → At q s → Does p (next q) s w → At (succ q) w
  pub fires : (q : S) (i : ℕ) (t : Slot) (s w : Tokens) → At q s → Does p (Fire i t) s w → Fire i t ≡ next q
  pub puts_out : (q : S) (e : End) (v : ℕ) (s w : Tokens) → At q s → Does p (Out e v) s w → Out e v ≡ next q
  pub in_turn :
      (q : S) (e : End) (v : ℕ) (s w : Tokens) (past : List Pass)
      → Does p (In e v) s w → Opened q (is_open past) → ComesInTurn past e (way_in (contact_at p e)) → In e v ≡ next q
  pub passed : (q : S) (past : List Pass) → Opened q (is_open past) → Opened (succ q) (is_open (after p (next q) past))
  pub turns : (q : S) (past : List Pass) → Opened q (is_open past) → OutputTurns p past (next q)
  pub comes :
      (q : S) (s w : Tokens) (o : Open)
      → At q s → OpenAt q o → Does p (next q) s w → (u : Open) × ComesInOrder p (next q) s o u × OpenAt (succ q) u
  pub welcome : (q : S) (s : Tokens) → At q s → AllWelcome p s

-- and of a program, which moves along
pub record IsRing
    (p : Plan) (g : Program) (S : Type 0) (next : S → Element) (succ : S → S) (acts : S → List Act) (config : S → Config)
    (At : S → Tokens → Type 0) (OpenAt : S → Open → Type 0) (Opened : S → (End → Bool) → Type 0) : Type 0 where
  pub circle : IsCircle p S next succ At OpenAt Opened
  pub agrees : (q : S) (s : Tokens) → At q s → Agrees p g s (config q)
  pub moves : (q : S) → Moves g (acts q) (config q) (config (succ q))
  pub shown : (q : S) → labels (acts q) ≡ shows p (next q)
  pub goes_on : (q : S) (s : Tokens) → At q s → GoesOn p s (next q) (acts q)

-- where it begins
pub record IsFirst
    (p : Plan) (S : Type 0) (At : S → Tokens → Type 0) (OpenAt : S → Open → Type 0) (Opened : S → (End → Bool) → Type 0) (q : S) : Type 0 where
  pub rests : (s : Tokens) → IsIdle p s → At q s
  pub none : OpenAt q none_open
  pub closed : Opened q (is_open [])

-- each element of the list is the one of its stage
abbrev pub Script : (S : Type 0) → (S → Element) → (S → S) → List Element → S → Type 0
Script S next succ [] q = Unit {0}
Script S next succ (x ∷ xs) q = (x ≡ next q) × Script S next succ xs (succ q)

module _
    (p : Plan) (S : Type 0) (next : S → Element) (succ : S → S) (At : S → Tokens → Type 0) (OpenAt : S → Open → Type 0)
    (Opened : S → (End → Bool) → Type 0) (circle : IsCircle p S next succ At OpenAt Opened) where
  pub leads_on : (x : Element) (q : S) (s w : Tokens) → x ≡ next q → At q s → Does p x s w → At (succ q) w
  leads_on x q s w e here does = circle.leads q s w here (subst (λ (y : Element). Does p y s w) e does)

  passed_on : (x : Element) (q : S) (past : List Pass) → x ≡ next q → Opened q (is_open past) → Opened (succ q) (is_open (after p x past))
  passed_on x q past e o =
      subst (λ (y : Element). Opened (succ q) (is_open (after p y past))) (sym e) (circle.passed q past o)

  pub by_turns : (xs : List Element) (q : S) (s t : Tokens) (past : List Pass)
      → At q s → Runs p xs s t → Opened q (is_open past) → InputsKeepTurns p past xs → Script S next succ xs q
  by_turns [] q s t past here runs o keeps = tt
  by_turns (Fire i k ∷ xs) q s t past here (w, does, runs) o keeps =
      let e = circle.fires q i k s w here does in
      (e, by_turns xs (succ q) w t past (leads_on (Fire i k) q s w e here does) runs (passed_on (Fire i k) q past e o) keeps)
  by_turns (Out a v ∷ xs) q s t past here (w, does, runs) o keeps =
      let e = circle.puts_out q a v s w here does in
      (e, by_turns xs (succ q) w t (after p (Out a v) past) (leads_on (Out a v) q s w e here does) runs (passed_on (Out a v) q past e o) keeps)
  by_turns (In a v ∷ xs) q s t past here (w, does, runs) o keeps =
      let e = circle.in_turn q a v s w past does o keeps.0.0 in
      (e, by_turns xs (succ q) w t (after p (In a v) past) (leads_on (In a v) q s w e here does) runs (passed_on (In a v) q past e o) keeps.1)

  ordered : (xs : List Element) (q : S) (s t : Tokens) (o : Open)
      → At q s → OpenAt q o → Runs p xs s t → Script S next succ xs q → (u : Open) × (v : Tokens) × OrderlyFrom p xs o s u v
  ordered [] q s t o here now runs script = (o, s, (refl, refl))
  ordered (x ∷ xs) q s t o here now (w, does, runs) (e, script) =
      let (m, comes, then) = circle.comes q s w o here now (subst (λ (y : Element). Does p y s w) e does) in
      let there = leads_on x q s w e here does in
      let (u, v, rest) = ordered xs (succ q) w t m there then runs script in (
        u,
        v,
        (m, w, does, subst (λ (y : Element). ComesInOrder p y s o m) (sym e) comes, circle.welcome (succ q) w there, rest),
      )

  turned : (xs : List Element) (q : S) (past : List Pass) → Opened q (is_open past) → Script S next succ xs q → OutputsKeepTurns p past xs
  turned [] q past o script = tt
  turned (Fire i k ∷ xs) q past o (e, script) = turned xs (succ q) past (passed_on (Fire i k) q past e o) script
  turned (Out a v ∷ xs) q past o (e, script) = (
    subst (OutputTurns p past) (sym e) (circle.turns q past o),
    turned xs (succ q) (after p (Out a v) past) (passed_on (Out a v) q past e o) script,
  )
  turned (In a v ∷ xs) q past o (e, script) = turned xs (succ q) (after p (In a v) past) (passed_on (In a v) q past e o) script

  pub circle_is_regular : (q : S) → IsFirst p S At OpenAt Opened q → IsRegular p
  circle_is_regular q first s t xs idle runs keeps =
      let here = first.rests s idle in
      let script = by_turns xs q s t [] here runs first.closed keeps in
      (ordered xs q s t none_open here first.none runs script, turned xs q [] first.closed script)

module _
    (p : Plan) (m : Term) (S : Type 0) (next : S → Element) (succ : S → S) (acts : S → List Act) (config : S → Config)
    (At : S → Tokens → Type 0) (OpenAt : S → Open → Type 0) (Opened : S → (End → Bool) → Type 0)
    (ring : IsRing p (program_of p m) S next succ acts config At OpenAt Opened) where
  led : (x : Element) (q : S) (s w : Tokens) → x ≡ next q → At q s → Does p x s w → At (succ q) w
  led = leads_on p S next succ At OpenAt Opened ring.circle

  matched : (xs : List Element) (q : S) (s : Tokens) → At q s → Script S next succ xs q → IsMatched p (program_of p m) xs s (config q)
  matched [] q s here script = ring.agrees q s here
  matched (x ∷ xs) q s here (e, script) = (
    ring.agrees q s here,
    λ t does. (
      acts q,
      config (succ q),
      ring.moves q,
      ring.shown q ∙ ap (shows p) (sym e),
      subst (λ (y : Element). GoesOn p s y (acts q)) (sym e) (ring.goes_on q s here),
      matched xs (succ q) t (led x q s t e here does) script,
    ),
  )

  pub ring_realises : (q : S) → config q ≡ Idle → IsFirst p S At OpenAt Opened q → RealisesInTurn p m
  ring_realises q is_idle first s t xs idle runs keeps =
      let here = first.rests s idle in
      let script = by_turns p S next succ At OpenAt Opened ring.circle xs q s t [] here runs first.closed keeps in (
        subst (IsMatched p (program_of p m) xs s) is_idle (matched xs q s here script),
        ordered p S next succ At OpenAt Opened ring.circle xs q s t none_open here first.none runs script,
      )
