-- The plan of `import c : com; c` realises the name: the ring of its run, of c's run and answer, and of its own answer.
use Rattle.std.specs.Prelude.{◌≡◌, ℕ, zero, suc, ◌<◌, Bool, true, false, IsTrue, List, [], ◌∷◌, ◌⊎◌, Some, None}
use Rattle.std.proofs.Common.{refl, sym, subst, arith, inl, inr}
use Rattle.gos_types.specs.Events.{Request, Answer}
use Rattle.gos_types.proofs.ListLemmas.{none_in_empty}
use Rattle.gos_model.specs.Terms as terms
use Rattle.gos_model.specs.Terms.{Term, Import, Wait}
use Rattle.gos_model.specs.Reach.{Unfolds}
use Rattle.gos_model.specs.Labels.{Label, given, taken, is_output}
use Rattle.gos_model.specs.Moves.{Program, Config, Idle, Running, Act, Computing, Showing, Moves, labels, Unfoldings, ActsTo, Stalled}
use Rattle.gos_model.specs.SmallPrograms.{c}
use Rattle.gos_plan.specs.Firing.{Slot}
use Rattle.gos_plan.specs.Plans.{End, PartEnd, ImportEnd, ResultEnd}
use Rattle.gos_plan.specs.Tokens.{Tokens, Element, Fire, Out, In, with_token, Does}
use Rattle.gos_plan.specs.Orderly.{Open}
use Rattle.gos_plan.specs.SmallCalls.{call_plan}
use Rattle.gos_realises.specs.realises.Matched.{shows, GoesOn, Agrees, program_of}
use Rattle.gos_realises.specs.realises.SmallRealisers.{NameIsRealised}
use Rattle.gos_realises.proofs.realises.LiteralLemmas.{no_literals}
use Rattle.gos_realises.proofs.realises.OneJointLemmas.{is_idle}
use Rattle.gos_realises.proofs.realises.SkipLemmas.{run_is_no_output, running_is_not_idle}
use Rattle.gos_realises.proofs.realises.RelayLemmas as relay
use Rattle.gos_realises.proofs.realises.RelayLemmas.{Stage, Resting, Asked, Away, Back, succ, IsRelay}
use Rattle.gos_realises.proofs.realises.RingLemmas.{IsCircle, IsRing, IsFirst, circle_is_regular, ring_realises}

abbrev next : Stage → Element
next = relay.next (ResultEnd 0) (ImportEnd 0 0)

abbrev At : Stage → Tokens → Type 0
At = relay.At (ResultEnd 0)

abbrev OpenAt : Stage → Open → Type 0
OpenAt = relay.OpenAt (ResultEnd 0)

abbrev Opened : Stage → (End → Bool) → Type 0
Opened = relay.Opened (ResultEnd 0) (ImportEnd 0 0)

abbrev acts : Stage → List Act
acts Resting = Showing (given 0 0) ∷ []
acts Asked = Showing (taken c 0 0) ∷ []
acts Away = Showing (taken c 1 0) ∷ []
acts Back = Showing (given 1 0) ∷ []

abbrev config : Stage → Config
config Resting = Idle
config Asked = Running (Import c) []
config Away = Running (Wait c 1) []
config Back = Running terms.Skip []

abbrev program : Program
program = program_of call_plan (Import c)

fires_none : (i : ℕ) (t : Slot) (s w : Tokens) → Does call_plan (Fire i t) s w → ⊥
fires_none i t s w (v, r, lies, fires, leads) = cc fires

-- an output takes what lies on the joint
out_of : (e : End) (v : ℕ) (s w : Tokens) → Does call_plan (Out e v) s w
    → ((e ≡ ResultEnd 0) × (s.in_place Answer (ResultEnd 0) ≡ Some v)) ⊎ ((e ≡ ImportEnd 0 0) × (s.in_place Request (ResultEnd 0) ≡ Some v))
out_of (PartEnd i h) v s w does = absurd does.0
out_of (ImportEnd zero zero) v s w does = inr (refl, does.1.0)
out_of (ImportEnd zero (suc h)) v s w does = absurd does.1
out_of (ImportEnd (suc i) h) v s w does = absurd does.1
out_of (ResultEnd zero) v s w does = inl (refl, does.1.0)
out_of (ResultEnd (suc h)) v s w does = absurd does.1

in_of : (e : End) (v : ℕ) (s w : Tokens) → Does call_plan (In e v) s w → ((e ≡ ResultEnd 0) ⊎ (e ≡ ImportEnd 0 0)) × (v ≡ 0)
in_of (PartEnd i h) v s w does = absurd does.0
in_of (ImportEnd zero zero) v s w does = let small : v < 1 = does.1.0 in (inr refl, omega (arith, small))
in_of (ImportEnd zero (suc h)) v s w does = absurd does.1
in_of (ImportEnd (suc i) h) v s w does = absurd does.1
in_of (ResultEnd zero) v s w does = let small : v < 1 = does.1.0 in (inl refl, omega (arith, small))
in_of (ResultEnd (suc h)) v s w does = absurd does.1

call_is_relay : IsRelay call_plan (ResultEnd 0) (ImportEnd 0 0)
call_is_relay =
    record {
      asking = refl;
      serving = refl;
      at_a = refl;
      at_b = refl;
      a_not_b = refl;
      b_not_a = refl;
      fires = λ i x s w does. fires_none i x s w does;
      none = λ i h k there. cc there;
      out_of = out_of;
      in_of = in_of;
      asks_in_turn = λ past up down. (down, (tt, tt, λ asked. rw up refl));
      answers_in_turn = λ past up down. (up, (tt, tt, λ asked. let no : false ≡ true = rw down at asked in absurd (cc no)));
    }

circle : IsCircle call_plan Stage next succ At OpenAt Opened
circle = relay.circle call_plan (ResultEnd 0) (ImportEnd 0 0) call_is_relay

first : IsFirst call_plan Stage At OpenAt Opened Resting
first = relay.first call_plan (ResultEnd 0) (ImportEnd 0 0) call_is_relay

idle_is_stalled : Stalled program Idle
idle_is_stalled = (λ d move. let e = move.0 in cc e, λ o d out move. run_is_no_output o out move.0)

-- while c runs the program can only wait
pub no_unfolding : (u : Term) → Unfolds (Wait c 1) u → ⊥
no_unfolding u h = grind (arith, h)

waiting : (n : ℕ) (u : Term) → Unfoldings n (Wait c 1) u → Wait c 1 ≡ u
waiting zero u h = h
waiting (suc n) u h = absurd (no_unfolding h.0 h.1)

computes_none : (e : Config) → ActsTo call_plan.imports Computing [] (Wait c 1) e → ⊥
computes_none Idle h = h
computes_none (Running m s) h = grind (arith, h)

shows_none : (o : Label) (e : Config) → IsTrue (is_output o) → ActsTo call_plan.imports (Showing o) [] (Wait c 1) e → ⊥
shows_none o Idle out h = grind (arith, h)
shows_none o (Running m s) out h = grind (arith, h, out)

away_is_stalled : Stalled program (Running (Wait c 1) [])
away_is_stalled = (
  λ e move. computes_none e (from move.0 move.1 Computing e move.2 move.3),
  λ o e out move. shows_none o e out (from move.0 move.1 (Showing o) e move.2 move.3),
)
  where
    from : (n : ℕ) (u : Term) (a : Act) (e : Config) → Unfoldings n (Wait c 1) u → ActsTo call_plan.imports a [] u e → ActsTo call_plan.imports a [] (Wait c 1) e
    from n u a e us h = subst (λ v. ActsTo call_plan.imports a [] v e) (sym (waiting n u us)) h

agrees : (q : Stage) (s : Tokens) → At q s → Agrees call_plan program s (config q)
agrees Resting s here = (λ quiet. idle_is_stalled, λ e. is_idle (ResultEnd 0) call_plan s here)
agrees Asked s here = (
  λ quiet. absurd (quiet.1 (ImportEnd 0 0) 0 (with_token call_plan (ImportEnd 0 0) Request None s) (tt, (here.request, refl))),
  λ e. absurd (running_is_not_idle (Import c) e),
)
agrees Away s here = (λ quiet. away_is_stalled, λ e. absurd (running_is_not_idle (Wait c 1) e))
agrees Back s here = (
  λ quiet. absurd (quiet.1 (ResultEnd 0) 0 (with_token call_plan (ResultEnd 0) Answer None s) (tt, (here.answer, refl))),
  λ e. absurd (running_is_not_idle terms.Skip e),
)

moves : (q : Stage) → Moves program (acts q) (config q) (config (succ q))
moves Resting = (Running (Import c) [], (refl, refl), refl)
moves Asked = (Running (Wait c 1) [], (0, Import c, refl, (inl (inl (inl (refl, refl, refl))), refl)), refl)
moves Away = (Running terms.Skip [], (0, Wait c 1, refl, (inl (inr (refl, refl, (refl, refl))), refl)), refl)
moves Back = (Idle, (0, terms.Skip, refl, inl (refl, refl)), refl)

shown : (q : Stage) → labels (acts q) ≡ shows call_plan (next q)
shown Resting = refl
shown Asked = refl
shown Away = refl
shown Back = refl

goes_on : (q : Stage) (s : Tokens) → At q s → GoesOn call_plan s (next q) (acts q)
goes_on Resting s here = tt
goes_on Asked s here = tt
goes_on Away s here = tt
goes_on Back s here = tt

ring : IsRing call_plan program Stage next succ acts config At OpenAt Opened
ring =
    record {
      circle = circle;
      agrees = agrees;
      moves = moves;
      shown = shown;
      goes_on = goes_on;
    }

pub name_is_realised : NameIsRealised
name_is_realised =
    record {
      suits =
          record {
            right = (((0, 0, refl, refl), refl, refl), tt);
            literals = no_literals;
            outcome = refl;
            all_ports = (inl tt, tt);
            names = (λ j there. absurd (none_in_empty j there), tt);
            typed = refl;
            regular = circle_is_regular call_plan Stage next succ At OpenAt Opened circle Resting first;
          };
      means = ring_realises call_plan (Import c) Stage next succ acts config At OpenAt Opened ring Resting refl first;
    }
