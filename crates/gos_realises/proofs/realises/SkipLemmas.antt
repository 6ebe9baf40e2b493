-- The plan of `skip` realises it: its part answers each request.
use Rattle.std.specs.Prelude.{◌≡◌, zero, suc, [], Some, slice_get}
use Rattle.std.proofs.Common.{refl, arith, inl}
use Rattle.std.proofs.lemmas.List.Elements.{All-cons}
use Rattle.gos_types.specs.Types.{Com}
use Rattle.gos_model.specs.Terms as terms
use Rattle.gos_model.specs.Moves.{Idle}
use Rattle.gos_plan.specs.Kinds.{Skip, Contact, part_contacts}
use Rattle.gos_plan.specs.Firing.{Rest, State, Slot, Req, Ans, Row, firing}
use Rattle.gos_plan.specs.Tokens.{Tokens, Element, shake_of, way_of, way_taken}
use Rattle.gos_plan.specs.SmallPlans.{skip_plan}
use Rattle.gos_plan.specs.TokenBits.{LiteralFits}
use Rattle.gos_realises.specs.realises.SmallRealisers.{SkipIsRealised}
use Rattle.gos_realises.proofs.realises.LiteralLemmas.{no_literals}
use Rattle.gos_realises.proofs.realises.RingLemmas.{IsCircle, IsFirst, circle_is_regular}
use Rattle.gos_realises.proofs.realises.AnswerLemmas as answers
use Rattle.gos_realises.proofs.realises.AnswerLemmas.{Answers, answer_realises}
pub use Rattle.gos_realises.proofs.realises.AnswerLemmas.{Stage, Resting, Asked, Answered, succ, OpenAt, Opened, run_is_no_output, running_is_not_idle}

abbrev pub next : Stage → Element
next = answers.next 0

abbrev pub At : Stage → Tokens → Type 0
At = answers.At 0

only : (q : State) (x : Slot) (r : Row) → q.phase ≡ Rest → firing Skip q x ≡ Some r → Req 0 ≡ x
only q (Req zero) r rest fires = refl
only q (Req (suc h)) r rest fires = absurd (grind (arith, fires, rest))
only q (Ans h) r rest fires = absurd (grind (arith, fires, rest))

takes : (x : Slot) (c : Contact) → slice_get (part_contacts Skip) (shake_of x) ≡ Some c → way_taken c.role ≡ way_of x → Req 0 ≡ x
takes (Req zero) c there way = refl
takes (Req (suc h)) c there way = absurd (grind (arith, there))
takes (Ans zero) c there way = absurd (grind (arith, there, way))
takes (Ans (suc h)) c there way = absurd (grind (arith, there))

skip_answers : Answers Com Skip 0 0
skip_answers = record { asking = refl; single = λ h. refl; turns = λ f. tt; fires = λ q rest. rw rest refl; only = only; takes = takes }

pub circle : IsCircle skip_plan Stage next succ At OpenAt Opened
circle = answers.circle 5 Com Skip 0 0 skip_answers

pub first : IsFirst skip_plan Stage At OpenAt Opened Resting
first = answers.first 5 Com Skip 0 0 skip_answers

pub skip_is_realised : SkipIsRealised
skip_is_realised =
    record {
      suits =
          record {
            right = (((0, 0, refl, refl), refl, refl), tt);
            literals = All-cons LiteralFits Skip [] tt no_literals;
            outcome = refl;
            all_ports = tt;
            names = tt;
            typed = refl;
            regular = circle_is_regular skip_plan Stage next succ At OpenAt Opened circle Resting first;
          };
      means = answer_realises 5 Com Skip 0 0 skip_answers terms.Skip (Idle, (0, terms.Skip, refl, inl (refl, refl)), refl);
    }
