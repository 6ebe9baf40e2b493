-- The plan of a number realises it: its part answers each request with the number.
use Rattle.std.specs.Prelude.{◌≡◌, ℕ, zero, suc, [], Some, slice_get}
use Rattle.std.proofs.Common.{refl, arith, inr}
use Rattle.std.proofs.lemmas.List.Elements.{All-cons}
use Rattle.gos_types.specs.Types.{Exp}
use Rattle.gos_model.specs.Terms as terms
use Rattle.gos_model.specs.Moves.{Idle}
use Rattle.gos_plan.specs.Kinds.{Lit, Contact, part_contacts}
use Rattle.gos_plan.specs.Firing.{Rest, State, Slot, Req, Ans, Row, firing}
use Rattle.gos_plan.specs.Tokens.{Tokens, Element, shake_of, way_of, way_taken}
use Rattle.gos_plan.specs.TokenBits.{LiteralFits}
use Rattle.gos_realises.proofs.realises.LiteralLemmas.{no_literals}
use Rattle.gos_realises.proofs.realises.RingLemmas.{IsCircle, IsFirst, circle_is_regular}
use Rattle.gos_realises.proofs.realises.AnswerLemmas as answers
use Rattle.gos_realises.proofs.realises.AnswerLemmas.{Stage, Resting, succ, OpenAt, Opened, Answers, answer_realises}
use Rattle.gos_supplies.specs.literals.Literals.{number_plan, LiteralIsRealised}

only : (w k : ℕ) (q : State) (x : Slot) (r : Row) → q.phase ≡ Rest → firing (Lit w k) q x ≡ Some r → Req 0 ≡ x
only w k q (Req zero) r rest fires = refl
only w k q (Req (suc h)) r rest fires = absurd (grind (arith, fires, rest))
only w k q (Ans h) r rest fires = absurd (grind (arith, fires, rest))

takes : (w k : ℕ) (x : Slot) (c : Contact) → slice_get (part_contacts (Lit w k)) (shake_of x) ≡ Some c → way_taken c.role ≡ way_of x → Req 0 ≡ x
takes w k (Req zero) c there way = refl
takes w k (Req (suc h)) c there way = absurd (grind (arith, there))
takes w k (Ans zero) c there way = absurd (grind (arith, there, way))
takes w k (Ans (suc h)) c there way = absurd (grind (arith, there))

number_answers : (w k : ℕ) → Answers (Exp w) (Lit w k) w k
number_answers w k =
    record { asking = refl; single = λ h. refl; turns = λ f. tt; fires = λ q rest. rw rest refl; only = only w k; takes = takes w k }

module _ (weight width number : ℕ) where
  abbrev next : Stage → Element
  next = answers.next number

  abbrev pub At : Stage → Tokens → Type 0
  At = answers.At number

  pub circle : IsCircle (number_plan weight width number) Stage next succ At OpenAt Opened
  circle = answers.circle weight (Exp width) (Lit width number) width number (number_answers width number)

  pub first : IsFirst (number_plan weight width number) Stage At OpenAt Opened Resting
  first = answers.first weight (Exp width) (Lit width number) width number (number_answers width number)

pub literal_is_realised : LiteralIsRealised
literal_is_realised n w k width small =
    record {
      suits =
          record {
            right = (((0, w, refl, refl), refl, refl), tt);
            literals = All-cons LiteralFits (Lit w k) [] small no_literals;
            outcome = refl;
            all_ports = tt;
            names = tt;
            typed = (refl, width, small);
            regular =
                circle_is_regular (number_plan n w k) Stage (next n w k) succ (At n w k) OpenAt Opened (circle n w k) Resting (first n w k);
          };
      means =
          answer_realises n (Exp w) (Lit w k) w k (number_answers w k) (terms.Lit k w)
          (Idle, (0, terms.Lit k w, refl, inr (k, w, refl, refl)), refl);
    }
