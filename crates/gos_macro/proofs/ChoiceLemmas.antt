-- Gates that fail the law: those of Skip that answer nothing; and by the law that asks for each handshake to be shown, those of a
-- choice and of a repeated command whose request goes on in the same cycle. And what a choice puts.
use Rattle.std.proofs.Common.{◌≡◌, ℕ, zero, suc, ◌≤◌, ◌<◌, ◌^◌, Bool, true, false, List, [], ◌∷◌, refl, arith, pow_pos, if◌then◌else◌}
use Rattle.std.specs.Prelude.{nat_eq}
use Rattle.std.specs.List.{AllByRecursion}
use Rattle.gos_netlist.specs.Settling.{Numbers}
use Rattle.gos_plan.specs.Kinds.{Skip, If, While, part_contacts}
use Rattle.gos_plan.specs.Firing.{Phase, Rest, Test, Branch, Slot, Req, Ans, Token, rows, row, at, put}
use Rattle.gos_plan.specs.Firings.{Asked, with_asked, times}
use Rattle.gos_macro.specs.Gates.{Incoming, Bare, incoming_bits, Settled, pulse_in}
use Rattle.gos_macro.specs.Law.{pulse_at, early_slots, Fired, FiredInOrder}
use Rattle.gos_macro.specs.SmallGates.{choice_cells, repeat_cells, SilenceIsNoAnswer, ChoiceShowsOne, RepeatShowsOne}
use Rattle.gos_macro.specs.SmallPaths.{held_passing, SkipPutsSomething, ChoicePutsLate, ChoicePutsEarly}
use Rattle.gos_macro.specs.laws.Putting.{AllPass, RowPasses, puts_pass}
use Rattle.gos_macro.proofs.causal.FiringLemmas.{value_fits}

-- a cycle of Skip with a request, and no answer: net 0 is the answer, and net 1 the request
abbrev unanswered : Numbers
unanswered = 0 ∷ 1 ∷ []

abbrev asked : Incoming
asked = record { pulse = λ h. 1; value = λ h. 1 }

answers_once : FiredInOrder Skip [] (λ h. 0) unanswered asked (at Rest 0) (at Rest 0) (put (Ans 0) 0 ∷ []) []
answers_once =
    record {
      before = λ h. false;
      between = λ h. false;
      behind = λ h. false;
      state = at Rest 0;
      top = 1;
      above = λ h small. omega arith;
      sooner = (_, [], refl, (tt, tt), refl, (refl, refl, refl));
      later = (refl, refl, refl);
    }

pub silence_is_no_answer : SilenceIsNoAnswer
silence_is_no_answer law =
    let shows = (law 0 asked unanswered [] [] (at Rest 0) (at Rest 0) (put (Ans 0) 0 ∷ []) [] (refl, refl, tt) (λ h small. omega arith) (λ h. fits (incoming_bits (part_contacts Skip) h)) refl answers_once).0 in
    let wrong = shows 0 (Bare 0) refl (omega arith) in
    omega (arith, wrong)
  where
    fits : (bits : ℕ) → (if nat_eq bits 0 then 0 else 1) < 2 ^ bits
    fits zero = omega arith
    fits (suc bits) = let positive = pow_pos bits in value_fits (suc bits) 1 (2 ^ suc bits) (pow_pos (suc bits)) (λ some. grind (arith, positive))

-- A cycle of a choice in which it ends the run of its first command, begins another, and ends that of its second command. The
-- pulses are net 5, and the test's value is net 6.
abbrev all_come : Incoming
all_come = record { pulse = λ h. 5; value = λ h. 6 }

abbrev all_shown : Numbers
all_shown = 1 ∷ 0 ∷ 1 ∷ 1 ∷ 1 ∷ 1 ∷ 0 ∷ []

abbrev two_runs : List Slot
two_runs = Ans 1 ∷ Req 3 ∷ Ans 0 ∷ Ans 2 ∷ []

abbrev two_answers : List Token
two_answers = put (Ans 3) 0 ∷ put (Req 0) 0 ∷ put (Req 2) 0 ∷ put (Ans 3) 0 ∷ []

abbrev asked_none : Asked
asked_none h = false

abbrev asked_behind : Asked
asked_behind = with_asked 2 false (with_asked 2 true (with_asked 0 false (with_asked 0 true (with_asked 1 false asked_none))))

each_slot_once : (s : Slot) → times s two_runs ≡ pulse_at (pulse_in all_shown all_come) s (early_slots (If 0) [])
each_slot_once (Req h) = refl
each_slot_once (Ans zero) = refl
each_slot_once (Ans (suc zero)) = refl
each_slot_once (Ans (suc (suc zero))) = refl
each_slot_once (Ans (suc (suc (suc h)))) =
    let zeroth : nat_eq 0 (suc (suc (suc h))) ≡ false = grind arith in
    let first : nat_eq 1 (suc (suc (suc h))) ≡ false = grind arith in
    let second : nat_eq 2 (suc (suc (suc h))) ≡ false = grind arith in
    rw (zeroth, first, second) refl

runs_twice : Fired (If 0) [] all_shown all_come (at Branch 1) (at Rest 0) two_answers []
runs_twice =
    record {
      before = asked_none;
      between = asked_behind;
      behind = asked_behind;
      state = at Rest 0;
      list = two_runs;
      exactly = each_slot_once;
      sooner = (
        _,
        put (Req 0) 0 ∷ put (Req 2) 0 ∷ put (Ans 3) 0 ∷ [],
        refl,
        (tt, tt),
        refl,
        (
          _,
          put (Req 2) 0 ∷ put (Ans 3) 0 ∷ [],
          refl,
          (refl, tt),
          refl,
          (_, put (Ans 3) 0 ∷ [], refl, (refl, tt), refl, (_, [], refl, (tt, tt), refl, (refl, refl, refl))),
        ),
      );
      later = (refl, refl, refl);
    }

pub choice_shows_one : ChoiceShowsOne
choice_shows_one law =
    let shows = (law 0 all_come all_shown [] [] (at Branch 1) (at Rest 0) two_answers [] settled (λ h small. omega arith) (λ h. fits (incoming_bits (part_contacts (If 0)) h)) tt runs_twice).0 in
    let wrong : 2 ≤ 1 = shows.2.2.2.0 in
    omega (arith, wrong)
  where
    settled : Settled all_shown [] [] 0 0 (choice_cells 0 all_come)
    settled = (refl, refl, (refl, refl, (refl, refl, (refl, refl, (refl, refl, tt)))))

    fits : (bits : ℕ) → (if nat_eq bits 0 then 0 else 0) < 2 ^ bits
    fits bits = value_fits bits 0 (2 ^ bits) (pow_pos bits) (λ some. pow_pos bits)

-- A cycle of a repeated command in which its register asks for a test, this ends the run, and another is asked for. The pulses of
-- the test's answer and of the caller's request are net 5, the test's value is net 6, and the command's end is net 7.
abbrev ends_and_begins : Incoming
ends_and_begins = record { pulse = λ h. if nat_eq h 1 then 7 else 5; value = λ h. 6 }

abbrev asks_shown : Numbers
asks_shown = 1 ∷ 1 ∷ 0 ∷ 1 ∷ 1 ∷ 1 ∷ 0 ∷ 0 ∷ []

abbrev asked_again : Asked
asked_again = with_asked 0 true (with_asked 0 false asked_none)

each_once : (s : Slot) → times s (Ans 0 ∷ Req 2 ∷ []) ≡ pulse_at (pulse_in asks_shown ends_and_begins) s (early_slots While (1 ∷ []))
each_once (Req h) = refl
each_once (Ans h) = refl

asks_twice : Fired While (1 ∷ []) asks_shown ends_and_begins (at Test 0) (at Test 0) (put (Ans 2) 0 ∷ put (Req 0) 0 ∷ []) []
asks_twice =
    record {
      before = asked_none;
      between = asked_again;
      behind = asked_again;
      state = at Test 0;
      list = Ans 0 ∷ Req 2 ∷ [];
      exactly = each_once;
      sooner = (_, put (Req 0) 0 ∷ [], refl, (tt, tt), refl, (_, [], refl, (refl, tt), refl, (refl, refl, refl)));
      later = (refl, refl, refl);
    }

pub repeat_shows_one : RepeatShowsOne
repeat_shows_one law =
    let shows = (law 0 ends_and_begins asks_shown (1 ∷ []) [] (at Test 0) (at Test 0) (put (Ans 2) 0 ∷ put (Req 0) 0 ∷ []) [] settled small (λ h. fits (incoming_bits (part_contacts While) h)) (λ one. refl) asks_twice).0 in
    let wrong : 2 ≤ 1 = shows.0 in
    omega (arith, wrong)
  where
    settled : Settled asks_shown (1 ∷ []) [] 0 0 (repeat_cells 0 ends_and_begins)
    settled = (refl, refl, (refl, refl, (refl, refl, (refl, refl, (refl, refl, tt)))))

    small : (h : ℕ) → h < 3 → pulse_in asks_shown ends_and_begins h ≤ 1
    small zero low = omega arith
    small (suc zero) low = omega arith
    small (suc (suc zero)) low = omega arith
    small (suc (suc (suc h))) low = absurd (omega (arith, low))

    fits : (bits : ℕ) → (if nat_eq bits 0 then 0 else 0) < 2 ^ bits
    fits bits = value_fits bits 0 (2 ^ bits) (pow_pos bits) (λ some. pow_pos bits)

-- what is put goes somewhere
pub skip_puts_something : SkipPutsSomething
skip_puts_something puts = cc (puts (at Rest 0) (Req 0) (row (Req 0) (at Rest 0) (λ v. put (Ans 0) 0)) 0 0 refl (omega arith) refl (omega arith) (omega arith))

choice_rows : (p : Phase) (n : ℕ) → AllByRecursion (RowPasses (3 ∷ []) held_passing) (rows (If 0) p n)
choice_rows Rest n = ((λ early x. absurd (cc early)), tt)
choice_rows Test n = ((λ early x. to_either (nat_eq x 1)), tt)
  where
    to_either : (t : Bool) → AllPass held_passing 0 ((if t then put (Req 1) 0 else put (Req 2) 0) ∷ [])
    to_either true = (refl, tt)
    to_either false = (refl, tt)
choice_rows Branch n = ((λ early x. of_either (nat_eq n 1) x), tt)
  where
    of_either : (t : Bool) (x : ℕ) → AllPass held_passing (if t then 1 else 2) (put (Ans 3) x ∷ [])
    of_either true x = (refl, tt)
    of_either false x = (refl, tt)
choice_rows p n = tt

pub choice_puts_late : ChoicePutsLate
choice_puts_late = puts_pass (If 0) (3 ∷ []) held_passing choice_rows

pub choice_puts_early : ChoicePutsEarly
choice_puts_early puts = cc (puts (at Rest 0) (Req 3) (row (Req 3) (at Test 0) (λ v. put (Req 0) 0)) 0 0 refl (omega arith) refl (omega arith) (omega arith))
