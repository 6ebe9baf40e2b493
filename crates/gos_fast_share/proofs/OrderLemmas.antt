-- Which order is that of some ranks, and cycles in which gates that are made for another one go wrong.
use Rattle.std.proofs.Common.{ℕ, ◌<◌, ◌≤◌, ◌^◌, Bool, true, false, List, [], ◌∷◌, refl, arith, pow_pos, if◌then◌else◌}
use Rattle.std.specs.Prelude.{nat_eq}
use Rattle.gos_types.specs.declared.types.Ty.TheVariants as types
use Rattle.gos_types.specs.Types.{Com, Exp, Pair}
use Rattle.gos_netlist.specs.Settling.{Numbers}
use Rattle.gos_netlist.specs.Settling as nets
use Rattle.gos_plan.specs.Kinds.{Share, contacts_of, part_contacts}
use Rattle.gos_plan.specs.Firing.{Rest, Req, Ans, Token, at, put}
use Rattle.gos_plan.specs.Firings.{Asked, with_asked}
use Rattle.gos_macro.specs.Gates.{Incoming, Bare, incoming_bits, Settled}
use Rattle.gos_macro.specs.Law.{FiredInOrder}
use Rattle.gos_macro.specs.SmallGates.{last_first}
use Rattle.gos_macro.proofs.causal.FiringLemmas.{value_fits}
use Rattle.gos_fast_share.specs.Fast.{fast_cells, FastStands}
use Rattle.gos_fast_share.specs.SmallFast.{requests_first, answer_first, fourth_first, RequestsAreFirst, AnswerIsNotFirst, CommandKeeps, OtherOrderFails, FixedOrderFails}
use Rattle.gos_fast_share.specs.laws.Tops.{one_top_tells}
use Rattle.gos_fast_share.specs.laws.Kept.{fast_gates}

small_ranks : (h : ℕ) → h < 3 → last_first h < 2
small_ranks h low = by_test (nat_eq h 0)
  where
    by_test : (b : Bool) → (if b then 1 else 0) < 2
    by_test true = omega arith
    by_test false = omega arith

pub requests_are_first : RequestsAreFirst
requests_are_first = one_top_tells Com requests_first last_first 2 small_ranks refl

pub answer_is_not_first : AnswerIsNotFirst
answer_is_not_first is = let wrong = is 2 small_ranks in cc wrong

pub command_keeps : CommandKeeps
command_keeps = fast_gates types.Com requests_first last_first (tt, omega arith) requests_are_first

-- no handshake has been asked
abbrev asked_none : Asked
asked_none h = false

-- a number that comes in is 0 where its net shows 0
fits : (bits : ℕ) → (if nat_eq bits 0 then 0 else 0) < 2 ^ bits
fits bits = value_fits bits 0 (2 ^ bits) (pow_pos bits) (λ some. pow_pos bits)

-- Caller 1 asks a command, and the source answers. Net 7 is 1, and net 8 is 0.
abbrev asks_and_answers : Incoming
asks_and_answers = record { pulse = λ h. if nat_eq h 1 then 8 else 7; value = λ h. 8 }

abbrev answer_shown : Numbers
answer_shown = 0 ∷ 0 ∷ 0 ∷ 1 ∷ 1 ∷ 1 ∷ 0 ∷ 1 ∷ 0 ∷ []

abbrev asked_source : Asked
asked_source = with_asked 0 false (with_asked 0 true asked_none)

abbrev to_caller1 : List Token
to_caller1 = put (Req 0) 0 ∷ put (Ans 2) 0 ∷ []

answered_at_once : FiredInOrder (Share Com) [] last_first answer_shown asks_and_answers (at Rest 0) (at Rest 1) to_caller1 []
answered_at_once =
    record {
      before = asked_none;
      between = asked_source;
      behind = asked_source;
      state = at Rest 1;
      top = 2;
      above = small_ranks;
      sooner = (_, put (Ans 2) 0 ∷ [], refl, (refl, tt), refl, (_, [], refl, (tt, tt), refl, (refl, refl, refl)));
      later = (refl, refl, refl);
    }

pub other_order_fails : OtherOrderFails
other_order_fails law =
    let kept = law 0 asks_and_answers answer_shown [] (0 ∷ 1 ∷ []) (at Rest 0) (at Rest 1) to_caller1 [] settled (λ h small. by_test (nat_eq h 1)) (λ h. fits (incoming_bits (part_contacts (Share Com)) h)) stands answered_at_once in
    let wrong = kept.0 1 (Bare 5) refl (omega arith) in
    omega (arith, wrong)
  where
    settled : Settled answer_shown [] (0 ∷ 1 ∷ []) 0 0 (fast_cells (contacts_of Com) answer_first 0 asks_and_answers)
    settled = (refl, refl, (refl, refl, (refl, refl, (refl, refl, (refl, refl, (refl, refl, (refl, refl, tt)))))))

    by_test : (b : Bool) → nets.at answer_shown (if b then 8 else 7) ≤ 1
    by_test true = omega arith
    by_test false = omega arith

    stands : FastStands 0 [] (at Rest 0)
    stands = record { rests = refl; branch = refl; one = omega arith }

-- Caller 1 asks for a command, and caller 0 for an expression. Net 14 is 1, and net 15 is 0.
abbrev both_ask : Incoming
both_ask = record { pulse = λ h. if nat_eq h 3 then 14 else (if nat_eq h 4 then 14 else 15); value = λ h. 15 }

abbrev both_shown : Numbers
both_shown = 0 ∷ 0 ∷ 0 ∷ 0 ∷ 1 ∷ 1 ∷ 1 ∷ 0 ∷ 0 ∷ 1 ∷ 0 ∷ 0 ∷ 0 ∷ 0 ∷ 1 ∷ 0 ∷ []

abbrev both_asked : Asked
both_asked = with_asked 1 true (with_asked 0 true asked_none)

abbrev both_sent : List Token
both_sent = put (Req 0) 0 ∷ put (Req 1) 0 ∷ []

ranks_below : (h : ℕ) → h < 6 → fourth_first h < 2
ranks_below h low = by_test (nat_eq h 4)
  where
    by_test : (b : Bool) → (if b then 0 else 1) < 2
    by_test true = omega arith
    by_test false = omega arith

caller0_last : FiredInOrder (Share (Pair Com (Exp 1))) [] fourth_first both_shown both_ask (at Rest 0) (at Rest 0) both_sent []
caller0_last =
    record {
      before = asked_none;
      between = both_asked;
      behind = both_asked;
      state = at Rest 0;
      top = 2;
      above = ranks_below;
      sooner = (_, put (Req 1) 0 ∷ [], refl, (refl, tt), refl, (_, [], refl, (refl, tt), refl, (refl, refl, refl)));
      later = (refl, refl, refl);
    }

pub fixed_order_fails : FixedOrderFails
fixed_order_fails law =
    let kept = law 0 both_ask both_shown [] (0 ∷ 1 ∷ []) (at Rest 0) (at Rest 0) both_sent [] settled (λ h small. by_tests (nat_eq h 3) (nat_eq h 4)) (λ h. fits (incoming_bits (part_contacts (Share (Pair Com (Exp 1)))) h)) stands caller0_last in
    let wrong = kept.2.branch in
    omega (arith, wrong)
  where
    settled : Settled both_shown [] (0 ∷ 1 ∷ []) 0 0 (fast_cells (contacts_of (Pair Com (Exp 1))) (2 ∷ 3 ∷ 4 ∷ 5 ∷ 0 ∷ 1 ∷ []) 0 both_ask)
    settled =
        (refl, refl, (refl, refl, (refl, refl, (refl, refl, (refl, refl, (refl, refl, (refl, refl, (refl, refl, (refl, refl, (refl, refl, (refl, refl, (refl, refl, (refl, refl, (refl, refl, tt))))))))))))))

    by_tests : (b c : Bool) → nets.at both_shown (if b then 14 else (if c then 14 else 15)) ≤ 1
    by_tests true c = omega arith
    by_tests false true = omega arith
    by_tests false false = omega arith

    stands : FastStands 0 [] (at Rest 0)
    stands = record { rests = refl; branch = refl; one = omega arith }
