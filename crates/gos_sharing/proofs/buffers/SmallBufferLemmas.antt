-- The Share before the plan of `skip` is a buffer for its first caller. One with two callers, or without a source, is none.
use Rattle.std.specs.Prelude.{◌≡◌, ℕ, zero, suc, ◌+◌, ◌*◌, ◌<◌, List, [], ◌∷◌, ◌⊎◌, Some, Contains, IsTrue, slice_get}
use Rattle.std.proofs.Common.{refl, sym, ap, subst, arith, inl, inr}
use Rattle.std.proofs.lemmas.Option.{none-some, same_Some}
use Rattle.gos_types.specs.Types.{Com}
use Rattle.gos_plan.specs.Kinds.{Contact, serves, contacts_of}
use Rattle.gos_plan.specs.Plans.{End, PartEnd, ResultEnd, Joint, stands_in, IsRight}
use Rattle.gos_joining.specs.webs.Webs.{joint}
use Rattle.gos_joining.specs.webs.Cutting.{StandsIn}
use Rattle.gos_sharing.specs.sharing.Sharing.{way_into, way_out_of, IsOfPart, LeadsThrough, IsSeenThrough}
use Rattle.gos_model.specs.Terms as terms
use Rattle.gos_types.specs.Events.{Request}
use Rattle.gos_plan.specs.Firing.{Rest, Req, Ans, Row, row, at, put}
use Rattle.gos_plan.specs.Tokens.{Tokens, Element, Fire, In, fired, with_token, Runs}
use Rattle.gos_plan.specs.SmallPlans.{skip_plan, at_first}
use Rattle.gos_realises.specs.realises.Regular.{InputsKeepTurns}
use Rattle.gos_sharing.proofs.buffers.BranchLemmas.{buffers_are_loyal}
use Rattle.gos_realises.proofs.realises.SkipLemmas.{skip_is_realised}
use Rattle.gos_sharing.proofs.buffers.VariableLemmas.{ground_is_buffered}
use Rattle.gos_sharing.specs.buffers.SmallBuffers.{shared_skip, bare_skip, SharedIsBuffered, FirstIsBuffer, FirstIsLoyal, SharedIsRealised, SecondIsNotLoyal, EmptyIsUnjoined, SecondIsNone, BothAreNone, unsourced_skip, UnsourcedIsNone}

shared_is_right : IsRight shared_skip
shared_is_right = (((0, 0, refl, refl), refl, refl), (((0, 0, refl, refl), refl, refl), tt))

bare_is_right : IsRight bare_skip
bare_is_right = (((0, 0, refl, refl), refl, refl), tt)

-- the joints of the plan with the Share
result_asks : (a : End) → Contains shared_skip.joints (joint a (PartEnd 1 1)) → ResultEnd 0 ≡ a
result_asks a (zero, l, e) = let no : PartEnd 0 0 ≡ PartEnd 1 1 = ap (λ (j : Joint). j.serving) e in absurd (cc no)
result_asks a (suc zero, l, e) = ap (λ (j : Joint). j.asking) e
result_asks a (suc (suc n), l, e) = absurd (omega (arith, l))

skip_serves : (b : End) → Contains shared_skip.joints (joint (PartEnd 1 0) b) → PartEnd 0 0 ≡ b
skip_serves b (zero, l, e) = ap (λ (j : Joint). j.serving) e
skip_serves b (suc zero, l, e) = let no : ResultEnd 0 ≡ PartEnd 1 0 = ap (λ (j : Joint). j.asking) e in absurd (cc no)
skip_serves b (suc (suc n), l, e) = absurd (omega (arith, l))

-- each joint has one end at the Share, and one elsewhere
abbrev OneSide : Joint → Type 0
OneSide j = ((IsOfPart 1 j.asking → ⊥) × IsOfPart 1 j.serving) ⊎ (IsOfPart 1 j.asking × (IsOfPart 1 j.serving → ⊥))

not_first : IsOfPart 1 (PartEnd 0 0) → ⊥
not_first e = omega (arith, e)

one_side : (a b : End) → Contains shared_skip.joints (joint a b) → OneSide (joint a b)
one_side a b (zero, l, e) = subst (λ (j : Joint). OneSide j) e (inr (refl, not_first))
one_side a b (suc zero, l, e) = subst (λ (j : Joint). OneSide j) e (inl ((λ h. h), refl))
one_side a b (suc (suc n), l, e) = absurd (omega (arith, l))

not_both : (a b : End) → OneSide (joint a b) → IsOfPart 1 a → IsOfPart 1 b → ⊥
not_both a b (inl (outside, inside)) one other = outside one
not_both a b (inr (inside, outside)) one other = outside other

not_neither : (a b : End) → OneSide (joint a b) → (IsOfPart 1 a → ⊥) → (IsOfPart 1 b → ⊥) → ⊥
not_neither a b (inl (outside, inside)) one other = other inside
not_neither a b (inr (inside, outside)) one other = one inside

abbrev Seen : Joint → Type 0
Seen j =
    (Contains shared_skip.joints j × (IsOfPart 1 j.asking → ⊥) × (IsOfPart 1 j.serving → ⊥)) ⊎ LeadsThrough 1 Com 0 shared_skip j.asking j.serving

to_seen : (a b : End) → Contains bare_skip.joints (joint a b) → Seen (joint a b)
to_seen a b (zero, l, e) = subst (λ (j : Joint). Seen j) e (inr (0, serves 0 0, refl, (1, omega arith, refl), (0, omega arith, refl)))
to_seen a b (suc n, l, e) = absurd (omega (arith, l))

through_first : (a b : End) (j : ℕ) (k : Contact) → slice_get (contacts_of Com) j ≡ Some k
    → Contains shared_skip.joints (joint a (way_into 1 Com 0 j k.role)) → Contains shared_skip.joints (joint (way_out_of 1 Com 0 j k.role) b)
    → Contains bare_skip.joints (joint a b)
through_first a b zero k is one other =
    let same = sym (same_Some (serves 0 0) k is) in
    let asks = result_asks a (subst (λ (x : Contact). Contains shared_skip.joints (joint a (way_into 1 Com 0 0 x.role))) same one) in
    let served = skip_serves b (subst (λ (x : Contact). Contains shared_skip.joints (joint (way_out_of 1 Com 0 0 x.role) b)) same other) in
    (0, omega arith, λ i. joint (asks i) (served i))
through_first a b (suc j) k is one other = absurd (none-some k is)

from_seen : (a b : End) → Seen (joint a b) → Contains bare_skip.joints (joint a b)
from_seen a b (inl (has, one, other)) = absurd (not_neither a b (one_side a b has) one other)
from_seen a b (inr (j, k, is, one, other)) = through_first a b j k is one other

first_is_seen : IsSeenThrough 1 Com 0 shared_skip bare_skip
first_is_seen =
    record {
      share = refl;
      caller = omega arith;
      right = shared_is_right;
      also_right = bare_is_right;
      parts = refl;
      imports = refl;
      outcome = refl;
      apart = λ a b has one other. not_both a b (one_side a b has) one other;
      joints = λ a b. (to_seen a b, from_seen a b);
    }

unasked : StandsIn shared_skip (PartEnd 1 2) → ⊥
unasked (k, (zero, l, e), stands) = let t : IsTrue (stands_in (PartEnd 1 2) (joint (PartEnd 1 0) (PartEnd 0 0))) = subst (λ (j : Joint). IsTrue (stands_in (PartEnd 1 2) j)) (sym e) stands in cc t
unasked (k, (suc zero, l, e), stands) = let t : IsTrue (stands_in (PartEnd 1 2) (joint (ResultEnd 0) (PartEnd 1 1))) = subst (λ (j : Joint). IsTrue (stands_in (PartEnd 1 2) j)) (sym e) stands in cc t
unasked (k, (suc (suc n), l, e), stands) = omega (arith, l)

second_alone : (j : ℕ) → j < 1 → StandsIn shared_skip (PartEnd 1 (1 + 1 * 1 + j)) → ⊥
second_alone zero lt stands = unasked stands
second_alone (suc j) lt stands = omega (arith, lt)

source_stands : (j : ℕ) → j < 1 → StandsIn shared_skip (PartEnd 1 j)
source_stands zero lt = (joint (PartEnd 1 0) (PartEnd 0 0), (0, omega arith, refl), refl)
source_stands (suc j) lt = absurd (omega (arith, lt))

pub first_is_buffer : FirstIsBuffer
first_is_buffer = record { seen = first_is_seen; ground = tt; alone = second_alone; goes_on = λ j lt asked. source_stands j lt }

result_joined : (j : ℕ) → j < 1 → StandsIn skip_plan (ResultEnd j)
result_joined zero lt = (joint (ResultEnd 0) (PartEnd 0 0), (0, omega arith, refl), refl)
result_joined (suc j) lt = absurd (omega (arith, lt))

pub shared_is_realised : SharedIsRealised
shared_is_realised = ground_is_buffered Com 0 skip_plan terms.Skip (omega arith) tt result_joined skip_is_realised

pub shared_is_buffered : SharedIsBuffered
shared_is_buffered = refl

pub first_is_loyal : FirstIsLoyal
first_is_loyal = buffers_are_loyal 1 Com 0 shared_skip bare_skip first_is_buffer shared_is_realised.suits.regular

-- a run, until the answer of `skip` comes to the Share
abbrev until_answer : List Element
until_answer = In (ResultEnd 0) 0 ∷ Fire 1 (Req 1) ∷ Fire 0 (Req 0) ∷ []

abbrev asked : Tokens
asked = with_token shared_skip (ResultEnd 0) Request (Some 0) at_first

abbrev passes : Row
passes = row (Req 1) (at Rest 0) (put (Req 0))

abbrev passed : Tokens
passed = fired shared_skip 1 passes 0 asked

abbrev answers : Row
answers = row (Req 0) (at Rest 0) (λ v. put (Ans 0) 0)

abbrev answered : Tokens
answered = fired shared_skip 0 answers 0 passed

abbrev returns : Row
returns = row (Ans 0) (at Rest 0) (put (Ans 1))

runs : Runs shared_skip until_answer at_first answered
runs = (asked, (tt, (omega arith, refl)), (passed, (0, passes, refl, refl, refl), (answered, (0, answers, refl, refl, refl), refl)))

pub second_is_not_loyal : SecondIsNotLoyal
second_is_not_loyal loyal =
    let turns : InputsKeepTurns shared_skip [] until_answer = ((refl, tt), tt) in
    let branch : (answered.state 1).number ≡ 1 =
    loyal until_answer (Ans 0) at_first answered (fired shared_skip 1 returns 0 answered) ((λ way e. refl), (λ i. refl)) runs turns (omega arith) (0, returns, refl, refl, refl) in
    omega (arith, branch)

pub empty_is_unjoined : EmptyIsUnjoined
empty_is_unjoined joined = let (j, (k, inside, is), stands) = joined 0 (omega arith) in omega (arith, inside)

pub second_is_none : SecondIsNone
second_is_none is = is.alone 0 (omega arith) (joint (ResultEnd 0) (PartEnd 1 1), (1, omega arith, refl), refl)

pub both_are_none : BothAreNone
both_are_none zero q is = is.alone 0 (omega arith) (joint (PartEnd 2 1) (PartEnd 1 2), (2, omega arith, refl), refl)
both_are_none (suc zero) q is = is.alone 0 (omega arith) (joint (PartEnd 2 0) (PartEnd 1 1), (1, omega arith, refl), refl)
both_are_none (suc (suc c)) q is = let two = is.seen.caller in omega (arith, two)

unsourced : StandsIn unsourced_skip (PartEnd 1 0) → ⊥
unsourced (k, (zero, l, e), stands) = let t : IsTrue (stands_in (PartEnd 1 0) (joint (ResultEnd 0) (PartEnd 1 1))) = subst (λ (j : Joint). IsTrue (stands_in (PartEnd 1 0) j)) (sym e) stands in cc t
unsourced (k, (suc n, l, e), stands) = omega (arith, l)

pub unsourced_is_none : UnsourcedIsNone
unsourced_is_none q is = unsourced (is.goes_on 0 (omega arith) (joint (ResultEnd 0) (PartEnd 1 1), (0, omega arith, refl), refl))
