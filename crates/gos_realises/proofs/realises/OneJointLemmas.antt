-- Token states of a plan with one joint, by the end that asks there.
use Rattle.std.specs.Prelude.{◌≡◌, ℕ, Bool, true, false, Option, Some, None}
use Rattle.std.proofs.Common.{refl, ap, ◌∙◌}
use Rattle.gos_types.specs.Events.{Direction, Request, Answer}
use Rattle.gos_plan.specs.Firing.{Rest}
use Rattle.gos_plan.specs.Plans.{End, Plan, same_end}
use Rattle.gos_plan.specs.Tokens.{Tokens, with_place, IsIdle}
use Rattle.gos_plan.proofs.JointLemmas.{same_itself, same_is}

-- what lies on the joint, and nothing elsewhere; all parts rest
pub record Lies (asker : End) (a b : Option ℕ) (s : Tokens) : Type 0 where
  pub request : s.in_place Request asker ≡ a
  pub answer : s.in_place Answer asker ≡ b
  pub no_other : (way : Direction) (e : End) → same_end e asker ≡ false → s.in_place way e ≡ None
  pub rests : (i : ℕ) → (s.state i).phase ≡ Rest

pub rests_alone : (asker : End) (p : Plan) (s : Tokens) → IsIdle p s → Lies asker None None s
rests_alone asker p s idle =
    record {
      request = idle.0 Request asker;
      answer = idle.0 Answer asker;
      no_other = λ way e apart. idle.0 way e;
      rests = idle.1;
    }

pub is_idle : (asker : End) (p : Plan) (s : Tokens) → Lies asker None None s → IsIdle p s
is_idle asker p s lies = (λ way e. empty way e (same_end e asker) refl, lies.rests)
  where
    here : (way : Direction) → s.in_place way asker ≡ None
    here Request = lies.request
    here Answer = lies.answer

    empty : (way : Direction) (e : End) (b : Bool) → same_end e asker ≡ b → s.in_place way e ≡ None
    empty way e true t = ap (s.in_place way) (same_is e asker t) ∙ here way
    empty way e false t = lies.no_other way e t

pub with_request : (asker : End) (a b held : Option ℕ) (s : Tokens) → Lies asker a b s → Lies asker held b (with_place Request asker held s)
with_request asker a b held s lies =
    record { request = rw (same_itself asker) refl; answer = lies.answer; no_other = others; rests = lies.rests }
  where
    others : (way : Direction) (e : End) → same_end e asker ≡ false → (with_place Request asker held s).in_place way e ≡ None
    others Request e apart = rw apart (lies.no_other Request e apart)
    others Answer e apart = lies.no_other Answer e apart

pub with_answer : (asker : End) (a b held : Option ℕ) (s : Tokens) → Lies asker a b s → Lies asker a held (with_place Answer asker held s)
with_answer asker a b held s lies =
    record { request = lies.request; answer = rw (same_itself asker) refl; no_other = others; rests = lies.rests }
  where
    others : (way : Direction) (e : End) → same_end e asker ≡ false → (with_place Answer asker held s).in_place way e ≡ None
    others Request e apart = lies.no_other Request e apart
    others Answer e apart = rw apart (lies.no_other Answer e apart)

-- one of two holds, where one place is empty and the other is not
pub not_both : (x : Option ℕ) (v : ℕ) → x ≡ None → x ≡ Some v → ⊥
not_both x v none some = cc none
