-- An idle state is seen as an idle one.
use Rattle.std.specs.Prelude.{None, nat_eq}
use Rattle.std.proofs.Common.{◌≡◌, ℕ, Bool, true, false, Option, Some, refl, if◌then◌else◌}
use Rattle.gos_types.specs.Events.{Direction}
use Rattle.gos_plan.specs.Firing.{Rest, State, at}
use Rattle.gos_plan.specs.Plans.{End}
use Rattle.gos_plan.specs.Tokens.{Tokens}
use Rattle.gos_joining.specs.webs.Cutting.{asks_in}
use Rattle.gos_sharing.specs.sharing.Sharing.{other_end, follower, held_or, held_if, IdleIsSeen}

idle_held : (s : Tokens) (way : Direction) (o : Option End) → ((e : End) → s.in_place way e ≡ None) → held_if s way o ≡ None
idle_held s way None empty = refl
idle_held s way (Some e) empty = empty e

idle_both : (b : Bool) (v w : Option ℕ) → v ≡ None → w ≡ None → (if b then held_or v w else None) ≡ None
idle_both true None w h k = k
idle_both true (Some v) w h k = h
idle_both false v w h k = refl

idle_rest : (b : Bool) (n : ℕ) (q : State) → q.phase ≡ Rest → (if b then at Rest n else q).phase ≡ Rest
idle_rest true n q h = refl
idle_rest false n q h = h

pub idle_is_seen : IdleIsSeen
idle_is_seen i t c r q s idle = (
  λ way e. idle_both (asks_in q.joints e) (s.in_place way e) (held_if s way (follower i t c (other_end r.joints e))) (idle.0 way e) (idle_held s way (follower i t c (other_end r.joints e)) (λ d. idle.0 way d)),
  λ j. idle_rest (nat_eq j i) c (s.state j) (idle.1 j),
)
