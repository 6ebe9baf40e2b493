-- In an idle state no token lies, so none is unwelcome.
use Rattle.std.specs.Prelude.{◌≡◌, ℕ, Option, Some, None}
use Rattle.std.proofs.Common.{refl, sym, ◌∙◌, ap}
use Rattle.gos_types.specs.Events.{Direction}
use Rattle.gos_plan.specs.Plans.{End, Plan}
use Rattle.gos_plan.specs.Tokens.{Tokens, places_of, held_at, token_at, end_of, way_of, IsIdle}
use Rattle.gos_plan.specs.Orderly.{AllWelcome}
use Rattle.gos_plan.proofs.HeldLemmas.{nothing_there}

pub idle_token : (p : Plan) (s : Tokens) → IsIdle p s → (e : End) (way : Direction) (v : ℕ) → token_at p s e way ≡ Some v → ⊥
idle_token p s idle e way v held = by_place (places_of p e) refl
  where
    by_place : (o : Option End) → places_of p e ≡ o → ⊥
    by_place None none = nothing_there p e way v s held none
    by_place (Some x) named =
        let clash : None ≡ Some v = sym (idle.0 way x) ∙ (sym (ap (held_at s way) named) ∙ held) in cc clash

pub idle_welcome : (p : Plan) (s : Tokens) → IsIdle p s → AllWelcome p s
idle_welcome p s idle i t c v there way lies = absurd (idle_token p s idle (end_of i t) (way_of t) v lies)
