-- Programs with the same moves from related configurations: a plan realises the one where it realises the other.
use Rattle.std.specs.Prelude.{◌≡◌, List, [], ◌∷◌}
use Rattle.std.proofs.Common.{refl, subst}
use Rattle.gos_model.specs.Terms.{Term}
use Rattle.gos_model.specs.Moves.{Program, Config, Idle, Act, Move, Moves, Stalled}
use Rattle.gos_plan.specs.Plans.{Plan}
use Rattle.gos_plan.specs.Tokens.{Tokens, Element}
use Rattle.gos_realises.specs.realises.Matched.{Agrees, IsMatched, RealisesInTurn, program_of}

-- what the second program does the first does as well, from configurations that R relates
pub record Follows (g f : Program) (R : Config → Config → Type 0) : Type 0 where
  pub starts : R Idle Idle
  pub step : (a : Act) (c e d : Config) → R c e → Move f a e d → (b : Config) × Move g a c b × R b d
  pub stalls : (c e : Config) → R c e → Stalled f e → Stalled g c
  pub idles : (c e : Config) → R c e → c ≡ Idle → e ≡ Idle

module _ (g f : Program) (R : Config → Config → Type 0) (follows : Follows g f R) where
  steps : (acts : List Act) (c e d : Config) → R c e → Moves f acts e d → (b : Config) × Moves g acts c b × R b d
  steps [] c e d with_it is_it = (c, refl, subst (R c) is_it with_it)
  steps (a ∷ acts) c e d with_it (h, move, moves) =
      let (b, first, then) = follows.step a c e h with_it move in
      let (i, rest, last) = steps acts b h d then moves in (i, (b, first, rest), last)

module _ (p : Plan) (m n : Term) (R : Config → Config → Type 0) (follows : Follows (program_of p m) (program_of p n) R) where
  agrees : (s : Tokens) (c e : Config) → R c e → Agrees p (program_of p n) s e → Agrees p (program_of p m) s c
  agrees s c e with_it (stalled, idle) =
      (λ quiet. follows.stalls c e with_it (stalled quiet), λ is_idle. idle (follows.idles c e with_it is_idle))

  matches : (xs : List Element) (s : Tokens) (c e : Config) → R c e → IsMatched p (program_of p n) xs s e → IsMatched p (program_of p m) xs s c
  matches [] s c e with_it matched = agrees s c e with_it matched
  matches (x ∷ xs) s c e with_it (now, later) = (
    agrees s c e with_it now,
    λ t does.
        let (acts, d, moves, shown, goes, rest) = later t does in
        let (b, own, then) = steps (program_of p m) (program_of p n) R follows acts c e d with_it moves in
        (acts, b, own, shown, goes, matches xs t b d then rest),
  )

  pub followed_is_realised : RealisesInTurn p n → RealisesInTurn p m
  followed_is_realised done s t xs idle runs keeps =
      let (matched, orderly) = done s t xs idle runs keeps in (matches xs s Idle Idle follows.starts matched, orderly)
