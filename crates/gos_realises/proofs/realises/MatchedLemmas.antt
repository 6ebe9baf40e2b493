-- What a matched list shows, and that its end agrees.
use Rattle.std.specs.Prelude.{List, [], ◌∷◌}
use Rattle.std.proofs.Common.{◌≡◌, ◌++◌, refl, sym, ◌∙◌, ap, append_assoc}
use Rattle.gos_model.specs.Moves.{Program, Config}
use Rattle.gos_model.specs.Labels.{Label}
use Rattle.gos_plan.specs.Plans.{Plan}
use Rattle.gos_plan.specs.Tokens.{Tokens, Element}
use Rattle.gos_realises.specs.realises.Matched.{Agrees, IsMatched, shows, all_shown}

pub matched_agrees : (p : Plan) (g : Program) (xs : List Element) (s : Tokens) (c : Config) → IsMatched p g xs s c → Agrees p g s c
matched_agrees p g [] s c h = h
matched_agrees p g (x ∷ xs) s c h = h.0

pub shown_then : (p : Plan) (xs ys : List Element) → all_shown p (xs ++ ys) ≡ all_shown p xs ++ all_shown p ys
shown_then p [] ys = refl
shown_then p (x ∷ xs) ys = ap (λ (ls : List Label). shows p x ++ ls) (shown_then p xs ys) ∙ sym (append_assoc (shows p x) (all_shown p xs) (all_shown p ys))
