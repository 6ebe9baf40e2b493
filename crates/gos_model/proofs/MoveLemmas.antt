-- Moves one after another, and their labels.
use Rattle.std.specs.Prelude.{◌≡◌, List, [], ◌∷◌, ◌++◌, ℕ, zero, suc, true, false}
use Rattle.std.proofs.Common.{refl, sym, ap, subst, ◌∙◌}
use Rattle.gos_model.specs.Moves.{Program, Config, Act, Computing, Showing, Moves, labels, Unfoldings, Idle, Stalled}
use Rattle.gos_model.specs.Terms.{Term}
use Rattle.gos_model.specs.Labels.{Label, given, is_output}

pub moves_then : (p : Program) (xs ys : List Act) (c d e : Config) → Moves p xs c d → Moves p ys d e → Moves p (xs ++ ys) c e
moves_then p [] ys c d e h k = subst (λ (x : Config). Moves p ys x e) (sym h) k
moves_then p (a ∷ xs) ys c d e (b, h, hs) k = (b, h, moves_then p xs ys b d e hs k)

pub labels_then : (xs ys : List Act) → labels (xs ++ ys) ≡ labels xs ++ labels ys
labels_then [] ys = refl
labels_then (Computing ∷ xs) ys = labels_then xs ys
labels_then (Showing o ∷ xs) ys = ap (λ ls. o ∷ ls) (labels_then xs ys)

pub unfoldings_then : (n j : ℕ) (m v t : Term) → Unfoldings n m v → Unfoldings j v t → (i : ℕ) × Unfoldings i m t
unfoldings_then zero j m v t h g = (j, subst (λ (x : Term). Unfoldings j x t) (sym h) g)
unfoldings_then (suc n) j m v t (u, h, hs) g = let (i, k) = unfoldings_then n j u v t hs g in (suc i, (u, h, k))

pub idle_is_stalled : (g : Program) → Stalled g Idle
idle_is_stalled g = ((λ e move. cc move.0), λ o e output move. shown o output (cc move.0))
  where
    shown : (o : Label) → is_output o ≡ true → o ≡ given 0 0 → ⊥
    shown o output same = let bad : false ≡ true = sym (ap is_output same) ∙ output in cc bad

pub no_moves : (g : Program) (acts : List Act) (c : Config) → acts ≡ [] → Moves g acts c c
no_moves g acts c none = subst (λ (as' : List Act). Moves g as' c c) (sym none) refl
