-- A program does the same on stores that have the same at each location.
use Rattle.std.specs.Prelude.{◌≡◌, ◌⊎◌, ℕ, IsTrue, [], ◌∷◌, ◌++◌, Option, Some, None, nat_eq, if◌then◌else◌}
use Rattle.std.proofs.Common.{refl, sym, ap, subst, inl, inr, ◌∙◌}
use Rattle.gos_model.specs.Terms.{Term, Seq, Par, If, While, Assign, Deref, New, Not, Bin, Scope, Held, Put, NewArray}
use Rattle.gos_model.specs.Stores.{Entry, variable_at, Store, entry_at, store_put, without, array_at}
use Rattle.gos_model.specs.Reach.{Rel}
use Rattle.gos_model.specs.Steps.{Computes, Steps}
use Rattle.gos_model.specs.Labels.{Label, is_output}
use Rattle.gos_model.specs.Typing.{Imports}
use Rattle.gos_model.specs.Moves.{Config, Idle, Running, Act, Computing, Showing, Acts, Move}
use Rattle.gos_model.proofs.NumberLemmas.{number_cases}
use Rattle.gos_programs.specs.contexts.Contexts.{Context, plug}
use Rattle.gos_programs.specs.contexts.SameStores.{SameEntries, SwappedSame, MoveSame, MovesSame, WaitsSame}
use Rattle.gos_programs.proofs.contexts.PluggedLemmas.{acts_of, acts_to, reached_plugged, stays_running, inner_rest, running_at}
use Rattle.gos_programs.proofs.contexts.ReachedLemmas.{reached_lifted}
use Rattle.gos_programs.proofs.contexts.StoreLemmas.{numbered, put_same, put_other, without_same, without_other}

pub same_back : (s t : Store) → SameEntries s t → SameEntries t s
same_back s t h l = sym (h l)

-- the first of two, or else the second
abbrev pub or_else : Option Entry → Option Entry → Option Entry
or_else None o = o
or_else (Some e) o = Some e

pub entry_append : (s t : Store) (l : ℕ) → entry_at (s ++ t) l ≡ or_else (entry_at s l) (entry_at t l)
entry_append [] t l = refl
entry_append (e ∷ s) t l = number_cases e.place l (λ h y. rw y refl) (λ h n. rw n (entry_append s t l))

or_nothing : (o : Option Entry) → or_else o None ≡ o
or_nothing None = refl
or_nothing (Some e) = refl

pub swapped_same : SwappedSame
swapped_same s t apart l = entry_append s t l ∙ (either (entry_at s l) (entry_at t l) (apart l) ∙ sym (entry_append t s l))
  where
    either : (o q : Option Entry) → (o ≡ None) ⊎ (q ≡ None) → or_else o q ≡ or_else q o
    either o q (inl e) = ap (λ (x : Option Entry). or_else x q) e ∙ (sym (or_nothing q) ∙ ap (or_else q) (sym e))
    either o q (inr e) = ap (or_else o) e ∙ (or_nothing o ∙ ap (λ (x : Option Entry). or_else x o) (sym e))

-- after each change
same_more : (e : Entry) (s t : Store) → SameEntries s t → SameEntries (e ∷ s) (e ∷ t)
same_more e s t h l = λ i. if nat_eq e.place l then Some e else h l i

same_without : (s t : Store) (k : ℕ) → SameEntries s t → SameEntries (without s k) (without t k)
same_without s t k h l =
    number_cases k l
    (λ e y. subst (λ (x : ℕ). entry_at (without s k) x ≡ entry_at (without t k) x) e (without_same s k ∙ sym (without_same t k)))
    (λ other n. without_other s k l other ∙ (h l ∙ sym (without_other t k l other)))

same_put : (s t : Store) (k j n : ℕ) → SameEntries s t → SameEntries (store_put s k j n) (store_put t k j n)
same_put s t k j n h l =
    number_cases k l
    (λ e y. subst (λ (x : ℕ). entry_at (store_put s k j n) x ≡ entry_at (store_put t k j n) x) e
    (put_same s k j n ∙ (ap (numbered j n) (h k) ∙ sym (put_same t k j n))))
    (λ other f. put_other s k j n l other ∙ (h l ∙ sym (put_other t k j n l other)))

-- a change from store t, to a store that has what s' has
abbrev From : Store → Store → Rel
From s' t a b = (t' : Store) × SameEntries s' t' × Computes t t' a b

from_row : (s' t t' : Store) (a b : Term) → SameEntries s' t' → Computes t t' a b → From s' t a b
from_row s' t t' a b h g = (t', h, g)

after : (s s' t t' : Store) → s' ≡ s → SameEntries s t' → SameEntries s' t'
after s s' t t' e h l = ap (λ (x : Store). entry_at x l) e ∙ h l

same_row : (s s' t : Store) → SameEntries s t → (a b : Term) → Computes s s' a b → From s' t a b
same_row s s' t h (Seq m n) b (em, et, es) = from_row s' t t (Seq m n) b (after s s' t t es h) (em, et, refl)
same_row s s' t h (Par m n) b (em, en, et, es) = from_row s' t t (Par m n) b (after s s' t t es h) (em, en, et, refl)
same_row s s' t h (If m n p) b (g, es) = from_row s' t t (If m n p) b (after s s' t t es h) (g, refl)
same_row s s' t h (While m n) b (et, es) = from_row s' t t (While m n) b (after s s' t t es h) (et, refl)
same_row s s' t h (Bin op m n) b (k, w, em, et, es) = from_row s' t t (Bin op m n) b (after s s' t t es h) (k, w, em, et, refl)
same_row s s' t h (Held k op n) b (j, w, en, et, es) = from_row s' t t (Held k op n) b (after s s' t t es h) (j, w, en, et, refl)
same_row s s' t h (Not m) b (k, w, em, et, es) = from_row s' t t (Not m) b (after s s' t t es h) (k, w, em, et, refl)
same_row s s' t h (Assign m n) b (k, w, en, et, es) = from_row s' t t (Assign m n) b (after s s' t t es h) (k, w, en, et, refl)
same_row s s' t h (Put m k) b (e, j, old, em, here, has, et, es) =
    let l : ℕ = e.place in
    from_row s' t (store_put t l j k) (Put m k) b (after (store_put s l j k) s' t (store_put t l j k) es (same_put s t l j k h))
    (e, j, old, em, sym (h l) ∙ here, has, et, refl)
same_row s s' t h (Deref m) b (e, j, old, em, here, has, et, es) =
    from_row s' t t (Deref m) b (after s s' t t es h) (e, j, old, em, sym (h e.place) ∙ here, has, et, refl)
same_row s s' t h (New w m) b (l, absent, et, es) =
    let e : Entry = variable_at l w 0 in
    from_row s' t (e ∷ t) (New w m) b (after (e ∷ s) s' t (e ∷ t) es (same_more e s t h)) (l, sym (h l) ∙ absent, et, refl)
same_row s s' t h (NewArray n w m) b (l, absent, et, es) =
    let e : Entry = array_at l w n in
    from_row s' t (e ∷ t) (NewArray n w m) b (after (e ∷ s) s' t (e ∷ t) es (same_more e s t h)) (l, sym (h l) ∙ absent, et, refl)
same_row s s' t h (Scope l m) b (is, et, es) =
    from_row s' t (without t l) (Scope l m) b (after (without s l) s' t (without t l) es (same_without s t l h)) (is, et, refl)
same_row s s' t h a b g = absurd g

-- a step from store t, to a store that has what s' has
abbrev StepFrom : Store → Store → Rel
StepFrom s' t a b = (t' : Store) × SameEntries s' t' × Steps t t' a b

same_steps : (s s' t : Store) → SameEntries s t → (m v : Term) → Steps s s' m v → StepFrom s' t m v
same_steps s s' t h m v g = reached_lifted (Computes s s') (StepFrom s' t) here inside m v g
  where
    here : (a b : Term) → Computes s s' a b → StepFrom s' t a b
    here a b row = let k = same_row s s' t h a b row in (k.0, k.1, inl k.2)

    inside : (c : Context) (a b : Term) → StepFrom s' t a b → StepFrom s' t (plug c a) (plug c b)
    inside c a b k = (k.0, k.1, reached_plugged (Computes t k.0) c a b k.2)

same_acts : (i : Imports) (a : Act) (s s' t : Store) → SameEntries s t → (m v : Term) → Acts i a s s' m v
    → (t' : Store) × SameEntries s' t' × Acts i a t t' m v
same_acts i Computing s s' t h m v g = same_steps s s' t h m v g
same_acts i (Showing o) s s' t h m v (g, e) = (t, after s s' t t e h, (g, refl))

pub move_same : MoveSame
move_same p a m v s s' t h (n, w, hs, g) =
    let k = same_acts p.imports a s s' t h w v (acts_of p.imports a s s' w v g) in
    (k.0, k.1, (n, w, hs, acts_to p.imports a t k.0 w v k.2))

pub moves_same : MovesSame
moves_same p [] m v s s' t h inner g =
    let same = running_at m v s s' g in
    (t, (λ l. ap (λ (x : Store). entry_at x l) (sym same.1) ∙ h l), (λ i. Running (same.0 i) t))
moves_same p (a ∷ acts) m v s s' t h inner (Idle, g, gs) = absurd (stays_running p a acts s m inner g)
moves_same p (a ∷ acts) m v s s' t h inner (Running w u, g, gs) =
    let one = move_same p a m w s u t h g in
    let rest = moves_same p acts w v u s' one.0 one.1 (inner_rest a acts inner) gs in
    (rest.0, rest.1, (Running w one.0, one.2, rest.2))

pub waits_same : WaitsSame
waits_same p m s t h stalled = (silent, shown)
  where
    silent : (d : Config) → Move p Computing (Running m t) d → ⊥
    silent Idle (n, v, hs, g) = g
    silent (Running v t') g = let k = move_same p Computing m v t t' s (same_back s t h) g in stalled.0 (Running v k.0) k.2

    shown : (o : Label) (d : Config) → IsTrue (is_output o) → Move p (Showing o) (Running m t) d → ⊥
    shown o Idle out (n, v, hs, g) = stalled.1 o Idle out (n, v, hs, g)
    shown o (Running v t') out g =
        let k = move_same p (Showing o) m v t t' s (same_back s t h) g in stalled.1 o (Running v k.0) out k.2
