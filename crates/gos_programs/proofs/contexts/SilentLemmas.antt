-- Lists of moves by what they show: nothing, a request, one label, an answer.
use Rattle.std.specs.Prelude.{◌≡◌, ◌≢◌, ℕ, List, [], ◌∷◌}
use Rattle.std.proofs.Common.{refl, sym, ap, subst, inl, inr, ◌∙◌}
use Rattle.gos_model.specs.Terms.{Term, Import, Deref, Wait, Put}
use Rattle.gos_model.specs.Typing.{Imports}
use Rattle.gos_model.specs.Stores.{Store}
use Rattle.gos_model.specs.Labels.{Given, Taken, Label, given}
use Rattle.gos_model.specs.Moves.{Program, Config, Idle, Running, Act, Computing, Showing, Unfoldings, Move, Moves, labels}
use Rattle.gos_model.proofs.MoveLemmas.{unfoldings_then}
use Rattle.gos_programs.specs.contexts.Plugged.{AreInner}
use Rattle.gos_programs.proofs.contexts.BackwardLemmas.{OneLabel}
use Rattle.gos_programs.proofs.contexts.PluggedLemmas.{acts_of, stays_running, inner_rest}
use Rattle.gos_programs.proofs.contexts.ReachedLemmas.{reached_lifted}

no_head : {A : Type 0} (x : A) (xs : List A) → x ∷ xs ≡ [] → ⊥
no_head x xs e = cc e

no_tail : {A : Type 0} (x : A) (xs : List A) → [] ≡ x ∷ xs → ⊥
no_tail x xs e = cc e

same_head : {A : Type 0} (x y : A) (xs ys : List A) → x ∷ xs ≡ y ∷ ys → (x ≡ y) × (xs ≡ ys)
same_head x y xs ys e = (cc, cc)

-- no label of the given port is shown
pub silent_inner : (acts : List Act) → labels acts ≡ [] → AreInner acts
silent_inner [] e = tt
silent_inner (Computing ∷ acts) e = silent_inner acts e
silent_inner (Showing o ∷ acts) e = absurd (no_head o (labels acts) e)

pub one_inner : (acts : List Act) (o : Label) → labels acts ≡ o ∷ [] → o.port ≢ Given → AreInner acts
one_inner [] o e other = absurd (no_tail o [] e)
one_inner (Computing ∷ acts) o e other = one_inner acts o e other
one_inner (Showing q ∷ acts) o e other =
    let same = same_head q o (labels acts) [] e in ((λ x. other (ap (λ l. l.port) (sym same.0) ∙ x)), silent_inner acts same.1)

pub inner_stays : (p : Program) (acts : List Act) (m : Term) (s : Store) (d : Config)
    → AreInner acts → Moves p acts (Running m s) d → (t : Term) × (u : Store) × (d ≡ Running t u)
inner_stays p [] m s d inner h = (m, s, sym h)
inner_stays p (a ∷ acts) m s d inner (Idle, h, hs) = absurd (stays_running p a acts s m inner h)
inner_stays p (a ∷ acts) m s d inner (Running v r, h, hs) = inner_stays p acts v r d (inner_rest a acts inner) hs

-- an idle program without labels does nothing
pub idle_silent : (p : Program) (acts : List Act) (d : Config) → labels acts ≡ [] → Moves p acts Idle d → d ≡ Idle
idle_silent p [] d e h = sym h
idle_silent p (Computing ∷ acts) d e (b, (is, to), hs) = absurd (no_step is)
  where
    no_step : Computing ≡ Showing (given 0 0) → ⊥
    no_step x = cc x
idle_silent p (Showing o ∷ acts) d e h = absurd (no_head o (labels acts) e)

-- after the request
pub asked_first : (p : Program) (acts : List Act) (d : Config) (o : Label) → Moves p acts Idle d → labels acts ≡ o ∷ []
    → (rest : List Act) × (labels rest ≡ []) × Moves p rest (Running p.body []) d
asked_first p [] d o h e = absurd (no_tail o [] e)
asked_first p (Computing ∷ acts) d o (b, (is, to), hs) e = absurd (no_step is)
  where
    no_step : Computing ≡ Showing (given 0 0) → ⊥
    no_step x = cc x
asked_first p (Showing q ∷ acts) d o (b, (is, to), hs) e =
    (acts, (same_head q o (labels acts) [] e).1, subst (λ (c : Config). Moves p acts c d) to hs)

-- a running program shows the given port in its answer alone
taken_given : (x : List ℕ) → Taken x ≡ Given → ⊥
taken_given x e = cc e

pub port_is_taken : (i : Imports) (o : Label) (a b : Term) → OneLabel i o a b → o.port ≡ Given → ⊥
port_is_taken i o (Import x) b (inl (inl (h, e, et))) is = taken_given x (ap (λ l. l.port) (sym e) ∙ is)
port_is_taken i o (Import x) b (inl (inr (w, h, e, et))) is = taken_given x (ap (λ l. l.port) (sym e) ∙ is)
port_is_taken i o (Deref m) b (inl (inl (x, w, em, h, e, et))) is = taken_given x (ap (λ l. l.port) (sym e) ∙ is)
port_is_taken i o (Deref m) b (inl (inr (x, p, h))) is = taken_given x (sym p ∙ is)
port_is_taken i o (Deref m) b (inr (x, p, h)) is = taken_given x (sym p ∙ is)
port_is_taken i o (Put m k) b (inl (inl (x, w, em, h, e, et))) is = taken_given x (ap (λ l. l.port) (sym e) ∙ is)
port_is_taken i o (Put m k) b (inl (inr (x, p, h))) is = taken_given x (sym p ∙ is)
port_is_taken i o (Put m k) b (inr (x, p, h)) is = taken_given x (sym p ∙ is)
port_is_taken i o (Wait x n) b (inr (p, e, h)) is = taken_given x (sym p ∙ is)
port_is_taken i o a b (inl h) is = absurd h
port_is_taken i o a b (inr h) is = absurd h

pub shown_taken : (p : Program) (o : Label) (s u : Store) (m t : Term) → Move p (Showing o) (Running m s) (Running t u) → o.port ≡ Given → ⊥
shown_taken p o s u m t (n, v, us, h) is =
    reached_lifted (OneLabel p.imports o) (λ a b. o.port ≡ Given → ⊥) (port_is_taken p.imports o) (λ c a b q. q) v t
    (acts_of p.imports (Showing o) s u v t h).0 is

-- its last label is its answer
pub answer_last : (p : Program) (acts : List Act) (m : Term) (s : Store) (d : Config) (v : ℕ)
    → Moves p acts (Running m s) d → labels acts ≡ given 1 v ∷ []
    → (xs : List Act) × (t : Term) × (u : Store) × (labels xs ≡ []) × Moves p xs (Running m s) (Running t u)
    × Move p (Showing (given 1 v)) (Running t u) Idle × (d ≡ Idle)
answer_last p [] m s d v h e = absurd (no_tail (given 1 v) [] e)
answer_last p (Computing ∷ acts) m s d v (Idle, (n, w, us, none), hs) e = absurd none
answer_last p (Computing ∷ acts) m s d v (Running t u, h, hs) e =
    let r = answer_last p acts t u d v hs e in
    (Computing ∷ r.0, r.1, r.2, r.3, (Running t u, h, r.4), r.5, r.6)
answer_last p (Showing o ∷ acts) m s d v (Idle, h, hs) e =
    let same = same_head o (given 1 v) (labels acts) [] e in
    ([], m, s, refl, refl, subst (λ (l : Label). Move p (Showing l) (Running m s) Idle) same.0 h, idle_silent p acts d same.1 hs)
answer_last p (Showing o ∷ acts) m s d v (Running t u, h, hs) e =
    absurd (shown_taken p o s u m t h (ap (λ l. l.port) (same_head o (given 1 v) (labels acts) [] e).0))

-- unfoldings before a move
pub unfold_first : (p : Program) (a : Act) (acts : List Act) (n : ℕ) (m t : Term) (s : Store) (c : Config)
    → Unfoldings n m t → Moves p (a ∷ acts) (Running t s) c → Moves p (a ∷ acts) (Running m s) c
unfold_first p a acts n m t s c us (b, (k, u, more, h), hs) =
    let r = unfoldings_then n k m t u us more in (b, (r.0, u, r.1, h), hs)

-- an idle program shows its request first
pub idle_shows : (p : Program) (acts : List Act) (d : Config) (o : Label) (ls : List Label) → Moves p acts Idle d → labels acts ≡ o ∷ ls → o ≡ given 0 0
idle_shows p [] d o ls h e = absurd (no_tail o ls e)
idle_shows p (Computing ∷ acts) d o ls (b, (is, to), hs) e = absurd (no_step is)
  where
    no_step : Computing ≡ Showing (given 0 0) → ⊥
    no_step x = cc x
idle_shows p (Showing q ∷ acts) d o ls (b, (is, to), hs) e = sym (same_head q o (labels acts) ls e).0 ∙ same_label q (given 0 0) is
  where
    same_label : (x y : Label) → Showing x ≡ Showing y → x ≡ y
    same_label x y z = cc z
