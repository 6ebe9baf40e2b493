-- Lists of moves that have the next label go on from where needed lines lead.
use Rattle.std.proofs.Common.{◌≡◌, ◌⊎◌, ◌≤◌, ◌<◌, ◌+◌, ℕ, zero, suc, List, [], ◌∷◌, ◌++◌, length, take, refl, sym, ap, subst, arith, inl, inr, ◌∙◌, append_assoc, length-append}
use Rattle.gos_types.specs.Types.{Type'}
use Rattle.gos_model.specs.Terms.{Term, Skip, Lit}
use Rattle.gos_model.specs.Typing.{Imports, Typed}
use Rattle.gos_model.specs.Stores.{Store}
use Rattle.gos_model.specs.Reach.{Rel, Rewrites}
use Rattle.gos_model.specs.Paths.{ReachedAt}
use Rattle.gos_model.specs.Steps.{Computes, IsValue}
use Rattle.gos_model.specs.Labels.{Port, Given, Taken, Label as Shown, given}
use Rattle.gos_model.specs.Moves.{Program, Config, Idle, Running, Act, Computing as Silent, Showing as Shows, Answers, Unfoldings, Moves, labels}
use Rattle.gos_programs.specs.contexts.Renaming.{renamed}
use Rattle.gos_swaps.specs.doings.Doings.{Doing, Unfolding, Computing, Showing, DoesAt}
use Rattle.gos_swaps.specs.proper.Proper.{IsProper}
use Rattle.gos_swaps.specs.orders.Alike.{Alike}
use Rattle.gos_swaps.specs.needed.Lists.{Runs, steps_among, labels_among, Goal, ToShow, ToEnd, port_of, Meets}
use Rattle.gos_swaps.specs.needed.Needed.{HasPort, IsNeeded, Leads, TakesOff, IsToward}
use Rattle.gos_swaps.proofs.doings.HeadLemmas.{head_path}
use Rattle.gos_swaps.proofs.doings.PlaceLemmas.{acts_have_paths, reached_within, reached_lifted_at}
use Rattle.gos_swaps.proofs.doings.SideLemmas.{value_quiet}
use Rattle.gos_swaps.proofs.proper.KeptLemmas.{doings_stay_proper}
use Rattle.gos_swaps.proofs.proper.ProperLemmas.{runs_are_proper}
use Rattle.gos_swaps.proofs.orders.AlikeLemmas.{alike_itself, alike_do_alike}
use Rattle.gos_swaps.proofs.needed.NeededLemmas.{shown_port}
use Rattle.gos_swaps.proofs.needed.ResidueLemmas.{residue, first_label, none_and_some}
use Rattle.gos_witness.specs.declared.moves.Line.{Line}
use Rattle.gos_witness.specs.declared.moves.Line.TheVariants.{Unfold, Step, Label, Root}
use Rattle.gos_witness.specs.Lines.{Stand, start, MakesFrom, TakesLeast}
use Rattle.gos_witness.specs.Find.{steps_of}
use Rattle.gos_witness.specs.inner.Finds.{steps_in}
use Rattle.gos_witness.specs.inner.Searches.{Happens, Goes, goal_at, goal_of, IsAhead, AreAhead, IsSound, IsSearch, IsNeededFor}

abbrev rest_of : List Shown → List Shown
rest_of [] = []
rest_of (o ∷ ls) = ls

-- Moves, taken apart.

unfold_first :
    (p : Program) (n : ℕ) (m u : Term) (s : Store) (ds : List Doing) (d : Config) → Unfoldings n m u → Goes p ds (Running u s) d
    → (es : List Doing) × Goes p es (Running m s) d × (labels_among es ≡ labels_among ds) × (steps_among es ≡ steps_among ds)
unfold_first p zero m u s ds d e goes = (ds, subst (λ (z : Term). Goes p ds (Running z s) d) (sym e) goes, refl, refl)
unfold_first p (suc n) m u s ds d (v, h, more) goes =
    let (es, after, shown, steps) = unfold_first p n v u s ds d more goes in
    let (path, at) = head_path Rewrites m v h in
    (Unfolding ∷ es, (Running v s, (path, (at, refl)), after), shown, steps)

abbrev Apart : Program → List Act → Config → Config → Type 0
Apart p acts c d = (ds : List Doing) × Goes p ds c d × (labels_among ds ≡ labels acts) × (steps_among ds ≡ steps_of acts)

pub moves_go : (p : Program) (acts : List Act) (c d : Config) → Moves p acts c d → Apart p acts c d
moves_go p [] c d e = ([], e, refl, refl)
moves_go p (a ∷ acts) Idle d (b, (is, to), moves) =
    let (ds, goes, shown, steps) = moves_go p acts b d moves in (
      Showing (given 0 0) ∷ ds,
      (b, (refl, to), goes),
      ap (λ (ls : List Shown). given 0 0 ∷ ls) shown ∙ ap (λ (x : Act). labels (x ∷ acts)) (sym is),
      steps ∙ ap (λ (x : Act). steps_of (x ∷ acts)) (sym is),
    )
moves_go p (Silent ∷ acts) (Running m s) d (Idle, (n, x, us, h), moves) = absurd h
moves_go p (Silent ∷ acts) (Running m s) d (Running t u, (n, x, us, h), moves) =
    let (ds, goes, shown, steps) = moves_go p acts (Running t u) d moves in
    let (path, does) = (acts_have_paths p.imports Silent s u x t).0 h in
    let (es, all, same, count) = unfold_first p n m x s (Computing ∷ ds) d us (Running t u, (path, does), goes) in
    (es, all, same ∙ shown, count ∙ ap suc steps)
moves_go p (Shows o ∷ acts) (Running m s) d (Idle, (n, x, us, h), moves) =
    let (ds, goes, shown, steps) = moves_go p acts Idle d moves in
    let (es, all, same, count) = unfold_first p n m x s (Showing o ∷ ds) d us (Idle, (o, refl, h), goes) in
    (es, all, same ∙ ap (λ (ls : List Shown). o ∷ ls) shown, count ∙ steps)
moves_go p (Shows o ∷ acts) (Running m s) d (Running t u, (n, x, us, h), moves) =
    let (ds, goes, shown, steps) = moves_go p acts (Running t u) d moves in
    let (path, does) = (acts_have_paths p.imports (Shows o) s u x t).0 h in
    let (es, all, same, count) = unfold_first p n m x s (Showing o ∷ ds) d us (Running t u, (path, does), goes) in
    (es, all, same ∙ ap (λ (ls : List Shown). o ∷ ls) shown, count ∙ steps)

-- What is alike goes on alike.

answers_alike : (r : ℕ → ℕ) (o : Shown) (m t : Term) → t ≡ renamed r m → Answers o m → Answers o t
answers_alike r o m t e (inl (em, eo)) = inl (e ∙ ap (renamed r) em, eo)
answers_alike r o m t e (inr (k, w, em, eo)) = inr (k, w, e ∙ ap (renamed r) em, eo)

pub goes_alike : (p : Program) (ds : List Doing) (c d b : Config) → Alike c b → Goes p ds c d → (e : Config) × Goes p ds b e
goes_alike p [] c d b alike goes = (b, refl)
goes_alike p (x ∷ ds) Idle d Idle alike goes = (d, goes)
goes_alike p (x ∷ ds) Idle d (Running t u) alike goes = absurd alike
goes_alike p (x ∷ ds) (Running m s) d Idle alike goes = absurd alike
goes_alike p (x ∷ ds) (Running m s) d (Running m' s') (r, em, es) (Idle, (o, ex, answers), goes) =
    (d, (Idle, (o, ex, answers_alike r.to o m m' em answers), goes))
goes_alike p (x ∷ ds) (Running m s) d (Running m' s') alike (Running t u, (path, h), goes) =
    let (t', u', does, ends) = alike_do_alike p.imports path x s u s' m t m' alike h in
    let (e, more) = goes_alike p ds (Running t u) d (Running t' u') ends goes in
    (e, (Running t' u', (path, does), more))

-- A list, cut behind its first label or before the root's answer.

labels_append : (ds es : List Doing) → labels_among (ds ++ es) ≡ labels_among ds ++ labels_among es
labels_append [] es = refl
labels_append (Unfolding ∷ ds) es = labels_append ds es
labels_append (Computing ∷ ds) es = labels_append ds es
labels_append (Showing o ∷ ds) es = ap (λ (ls : List Shown). o ∷ ls) (labels_append ds es)

steps_append : (ds es : List Doing) → steps_among (ds ++ es) ≡ steps_among ds + steps_among es
steps_append [] es = omega arith
steps_append (Unfolding ∷ ds) es = steps_append ds es
steps_append (Computing ∷ ds) es = let rest = steps_append ds es in omega (arith, rest)
steps_append (Showing o ∷ ds) es = steps_append ds es

runs_then :
    (p : Program) (ds es : List Doing) (s r : Store) (m x : Term) (d : Config) → Runs p.imports ds s r m x → Goes p es (Running x r) d
    → Goes p (ds ++ es) (Running m s) d
runs_then p [] es s r m x d (em, er) goes =
    subst (λ (z : Term). Goes p es (Running z s) d) (sym em) (subst (λ (z : Store). Goes p es (Running x z) d) er goes)
runs_then p (a ∷ ds) es s r m x d (path, y, v, h, runs) goes = (Running y v, (path, h), runs_then p ds es v r y x d runs goes)

abbrev pub Cut : Program → Shown → List Doing → Term → Store → Config → Type 0
Cut p o ds m s d =
    (before : List Doing) × (after : List Doing) × (x : Term) × (r : Store) × Runs p.imports before s r m x
    × Meets (goal_of o) (labels_among before) x × Goes p after (Running x r) d
    × (labels_among before ++ labels_among after ≡ labels_among ds) × (steps_among before + steps_among after ≡ steps_among ds)

port_given : (o : Shown) (m : Term) → Answers o m → o.port ≡ Given
port_given o m (inl (em, eo)) = ap (λ (z : Shown). z.port) eo
port_given o m (inr (k, w, em, eo)) = ap (λ (z : Shown). z.port) eo

value_of : (o : Shown) (m : Term) → Answers o m → IsValue m
value_of o m (inl (em, eo)) = inl em
value_of o m (inr (k, w, em, eo)) = inr (k, w, em)

to_end : (o : Shown) (x : Term) → o.port ≡ Given → IsValue x → Meets (goal_of o) [] x
to_end o x e is = subst (λ (z : Port). Meets (goal_at z o) [] x) (sym e) (refl, is)

-- what is shown at a place is of a taken port
pub shown_goal : (i : Imports) (path : List ℕ) (o : Shown) (s u : Store) (m t : Term) → DoesAt i path (Showing o) s u m t → goal_of o ≡ ToShow o
shown_goal i path o s u m t h = by_port o.port (shown_port i path o s u m t h)
  where
    by_port : (z : Port) → HasPort z m → goal_at z o ≡ ToShow o
    by_port Given has = absurd has
    by_port (Taken x) has = refl

pub cut : (p : Program) (o : Shown) (ds : List Doing) (m : Term) (s : Store) (d : Config) (rest : List Shown) → Goes p ds (Running m s) d → labels_among ds ≡ o ∷ rest
    → Cut p o ds m s d
cut p o [] m s d rest goes is = absurd (none_and_some o rest is)
cut p o (Unfolding ∷ ds) m s d rest (Idle, (k, e, answers), goes) is = absurd (cc e)
cut p o (Unfolding ∷ ds) m s d rest (Running t u, (path, h), goes) is =
    let (before, after, x, r, runs, meets, more, shown, steps) = cut p o ds t u d rest goes is in
    (Unfolding ∷ before, after, x, r, (path, t, u, h, runs), meets, more, shown, steps)
cut p o (Computing ∷ ds) m s d rest (Idle, (k, e, answers), goes) is = absurd (cc e)
cut p o (Computing ∷ ds) m s d rest (Running t u, (path, h), goes) is =
    let (before, after, x, r, runs, meets, more, shown, steps) = cut p o ds t u d rest goes is in
    (Computing ∷ before, after, x, r, (path, t, u, h, runs), meets, more, shown, omega (arith, steps))
cut p o (Showing k ∷ ds) m s d rest (Idle, (j, e, answers), goes) is =
    let same : k ≡ o = first_label o k (labels_among ds) rest is in
    let one : k ≡ j = cc e in
    let answered : Answers o m = subst (λ (z : Shown). Answers z m) (sym one ∙ same) answers in (
      [],
      Showing k ∷ ds,
      m,
      s,
      (refl, refl),
      to_end o m (port_given o m answered) (value_of o m answered),
      (Idle, (j, e, answers), goes),
      refl,
      omega arith,
    )
cut p o (Showing k ∷ ds) m s d rest (Running t u, (path, h), goes) is =
    let same : k ≡ o = first_label o k (labels_among ds) rest is in
    let goal : goal_of o ≡ ToShow o =
    shown_goal p.imports path o s u m t (subst (λ (z : Shown). DoesAt p.imports path (Showing z) s u m t) same h) in (
      Showing k ∷ [],
      ds,
      t,
      u,
      (path, t, u, h, (refl, refl)),
      subst (λ (g : Goal). Meets g (k ∷ []) t) (sym goal) ([], ap (λ (z : Shown). z ∷ []) same),
      goes,
      refl,
      omega arith,
    )

-- A needed line takes what it makes off each list.

takes_off_more : (e : Doing) (ls ls' more : List Shown) (k k' n : ℕ) → TakesOff e ls k ls' k' → TakesOff e (ls ++ more) (k + n) (ls' ++ more) (k' + n)
takes_off_more Unfolding ls ls' more k k' n (el, ek) = (ap (λ (z : List Shown). z ++ more) el, ap (λ (z : ℕ). z + n) ek)
takes_off_more Computing ls ls' more k k' n (el, ek) = (ap (λ (z : List Shown). z ++ more) el, omega (arith, ek))
takes_off_more (Showing o) ls ls' more k k' n (el, ek) = (ap (λ (z : List Shown). z ++ more) el, ap (λ (z : ℕ). z + n) ek)

one_less :
    (p : Program) (o : Shown) (path : List ℕ) (e : Doing) (s u : Store) (m t : Term) (rest : List Shown) (ds : List Doing) (b d : Config)
    → IsProper m s → Leads p.imports (goal_of o) path e s u m t → Alike (Running m s) b → Goes p ds b d → labels_among ds ≡ o ∷ rest
    → (b' : Config) × (d' : Config) × (es : List Doing) × Alike (Running t u) b' × Goes p es b' d'
    × TakesOff e (labels_among ds) (steps_among ds) (labels_among es) (steps_among es)
one_less p o path e s u m t rest ds Idle d proper leads alike goes is = absurd alike
one_less p o path e s u m t rest ds (Running m' s') d proper leads alike goes is =
    let (before, after, x, r, runs, meets, more, shown, steps) = cut p o ds m' s' d rest goes is in
    let (u', r', t', x', es, starts, ends, runs', off) = residue p.imports (goal_of o) path e s u s' r m t m' x before proper leads alike runs meets in
    let (d', after') = goes_alike p after (Running x r) d (Running x' r') ends more in
    let whole = takes_off_more e (labels_among before) (labels_among es) (labels_among after) (steps_among before) (steps_among es) (steps_among after) off in
    let one = subst (λ (ls : List Shown). TakesOff e ls (steps_among before + steps_among after) (labels_among es ++ labels_among after) (steps_among es + steps_among after)) shown whole in
    let two = subst (λ (n : ℕ). TakesOff e (labels_among ds) n (labels_among es ++ labels_among after) (steps_among es + steps_among after)) steps one in
    let three = subst (λ (ls : List Shown). TakesOff e (labels_among ds) (steps_among ds) ls (steps_among es + steps_among after)) (sym (labels_append es after)) two in
    let four = subst (λ (n : ℕ). TakesOff e (labels_among ds) (steps_among ds) (labels_among (es ++ after)) n) (sym (steps_append es after)) three in
    (Running t' u', d', es ++ after, starts, runs_then p es after u' r' t' x' d' runs' after', four)

-- The invariant.

pub search_none : (p : Program) (ls : List Shown) → IsSearch p ls 0 (start ls)
search_none p ls = record { done = []; whole = refl; sound = tt; ahead = at ls }
  where
    at : (left : List Shown) → AreAhead p [] left 0 Idle
    at [] = tt
    at (o ∷ left) = λ rest ds d goes is. (Idle, d, ds, tt, goes, is, omega arith)

pub port_goal : (o : Shown) → port_of (goal_of o) ≡ o.port
port_goal o = by o.port refl
  where
    by : (z : Port) → o.port ≡ z → port_of (goal_at z o) ≡ z
    by Given e = refl
    by (Taken x) e = e

leads_to : (i : Imports) (o : Shown) (path : List ℕ) (e : Doing) (s u : Store) (m t : Term) → IsNeeded o.port path m → DoesAt i path e s u m t
    → IsToward (goal_of o) e → Leads i (goal_of o) path e s u m t
leads_to i o path e s u m t needed does toward = record {
  needed = subst (λ (z : Port). IsNeeded z path m) (sym (port_goal o)) needed;
  does = does;
  toward = toward;
}

reached_by_less : (R S : Rel) → ((a b : Term) → R a b → S a b) → (path : List ℕ) (m t : Term) → ReachedAt path R m t → ReachedAt path S m t
reached_by_less R S f path m t h =
    reached_lifted_at R (λ (q : List ℕ) (a b : Term). ReachedAt q S a b) f (λ c q a b k. reached_within S c q a b k) path m t h

module _ (p : Program) (done : List Shown) (o : Shown) (n : ℕ) where
  -- a silent line, with which there are k steps
  silent :
      (e : Doing) (k : ℕ) (path : List ℕ) (s u : Store) (m t : Term)
      → ((ls ls' : List Shown) (j j' : ℕ) → TakesOff e ls j ls' j' → (ls' ≡ ls) × (n + j ≡ k + j'))
      → IsProper m s → Leads p.imports (goal_of o) path e s u m t → IsAhead p done o n (Running m s) → IsAhead p done o k (Running t u)
  silent e k path s u m t takes proper leads ahead rest ds d goes is =
      let (b, d', es, alike, goes', shown, count) = ahead rest ds d goes is in
      let (b', d'', fs, alike', goes'', off) = one_less p o path e s u m t rest es b d' proper leads alike goes' shown in
      let (same, less) = takes (labels_among es) (labels_among fs) (steps_among es) (steps_among fs) off in
      (b', d'', fs, alike', goes'', same ∙ shown, sym less ∙ count)

  -- the label itself, so the lists are those with the next one as well
  behind : (left : List Shown) (c c' : Config)
      → ((rest : List Shown) (b d : Config) (es : List Doing) → Alike c b → Goes p es b d → labels_among es ≡ o ∷ rest
      → (b' : Config) × (d' : Config) × (fs : List Doing) × Alike c' b' × Goes p fs b' d' × (labels_among fs ≡ rest) × (steps_among fs ≡ steps_among es))
      → IsAhead p done o n c → AreAhead p (done ++ o ∷ []) left n c'
  behind [] c c' f ahead = tt
  behind (k ∷ left) c c' f ahead = λ rest ds d goes is.
      let (b, d', es, alike, goes', shown, count) = ahead (k ∷ rest) ds d goes (is ∙ append_assoc done (o ∷ []) (k ∷ rest)) in
      let (b', d'', fs, alike', goes'', now, same) = f (k ∷ rest) b d' es alike goes' shown in
      (b', d'', fs, alike', goes'', now, omega (arith, count, same))

-- the root's request
request :
    (p : Program) (o : Shown) (rest : List Shown) (b d : Config) (es : List Doing) → Alike Idle b → Goes p es b d → labels_among es ≡ o ∷ rest
    → (b' : Config) × (d' : Config) × (fs : List Doing) × Alike (Running p.body []) b' × Goes p fs b' d' × (labels_among fs ≡ rest) × (steps_among fs ≡ steps_among es)
request p o rest (Running m s) d es alike goes is = absurd alike
request p o rest Idle d [] alike goes is = absurd (none_and_some o rest is)
request p o rest Idle d (x ∷ es) alike (b, (ex, eb), goes) is = (
  Running p.body [],
  d,
  es,
  alike_itself (Running p.body []),
  subst (λ (z : Config). Goes p es z d) eb goes,
  ap rest_of (sym (ap (λ (z : Doing). labels_among (z ∷ es)) ex) ∙ is),
  sym (ap (λ (z : Doing). steps_among (z ∷ es)) ex),
)

-- the root's answer
answer :
    (p : Program) (o : Shown) (m : Term) (s : Store) (rest : List Shown) (b d : Config) (es : List Doing) → Answers o m → Alike (Running m s) b → Goes p es b d
    → labels_among es ≡ o ∷ rest
    → (b' : Config) × (d' : Config) × (fs : List Doing) × Alike Idle b' × Goes p fs b' d' × (labels_among fs ≡ rest) × (steps_among fs ≡ steps_among es)
answer p o m s rest Idle d es answers alike goes is = absurd alike
answer p o m s rest (Running m' s') d [] answers alike goes is = absurd (none_and_some o rest is)
answer p o m s rest (Running m' s') d (x ∷ es) answers alike (Idle, (k, ex, answered), goes) is = (
  Idle,
  d,
  es,
  tt,
  goes,
  ap rest_of (sym (ap (λ (z : Doing). labels_among (z ∷ es)) ex) ∙ is),
  sym (ap (λ (z : Doing). steps_among (z ∷ es)) ex),
)
answer p o m s rest (Running m' s') d (x ∷ es) answers (r, em, same) (Running t u, (path, h), goes) is =
    absurd (value_quiet p.imports path x s' u m' t (value_of o m' (answers_alike r.to o m m' em answers)) h)

-- a label at a place
label :
    (p : Program) (o : Shown) (path : List ℕ) (s : Store) (m t : Term) (rest : List Shown) (b d : Config) (es : List Doing) → IsProper m s
    → IsNeeded o.port path m → DoesAt p.imports path (Showing o) s s m t → Alike (Running m s) b → Goes p es b d → labels_among es ≡ o ∷ rest
    → (b' : Config) × (d' : Config) × (fs : List Doing) × Alike (Running t s) b' × Goes p fs b' d' × (labels_among fs ≡ rest) × (steps_among fs ≡ steps_among es)
label p o path s m t rest b d es proper needed does alike goes is =
    let leads = leads_to p.imports o path (Showing o) s s m t needed does (shown_goal p.imports path o s s m t does) in
    let (b', d', fs, alike', goes', (shown, same)) = one_less p o path (Showing o) s s m t rest es b d proper leads alike goes is in
    (b', d', fs, alike', goes', ap rest_of (sym shown ∙ is), same)

-- how many steps there are with a line
abbrev counted : Line → ℕ → ℕ
counted (Step path) n = suc n
counted line n = n

counted_is : (line : Line) (n : ℕ) → counted line n ≡ steps_in (line ∷ []) + n
counted_is (Unfold path) n = omega arith
counted_is (Step path) n = omega arith
counted_is (Label path) n = omega arith
counted_is Root n = omega arith

-- a line more
module _ (p : Program) (ty : Type') (typed : Typed p.imports [] p.body ty) (ls : List Shown) (n : ℕ) where
  body_sound : IsProper p.body []
  body_sound = runs_are_proper p (Shows (given 0 0) ∷ []) p.body [] ty typed (Running p.body [], (refl, refl), refl)

  at_stand : (done left : List Shown) (c : Config) (k : ℕ) (b : Stand) → done ++ left ≡ ls → IsSound c → AreAhead p done left k c
      → b ≡ record { config = c; left = left } → IsSearch p ls k b
  at_stand done left c k b whole sound ahead e =
      subst (λ (z : Stand). IsSearch p ls k z) (sym e) (record { done = done; whole = whole; sound = sound; ahead = ahead })

  used_one : (done : List Shown) (o : Shown) (left : List Shown) → done ++ o ∷ left ≡ ls → (done ++ o ∷ []) ++ left ≡ ls
  used_one done o left whole = append_assoc done (o ∷ []) left ∙ whole

  next_search :
      (line : Line) (c : Config) (left done : List Shown) (b : Stand) → done ++ left ≡ ls → IsSound c → AreAhead p done left n c
      → MakesFrom p line c left b → IsNeededFor line c left → IsSearch p ls (counted line n) b
  next_search (Unfold path) Idle left done b whole sound ahead makes needed = absurd makes
  next_search (Step path) Idle left done b whole sound ahead makes needed = absurd makes
  next_search (Label path) Idle left done b whole sound ahead makes needed = absurd makes
  next_search Root Idle [] done b whole sound ahead makes needed = absurd makes
  next_search Root Idle (o ∷ left) done b whole sound ahead (is, e) needed =
      at_stand (done ++ o ∷ []) left (Running p.body []) n b (used_one done o left whole) body_sound
      (behind p done o n left Idle (Running p.body []) (λ rest x d es alike goes shown. request p o rest x d es alike goes shown) ahead) e
  next_search (Unfold path) (Running m s) [] done b whole sound ahead (t, at, e) needed =
      at_stand done [] (Running t s) n b whole (doings_stay_proper p.imports path Unfolding s s m t sound (at, refl)) tt e
  next_search (Unfold path) (Running m s) (o ∷ left) done b whole sound ahead (t, at, e) needed =
      at_stand done (o ∷ left) (Running t s) n b whole (doings_stay_proper p.imports path Unfolding s s m t sound (at, refl))
      (silent p done o n Unfolding n path s s m t (λ xs ys j j' off. (off.0, ap (λ (z : ℕ). n + z) (sym off.1))) sound
      (leads_to p.imports o path Unfolding s s m t needed (at, refl) tt) ahead) e
  next_search (Step path) (Running m s) [] done b whole sound ahead (t, u, at, e) needed =
      let does = reached_by_less (λ x y. Computes s u x y × TakesLeast s u x) (Computes s u) (λ x y h. h.0) path m t at in
      at_stand done [] (Running t u) (suc n) b whole (doings_stay_proper p.imports path Computing s u m t sound does) tt e
  next_search (Step path) (Running m s) (o ∷ left) done b whole sound ahead (t, u, at, e) needed =
      let does = reached_by_less (λ x y. Computes s u x y × TakesLeast s u x) (Computes s u) (λ x y h. h.0) path m t at in
      at_stand done (o ∷ left) (Running t u) (suc n) b whole (doings_stay_proper p.imports path Computing s u m t sound does)
      (silent p done o n Computing (suc n) path s u m t (λ xs ys j j' off. (off.0, omega (arith, off.1))) sound (leads_to p.imports o path Computing s u m t needed does tt) ahead) e
  next_search (Label path) (Running m s) [] done b whole sound ahead makes needed = absurd makes
  next_search (Label path) (Running m s) (o ∷ left) done b whole sound ahead (t, at, e) needed =
      at_stand (done ++ o ∷ []) left (Running t s) n b (used_one done o left whole) (doings_stay_proper p.imports path (Showing o) s s m t sound (at, refl))
      (behind p done o n left (Running m s) (Running t s)
      (λ rest x d es alike goes shown. label p o path s m t rest x d es sound needed (at, refl) alike goes shown) ahead) e
  next_search Root (Running m s) [] done b whole sound ahead makes needed = absurd makes
  next_search Root (Running m s) (o ∷ left) done b whole sound ahead (answers, e) needed =
      at_stand (done ++ o ∷ []) left Idle n b (used_one done o left whole) tt
      (behind p done o n left (Running m s) Idle (λ rest x d es alike goes shown. answer p o m s rest x d es answers alike goes shown) ahead) e

  pub search_one : (line : Line) (a b : Stand) → IsSearch p ls n a → MakesFrom p line a.config a.left b → IsNeededFor line a.config a.left
      → IsSearch p ls (steps_in (line ∷ []) + n) b
  search_one line a b search makes needed =
      subst (λ (k : ℕ). IsSearch p ls k b) (counted_is line n) (
      next_search line a.config a.left search.done b search.whole search.sound search.ahead makes needed)
