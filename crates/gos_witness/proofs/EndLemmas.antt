-- What is placed is needed, and where its line can't be made, the label never comes.
use Rattle.std.proofs.Common.{◌≡◌, ◌≢◌, ◌⊎◌, ◌<◌, ◌+◌, ℕ, zero, suc, List, [], ◌∷◌, ◌++◌, Option, Some, None, length, refl, sym, ap, subst, arith, inl, inr, ◌∙◌}
use Rattle.std.proofs.lemmas.Option.{none-some}
use Rattle.gos_model.proofs.NumberLemmas.{number_cases}
use Rattle.gos_model.specs.Terms.{Term, Skip, Lit, Bound, Import, Lam, App, Both, Fst, Snd, Seq, Par, If, While, Assign, Deref, New, NewArray, Not, Bin, Loc, Arr, Scope, Wait, Held, Put}
use Rattle.gos_model.specs.Typing.{Imports, Place, things}
use Rattle.gos_model.specs.Stores.{Entry, Store, entry_at, variable_at, array_at, store_put, without}
use Rattle.gos_model.specs.Reach.{Rel, Rewrites}
use Rattle.gos_model.specs.Paths.{ReachedAt}
use Rattle.gos_model.specs.Steps.{Computes, IsValue, Locates}
use Rattle.gos_model.specs.Labels.{Port, Given, Taken, Label as Shown, given, Emits, Takes}
use Rattle.gos_model.specs.Moves.{Program, Config, Idle, Running, Answers}
use Rattle.gos_model.specs.Substitution.{instantiate}
use Rattle.gos_programs.specs.contexts.Contexts.{Context, plug, plug_all}
use Rattle.gos_programs.proofs.contexts.RenamedStoreLemmas.{above, above_absent}
use Rattle.gos_swaps.specs.doings.Doings.{Doing, Unfolding, Computing, Showing, DoesAt}
use Rattle.gos_swaps.specs.doings.Heads.{HeadAt}
use Rattle.gos_swaps.specs.doings.Sides.{way, path_through}
use Rattle.gos_swaps.specs.proper.Proper.{IsProper}
use Rattle.gos_swaps.specs.needed.Lists.{Runs, labels_among, Goal, ToShow, ToEnd, port_of, Meets}
use Rattle.gos_swaps.specs.needed.Needed.{HasPort, IsNeeded}
use Rattle.gos_swaps.specs.needed.Blocked.{SameAt, IsStuck}
use Rattle.gos_swaps.proofs.doings.PlaceLemmas.{Here, Found, found, does_here, does_through, reached_within, head_within}
use Rattle.gos_swaps.proofs.doings.SideLemmas.{value_quiet}
use Rattle.gos_swaps.proofs.orders.EffectLemmas.{located_thing}
use Rattle.gos_swaps.proofs.needed.NeededLemmas.{needed_in, shown_port}
use Rattle.gos_swaps.proofs.needed.ResidueLemmas.{first_label, none_and_some}
use Rattle.gos_swaps.proofs.needed.BlockedLemmas.{blocked_stays, absent_never_comes}
use Rattle.gos_witness.specs.declared.moves.Line.{Line}
use Rattle.gos_witness.specs.declared.moves.Line.TheVariants.{Unfold, Step, Label, Root}
use Rattle.gos_witness.specs.Lines.{Stand, IsLeastNew, TakesLeast, MakesFrom}
use Rattle.gos_witness.specs.inner.Searches.{Goes, goal_at, goal_of, NeverComes, IsNeededFor}
use Rattle.gos_witness.specs.inner.Ends.{IsRest, AreOut, IsLineAt, IsPlaced}
use Rattle.gos_witness.proofs.SearchLemmas.{cut, port_goal}

-- A place in contexts that leave no side aside with the port is needed.

pub needed_along : (o : Port) (cs : List Context) (path : List ℕ) (m : Term) → AreOut o cs → IsNeeded o path m → IsNeeded o (path_through cs path) (plug_all cs m)
needed_along o [] path m out h = h
needed_along o (c ∷ cs) path m out h = needed_in o c (path_through cs path) (plug_all cs m) out.0 (needed_along o cs path m out.1 h)

at_root : (o : Port) (m : Term) → IsNeeded o [] m
at_root o m = tt

placed_path : (o : Port) (m x : Term) (cs : List Context) (path more : List ℕ) → m ≡ plug_all cs x → path ≡ path_through cs more → AreOut o cs → IsNeeded o more x
    → IsNeeded o path m
placed_path o m x cs path more em ep out h =
    subst (λ (z : List ℕ). IsNeeded o z m) (sym ep) (subst (IsNeeded o (path_through cs more)) (sym em) (needed_along o cs more x out h))

pub placed_needed : (line : Line) (m : Term) (s : Store) (o : Shown) (left : List Shown) → IsPlaced o.port m line → IsNeededFor line (Running m s) (o ∷ left)
placed_needed (Unfold path) m s o left placed =
    let (more, ep, ends, only, needed) = placed.ends in placed_path o.port m placed.here placed.around path more placed.whole ep placed.out needed
placed_needed (Step path) m s o left placed = placed_path o.port m placed.here placed.around path [] placed.whole placed.ends.0 placed.out (at_root o.port placed.here)
placed_needed (Label path) m s o left placed = placed_path o.port m placed.here placed.around path [] placed.whole placed.ends.0 placed.out (at_root o.port placed.here)
placed_needed Root m s o left placed = absurd placed.ends

-- A new location: there is a least one.

from_here : (s : Store) (f k : ℕ) → entry_at s (k + f) ≡ None → ((j : ℕ) → j < k → entry_at s j ≢ None) → (l : ℕ) × IsLeastNew s l
from_here s zero k absent before =
    let same : k + 0 ≡ k = omega arith in (k, record { new = subst (λ (z : ℕ). entry_at s z ≡ None) same absent; least = before })
from_here s (suc f) k absent before =
    let same : k + suc f ≡ suc k + f = omega arith in
    by (entry_at s k) refl (λ further. from_here s f (suc k) (subst (λ (z : ℕ). entry_at s z ≡ None) same absent) further)
  where
    by : (x : Option Entry) → entry_at s k ≡ x → (((j : ℕ) → j < suc k → entry_at s j ≢ None) → (l : ℕ) × IsLeastNew s l) → (l : ℕ) × IsLeastNew s l
    by None here later = (k, record { new = here; least = before })
    by (Some x) here later = later (λ j less none.
        number_cases j k
        (λ same b. absurd (none-some x (sym (subst (λ (z : ℕ). entry_at s z ≡ None) same none) ∙ here)))
        (λ other b. before j (omega (arith, less, other)) none))

pub least_new : (s : Store) → (l : ℕ) × IsLeastNew s l
least_new s =
    let same : above s ≡ 0 + above s = omega arith in
    from_here s (above s) 0 (subst (λ (z : ℕ). entry_at s z ≡ None) same (above_absent s (above s) (omega arith))) (λ j less. absurd (omega (arith, less)))

-- What computes with one store does so with each that has the same at its locations, and a new location may be the least one.

abbrev StepsHere : Store → Term → Type 0
StepsHere s m = (t : Term) × (u : Store) × Computes s u m t × TakesLeast s u m

located_same : (m : Term) (s v : Store) (e : Entry) (i : ℕ) → SameAt m s v → Locates m e.place i → entry_at v e.place ≡ Some e → entry_at s e.place ≡ Some e
located_same m s v e i same is here = sym (same e.place (located_thing m e.place i is)) ∙ here

row_here : (s v u : Store) (m t : Term) → SameAt m s v → Computes v u m t → StepsHere s m
row_here s v u (Seq m n) t same (em, et, es) = (t, s, (em, et, refl), tt)
row_here s v u (Par m n) t same (em, en, et, es) = (t, s, (em, en, et, refl), tt)
row_here s v u (If m n p) t same (either, es) = (t, s, (either, refl), tt)
row_here s v u (While m n) t same (et, es) = (t, s, (et, refl), tt)
row_here s v u (Bin op m n) t same (k, w, em, et, es) = (t, s, (k, w, em, et, refl), tt)
row_here s v u (Held k op n) t same (j, w, en, et, es) = (t, s, (j, w, en, et, refl), tt)
row_here s v u (Not m) t same (k, w, em, et, es) = (t, s, (k, w, em, et, refl), tt)
row_here s v u (Assign m n) t same (k, w, en, et, es) = (t, s, (k, w, en, et, refl), tt)
row_here s v u (Put m k) t same (e, i, j, is, here, has, et, es) =
    (t, store_put s e.place i k, (e, i, j, is, located_same m s v e i same is here, has, et, refl), tt)
row_here s v u (Deref m) t same (e, i, j, is, here, has, et, es) = (t, s, (e, i, j, is, located_same m s v e i same is here, has, et, refl), tt)
row_here s v u (New w m) t same h =
    let (l, least) = least_new s in
    (Scope l (instantiate m (Loc l)), variable_at l w 0 ∷ s, (l, least.new, refl, refl), (l, least, refl))
row_here s v u (NewArray n w m) t same h =
    let (l, least) = least_new s in
    (Scope l (instantiate m (Arr l)), array_at l w n ∷ s, (l, least.new, refl, refl), (l, least, refl))
row_here s v u (Scope l m) t same (is, et, es) = (t, without s l, (is, et, refl), tt)
row_here s v u m t same h = absurd h

-- What happens to a term at rest happens to the term itself.

pub rest_here : (i : Imports) (a : Doing) (s u : Store) (path : List ℕ) (x t : Term) → IsRest x → DoesAt i path a s u x t → Here i a s u path x t
rest_here i a s u path x t rests does = by (found i path a s u x t does)
  where
    by : Found (Here i a s u) path x t → Here i a s u path x t
    by ([], rest, y, z, ep, em, et, h) =
        let one = subst (λ (w : Term). Here i a s u rest y w) (sym et) h in
        let two = subst (λ (w : Term). Here i a s u rest w t) (sym em) one in
        subst (λ (w : List ℕ). Here i a s u w x t) (sym ep) two
    by (c ∷ cs, rest, y, z, ep, em, et, h) =
        absurd (value_quiet i (path_through cs rest) a s u (plug_all cs y) (plug_all cs z) (rests c (plug_all cs y) em)
        (does_through i cs rest a s u y z (does_here i a s u rest y z h)))

row_of : (i : Imports) (v u : Store) (path : List ℕ) (x t : Term) → IsRest x → DoesAt i path Computing v u x t → Computes v u x t
row_of i v u path x t rests does = by path (rest_here i Computing v u path x t rests does)
  where
    by : (q : List ℕ) → Here i Computing v u q x t → Computes v u x t
    by [] h = h
    by (n ∷ q) h = absurd h

label_of : (i : Imports) (o : Shown) (v u : Store) (path : List ℕ) (x t : Term) → IsRest x → DoesAt i path (Showing o) v u x t → Emits i o x t ⊎ Takes i o x t
label_of i o v u path x t rests does = by path (rest_here i (Showing o) v u path x t rests does)
  where
    by : (q : List ℕ) → Here i (Showing o) v u q x t → Emits i o x t ⊎ Takes i o x t
    by [] (h, e) = h
    by (n ∷ q) (h, e) = absurd h

reached_through : (R : Rel) (cs : List Context) (x t : Term) → R x t → ReachedAt (path_through cs []) R (plug_all cs x) (plug_all cs t)
reached_through R [] x t h = h
reached_through R (c ∷ cs) x t h = reached_within R c (path_through cs []) (plug_all cs x) (plug_all cs t) (reached_through R cs x t h)

head_through : (cs : List Context) (path : List ℕ) (x t : Term) → HeadAt path Rewrites x t → HeadAt (path_through cs path) Rewrites (plug_all cs x) (plug_all cs t)
head_through [] path x t h = h
head_through (c ∷ cs) path x t h = head_within Rewrites c (path_through cs path) (plug_all cs x) (plug_all cs t) (head_through cs path x t h)

-- Where the line can't be made, the place is stuck.

module _ (p : Program) (o : Shown) (left : List Shown) (cs : List Context) (x : Term) (s : Store) where
  stuck : (line : Line) → IsLineAt o.port line cs x → ((b : Stand) → MakesFrom p line (Running (plug_all cs x) s) (o ∷ left) b → ⊥)
      → IsStuck p.imports (goal_of o) s x
  stuck (Unfold path) (more, ep, (rests, no_row, no_label), only, needed) cant q Unfolding v u t same (h, e) toward =
      let at : HeadAt more Rewrites x t = subst (λ (z : List ℕ). HeadAt z Rewrites x t) (only q t h) h in
      cant (record { config = Running (plug_all cs t) s; left = o ∷ left }) (plug_all cs t, subst (λ (z : List ℕ). HeadAt z Rewrites (plug_all cs x) (plug_all cs t)) (sym ep) (head_through cs more x t at), refl)
  stuck (Unfold path) (more, ep, (rests, no_row, no_label), only, needed) cant q Computing v u t same does toward = no_row v u t (row_of p.imports v u q x t rests does)
  stuck (Unfold path) (more, ep, (rests, no_row, no_label), only, needed) cant q (Showing k) v u t same does toward =
      no_label p.imports k t (label_of p.imports k v u q x t rests does)
  stuck (Step path) (ep, (rests, no_head, no_label)) cant q Unfolding v u t same (h, e) toward = no_head q t h
  stuck (Step path) (ep, (rests, no_head, no_label)) cant q Computing v u t same does toward =
      let (t', u', row, least) = row_here s v u x t same (row_of p.imports v u q x t rests does) in
      let R : Rel = λ a b. Computes s u' a b × TakesLeast s u' a in
      cant (record { config = Running (plug_all cs t') u'; left = o ∷ left }) (plug_all cs t', u', subst (λ (z : List ℕ). ReachedAt z R (plug_all cs x) (plug_all cs t')) (sym ep) (reached_through R cs x t' (row, least)), refl)
  stuck (Step path) (ep, (rests, no_head, no_label)) cant q (Showing k) v u t same does toward =
      no_label p.imports k t (label_of p.imports k v u q x t rests does)
  stuck (Label path) (ep, (rests, no_head, no_row)) cant q Unfolding v u t same (h, e) toward = no_head q t h
  stuck (Label path) (ep, (rests, no_head, no_row)) cant q Computing v u t same does toward = no_row v u t (row_of p.imports v u q x t rests does)
  stuck (Label path) (ep, (rests, no_head, no_row)) cant q (Showing k) v u t same does toward =
      let R : Rel = λ a b. Emits p.imports o a b ⊎ Takes p.imports o a b in
      let shown : R x t = subst (λ (z : Shown). Emits p.imports z x t ⊎ Takes p.imports z x t) (sym (aim o.port toward)) (label_of p.imports k v u q x t rests does) in
      cant (record { config = Running (plug_all cs t) s; left = left }) (plug_all cs t, subst (λ (z : List ℕ). ReachedAt z R (plug_all cs x) (plug_all cs t)) (sym ep) (reached_through R cs x t shown), refl)
    where
      goal_label : Goal → Shown → Shown
      goal_label (ToShow k) d = k
      goal_label ToEnd d = d

      aim : (z : Port) → goal_at z o ≡ ToShow k → o ≡ k
      aim Given e = absurd (cc e)
      aim (Taken y) e = ap (λ (g : Goal). goal_label g k) e
  stuck Root line cant q e v u t same does toward = absurd line

pub placed_blocked :
    (p : Program) (line : Line) (m : Term) (s : Store) (o : Shown) (left : List Shown) → IsProper m s → IsPlaced o.port m line
    → ((b : Stand) → MakesFrom p line (Running m s) (o ∷ left) b → ⊥) → NeverComes p (Running m s) (o ∷ left)
placed_blocked p line m s o left proper placed cant rest ds d goes is =
    let (before, after, x, r, runs, meets, more, shown, steps) = cut p o ds m s d rest goes is in
    let whole = placed.whole in
    let cs = placed.around in
    let here = placed.here in
    let there : IsNeeded o.port (path_through cs []) (plug_all cs here) = needed_along o.port cs [] here placed.out (at_root o.port here) in
    blocked_stays p.imports (goal_of o) cs s r here x before (subst (λ (z : Term). IsProper z s) whole proper)
    (subst (λ (z : Port). IsNeeded z (path_through cs []) (plug_all cs here)) (sym (port_goal o)) there) placed.alive
    (stuck p o left cs here s line placed.ends (λ b makes. cant b (subst (λ (z : Term). MakesFrom p line (Running z s) (o ∷ left) b) (sym whole) makes)))
    (subst (λ (z : Term). Runs p.imports before s r z x) whole runs) meets

-- What never comes at once.

pub absent_blocked : (p : Program) (m : Term) (s : Store) (o : Shown) (left : List Shown) → IsProper m s → (HasPort o.port m → ⊥) → o.port ≢ Given
    → NeverComes p (Running m s) (o ∷ left)
absent_blocked p m s o left proper out taken rest ds d goes is =
    let (before, after, x, r, runs, meets, more, shown, steps) = cut p o ds m s d rest goes is in
    by (labels_among before) x o.port refl (λ first. absent_never_comes p.imports o s r m x before first.0 proper out runs first.1) meets
  where
    by : (ls : List Shown) (x : Term) (z : Port) → o.port ≡ z → ((first : List Shown) × (ls ≡ o ∷ first) → ⊥) → Meets (goal_at z o) ls x → ⊥
    by ls x Given e later meets = taken e
    by ls x (Taken y) e later meets = later meets

-- the root's answer has one event
not_asked : (k : Shown) (m : Term) → Answers k m → k.event ≡ 1
not_asked k m (inl (em, e)) = ap (λ (z : Shown). z.event) e
not_asked k m (inr (n, w, em, e)) = ap (λ (z : Shown). z.event) e

pub asked_blocked : (p : Program) (m : Term) (s : Store) (o : Shown) (left : List Shown) → o.port ≡ Given → o.event ≢ 1 → NeverComes p (Running m s) (o ∷ left)
asked_blocked p m s o left root other rest ds d goes is = by ds m s goes is
  where
    given_never : (z : Port) (t : Term) → z ≡ Given → HasPort z t → ⊥
    given_never Given t e h = h
    given_never (Taken y) t e h = absurd (cc e)

    by : (ds : List Doing) (m : Term) (s : Store) → Goes p ds (Running m s) d → labels_among ds ≡ o ∷ rest → ⊥
    by [] m s goes is = none_and_some o rest is
    by (Unfolding ∷ ds) m s (Idle, (k, e, answers), goes) is = absurd (cc e)
    by (Unfolding ∷ ds) m s (Running t u, (path, h), goes) is = by ds t u goes is
    by (Computing ∷ ds) m s (Idle, (k, e, answers), goes) is = absurd (cc e)
    by (Computing ∷ ds) m s (Running t u, (path, h), goes) is = by ds t u goes is
    by (Showing k ∷ ds) m s (Idle, (j, e, answers), goes) is =
        let same : k ≡ o = first_label o k (labels_among ds) rest is in
        let one : k ≡ j = cc e in
        other (ap (λ (z : Shown). z.event) (sym same ∙ one) ∙ not_asked j m answers)
    by (Showing k ∷ ds) m s (Running t u, (path, h), goes) is =
        let same : k ≡ o = first_label o k (labels_among ds) rest is in
        given_never k.port m (ap (λ (z : Shown). z.port) same ∙ root) (shown_port p.imports path k s u m t h)

-- The root's rule.

pub idle_blocked : (p : Program) (left : List Shown) → ((b : Stand) → MakesFrom p Root Idle left b → ⊥) → NeverComes p Idle left
idle_blocked p [] cant = tt
idle_blocked p (o ∷ left) cant = λ rest ds d goes is. by rest d ds goes is
  where
    by : (rest : List Shown) (d : Config) (ds : List Doing) → Goes p ds Idle d → labels_among ds ≡ o ∷ rest → ⊥
    by rest d [] goes is = none_and_some o rest is
    by rest d (x ∷ ds) (b, (ex, eb), goes) is =
        let first : given 0 0 ∷ labels_among ds ≡ o ∷ rest = sym (ap (λ (z : Doing). labels_among (z ∷ ds)) ex) ∙ is in
        cant (record { config = Running p.body []; left = left }) (sym (first_label o (given 0 0) (labels_among ds) rest first), refl)

pub value_blocked : (p : Program) (m : Term) (s : Store) (left : List Shown) → IsValue m → ((b : Stand) → MakesFrom p Root (Running m s) left b → ⊥)
    → NeverComes p (Running m s) left
value_blocked p m s [] is cant = tt
value_blocked p m s (o ∷ left) value cant = λ rest ds d goes is. by rest d ds goes is
  where
    by : (rest : List Shown) (d : Config) (ds : List Doing) → Goes p ds (Running m s) d → labels_among ds ≡ o ∷ rest → ⊥
    by rest d [] goes is = none_and_some o rest is
    by rest d (x ∷ ds) (Idle, (k, ex, answers), goes) is =
        let first : k ∷ labels_among ds ≡ o ∷ rest = sym (ap (λ (z : Doing). labels_among (z ∷ ds)) ex) ∙ is in
        cant (record { config = Idle; left = left }) (subst (λ (z : Shown). Answers z m) (first_label o k (labels_among ds) rest first) answers, refl)
    by rest d (x ∷ ds) (Running t u, (path, h), goes) is = value_quiet p.imports path x s u m t value h
