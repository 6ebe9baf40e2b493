-- To be alike is an equivalence, and configurations that are alike do alike.
use Rattle.std.specs.Prelude.{◌≡◌, ℕ, [], ◌∷◌, Option, Some, None}
use Rattle.std.proofs.Common.{refl, sym, ap, subst, ◌∙◌}
use Rattle.std.proofs.lemmas.Bool.{eq-eqb, ne_eqb}
use Rattle.gos_model.specs.Terms.{Term}
use Rattle.gos_model.specs.Stores.{Entry, Store, entry_at, store_put, without, array_at}
use Rattle.gos_model.specs.Moves.{Idle, Running}
use Rattle.gos_model.proofs.NumberLemmas.{number_cases}
use Rattle.gos_programs.specs.contexts.Renaming.{renamed, renamed_store, IsInjective}
use Rattle.gos_programs.specs.contexts.SameStores.{SameEntries}
use Rattle.gos_programs.proofs.contexts.StoreLemmas.{first_at, later_at, without_same, without_other, numbered, put_same, put_other}
use Rattle.gos_swaps.specs.doings.Doings.{DoesAt}
use Rattle.gos_swaps.specs.orders.Alike.{Renaming, Alike, AlikeItself, AlikeBack, AlikeOn, AlikeDoAlike}
use Rattle.gos_swaps.specs.orders.Effects.{Effect, Stays, Writes, Opens, Closes, applied, renamed_effect, IsFree, carried}
use Rattle.gos_swaps.proofs.orders.RenameLemmas.{renamed_on, renamed_same, renamed_back}
use Rattle.gos_swaps.proofs.orders.EffectLemmas.{carried_same, doings_have_effects}

pub injective : (r : Renaming) → IsInjective r.to
injective r k l e = sym (r.there k) ∙ (ap r.back e ∙ r.there l)

-- what a renamed store has
entry_renamed : (r : ℕ → ℕ) → IsInjective r → (s : Store) (l : ℕ) → entry_at (renamed_store r s) (r l) ≡ carried r (entry_at s l)
entry_renamed r inj [] l = refl
entry_renamed r inj (e ∷ s) l =
    number_cases e.place l
    (λ same t. let u = eq-eqb (r e.place) (r l) (ap r same) in rw (t, u) refl)
    (λ other g. let u = ne_eqb (r e.place) (r l) (λ q. other (inj e.place l q)) in rw (g, u) (entry_renamed r inj s l))

-- a store has at each renamed location what the other has at it
abbrev pub Corresponds : (ℕ → ℕ) → Store → Store → Type 0
Corresponds r s u = (l : ℕ) → entry_at u (r l) ≡ carried r (entry_at s l)

pub corresponds : (r : Renaming) (s u : Store) → SameEntries u (renamed_store r.to s) → Corresponds r.to s u
corresponds r s u h l = h (r.to l) ∙ entry_renamed r.to (injective r) s l

same_entries : (r : Renaming) (s u : Store) → Corresponds r.to s u → SameEntries u (renamed_store r.to s)
same_entries r s u h x =
    subst (λ (z : ℕ). entry_at u z ≡ entry_at (renamed_store r.to s) z) (r.again x)
    (h (r.back x) ∙ sym (entry_renamed r.to (injective r) s (r.back x)))

pub alike_by : (r : Renaming) (m t : Term) (s u : Store) → t ≡ renamed r.to m → Corresponds r.to s u → Alike (Running m s) (Running t u)
alike_by r m t s u e h = (r, e, same_entries r s u h)

-- nothing is renamed
abbrev nothing_renamed : Renaming
nothing_renamed = record { to = λ l. l; back = λ l. l; there = λ l. refl; again = λ l. refl }

pub alike_same : (m : Term) (s u : Store) → SameEntries u s → Alike (Running m s) (Running m u)
alike_same m s u h =
    alike_by nothing_renamed m m s u (sym (renamed_same m)) (λ l. h l ∙ sym (carried_same (entry_at s l)))

pub alike_itself : AlikeItself
alike_itself Idle = tt
alike_itself (Running m s) = alike_same m s s (λ l. refl)

-- back
carried_back : (q r : ℕ → ℕ) → ((l : ℕ) → q (r l) ≡ l) → (o : Option Entry) → carried q (carried r o) ≡ o
carried_back q r back None = refl
carried_back q r back (Some e) = ap (λ (l : ℕ). Some (record e { place = l })) (back e.place)

abbrev reversed : Renaming → Renaming
reversed r = record { to = r.back; back = r.to; there = r.again; again = r.there }

back_corresponds : (r : Renaming) (s u : Store) → Corresponds r.to s u → Corresponds r.back u s
back_corresponds r s u h l =
    sym (carried_back r.back r.to r.there (entry_at s (r.back l))) ∙ ap (carried r.back) (sym (h (r.back l)) ∙ ap (entry_at u) (r.again l))

pub alike_back : AlikeBack
alike_back Idle Idle h = tt
alike_back Idle (Running t u) h = absurd h
alike_back (Running m s) Idle h = absurd h
alike_back (Running m s) (Running t u) (r, e, h) =
    alike_by (reversed r) t m u s (sym (ap (renamed r.back) e ∙ renamed_back r.back r.to r.there m)) (back_corresponds r s u (corresponds r s u h))

-- one after the other
carried_on : (q r : ℕ → ℕ) (o : Option Entry) → carried q (carried r o) ≡ carried (λ l. q (r l)) o
carried_on q r None = refl
carried_on q r (Some e) = refl

abbrev joined : Renaming → Renaming → Renaming
joined q r =
    record {
      to = λ l. q.to (r.to l);
      back = λ l. r.back (q.back l);
      there = λ l. ap r.back (q.there (r.to l)) ∙ r.there l;
      again = λ l. ap q.to (r.again (q.back l)) ∙ q.again l;
    }

pub alike_on : AlikeOn
alike_on Idle Idle Idle h k = tt
alike_on Idle Idle (Running x w) h k = absurd k
alike_on Idle (Running t u) e h k = absurd h
alike_on (Running m s) Idle e h k = absurd h
alike_on (Running m s) (Running t u) Idle h k = absurd k
alike_on (Running m s) (Running t u) (Running x w) (r, et, h) (q, ex, k) =
    alike_by (joined q r) m x s w (ex ∙ (ap (renamed q.to) et ∙ renamed_on q.to r.to m))
    (λ l. corresponds q u w k (r.to l) ∙ (ap (carried q.to) (corresponds r s u h l) ∙ carried_on q.to r.to (entry_at s l)))

-- an effect on stores that correspond
numbered_carried : (r : ℕ → ℕ) (j k : ℕ) (o : Option Entry) → numbered j k (carried r o) ≡ carried r (numbered j k o)
numbered_carried r j k None = refl
numbered_carried r j k (Some e) = refl

applied_corresponds : (e : Effect) (r : ℕ → ℕ) → IsInjective r → (s s' : Store) → Corresponds r s s'
    → Corresponds r (applied e s) (applied (renamed_effect r e) s')
applied_corresponds Stays r inj s s' h x = h x
applied_corresponds (Writes l j k) r inj s s' h x =
    number_cases l x
    (λ same b. subst (λ (z : ℕ). entry_at (store_put s' (r l) j k) (r z) ≡ carried r (entry_at (store_put s l j k) z)) same
    (put_same s' (r l) j k ∙ (ap (numbered j k) (h l) ∙ (numbered_carried r j k (entry_at s l) ∙ ap (carried r) (sym (put_same s l j k))))))
    (λ other b. put_other s' (r l) j k (r x) (λ q. other (inj l x q)) ∙ (h x ∙ ap (carried r) (sym (put_other s l j k x other))))
applied_corresponds (Opens l w) r inj s s' h x =
    let e : Entry = array_at l w.width w.count in
    let e' : Entry = array_at (r l) w.width w.count in
    number_cases l x
    (λ same b. first_at e' s' (r x) (ap r same) ∙ ap (carried r) (sym (first_at e s x same)))
    (λ other b. later_at e' s' (r x) (λ q. other (inj l x q)) ∙ (h x ∙ ap (carried r) (sym (later_at e s x other))))
applied_corresponds (Closes l) r inj s s' h x =
    number_cases l x
    (λ same b. subst (λ (z : ℕ). entry_at (without s' (r l)) (r z) ≡ carried r (entry_at (without s l) z)) same
    (without_same s' (r l) ∙ ap (carried r) (sym (without_same s l))))
    (λ other b. without_other s' (r l) (r x) (λ q. other (inj l x q)) ∙ (h x ∙ ap (carried r) (sym (without_other s l x other))))

free_there : (e : Effect) (r : ℕ → ℕ) (s s' : Store) → Corresponds r s s' → IsFree e s → IsFree (renamed_effect r e) s'
free_there Stays r s s' h g = tt
free_there (Writes l j k) r s s' h g = tt
free_there (Opens l w) r s s' h g = h l ∙ ap (carried r) g
free_there (Closes l) r s s' h g = tt

pub alike_do_alike : AlikeDoAlike
alike_do_alike i p a s u s' m t m' (r, em, h) does =
    let e = doings_have_effects i p a s u m t does in
    let k : Corresponds r.to s s' = corresponds r s s' h in
    let u' : Store = applied (renamed_effect r.to e.effect) s' in
    let d : DoesAt i p a s' u' (renamed r.to m) (renamed r.to t) = e.again r.to s' (λ l g. k l) (free_there e.effect r.to s s' k e.free) in
    let c : Corresponds r.to u u' =
    subst (λ (z : Store). Corresponds r.to z u') (sym e.leads) (applied_corresponds e.effect r.to (injective r) s s' k) in (
      renamed r.to t,
      u',
      subst (λ (z : Term). DoesAt i p a s' u' z (renamed r.to t)) (sym em) d,
      alike_by r t (renamed r.to t) u u' refl c,
    )
