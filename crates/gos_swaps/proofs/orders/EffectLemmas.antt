-- A doing changes the store at one location at most, and comes again on each store that serves its term.
use Rattle.std.specs.Prelude.{◌≡◌, ℕ, List, [], ◌∷◌, ◌++◌, Contains, Option, Some, None}
use Rattle.std.proofs.Common.{refl, sym, ap, subst, inl, inr, ◌∙◌}
use Rattle.gos_model.specs.Terms.{Term, Seq, Par, If, While, Assign, Deref, New, Not, Bin, Loc, Scope, Held, Put, NewArray, Arr}
use Rattle.gos_model.specs.Typing.{Imports, Place, things}
use Rattle.gos_model.specs.Stores.{Entry, Store, entry_at, store_put, without, array_at}
use Rattle.gos_model.specs.Paths.{ReachedAt}
use Rattle.gos_model.specs.Steps.{Computes, IsValue, Locates}
use Rattle.gos_model.proofs.NumberLemmas.{number_cases}
use Rattle.gos_programs.specs.contexts.Contexts.{Context, plug}
use Rattle.gos_programs.specs.contexts.Renaming.{renamed}
use Rattle.gos_programs.proofs.contexts.RenamedLemmas.{renamed_put, value_renamed, locates_renamed}
use Rattle.gos_programs.proofs.contexts.StoreLemmas.{first_at, later_at, without_same, without_other, numbered, put_same, put_other}
use Rattle.gos_swaps.specs.doings.Doings.{Doing, Unfolding, Computing, Showing, DoesAt}
use Rattle.gos_swaps.specs.doings.Sides.{way}
use Rattle.gos_swaps.specs.orders.Effects.{shape, Effect, Stays, Writes, Opens, Closes, applied, renamed_effect, IsFree, IsOwn, carried, Serves, HasEffect, DoingsHaveEffects}
use Rattle.gos_swaps.proofs.doings.PlaceLemmas.{reached_lifted_at}
use Rattle.gos_swaps.proofs.proper.ThingLemmas.{there, left_part, within}
use Rattle.gos_swaps.proofs.orders.RenameLemmas.{renamed_same, reached_renamed_in, head_renamed, label_renamed}

-- of a computation step at a path
abbrev StepEffect : Store → Store → List ℕ → Term → Term → Type 0
StepEffect s u path a b =
    (e : Effect) × (u ≡ applied e s) × IsFree e s × IsOwn e a
    × ((r : ℕ → ℕ) (s' : Store) → Serves r a s s' → IsFree (renamed_effect r e) s'
    → ReachedAt path (Computes s' (applied (renamed_effect r e) s')) (renamed r a) (renamed r b))

-- what stands for a number has its location
pub located_thing : (m : Term) (l i : ℕ) → Locates m l i → Contains (things 0 m) (Place l)
located_thing m l i (inl (e, first)) = subst (λ (z : Term). Contains (things 0 z) (Place l)) (sym e) (there (Place l))
located_thing m l i (inr (w, e)) = subst (λ (z : Term). Contains (things 0 z) (Place l)) (sym e) (there (Place l))

row_effect : (s u : Store) (a b : Term) → Computes s u a b → StepEffect s u [] a b
row_effect s u (Seq m n) b (em, et, es) = (Stays, es, tt, tt, λ r s' f g. (ap (renamed r) em, ap (renamed r) et, refl))
row_effect s u (Par m n) b (em, en, et, es) =
    (Stays, es, tt, tt, λ r s' f g. (ap (renamed r) em, ap (renamed r) en, ap (renamed r) et, refl))
row_effect s u (If m n p) b (inl (em, et), es) = (Stays, es, tt, tt, λ r s' f g. (inl (ap (renamed r) em, ap (renamed r) et), refl))
row_effect s u (If m n p) b (inr (em, et), es) = (Stays, es, tt, tt, λ r s' f g. (inr (ap (renamed r) em, ap (renamed r) et), refl))
row_effect s u (While m n) b (et, es) = (Stays, es, tt, tt, λ r s' f g. (ap (renamed r) et, refl))
row_effect s u (Bin op m n) b (k, w, em, et, es) = (Stays, es, tt, tt, λ r s' f g. (k, w, ap (renamed r) em, ap (renamed r) et, refl))
row_effect s u (Held k op n) b (j, w, en, et, es) = (Stays, es, tt, tt, λ r s' f g. (j, w, ap (renamed r) en, ap (renamed r) et, refl))
row_effect s u (Not m) b (k, w, em, et, es) = (Stays, es, tt, tt, λ r s' f g. (k, w, ap (renamed r) em, ap (renamed r) et, refl))
row_effect s u (Assign m n) b (k, w, en, et, es) = (Stays, es, tt, tt, λ r s' f g. (k, w, ap (renamed r) en, ap (renamed r) et, refl))
row_effect s u (Put m k) b (e, j, old, em, here, has, et, es) =
    let own : Contains (things 0 m) (Place e.place) = located_thing m e.place j em in (
      Writes e.place j k,
      es,
      tt,
      own,
      λ r s' f g. (record e { place = r e.place }, j, old, locates_renamed r m e.place j em, f e.place own ∙ ap (carried r) here, has, ap (renamed r) et, refl),
    )
row_effect s u (Deref m) b (e, j, old, em, here, has, et, es) =
    let own : Contains (things 0 m) (Place e.place) = located_thing m e.place j em in (
      Stays,
      es,
      tt,
      tt,
      λ r s' f g. (record e { place = r e.place }, j, old, locates_renamed r m e.place j em, f e.place own ∙ ap (carried r) here, has, ap (renamed r) et, refl),
    )
row_effect s u (New w m) b (l, absent, et, es) = (
  Opens l (shape 1 w),
  es,
  absent,
  tt,
  λ r s' f g. (r l, g, ap (renamed r) et ∙ ap (λ (z : Term). Scope (r l) z) (renamed_put r m 0 (Loc l)), refl),
)
row_effect s u (NewArray n w m) b (l, absent, et, es) = (
  Opens l (shape n w),
  es,
  absent,
  tt,
  λ r s' f g. (r l, g, ap (renamed r) et ∙ ap (λ (z : Term). Scope (r l) z) (renamed_put r m 0 (Arr l)), refl),
)
row_effect s u (Scope l m) b (is, et, es) = (
  Closes l,
  es,
  tt,
  left_part (Place l ∷ []) (things 0 m) (Place l) (there (Place l)),
  λ r s' f g. (subst IsValue (sym (value_renamed r m is)) is, ap (renamed r) et, refl),
)
row_effect s u m b h = absurd h

own_within : (e : Effect) (c : Context) (a : Term) → IsOwn e a → IsOwn e (plug c a)
own_within Stays c a h = tt
own_within (Writes l j k) c a h = within c a (Place l) h
own_within (Opens l w) c a h = tt
own_within (Closes l) c a h = within c a (Place l) h

effect_in : (s u : Store) (c : Context) (path : List ℕ) (a b : Term) → StepEffect s u path a b → StepEffect s u (way c ++ path) (plug c a) (plug c b)
effect_in s u c path a b (e, leads, free, own, again) = (
  e,
  leads,
  free,
  own_within e c a own,
  λ r s' f g.
      reached_renamed_in r (Computes s' (applied (renamed_effect r e) s')) c path a b (again r s' (λ l h. f l (within c a (Place l) h)) g),
)

pub doings_have_effects : DoingsHaveEffects
doings_have_effects i path Unfolding s u m t (h, e) =
    record { effect = Stays; leads = e; free = tt; own = tt; again = λ r s' f g. (head_renamed r path m t h, refl) }
doings_have_effects i path (Showing o) s u m t (h, e) =
    record { effect = Stays; leads = e; free = tt; own = tt; again = λ r s' f g. (label_renamed r i o path m t h, refl) }
doings_have_effects i path Computing s u m t h =
    let (e, leads, free, own, again) = reached_lifted_at (Computes s u) (StepEffect s u) (row_effect s u) (effect_in s u) path m t h in
    record { effect = e; leads = leads; free = free; own = own; again = again }

-- under no other names
pub carried_same : (o : Option Entry) → carried (λ l. l) o ≡ o
carried_same None = refl
carried_same (Some e) = refl

effect_same : (e : Effect) → renamed_effect (λ l. l) e ≡ e
effect_same Stays = refl
effect_same (Writes l j k) = refl
effect_same (Opens l w) = refl
effect_same (Closes l) = refl

-- the doing comes again on a store that has the same at the locations of its term
pub again_there :
    (i : Imports) (path : List ℕ) (a : Doing) (s u s' : Store) (m t : Term) (e : HasEffect i path a s u m t)
    → ((l : ℕ) → Contains (things 0 m) (Place l) → entry_at s' l ≡ entry_at s l) → IsFree e.effect s'
    → DoesAt i path a s' (applied e.effect s') m t
again_there i path a s u s' m t e same free =
    let first : DoesAt i path a s' (applied (renamed_effect (λ l. l) e.effect) s') (renamed (λ l. l) m) (renamed (λ l. l) t) =
    e.again (λ l. l) s' (λ l h. same l h ∙ sym (carried_same (entry_at s l))) (subst (λ (z : Effect). IsFree z s') (sym (effect_same e.effect)) free) in
    let second : DoesAt i path a s' (applied e.effect s') (renamed (λ l. l) m) (renamed (λ l. l) t) =
    subst (λ (z : Effect). DoesAt i path a s' (applied z s') (renamed (λ l. l) m) (renamed (λ l. l) t)) (effect_same e.effect) first in
    let third : DoesAt i path a s' (applied e.effect s') m (renamed (λ l. l) t) =
    subst (λ (z : Term). DoesAt i path a s' (applied e.effect s') z (renamed (λ l. l) t)) (renamed_same m) second in
    subst (λ (z : Term). DoesAt i path a s' (applied e.effect s') m z) (renamed_same t) third

-- the locations that an effect changes
abbrev pub Touches : Effect → ℕ → Type 0
Touches Stays x = ⊥
Touches (Writes l j k) x = l ≡ x
Touches (Opens l w) x = l ≡ x
Touches (Closes l) x = l ≡ x

pub touch_cases : {P : Type 0} (e : Effect) (x : ℕ) → (Touches e x → P) → ((Touches e x → ⊥) → P) → P
touch_cases Stays x f g = g (λ h. h)
touch_cases (Writes l j k) x f g = number_cases l x (λ h b. f h) (λ h b. g h)
touch_cases (Opens l w) x f g = number_cases l x (λ h b. f h) (λ h b. g h)
touch_cases (Closes l) x f g = number_cases l x (λ h b. f h) (λ h b. g h)

-- elsewhere the store stays
pub untouched : (e : Effect) (s : Store) (x : ℕ) → (Touches e x → ⊥) → entry_at (applied e s) x ≡ entry_at s x
untouched Stays s x h = refl
untouched (Writes l j k) s x h = put_other s l j k x h
untouched (Opens l w) s x h = later_at (array_at l w.width w.count) s x h
untouched (Closes l) s x h = without_other s l x h

-- what has the same at a location has the same there after the effect
pub still_same : (e : Effect) (s s' : Store) (x : ℕ) → entry_at s' x ≡ entry_at s x → entry_at (applied e s') x ≡ entry_at (applied e s) x
still_same Stays s s' x h = h
still_same (Writes l j k) s s' x h =
    number_cases l x
    (λ same b. subst (λ (z : ℕ). entry_at (store_put s' l j k) z ≡ entry_at (store_put s l j k) z) same
    (put_same s' l j k ∙ (ap (numbered j k) (ap (entry_at s') same ∙ (h ∙ sym (ap (entry_at s) same))) ∙ sym (put_same s l j k))))
    (λ other b. put_other s' l j k x other ∙ (h ∙ sym (put_other s l j k x other)))
still_same (Opens l w) s s' x h =
    let e : Entry = array_at l w.width w.count in
    number_cases l x
    (λ same b. first_at e s' x same ∙ sym (first_at e s x same)) (λ other b. later_at e s' x other ∙ (h ∙ sym (later_at e s x other)))
still_same (Closes l) s s' x h =
    number_cases l x
    (λ same b. subst (λ (z : ℕ). entry_at (without s' l) z ≡ entry_at (without s l) z) same (without_same s' l ∙ sym (without_same s l)))
    (λ other b. without_other s' l x other ∙ (h ∙ sym (without_other s l x other)))
