-- What a renamed store has, with others beside it, and after each change.
use Rattle.std.specs.Prelude.{◌≡◌, ◌≤◌, ℕ, suc, ◌+◌, [], ◌∷◌, Option, Some, None}
use Rattle.std.proofs.Common.{arith, refl, sym, ap, ◌∙◌}
use Rattle.std.proofs.lemmas.Bool.{eq-eqb, ne_eqb}
use Rattle.gos_model.specs.Stores.{Entry, Store, entry_at, number_in, store_put, without}
use Rattle.gos_model.proofs.NumberLemmas.{number_cases}
use Rattle.gos_model.proofs.StoreLemmas.{outside_changes_nothing}
use Rattle.gos_programs.specs.contexts.Renaming.{renamed_store, IsInjective, beside}
use Rattle.gos_programs.proofs.contexts.StoreLemmas.{first_at, later_at}

-- an entry at a renamed place
abbrev pub moved : (ℕ → ℕ) → Option Entry → Option Entry
moved r None = None
moved r (Some e) = Some (record e { place = r e.place })

pub entry_beside : (r : ℕ → ℕ) → IsInjective r → (s f : Store) (l : ℕ) → entry_at f (r l) ≡ None
    → entry_at (beside r s f) (r l) ≡ moved r (entry_at s l)
entry_beside r inj [] f l h = h
entry_beside r inj (e ∷ s) f l h =
    number_cases e.place l
    (λ same t. let u = eq-eqb (r e.place) (r l) (ap r same) in rw (t, u) refl)
    (λ other g. let u = ne_eqb (r e.place) (r l) (λ q. other (inj e.place l q)) in rw (g, u) (entry_beside r inj s f l h))

-- nothing changes where nothing is
put_nowhere : (f : Store) (l j k : ℕ) → entry_at f l ≡ None → store_put f l j k ≡ f
put_nowhere f l j k h = outside_changes_nothing f l j k (ap (λ (o : Option Entry). number_in o j) h)

without_nowhere : (f : Store) (l : ℕ) → entry_at f l ≡ None → without f l ≡ f
without_nowhere [] l h = refl
without_nowhere (e ∷ f) l h =
    number_cases e.place l
    (λ same t. let bad : Some e ≡ None = sym (first_at e f l same) ∙ h in absurd cc)
    (λ other g. let rest : entry_at f l ≡ None = sym (later_at e f l other) ∙ h in rw g (λ i. e ∷ without_nowhere f l rest i))

pub put_beside : (r : ℕ → ℕ) → IsInjective r → (s f : Store) (l j k : ℕ) → entry_at f (r l) ≡ None
    → beside r (store_put s l j k) f ≡ store_put (beside r s f) (r l) j k
put_beside r inj [] f l j k h = sym (put_nowhere f (r l) j k h)
put_beside r inj (e ∷ s) f l j k h =
    number_cases e.place l
    (λ same t. let u = eq-eqb (r e.place) (r l) (ap r same) in rw (t, u) refl)
    (λ other g.
    let u = ne_eqb (r e.place) (r l) (λ q. other (inj e.place l q)) in
    rw (g, u) (λ i. record e { place = r e.place } ∷ put_beside r inj s f l j k h i))

pub without_beside : (r : ℕ → ℕ) → IsInjective r → (s f : Store) (l : ℕ) → entry_at f (r l) ≡ None
    → beside r (without s l) f ≡ without (beside r s f) (r l)
without_beside r inj [] f l h = sym (without_nowhere f (r l) h)
without_beside r inj (e ∷ s) f l h =
    number_cases e.place l
    (λ same t. let u = eq-eqb (r e.place) (r l) (ap r same) in rw (t, u) (without_beside r inj s f l h))
    (λ other g.
    let u = ne_eqb (r e.place) (r l) (λ q. other (inj e.place l q)) in
    rw (g, u) (λ i. record e { place = r e.place } ∷ without_beside r inj s f l h i))

pub nothing_beside : (r : ℕ → ℕ) (s : Store) → beside r s [] ≡ renamed_store r s
nothing_beside r [] = refl
nothing_beside r (e ∷ s) = λ i. record e { place = r e.place } ∷ nothing_beside r s i

-- an entry has the place at which it is found
pub entry_place : (s : Store) (l : ℕ) (e : Entry) → entry_at s l ≡ Some e → e.place ≡ l
entry_place [] l e h = absurd cc
entry_place (d ∷ s) l e h =
    number_cases d.place l
    (λ same t. let here : Some d ≡ Some e = sym (first_at d s l same) ∙ h in
    let one : d ≡ e = cc in sym (ap (λ (x : Entry). x.place) one) ∙ same)
    (λ other g. entry_place s l e (sym (later_at d s l other) ∙ h))

-- above all places of a store
abbrev pub above : Store → ℕ
above [] = 0
above (e ∷ s) = suc (e.place + above s)

pub above_absent : (s : Store) (l : ℕ) → above s ≤ l → entry_at s l ≡ None
above_absent [] l h = refl
above_absent (e ∷ s) l h = later_at e s l (λ q. omega (arith, h, q)) ∙ above_absent s l (omega (arith, h))
