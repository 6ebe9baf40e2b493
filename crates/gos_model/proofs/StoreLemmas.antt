-- What a store has at a location, and what a write leaves there.
use Rattle.std.specs.Prelude.{◌≡◌, ◌≢◌, ℕ, zero, suc, List, [], ◌∷◌, set, slice_get, Option, Some, None, nat_eq, if◌then◌else◌}
use Rattle.std.proofs.Common.{arith, refl, sym, ap, subst, inl, inr, ◌∙◌}
use Rattle.std.proofs.lemmas.Bool.{eq-eqb, ne_eqb}
use Rattle.std.proofs.lemmas.List.{length-set}
use Rattle.std.proofs.lemmas.Option.{same_Some}
use Rattle.gos_model.specs.Terms.{Term, App, Lit, Loc, Arr}
use Rattle.gos_model.specs.Steps.{Locates}
use Rattle.gos_model.specs.Stores.{Entry, variable_at, Store, entry_at, number_in, number_at, store_put}
use Rattle.gos_model.specs.SmallStores.{ReadsWhatIsWritten, OtherIndexStays, OutsideChangesNothing, OtherLocationStays, LengthsStay, ThreeNumbers, VariableHasOne, FirstCounts}
use Rattle.gos_model.specs.Laws.{WritesStore, ReadsBehindWrite, AbsentIsNotWritten, AbsentIsNotRead}
use Rattle.gos_model.proofs.NumberLemmas.{number_cases}

-- what the first entry is
pub first_at : (e : Entry) (s : Store) (l : ℕ) → e.place ≡ l → entry_at (e ∷ s) l ≡ Some e
first_at e s l h = rw (eq-eqb e.place l h) refl

pub later_at : (e : Entry) (s : Store) (l : ℕ) → e.place ≢ l → entry_at (e ∷ s) l ≡ entry_at s l
later_at e s l h = rw (ne_eqb e.place l h) refl

-- a list with a number set at an index
pub set_here : (ks : List ℕ) (j k n : ℕ) → slice_get ks j ≡ Some n → slice_get (set ks j k) j ≡ Some k
set_here [] j k n h = absurd cc
set_here (i ∷ ks) zero k n h = refl
set_here (i ∷ ks) (suc j) k n h = set_here ks j k n h

pub set_elsewhere : (ks : List ℕ) (i j k : ℕ) → i ≢ j → slice_get (set ks i k) j ≡ slice_get ks j
set_elsewhere [] i j k h = refl
set_elsewhere (n ∷ ks) zero zero k h = absurd (h refl)
set_elsewhere (n ∷ ks) zero (suc j) k h = refl
set_elsewhere (n ∷ ks) (suc i) zero k h = refl
set_elsewhere (n ∷ ks) (suc i) (suc j) k h = set_elsewhere ks i j k (λ e. h (ap suc e))

set_outside : (ks : List ℕ) (j k : ℕ) → slice_get ks j ≡ None → set ks j k ≡ ks
set_outside [] j k h = refl
set_outside (i ∷ ks) zero k h = absurd cc
set_outside (i ∷ ks) (suc j) k h = λ x. i ∷ set_outside ks j k h x

-- an entry, if there is one, with the number k at index j
abbrev pub numbered : ℕ → ℕ → Option Entry → Option Entry
numbered j k None = None
numbered j k (Some e) = Some (record e { numbers = set e.numbers j k })

pub put_same : (s : Store) (l j k : ℕ) → entry_at (store_put s l j k) l ≡ numbered j k (entry_at s l)
put_same [] l j k = refl
put_same (e ∷ s) l j k = number_cases e.place l (λ h t. rw t (rw t refl)) (λ h f. rw f (rw f (put_same s l j k)))

pub put_other : (s : Store) (l j k x : ℕ) → l ≢ x → entry_at (store_put s l j k) x ≡ entry_at s x
put_other [] l j k x h = refl
put_other (e ∷ s) l j k x h =
    number_cases e.place l
    (λ same t. let f = ne_eqb e.place x (λ q. h (sym same ∙ q)) in rw t (rw f refl))
    (λ other f. rw f (λ i. if nat_eq e.place x then Some e else put_other s l j k x h i))

numbered_here : (o : Option Entry) (j k n : ℕ) → number_in o j ≡ Some n → number_in (numbered j k o) j ≡ Some k
numbered_here None j k n h = absurd cc
numbered_here (Some e) j k n h = set_here e.numbers j k n h

numbered_elsewhere : (o : Option Entry) (i j k : ℕ) → i ≢ j → number_in (numbered i k o) j ≡ number_in o j
numbered_elsewhere None i j k h = refl
numbered_elsewhere (Some e) i j k h = set_elsewhere e.numbers i j k h

pub reads_what_is_written : ReadsWhatIsWritten
reads_what_is_written s l j k n h = ap (λ (o : Option Entry). number_in o j) (put_same s l j k) ∙ numbered_here (entry_at s l) j k n h

pub other_index_stays : OtherIndexStays
other_index_stays s l i j k h = ap (λ (o : Option Entry). number_in o j) (put_same s l i k) ∙ numbered_elsewhere (entry_at s l) i j k h

pub outside_changes_nothing : OutsideChangesNothing
outside_changes_nothing [] l j k h = refl
outside_changes_nothing (e ∷ s) l j k h =
    number_cases e.place l
    (λ same t.
    let none : slice_get e.numbers j ≡ None = ap (λ (o : Option Entry). number_in o j) (sym (first_at e s l same)) ∙ h in
    rw t (λ i. record e { numbers = set_outside e.numbers j k none i } ∷ s))
    (λ other f.
    let none : number_at s l j ≡ None = ap (λ (o : Option Entry). number_in o j) (sym (later_at e s l other)) ∙ h in
    rw f (λ i. e ∷ outside_changes_nothing s l j k none i))

pub other_location_stays : OtherLocationStays
other_location_stays s l m j k h = put_other s l j k m h

pub lengths_stay : LengthsStay
lengths_stay s l m j k e here =
    number_cases l m
    (λ same t. (
      record e { numbers = set e.numbers j k },
      subst (λ (x : ℕ). entry_at (store_put s l j k) x ≡ Some (record e { numbers = set e.numbers j k })) same
          (put_same s l j k ∙ ap (numbered j k) (ap (entry_at s) same ∙ here)),
      refl,
      length-set e.numbers j k,
    ))
    (λ other f. (e, put_other s l j k m other ∙ here, refl, refl))

abbrev second_of : Store → Option ℕ
second_of s = number_at s 0 1

pub three : ThreeNumbers
three = (refl, refl, refl, refl, λ e. nine_not_six (ap second_of e), refl, refl)
  where
    nine_not_six : ◌≡◌ {A = Option ℕ} (Some 9) (Some 6) → ⊥
    nine_not_six e = grind (arith, e)

pub variable_has_one : VariableHasOne
variable_has_one s l w k = (at 0, at 1)
  where
    at : (j : ℕ) → number_at (variable_at l w k ∷ s) l j ≡ number_in (Some (variable_at l w k)) j
    at j = ap (λ (o : Option Entry). number_in o j) (first_at (variable_at l w k) s l refl)

pub first_counts : FirstCounts
first_counts = (refl, refl, refl, refl, refl)

-- a number that an entry of a store has is the store's
number_of : (s : Store) (l i j : ℕ) (e : Entry) → entry_at s l ≡ Some e → slice_get e.numbers i ≡ Some j → number_at s l i ≡ Some j
number_of s l i j e has is = ap (λ (o : Option Entry). number_in o i) has ∙ is

-- the number that was written at an index of a location
written : (s s' : Store) (l i k j : ℕ) → number_at s l i ≡ Some j → s' ≡ store_put s l i k → number_at s' l i ≡ Some k
written s s' l i k j old now = ap (λ u. number_at u l i) now ∙ reads_what_is_written s l i k j old

pub writes_store : WritesStore
writes_store s s' m t k (e, i, j, place, has, old, left, now) = (
  e,
  i,
  place,
  has,
  ap (λ u. entry_at u e.place) now ∙ (put_same s e.place i k ∙ ap (numbered i k) has),
  written s s' e.place i k j (number_of s e.place i j e has old) now,
)

-- a term stands for one index of one location
pub one_number : (m : Term) (l i d j : ℕ) → Locates m l i → Locates m d j → (l ≡ d) × (i ≡ j)
one_number m l i d j (inl (e, z)) (inl (f, y)) = (places (sym e ∙ f), z ∙ sym y)
  where
    places : Loc l ≡ Loc d → l ≡ d
    places h = cc h
one_number m l i d j (inl (e, z)) (inr (w, f)) = absurd (apart (sym e ∙ f))
  where
    apart : Loc l ≡ App (Arr d) (Lit j w) → ⊥
    apart h = cc h
one_number m l i d j (inr (v, e)) (inl (f, y)) = absurd (apart (sym e ∙ f))
  where
    apart : App (Arr l) (Lit i v) ≡ Loc d → ⊥
    apart h = cc h
one_number m l i d j (inr (v, e)) (inr (w, f)) = (places (sym e ∙ f), indexes (sym e ∙ f))
  where
    places : App (Arr l) (Lit i v) ≡ App (Arr d) (Lit j w) → l ≡ d
    places h = cc h

    indexes : App (Arr l) (Lit i v) ≡ App (Arr d) (Lit j w) → i ≡ j
    indexes h = cc h

pub reads_behind_write : ReadsBehindWrite
reads_behind_write s s' s'' m t v k (e, i, n, place, has, old, left, now) (d, h, j, there, here, is, to, same) =
    let (one, at) = one_number m e.place i d.place h place there in
    let first : number_at s' e.place i ≡ Some k = written s s' e.place i k n (number_of s e.place i n e has old) now in
    let second : number_at s' d.place h ≡ Some j = number_of s' d.place h j d here is in
    let meet : number_at s' e.place i ≡ number_at s' d.place h = ap (λ (x : ℕ). number_at s' x i) one ∙ ap (number_at s' d.place) at in
    let number : k ≡ j = same_Some k j (sym first ∙ (meet ∙ second)) in
    (d.width, to ∙ ap (λ (x : ℕ). Lit x d.width) (sym number))

-- what stands for a number that the store doesn't have has no entry with one
no_number : (s : Store) (m : Term) (l i h j : ℕ) (e : Entry) → Locates m l i → number_at s l i ≡ None → Locates m e.place h
    → entry_at s e.place ≡ Some e → slice_get e.numbers h ≡ Some j → ⊥
no_number s m l i h j e stands none place has is =
    let (one, at) = one_number m e.place h l i place stands in
    let meet : number_at s e.place h ≡ number_at s l i = ap (λ (x : ℕ). number_at s x h) one ∙ ap (number_at s l) at in
    let bad : Some j ≡ None = sym (number_of s e.place h j e has is) ∙ (meet ∙ none) in
    cc bad

pub absent_is_not_written : AbsentIsNotWritten
absent_is_not_written s s' m t l i k stands none (e, h, j, place, has, is, left, now) = no_number s m l i h j e stands none place has is

pub absent_is_not_read : AbsentIsNotRead
absent_is_not_read s s' m t l i stands none (e, h, j, place, has, is, left, now) = no_number s m l i h j e stands none place has is
