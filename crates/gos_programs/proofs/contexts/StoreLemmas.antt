-- What a store has at a location after each change of it.
use Rattle.std.specs.Prelude.{◌≡◌, ◌≢◌, ℕ, [], ◌∷◌, Option, Some, None, nat_eq, if◌then◌else◌}
use Rattle.std.proofs.Common.{refl, sym, ap, ◌∙◌}
use Rattle.gos_model.specs.Stores.{Entry, Store, entry_at, store_put, without}
use Rattle.gos_model.proofs.NumberLemmas.{number_cases}
pub use Rattle.gos_model.proofs.StoreLemmas.{first_at, later_at, numbered, put_same, put_other}

-- nothing and something differ
pub not_both : (o : Option Entry) (e : Entry) → o ≡ None → o ≡ Some e → ⊥
not_both o e a b = let bad : None ≡ Some e = sym a ∙ b in absurd cc

-- without a location
pub without_same : (s : Store) (l : ℕ) → entry_at (without s l) l ≡ None
without_same [] l = refl
without_same (e ∷ s) l = number_cases e.place l (λ h t. rw t (without_same s l)) (λ h f. rw f (rw f (without_same s l)))

pub without_other : (s : Store) (l x : ℕ) → l ≢ x → entry_at (without s l) x ≡ entry_at s x
without_other [] l x h = refl
without_other (e ∷ s) l x h =
    number_cases e.place l
    (λ same t. rw t (without_other s l x h ∙ sym (later_at e s x (λ q. h (sym same ∙ q)))))
    (λ other f. rw f (λ i. if nat_eq e.place x then Some e else without_other s l x h i))

-- an entry that isn't there doesn't come by these
pub without_absent : (s : Store) (l x : ℕ) → entry_at s x ≡ None → entry_at (without s l) x ≡ None
without_absent s l x h =
    number_cases l x (λ e t. ap (λ (y : ℕ). entry_at (without s l) y) (sym e) ∙ without_same s l) (λ other f. without_other s l x other ∙ h)

pub put_absent : (s : Store) (l j k x : ℕ) → entry_at s x ≡ None → entry_at (store_put s l j k) x ≡ None
put_absent s l j k x h =
    number_cases l x
    (λ e t. ap (λ (y : ℕ). entry_at (store_put s l j k) y) (sym e) ∙ (put_same s l j k ∙ ap (numbered j k) (ap (entry_at s) e ∙ h)))
    (λ other f. put_other s l j k x other ∙ h)
