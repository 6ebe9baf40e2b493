-- The two sides of a product: the handshakes of the one, and of the other.
use Rattle.std.specs.Prelude.{◌≡◌, ℕ, ◌+◌, ◌-◌, ◌<◌, ◌≤◌, Bool, true, false, ◌⊎◌, Some, slice_get, nat_lt}
use Rattle.std.proofs.Common.{refl, sym, ◌∙◌, ap, subst, arith, inl, inr, zero-add}
use Rattle.std.proofs.lemmas.Bool.Decides.{nat_tests}
use Rattle.std.proofs.lemmas.Option.{same_Some}
use Rattle.gos_types.specs.Types.{Type', Pair}
use Rattle.gos_types.proofs.ListLemmas.{element_at}
use Rattle.gos_plan.specs.Kinds.{Contact, contacts_of}
use Rattle.gos_realises.specs.realises.Regular.{count, KeepsTurnsOf}
use Rattle.gos_realises.proofs.realises.CountLemmas.{count_pair}
use Rattle.gos_supplies.proofs.turns.BetweenLemmas.{pair_first}
use Rattle.gos_sharing.proofs.behind.BetweenLemmas.{second_of_pair}

-- The handshakes of t are those of s, from number n on, and those of o, from number m on.
pub record Half (t s o : Type') (n m : ℕ) : Type 0 where
  pub mine : (j : ℕ) (k : Contact) → slice_get (contacts_of s) j ≡ Some k → slice_get (contacts_of t) (n + j) ≡ Some k
  pub other : (l : ℕ) (k : Contact) → slice_get (contacts_of o) l ≡ Some k → slice_get (contacts_of t) (m + l) ≡ Some k
  pub either :
      (h : ℕ) (k : Contact) → slice_get (contacts_of t) h ≡ Some k
      → ((j : ℕ) × (h ≡ n + j) × (slice_get (contacts_of s) j ≡ Some k)) ⊎ ((l : ℕ) × (h ≡ m + l) × (slice_get (contacts_of o) l ≡ Some k))
  pub apart : (j l : ℕ) → j < count s → l < count o → n + j ≡ m + l → ⊥
  pub turns : (F : ℕ → Bool) → KeepsTurnsOf t F → KeepsTurnsOf o (λ h. F (m + h))
  pub fits : n + count s ≤ count t

split_so : (a b : Type') (h : ℕ) (k : Contact) → slice_get (contacts_of (Pair a b)) h ≡ Some k
    → ((j : ℕ) × (h ≡ 0 + j) × (slice_get (contacts_of a) j ≡ Some k)) ⊎ ((l : ℕ) × (h ≡ count a + l) × (slice_get (contacts_of b) l ≡ Some k))
split_so a b h k at_h = by_test (nat_lt h (count a)) refl
  where
    by_test : (t : Bool) → nat_lt h (count a) ≡ t
        → ((j : ℕ) × (h ≡ 0 + j) × (slice_get (contacts_of a) j ≡ Some k)) ⊎ ((l : ℕ) × (h ≡ count a + l) × (slice_get (contacts_of b) l ≡ Some k))
    by_test true test =
        let (d, at_d) = element_at (contacts_of a) h (grind (arith, nat_tests, test)) in
        let same : d ≡ k = same_Some d k (sym (pair_first a b h d at_d) ∙ at_h) in inl (h, sym (zero-add h), at_d ∙ ap Some same)
    by_test false test =
        let sum : h ≡ count a + (h - count a) = grind (arith, nat_tests, test) in
        inr (h - count a, sum, sym (second_of_pair a b (h - count a)) ∙ (ap (slice_get (contacts_of (Pair a b))) (sym sum) ∙ at_h))

pub first_half : (a b : Type') → Half (Pair a b) a b 0 (count a)
first_half a b =
    record {
      mine = λ j k at_j. ap (slice_get (contacts_of (Pair a b))) (zero-add j) ∙ pair_first a b j k at_j;
      other = λ l k at_l. second_of_pair a b l ∙ at_l;
      either = split_so a b;
      apart = λ j l low small same. omega (arith, same, low);
      turns = λ F keeps. keeps.1;
      fits = (let sum = count_pair a b in omega (arith, sum));
    }

swapped : {A B : Type 0} → A ⊎ B → B ⊎ A
swapped (inl x) = inr x
swapped (inr x) = inl x

pub second_half : (a b : Type') → Half (Pair a b) b a (count a) 0
second_half a b =
    record {
      mine = λ l k at_l. second_of_pair a b l ∙ at_l;
      other = λ j k at_j. ap (slice_get (contacts_of (Pair a b))) (zero-add j) ∙ pair_first a b j k at_j;
      either = λ h k at_h. swapped (split_so a b h k at_h);
      apart = λ j l low small same. omega (arith, same, small);
      turns = λ F keeps. subst (λ (G : ℕ → Bool). KeepsTurnsOf a G) (λ l h. F (sym (zero-add h) l)) keeps.0;
      fits = (let sum = count_pair a b in omega (arith, sum));
    }
