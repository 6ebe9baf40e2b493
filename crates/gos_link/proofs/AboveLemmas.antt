-- The instances above the givers of services, once there is a service more.
use Rattle.std.specs.Prelude.{◌≡◌, ◌≢◌, ◌<◌, ◌≤◌, ℕ, zero, suc, ◌+◌, Bool, true, false, List, [], ◌∷◌, ◌++◌, length, map, Option, Some, None, nat_eq, slice_get, unwrap_or}
use Rattle.std.proofs.Common.{refl, sym, ap, ◌∙◌, subst, arith, length-append}
use Rattle.std.proofs.lemmas.Bool.{eq-eqb, ne_eqb}
use Rattle.std.proofs.lemmas.Bool.Decides.{nat_tests}
use Rattle.gos_ties.proofs.FarLemmas.{one_alone}
use Rattle.gos_link.specs.declared.services.Service.{Service}
use Rattle.gos_link.specs.Services.{first_used}
use Rattle.gos_link.specs.inner.Firsts.{or_first}
use Rattle.gos_link.specs.inner.Served.{lateness, AreAbove}
use Rattle.gos_link.specs.inner.Tops.{AreTops, moved, top_at}
use Rattle.gos_link.specs.inner.Wired.{number_used}
use Rattle.gos_link.proofs.BoundLemmas.{unused_none}
use Rattle.gos_link.proofs.ServedLemmas.{position_last, used_low}
use Rattle.gos_link.proofs.TopLemmas.{moved_at, tops_begin}

-- an element of a list with one more at its end
at_front : (xs : List ℕ) (x i d : ℕ) → i < length xs → unwrap_or (slice_get (xs ++ x ∷ []) i) d ≡ unwrap_or (slice_get xs i) d
at_front [] x i d low = absurd (omega (arith, low))
at_front (y ∷ xs) x zero d low = refl
at_front (y ∷ xs) x (suc i) d low = at_front xs x i d (omega (arith, low))

at_end : (xs : List ℕ) (x d : ℕ) → unwrap_or (slice_get (xs ++ x ∷ []) (length xs)) d ≡ x
at_end [] x d = refl
at_end (y ∷ xs) x d = at_end xs x d

-- the first numbers, each its own top
abbrev numbers : ℕ → List ℕ
numbers zero = []
numbers (suc n) = numbers n ++ n ∷ []

count : (n : ℕ) → length (numbers n) ≡ n
count zero = refl
count (suc n) = let more = length-append (numbers n) (n ∷ []) in let size = count n in omega (arith, more, size)

pub above_none : (n : ℕ) → (tops : List ℕ) × AreTops n [] tops × AreAbove [] tops []
above_none n = (
  numbers n,
  tops_begin n (numbers n) (count n) (alone n),
  record { each = refl; on = λ k t e. absurd (cc e) },
)
  where
    alone : (n k : ℕ) → top_at (numbers n) k ≡ k
    alone zero k = refl
    alone (suc n) k = one_alone (numbers n) n (count n) (alone n) k

module _ (n : ℕ) (ss : List Service) (s : Service) (tops above : List ℕ) (known : AreTops n ss tops) (are : AreAbove ss tops above) (low : s.giver < n)
    (unused : first_used ss s.giver ≡ None) (apart : top_at tops s.user ≢ s.giver) where
  abbrev top : ℕ
  top = top_at tops s.user

  abbrev all : List Service
  all = ss ++ s ∷ []

  size : length all ≡ length ss + 1
  size = length-append ss (s ∷ [])

  used_by : (k : ℕ) → number_used all k ≡ or_first (number_used ss k) (nat_eq s.giver k) (length ss)
  used_by k = position_last (λ x. nat_eq x.giver k) ss s

  -- no instance serves sooner
  later : (k : ℕ) → lateness ss k ≤ lateness all k
  later k = by (number_used ss k) (nat_eq s.giver k) (used_by k)
    where
      by : (found : Option ℕ) (own : Bool) → number_used all k ≡ or_first found own (length ss) → unwrap_or found (length ss) ≤ lateness all k
      by (Some j) own e = rw e (omega arith)
      by None true e = rw e (omega arith)
      by None false e = rw e (omega (arith, size))

  abbrev f : ℕ → ℕ
  f = moved s.giver top

  abbrev new : List ℕ
  new = map f tops

  at : (k : ℕ) → top_at new k ≡ f (top_at tops k)
  at = moved_at n ss tops known s.giver top low

  -- a giver of before
  old_on : (k t : ℕ) → number_used ss k ≡ Some t
      → (top_at new (top_at (above ++ top ∷ []) t) ≡ top_at new k) × (t < lateness all (top_at (above ++ top ∷ []) t))
  old_on k t e =
      let (same, late) = are.on k t e in
      let within : t < length above = (let small = used_low ss k t e in let each = are.each in omega (arith, small, each)) in
      let here : top_at above t ≡ top_at (above ++ top ∷ []) t = sym (at_front above top t t within) in
      let o : ℕ = top_at above t in
      let grows = later o in
      subst (λ (o : ℕ). (top_at new o ≡ top_at new k) × (t < lateness all o)) here
      (at o ∙ (ap f same ∙ sym (at k)), omega (arith, late, grows))

  -- and the new one
  new_on : (k t : ℕ) → k ≡ s.giver → t ≡ length ss
      → (top_at new (top_at (above ++ top ∷ []) t) ≡ top_at new k) × (t < lateness all (top_at (above ++ top ∷ []) t))
  new_on k t is number =
      let here : top ≡ top_at (above ++ top ∷ []) t = sym (subst (λ (m : ℕ). unwrap_or (slice_get (above ++ top ∷ []) m) t ≡ top) (are.each ∙ sym number) (at_end above top t)) in
      let own : top_at tops top ≡ top = known.own top (known.last s.user) in
      let stays : f top ≡ top = rw (ne_eqb top s.giver apart) refl in
      let goes : f s.giver ≡ top = rw (eq-eqb s.giver s.giver refl) refl in
      let mine : top_at tops k ≡ s.giver = ap (top_at tops) is ∙ known.own s.giver unused ∙ refl in
      let free : number_used all top ≡ None =
      used_by top ∙ ((λ i. or_first (unused_none ss top (known.last s.user) i) (ne_eqb s.giver top (λ e. apart (sym e)) i) (length ss)) ∙ refl) in
      let late : lateness all top ≡ length all = ap (λ (o : Option ℕ). unwrap_or o (length all)) free in
      subst (λ (o : ℕ). (top_at new o ≡ top_at new k) × (t < lateness all o)) here
      (at top ∙ (ap f own ∙ (stays ∙ (sym goes ∙ (ap f (sym mine) ∙ sym (at k))))), omega (arith, number, late, size))

  pub above_more : (more : List ℕ) → more ≡ above ++ top ∷ [] → AreAbove all new more
  above_more more is = subst (λ (list : List ℕ). AreAbove all new list) (sym is) (record { each = each; on = on })
    where
      each : length (above ++ top ∷ []) ≡ length all
      each = let one = length-append above (top ∷ []) in let old = are.each in omega (arith, one, old, size)

      on : (k t : ℕ) → number_used all k ≡ Some t
          → (top_at new (top_at (above ++ top ∷ []) t) ≡ top_at new k) × (t < lateness all (top_at (above ++ top ∷ []) t))
      on k t e = by (number_used ss k) refl (nat_eq s.giver k) refl (sym (used_by k) ∙ e)
        where
          by : (found : Option ℕ) → number_used ss k ≡ found → (own : Bool) → nat_eq s.giver k ≡ own → or_first found own (length ss) ≡ Some t
              → (top_at new (top_at (above ++ top ∷ []) t) ≡ top_at new k) × (t < lateness all (top_at (above ++ top ∷ []) t))
          by (Some i) was own mine h = old_on k t (was ∙ h)
          by None was true mine h =
              let giver : k ≡ s.giver = grind (arith, nat_tests, mine) in
              let number : t ≡ length ss = cc h in
              new_on k t giver number
          by None was false mine h = absurd (cc h)
