-- The order of a Share's handshakes is the same for each number above their ranks.
--
-- Read first: Order.
use Rattle.std.proofs.Common.{◌≡◌, ℕ, zero, suc, ◌+◌, ◌<◌, Bool, true, false, List, [], ◌∷◌, ◌++◌, refl, sym, ◌∙◌, ap, arith, nat_eq}
use Rattle.std.specs.Prelude.{◌&&◌, length, map}
use Rattle.gos_plan.specs.Kinds.{Share, Contact, part_contacts}
use Rattle.gos_plan.specs.Firing.{Slot}
use Rattle.gos_plan.specs.Tokens.{shake_of}
use Rattle.gos_macro.specs.Law.{Order, in_order}
use Rattle.gos_macro.specs.laws.Counting.{slots_same, none_chosen}
use Rattle.gos_fast_share.specs.Order.{OneTopTells}

nothing_behind : (xs : List Slot) → xs ++ [] ≡ xs
nothing_behind [] = refl
nothing_behind (x ∷ xs) = ap (λ (l : List Slot). x ∷ l) (nothing_behind xs)

-- none has the rank of a number above all ranks
one_more : (rank : Order) (these : ℕ → Bool) (cs : List Contact) (r : ℕ) → ((h : ℕ) → h < length cs → rank h < r)
    → in_order rank (suc r) these cs ≡ in_order rank r these cs
one_more rank these cs r above =
    ap (λ (l : List Slot). in_order rank r these cs ++ l)
    (slots_same (λ h. these h && nat_eq (rank h) r) (λ h. false) 0 cs (λ h low. by_test (these h) (rank h) (above h (omega (arith, low))))
    ∙ none_chosen (λ h. false) 0 cs (λ h. refl))
    ∙ nothing_behind (in_order rank r these cs)
  where
    by_test : (b : Bool) (m : ℕ) → m < r → (b && nat_eq m r) ≡ false
    by_test true m low = grind (arith, low)
    by_test false m low = refl

further : (rank : Order) (these : ℕ → Bool) (cs : List Contact) (r d : ℕ) → ((h : ℕ) → h < length cs → rank h < r)
    → in_order rank (d + r) these cs ≡ in_order rank r these cs
further rank these cs r zero above = let here : 0 + r ≡ r = omega arith in ap (λ (m : ℕ). in_order rank m these cs) here
further rank these cs r (suc d) above =
    let here : suc d + r ≡ suc (d + r) = omega arith in
    ap (λ (m : ℕ). in_order rank m these cs) here
    ∙ (one_more rank these cs (d + r) (λ h low. let known = above h low in omega (arith, known)) ∙ further rank these cs r d above)

pub any_top : (rank : Order) (these : ℕ → Bool) (cs : List Contact) (r s : ℕ) → ((h : ℕ) → h < length cs → rank h < r) → ((h : ℕ) → h < length cs → rank h < s)
    → in_order rank r these cs ≡ in_order rank s these cs
any_top rank these cs r s above too =
    let turned : s + r ≡ r + s = omega arith in
    sym (further rank these cs r s above) ∙ (ap (λ (m : ℕ). in_order rank m these cs) turned ∙ further rank these cs s r too)

pub one_top_tells : OneTopTells
one_top_tells t order rank top above is other above_too =
    ap (map shake_of) (any_top rank (λ h. true) (part_contacts (Share t)) other top above_too above) ∙ is
