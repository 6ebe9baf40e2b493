-- The pairs of a type's handshakes, listed.
use Rattle.std.proofs.Common.{◌≡◌, ℕ, suc, ◌+◌, Bool, true, false, List, [], ◌∷◌, ◌++◌, refl, ◌∙◌, sym}
use Rattle.std.specs.Prelude.{◌&&◌, ◌||◌, nat_eq}
use Rattle.std.proofs.lemmas.Bool.{eqb-true, eqb-false, eq-eqb, ne_eqb}
use Rattle.gos_types.specs.declared.shakes.Role.{Role}
use Rattle.gos_types.specs.declared.shakes.Role.TheVariants.{Serve, Ask}
use Rattle.gos_plan.specs.Kinds.{Contact}
use Rattle.gos_macro.specs.Paths.{is_pair}
use Rattle.gos_share.specs.Share.{block_passing, row_passing}

abbrev pub pairs_at : Role → ℕ → ℕ → List (ℕ × ℕ)
pairs_at Serve h j = (j, h + j) ∷ (j, h + h + j) ∷ []
pairs_at Ask h j = (h + j, j) ∷ (h + h + j, j) ∷ []

abbrev pub pairs_of : ℕ → ℕ → List Contact → List (ℕ × ℕ)
pairs_of h j [] = []
pairs_of h j (k ∷ ks) = pairs_at k.role h j ++ pairs_of h (suc j) ks

same_test : (a b : ℕ) → nat_eq a b ≡ nat_eq b a
same_test a b = by_test (nat_eq a b) refl
  where
    by_test : (t : Bool) → nat_eq a b ≡ t → nat_eq a b ≡ nat_eq b a
    by_test true e = e ∙ sym (eq-eqb b a (sym (eqb-true a b e)))
    by_test false e = e ∙ sym (ne_eqb b a (λ f. eqb-false a b e (sym f)))

serve_tests : (a b c r : Bool) → ((a && (b || c)) || r) ≡ ((a && b) || ((a && c) || r))
serve_tests true true c r = refl
serve_tests true false c r = refl
serve_tests false b c r = refl

ask_tests : (a b c r : Bool) → ((a && (b || c)) || r) ≡ ((b && a) || ((c && a) || r))
ask_tests true true c r = refl
ask_tests true false true r = refl
ask_tests true false false r = refl
ask_tests false true true r = refl
ask_tests false true false r = refl
ask_tests false false true r = refl
ask_tests false false false r = refl

pub row_pairs : (h j : ℕ) (ks : List Contact) (from to : ℕ) → row_passing h j ks from to ≡ is_pair (pairs_of h j ks) from to
row_pairs h j [] from to = refl
row_pairs h j (k ∷ ks) from to = by_role k.role (row_pairs h (suc j) ks from to)
  where
    by_role : (r : Role) → row_passing h (suc j) ks from to ≡ is_pair (pairs_of h (suc j) ks) from to
        → (block_passing r h j from to || row_passing h (suc j) ks from to) ≡ is_pair (pairs_at r h j ++ pairs_of h (suc j) ks) from to
    by_role Serve ih =
        let a = same_test from j in
        let b = same_test to (h + j) in
        let c = same_test to (h + h + j) in
        (λ t. (a t && (b t || c t)) || ih t) ∙ serve_tests (nat_eq j from) (nat_eq (h + j) to) (nat_eq (h + h + j) to) (is_pair (pairs_of h (suc j) ks) from to)
    by_role Ask ih =
        let a = same_test to j in
        let b = same_test from (h + j) in
        let c = same_test from (h + h + j) in
        (λ t. (a t && (b t || c t)) || ih t) ∙ ask_tests (nat_eq j to) (nat_eq (h + j) from) (nat_eq (h + h + j) from) (is_pair (pairs_of h (suc j) ks) from to)
