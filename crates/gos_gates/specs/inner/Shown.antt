-- What the gates of a bit show, one by one.
--
-- Read first: Layout.
use Rattle.std.specs.Prelude.{Bool, not, ◌&&◌, List, [], ◌∷◌, ◌++◌}
use Rattle.gos_gates.specs.inner.Adding.{differ}
use Rattle.gos_gates.specs.declared.kinds.Kind.{Kind}
use Rattle.gos_gates.specs.declared.kinds.Kind.TheVariants.{And, Or, Gate, Xor, Mux, Add, Sub, Eq, Less}

-- two gates, and whether neither of them is 1
abbrev pub neither_shown : Bool → Bool → List Bool
neither_shown p q = p ∷ q ∷ (not p && not q) ∷ []

abbrev pub differ_shown : Bool → Bool → List Bool
differ_shown a b = neither_shown (a && b) (not a && not b)

abbrev pub add_shown : Bool → Bool → Bool → List Bool
add_shown c a b = differ_shown a b ++ (differ_shown (differ a b) c ++ (not (a && b) && not (differ a b && c)) ∷ [])

abbrev pub less_shown : Bool → Bool → Bool → List Bool
less_shown c a b =
    (not a && b) ∷ (a && not b) ∷ (not (a && not b) && c) ∷ (not (not a && b) && not (not (a && not b) && c)) ∷ []

-- the gates of a bit
abbrev pub bit_shown : Kind → Bool → Bool → Bool → List Bool
bit_shown And c a b = (a && b) ∷ []
bit_shown Or c a b = (not a && not b) ∷ []
bit_shown Gate c a b = (c && a) ∷ []
bit_shown Xor c a b = differ_shown a b
bit_shown Mux c a b = neither_shown (c && a) (not c && b)
bit_shown Add c a b = add_shown c a b
bit_shown Sub c a b = add_shown c a (not b)
bit_shown Eq c a b = differ_shown a b ++ (c && not (differ a b)) ∷ []
bit_shown Less c a b = less_shown c a b
