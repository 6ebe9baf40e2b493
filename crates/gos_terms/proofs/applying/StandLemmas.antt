-- Where the points of a node's ties stand: at its parts, its nodes, its numbers, or at the result.
use Rattle.std.specs.Prelude.{◌≡◌, ℕ, zero, suc, ◌+◌, ◌<◌, ◌≤◌, Bool, true, false, List, [], ◌∷◌, ◌⊎◌, length, nat_lt, Contains}
use Rattle.std.proofs.Common.{refl, sym, ◌∙◌, ap, subst, arith, inl, inr}
use Rattle.gos_model.proofs.NumberLemmas.{number_cases}
use Rattle.gos_check.specs.Nodes.{Numbered}
use Rattle.gos_ties.specs.declared.points.Place.{Place}
use Rattle.gos_ties.specs.declared.points.Place.TheVariants as places
use Rattle.gos_ties.specs.declared.points.Point.{Point}
use Rattle.gos_ties.specs.declared.points.Tie.{Tie}
use Rattle.gos_ties.specs.Ties.{point}
use Rattle.gos_ties.specs.Counted.{once, meetings}
use Rattle.gos_ties.proofs.ThinLemmas.{once_itself}
use Rattle.gos_compile.specs.Wiring.{Types, row, parts_of, nodes, ties_of}
use Rattle.gos_compile.proofs.TallyLemmas.{occurs, row_once, tally, tallied}
use Rattle.gos_compile.proofs.ThinLemmas.{span, span_beyond, span_past, part_tells, node_tells, number_tells, outside_tells}
use Rattle.gos_terms.specs.applying.Uses.{Stands}

-- a handshake of a place is one of the node's, whose handshakes are so many
abbrev pub IsOf : Types → ℕ → ℕ → Numbered → ℕ → Place → ℕ → Type 0
IsOf types i j m c (places.Part k) h = (i ≤ k) × (k < i + length (parts_of types m))
IsOf types i j m c (places.Import k) h = ⊥
IsOf types i j m c places.Result h = h < c
IsOf types i j m c (places.Number k) h = Stands k m
IsOf types i j m c (places.Node k) h = (j ≤ k) × (k < j + nodes m)

pub once_at : (q p : Point) → q ≡ p → once q p ≡ 1
once_at q p same = subst (λ (x : Point). once q x ≡ 1) same (once_itself q)

pub counted : (ts : List Tie) (t : Tie) (q : Point) → (q ≡ t.one) ⊎ (q ≡ t.other) → Contains ts t → 1 ≤ meetings q ts
counted [] t q at (n, small, e) = absurd (omega (arith, small))
counted (x ∷ ts) t q (inl same) (zero, small, e) = let o = once_at q x.one (same ∙ ap (λ (y : Tie). y.one) (sym e)) in omega (arith, o)
counted (x ∷ ts) t q (inr same) (zero, small, e) = let o = once_at q x.other (same ∙ ap (λ (y : Tie). y.other) (sym e)) in omega (arith, o)
counted (x ∷ ts) t q at (suc n, small, e) = let more = counted ts t q at (n, omega (arith, small), e) in omega (arith, more)

pub in_span : (k i n : ℕ) → 1 ≤ span k i n → (i ≤ k) × (k < i + n)
in_span k i n some = (low (nat_lt k i) refl, high (nat_lt k (i + n)) refl)
  where
    low : (b : Bool) → nat_lt k i ≡ b → i ≤ k
    low true t = let less : k < i = grind (arith, t) in let none = span_beyond k i n less in absurd (omega (arith, some, none))
    low false t = grind (arith, t)

    high : (b : Bool) → nat_lt k (i + n) ≡ b → k < i + n
    high true t = grind (arith, t)
    high false t =
        let more : i + n ≤ k = grind (arith, t) in let none = span_past k i n more in absurd (omega (arith, some, none))

-- a handshake of the result that occurs in a row is one of it
in_row : (h a n : ℕ) → 1 ≤ occurs (point places.Result h) (row places.Result a n) → h < a + n
in_row h a zero some = absurd (omega (arith, some))
in_row h a (suc n) some = by_rest (λ more. in_row h (suc a) n more)
  where
    by_rest : (1 ≤ occurs (point places.Result h) (row places.Result (suc a) n) → h < suc a + n) → h < a + suc n
    by_rest further =
        number_cases a h (λ same t. omega (arith, same))
        (λ other f.
        let none : once (point places.Result h) (point places.Result a) ≡ 0 = rw f refl in
        let less = further (omega (arith, some, none)) in
        omega (arith, less))

by_place : (types : Types) (i j : ℕ) (m : Numbered) (c : ℕ) (q : Place) (h : ℕ)
    → 1 ≤ occurs (point q h) (row places.Result 0 c) + tally q types i j m → IsOf types i j m c q h
by_place types i j m c (places.Part k) h some =
    let none = row_once (point (places.Part k) h) places.Result 0 c in
    let tells = part_tells k types i j m in
    in_span k i (length (parts_of types m)) (omega (arith, some, none, tells))
by_place types i j m c (places.Import k) h some =
    let none = row_once (point (places.Import k) h) places.Result 0 c in
    let tells = outside_tells (places.Import k) (λ n. omega arith) types i j m in
    omega (arith, some, none, tells)
by_place types i j m c places.Result h some =
    let tells = outside_tells places.Result (λ n. omega arith) types i j m in
    let less = in_row h 0 c (omega (arith, some, tells)) in
    omega (arith, less)
by_place types i j m c (places.Number k) h some =
    let none = row_once (point (places.Number k) h) places.Result 0 c in
    let tells = number_tells k types i j m in
    omega (arith, some, none, tells)
by_place types i j m c (places.Node k) h some =
    let none = row_once (point (places.Node k) h) places.Result 0 c in
    let tells = node_tells k types i j m in
    in_span k j (nodes m) (omega (arith, some, none, tells))

pub ties_stand : (types : Types) (i j : ℕ) (m : Numbered) (c : ℕ) (t : Tie) (q : Point)
    → (q ≡ t.one) ⊎ (q ≡ t.other) → Contains (ties_of types i j m (row places.Result 0 c)) t → IsOf types i j m c q.place q.shake
ties_stand types i j m c t q at has =
    let some = counted (ties_of types i j m (row places.Result 0 c)) t q at has in
    let most = tallied q types i j m (row places.Result 0 c) in
    by_place types i j m c q.place q.shake (omega (arith, some, most))
