-- The points of a term's ties are within it: each is counted there.
use Rattle.std.specs.Prelude.{◌+◌, ◌<◌, ◌≤◌, ◌⊎◌, length, nat_eq, Contains}
use Rattle.std.proofs.Common.{◌≡◌, ℕ, zero, suc, false, List, [], ◌∷◌, inl, inr, refl, sym, subst, arith}
use Rattle.std.proofs.lemmas.Bool.{ne_eqb, cases_lt}
use Rattle.gos_check.specs.Nodes.{Numbered}
use Rattle.gos_ties.specs.declared.points.Place.{Place}
use Rattle.gos_ties.specs.declared.points.Place.TheVariants as places
use Rattle.gos_ties.specs.declared.points.Point.{Point}
use Rattle.gos_ties.specs.declared.points.Tie.{Tie}
use Rattle.gos_ties.specs.Ties.{point}
use Rattle.gos_ties.specs.Counted.{once, meetings}
use Rattle.gos_ties.proofs.ThinLemmas.{once_itself}
use Rattle.gos_compile.specs.Wiring.{Types, row, parts_of, nodes, ties_of}
use Rattle.gos_compile.proofs.TallyLemmas.{occurs, row_once, tally, tallied}
use Rattle.gos_compile.proofs.ThinLemmas.{part_tells, node_tells, number_tells, outside_tells}
use Rattle.gos_terms.specs.stages.Ranges.{IsWithin, TiesStayWithin}
use Rattle.gos_terms.proofs.applying.StandLemmas.{in_span}

met : (p : Point) (ts : List Tie) (t : Tie) → Contains ts t → 1 ≤ once p t.one + once p t.other → 1 ≤ meetings p ts
met p [] t (k, lt, e) some = absurd (omega (arith, lt))
met p (u ∷ ts) t (zero, lt, e) some =
    let here = subst (λ (v : Tie). 1 ≤ once p v.one + once p v.other) (sym e) some in omega (arith, here)
met p (u ∷ ts) t (suc k, lt, e) some = let rest = met p ts t (k, omega (arith, lt), e) some in omega (arith, rest)

-- a row has no point beyond its end
past_row : (q : Point) (place : Place) (b n : ℕ) → b + n ≤ q.shake → occurs q (row place b n) ≡ 0
past_row q place b zero le = refl
past_row q place b (suc n) le =
    let rest = past_row q place (suc b) n (omega (arith, le)) in
    let none : nat_eq b q.shake ≡ false = ne_eqb b q.shake (λ e. let same : b ≡ q.shake = e in omega (arith, same, le)) in
    rw none (omega (arith, rest))

module _ (types : Types) (i j : ℕ) (m : Numbered) (n : ℕ) where
  counted : (p : Place) (h : ℕ) → 1 ≤ occurs (point p h) (row places.Result 0 n) + tally p types i j m → IsWithin types i j m n p h
  counted (places.Part k) h some =
      let few = row_once (point (places.Part k) h) places.Result 0 n in
      let tells = part_tells k types i j m in
      in_span k i (length (parts_of types m)) (omega (arith, some, few, tells))
  counted (places.Import k) h some =
      let few = row_once (point (places.Import k) h) places.Result 0 n in
      let none = outside_tells (places.Import k) (λ a. refl) types i j m in
      omega (arith, some, few, none)
  counted places.Result h some = upto (cases_lt h n)
    where
      upto : (h < n) ⊎ (n ≤ h) → h < n
      upto (inl low) = low
      upto (inr high) =
          let none = past_row (point places.Result h) places.Result 0 n (omega (arith, high)) in
          let no = outside_tells places.Result (λ a. refl) types i j m in
          absurd (omega (arith, some, none, no))
  counted (places.Number k) h some =
      let few = row_once (point (places.Number k) h) places.Result 0 n in
      let tells = number_tells k types i j m in
      omega (arith, some, few, tells)
  counted (places.Node k) h some =
      let few = row_once (point (places.Node k) h) places.Result 0 n in
      let tells = node_tells k types i j m in
      in_span k j (nodes m) (omega (arith, some, few, tells))

  within_so : (p : Point) → 1 ≤ meetings p (ties_of types i j m (row places.Result 0 n)) → IsWithin types i j m n p.place p.shake
  within_so p some = let all = tallied p types i j m (row places.Result 0 n) in counted p.place p.shake (omega (arith, all, some))

pub ties_stay_within : TiesStayWithin
ties_stay_within types i j m n t has =
    let one = once_itself t.one in
    let other = once_itself t.other in (
      within_so types i j m n t.one (met t.one (ties_of types i j m (row places.Result 0 n)) t has (omega (arith, one))),
      within_so types i j m n t.other (met t.other (ties_of types i j m (row places.Result 0 n)) t has (omega (arith, other))),
    )
