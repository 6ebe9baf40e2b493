use Rattle.std.proofs.Common.{arith, sym, ◌∙◌, subst, ◌≡◌, ◌<◌, ◌-◌, ℕ, suc, length, List, [], ◌∷◌, drop, slice_index_or}
use Rattle.std.proofs.Math.Seq.{drop-cons}
use Rattle.std.proofs.lemmas.List.{drop_all}
use Rattle.gos_ties.specs.declared.joining.Bond.{Bond}
use Rattle.gos_ties.specs.inner.Joined.{far_at, bond}
use Rattle.gos_ties.proofs.JoinLemmas.{AreClassed, classed_alone, one_joined, far_of_classed, joined_below, below_at}
use Rattle.gos_ties.proofs.joining.far_ends.Goals as goal

pub loop-k-init : goal.loop-k-init
loop-k-init c =
    let size : length c.in_ok-far.far.items ≡ c.args.n = c.in_ok-far.ensures.length in
    let own : (p : ℕ) → far_at c.in_ok-far.far.items p ≡ p = c.in_ok-far.ensures.each in
    let none : drop (length c.args.bonds.now) c.args.bonds.now ≡ [] = drop_all (length c.args.bonds.now) c.args.bonds.now (omega arith) in (
      omega arith,
      size,
      (λ p low. rw (own p) low),
      subst (λ (ts : List Bond). AreClassed ts (far_at c.in_ok-far.far.items)) (sym none) (classed_alone (far_at c.in_ok-far.far.items) own),
    )

pub join-requires-clause-one : goal.join-requires-clause-one
join-requires-clause-one c =
    let within : c.loop-k.k - 1 < length c.args.bonds.now = omega (arith, c.loop-k-test.true, c.loop-k.invariant.0) in
    let low = below_at c.args.n c.args.bonds.now (c.loop-k.k - 1) (slice_index_or c.args.bonds.now (c.loop-k.k - 1) (bond 0 0))
    (drop (suc (c.loop-k.k - 1)) c.args.bonds.now) c.requires.below (drop-cons c.args.bonds.now (c.loop-k.k - 1) (bond 0 0) within)
    in
    omega (arith, low.0, c.loop-k.invariant.1)

pub join-requires-clause-other : goal.join-requires-clause-other
join-requires-clause-other c =
    let within : c.loop-k.k - 1 < length c.args.bonds.now = omega (arith, c.loop-k-test.true, c.loop-k.invariant.0) in
    let low = below_at c.args.n c.args.bonds.now (c.loop-k.k - 1) (slice_index_or c.args.bonds.now (c.loop-k.k - 1) (bond 0 0))
    (drop (suc (c.loop-k.k - 1)) c.args.bonds.now) c.requires.below (drop-cons c.args.bonds.now (c.loop-k.k - 1) (bond 0 0) within)
    in
    omega (arith, low.1, c.loop-k.invariant.1)

pub loop-k-preserved : goal.loop-k-preserved
loop-k-preserved c =
    let (inside, size, range, classed) = c.loop-k.invariant in
    let positive = c.loop-k-test.true in
    let k : ℕ = c.loop-k.k in
    let within : k - 1 < length c.args.bonds.now = omega (arith, positive, inside) in
    let t : Bond = slice_index_or c.args.bonds.now (k - 1) (bond 0 0) in
    let here : drop (k - 1) c.args.bonds.now ≡ t ∷ drop (suc (k - 1)) c.args.bonds.now = drop-cons c.args.bonds.now (k - 1) (bond 0 0) within in
    let low = below_at c.args.n c.args.bonds.now (k - 1) t (drop (suc (k - 1)) c.args.bonds.now) c.requires.below here in
    let before : k ≡ suc (k - 1) = omega (arith, positive) in (
      omega (arith, inside),
      c.join.ensures.length ∙ size,
      joined_below t (far_at c.loop-k.far.items) (far_at c.join.new.far.items) c.args.n low.0 low.1 range c.join.ensures.each,
      one_joined c.args.bonds.now (k - 1) t (far_at c.loop-k.far.items) (far_at c.join.new.far.items) here c.requires.few
          (subst (λ (j : ℕ). AreClassed (drop j c.args.bonds.now) (far_at c.loop-k.far.items)) before classed) c.join.ensures.each,
    )

pub returns-clause-far : goal.returns-clause-far
returns-clause-far c =
    let zero : c.loop-k.k ≡ 0 = omega (arith, c.loop-k-test.false) in
    let (inside, size, range, classed) = c.loop-k.invariant in
    far_of_classed c.args.bonds.now (far_at c.loop-k.far.items)
    (subst (λ (j : ℕ). AreClassed (drop j c.args.bonds.now) (far_at c.loop-k.far.items)) zero classed)
