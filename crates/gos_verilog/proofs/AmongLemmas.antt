-- Items of which one may stand at a place: where none does, what begins like one breaks off at the furthest place.
use Rattle.std.proofs.Common.{◌≡◌, ◌⊎◌, inl, inr, ℕ, zero, suc, ◌+◌, ◌<◌, ◌≤◌, List, ◌++◌, length, refl, sym, ◌∙◌, ap, subst, arith, append_assoc}
use Rattle.std.specs.List.{slice_range}
use Rattle.std.proofs.lemmas.Bool.{cases_lt}
use Rattle.gos_lex.specs.Items.{Misses}
use Rattle.gos_lex.proofs.PlaceLemmas.{slice_split}
use Rattle.gos_lex.proofs.SequenceLemmas.{misses_as}
use Rattle.gos_verilog.specs.inner.Breaks.{Left, Either, Among, AllMiss}

-- of two items the one that breaks off further
further_misses : (P Q : Left) (text : List ℕ) (at a b : ℕ) → a ≤ b → Misses P text at a → Misses Q text at b → Misses (Either P Q) text at b
further_misses P Q text at a b order one other =
    record {
      stops = record {
        after = other.stops.after;
        within = other.stops.within;
        before = (other.stops.before.0, inr other.stops.before.1);
        stops = λ some longer. by some longer.0 longer.1;
      };
      none = λ end above within is. elim is [ inl p ↦ one.none end above within p | inr q ↦ other.none end above within q ];
    }
  where
    by : b < length text → (more : List ℕ) → Either P Q (slice_range text at (b + 1) ++ more) → ⊥
    by some more (inl p) =
        let split = slice_split text at (a + 1) (b + 1) (omega (arith, one.stops.after)) (omega (arith, order)) in
        let rest : List ℕ = slice_range text (a + 1) (b + 1) in
        let whole : slice_range text at (b + 1) ++ more ≡ slice_range text at (a + 1) ++ (rest ++ more) =
        ap (λ part. part ++ more) split ∙ append_assoc (slice_range text at (a + 1)) rest more in
        one.stops.stops (omega (arith, some, order)) (rest ++ more, subst P whole p)
    by some more (inr q) = other.stops.stops some (more, q)

swap : (P Q : Left) (x : List ℕ) → Either P Q x → Either Q P x
swap P Q x (inl p) = inr p
swap P Q x (inr q) = inl q

pub either_misses : (P Q : Left) (text : List ℕ) (at a b r : ℕ) → a ≤ r → b ≤ r → (r ≡ a) ⊎ (r ≡ b) → Misses P text at a → Misses Q text at b → Misses (Either P Q) text at r
either_misses P Q text at a b r over_a over_b (inl is) one other =
    misses_as (Either Q P) (Either P Q) text at r (swap Q P) (swap P Q) (subst (Misses (Either Q P) text at) (sym is) (further_misses Q P text at b a (omega (arith, is, over_b)) other one))
either_misses P Q text at a b r over_a over_b (inr is) one other =
    subst (Misses (Either P Q) text at) (sym is) (further_misses P Q text at a b (omega (arith, is, over_a)) one other)

-- one more
pub among_first : (P : ℕ → Left) (text : List ℕ) (at p : ℕ) → Misses (P 0) text at p → Misses (Among P 1) text at p
among_first P text at p misses =
    misses_as (P 0) (Among P 1) text at p (λ bytes is. (0, omega arith, is))
    (λ bytes item. let first : item.0 ≡ 0 = omega (arith, item.1) in subst (λ (j : ℕ). P j bytes) first item.2) misses

among_or : (P : ℕ → Left) (k : ℕ) (bytes : List ℕ) → Among P (k + 1) bytes → Either (Among P k) (P k) bytes
among_or P k bytes item =
    elim (cases_lt item.0 k) [
      | inl before ↦ inl (item.0, before, item.2)
      | inr not_before ↦ let last : item.0 ≡ k = omega (arith, item.1, not_before) in inr (subst (λ (j : ℕ). P j bytes) last item.2)
    ]

or_among : (P : ℕ → Left) (k : ℕ) (bytes : List ℕ) → Either (Among P k) (P k) bytes → Among P (k + 1) bytes
or_among P k bytes (inl item) = (item.0, omega (arith, item.1), item.2)
or_among P k bytes (inr is) = (k, omega arith, is)

pub one_more_misses : (P : ℕ → Left) (text : List ℕ) (at k furthest p r : ℕ) → AllMiss P text at k furthest → Misses (P k) text at p → furthest ≤ r → p ≤ r → (r ≡ furthest) ⊎ (r ≡ p)
    → AllMiss P text at (k + 1) r
one_more_misses P text at k furthest p r far misses over_far over_p max =
    record { none = λ nothing. absurd (omega (arith, nothing)); some = λ _. by k refl }
  where
    least : r ≡ furthest ⊎ (r ≡ p) → k ≡ 0 → r ≡ p
    least (inl is) none = let start = far.none none in omega (arith, is, start, over_p, misses.stops.after)
    least (inr is) none = is

    by : (n : ℕ) → k ≡ n → Misses (Among P (k + 1)) text at r
    by zero is =
        subst (λ (n : ℕ). Misses (Among P (n + 1)) text at r) (sym is)
        (among_first P text at r (subst (λ (q : ℕ). Misses (P 0) text at q) (sym (least max is)) (subst (λ (n : ℕ). Misses (P n) text at p) is misses)))
    by (suc n) is =
        misses_as (Either (Among P k) (P k)) (Among P (k + 1)) text at r (or_among P k) (among_or P k)
        (either_misses (Among P k) (P k) text at furthest p r over_far over_p max (far.some (omega (arith, is))) misses)

-- one that is out of the question
pub one_more_never : (P : ℕ → Left) (text : List ℕ) (at k furthest : ℕ) → 0 < k → AllMiss P text at k furthest → ((bytes : List ℕ) → P k bytes → ⊥) → AllMiss P text at (k + 1) furthest
one_more_never P text at k furthest some far never =
    record {
      none = λ nothing. absurd (omega (arith, nothing));
      some = λ _.
          misses_as (Among P k) (Among P (k + 1)) text at furthest (λ bytes item. (item.0, omega (arith, item.1), item.2))
          (λ bytes item. elim (among_or P k bytes item) [ inl before ↦ before | inr last ↦ absurd (never bytes last) ]) (far.some some);
    }

-- items that are those of the k
pub among_as : (P : ℕ → Left) (Q : Left) (text : List ℕ) (at k furthest : ℕ) → 0 < k → ((j : ℕ) (bytes : List ℕ) → j < k → P j bytes → Q bytes) → ((bytes : List ℕ) → Q bytes → Among P k bytes)
    → AllMiss P text at k furthest → Misses Q text at furthest
among_as P Q text at k furthest some to from far = misses_as (Among P k) Q text at furthest (λ bytes item. to item.0 bytes item.1 item.2) from (far.some some)
