-- Lists of nets in which one stands twice: a chain of nets that is longer than the list of cells has a cycle.
use Rattle.std.specs.Prelude.{◌≡◌, ◌≢◌, ℕ, zero, suc, ◌<◌, ◌≤◌, Bool, true, false, ◌⊎◌, List, [], ◌∷◌, ◌++◌, length, Contains}
use Rattle.std.specs.List.{AllByRecursion, IsDistinct, list_any}
use Rattle.std.proofs.Common.{arith, refl, sym, ap, subst, inl, inr, length-append}
use Rattle.std.proofs.Math.Dec.{eqb}
use Rattle.std.proofs.lemmas.Bool.{eqb-true, eqb-false}
use Rattle.std.proofs.lemmas.Option.{slice_get_within}
use Rattle.std.proofs.lemmas.Map.Steps.{length-le_from_distinct_below}
use Rattle.gos_netlist.specs.Nets.{Cell}
use Rattle.gos_netlist.specs.Cycles.{Feeds, Chain, Distinct, CombinationalCycle}

-- a is no member of the list
abbrev pub Away : ℕ → List ℕ → Type 0
Away a [] = Unit {0}
Away a (b ∷ ns) = (a ≢ b) × Away a ns

-- no member stands twice
abbrev pub Apart : List ℕ → Type 0
Apart [] = Unit {0}
Apart (a ∷ ns) = Away a ns × Apart ns

-- all members are below n
abbrev pub Below : ℕ → List ℕ → Type 0
Below n [] = Unit {0}
Below n (a ∷ ns) = (a < n) × Below n ns

by_test : (a b : ℕ) (t : Bool) → eqb a b ≡ t → (a ≡ b) ⊎ (a ≢ b)
by_test a b true e = inl (eqb-true a b e)
by_test a b false e = inr (eqb-false a b e)

pub same_or_not : (a b : ℕ) → (a ≡ b) ⊎ (a ≢ b)
same_or_not a b = by_test a b (eqb a b) refl

differs_by : (a b : ℕ) (t : Bool) → eqb a b ≡ t → a ≢ b → eqb a b ≡ false
differs_by a b true e h = absurd (h (eqb-true a b e))
differs_by a b false e h = e

away_contains : (a : ℕ) (ns : List ℕ) → Away a ns → Contains ns a → ⊥
away_contains a [] h (k, l, e) = omega (arith, l)
away_contains a (b ∷ ns) h (zero, l, e) = h.0 (sym e)
away_contains a (b ∷ ns) h (suc k, l, e) = away_contains a ns h.1 (k, omega (arith, l), e)

distinct : (ns : List ℕ) → Apart ns → Distinct ns
distinct [] h = tt
distinct (a ∷ ns) h = (away_contains a ns h.0, distinct ns h.1)

tests_differ : (a : ℕ) (ns : List ℕ) → Away a ns → AllByRecursion (λ b. eqb a b ≡ false) ns
tests_differ a [] h = tt
tests_differ a (b ∷ ns) h = (differs_by a b (eqb a b) refl h.0, tests_differ a ns h.1)

is_distinct : (ns : List ℕ) → Apart ns → IsDistinct eqb ns
unfolding IsDistinct
is_distinct [] h = tt
is_distinct (a ∷ ns) h = (tests_differ a ns h.0, is_distinct ns h.1)

any_below : (n q : ℕ) (ns : List ℕ) → Below n ns → list_any (eqb q) ns ≡ true → q < n
any_below n q [] h e = absurd cc
any_below n q (b ∷ ns) h e = at_head (eqb q b) refl (λ rest. any_below n q ns h.1 rest)
  where
    at_head : (t : Bool) → eqb q b ≡ t → (list_any (eqb q) ns ≡ true → q < n) → q < n
    at_head true same rest = subst (λ (m : ℕ). m < n) (sym (eqb-true q b same)) h.0
    at_head false differ rest = rest (rw differ at e)

-- of different numbers below n there are at most n
few : (n : ℕ) (ns : List ℕ) → Apart ns → Below n ns → length ns ≤ n
few n ns apart below = length-le_from_distinct_below ns n (is_distinct ns apart) (λ q e. any_below n q ns below e)

away_prefix : (a : ℕ) (xs ys : List ℕ) → Away a (xs ++ ys) → Away a xs
away_prefix a [] ys h = tt
away_prefix a (x ∷ xs) ys h = (h.0, away_prefix a xs ys h.1)

-- a chain from b to a net that stands after it, with no net twice between them
record Meeting (cells : List Cell) (b a : ℕ) (rest : List ℕ) : Type 0 where
  before : List ℕ
  after : List ℕ
  chain : Chain cells (b ∷ before) a
  away : Away a before
  apart : Apart before
  split : rest ≡ before ++ after

meets : (cells : List Cell) (b : ℕ) (ns : List ℕ) (z a : ℕ) → Apart (ns ++ z ∷ []) → Chain cells (b ∷ ns) z
    → Meeting cells b a (ns ++ z ∷ []) ⊎ Away a (ns ++ z ∷ [])
meets cells b [] z a apart chain = at_end (same_or_not a z)
  where
    at_end : (a ≡ z) ⊎ (a ≢ z) → Meeting cells b a (z ∷ []) ⊎ Away a (z ∷ [])
    at_end (inl e) = inl (record { before = []; after = z ∷ []; chain = subst (Feeds cells b) (sym e) chain; away = tt; apart = tt; split = refl })
    at_end (inr h) = inr (h, tt)
meets cells b (c ∷ ns) z a apart chain = at_next (same_or_not a c) (meets cells c ns z a apart.1 chain.1)
  where
    at_next : (a ≡ c) ⊎ (a ≢ c) → Meeting cells c a (ns ++ z ∷ []) ⊎ Away a (ns ++ z ∷ [])
        → Meeting cells b a (c ∷ ns ++ z ∷ []) ⊎ Away a (c ∷ ns ++ z ∷ [])
    at_next (inl e) m =
        inl (record { before = []; after = c ∷ ns ++ z ∷ []; chain = subst (Feeds cells b) (sym e) chain.0; away = tt; apart = tt; split = refl })
    at_next (inr h) (inl m) =
        inl (record {
          before = c ∷ m.before;
          after = m.after;
          chain = (chain.0, m.chain);
          away = (h, m.away);
          apart = (away_prefix c m.before m.after (subst (Away c) m.split apart.0), m.apart);
          split = ap (λ xs. c ∷ xs) m.split;
        })
    at_next (inr h) (inr away) = inr (h, away)

-- a chain has a cycle, or no net stands twice in it
cycle_or_apart : (cells : List Cell) (ns : List ℕ) (z : ℕ) → Chain cells ns z
    → ((cycle : List ℕ) × CombinationalCycle cells cycle) ⊎ Apart (ns ++ z ∷ [])
cycle_or_apart cells [] z chain = inr (tt, tt)
cycle_or_apart cells (a ∷ ns) z chain = from_tail (cycle_or_apart cells ns z (tail ns chain))
  where
    tail : (ns : List ℕ) → Chain cells (a ∷ ns) z → Chain cells ns z
    tail [] chain = tt
    tail (b ∷ ns) chain = chain.1

    at_head : Apart (ns ++ z ∷ []) → Meeting cells a a (ns ++ z ∷ []) ⊎ Away a (ns ++ z ∷ [])
        → ((cycle : List ℕ) × CombinationalCycle cells cycle) ⊎ Apart (a ∷ ns ++ z ∷ [])
    at_head apart (inl m) = inl (a ∷ m.before, (distinct (a ∷ m.before) (m.away, m.apart), m.chain))
    at_head apart (inr away) = inr (away, apart)

    from_tail : ((cycle : List ℕ) × CombinationalCycle cells cycle) ⊎ Apart (ns ++ z ∷ [])
        → ((cycle : List ℕ) × CombinationalCycle cells cycle) ⊎ Apart (a ∷ ns ++ z ∷ [])
    from_tail (inl cycle) = inl cycle
    from_tail (inr apart) = at_head apart (meets cells a ns z a apart chain)

chain_below : (cells : List Cell) (a : ℕ) (ns : List ℕ) (z : ℕ) → Chain cells (a ∷ ns) z → Below (length cells) (a ∷ ns ++ z ∷ [])
chain_below cells a [] z (c, e, first, second, register, named) = (slice_get_within cells a c first, (slice_get_within cells z e second, tt))
chain_below cells a (b ∷ ns) z ((c, e, first, second, register, named), chain) = (slice_get_within cells a c first, chain_below cells b ns z chain)

-- a chain of as many nets as there are cells, and one more, has a cycle
pub long_chain_has_cycle : (cells : List Cell) (a : ℕ) (ns : List ℕ) (z : ℕ) → Chain cells (a ∷ ns) z → length cells ≤ length (a ∷ ns)
    → (cycle : List ℕ) × CombinationalCycle cells cycle
long_chain_has_cycle cells a ns z chain long = decide (cycle_or_apart cells (a ∷ ns) z chain)
  where
    decide : ((cycle : List ℕ) × CombinationalCycle cells cycle) ⊎ Apart (a ∷ ns ++ z ∷ []) → (cycle : List ℕ) × CombinationalCycle cells cycle
    decide (inl cycle) = cycle
    decide (inr apart) =
        let most = few (length cells) (a ∷ ns ++ z ∷ []) apart (chain_below cells a ns z chain) in
        absurd (omega (arith, most, long, length-append (a ∷ ns) (z ∷ [])))
