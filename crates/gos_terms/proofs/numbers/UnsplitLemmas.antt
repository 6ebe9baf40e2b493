-- A node `m || n` of a typed term, or one that applies, has no splits: what is split would be free on both sides.
use Rattle.std.specs.Prelude.{◌≡◌, ℕ, ◌+◌, ◌-◌, ◌<◌, true, false, List, [], ◌∷◌, ◌++◌, length}
use Rattle.std.proofs.Common.{refl, sym, subst, arith, inl, inr}
use Rattle.gos_types.specs.Types.{Type', Var, type_of}
use Rattle.gos_model.specs.Terms as terms
use Rattle.gos_model.specs.Terms.{Term}
use Rattle.gos_model.specs.Typing.{Imports, Typed, Apart, Thing, Variable, Named, array_type}
use Rattle.gos_model.proofs.NumberLemmas.{either}
use Rattle.gos_check.specs.declared.linear.Split.{Split}
use Rattle.gos_check.specs.Nodes.{Numbered, Closed, Use, Under, One, Two, If, TwoForm, OfFun, OfNew, OfArray, OfFst, OfSnd, OfDeref, OfNot, OfApp, OfBoth, OfSeq, OfPar, OfWhile, OfAssign, OfBin, Meaning, meaning, below, inside, argument_of, node_seen}
use Rattle.gos_check.specs.Linearity.{times, used, made, sides, import_at}
use Rattle.gos_check.specs.Checked.{program_in}
use Rattle.gos_check.proofs.TimesLemmas.{times-append}
use Rattle.gos_compile.specs.Wiring.{Types, all_types}
use Rattle.gos_compile.specs.Typed.{CheckedIsTyped}
use Rattle.gos_terms.proofs.leaves.CountLemmas.{left_in, right_in}
use Rattle.gos_terms.proofs.leaves.LostLemmas.{is_loc, uses_stand, lost_in, lost}
use Rattle.gos_terms.proofs.leaves.StandLemmas.{none_lost}
use Rattle.gos_terms.specs.wired.Modules.{numbers_from}
use Rattle.gos_terms.specs.numbers.Kept.{IsKept}
use Rattle.gos_terms.specs.numbers.Inherited.{own_numbers, first_numbers}
use Rattle.gos_terms.specs.numbers.Unsplit.{Row, AtForks, ParallelUnsplit, AppliedUnsplit, CheckedIsUnsplit}
use Rattle.gos_terms.proofs.numbers.ApartLemmas.{side_comes}
use Rattle.gos_terms.proofs.numbers.InheritedLemmas.{body_is_kept, part_is_kept, both_are_kept, three_are_kept}
use Rattle.gos_terms.proofs.numbers.RootLemmas.{first_kept, checked_is_kept}
use Rattle.gos_terms.proofs.numbers.ReachLemmas.{reach_left, reach_right}
use Rattle.gos_terms.proofs.numbers.FreeLemmas.{IsThing, free, two_used, two_away}
use Rattle.gos_terms.proofs.leaves.WithinLemmas.{two_none}
use Rattle.gos_compile.proofs.BoundLemmas.{is_name, AreNames, below_names, inside_names, import_names}

-- numbers stand for variables, imports and locations alone
named : (m : Term) → is_name m ≡ true → is_loc m ≡ false → (th : Thing) × IsThing 0 m th
named (terms.Bound i) h stands = (Variable (i - 0), (omega arith, refl))
named (terms.Import x) h stands = (Named x, refl)
named (terms.Loc l) h stands = absurd (cc stands)
named m h stands = absurd (cc h)

-- what is split would be free on both sides
apart_unsplit : (types : Types) (ns : List ℕ) (t : Type') (ss : List Split) (f : TwoForm) (m n : Numbered) (env : Meaning) → IsKept types ns (Two t ss f m n)
    → AreNames env → lost_in env ss ≡ [] → Apart (meaning (inside ss env) m) (meaning (inside ss env) n) → ss ≡ []
apart_unsplit types ns t [] f m n env is names none apart = refl
apart_unsplit types ns t (s ∷ ss) f m n env is names none apart =
    let (first, second, rest) = both_are_kept types ns t (s ∷ ss) f m n is in
    let use_two = two_used types ns t (s ∷ ss) f m n is in
    let (a, c, u, same) = reach_left s ss env (λ j. times j (used m) + times j (used n)) use_two in
    let (b, d, v, again) = reach_right s ss env (λ j. times j (used m) + times j (used n)) use_two in
    let (th, thing) = named (env s.of) (names s.of) (first_kept env s ss none).0 in
    let thing_a : IsThing 0 (inside (s ∷ ss) env a) th = subst (λ (x : Term). IsThing 0 x th) (sym same) thing in
    let thing_b : IsThing 0 (inside (s ∷ ss) env b) th = subst (λ (x : Term). IsThing 0 x th) (sym again) thing in
    let away_a = unmade a (side_comes (s ∷ ss) s.left a c (left_in s (s ∷ ss) (inl refl))) in
    let away_b = unmade b (side_comes (s ∷ ss) s.right b d (right_in s (s ∷ ss) (inl refl))) in
    elim (either (times a (used m)) (times a (used n)) u) [
      | inl h ↦
          elim (either (times b (used m)) (times b (used n)) v) [
            | inl j ↦ absurd (is.apart.0 s a b (inl refl) c d h j)
            | inr j ↦ absurd (apart th
                (free types (first_numbers (s ∷ ss) ns (used n)) m (inside (s ∷ ss) env) 0 a th first.kept h away_a.0 thing_a)
                (free types (own_numbers (s ∷ ss) ns n) n (inside (s ∷ ss) env) 0 b th second.kept j away_b.1 thing_b))
          ]
      | inr h ↦
          elim (either (times b (used m)) (times b (used n)) v) [
            | inl j ↦ absurd (apart th
                (free types (first_numbers (s ∷ ss) ns (used n)) m (inside (s ∷ ss) env) 0 b th first.kept j away_b.0 thing_b)
                (free types (own_numbers (s ∷ ss) ns n) n (inside (s ∷ ss) env) 0 a th second.kept h away_a.1 thing_a))
            | inr j ↦ absurd (is.apart.1 s a b (inl refl) c d h j)
          ]
    ]
  where
    unmade : (k : ℕ) → 0 < times k (sides (s ∷ ss)) → (times k (made m) ≡ 0) × (times k (made n) ≡ 0)
    unmade k small =
        let none = two_away types ns t (s ∷ ss) f m n is k small in let two = times-append k (made m) (made n) in (omega (arith, none, two), omega (arith, none, two))

-- where three lists one after another are none, each is
three_none : (xs ys zs : List Split) → xs ++ (ys ++ zs) ≡ [] → (xs ≡ []) × (ys ≡ []) × (zs ≡ [])
three_none xs ys zs none =
    let (first, both) = two_none xs (ys ++ zs) none in
    let (second, third) = two_none ys zs both in
    (first, second, third)

-- of the forms whose parts have nothing in common
abbrev ApartUnsplit : Row
ApartUnsplit OfApp ss = ss ≡ []
ApartUnsplit OfPar ss = ss ≡ []
ApartUnsplit f ss = Unit {0}

unsplit : (types : Types) (ns : List ℕ) (m : Numbered) (i : Imports) (g : List Type') (env : Meaning) (t : Type') → IsKept types ns m
    → AreNames env → Typed i g (meaning env m) t → lost env m ≡ [] → AtForks ApartUnsplit m
unsplit types ns (Closed t ss c) i g env u is names typed none = tt
unsplit types ns (Use t ss n) i g env u is names typed none = tt
unsplit types ns (Under t ss OfFun n m) i g env u is names typed none =
    unsplit types (ns ++ n ∷ []) m i (argument_of t ∷ g) (below n (inside ss env)) typed.0 (body_is_kept types ns t ss OfFun n m is).1
    (below_names n (inside ss env) (inside_names ss env names)) typed.2 (two_none (lost_in env ss) (lost (below n (inside ss env)) m) none).1
unsplit types ns (Under t ss (OfNew w) n m) i g env u is names typed none =
    unsplit types (ns ++ n ∷ []) m i (Var w ∷ g) (below n (inside ss env)) u (body_is_kept types ns t ss (OfNew w) n m is).1
    (below_names n (inside ss env) (inside_names ss env names)) typed.2 (two_none (lost_in env ss) (lost (below n (inside ss env)) m) none).1
unsplit types ns (Under t ss (OfArray c w) n m) i g env u is names typed none =
    unsplit types (ns ++ n ∷ []) m i (array_type c w ∷ g) (below n (inside ss env)) u (body_is_kept types ns t ss (OfArray c w) n m is).1
    (below_names n (inside ss env) (inside_names ss env names)) typed.3 (two_none (lost_in env ss) (lost (below n (inside ss env)) m) none).1
unsplit types ns (One t ss OfFst m) i g env u is names typed none =
    unsplit types ns m i g (inside ss env) _ (part_is_kept types ns t ss OfFst m is).1.kept
    (inside_names ss env names) typed.1 (two_none (lost_in env ss) (lost (inside ss env) m) none).1
unsplit types ns (One t ss OfSnd m) i g env u is names typed none =
    unsplit types ns m i g (inside ss env) _ (part_is_kept types ns t ss OfSnd m is).1.kept
    (inside_names ss env names) typed.1 (two_none (lost_in env ss) (lost (inside ss env) m) none).1
unsplit types ns (One t ss OfDeref m) i g env u is names typed none =
    unsplit types ns m i g (inside ss env) _ (part_is_kept types ns t ss OfDeref m is).1.kept
    (inside_names ss env names) typed.2 (two_none (lost_in env ss) (lost (inside ss env) m) none).1
unsplit types ns (One t ss OfNot m) i g env u is names typed none =
    unsplit types ns m i g (inside ss env) _ (part_is_kept types ns t ss OfNot m is).1.kept
    (inside_names ss env names) typed.2 (two_none (lost_in env ss) (lost (inside ss env) m) none).1
unsplit types ns (Two t ss OfApp m n) i g env u is names typed none =
    let (row, one, other) = three_none (lost_in env ss) (lost (inside ss env) m) (lost (inside ss env) n) none in
    let (first, second, rest) = both_are_kept types ns t ss OfApp m n is in (
      apart_unsplit types ns t ss OfApp m n env is names row typed.3,
      unsplit types (first_numbers ss ns (used n)) m i g (inside ss env) _ first.kept (inside_names ss env names) typed.1 one,
      unsplit types (own_numbers ss ns n) n i g (inside ss env) _ second.kept (inside_names ss env names) typed.2 other,
    )
unsplit types ns (Two t ss OfBoth m n) i g env u is names typed none =
    let (row, one, other) = three_none (lost_in env ss) (lost (inside ss env) m) (lost (inside ss env) n) none in
    let (first, second, rest) = both_are_kept types ns t ss OfBoth m n is in (
      tt,
      unsplit types (first_numbers ss ns (used n)) m i g (inside ss env) _ first.kept (inside_names ss env names) typed.3 one,
      unsplit types (own_numbers ss ns n) n i g (inside ss env) _ second.kept (inside_names ss env names) typed.4 other,
    )
unsplit types ns (Two t ss OfSeq m n) i g env u is names typed none =
    let (row, one, other) = three_none (lost_in env ss) (lost (inside ss env) m) (lost (inside ss env) n) none in
    let (first, second, rest) = both_are_kept types ns t ss OfSeq m n is in (
      tt,
      unsplit types (first_numbers ss ns (used n)) m i g (inside ss env) _ first.kept (inside_names ss env names) typed.1 one,
      unsplit types (own_numbers ss ns n) n i g (inside ss env) _ second.kept (inside_names ss env names) typed.2 other,
    )
unsplit types ns (Two t ss OfPar m n) i g env u is names typed none =
    let (row, one, other) = three_none (lost_in env ss) (lost (inside ss env) m) (lost (inside ss env) n) none in
    let (first, second, rest) = both_are_kept types ns t ss OfPar m n is in (
      apart_unsplit types ns t ss OfPar m n env is names row typed.3,
      unsplit types (first_numbers ss ns (used n)) m i g (inside ss env) _ first.kept (inside_names ss env names) typed.1 one,
      unsplit types (own_numbers ss ns n) n i g (inside ss env) _ second.kept (inside_names ss env names) typed.2 other,
    )
unsplit types ns (Two t ss OfWhile m n) i g env u is names typed none =
    let (row, one, other) = three_none (lost_in env ss) (lost (inside ss env) m) (lost (inside ss env) n) none in
    let (first, second, rest) = both_are_kept types ns t ss OfWhile m n is in (
      tt,
      unsplit types (first_numbers ss ns (used n)) m i g (inside ss env) _ first.kept (inside_names ss env names) typed.1 one,
      unsplit types (own_numbers ss ns n) n i g (inside ss env) _ second.kept (inside_names ss env names) typed.2 other,
    )
unsplit types ns (Two t ss OfAssign m n) i g env u is names typed none =
    let (row, one, other) = three_none (lost_in env ss) (lost (inside ss env) m) (lost (inside ss env) n) none in
    let (first, second, rest) = both_are_kept types ns t ss OfAssign m n is in (
      tt,
      unsplit types (first_numbers ss ns (used n)) m i g (inside ss env) _ first.kept (inside_names ss env names) typed.2 one,
      unsplit types (own_numbers ss ns n) n i g (inside ss env) _ second.kept (inside_names ss env names) typed.3 other,
    )
unsplit types ns (Two t ss (OfBin op) m n) i g env u is names typed none =
    let (row, one, other) = three_none (lost_in env ss) (lost (inside ss env) m) (lost (inside ss env) n) none in
    let (first, second, rest) = both_are_kept types ns t ss (OfBin op) m n is in (
      tt,
      unsplit types (first_numbers ss ns (used n)) m i g (inside ss env) _ first.kept (inside_names ss env names) typed.2 one,
      unsplit types (own_numbers ss ns n) n i g (inside ss env) _ second.kept (inside_names ss env names) typed.3 other,
    )
unsplit types ns (If t ss m n p) i g env u is names typed none =
    let three = (two_none (lost_in env ss) (lost (inside ss env) m ++ (lost (inside ss env) n ++ lost (inside ss env) p)) none).1 in
    let (one, other, last) = three_none (lost (inside ss env) m) (lost (inside ss env) n) (lost (inside ss env) p) three in
    let (first, second, third, rest) = three_are_kept types ns t ss m n p is in (
      unsplit types (first_numbers ss ns (used n ++ used p)) m i g (inside ss env) _ first.kept (inside_names ss env names) typed.1 one,
      unsplit types (own_numbers ss ns n) n i g (inside ss env) _ second.kept (inside_names ss env names) typed.2 other,
      unsplit types (own_numbers ss ns p) p i g (inside ss env) _ third.kept (inside_names ss env names) typed.3 last,
    )

weaker : (P Q : Row) → ((f : TwoForm) (ss : List Split) → P f ss → Q f ss) → (m : Numbered) → AtForks P m → AtForks Q m
weaker P Q w (Closed t ss c) h = tt
weaker P Q w (Use t ss n) h = tt
weaker P Q w (Under t ss b n m) h = weaker P Q w m h
weaker P Q w (One t ss f m) h = weaker P Q w m h
weaker P Q w (Two t ss f m n) h = (w f ss h.0, weaker P Q w m h.1, weaker P Q w n h.2)
weaker P Q w (If t ss m n p) h = (weaker P Q w m h.0, weaker P Q w n h.1, weaker P Q w p h.2)

parallel : (f : TwoForm) (ss : List Split) → ApartUnsplit f ss → ParallelUnsplit f ss
parallel OfPar ss h = h
parallel OfApp ss h = tt
parallel OfBoth ss h = tt
parallel OfSeq ss h = tt
parallel OfWhile ss h = tt
parallel OfAssign ss h = tt
parallel (OfBin op) ss h = tt

applied : (f : TwoForm) (ss : List Split) → ApartUnsplit f ss → AppliedUnsplit f ss
applied OfPar ss h = tt
applied OfApp ss h = h
applied OfBoth ss h = tt
applied OfSeq ss h = tt
applied OfWhile ss h = tt
applied OfAssign ss h = tt
applied (OfBin op) ss h = tt

pub checked_is_unsplit : CheckedIsTyped → CheckedIsUnsplit
checked_is_unsplit law l c =
    let uses = uses_stand (program_in l).imports [] (import_at (program_in l).imports) (node_seen l.term) (type_of l.result) c.typed in
    let none = none_lost (program_in l).imports (node_seen l.term) uses c.term.made_once c.term.no_import c.term.sides_used in
    let both =
    unsplit (all_types (program_in l).imports (node_seen l.term)) (numbers_from 0 (length (program_in l).imports)) (node_seen l.term)
    (program_in l).imports [] (import_at (program_in l).imports) (type_of l.result) (checked_is_kept law l c)
    (import_names (program_in l).imports) c.typed none in
    (weaker ApartUnsplit ParallelUnsplit parallel (node_seen l.term) both, weaker ApartUnsplit AppliedUnsplit applied (node_seen l.term) both)
