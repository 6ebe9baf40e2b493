-- The pair: it realises its term, and is regular and rests, where its children do.
use Rattle.std.specs.Prelude.{◌≡◌, ℕ, ◌+◌, ◌≤◌, Bool, true, false, List, [], ◌++◌, All}
use Rattle.std.proofs.Common.{sym, subst, arith}
use Rattle.gos_types.specs.Types.{Type', Pair}
use Rattle.gos_model.specs.Typing.{Typed}
use Rattle.gos_check.specs.declared.linear.Split.{Split}
use Rattle.gos_check.specs.Nodes.{Numbered, Two, OfBoth, inside, meaning, type_of_node}
use Rattle.gos_check.specs.Linearity.{times, split_in, sides, used, made}
use Rattle.gos_check.proofs.TimesLemmas.{times-append}
use Rattle.gos_plan.specs.Kinds.{Part}
use Rattle.gos_plan.specs.Plans.{Plan}
use Rattle.gos_plan.specs.TokenBits.{LiteralFits}
use Rattle.gos_realises.specs.realises.Regular.{IsRegular}
use Rattle.gos_realises.specs.realises.Realises.{NamesDiffer, Realises}
use Rattle.gos_joining.specs.webs.Webs.{Tie}
use Rattle.gos_supplies.specs.turns.Rests.{Rests}
use Rattle.gos_compile.specs.Wiring.{Types}
use Rattle.gos_terms.specs.wired.Wired.{Supplies, Placing, IsWired, AreRealised, terms_of}
use Rattle.gos_terms.specs.wired.NodeFitting.{AreOfTypes}
use Rattle.gos_terms.specs.wired.Regular.{AreRegular, RegularWired}
use Rattle.gos_terms.proofs.wired.NodeFitLemmas.{realised_are_of_types}
use Rattle.gos_terms.specs.stages.Inside.{numbers_inside, AreOrdered, InsideIsRealised}
use Rattle.gos_terms.specs.stages.Folding.{Child, IsChild, IsLaid}
use Rattle.gos_terms.specs.stages.Regions.{HasParts, IsStaged}
use Rattle.gos_terms.proofs.stages.InsideLemmas.{realised_are_ordered}
use Rattle.gos_terms.specs.meanings.Meanings.{HasLeaves}
use Rattle.gos_terms.specs.numbers.Kept.{IsKept}
use Rattle.gos_terms.specs.numbers.Inherited.{own_numbers, first_numbers, IsPart}
use Rattle.gos_terms.proofs.numbers.ListLemmas.{times_inside}
use Rattle.gos_terms.proofs.numbers.InheritedLemmas.{both_are_kept}
use Rattle.gos_terms.specs.ground_forms.Cases.{RealisesWired}
use Rattle.gos_terms.proofs.ground_forms.ChildLemmas.{child_realises}
use Rattle.gos_terms.proofs.ground_forms.WiredLemmas.{imports_are_ports}
use Rattle.gos_nodes.specs.products.Both.{Side, IsBoth, BothIsRegular}
use Rattle.gos_nodes.specs.products.Realised.{SidesRealiseBoth}
use Rattle.gos_terms.specs.run_children.Forks.{Branch}
use Rattle.gos_terms.specs.pair_forms.Cases.{RealisedIsRegular, BothCase, BothIsSteady}
use Rattle.gos_terms.proofs.stages.ChildImportLemmas.{child_is_steady}
use Rattle.gos_terms.proofs.pair_forms.PairLemmas.{half, child, ties, is_child, all_parts, has_parts, laid, found, side, is_both}

module _ (types : Types) (ns : List ℕ) (ss : List Split) (m n : Numbered) (kept : IsKept types ns (Two (Pair (type_of_node m) (type_of_node n)) ss OfBoth m n)) where
  abbrev node : Numbered
  node = Two (Pair (type_of_node m) (type_of_node n)) ss OfBoth m n

  abbrev ms : List ℕ
  ms = first_numbers ss ns (used n)

  abbrev ks : List ℕ
  ks = own_numbers ss ns n

  abbrev parts : IsPart types ss ns ms m × IsPart types ss ns ks n
      × ((k : ℕ) → times k (split_in ss) ≡ 0 → times k ms + times k ks ≡ times k (numbers_inside ss ns))
  parts = both_are_kept types ns (Pair (type_of_node m) (type_of_node n)) ss OfBoth m n kept

  once : (k : ℕ) → times k (made m) + times k (made n) + times k (numbers_inside ss ns) ≤ 1
  once k =
      let one = kept.once k in
      let inner = times_inside k ss ns in
      let two = times-append k (sides ss) (made m ++ made n) in
      let three = times-append k (made m) (made n) in
      omega (arith, one, inner, two, three)

  module _ (i j : ℕ) (env : Supplies) (pl : Placing) (r : Plan) (wired : IsWired types i j node ns env pl r) (differ : NamesDiffer r.imports)
      (fit : All LiteralFits r.parts)
      (supplies : AreOfTypes types env ns) where
    abbrev half_at : Bool → Branch
    half_at p = half types i j ss m n ms ks ns env pl r parts.0 parts.1 parts.2 once wired supplies p

    abbrev child_at : Bool → Child
    child_at p = child types i j ss m n ms ks ns env pl r parts.0 parts.1 parts.2 once wired supplies p

    abbrev node_ties : List Tie
    node_ties = ties types i j ss m n ms ks ns env pl r parts.0 parts.1 parts.2 once wired supplies

    abbrev node_parts : List Part
    node_parts = all_parts types i j ss m n ms ks ns env pl r parts.0 parts.1 parts.2 once wired supplies

    child_so : (p : Bool) → IsChild (child_at p) node_ties
    child_so p = is_child types i j ss m n ms ks ns env pl r parts.0 parts.1 parts.2 once wired supplies p

    parts_so : (p : Bool) → HasParts (child_at p) node_parts r.outcome
    parts_so p = has_parts types i j ss m n ms ks ns env pl r parts.0 parts.1 parts.2 once wired supplies p

    laid_so : IsLaid node_parts ns env pl r
    laid_so = laid types i j ss m n ms ks ns env pl r parts.0 parts.1 parts.2 once wired supplies

    abbrev found_at : (p : Bool) → (plc : Placing) × (c : Plan) × IsStaged (child_at p) pl plc r c
    found_at p = found types i j ss m n ms ks ns env pl r parts.0 parts.1 parts.2 once wired supplies p

    abbrev side_at : Bool → Side
    side_at p = side types i j ss m n ms ks ns env pl r parts.0 parts.1 parts.2 once wired supplies p

    sides_so : ((p : Bool) → IsRegular (found_at p).1) → AreOrdered env ns → IsBoth (type_of_node m) (type_of_node n) r (side_at true) (side_at false)
    sides_so regular ordered = is_both types i j ss m n ms ks ns env pl r parts.0 parts.1 parts.2 once wired supplies regular ordered differ

    -- with supplies that are regular and rest
    module _ (steady_m : RegularWired types ms m) (steady_n : RegularWired types ks n) (all : AreRegular types env ns) where
      its_steady : (p : Bool) → RegularWired types (half_at p).uses (half_at p).term → IsRegular (found_at p).1 × Rests (found_at p).1
      its_steady p steady =
          child_is_steady (child_at p) node_parts node_ties pl (found_at p).0 r (found_at p).1 (child_so p) (parts_so p) laid_so (found_at p).2 wired.web steady
          all differ fit

      one_steady : IsRegular (found_at true).1 × Rests (found_at true).1
      one_steady = its_steady true steady_m

      other_steady : IsRegular (found_at false).1 × Rests (found_at false).1
      other_steady = its_steady false steady_n

      both_regular : (p : Bool) → IsRegular (found_at p).1
      both_regular true = one_steady.0
      both_regular false = other_steady.0

      pair_is_steady : BothIsRegular → IsRegular r × Rests r
      pair_is_steady law =
          law (type_of_node m) (type_of_node n) r (side_at true) (side_at false)
          (sides_so both_regular (λ k has. let it = all k has in record { literals = it.literals; regular = it.regular })) one_steady.1 other_steady.1

    -- with supplies that realise their terms
    module _ (within : InsideIsRealised) (realised : AreRealised types env ns) where
      its_term : (p : Bool) → IsPart types ss ns (half_at p).uses (half_at p).term → RealisesWired types (half_at p).uses (half_at p).term
          → HasLeaves (half_at p).term → Typed r.imports [] (meaning (inside ss (terms_of env)) (half_at p).term) (type_of_node (half_at p).term)
          → Realises (type_of_node (half_at p).term) (found_at p).1 (meaning (inside ss (terms_of env)) (half_at p).term)
      its_term p part real leaves typed =
          child_realises (child_at p) node_parts node_ties pl (found_at p).0 r (found_at p).1 (child_so p) laid_so (found_at p).2 within realised real
          differ fit leaves part.kept.scope typed

      module _ (leaves_m : HasLeaves m) (leaves_n : HasLeaves n) (real_m : RealisesWired types ms m) (real_n : RealisesWired types ks n)
          (typed_m : Typed r.imports [] (meaning (inside ss (terms_of env)) m) (type_of_node m))
          (typed_n : Typed r.imports [] (meaning (inside ss (terms_of env)) n) (type_of_node n)) where
        one_term : Realises (type_of_node m) (found_at true).1 (meaning (inside ss (terms_of env)) m)
        one_term = its_term true parts.0 real_m leaves_m typed_m

        other_term : Realises (type_of_node n) (found_at false).1 (meaning (inside ss (terms_of env)) n)
        other_term = its_term false parts.1 real_n leaves_n typed_n

        sides_regular : (p : Bool) → IsRegular (found_at p).1
        sides_regular true = one_term.suits.regular
        sides_regular false = other_term.suits.regular

        pair_realises : SidesRealiseBoth → IsRegular r → Realises (type_of_node node) r (meaning (terms_of env) node)
        pair_realises law regular =
            law (type_of_node m) (type_of_node n) r (side_at true) (side_at false) (meaning (inside ss (terms_of env)) m) (meaning (inside ss (terms_of env)) n)
            (sides_so sides_regular (realised_are_ordered types env ns realised)) regular fit (imports_are_ports types i j node ns env pl r wired realised)
            one_term other_term

steady_so : (types : Types) (ns : List ℕ) (ss : List Split) (m n : Numbered) → IsKept types ns (Two (Pair (type_of_node m) (type_of_node n)) ss OfBoth m n)
    → BothIsRegular → RegularWired types (first_numbers ss ns (used n)) m → RegularWired types (own_numbers ss ns n) n
    → RegularWired types ns (Two (Pair (type_of_node m) (type_of_node n)) ss OfBoth m n)
steady_so types ns ss m n kept law steady_m steady_n i j env pl r wired all differ fit =
    pair_is_steady types ns ss m n kept i j env pl r wired differ fit (λ k has. let it = all k has in (it.right, it.outcome)) steady_m steady_n all law

realised_so : (types : Types) (ns : List ℕ) (ss : List Split) (m n : Numbered) → IsKept types ns (Two (Pair (type_of_node m) (type_of_node n)) ss OfBoth m n)
    → InsideIsRealised → SidesRealiseBoth → HasLeaves m → HasLeaves n
    → RealisedIsRegular types ns (Two (Pair (type_of_node m) (type_of_node n)) ss OfBoth m n)
    → RealisesWired types (first_numbers ss ns (used n)) m → RealisesWired types (own_numbers ss ns n) n
    → RealisesWired types ns (Two (Pair (type_of_node m) (type_of_node n)) ss OfBoth m n)
realised_so types ns ss m n kept within law leaves_m leaves_n regular real_m real_n i j env pl r wired realised differ fit (a, b, same, typed_m, typed_n) =
    pair_realises types ns ss m n kept i j env pl r wired differ fit (realised_are_of_types types env ns realised) within realised leaves_m leaves_n real_m real_n
    (subst (λ (t : Type'). Typed r.imports [] (meaning (inside ss (terms_of env)) m) t) first_type typed_m)
    (subst (λ (t : Type'). Typed r.imports [] (meaning (inside ss (terms_of env)) n) t) second_type typed_n) law
    (regular i j env pl r wired realised differ fit)
  where
    first_type : a ≡ type_of_node m
    first_type = cc same

    second_type : b ≡ type_of_node n
    second_type = cc same

pub both_is_steady : BothIsRegular → BothIsSteady
both_is_steady law types ns a b ss m n kept at_m at_n steady_m steady_n =
    subst (λ (t : Type'). RegularWired types ns (Two t ss OfBoth m n)) same
    (steady_so types ns ss m n (subst (λ (t : Type'). IsKept types ns (Two t ss OfBoth m n)) (sym same) kept) law steady_m steady_n)
  where
    same : Pair (type_of_node m) (type_of_node n) ≡ Pair a b
    same = λ l. Pair (at_m l) (at_n l)

pub both_case : InsideIsRealised → SidesRealiseBoth → BothCase
both_case within law types ns a b ss m n kept at_m at_n leaves_m leaves_n regular real_m real_n =
    subst (λ (t : Type'). RealisesWired types ns (Two t ss OfBoth m n)) same
    (realised_so types ns ss m n (subst (λ (t : Type'). IsKept types ns (Two t ss OfBoth m n)) (sym same) kept) within law leaves_m leaves_n
    (subst (λ (t : Type'). RealisedIsRegular types ns (Two t ss OfBoth m n)) (sym same) regular) real_m real_n)
  where
    same : Pair (type_of_node m) (type_of_node n) ≡ Pair a b
    same = λ l. Pair (at_m l) (at_n l)
