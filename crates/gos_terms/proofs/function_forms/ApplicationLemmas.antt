-- A node that applies realises its term.
use Rattle.std.specs.Prelude.{◌≡◌, ℕ, suc, ◌+◌, List, [], ◌++◌, All, Contains, length}
use Rattle.std.proofs.Common.{sym, ◌∙◌, ap, subst}
use Rattle.gos_types.specs.Types.{Type', Fun}
use Rattle.gos_model.specs.Typing.{Typed}
use Rattle.gos_model.specs.Laws.{OneType}
use Rattle.gos_check.specs.Nodes.{Numbered, Two, OfApp, meaning, type_of_node}
use Rattle.gos_check.specs.Linearity.{used}
use Rattle.gos_plan.specs.Kinds.{Part}
use Rattle.gos_plan.specs.Plans.{Plan}
use Rattle.gos_plan.specs.TokenBits.{LiteralFits}
use Rattle.gos_realises.specs.realises.Realises.{NamesDiffer, Realises}
use Rattle.gos_realises.specs.realises.Regular.{IsRegular}
use Rattle.gos_joining.specs.renumbered.Renumbered.{RenumberedIsRegular}
use Rattle.gos_supplies.specs.turns.Rests.{Rests}
use Rattle.gos_supplies.specs.turns.Composed.{ApplyingIsRegular}
use Rattle.gos_supplies.specs.turns.Resting.{ApplyingRests, RenumberedRests}
use Rattle.gos_compile.specs.Wiring.{Types, parts_of, nodes}
use Rattle.gos_terms.specs.wired.Wired.{Supplies, Placing, IsWired, terms_of}
use Rattle.gos_terms.specs.wired.NodeFitting.{AreOfTypes, WiredNodeFits, FittingIsPlain, RealisedAreOfTypes}
use Rattle.gos_terms.specs.applying.Uses.{IsApplied, ApplicationIsApplied}
use Rattle.gos_terms.specs.applying.Realised.{ApplicationIsRealised}
use Rattle.gos_terms.specs.regions.Frames as frames
use Rattle.gos_terms.specs.numbers.Kept.{IsKept}
use Rattle.gos_terms.specs.numbers.Inherited.{own_numbers, first_numbers, BothAreKept, BothAreParted}
use Rattle.gos_terms.proofs.regions.PartedLemmas.{first_among, second_among}
use Rattle.gos_terms.proofs.wired.NameLemmas.{names_differ}
use Rattle.gos_terms.proofs.ground_forms.WiredLemmas.{typed_there}
use Rattle.gos_terms.specs.function_forms.Cases.{ApplicationCase, ApplicationIsRegular}
use Rattle.gos_terms.proofs.function_forms.TypeLemmas.{has_leaves, type_is}
use Rattle.gos_terms.proofs.function_forms.KeptLemmas.{can_be_wired, regular_of, are_parted, are_apart, literals_renumbered, literals_front, literals_behind}

-- what is said of children, and of joining them
pub record Laws : Type 0 where
  pub both : BothAreKept
  pub parted : BothAreParted
  pub fits : WiredNodeFits
  pub plain : FittingIsPlain
  pub applied : ApplicationIsApplied

module _ (laws : Laws) (types : Types) (ns : List ℕ) (t : Type') (m n : Numbered) (kept : IsKept types ns (Two t [] OfApp m n)) where
  abbrev pub ms : List ℕ
  ms = first_numbers [] ns (used n)

  abbrev pub ks : List ℕ
  ks = own_numbers [] ns n

  parted : frames.AreParted m n ns ms ks
  parted = laws.parted types ns t OfApp m n kept

  pub kept_first : IsKept types ms m
  kept_first = (laws.both types ns t [] OfApp m n kept).0.kept

  pub kept_second : IsKept types ks n
  kept_second = (laws.both types ns t [] OfApp m n kept).1.kept

  pub among_first : (k : ℕ) → Contains ms k → Contains ns k
  among_first = first_among m n ns ms ks parted

  pub among_second : (k : ℕ) → Contains ks k → Contains ns k
  among_second = second_among m n ns ms ks parted

  module _ (i j : ℕ) (env : Supplies) (pl : Placing) (r : Plan) (w : IsWired types i j (Two t [] OfApp m n) ns env pl r) (of : AreOfTypes types env ns) where
    -- the node is joined of its children
    pub is : IsApplied t types i (suc j) m n ms ks env r
    is =
        laws.applied types i j t m n ns ms ks env pl r w kept.typed.1 (are_parted m n ns ms ks parted) (are_apart m n ns ms ks parted)
        (can_be_wired laws.fits laws.plain types i (suc j) m ms env kept_first (λ k has. of k (among_first k has)))
        (can_be_wired laws.fits laws.plain types (i + length (parts_of types m)) (suc j + nodes m) n ks env kept_second (λ k has. of k (among_second k has)))

    module _ (differ : NamesDiffer r.imports) (fit : All LiteralFits r.parts) where
      joined_fit : All LiteralFits (is.function.parts ++ (is.argument.parts ++ []))
      joined_fit = subst (λ (ps : List Part). All LiteralFits ps) is.joined.joining.parts (literals_renumbered is.numbers r is.applied is.same fit)

      pub first_fits : All LiteralFits is.function.parts
      first_fits = literals_front is.function.parts (is.argument.parts ++ []) joined_fit

      pub second_fits : All LiteralFits is.argument.parts
      second_fits = literals_front is.argument.parts [] (literals_behind is.function.parts (is.argument.parts ++ []) joined_fit)

      pub first_differ : NamesDiffer is.function.imports
      first_differ =
          names_differ types i j (Two t [] OfApp m n) ns env pl r w i (suc j) m ms is.placing is.function is.wired among_first differ

      pub second_differ : NamesDiffer is.argument.imports
      second_differ =
          names_differ types i j (Two t [] OfApp m n) ns env pl r w (i + length (parts_of types m)) (suc j + nodes m) n ks is.argument_placing is.argument
          is.argument_wired among_second differ

pub application_case : Laws → OneType → RealisedAreOfTypes → ApplicationIsRealised → ApplicationCase
application_case laws one of_types law types ns t m n kept rm rn i j env pl r w supplies differ fit (a, typed_m, typed_n, apart) =
    law t types i (suc j) m n first second env r (meaning (terms_of env) m) (meaning (terms_of env) n) whole differ
    (subst (λ (u : Type'). Realises u whole.function (meaning (terms_of env) m)) kept.typed.1 function) argument
  where
    first : List ℕ
    first = ms laws types ns t m n kept

    second : List ℕ
    second = ks laws types ns t m n kept

    of : AreOfTypes types env ns
    of = of_types types env ns supplies

    whole : IsApplied t types i (suc j) m n first second env r
    whole = is laws types ns t m n kept i j env pl r w of

    -- the argument has the type of its node
    same : a ≡ type_of_node n
    same =
        type_is one types i j (Two t [] OfApp m n) ns env pl r w supplies differ n second a (among_second laws types ns t m n kept)
        (kept_second laws types ns t m n kept).typed (kept_second laws types ns t m n kept).scope typed_n

    function : Realises (type_of_node m) whole.function (meaning (terms_of env) m)
    function =
        rm i (suc j) env whole.placing whole.function whole.wired (λ k has. supplies k (among_first laws types ns t m n kept k has))
        (first_differ laws types ns t m n kept i j env pl r w of differ fit) (first_fits laws types ns t m n kept i j env pl r w of differ fit)
        (typed_there types i j (Two t [] OfApp m n) ns env pl r w i (suc j) m first whole.placing whole.function whole.wired
        (among_first laws types ns t m n kept) (type_of_node m) supplies differ (has_leaves types m (kept_first laws types ns t m n kept).typed)
        (kept_first laws types ns t m n kept).scope
        (subst (λ (u : Type'). Typed r.imports [] (meaning (terms_of env) m) u) (ap (λ (b : Type'). Fun b t) same ∙ sym kept.typed.1) typed_m))

    argument : Realises (type_of_node n) whole.argument (meaning (terms_of env) n)
    argument =
        rn (i + length (parts_of types m)) (suc j + nodes m) env whole.argument_placing whole.argument whole.argument_wired
        (λ k has. supplies k (among_second laws types ns t m n kept k has))
        (second_differ laws types ns t m n kept i j env pl r w of differ fit) (second_fits laws types ns t m n kept i j env pl r w of differ fit)
        (typed_there types i j (Two t [] OfApp m n) ns env pl r w (i + length (parts_of types m)) (suc j + nodes m) n second whole.argument_placing
        whole.argument whole.argument_wired (among_second laws types ns t m n kept) (type_of_node n) supplies differ
        (has_leaves types n (kept_second laws types ns t m n kept).typed) (kept_second laws types ns t m n kept).scope
        (subst (λ (u : Type'). Typed r.imports [] (meaning (terms_of env) n) u) same typed_n))

pub application_is_regular : Laws → ApplyingIsRegular → ApplyingRests → RenumberedIsRegular → RenumberedRests → ApplicationIsRegular
application_is_regular laws joins rests_joined numbers numbers_rest types ns t m n kept rm rn i j env pl r w supplies differ fit =
    (numbers whole.numbers r whole.applied whole.same regular, numbers_rest whole.numbers r whole.applied whole.same rests)
  where
    of : AreOfTypes types env ns
    of = regular_of types env ns supplies

    whole : IsApplied t types i (suc j) m n (ms laws types ns t m n kept) (ks laws types ns t m n kept) env r
    whole = is laws types ns t m n kept i j env pl r w of

    fits_first : All LiteralFits whole.function.parts
    fits_first = first_fits laws types ns t m n kept i j env pl r w of differ fit

    fits_second : All LiteralFits whole.argument.parts
    fits_second = second_fits laws types ns t m n kept i j env pl r w of differ fit

    function : IsRegular whole.function × Rests whole.function
    function =
        rm i (suc j) env whole.placing whole.function whole.wired (λ k has. supplies k (among_first laws types ns t m n kept k has))
        (first_differ laws types ns t m n kept i j env pl r w of differ fit) fits_first

    argument : IsRegular whole.argument × Rests whole.argument
    argument =
        rn (i + length (parts_of types m)) (suc j + nodes m) env whole.argument_placing whole.argument whole.argument_wired
        (λ k has. supplies k (among_second laws types ns t m n kept k has))
        (second_differ laws types ns t m n kept i j env pl r w of differ fit) fits_second

    outcome : whole.function.outcome ≡ Fun (type_of_node n) t
    outcome = whole.wired.outcome ∙ kept.typed.1

    regular : IsRegular whole.applied
    regular =
        joins (type_of_node n) t whole.function whole.argument whole.applied outcome whole.argument_wired.outcome fits_first fits_second
        function.0 argument.0 whole.joined

    rests : Rests whole.applied
    rests =
        rests_joined (type_of_node n) t whole.function whole.argument whole.applied outcome whole.argument_wired.outcome fits_first fits_second
        function.0 argument.0 function.1 argument.1 whole.joined
