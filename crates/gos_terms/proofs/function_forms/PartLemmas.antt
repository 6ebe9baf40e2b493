-- A node of one part that projects or reads.
use Rattle.std.specs.Prelude.{◌≡◌, ℕ, suc, ◌+◌, List, [], ◌∷◌, All}
use Rattle.std.proofs.Common.{◌∙◌, ap, subst}
use Rattle.gos_types.specs.Types.{Type', Exp, Var, Pair}
use Rattle.gos_model.specs.Typing.{Typed}
use Rattle.gos_model.specs.Laws.{OneType}
use Rattle.gos_check.specs.Nodes.{Numbered, One, OneForm, OfFst, OfSnd, OfDeref, meaning, type_of_node}
use Rattle.gos_plan.specs.Kinds as kinds
use Rattle.gos_plan.specs.Kinds.{Part}
use Rattle.gos_plan.specs.Plans.{Plan}
use Rattle.gos_plan.specs.TokenBits.{LiteralFits}
use Rattle.gos_realises.specs.realises.Regular.{count, IsRegular}
use Rattle.gos_realises.specs.realises.Realises.{NamesDiffer, Realises}
use Rattle.gos_joining.specs.renumbered.Renumbered.{RenumberedIsRegular}
use Rattle.gos_supplies.specs.turns.Rests.{Rests}
use Rattle.gos_supplies.specs.turns.Composed.{SidesAreRegular}
use Rattle.gos_supplies.specs.turns.Resting.{SidesRest, RenumberedRests}
use Rattle.gos_compile.specs.Wiring.{Types}
use Rattle.gos_terms.specs.wired.Wired.{Supplies, Placing, IsWired, AreRealised, terms_of}
use Rattle.gos_terms.specs.wired.NodeFitting.{AreOfTypes, WiredNodeFits, FittingIsPlain, RealisedAreOfTypes}
use Rattle.gos_terms.specs.wired.Regular.{RegularWired, AreRegular}
use Rattle.gos_terms.specs.applying.Uses.{CanBeWired, IsSide, IsReading, FirstIsSide, SecondIsSide, DerefIsReading}
use Rattle.gos_terms.specs.applying.Realised.{FirstIsRealised, SecondIsRealised, DerefIsRealised}
use Rattle.gos_terms.specs.leaves.Readings.{ReadingIsRegular}
use Rattle.gos_terms.specs.numbers.Kept.{IsKept}
use Rattle.gos_terms.specs.numbers.Inherited.{PartIsKept}
use Rattle.gos_terms.proofs.wired.NameLemmas.{names_differ}
use Rattle.gos_terms.proofs.ground_forms.WiredLemmas.{typed_there}
use Rattle.gos_terms.specs.ground_forms.Cases.{RealisesWired}
use Rattle.gos_terms.specs.function_forms.Cases.{FirstCase, SecondCase, DerefCase, FirstIsRegular, SecondIsRegular, DerefIsRegular}
use Rattle.gos_terms.proofs.function_forms.TypeLemmas.{has_leaves, type_is}
use Rattle.gos_terms.proofs.function_forms.KeptLemmas.{can_be_wired, regular_of, literals_renumbered, literals_front}

-- what is said of the part
pub record Laws : Type 0 where
  pub one : PartIsKept
  pub fits : WiredNodeFits
  pub plain : FittingIsPlain

module _ (laws : Laws) (types : Types) (ns : List ℕ) (t : Type') (f : OneForm) (m : Numbered) (kept : IsKept types ns (One t [] f m)) where
  kept_part : IsKept types ns m
  kept_part = (laws.one types ns t [] f m kept).1.kept

  can : (i j : ℕ) (env : Supplies) → AreOfTypes types env ns → CanBeWired types i j m ns env
  can i j env of = can_be_wired laws.fits laws.plain types i j m ns env kept_part of

  module _
      (i j : ℕ) (env : Supplies) (pl : Placing) (r : Plan) (w : IsWired types i j (One t [] f m) ns env pl r) (differ : NamesDiffer r.imports)
      (a b : ℕ) (pc : Placing) (c : Plan) (v : IsWired types a b m ns env pc c) (fit : All LiteralFits c.parts) where
    part_differs : NamesDiffer c.imports
    part_differs = names_differ types i j (One t [] f m) ns env pl r w a b m ns pc c v (λ k has. has) differ

    part_realised : OneType → RealisesWired types ns m → AreRealised types env ns → (u : Type') → Typed r.imports [] (meaning (terms_of env) m) u
        → Realises (type_of_node m) c (meaning (terms_of env) m)
    part_realised one rm supplies u typed =
        let same = type_is one types i j (One t [] f m) ns env pl r w supplies differ m ns u (λ k has. has) kept_part.typed kept_part.scope typed in
        rm a b env pc c v supplies part_differs fit
        (typed_there types i j (One t [] f m) ns env pl r w a b m ns pc c v (λ k has. has) (type_of_node m) supplies differ
        (has_leaves types m kept_part.typed) kept_part.scope (subst (λ (x : Type'). Typed r.imports [] (meaning (terms_of env) m) x) same typed))

    part_regular : RegularWired types ns m → AreRegular types env ns → IsRegular c × Rests c
    part_regular rm supplies = rm a b env pc c v supplies part_differs fit

-- the literals of a plan of which one side is left
side_fits : (k : ℕ) (t : Type') (types : Types) (i j : ℕ) (m : Numbered) (ns : List ℕ) (env : Supplies) (r : Plan) (is : IsSide k t types i j m ns env r)
    → All LiteralFits r.parts → All LiteralFits is.child.parts
side_fits k t types i j m ns env r is fit =
    literals_front is.child.parts []
    (subst (λ (ps : List Part). All LiteralFits ps) is.joined.joining.parts (literals_renumbered is.numbers r is.side_of is.same fit))

read_fits : (w : ℕ) (types : Types) (i j : ℕ) (m : Numbered) (ns : List ℕ) (env : Supplies) (r : Plan) (is : IsReading w types i j m ns env r)
    → All LiteralFits r.parts → All LiteralFits is.child.parts
read_fits w types i j m ns env r is fit =
    literals_front is.child.parts (kinds.Deref w ∷ [])
    (subst (λ (ps : List Part). All LiteralFits ps) is.joined.joining.parts (literals_renumbered is.numbers r is.read is.same fit))

pub first_case : Laws → OneType → RealisedAreOfTypes → FirstIsSide → FirstIsRealised → FirstCase
first_case laws one of_types sides law types ns t m kept rm i j env pl r w supplies differ fit (b, typed) =
    law t kept.typed.1.0 types i (suc j) m ns env r (meaning (terms_of env) m) is
    (subst (λ (u : Type'). Realises u is.child (meaning (terms_of env) m)) kept.typed.1.1
    (part_realised laws types ns t OfFst m kept i j env pl r w differ i (suc j) is.placing is.child is.wired
    (side_fits 0 t types i (suc j) m ns env r is fit) one rm supplies (Pair t b) typed))
  where
    is : IsSide 0 t types i (suc j) m ns env r
    is =
        sides types i j t kept.typed.1.0 m ns env pl r w kept.typed.1.1
        (can laws types ns t OfFst m kept i (suc j) env (of_types types env ns supplies))

pub second_case : Laws → OneType → RealisedAreOfTypes → SecondIsSide → SecondIsRealised → SecondCase
second_case laws one of_types sides law types ns u m kept rm i j env pl r w supplies differ fit (a, typed) =
    law kept.typed.1.0 u types i (suc j) m ns env r (meaning (terms_of env) m) is
    (subst (λ (x : Type'). Realises x is.child (meaning (terms_of env) m)) kept.typed.1.1
    (part_realised laws types ns u OfSnd m kept i j env pl r w differ i (suc j) is.placing is.child is.wired
    (side_fits (count kept.typed.1.0) u types i (suc j) m ns env r is fit) one rm supplies (Pair a u) typed))
  where
    is : IsSide (count kept.typed.1.0) u types i (suc j) m ns env r
    is =
        sides types i j kept.typed.1.0 u m ns env pl r w kept.typed.1.1
        (can laws types ns u OfSnd m kept i (suc j) env (of_types types env ns supplies))

pub deref_case : Laws → OneType → RealisedAreOfTypes → DerefIsReading → DerefIsRealised → DerefCase
deref_case laws one of_types reads law types ns w m kept rm i j env pl r wired supplies differ fit (v, e, typed) =
    law w types (i + 1) (suc j) m ns env r (meaning (terms_of env) m) is
    (subst (λ (x : Type'). Realises x is.child (meaning (terms_of env) m)) of_var
    (part_realised laws types ns (Exp w) OfDeref m kept i j env pl r wired differ (i + 1) (suc j) is.placing is.child is.wired
    (read_fits w types (i + 1) (suc j) m ns env r is fit) one rm supplies (Var v) typed))
  where
    of_var : type_of_node m ≡ Var w
    of_var = let same : kept.typed.1.0 ≡ w = cc (kept.typed.1.1) in kept.typed.1.2 ∙ ap Var same

    is : IsReading w types (i + 1) (suc j) m ns env r
    is =
        reads types i j w m ns env pl r wired of_var
        (can laws types ns (Exp w) OfDeref m kept (i + 1) (suc j) env (of_types types env ns supplies))

pub first_is_regular : Laws → FirstIsSide → SidesAreRegular → SidesRest → RenumberedIsRegular → RenumberedRests → FirstIsRegular
first_is_regular laws sides are rest numbers numbers_rest types ns t m kept rm i j env pl r w supplies differ fit =
    let part =
    part_regular laws types ns t OfFst m kept i j env pl r w differ i (suc j) is.placing is.child is.wired these rm supplies in (
      numbers is.numbers r is.side_of is.same ((are t kept.typed.1.0 is.child outcome these part.0).0 is.side_of is.joined),
      numbers_rest is.numbers r is.side_of is.same ((rest t kept.typed.1.0 is.child outcome these part.0 part.1).0 is.side_of is.joined),
    )
  where
    is : IsSide 0 t types i (suc j) m ns env r
    is =
        sides types i j t kept.typed.1.0 m ns env pl r w kept.typed.1.1
        (can laws types ns t OfFst m kept i (suc j) env (regular_of types env ns supplies))

    these : All LiteralFits is.child.parts
    these = side_fits 0 t types i (suc j) m ns env r is fit

    outcome : is.child.outcome ≡ Pair t kept.typed.1.0
    outcome = is.wired.outcome ∙ kept.typed.1.1

pub second_is_regular : Laws → SecondIsSide → SidesAreRegular → SidesRest → RenumberedIsRegular → RenumberedRests → SecondIsRegular
second_is_regular laws sides are rest numbers numbers_rest types ns u m kept rm i j env pl r w supplies differ fit =
    let part =
    part_regular laws types ns u OfSnd m kept i j env pl r w differ i (suc j) is.placing is.child is.wired these rm supplies in (
      numbers is.numbers r is.side_of is.same ((are kept.typed.1.0 u is.child outcome these part.0).1 is.side_of is.joined),
      numbers_rest is.numbers r is.side_of is.same ((rest kept.typed.1.0 u is.child outcome these part.0 part.1).1 is.side_of is.joined),
    )
  where
    is : IsSide (count kept.typed.1.0) u types i (suc j) m ns env r
    is =
        sides types i j kept.typed.1.0 u m ns env pl r w kept.typed.1.1
        (can laws types ns u OfSnd m kept i (suc j) env (regular_of types env ns supplies))

    these : All LiteralFits is.child.parts
    these = side_fits (count kept.typed.1.0) u types i (suc j) m ns env r is fit

    outcome : is.child.outcome ≡ Pair kept.typed.1.0 u
    outcome = is.wired.outcome ∙ kept.typed.1.1

pub deref_is_regular : Laws → DerefIsReading → RenumberedIsRegular → RenumberedRests → ReadingIsRegular → DerefIsRegular
deref_is_regular laws reads numbers numbers_rest law types ns w m kept rm i j env pl r wired supplies differ fit =
    let part =
    part_regular laws types ns (Exp w) OfDeref m kept i j env pl r wired differ (i + 1) (suc j) is.placing is.child is.wired these rm supplies in
    let whole = law w is.child is.read (is.wired.outcome ∙ of_var) these part.0 part.1 is.joined in
    (numbers is.numbers r is.read is.same whole.0, numbers_rest is.numbers r is.read is.same whole.1)
  where
    of_var : type_of_node m ≡ Var w
    of_var = let same : kept.typed.1.0 ≡ w = cc (kept.typed.1.1) in kept.typed.1.2 ∙ ap Var same

    is : IsReading w types (i + 1) (suc j) m ns env r
    is =
        reads types i j w m ns env pl r wired of_var
        (can laws types ns (Exp w) OfDeref m kept (i + 1) (suc j) env (regular_of types env ns supplies))

    these : All LiteralFits is.child.parts
    these = read_fits w types (i + 1) (suc j) m ns env r is fit
