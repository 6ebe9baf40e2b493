-- A wired node is regular and rests: induction on the node, by its form.
use Rattle.std.specs.Prelude.{◌≡◌, [], ◌∷◌, ◌++◌}
use Rattle.std.proofs.Common.{refl}
use Rattle.gos_types.specs.Types.{Com, Exp, Pair}
use Rattle.gos_check.specs.Nodes.{Closed, Use, Under, One, Two, If, OfFun, OfNew, OfArray, OfFst, OfSnd, OfDeref, OfNot, OfApp, OfBoth, OfSeq, OfPar, OfWhile, OfAssign, OfBin, type_of_node}
use Rattle.gos_check.specs.Linearity.{used}
use Rattle.gos_terms.specs.wired.Regular.{RegularWired}
use Rattle.gos_terms.specs.leaves.RegularLeaves.{UseIsRegular, SkipIsRegular, LiteralIsRegular}
use Rattle.gos_terms.specs.numbers.Kept.{IsKept}
use Rattle.gos_terms.specs.numbers.Inherited.{own_numbers, first_numbers, BodyIsKept, PartIsKept, BothAreKept, BothAreParted, ThreeAreKept}
use Rattle.gos_terms.specs.regular_and_resting.Cases.{ParallelIsSteady, BlockIsSteady, ArrayBlockIsSteady}
use Rattle.gos_terms.specs.regular_and_resting.Forks.{SequenceIsSteady, ChoiceIsSteady, LoopIsSteady, OperatorIsSteady, ComplementIsSteady}
use Rattle.gos_terms.specs.function_forms.Cases.{ApplicationIsRegular, FirstIsRegular, SecondIsRegular, DerefIsRegular}
use Rattle.gos_terms.specs.function_forms.Functions.{FunctionNodeIsRegular}
use Rattle.gos_terms.specs.pair_forms.Cases.{BothIsSteady}
use Rattle.gos_terms.specs.assignment_forms.Cases.{AnyAssignIsSteady}
use Rattle.gos_terms.proofs.theorem.FormLemmas.{kept_so, same, closed, number_used}
use Rattle.gos_terms.specs.theorem.Terms.{TermIsRegular}

-- the laws of the forms, and of what their parts inherit
pub record RegularLaws : Type 0 where
  pub used : UseIsRegular
  pub skip : SkipIsRegular
  pub literal : LiteralIsRegular
  pub parallel : ParallelIsSteady
  pub block : BlockIsSteady
  pub array : ArrayBlockIsSteady
  pub sequence : SequenceIsSteady
  pub choice : ChoiceIsSteady
  pub loop : LoopIsSteady
  pub operator : OperatorIsSteady
  pub complement : ComplementIsSteady
  pub application : ApplicationIsRegular
  pub first : FirstIsRegular
  pub second : SecondIsRegular
  pub deref : DerefIsRegular
  pub function : FunctionNodeIsRegular
  pub pair : BothIsSteady
  pub assignment : AnyAssignIsSteady
  pub body : BodyIsKept
  pub one : PartIsKept
  pub both : BothAreKept
  pub parted : BothAreParted
  pub three : ThreeAreKept

pub term_is_regular : RegularLaws → TermIsRegular
term_is_regular laws types ns (Closed t ss c) kept unsplit applied = closed RegularWired types ns (laws.skip types ns) (laws.literal types ns) t ss c kept
term_is_regular laws types ns (Use t ss n) kept unsplit applied = number_used RegularWired types ns (laws.used types ns) t ss n kept
term_is_regular laws types ns (Under t ss OfFun n m) kept unsplit applied =
    let (none, body, bound) = laws.body types ns t ss OfFun n m kept in
    let path : Under t ss OfFun n m ≡ Under t [] OfFun n m = λ i. Under t (none i) OfFun n m in
    same RegularWired types ns (Under t ss OfFun n m) (Under t [] OfFun n m) path
    (laws.function types ns t n m (kept_so types ns (Under t ss OfFun n m) (Under t [] OfFun n m) path kept)
    (term_is_regular laws types (ns ++ n ∷ []) m body unsplit applied))
term_is_regular laws types ns (Under t ss (OfNew w) n m) kept unsplit applied =
    let (none, body, bound) = laws.body types ns t ss (OfNew w) n m kept in
    same RegularWired types ns (Under t ss (OfNew w) n m) (Under t [] (OfNew w) n m) (λ i. Under t (none i) (OfNew w) n m)
    (laws.block types ns t w n m kept.typed.1.0 kept.typed.1.2 kept.typed.1.1 bound
    (term_is_regular laws types (ns ++ n ∷ []) m body unsplit applied))
term_is_regular laws types ns (Under t ss (OfArray k w) n m) kept unsplit applied =
    let (none, body, bound) = laws.body types ns t ss (OfArray k w) n m kept in
    same RegularWired types ns (Under t ss (OfArray k w) n m) (Under t [] (OfArray k w) n m) (λ i. Under t (none i) (OfArray k w) n m)
    (laws.array types ns t k w n m kept.typed.1.0 kept.typed.1.2 kept.typed.1.1 bound
    (term_is_regular laws types (ns ++ n ∷ []) m body unsplit applied))
term_is_regular laws types ns (One t ss OfFst m) kept unsplit applied =
    let (none, part) = laws.one types ns t ss OfFst m kept in
    let path : One t ss OfFst m ≡ One t [] OfFst m = λ i. One t (none i) OfFst m in
    same RegularWired types ns (One t ss OfFst m) (One t [] OfFst m) path
    (laws.first types ns t m (kept_so types ns (One t ss OfFst m) (One t [] OfFst m) path kept) (term_is_regular laws types ns m part.kept unsplit applied))
term_is_regular laws types ns (One t ss OfSnd m) kept unsplit applied =
    let (none, part) = laws.one types ns t ss OfSnd m kept in
    let path : One t ss OfSnd m ≡ One t [] OfSnd m = λ i. One t (none i) OfSnd m in
    same RegularWired types ns (One t ss OfSnd m) (One t [] OfSnd m) path
    (laws.second types ns t m (kept_so types ns (One t ss OfSnd m) (One t [] OfSnd m) path kept) (term_is_regular laws types ns m part.kept unsplit applied))
term_is_regular laws types ns (One t ss OfDeref m) kept unsplit applied =
    let (w, is_exp, is_var) = kept.typed.1 in
    let (none, part) = laws.one types ns t ss OfDeref m kept in
    let path : One t ss OfDeref m ≡ One (Exp w) [] OfDeref m = λ i. One (is_exp i) (none i) OfDeref m in
    same RegularWired types ns (One t ss OfDeref m) (One (Exp w) [] OfDeref m) path
    (laws.deref types ns w m (kept_so types ns (One t ss OfDeref m) (One (Exp w) [] OfDeref m) path kept)
    (term_is_regular laws types ns m part.kept unsplit applied))
term_is_regular laws types ns (One t ss OfNot m) kept unsplit applied =
    let (none, part) = laws.one types ns t ss OfNot m kept in
    laws.complement types ns t ss m kept (term_is_regular laws types ns m part.kept unsplit applied)
term_is_regular laws types ns (Two t ss OfApp m n) kept unsplit applied =
    let path : Two t ss OfApp m n ≡ Two t [] OfApp m n = λ i. Two t (applied.0 i) OfApp m n in
    let plain : IsKept types ns (Two t [] OfApp m n) = kept_so types ns (Two t ss OfApp m n) (Two t [] OfApp m n) path kept in
    let (first, second, all) = laws.both types ns t [] OfApp m n plain in
    same RegularWired types ns (Two t ss OfApp m n) (Two t [] OfApp m n) path
    (laws.application types ns t m n plain
    (term_is_regular laws types (first_numbers [] ns (used n)) m first.kept unsplit.1 applied.1)
    (term_is_regular laws types (own_numbers [] ns n) n second.kept unsplit.2 applied.2))
term_is_regular laws types ns (Two t ss OfBoth m n) kept unsplit applied =
    let path : Two t ss OfBoth m n ≡ Two (Pair (type_of_node m) (type_of_node n)) ss OfBoth m n = λ i. Two (kept.typed.1 i) ss OfBoth m n in
    let plain = kept_so types ns (Two t ss OfBoth m n) (Two (Pair (type_of_node m) (type_of_node n)) ss OfBoth m n) path kept in
    let (first, second, all) = laws.both types ns (Pair (type_of_node m) (type_of_node n)) ss OfBoth m n plain in
    same RegularWired types ns (Two t ss OfBoth m n) (Two (Pair (type_of_node m) (type_of_node n)) ss OfBoth m n) path
    (laws.pair types ns (type_of_node m) (type_of_node n) ss m n plain refl refl
    (term_is_regular laws types (first_numbers ss ns (used n)) m first.kept unsplit.1 applied.1)
    (term_is_regular laws types (own_numbers ss ns n) n second.kept unsplit.2 applied.2))
term_is_regular laws types ns (Two t ss OfSeq m n) kept unsplit applied =
    let (first, second, all) = laws.both types ns t ss OfSeq m n kept in
    laws.sequence types ns t ss m n kept kept.typed.1.0
    (term_is_regular laws types (first_numbers ss ns (used n)) m first.kept unsplit.1 applied.1)
    (term_is_regular laws types (own_numbers ss ns n) n second.kept unsplit.2 applied.2)
term_is_regular laws types ns (Two t ss OfPar m n) kept unsplit applied =
    let path : Two t ss OfPar m n ≡ Two Com [] OfPar m n = λ i. Two (kept.typed.1.0 i) (unsplit.0 i) OfPar m n in
    let plain : IsKept types ns (Two Com [] OfPar m n) = kept_so types ns (Two t ss OfPar m n) (Two Com [] OfPar m n) path kept in
    let (first, second, all) = laws.both types ns Com [] OfPar m n plain in
    same RegularWired types ns (Two t ss OfPar m n) (Two Com [] OfPar m n) path
    (laws.parallel types ns (first_numbers [] ns (used n)) (own_numbers [] ns n) m n (laws.parted types ns Com OfPar m n plain)
    kept.typed.1.1 kept.typed.1.2
    (term_is_regular laws types (first_numbers [] ns (used n)) m first.kept unsplit.1 applied.1)
    (term_is_regular laws types (own_numbers [] ns n) n second.kept unsplit.2 applied.2))
term_is_regular laws types ns (Two t ss OfWhile m n) kept unsplit applied =
    let (first, second, all) = laws.both types ns t ss OfWhile m n kept in
    laws.loop types ns t ss m n kept
    (term_is_regular laws types (first_numbers ss ns (used n)) m first.kept unsplit.1 applied.1)
    (term_is_regular laws types (own_numbers ss ns n) n second.kept unsplit.2 applied.2)
term_is_regular laws types ns (Two t ss OfAssign m n) kept unsplit applied =
    let (w, is_com, is_var, is_exp) = kept.typed.1 in
    let path : Two t ss OfAssign m n ≡ Two Com ss OfAssign m n = λ i. Two (is_com i) ss OfAssign m n in
    let plain : IsKept types ns (Two Com ss OfAssign m n) = kept_so types ns (Two t ss OfAssign m n) (Two Com ss OfAssign m n) path kept in
    let (first, second, all) = laws.both types ns Com ss OfAssign m n plain in
    same RegularWired types ns (Two t ss OfAssign m n) (Two Com ss OfAssign m n) path
    (laws.assignment types ns ss w m n plain is_var is_exp
    (term_is_regular laws types (first_numbers ss ns (used n)) m first.kept unsplit.1 applied.1)
    (term_is_regular laws types (own_numbers ss ns n) n second.kept unsplit.2 applied.2))
term_is_regular laws types ns (Two t ss (OfBin op) m n) kept unsplit applied =
    let (first, second, all) = laws.both types ns t ss (OfBin op) m n kept in
    laws.operator types ns t ss op m n kept
    (term_is_regular laws types (first_numbers ss ns (used n)) m first.kept unsplit.1 applied.1)
    (term_is_regular laws types (own_numbers ss ns n) n second.kept unsplit.2 applied.2)
term_is_regular laws types ns (If t ss m n p) kept unsplit applied =
    let (first, second, third, all) = laws.three types ns t ss m n p kept in
    laws.choice types ns t ss m n p kept kept.typed.1.0
    (term_is_regular laws types (first_numbers ss ns (used n ++ used p)) m first.kept unsplit.0 applied.0)
    (term_is_regular laws types (own_numbers ss ns n) n second.kept unsplit.1 applied.1)
    (term_is_regular laws types (own_numbers ss ns p) p third.kept unsplit.2 applied.2)
