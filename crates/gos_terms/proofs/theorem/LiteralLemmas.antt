-- The literals of a typed term's parts fit their widths, and so do those of a plan that is joined to supplies.
use Rattle.std.specs.Prelude.{List, [], ◌∷◌, ◌++◌, All}
use Rattle.std.proofs.Common.{sym, subst}
use Rattle.std.proofs.lemmas.List.Elements.{All-from_recursion, All-append}
use Rattle.gos_types.specs.Types.{Type', Var}
use Rattle.gos_model.specs.Terms as terms
use Rattle.gos_model.specs.Terms.{Term}
use Rattle.gos_model.specs.Typing.{Imported, Imports, Typed, array_type}
use Rattle.gos_check.specs.declared.linear.Split.{Split}
use Rattle.gos_check.specs.Nodes.{Numbered, Closed, Use, Under, One, Two, If, Binding, OfFun, OfNew, OfArray, OneForm, OfFst, OfSnd, OfDeref, OfNot, TwoForm, OfApp, OfBoth, OfSeq, OfPar, OfWhile, OfAssign, OfBin, Meaning, meaning, below, inside, argument_of}
use Rattle.gos_plan.specs.Kinds as kinds
use Rattle.gos_plan.specs.Kinds.{Part}
use Rattle.gos_plan.specs.Plans.{Plan}
use Rattle.gos_plan.specs.Joining.{all_parts}
use Rattle.gos_plan.specs.TokenBits.{LiteralFits}
use Rattle.gos_realises.specs.realises.Links.{IsJoined}
use Rattle.gos_realises.specs.realises.Modules.{Supply, plans_of, AreSupplied, supplying}
use Rattle.gos_compile.specs.Wiring.{Types, type_of_node, shares, closed_part, binder_part, one_part, two_part, parts_of}

-- their parts' literals fit
abbrev Fit : List Part → Type 0
Fit xs = All LiteralFits xs

none_fit : Fit []
none_fit = All-from_recursion LiteralFits [] tt

first_fits : (x : Part) (xs : List Part) → LiteralFits x → Fit xs → Fit (x ∷ xs)
first_fits x xs fits rest = All-append LiteralFits (x ∷ []) xs (All-from_recursion LiteralFits (x ∷ []) (fits, tt)) rest

both_fit : (xs ys : List Part) → Fit xs → Fit ys → Fit (xs ++ ys)
both_fit = All-append LiteralFits

shares_fit : (ss : List Split) (types : Types) → Fit (shares ss types)
shares_fit [] types = none_fit
shares_fit (s ∷ ss) types = first_fits (kinds.Share (types s.of)) (shares ss types) tt (shares_fit ss types)

closed_fits : (i : Imports) (g : List Type') (c : Term) (t : Type') → Typed i g c t → Fit (closed_part c)
closed_fits i g (terms.Lit k w) t typed = first_fits (kinds.Lit w k) [] typed.2 none_fit
closed_fits i g c t typed = first_fits kinds.Skip [] tt none_fit

binder_fits : (b : Binding) (t : Type') → Fit (binder_part b t)
binder_fits OfFun t = none_fit
binder_fits (OfNew w) t = first_fits _ [] tt none_fit
binder_fits (OfArray k w) t = first_fits _ [] tt none_fit

one_fits : (f : OneForm) (t : Type') → Fit (one_part f t)
one_fits OfFst t = none_fit
one_fits OfSnd t = none_fit
one_fits OfDeref t = first_fits _ [] tt none_fit
one_fits OfNot t = first_fits _ [] tt none_fit

two_fits : (f : TwoForm) (t u : Type') → Fit (two_part f t u)
two_fits OfApp t u = none_fit
two_fits OfBoth t u = none_fit
two_fits OfSeq t u = first_fits _ [] tt none_fit
two_fits OfPar t u = first_fits _ [] tt none_fit
two_fits OfWhile t u = first_fits _ [] tt none_fit
two_fits OfAssign t u = first_fits _ [] tt none_fit
two_fits (OfBin op) t u = first_fits _ [] tt none_fit

module _ (types : Types) (t : Type') (ss : List Split) where
  under_fits : (b : Binding) (m : Numbered) → Fit (parts_of types m) → Fit (shares ss types ++ (binder_part b t ++ parts_of types m))
  under_fits b m fit =
      both_fit (shares ss types) (binder_part b t ++ parts_of types m) (shares_fit ss types)
      (both_fit (binder_part b t) (parts_of types m) (binder_fits b t) fit)

  one_node_fits : (f : OneForm) (m : Numbered) → Fit (parts_of types m) → Fit (shares ss types ++ (one_part f t ++ parts_of types m))
  one_node_fits f m fit =
      both_fit (shares ss types) (one_part f t ++ parts_of types m) (shares_fit ss types)
      (both_fit (one_part f t) (parts_of types m) (one_fits f t) fit)

  two_node_fits : (f : TwoForm) (m n : Numbered) → Fit (parts_of types m) → Fit (parts_of types n)
      → Fit (shares ss types ++ (two_part f t (type_of_node n) ++ (parts_of types m ++ parts_of types n)))
  two_node_fits f m n one other =
      both_fit (shares ss types) (two_part f t (type_of_node n) ++ (parts_of types m ++ parts_of types n)) (shares_fit ss types)
      (both_fit (two_part f t (type_of_node n)) (parts_of types m ++ parts_of types n) (two_fits f t (type_of_node n))
      (both_fit (parts_of types m) (parts_of types n) one other))

pub literals_fit : (types : Types) (i : Imports) (g : List Type') (env : Meaning) (m : Numbered) (u : Type') → Typed i g (meaning env m) u
    → All LiteralFits (parts_of types m)
literals_fit types i g env (Closed t ss c) u typed =
    both_fit (shares ss types) (closed_part c) (shares_fit ss types) (closed_fits i g c u typed)
literals_fit types i g env (Use t ss n) u typed = shares_fit ss types
literals_fit types i g env (Under t ss OfFun n m) u typed =
    under_fits types t ss OfFun m (literals_fit types i (argument_of t ∷ g) (below n (inside ss env)) m typed.0 typed.2)
literals_fit types i g env (Under t ss (OfNew w) n m) u typed =
    under_fits types t ss (OfNew w) m (literals_fit types i (Var w ∷ g) (below n (inside ss env)) m u typed.2)
literals_fit types i g env (Under t ss (OfArray c w) n m) u typed =
    under_fits types t ss (OfArray c w) m (literals_fit types i (array_type c w ∷ g) (below n (inside ss env)) m u typed.3)
literals_fit types i g env (One t ss OfFst m) u typed = one_node_fits types t ss OfFst m (literals_fit types i g (inside ss env) m _ typed.1)
literals_fit types i g env (One t ss OfSnd m) u typed = one_node_fits types t ss OfSnd m (literals_fit types i g (inside ss env) m _ typed.1)
literals_fit types i g env (One t ss OfDeref m) u typed = one_node_fits types t ss OfDeref m (literals_fit types i g (inside ss env) m _ typed.2)
literals_fit types i g env (One t ss OfNot m) u typed = one_node_fits types t ss OfNot m (literals_fit types i g (inside ss env) m _ typed.2)
literals_fit types i g env (Two t ss OfApp m n) u typed =
    two_node_fits types t ss OfApp m n (literals_fit types i g (inside ss env) m _ typed.1) (literals_fit types i g (inside ss env) n _ typed.2)
literals_fit types i g env (Two t ss OfBoth m n) u typed =
    two_node_fits types t ss OfBoth m n (literals_fit types i g (inside ss env) m _ typed.3) (literals_fit types i g (inside ss env) n _ typed.4)
literals_fit types i g env (Two t ss OfSeq m n) u typed =
    two_node_fits types t ss OfSeq m n (literals_fit types i g (inside ss env) m _ typed.1) (literals_fit types i g (inside ss env) n _ typed.2)
literals_fit types i g env (Two t ss OfPar m n) u typed =
    two_node_fits types t ss OfPar m n (literals_fit types i g (inside ss env) m _ typed.1) (literals_fit types i g (inside ss env) n _ typed.2)
literals_fit types i g env (Two t ss OfWhile m n) u typed =
    two_node_fits types t ss OfWhile m n (literals_fit types i g (inside ss env) m _ typed.1) (literals_fit types i g (inside ss env) n _ typed.2)
literals_fit types i g env (Two t ss OfAssign m n) u typed =
    two_node_fits types t ss OfAssign m n (literals_fit types i g (inside ss env) m _ typed.2) (literals_fit types i g (inside ss env) n _ typed.3)
literals_fit types i g env (Two t ss (OfBin op) m n) u typed =
    two_node_fits types t ss (OfBin op) m n (literals_fit types i g (inside ss env) m _ typed.2) (literals_fit types i g (inside ss env) n _ typed.3)
literals_fit types i g env (If t ss m n p) u typed =
    both_fit (shares ss types) (kinds.If _ ∷ (parts_of types m ++ (parts_of types n ++ parts_of types p))) (shares_fit ss types)
    (first_fits (kinds.If _) (parts_of types m ++ (parts_of types n ++ parts_of types p)) tt
    (both_fit (parts_of types m) (parts_of types n ++ parts_of types p) (literals_fit types i g (inside ss env) m _ typed.1)
    (both_fit (parts_of types n) (parts_of types p) (literals_fit types i g (inside ss env) n _ typed.2)
    (literals_fit types i g (inside ss env) p _ typed.3))))

-- those of supplies fit, as their plans suit
supplies_fit : (is : List Imported) (ss : List Supply) → AreSupplied is ss → Fit (all_parts (plans_of ss))
supplies_fit is [] are = none_fit
supplies_fit [] (s ∷ ss) are = absurd are
supplies_fit (i ∷ is) (s ∷ ss) are = both_fit s.plan.parts (all_parts (plans_of ss)) are.0.suits.literals (supplies_fit is ss are.1)

pub joined_fit : (is : List Imported) (p r : Plan) (ss : List Supply) → AreSupplied is ss → IsJoined (supplying p ss) r → All LiteralFits p.parts → All LiteralFits r.parts
joined_fit is p r ss are join fit =
    subst (λ (xs : List Part). All LiteralFits xs) (sym join.joining.parts)
    (both_fit p.parts (all_parts (plans_of ss)) fit (supplies_fit is ss are))
