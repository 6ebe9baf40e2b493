-- A node, closed by functions over its numbers.
use Rattle.std.specs.Prelude.{◌≡◌, ℕ, List, [], ◌∷◌, ◌++◌, Some, slice_get}
use Rattle.std.proofs.Common.{refl, sym, ap, subst, arith}
use Rattle.std.proofs.lemmas.List.{append-nil}
use Rattle.std.proofs.lemmas.Option.{slice_get_within}
use Rattle.gos_types.specs.Types.{Fun}
use Rattle.gos_types.proofs.ListLemmas.{none_in_empty}
use Rattle.gos_check.specs.Nodes.{Numbered, Under, OfFun, type_of_node}
use Rattle.gos_check.proofs.TimesLemmas.{times-append}
use Rattle.gos_plan.specs.Kinds.{Part}
use Rattle.gos_plan.specs.Plans.{Plan}
use Rattle.gos_joining.proofs.weaving.PlanLemmas.{web_has_plan}
use Rattle.gos_compile.specs.Wiring.{Types, parts_of}
use Rattle.gos_terms.specs.wired.Wired.{Supplies, Placing, Source, Own, Supplied, IsFrom, placed, wired_web, IsWired}
use Rattle.gos_terms.specs.wired.NodeFitting.{AreOfTypes, WiredNodeFits, FittingIsPlain}
use Rattle.gos_terms.specs.wired.Regular.{RegularWired}
use Rattle.gos_terms.specs.applying.Uses.{IsPlaced}
use Rattle.gos_terms.specs.numbers.Kept.{IsKept}
use Rattle.gos_terms.specs.function_forms.Functions.{FunctionNodeIsRegular}
use Rattle.gos_terms.proofs.function_forms.KeptLemmas.{can_be_wired}
use Rattle.gos_terms.specs.regular.Opened.{closed, ClosedIsKept, ClosedIsRegular}

pub append_three : (ks : List ℕ) (n : ℕ) (ns : List ℕ) → (ks ++ n ∷ []) ++ ns ≡ ks ++ n ∷ ns
append_three [] n ns = refl
append_three (k ∷ ks) n ns = ap (λ (xs : List ℕ). k ∷ xs) (append_three ks n ns)

-- one function
function_kept : (types : Types) (ks : List ℕ) (n : ℕ) (m : Numbered) → IsKept types (ks ++ n ∷ []) m
    → IsKept types ks (Under (Fun (types n) (type_of_node m)) [] OfFun n m)
function_kept types ks n m kept =
    record {
      once = λ k. (let one = kept.once k in let sum = times-append k ks (n ∷ []) in omega (arith, one, sum));
      used_once = kept.used_once;
      scope = (tt, kept.scope);
      within = ((λ k some. absurd (omega (arith, some))), kept.within);
      apart = ((λ s a b one. absurd one), kept.apart);
      forks = (refl, kept.forks);
      typed = (tt, refl, kept.typed);
    }

pub closed_is_kept : ClosedIsKept
closed_is_kept types ks [] m kept = subst (λ (xs : List ℕ). IsKept types xs m) (append-nil ks) kept
closed_is_kept types ks (n ∷ ns) m kept =
    function_kept types ks n (closed types ns m)
    (closed_is_kept types (ks ++ n ∷ []) ns m (subst (λ (xs : List ℕ). IsKept types xs m) (sym (append_three ks n ns)) kept))

pub closed_is_regular : FunctionNodeIsRegular → ClosedIsRegular
closed_is_regular law types ks [] m kept regular = subst (λ (xs : List ℕ). RegularWired types xs m) (append-nil ks) regular
closed_is_regular law types ks (n ∷ ns) m kept regular =
    law types ks (Fun (types n) (type_of_node (closed types ns m))) n (closed types ns m) (closed_is_kept types ks (n ∷ ns) m kept)
    (closed_is_regular law types (ks ++ n ∷ []) ns m (subst (λ (xs : List ℕ). IsKept types xs m) (sym (append_three ks n ns)) kept)
    (subst (λ (xs : List ℕ). RegularWired types xs m) (sym (append_three ks n ns)) regular))

-- functions have no parts of their own
pub closed_parts : (types : Types) (ns : List ℕ) (m : Numbered) → parts_of types (closed types ns m) ≡ parts_of types m
closed_parts types [] m = refl
closed_parts types (n ∷ ns) m = closed_parts types ns m

-- Each part of the plan is the node's own.
abbrev pub at_home : Placing
at_home =
    record { own = λ k. k; supplied = λ n k. 0; import = λ n k. 0; source = Own; origin = λ k. record { number = 0; import = k } }

-- a node without supplies
module _ (fits : WiredNodeFits) (plain : FittingIsPlain) (types : Types) (i j : ℕ) (m : Numbered) (env : Supplies) (kept : IsKept types [] m) where
  abbrev unjoined : Plan
  unjoined = record { weight = 0; imports = []; outcome = type_of_node m; parts = parts_of types m; joints = [] }

  there : (x : Part) (s : Source) → IsFrom (parts_of types m) [] env x s
      → (slice_get unjoined.parts (placed at_home s) ≡ Some x) × (at_home.source (placed at_home s) ≡ s)
  there x (Own k) from = (from, refl)
  there x (Supplied n k) from = absurd (none_in_empty n from.0)

  are_placed : IsPlaced types m [] env at_home unjoined
  are_placed =
      record {
        outcome = refl;
        parts = there;
        no_more = λ k x at. (at, refl);
        imports = λ n k x has at. absurd (none_in_empty n has);
        no_import = λ k x at. absurd (let small = slice_get_within unjoined.imports k x at in omega (arith, small));
      }

  of_types : AreOfTypes types env []
  of_types n has = absurd (none_in_empty n has)

  pub closed_wired : (pl : Placing) × (r : Plan) × IsWired types i j m [] env pl r × (r.imports ≡ []) × (r.parts ≡ parts_of types m)
  closed_wired =
      let (fit, simple) = can_be_wired fits plain types i j m [] env kept of_types at_home unjoined are_placed in
      let (js, web) = web_has_plan (wired_web types i j m [] env at_home) unjoined fit simple in (
        at_home,
        record unjoined { joints = js },
        record {
          outcome = refl;
          parts = are_placed.parts;
          no_more = are_placed.no_more;
          imports = are_placed.imports;
          no_import = are_placed.no_import;
          web = web;
        },
        refl,
        refl,
      )
