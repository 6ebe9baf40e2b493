-- The term with the giver's term in it has its type under the imports that stay, and the plan of both realises a module.
use Rattle.std.specs.Prelude.{◌≡◌, ◌≢◌, zero, suc, Bool, true, false, List, [], ◌∷◌, ◌++◌, Option, Some, None, Contains, if◌then◌else◌}
use Rattle.std.specs.Str.{bytes_eq}
use Rattle.std.proofs.Common.{refl, sym, ◌∙◌, ap, subst, arith}
use Rattle.std.proofs.lemmas.List.Elements.{Contains-append_right}
use Rattle.gos_types.specs.Types.{Type'}
use Rattle.gos_types.specs.Widths.{HasWidths}
use Rattle.gos_types.proofs.BytesLemmas.{bytes_eq_same}
use Rattle.gos_model.specs.Terms.{Name, Term, Skip, Lit, Bound, Import, Lam, App, Both, Fst, Snd, Seq, Par, If, While, Assign, Deref, New, NewArray, Not, Bin, Loc, Arr, Scope, Wait, Held, Put}
use Rattle.gos_model.specs.Typing.{Imported, import_type, Named, things, Apart, Typed}
use Rattle.gos_model.specs.Linking.{or_import, supplied}
use Rattle.gos_realises.specs.realises.Realises.{NamesDiffer}
use Rattle.gos_realises.specs.realises.Modules.{HaveWidths}
use Rattle.gos_realises.proofs.realises.PlaceLemmas.{differ_between}
use Rattle.gos_joining.proofs.renumbered.ImportLemmas.{has_type}
use Rattle.gos_supplies.specs.typing.Supplied.{AreTyped, ShareNothing}
use Rattle.gos_supplies.proofs.typing.NameLemmas.{typed_under}
use Rattle.gos_supplies.proofs.typing.WhenceLemmas.{named, with_supplies}
use Rattle.gos_supplies.specs.instances.Served.{bound_to, ServedIsTyped, ServedIsModule}
use Rattle.gos_supplies.proofs.instances.TermLemmas.{other_type}
use Rattle.gos_supplies.proofs.instances.TogetherLemmas.{served_leaves}
use Rattle.gos_supplies.proofs.instances.OpenLemmas.{served_is_open}

-- a term for each name: the name where f has none
abbrev pub or_itself : (Name → Option Term) → Name → Option Term
or_itself f y = Some (or_import y (f y))

pub with_names : (f : Name → Option Term) (m : Term) → supplied f m ≡ supplied (or_itself f) m
with_names f Skip = refl
with_names f (Lit k w) = refl
with_names f (Bound n) = refl
with_names f (Import x) = refl
with_names f (Lam a m) = ap (Lam a) (with_names f m)
with_names f (App m n) = let a = with_names f m in let b = with_names f n in λ i. App (a i) (b i)
with_names f (Both m n) = let a = with_names f m in let b = with_names f n in λ i. Both (a i) (b i)
with_names f (Fst m) = ap Fst (with_names f m)
with_names f (Snd m) = ap Snd (with_names f m)
with_names f (Seq m n) = let a = with_names f m in let b = with_names f n in λ i. Seq (a i) (b i)
with_names f (Par m n) = let a = with_names f m in let b = with_names f n in λ i. Par (a i) (b i)
with_names f (If m n p) = let a = with_names f m in let b = with_names f n in let c = with_names f p in λ i. If (a i) (b i) (c i)
with_names f (While m n) = let a = with_names f m in let b = with_names f n in λ i. While (a i) (b i)
with_names f (Assign m n) = let a = with_names f m in let b = with_names f n in λ i. Assign (a i) (b i)
with_names f (Deref m) = ap Deref (with_names f m)
with_names f (New w m) = ap (New w) (with_names f m)
with_names f (NewArray n w m) = ap (NewArray n w) (with_names f m)
with_names f (Not m) = ap Not (with_names f m)
with_names f (Bin op m n) = let a = with_names f m in let b = with_names f n in λ i. Bin op (a i) (b i)
with_names f (Loc l) = refl
with_names f (Arr l) = refl
with_names f (Scope l m) = ap (Scope l) (with_names f m)
with_names f (Wait x s) = refl
with_names f (Held k op n) = ap (Held k op) (with_names f n)
with_names f (Put m k) = ap (λ (n : Term). Put n k) (with_names f m)

-- the types of names in two lists of imports
first_type : (is js : List Imported) (y : Name) (t : Type') → import_type is y ≡ Some t → import_type (is ++ js) y ≡ Some t
first_type [] js y t e = absurd (cc e)
first_type (i ∷ is) js y t e = by_test (bytes_eq i.name y) e (first_type is js y t)
  where
    by_test : (b : Bool) → (if b then Some i.ty else import_type is y) ≡ Some t → (import_type is y ≡ Some t → import_type (is ++ js) y ≡ Some t)
        → (if b then Some i.ty else import_type (is ++ js) y) ≡ Some t
    by_test true has rest = has
    by_test false has rest = rest has

last_type : (is js : List Imported) (j : Imported) → NamesDiffer (is ++ js) → Contains js j → import_type (is ++ js) j.name ≡ import_type js j.name
last_type [] js j differ has = refl
last_type (i ∷ is) js j differ has = by_test (bytes_eq i.name j.name) refl (last_type is js j differ.1 has)
  where
    by_test : (b : Bool) → bytes_eq i.name j.name ≡ b → import_type (is ++ js) j.name ≡ import_type js j.name
        → (if b then Some i.ty else import_type (is ++ js) j.name) ≡ import_type js j.name
    by_test true test rest = absurd (differ.0 j (Contains-append_right is js j has) (bytes_eq_same i.name j.name test))
    by_test false test rest = rest

middle_type : (is js : List Imported) (x : Imported) (y : Name) → NamesDiffer (is ++ (x ∷ js)) → bytes_eq x.name y ≡ true
    → import_type (is ++ (x ∷ js)) y ≡ Some x.ty
middle_type [] js x y differ test = ap (λ (b : Bool). if b then Some x.ty else import_type js y) test
middle_type (i ∷ is) js x y differ test = by_test (bytes_eq i.name y) refl (middle_type is js x y differ.1 test)
  where
    by_test : (b : Bool) → bytes_eq i.name y ≡ b → import_type (is ++ (x ∷ js)) y ≡ Some x.ty
        → (if b then Some i.ty else import_type (is ++ (x ∷ js)) y) ≡ Some x.ty
    by_test true own rest = absurd (differ.0 x (Contains-append_right is (x ∷ js) x (0, omega arith, refl)) (bytes_eq_same i.name y own ∙ sym (bytes_eq_same x.name y test)))
    by_test false own rest = rest

module _ (is js qs : List Imported) (x : Imported) (n : Term) (names : NamesDiffer (is ++ (x ∷ js))) (differ : NamesDiffer ((is ++ js) ++ qs))
    (typed_n : Typed qs [] n x.ty)
  where
    abbrev all : List Imported
    all = (is ++ js) ++ qs

    abbrev ps : List Imported
    ps = is ++ (x ∷ js)

    abbrev given : Name → Option Term
    given = or_itself (bound_to x.name n)

    -- the giver's term
    giver_typed : Typed all [] n x.ty
    giver_typed = typed_under qs all n 0 [] [] x.ty same typed_n
      where
        same : (y : Name) → Contains (things 0 n) (Named y) → import_type all y ≡ import_type qs y
        same y has =
            let there = named qs (Named y) n 0 [] x.ty (omega arith) typed_n has in
            let name : y ≡ there.import.name = cc there.same in
            ap (import_type all) name ∙ (last_type (is ++ js) qs there.import differ there.has ∙ ap (import_type qs) (sym name))

    stays : (y : Name) (t : Type') → bytes_eq x.name y ≡ false → import_type ps y ≡ Some t → import_type (is ++ js) y ≡ Some t
    stays y t other e = sym (other_type is js x y other) ∙ e

    all_typed : AreTyped ps all given
    all_typed y t e = by_test (bytes_eq x.name y) refl
      where
        by_test : (b : Bool) → bytes_eq x.name y ≡ b
            → (k : Term) × (Some (or_import y (if b then Some n else None)) ≡ Some k) × Typed all [] k t
        by_test true test =
            let types : Some x.ty ≡ Some t = sym (middle_type is js x y names test) ∙ e in
            let same : x.ty ≡ t = cc types in
            (n, refl, subst (λ (u : Type'). Typed all [] n u) same giver_typed)
        by_test false test = (Import y, refl, first_type (is ++ js) qs y t (stays y t test e))

    -- a name that stays is none of the giver's
    none_of_giver : (y : Name) (t : Type') → import_type (is ++ js) y ≡ Some t → Apart (Import y) n
    none_of_giver y t e z (zero, small, at) in_n =
        let (j, has, test, typed) = has_type (is ++ js) y t e in
        let there = named qs z n 0 [] x.ty (omega arith) typed_n in_n in
        let both : Named y ≡ Named there.import.name = at ∙ there.same in
        let name : y ≡ there.import.name = cc both in
        differ_between (is ++ js) qs differ j there.import has there.has (bytes_eq_same j.name y test ∙ name)
    none_of_giver y t e z (suc k, small, at) in_n = omega (arith, small)

    two_names : (y z : Name) → y ≢ z → Apart (Import y) (Import z)
    two_names y z apart w (zero, small, at) (zero, low, of_z) =
        let both : Named y ≡ Named z = at ∙ sym of_z in
        let same : y ≡ z = cc both in
        apart same
    two_names y z apart w (suc k, small, at) in_z = omega (arith, small)
    two_names y z apart w (zero, small, at) (suc k, low, of_z) = omega (arith, low)

    share_none : ShareNothing ps given
    share_none y z t u k l of_y of_z term_y term_z apart = by_tests (bytes_eq x.name y) (bytes_eq x.name z) refl refl term_y term_z
      where
        by_tests : (b c : Bool) → bytes_eq x.name y ≡ b → bytes_eq x.name z ≡ c → Some (or_import y (if b then Some n else None)) ≡ Some k
            → Some (or_import z (if c then Some n else None)) ≡ Some l → Apart k l
        by_tests true true own other at_k at_l w in_k in_l = absurd (apart (sym (bytes_eq_same x.name y own) ∙ bytes_eq_same x.name z other))
        by_tests true false own other at_k at_l w in_k in_l =
            let is_k : n ≡ k = cc at_k in
            let is_l : Import z ≡ l = cc at_l in
            none_of_giver z u (stays z u other of_z) w (subst (λ (m : Term). Contains (things 0 m) w) (sym is_l) in_l)
            (subst (λ (m : Term). Contains (things 0 m) w) (sym is_k) in_k)
        by_tests false true own other at_k at_l w in_k in_l =
            let is_k : Import y ≡ k = cc at_k in
            let is_l : n ≡ l = cc at_l in
            none_of_giver y t (stays y t own of_y) w (subst (λ (m : Term). Contains (things 0 m) w) (sym is_k) in_k)
            (subst (λ (m : Term). Contains (things 0 m) w) (sym is_l) in_l)
        by_tests false false own other at_k at_l w in_k in_l =
            let is_k : Import y ≡ k = cc at_k in
            let is_l : Import z ≡ l = cc at_l in
            two_names y z apart w (subst (λ (m : Term). Contains (things 0 m) w) (sym is_k) in_k)
            (subst (λ (m : Term). Contains (things 0 m) w) (sym is_l) in_l)

pub served_is_typed : ServedIsTyped
served_is_typed is js qs x m n t names differ typed_m typed_n =
    let given = or_itself (bound_to x.name n) in
    subst (λ (k : Term). Typed ((is ++ js) ++ qs) [] k t) (sym (with_names (bound_to x.name n) m))
    (with_supplies (is ++ (x ∷ js)) ((is ++ js) ++ qs) given (all_typed is js qs x n names differ typed_n) (share_none is js qs x n names differ typed_n) m [] t typed_m)

-- the types that stay have widths
pub wide_both : (is js : List Imported) → HaveWidths is → HaveWidths js → HaveWidths (is ++ js)
wide_both [] js first second = second
wide_both (i ∷ is) js (one, first) second = (one, wide_both is js first second)

wide_but_one : (is js : List Imported) (x : Imported) → HaveWidths (is ++ (x ∷ js)) → HaveWidths (is ++ js)
wide_but_one [] js x (one, rest) = rest
wide_but_one (i ∷ is) js x (one, rest) = (one, wide_but_one is js x rest)

served_wide : (is js : List Imported) (x : Imported) (qs : List Imported) → HaveWidths (is ++ (x ∷ js)) → HaveWidths qs → HaveWidths ((is ++ js) ++ qs)
served_wide is js x qs wide others = wide_both (is ++ js) qs (wide_but_one is js x wide) others

pub served_is_module : ServedIsModule
served_is_module is js x p q s m n imports type_q names of_s of_p of_q regular slim =
    let left = served_leaves is js x p q s imports of_s in
    let term : Term = supplied (bound_to x.name n) m in
    let typed : Typed ((is ++ js) ++ q.imports) [] term p.outcome =
    served_is_typed is js q.imports x m n p.outcome (subst NamesDiffer imports of_p.names) (subst NamesDiffer left names)
    (subst (λ (l : List Imported). Typed l [] m p.outcome) imports of_p.typed) (subst (λ (t : Type'). Typed q.imports [] n t) type_q of_q.typed)
    in
    record {
      right = of_s.joining.right;
      names = names;
      result_widths = subst HasWidths (sym of_s.joining.outcome) of_p.result_widths;
      import_widths = subst HaveWidths (sym left) (served_wide is js x q.imports (subst HaveWidths imports of_p.import_widths) of_q.import_widths);
      typed =
          subst (λ (t : Type'). Typed s.imports [] term t) (sym of_s.joining.outcome) (subst (λ (l : List Imported). Typed l [] term p.outcome) (sym left) typed);
      regular = regular;
      slim = slim;
      open_imports =
          served_is_open is js x p q s m n of_p.right of_q.right imports type_q of_p.names names of_p.typed of_q.typed of_s of_p.open_imports
          of_q.open_imports;
    }
