-- No fault is found in a module exactly where it is accepted.
use Rattle.std.specs.Prelude.{◌≡◌, ◌≢◌, ◌≤◌, ℕ, List, [], ◌∷◌, ◌++◌, false, Option, Some, None, Ok, Err, MatchOption, nat_lt}
use Rattle.std.proofs.Common.{arith, refl, sym, ap, subst, ◌∙◌}
use Rattle.std.proofs.lemmas.Bool.Decides.{nat_tests}
use Rattle.gos_lex.specs.declared.token.Span.{Span}
use Rattle.gos_types.specs.Types.{Type', type_of}
use Rattle.gos_syntax.specs.Trees.{tree_of}
use Rattle.gos_syntax.specs.Modules.{SeenImport, SeenModule}
use Rattle.gos_model.specs.Terms.{Name}
use Rattle.gos_model.specs.Typing.{Typed}
use Rattle.gos_model.specs.Weight.{weight}
use Rattle.gos_model.specs.Sources.{program_of}
use Rattle.gos_model.specs.Laws.{NodeHasType}
use Rattle.gos_check.specs.declared.fault.CheckFault.{CheckFault}
use Rattle.gos_check.specs.Faults.{Fault, fault_of, after, Refuses, TooHeavy}
use Rattle.gos_check.specs.Written.{written}
use Rattle.gos_check.specs.Demands.{demanded}
use Rattle.gos_check.specs.Judging.{judged}
use Rattle.gos_check.specs.Judgements.{import_place, new_name, imports_judged, light, module_judged}
use Rattle.gos_check.specs.Accepted.{IsNew, NamesDiffer, AreWritten, IsAccepted, IsRefused, weighed, FoundExactly}
use Rattle.gos_check.proofs.TypeLemmas.{demanded_same}
use Rattle.gos_check.proofs.FoundLemmas.{after_is, demanded_is, unless_ok}
use Rattle.gos_check.proofs.NameLemmas.{name_cases, other_false}
use Rattle.gos_check.proofs.AcceptLemmas.{written_is, judged_typed, judged_keeps}
use Rattle.gos_check.proofs.CompleteLemmas.{after_ok, written_ok, typed_judged}

-- the names of some imports are new after others
abbrev AreNew : List SeenImport → List SeenImport → Type 0
AreNew before [] = Unit {0}
AreNew before (i ∷ is) = IsNew i.name before × AreNew before is

no_place_new : (before : List SeenImport) (x : Name) → import_place before x ≡ None → IsNew x before
no_place_new [] x h = tt
no_place_new (i ∷ before) x h =
    name_cases i.name x (λ e t. let q : (Some i.name_span) ≡ None = sym (rw t refl) ∙ h in cc)
    (λ other f. (other, no_place_new before x (sym (rw f refl) ∙ h)))

new_no_place : (before : List SeenImport) (x : Name) → IsNew x before → import_place before x ≡ None
new_no_place [] x h = refl
new_no_place (i ∷ before) x h = rw (other_false i.name x h.0) (new_no_place before x h.1)

new_is : (i : SeenImport) (p : Option Span) → new_name i p ≡ Ok tt → p ≡ None
new_is i None h = refl
new_is i (Some s) h = cc

new_ok : (i : SeenImport) (p : Option Span) → p ≡ None → new_name i p ≡ Ok tt
new_ok i p h = rw h refl

new_after : (x : Name) (before : List SeenImport) (i : SeenImport) → IsNew x (before ++ i ∷ []) → IsNew x before × (i.name ≢ x)
new_after x [] i h = (tt, h.0)
new_after x (j ∷ before) i h = let q = new_after x before i h.1 in ((h.0, q.0), q.1)

after_new : (x : Name) (before : List SeenImport) (i : SeenImport) → IsNew x before → i.name ≢ x → IsNew x (before ++ i ∷ [])
after_new x [] i h k = (k, tt)
after_new x (j ∷ before) i h k = (h.0, after_new x before i h.1 k)

all_new_after : (before : List SeenImport) (i : SeenImport) (is : List SeenImport) → AreNew (before ++ i ∷ []) is → AreNew before is × IsNew i.name is
all_new_after before i [] h = (tt, tt)
all_new_after before i (j ∷ is) h =
    let p = new_after j.name before i h.0 in let q = all_new_after before i is h.1 in ((p.0, q.0), (λ e. p.1 (sym e), q.1))

all_after_new : (before : List SeenImport) (i : SeenImport) (is : List SeenImport) → AreNew before is → IsNew i.name is → AreNew (before ++ i ∷ []) is
all_after_new before i [] h k = tt
all_after_new before i (j ∷ is) h k = (after_new j.name before i h.0 (λ e. k.0 (sym e)), all_after_new before i is h.1 k.1)

imports_is : (before is : List SeenImport) → imports_judged before is ≡ Ok tt → AreNew before is × NamesDiffer is × AreWritten is
imports_is before [] h = (tt, tt, tt)
imports_is before (i ∷ is) h =
    let p = after_is (new_name i (import_place before i.name)) (λ _. after (written i.ty_span (type_of i.ty)) (λ _. imports_judged (before ++ i ∷ []) is)) tt h in
    let q = after_is (written i.ty_span (type_of i.ty)) (λ _. imports_judged (before ++ i ∷ []) is) tt p.2 in
    let r = imports_is (before ++ i ∷ []) is q.2 in
    let s = all_new_after before i is r.0 in
    ((no_place_new before i.name (new_is i (import_place before i.name) p.1), s.0), (s.1, r.1), (written_is i.ty_span (type_of i.ty) q.0 q.1, r.2))

imports_ok : (before is : List SeenImport) → AreNew before is → NamesDiffer is → AreWritten is → imports_judged before is ≡ Ok tt
imports_ok before [] h k l = refl
imports_ok before (i ∷ is) h k l =
    after_ok (new_name i (import_place before i.name)) (λ _. after (written i.ty_span (type_of i.ty)) (λ _. imports_judged (before ++ i ∷ []) is)) tt tt
    (new_ok i (import_place before i.name) (new_no_place before i.name h.0))
    (after_ok (written i.ty_span (type_of i.ty)) (λ _. imports_judged (before ++ i ∷ []) is) (type_of i.ty) tt (written_ok i.ty_span (type_of i.ty) l.0)
    (imports_ok (before ++ i ∷ []) is (all_after_new before i is h.1 k.0) k.1 l.1))

none_before : (is : List SeenImport) → AreNew [] is
none_before [] = tt
none_before (i ∷ is) = (tt, none_before is)

light_is : (n w : ℕ) → light n ≡ Ok w → (n ≤ 8192) × (n ≡ w)
light_is n w h = let p = unless_ok (nat_lt 8192 n) n w (TooHeavy n) h in (grind (arith, nat_tests), p.1)

light_ok : (n w : ℕ) → n ≤ 8192 → n ≡ w → light n ≡ Ok w
light_ok n w h e = let t : nat_lt 8192 n ≡ false = grind (arith, nat_tests) in rw t (ap Ok e)

accepted_found : (m : SeenModule) (w : ℕ) → module_judged m ≡ Ok w → IsAccepted m × (weight (program_of m).imports (program_of m).body ≡ w)
accepted_found m w h =
    let p = after_is (imports_judged [] m.imports) _ w h in
    let q = after_is (written m.result_span (type_of m.result)) _ w p.2 in
    let r = after_is (judged (program_of m).imports [] (tree_of m.body.form m.body.span)) _ w q.2 in
    let s = after_is (demanded m.body.span (type_of m.result) r.0) (λ _. light (weight (program_of m).imports (program_of m).body)) w r.2 in
    let i = imports_is [] m.imports p.1 in
    let d = demanded_is m.body.span (type_of m.result) r.0 s.0 s.1 in
    let l = light_is (weight (program_of m).imports (program_of m).body) w s.2 in (
      record {
        names = i.1;
        imports = i.2;
        result = written_is m.result_span (type_of m.result) q.0 q.1;
        typed =
            subst (λ (t : Type'). Typed (program_of m).imports [] (program_of m).body t) (sym d.0)
            (judged_typed (program_of m).imports [] (tree_of m.body.form m.body.span) r.0 r.1);
        limits = judged_keeps (program_of m).imports [] (tree_of m.body.form m.body.span) r.0 r.1;
        weight = l.0;
      },
      l.1,
    )

found_accepted : NodeHasType → (m : SeenModule) (w : ℕ) → IsAccepted m → weight (program_of m).imports (program_of m).body ≡ w → module_judged m ≡ Ok w
found_accepted law m w a e =
    after_ok (imports_judged [] m.imports) _ tt w (imports_ok [] m.imports (none_before m.imports) a.names a.imports)
    (after_ok (written m.result_span (type_of m.result)) _ (type_of m.result) w (written_ok m.result_span (type_of m.result) a.result)
    (after_ok (judged (program_of m).imports [] (tree_of m.body.form m.body.span)) _ (type_of m.result) w
    (typed_judged law (program_of m).imports [] (tree_of m.body.form m.body.span) (type_of m.result) a.typed a.limits)
    (after_ok (demanded m.body.span (type_of m.result) (type_of m.result)) (λ _. light (weight (program_of m).imports (program_of m).body)) (type_of m.result) w
    (demanded_same m.body.span (type_of m.result) (type_of m.result) refl)
    (light_ok (weight (program_of m).imports (program_of m).body) w a.weight e))))

-- no fault is found exactly where a module is accepted
pub found_exactly : NodeHasType → FoundExactly
found_exactly law m w = (accepted_found m w, λ a. found_accepted law m w a.0 a.1)

-- a module with no fault is accepted
pub accepted_where_none : FoundExactly → (m : SeenModule) (w : ℕ) → module_judged m ≡ Ok w → IsAccepted m
accepted_where_none law m w h = ((law m w).0 h).0

-- a module with a fault is not accepted
pub refused_where_fault : FoundExactly → (m : SeenModule) (e : CheckFault) → Refuses (module_judged m) e → IsRefused m e
refused_where_fault law m e h = at_fault (fault_of e) h
  where
    at_fault : (f : Option Fault) → MatchOption f (Unit {0}) (λ fault. module_judged m ≡ Err fault) → MatchOption f (Unit {0}) (λ _. IsAccepted m → ⊥)
    at_fault None k = tt
    at_fault (Some fault) k = λ accepted. let q : module_judged m ≡ Ok (weighed m) = (law m (weighed m)).1 (accepted, refl) in cc
