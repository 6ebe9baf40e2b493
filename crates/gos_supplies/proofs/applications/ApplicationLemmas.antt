-- The plan of an application realises it where the plans of the function and of its argument do.
use Rattle.std.specs.Prelude.{◌≡◌, ◌++◌, List, [], Option}
use Rattle.std.proofs.Common.{sym, ◌∙◌, subst}
use Rattle.gos_types.specs.Types.{Type', Fun}
use Rattle.gos_model.specs.Terms.{Name, Term, App}
use Rattle.gos_model.specs.Typing.{Imported}
use Rattle.gos_model.specs.Linking.{supplied}
use Rattle.gos_realises.specs.realises.Links.{IsJoined}
use Rattle.gos_realises.specs.realises.Realises.{NamesDiffer, Realises}
use Rattle.gos_realises.specs.realises.Modules.{Supply, AreSupplied, term_for, supplying}
use Rattle.gos_realises.proofs.realises.PlaceLemmas.{differ_first, differ_second, differ_between}
use Rattle.gos_realises.proofs.joined.WholeLemmas.{applied_is_joined, supplied_is_joined}
use Rattle.gos_joining.proofs.renumbered.ImportLemmas.{names_same}
use Rattle.gos_joining.proofs.renumbered.OrderLemmas.{reordered}
use Rattle.gos_joining.proofs.renumbered.HigherLemmas.{renumbered_is_realised}
use Rattle.gos_supplies.specs.applications.Applied.{ApplicationIsRealised}
use Rattle.gos_supplies.proofs.applications.TogetherLemmas.{imports_of, applied_is_supplied}
use Rattle.gos_supplies.proofs.applications.TermLemmas.{supplied_same, term_first, term_second, supplies_split}

pub application_is_realised : ApplicationIsRealised
application_is_realised a b p q s m n right_p right_q type_p type_q names typed_m typed_n of_s open_p open_q us z are_us of_z names_z =
    let imports : s.imports ≡ p.imports ++ q.imports = imports_of a b p q s of_s in
    let (ss, ts, same_us, of_ss, of_ts) = supplies_split p.imports q.imports us (subst (λ (l : List Imported). AreSupplied l us) imports are_us) in
    let (x, of_x) = supplied_is_joined p ss right_p of_ss in
    let (y, of_y) = supplied_is_joined q ts right_q of_ts in
    let type_x : x.outcome ≡ Fun a b = of_x.joining.outcome ∙ type_p in
    let type_y : y.outcome ≡ a = of_y.joining.outcome ∙ type_q in
    let (r, of_r) = applied_is_joined a b x y of_x.joining.right of_y.joining.right type_x type_y in
    let of_z_two : IsJoined (supplying s (ss ++ ts)) z = subst (λ (l : List Supply). IsJoined (supplying s l) z) same_us of_z in
    let (g, same) = applied_is_supplied a b p q s x y r z ss ts of_s of_ss of_ts of_x of_y of_r of_z_two in
    -- the names of the supplies' imports differ
    let names_r : NamesDiffer r.imports = names_same g.import g.import_back z.imports r.imports (reordered g z r same) names_z in
    let names_xy : NamesDiffer (x.imports ++ y.imports) = subst NamesDiffer (imports_of a b x y r of_r) names_r in
    let first : Term = supplied (term_for p.imports ss) m in
    let second : Term = supplied (term_for q.imports ts) n in
    let of_first : Realises (Fun a b) x first =
    subst (λ (t : Type'). Realises t x first) type_p (open_p ss x of_ss of_x (differ_first x.imports y.imports names_xy))
    in
    let of_second : Realises a y second = subst (λ (t : Type'). Realises t y second) type_q (open_q ts y of_ts of_y (differ_second x.imports y.imports names_xy)) in
    let (suits, means) = of_first.means y r second (differ_between x.imports y.imports names_xy) of_second.suits of_second.means of_r in
    let of_r_too : Realises b r (App first second) = record { suits = suits; means = means } in
    let of_z_too : Realises b z (App first second) = renumbered_is_realised g z r b (App first second) same of_r_too in
    -- the terms
    let both : Name → Option Term = term_for (p.imports ++ q.imports) (ss ++ ts) in
    let term_m : first ≡ supplied both m =
    sym (supplied_same p.imports both (term_for p.imports ss) (term_first p.imports q.imports ss ts of_ss) [] m (Fun a b) typed_m)
    in
    let term_n : second ≡ supplied both n =
    sym (supplied_same q.imports both (term_for q.imports ts) (term_second p.imports q.imports ss ts (subst NamesDiffer imports names) of_ss) [] n a typed_n)
    in
    let there : Realises b z (App (supplied both m) (supplied both n)) =
    subst (λ (u : Term). Realises b z u) (λ i. App (term_m i) (term_n i)) of_z_too
    in
    let supplies : App (supplied both m) (supplied both n) ≡ supplied (term_for s.imports us) (App m n) =
    λ i. supplied (term_for (sym imports i) (sym same_us i)) (App m n)
    in
    subst (λ (t : Type'). Realises t z (supplied (term_for s.imports us) (App m n))) (sym of_s.joining.outcome) (subst (λ (u : Term). Realises b z u) supplies there)
