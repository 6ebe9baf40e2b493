-- The plan of a plan and its giver realises the term with the giver's term in it, with any supplies.
use Rattle.std.specs.Prelude.{◌≡◌, List, [], ◌∷◌, ◌++◌, Option}
use Rattle.std.proofs.Common.{refl, sym, ◌∙◌, ap, subst}
use Rattle.std.proofs.lemmas.List.{append_assoc}
use Rattle.gos_types.specs.Types.{Type'}
use Rattle.gos_model.specs.Terms.{Name, Term}
use Rattle.gos_model.specs.Typing.{Imported, Typed}
use Rattle.gos_model.specs.Linking.{supplied}
use Rattle.gos_realises.specs.realises.Links.{IsJoined}
use Rattle.gos_realises.specs.realises.Realises.{NamesDiffer, Realises}
use Rattle.gos_realises.specs.realises.Modules.{Supply, AreSupplied, term_for, supplying}
use Rattle.gos_realises.proofs.realises.PlaceLemmas.{differ_second}
use Rattle.gos_realises.proofs.joined.WholeLemmas.{supplied_is_joined}
use Rattle.gos_joining.proofs.renumbered.ImportLemmas.{names_same}
use Rattle.gos_joining.proofs.renumbered.OrderLemmas.{reordered}
use Rattle.gos_joining.proofs.renumbered.HigherLemmas.{renumbered_is_realised}
use Rattle.gos_supplies.specs.typing.Supplied.{imports_of}
use Rattle.gos_supplies.proofs.typing.LeftLemmas.{imports_are_of_supplies}
use Rattle.gos_supplies.proofs.applications.TogetherLemmas.{supplied_two}
use Rattle.gos_supplies.proofs.applications.TermLemmas.{supplied_same, supplies_split}
use Rattle.gos_supplies.specs.instances.Served.{bound_to, ServedIsOpen}
use Rattle.gos_supplies.proofs.instances.TermLemmas.{supplied_then, supplied_twice, agrees}
use Rattle.gos_supplies.proofs.instances.TogetherLemmas.{served_leaves, served_is_supplied}

pub imports_two : (ss ts : List Supply) → imports_of (ss ++ ts) ≡ imports_of ss ++ imports_of ts
imports_two [] ts = refl
imports_two (s ∷ ss) ts =
    let rest = imports_two ss ts in
    ap (λ (l : List Imported). s.plan.imports ++ l) rest ∙ sym (append_assoc s.plan.imports (imports_of ss) (imports_of ts))

pub served_is_open : ServedIsOpen
served_is_open is js x p q s m n right_p right_q imports type_q names_p names typed_m typed_n of_s open_p open_q us z are_us of_z names_z =
    let left = served_leaves is js x p q s imports of_s in
    let (gs, ts, same_us, of_gs, of_ts) = supplies_split (is ++ js) q.imports us (subst (λ (l : List Imported). AreSupplied l us) left are_us) in
    let (fs, bs, same_gs, of_fs, of_bs) = supplies_split is js gs of_gs in
    let all_same : us ≡ (fs ++ bs) ++ ts = same_us ∙ ap (λ (l : List Supply). l ++ ts) same_gs in
    let of_two : AreSupplied (is ++ js) (fs ++ bs) = supplied_two is js fs bs of_fs of_bs in
    let of_z_three : IsJoined (supplying s ((fs ++ bs) ++ ts)) z = subst (λ (l : List Supply). IsJoined (supplying s l) z) all_same of_z in
    let (y, of_y) = supplied_is_joined q ts right_q of_ts in
    -- the names of the giver's supplies' imports differ
    let all_imports : z.imports ≡ imports_of (fs ++ bs) ++ imports_of ts =
    imports_are_of_supplies s z ((fs ++ bs) ++ ts) of_z_three.joining ∙ imports_two (fs ++ bs) ts
    in
    let names_ts : NamesDiffer (imports_of ts) =
    differ_second (imports_of (fs ++ bs)) (imports_of ts) (subst NamesDiffer all_imports names_z)
    in
    let names_y : NamesDiffer y.imports = subst NamesDiffer (sym (imports_are_of_supplies q y ts of_y.joining)) names_ts in
    let term : Term = supplied (term_for q.imports ts) n in
    let of_giver : Realises x.ty y term = subst (λ (t : Type'). Realises t y term) type_q (open_q ts y of_ts of_y names_y) in
    -- so it is a supply
    let v : Supply = record { plan = y; term = term } in
    let vs : List Supply = fs ++ (v ∷ bs) in
    let are_vs : AreSupplied p.imports vs =
    subst (λ (l : List Imported). AreSupplied l vs) (sym imports) (supplied_two is (x ∷ js) fs (v ∷ bs) of_fs (of_giver, of_bs))
    in
    let (r, of_r) = supplied_is_joined p vs right_p are_vs in
    let (g, same) = served_is_supplied is js x p q s y r z term fs bs ts imports of_s of_fs of_bs of_ts of_y of_r of_z_three in
    let names_r : NamesDiffer r.imports = names_same g.import g.import_back z.imports r.imports (reordered g z r same) names_z in
    let there : Realises p.outcome z (supplied (term_for p.imports vs) m) =
    renumbered_is_realised g z r p.outcome (supplied (term_for p.imports vs) m) same (open_p vs r are_vs of_r names_r)
    in
    -- the terms
    let all : Name → Option Term = term_for ((is ++ js) ++ q.imports) ((fs ++ bs) ++ ts) in
    let agree =
    agrees is js q.imports x fs bs ts v n q.outcome of_fs of_two (subst NamesDiffer imports names_p) (subst NamesDiffer left names) typed_n refl
    in
    let given : supplied all (supplied (bound_to x.name n) m) ≡ supplied (term_for (is ++ (x ∷ js)) vs) m =
    supplied_twice (bound_to x.name n) all m
    ∙ supplied_same (is ++ (x ∷ js)) (supplied_then (bound_to x.name n) all) (term_for (is ++ (x ∷ js)) vs) agree [] m p.outcome
    (subst (λ (l : List Imported). Typed l [] m p.outcome) imports typed_m)
    in
    let terms : supplied (term_for p.imports vs) m ≡ supplied (term_for s.imports us) (supplied (bound_to x.name n) m) =
    ap (λ (l : List Imported). supplied (term_for l vs) m) imports
    ∙ (sym given ∙ (λ i. supplied (term_for (sym left i) (sym all_same i)) (supplied (bound_to x.name n) m)))
    in
    subst (λ (t : Type'). Realises t z (supplied (term_for s.imports us) (supplied (bound_to x.name n) m))) (sym of_s.joining.outcome)
    (subst (λ (u : Term). Realises p.outcome z u) terms there)
