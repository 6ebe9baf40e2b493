-- The plan of a plan and its giver realises what the plan makes of the giver's term among the supplies.
use Rattle.std.specs.Prelude.{◌≡◌, suc, List, [], ◌∷◌, ◌++◌, length}
use Rattle.std.proofs.Common.{refl, sym, ◌∙◌, ap, subst}
use Rattle.std.proofs.lemmas.List.{append_assoc}
use Rattle.gos_types.specs.Types.{Type'}
use Rattle.gos_model.specs.Terms.{Term}
use Rattle.gos_model.specs.Typing.{Imported}
use Rattle.gos_plan.specs.Plans.{IsRight}
use Rattle.gos_realises.specs.realises.Links.{IsJoined}
use Rattle.gos_realises.specs.realises.Realises.{NamesDiffer, Realises}
use Rattle.gos_realises.specs.realises.Modules.{Supply, AreSupplied, supplying}
use Rattle.gos_realises.proofs.realises.PlaceLemmas.{differ_second}
use Rattle.gos_realises.proofs.joined.WholeLemmas.{supplied_is_joined}
use Rattle.gos_joining.proofs.renumbered.ImportLemmas.{names_same}
use Rattle.gos_joining.proofs.renumbered.OrderLemmas.{reordered}
use Rattle.gos_joining.proofs.renumbered.HigherLemmas.{renumbered_is_realised}
use Rattle.gos_supplies.specs.typing.Supplied.{imports_of}
use Rattle.gos_supplies.proofs.typing.LeftLemmas.{imports_are_of_supplies}
use Rattle.gos_supplies.proofs.applications.TogetherLemmas.{supplied_two, supplied_length, plans_length}
use Rattle.gos_supplies.proofs.applications.TermLemmas.{supplies_split}
use Rattle.gos_supplies.specs.instances.Trees.{terms_of, first, after, served_by, ServedIsBy}
use Rattle.gos_supplies.proofs.instances.TogetherLemmas.{served_leaves, served_is_supplied}
use Rattle.gos_supplies.proofs.instances.OpenLemmas.{imports_two}

terms_two : (ss ts : List Supply) → terms_of (ss ++ ts) ≡ terms_of ss ++ terms_of ts
terms_two [] ts = refl
terms_two (s ∷ ss) ts = ap (λ (l : List Term). s.term ∷ l) (terms_two ss ts)

terms_length : (ss : List Supply) → length (terms_of ss) ≡ length ss
terms_length [] = refl
terms_length (s ∷ ss) = ap suc (terms_length ss)

pub first_all : (ss ts : List Term) → first (length ss) (ss ++ ts) ≡ ss
first_all [] ts = refl
first_all (s ∷ ss) ts = ap (λ (l : List Term). s ∷ l) (first_all ss ts)

pub after_all : (ss ts : List Term) → after (length ss) (ss ++ ts) ≡ ts
after_all [] ts = refl
after_all (s ∷ ss) ts = after_all ss ts

-- what is made of three lists of terms
made : (f g : List Term → Term) (fs bs ts : List Term) → served_by (length fs) (length bs) f g ((fs ++ bs) ++ ts) ≡ f (fs ++ (g ts ∷ bs))
made f g fs bs ts =
    let whole : (fs ++ bs) ++ ts ≡ fs ++ (bs ++ ts) = append_assoc fs bs ts in
    let firsts : first (length fs) ((fs ++ bs) ++ ts) ≡ fs = ap (first (length fs)) whole ∙ first_all fs (bs ++ ts) in
    let rest : after (length fs) ((fs ++ bs) ++ ts) ≡ bs ++ ts = ap (after (length fs)) whole ∙ after_all fs (bs ++ ts) in
    let middles : first (length bs) (after (length fs) ((fs ++ bs) ++ ts)) ≡ bs = ap (first (length bs)) rest ∙ first_all bs ts in
    let lasts : after (length bs) (after (length fs) ((fs ++ bs) ++ ts)) ≡ ts = ap (after (length bs)) rest ∙ after_all bs ts in
    λ i. f (firsts i ++ (g (lasts i) ∷ middles i))

pub served_is_by : ServedIsBy
served_is_by is js x p q s f g imports type_q of_s by_p by_q us z are_us of_z names_z =
    let left = served_leaves is js x p q s imports of_s in
    let (gs, ts, same_us, of_gs, of_ts) = supplies_split (is ++ js) q.imports us (subst (λ (l : List Imported). AreSupplied l us) left are_us) in
    let (fs, bs, same_gs, of_fs, of_bs) = supplies_split is js gs of_gs in
    let all_same : us ≡ (fs ++ bs) ++ ts = same_us ∙ ap (λ (l : List Supply). l ++ ts) same_gs in
    let of_z_three : IsJoined (supplying s ((fs ++ bs) ++ ts)) z = subst (λ (l : List Supply). IsJoined (supplying s l) z) all_same of_z in
    let right_p : IsRight p = of_s.fits.right 0 p refl in
    let right_q : IsRight q = of_s.fits.right 1 q refl in
    let (y, of_y) = supplied_is_joined q ts right_q of_ts in
    -- the names of the giver's supplies' imports differ
    let all_imports : z.imports ≡ imports_of (fs ++ bs) ++ imports_of ts =
    imports_are_of_supplies s z ((fs ++ bs) ++ ts) of_z_three.joining ∙ imports_two (fs ++ bs) ts
    in
    let names_ts : NamesDiffer (imports_of ts) = differ_second (imports_of (fs ++ bs)) (imports_of ts) (subst NamesDiffer all_imports names_z) in
    let names_y : NamesDiffer y.imports = subst NamesDiffer (sym (imports_are_of_supplies q y ts of_y.joining)) names_ts in
    let term : Term = g (terms_of ts) in
    let of_giver : Realises x.ty y term = subst (λ (t : Type'). Realises t y term) type_q (by_q ts y of_ts of_y names_y) in
    -- so it is a supply
    let v : Supply = record { plan = y; term = term } in
    let vs : List Supply = fs ++ (v ∷ bs) in
    let are_vs : AreSupplied p.imports vs =
    subst (λ (l : List Imported). AreSupplied l vs) (sym imports) (supplied_two is (x ∷ js) fs (v ∷ bs) of_fs (of_giver, of_bs))
    in
    let (r, of_r) = supplied_is_joined p vs right_p are_vs in
    let (n, same) = served_is_supplied is js x p q s y r z term fs bs ts imports of_s of_fs of_bs of_ts of_y of_r of_z_three in
    let names_r : NamesDiffer r.imports = names_same n.import n.import_back z.imports r.imports (reordered n z r same) names_z in
    let there : Realises p.outcome z (f (terms_of vs)) =
    renumbered_is_realised n z r p.outcome (f (terms_of vs)) same (by_p vs r are_vs of_r names_r)
    in
    -- the terms
    let first_size : length (terms_of fs) ≡ length is = terms_length fs ∙ (sym (plans_length fs) ∙ supplied_length is fs of_fs) in
    let last_size : length (terms_of bs) ≡ length js = terms_length bs ∙ (sym (plans_length bs) ∙ supplied_length js bs of_bs) in
    let three : terms_of us ≡ (terms_of fs ++ terms_of bs) ++ terms_of ts =
    ap terms_of all_same ∙ (terms_two (fs ++ bs) ts ∙ ap (λ (l : List Term). l ++ terms_of ts) (terms_two fs bs))
    in
    let terms : f (terms_of vs) ≡ served_by (length is) (length js) f g (terms_of us) =
    ap f (terms_two fs (v ∷ bs))
    ∙ (sym (made f g (terms_of fs) (terms_of bs) (terms_of ts))
    ∙ (λ i. served_by (first_size i) (last_size i) f g (sym three i)))
    in
    subst (λ (t : Type'). Realises t z (served_by (length is) (length js) f g (terms_of us))) (sym of_s.joining.outcome)
    (subst (λ (u : Term). Realises p.outcome z u) terms there)
