-- The plan of a pair realises it where its sides realise those of the pair: with no supplies by what a product's plan is
-- asked for, and with supplies since a side of the supplied plan is the supplied side.
use Rattle.std.specs.Prelude.{ℕ, List, []}
use Rattle.std.proofs.Common.{refl, sym, subst, inl}
use Rattle.gos_types.specs.Types.{Type', Pair}
use Rattle.gos_model.specs.Terms.{Term, Both, Fst, Snd}
use Rattle.gos_model.specs.Typing.{Imported, Typed}
use Rattle.gos_model.specs.Linking.{supplied}
use Rattle.gos_plan.specs.Plans.{Plan}
use Rattle.gos_realises.specs.realises.Regular.{count}
use Rattle.gos_realises.specs.realises.Links.{IsJoined}
use Rattle.gos_realises.specs.realises.Wirings.{side}
use Rattle.gos_realises.specs.realises.Realises.{NamesDiffer, Suits, Means, Realises}
use Rattle.gos_realises.specs.realises.Modules.{Supply, AreSupplied, term_for, supplying, RealisesOpen}
use Rattle.gos_realises.proofs.joined.WholeLemmas.{supplied_is_joined}
use Rattle.gos_joining.specs.webs.Renumbering.{back}
use Rattle.gos_joining.proofs.webs.IdleLemmas.{renumbered_back}
use Rattle.gos_joining.proofs.renumbered.ImportLemmas.{names_same}
use Rattle.gos_joining.proofs.renumbered.OrderLemmas.{reordered}
use Rattle.gos_joining.proofs.renumbered.HigherLemmas.{renumbered_is_realised}
use Rattle.gos_supplies.proofs.applications.SideLemmas.{side_imports, side_is_supplied}
use Rattle.gos_supplies.specs.unfoldings.Pairs.{FirstOfBothIsRealised, SecondOfBothIsRealised, BothIsRealised, BothIsOpen}
use Rattle.gos_supplies.proofs.unfoldings.HeadLemmas.{typed_at, head_is_realised}

pub first_of_both : FirstOfBothIsRealised
first_of_both a r m n typed realised = head_is_realised a r (Fst (Both m n)) m (inl (n, refl)) typed realised

pub second_of_both : SecondOfBothIsRealised
second_of_both b r m n typed realised = head_is_realised b r (Snd (Both m n)) n (inl (m, refl)) typed realised

pub both_is_realised : BothIsRealised
both_is_realised a b p m n suits first second = record { suits = suits; means = (of_first, of_second) }
  where
    of_first : (r : Plan) → IsJoined (side 0 a p) r → Suits a r (Fst (Both m n)) × Means a r (Fst (Both m n))
    of_first r joined =
        let here : Typed r.imports [] (Fst (Both m n)) a =
        (b, typed_at (Pair a b) p.imports r.imports (Both m n) (side_imports a 0 p r joined.joining) suits.typed)
        in
        let whole = first_of_both a r m n here (first r joined) in (whole.suits, whole.means)

    of_second : (r : Plan) → IsJoined (side (count a) b p) r → Suits b r (Snd (Both m n)) × Means b r (Snd (Both m n))
    of_second r joined =
        let here : Typed r.imports [] (Snd (Both m n)) b =
        (a, typed_at (Pair a b) p.imports r.imports (Both m n) (side_imports b (count a) p r joined.joining) suits.typed)
        in
        let whole = second_of_both b r m n here (second r joined) in (whole.suits, whole.means)

-- a side of the supplied plan realises what the side of the plan does, with the same supplies
side_is_open : (t : Type') (k : ℕ) (p s y r : Plan) (m : Term) (ss : List Supply) → IsJoined (side k t p) s → RealisesOpen s m → AreSupplied p.imports ss
    → IsJoined (supplying p ss) y → NamesDiffer y.imports → IsJoined (side k t y) r → Realises t r (supplied (term_for p.imports ss) m)
side_is_open t k p s y r m ss of_s open_s of_ss of_y names of_r =
    let imports = side_imports t k p s of_s.joining in
    let are : AreSupplied s.imports ss = subst (λ (l : List Imported). AreSupplied l ss) (sym imports) of_ss in
    let (z, of_z) = supplied_is_joined s ss of_s.joining.right are in
    let (g, there) = side_is_supplied t k p s y r z ss of_s of_ss of_y of_r of_z in
    let same = renumbered_back g z r there in
    let names_r : NamesDiffer r.imports = subst NamesDiffer (sym (side_imports t k y r of_r.joining)) names in
    let names_z = names_same g.import_back g.import r.imports z.imports (reordered (back g) r z same) names_r in
    let whole : Realises t z (supplied (term_for s.imports ss) m) =
    subst (λ (u : Type'). Realises u z (supplied (term_for s.imports ss) m)) of_s.joining.outcome (open_s ss z are of_z names_z)
    in
    subst (λ (l : List Imported). Realises t r (supplied (term_for l ss) m)) imports
    (renumbered_is_realised (back g) r z t (supplied (term_for s.imports ss) m) same whole)

pub both_is_open : BothIsOpen
both_is_open a b p s t m n outcome of_s of_t open_s open_t suits ss r are of_r names =
    let one : Term = supplied (term_for p.imports ss) m in
    let two : Term = supplied (term_for p.imports ss) n in
    let of_type : Suits (Pair a b) r (Both one two) = subst (λ (u : Type'). Suits u r (Both one two)) outcome (suits ss r are of_r names) in
    subst (λ (u : Type'). Realises u r (Both one two)) (sym outcome)
    (both_is_realised a b r one two of_type (λ x of_x. side_is_open a 0 p s r x m ss of_s open_s are of_r names of_x)
    (λ x of_x. side_is_open b (count a) p t r x n ss of_t open_t are of_r names of_x))
