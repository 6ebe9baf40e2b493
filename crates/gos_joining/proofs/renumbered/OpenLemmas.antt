-- A plan realises a term with any supplies where a renumbered one does: each supply goes with its import.
use Rattle.std.specs.Prelude.{◌≡◌, ℕ, zero, suc, ◌+◌, List, [], ◌∷◌, ◌⊎◌, Option, Some, None, Contains, slice_get}
use Rattle.std.proofs.Common.{refl, sym, ◌∙◌, ap, subst, arith, inl, inr}
use Rattle.gos_types.specs.Types.{Type', Com}
use Rattle.gos_model.specs.Terms as terms
use Rattle.gos_model.specs.Terms.{Name, Term}
use Rattle.gos_model.specs.Typing.{Imported}
use Rattle.gos_model.specs.Linking.{supplied}
use Rattle.gos_plan.specs.Plans.{End, Plan}
use Rattle.gos_plan.specs.Joining.{Place, place, Link, Linked}
use Rattle.gos_realises.specs.realises.Realises.{NamesDiffer, Realises}
use Rattle.gos_realises.specs.realises.Modules.{Supply, plans_of, AreSupplied, term_for, imports_linked, supplying}
use Rattle.gos_realises.proofs.joined.WholeLemmas.{supplied_is_joined}
use Rattle.gos_realises.proofs.realises.FittingLemmas.{supply_is_right}
use Rattle.gos_joining.specs.webs.Renumbering.{Renumber, IsOneToOne, IsRenumbered, back, moved_end}
use Rattle.gos_joining.proofs.webs.IdleLemmas.{renumbered_back}
use Rattle.gos_joining.proofs.webs.MovedLemmas.{back_and_there}
use Rattle.gos_joining.specs.renumbered.Rewired.{rewired, IsRewired}
use Rattle.gos_joining.specs.renumbered.SmallRewirings.{unchanged}
use Rattle.gos_joining.specs.renumbered.Open.{RenumberedIsOpen}
use Rattle.gos_joining.proofs.renumbered.ImportLemmas.{names_same}
use Rattle.gos_joining.proofs.renumbered.OrderLemmas.{reordered}
use Rattle.gos_joining.proofs.renumbered.RewireLemmas.{rewired_is_renumbered}
use Rattle.gos_joining.proofs.renumbered.HigherLemmas.{unchanged_end, unchanged_one, is_itself, renumbered_is_realised}
use Rattle.gos_joining.proofs.renumbered.SupplyLemmas.{supply_link, OfImports, of_imports, in_imports, supply_of, import_for, plan_at, supply_at, term_at, at_term}

-- the supplies of imports in another order: that of import n there is number `from n`
nothing : Supply
nothing = record { plan = record { weight = 0; imports = []; outcome = Com; parts = []; joints = [] }; term = terms.Skip }

abbrev some_supply : Option Supply → Supply
some_supply None = nothing
some_supply (Some s) = s

abbrev picked : (ℕ → ℕ) → List Supply → ℕ → List Imported → List Supply
picked from ss n [] = []
picked from ss n (x ∷ xs) = some_supply (slice_get ss (from n)) ∷ picked from ss (suc n) xs

picked_at : (from : ℕ → ℕ) (ss : List Supply) (n : ℕ) (xs : List Imported) (i : ℕ) (x : Imported) → slice_get xs i ≡ Some x
    → slice_get (picked from ss n xs) i ≡ Some (some_supply (slice_get ss (from (n + i))))
picked_at from ss n [] i x at = absurd (cc at)
picked_at from ss n (y ∷ xs) zero x at = let zeros : n ≡ n + 0 = omega arith in ap (λ (m : ℕ). Some (some_supply (slice_get ss (from m)))) zeros
picked_at from ss n (y ∷ xs) (suc i) x at =
    let sum : suc n + i ≡ n + suc i = omega arith in
    picked_at from ss (suc n) xs i x at ∙ ap (λ (m : ℕ). Some (some_supply (slice_get ss (from m)))) sum

picked_supplied : (from : ℕ → ℕ) (ss : List Supply) (n : ℕ) (xs : List Imported)
    → ((i : ℕ) (x : Imported) → slice_get xs i ≡ Some x → (s : Supply) × (slice_get ss (from (n + i)) ≡ Some s) × Realises x.ty s.plan s.term)
    → AreSupplied xs (picked from ss n xs)
picked_supplied from ss n [] each = tt
picked_supplied from ss n (x ∷ xs) each = (
  first (each 0 x refl),
  picked_supplied from ss (suc n) xs
      (λ i y at. (let (s, at_s, realised) = each (suc i) y at in
      let sum : suc n + i ≡ n + suc i = omega arith in
      (s, ap (λ (m : ℕ). slice_get ss (from m)) sum ∙ at_s, realised))),
)
  where
    first : (s : Supply) × (slice_get ss (from (n + 0)) ≡ Some s) × Realises x.ty s.plan s.term
        → Realises x.ty (some_supply (slice_get ss (from n))).plan (some_supply (slice_get ss (from n))).term
    first (s, at, realised) =
        let zeros : n + 0 ≡ n = omega arith in
        let there : slice_get ss (from n) ≡ Some s = ap (λ (m : ℕ). slice_get ss (from m)) (sym zeros) ∙ at in
        subst (λ (o : Option Supply). Realises x.ty (some_supply o).plan (some_supply o).term) (sym there) realised

-- plan 0 stays, and a supply goes with its import
abbrev supplies_to : (ℕ → ℕ) → ℕ → ℕ
supplies_to g zero = zero
supplies_to g (suc i) = suc (g i)

abbrev at_first : Renumber → ℕ → Renumber
at_first f zero = f
at_first f (suc k) = unchanged

first_one : (f : Renumber) → IsOneToOne f → (k : ℕ) → IsOneToOne (at_first f k)
first_one f one zero = one
first_one f one (suc k) = unchanged_one

supplies_round : (g h : ℕ → ℕ) → ((i : ℕ) → h (g i) ≡ i) → (k : ℕ) → supplies_to h (supplies_to g k) ≡ k
supplies_round g h round zero = refl
supplies_round g h round (suc k) = ap suc (round k)

abbrev moves : Renumber → Place → Place
moves f = rewired (supplies_to f.import) (at_first f)

home : (f : Renumber) → IsOneToOne f → (k : ℕ) (e : End) → moves (back f) (moves f (place k e)) ≡ place k e
home f one zero e = ap (place 0) (back_and_there f one e)
home f one (suc k) e = λ i. place (suc (one.imports k i)) ((unchanged_end (moved_end unchanged e) ∙ unchanged_end e) i)

links_to : (f : Renumber) (p q : Plan) (ss ts : List Supply) → IsRenumbered f p q → (a b : Place) → Linked (supplying p ss) a b → Linked (supplying q ts) (moves f a) (moves f b)
links_to f p q ss ts is a b (l, has, ways) = by_link (of_imports 0 p.imports l has) ways
  where
    by_link : OfImports 0 p.imports l → ((a ≡ l.one) × (b ≡ l.other)) ⊎ ((a ≡ l.other) × (b ≡ l.one)) → Linked (supplying q ts) (moves f a) (moves f b)
    by_link there ways =
        let zeros : 0 + there.number ≡ there.number = omega arith in
        let plain : l ≡ supply_link there.number there.shake = there.same ∙ ap (λ (m : ℕ). supply_link m there.shake) zeros in
        let zero_q : 0 + f.import there.number ≡ f.import there.number = omega arith in
        let among : Contains (imports_linked 0 q.imports) (supply_link (f.import there.number) there.shake) =
        subst (λ (m : ℕ). Contains (imports_linked 0 q.imports) (supply_link m there.shake)) zero_q
        (in_imports 0 q.imports (f.import there.number) there.shake there.import (is.imports there.number ∙ there.at) there.small)
        in
        let at_one : moves f l.one ≡ (supply_link (f.import there.number) there.shake).one = ap (λ (x : Link). moves f x.one) plain in
        let at_other : moves f l.other ≡ (supply_link (f.import there.number) there.shake).other = ap (λ (x : Link). moves f x.other) plain in
        elim ways [
          | inl (e, g) ↦ (supply_link (f.import there.number) there.shake, among, inl (ap (moves f) e ∙ at_one, ap (moves f) g ∙ at_other))
          | inr (e, g) ↦ (supply_link (f.import there.number) there.shake, among, inr (ap (moves f) e ∙ at_other, ap (moves f) g ∙ at_one))
        ]

module _ (f : Renumber) (p q : Plan) (ss : List Supply) (is : IsRenumbered f p q) (are : AreSupplied p.imports ss) where
  abbrev others : List Supply
  others = picked f.import_back ss 0 q.imports

  import_back_at : (i : ℕ) (x : Imported) → slice_get q.imports i ≡ Some x → slice_get p.imports (f.import_back i) ≡ Some x
  import_back_at i x at = sym (is.imports (f.import_back i)) ∙ (ap (slice_get q.imports) (is.one_to_one.imports_back i) ∙ at)

  others_supplied : AreSupplied q.imports others
  others_supplied =
      picked_supplied f.import_back ss 0 q.imports
      (λ i x at. (let zeros : 0 + i ≡ i = omega arith in
      let (s, at_s, realised) = supply_of p.imports ss (f.import_back i) x are (import_back_at i x at) in
      (s, ap (λ (m : ℕ). slice_get ss (f.import_back m)) zeros ∙ at_s, realised)))

  -- the supply of import i of p is that of its number in q
  supply_there : (i : ℕ) (s : Supply) → slice_get ss i ≡ Some s → slice_get others (f.import i) ≡ Some s
  supply_there i s at =
      let (x, at_x, realised) = import_for p.imports ss i s are at in
      let zeros : 0 + f.import i ≡ f.import i = omega arith in
      picked_at f.import_back ss 0 q.imports (f.import i) x (is.imports i ∙ at_x)
      ∙ (ap (λ (m : ℕ). Some (some_supply (slice_get ss (f.import_back m)))) zeros
      ∙ (ap (λ (m : ℕ). Some (some_supply (slice_get ss m))) (is.one_to_one.imports i) ∙ ap (λ (o : Option Supply). Some (some_supply o)) at))

  supply_here : (i : ℕ) (s : Supply) → slice_get others i ≡ Some s → slice_get ss (f.import_back i) ≡ Some s
  supply_here i s at =
      let (x, at_x, realised) = import_for q.imports others i s others_supplied at in
      let (t, at_t, also) = supply_of p.imports ss (f.import_back i) x are (import_back_at i x at_x) in
      let there = supply_there (f.import_back i) t at_t in
      let both : Some t ≡ Some s = sym there ∙ (ap (slice_get others) (is.one_to_one.imports_back i) ∙ at) in
      at_t ∙ both

  abbrev PlanThere : ℕ → Plan → Type 0
  PlanThere k x = (y : Plan) × (slice_get (q ∷ plans_of others) (supplies_to f.import k) ≡ Some y) × IsRenumbered (at_first f k) x y

  plans_there : (k : ℕ) (x : Plan) → slice_get (p ∷ plans_of ss) k ≡ Some x → PlanThere k x
  plans_there zero x at = let same : p ≡ x = cc at in (q, refl, subst (λ (y : Plan). IsRenumbered f y q) same is)
  plans_there (suc k) x at =
      let (s, at_s, same) = supply_at ss k x at in
      (x, plan_at others (f.import k) s (supply_there k s at_s) ∙ ap Some same, is_itself x (supply_is_right p.imports ss k x are at))

  plans_here : (k : ℕ) (y : Plan) → slice_get (q ∷ plans_of others) k ≡ Some y → (x : Plan) × (slice_get (p ∷ plans_of ss) (supplies_to f.import_back k) ≡ Some x)
  plans_here zero y at = (p, refl)
  plans_here (suc k) y at = let (s, at_s, same) = supply_at others k y at in (s.plan, plan_at ss (f.import_back k) s (supply_here k s at_s))

  link_home : (a b : Place) → Linked (supplying q others) (moves f a) (moves f b) → Linked (supplying p ss) a b
  link_home a b linked =
      subst (λ (x : Place). Linked (supplying p ss) x b) (home f is.one_to_one a.plan a.end)
      (subst (λ (y : Place). Linked (supplying p ss) (moves (back f) (moves f a)) y) (home f is.one_to_one b.plan b.end)
      (links_to (back f) q p others ss (renumbered_back f p q is) (moves f a) (moves f b) linked))

  supplies_rewired : IsRewired (supplies_to f.import) (supplies_to f.import_back) (at_first f) (supplying p ss) (supplying q others)
  supplies_rewired =
      record {
        returns = supplies_round f.import f.import_back is.one_to_one.imports;
        comes = supplies_round f.import_back f.import is.one_to_one.imports_back;
        one_to_one = first_one f is.one_to_one;
        plans = plans_there;
        no_more = plans_here;
        links = λ a b. (links_to f p q ss others is a b, link_home a b);
        giver = refl;
        skipped = refl;
        outcome = is.outcome;
      }

  -- a name has the same term
  term_there : NamesDiffer q.imports → (x : Name) (t : Term) → term_for p.imports ss x ≡ Some t → term_for q.imports others x ≡ Some t
  term_there differ x t e =
      let there = term_at p.imports ss x t e in
      at_term q.imports others x (f.import there.number) there.import there.supply differ (is.imports there.number ∙ there.at_import)
      (supply_there there.number there.supply there.at_supply) there.named
      ∙ ap Some there.term

  term_here : NamesDiffer p.imports → (x : Name) (t : Term) → term_for q.imports others x ≡ Some t → term_for p.imports ss x ≡ Some t
  term_here differ x t e =
      let there = term_at q.imports others x t e in
      at_term p.imports ss x (f.import_back there.number) there.import there.supply differ (import_back_at there.number there.import there.at_import)
      (supply_here there.number there.supply there.at_supply) there.named
      ∙ ap Some there.term

  same_terms : NamesDiffer p.imports → (x : Name) → term_for q.imports others x ≡ term_for p.imports ss x
  same_terms differ x = by_terms (term_for p.imports ss x) (term_for q.imports others x) refl refl
    where
      by_terms : (o u : Option Term) → term_for p.imports ss x ≡ o → term_for q.imports others x ≡ u → term_for q.imports others x ≡ term_for p.imports ss x
      by_terms (Some t) u e g =
          term_there (names_same f.import f.import_back p.imports q.imports (reordered f p q is) differ) x t e ∙ sym e
      by_terms None (Some t) e g = g ∙ sym (term_here differ x t g)
      by_terms None None e g = g ∙ sym e

pub renumbered_is_open : RenumberedIsOpen
renumbered_is_open f p q m is names realises ss r are joined names_r =
    let ts = others f p q ss is are in
    let are_q = others_supplied f p q ss is are in
    let (s, joined_s) = supplied_is_joined q ts is.also_right are_q in
    let (g, same) =
    rewired_is_renumbered (supplies_to f.import) (supplies_to f.import_back) (at_first f) (supplying p ss) (supplying q ts) r s
    (supplies_rewired f p q ss is are) joined.joining joined_s.joining
    in
    let names_s = names_same g.import g.import_back r.imports s.imports (reordered g r s same) names_r in
    let realised = realises ts s are_q joined_s names_s in
    let of_r = renumbered_is_realised g r s q.outcome (supplied (term_for q.imports ts) m) same realised in
    let term_same : supplied (term_for q.imports ts) m ≡ supplied (term_for p.imports ss) m =
    ap (λ (h : Name → Option Term). supplied h m) (λ i x. same_terms f p q ss is are names x i)
    in
    subst (λ (t : Type'). Realises t r (supplied (term_for p.imports ss) m)) is.outcome (subst (Realises q.outcome r) term_same of_r)
