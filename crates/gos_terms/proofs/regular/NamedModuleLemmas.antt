-- The plan of a module is its term's node, wired to the plans of names: each import is the name's.
--
-- A handshake of an import's number leads to the result of its name's plan, and through this to the import.
use Rattle.std.specs.Prelude.{◌≡◌, ℕ, zero, suc, ◌+◌, ◌<◌, true, List, [], ◌∷◌, ◌⊎◌, length, Some, None, All, Contains, slice_get}
use Rattle.std.proofs.Common.{refl, sym, ◌∙◌, ap, subst, arith, inl, inr}
use Rattle.std.proofs.lemmas.List.Elements.{All-nil, Contains-append_left, Contains-append_right, Contains-append_cases}
use Rattle.std.proofs.lemmas.Option.{slice_get_within}
use Rattle.gos_types.specs.declared.shakes.Role.{Role}
use Rattle.gos_types.specs.declared.shakes.Role.TheVariants.{Serve, Ask}
use Rattle.gos_types.specs.Types.{Type', Com}
use Rattle.gos_types.specs.Handshakes.{turned}
use Rattle.gos_types.proofs.ListLemmas.{element_at}
use Rattle.gos_model.specs.Terms.{Skip, Import}
use Rattle.gos_model.specs.Typing.{Imports, Imported}
use Rattle.gos_check.specs.Nodes.{Numbered, type_of_node}
use Rattle.gos_plan.specs.Kinds.{Part, Contact, asks, contacts_of, turned_contact}
use Rattle.gos_plan.specs.Plans.{End, PartEnd, ImportEnd, ResultEnd, Joint, Plan, contact_at, contacts_of_part, contacts_of_import, turned_if, stands_in}
use Rattle.gos_plan.specs.TokenBits.{LiteralFits}
use Rattle.gos_plan.proofs.JointLemmas.{fits, same_itself, one_joint, contained}
use Rattle.gos_ties.specs.declared.points.Place.{Place}
use Rattle.gos_ties.specs.declared.points.Place.TheVariants as places
use Rattle.gos_ties.specs.declared.points.Tie as point_ties
use Rattle.gos_realises.specs.realises.Regular.{count}
use Rattle.gos_realises.specs.realises.Realises.{NamesDiffer}
use Rattle.gos_joining.specs.webs.Webs.{Dot, Of, Number, Node, Within, Tie, tie, Way, here, joint, own_web, SameWays}
use Rattle.gos_joining.proofs.webs.WebLemmas.{same_ways}
use Rattle.gos_joining.proofs.webs.WayLemmas.{mapped_way, one_way, way_back, way_then}
use Rattle.gos_joining.specs.unions.Unions.{within}
use Rattle.gos_joining.proofs.unions.UnionLemmas.{of_image, in_image}
use Rattle.gos_supplies.specs.turns.Names.{IsNamePlan, NameIsRegular, NamePlanIsThere}
use Rattle.gos_supplies.specs.turns.Resting.{NameRests}
use Rattle.gos_supplies.proofs.turns.NameLemmas.{unturned}
use Rattle.gos_compile.specs.Wiring.{Types, row, led, parts_of, ties_of, import_ties, all_types, all_ties, IsPlanOf}
use Rattle.gos_terms.specs.wired.Wired.{Supplies, Placing, Source, Own, Supplied, IsFrom, placed, dot_at, dot_of, dot_of_place, dot_ties, result_ties, all_supply_ties, wired_ties, wired_web, IsWired}
use Rattle.gos_terms.specs.wired.Regular.{AreRegular}
use Rattle.gos_terms.specs.wired.Modules.{numbers_from, PathsFit, MakesNoImport}
use Rattle.gos_terms.proofs.wired.AwayLemmas.{IsAway, row_away, ties_away, tie_away}
use Rattle.gos_terms.proofs.wired.PlacingLemmas.{import_numbered, numbered_import}
use Rattle.gos_terms.proofs.wired.TieLemmas.{import_tie, in_import_ties, inside, result_tie, of_results, in_results, OfSupplies, of_supplies, in_supplies}
use Rattle.gos_terms.proofs.wired.TypeLemmas.{type_is}
use Rattle.gos_terms.proofs.wired.ModuleLemmas.{term_web, of_term}
use Rattle.gos_terms.specs.regular.Opened.{ModuleIsRegular}

-- the tie of an import's handshake is that of one that there is
abbrev OfImport : ℕ → Imports → point_ties.Tie → Type 0
OfImport k is t = (i h : ℕ) × (x : Imported) × (slice_get is i ≡ Some x) × (h < count x.ty) × (t ≡ import_tie (k + i) h)

of_row : (k a n : ℕ) (t : point_ties.Tie) → Contains (led (row (places.Import k) a n) (places.Number k) a) t → (h : ℕ) × (h < a + n) × (t ≡ import_tie k h)
of_row k a zero t (i, small, e) = absurd (omega (arith, small))
of_row k a (suc n) t (zero, small, e) = (a, omega arith, sym e)
of_row k a (suc n) t (suc i, small, e) = let (h, low, same) = of_row k (suc a) n t (i, omega (arith, small), e) in (h, omega (arith, low), same)

of_imports : (k : ℕ) (is : Imports) (t : point_ties.Tie) → Contains (import_ties k is) t → OfImport k is t
of_imports k [] t (n, small, e) = absurd (omega (arith, small))
of_imports k (x ∷ is) t has =
    by_part (Contains-append_cases (led (row (places.Import k) 0 (count x.ty)) (places.Number k) 0) (import_ties (suc k) is) t has)
    (λ later. of_imports (suc k) is t later)
  where
    by_part : Contains (led (row (places.Import k) 0 (count x.ty)) (places.Number k) 0) t ⊎ Contains (import_ties (suc k) is) t
        → (Contains (import_ties (suc k) is) t → OfImport (suc k) is t) → OfImport k (x ∷ is) t
    by_part (inl found) rest =
        let (h, low, same) = of_row k 0 (count x.ty) t found in
        let zeros : k ≡ k + 0 = omega arith in
        (0, h, x, refl, omega (arith, low), same ∙ ap (λ (n : ℕ). import_tie n h) zeros)
    by_part (inr later) rest =
        let (i, h, y, at, low, same) = rest later in
        let sum : suc k + i ≡ k + suc i = omega arith in
        (suc i, h, y, at, low, same ∙ ap (λ (n : ℕ). import_tie n h) sum)

-- one handshake of a name's plan has one number
abbrev pub shake_of : End → ℕ
shake_of (PartEnd i h) = h
shake_of (ImportEnd i h) = h
shake_of (ResultEnd h) = h

abbrev IsShake : Imported → ℕ → End → Type 0
IsShake x h e = (h < count x.ty) × ((ImportEnd 0 h ≡ e) ⊎ (ResultEnd h ≡ e))

-- the joints of a name's plan
module _ (x : Imported) (p : Plan) (is : IsNamePlan x p) where
  abbrev Joined : ℕ → Contact → Role → Type 0
  Joined h c Serve = Contains p.joints (joint (ResultEnd h) (ImportEnd 0 h))
  Joined h c Ask = Contains p.joints (joint (ImportEnd 0 h) (ResultEnd h))

  name_joint : (h : ℕ) (c : Contact) → slice_get (contacts_of x.ty) h ≡ Some c → Joined h c c.role
  name_joint h c at = by_role c.role refl
    where
      by_role : (y : Role) → c.role ≡ y → Joined h c c.role
      by_role Serve same = subst (Joined h c) (sym same) (is.serving h c at same)
      by_role Ask same = subst (Joined h c) (sym same) (is.asking h c at same)

  serves_one : (y d f : End) → Contains p.joints (joint y d) → Contains p.joints (joint y f) → d ≡ f
  serves_one y d f one two =
      let self = same_itself y in
      let first : stands_in y (joint y d) ≡ true = grind (arith, self) in
      let second : stands_in y (joint y f) ≡ true = grind (arith, self) in
      ap (λ (j : Joint). j.serving)
      (one_joint p [] p.joints (joint y d) (joint y f) y is.right (contained p.joints (joint y d) one) (contained p.joints (joint y f) two) first second)

  abbrev Shaken : End → End → Type 0
  Shaken c d = (h : ℕ) × IsShake x h c × IsShake x h d

  one_shake : (c d : End) → Contains p.joints (joint c d) → Shaken c d
  one_shake c d has =
      let (v, w, asked, served) = fits p [] p.joints (joint c d) is.right (contained p.joints (joint c d) has) in
      by_end c has (asks v w) refl asked
    where
      by_end : (y : End) → Contains p.joints (joint y d) → (a : Contact) → a.role ≡ Ask → contact_at p y ≡ Some a → Shaken y d
      by_end (PartEnd i h) one a asking at =
          let never : None ≡ Some a = sym (ap (λ (ps : List Part). slice_get (contacts_of_part (slice_get ps i)) h) is.parts) ∙ at in
          absurd (cc never)
      by_end (ImportEnd zero h) one a asking at =
          let there : slice_get (contacts_of x.ty) h ≡ Some a =
          sym (ap (λ (xs : List Imported). slice_get (contacts_of_import (slice_get xs 0)) h) is.imports) ∙ at
          in
          let low = slice_get_within (contacts_of x.ty) h a there in
          (h, (low, inl refl), (low, inr (sym (serves_one (ImportEnd 0 h) d (ResultEnd h) one (is.asking h a there asking)))))
      by_end (ImportEnd (suc i) h) one a asking at =
          let never : None ≡ Some a = sym (ap (λ (xs : List Imported). slice_get (contacts_of_import (slice_get xs (suc i))) h) is.imports) ∙ at in
          absurd (cc never)
      by_end (ResultEnd h) one a asking at =
          let there = unturned (slice_get (contacts_of x.ty) h) a (sym (ap (λ (t : Type'). turned_if (slice_get (contacts_of t) h)) is.outcome) ∙ at) in
          let low = slice_get_within (contacts_of x.ty) h (turned_contact a) there in
          let serving : (turned_contact a).role ≡ Serve = ap turned asking in
          (h, (low, inr refl), (low, inl (sym (serves_one (ResultEnd h) d (ImportEnd 0 h) one (is.serving h (turned_contact a) there serving)))))

-- the plans of the imports' names; another number has one without parts
abbrev pub names_of : NamePlanIsThere → Imports → Supplies
names_of law [] n = record { plan = record { weight = 0; imports = []; outcome = Com; parts = []; joints = [] }; term = Skip }
names_of law (x ∷ is) zero = record { plan = (law x).0; term = Import x.name }
names_of law (x ∷ is) (suc n) = names_of law is n

name_at : (law : NamePlanIsThere) (is : Imports) (n : ℕ) (x : Imported) → slice_get is n ≡ Some x → IsNamePlan x (names_of law is n).plan
name_at law [] n x at = absurd (cc at)
name_at law (y ∷ is) zero x at = let same : y ≡ x = cc at in subst (λ (z : Imported). IsNamePlan z (law y).0) same (law y).1
name_at law (y ∷ is) (suc n) x at = name_at law is n x at

-- each part is the node's, and each import is its number's
abbrev pub each_named : Placing
each_named =
    record { own = λ k. k; supplied = λ n k. 0; import = λ n k. n; source = Own; origin = λ k. record { number = k; import = 0 } }

abbrev dot_tie : point_ties.Tie → Tie
dot_tie t = tie (dot_of t.one) (dot_of t.other)

-- the dots of the term's web in the node's, and back
abbrev inward : Dot → Dot
inward (Of (PartEnd i h)) = Within 0 (Of (PartEnd i h))
inward (Of (ImportEnd i h)) = Within (suc i) (Of (ImportEnd 0 h))
inward (Of (ResultEnd h)) = Within 0 (Of (ResultEnd h))
inward (Number n h) = Within 0 (Number n h)
inward (Node n h) = Within 0 (Node n h)
inward (Within k d) = Within 0 (Within k d)

abbrev out_of : ℕ → Dot → Dot
out_of n (Of (PartEnd i h)) = Number n h
out_of n (Of (ImportEnd i h)) = Of (ImportEnd n h)
out_of n (Of (ResultEnd h)) = Number n h
out_of n (Number k h) = Number k h
out_of n (Node k h) = Node k h
out_of n (Within k d) = Within k d

abbrev outward : Dot → Dot
outward (Of e) = Of e
outward (Number n h) = Number n h
outward (Node n h) = Node n h
outward (Within zero d) = d
outward (Within (suc n) d) = out_of n d

stays_in : (q : Place) (h : ℕ) → IsAway q → inward (dot_of_place q h) ≡ Within 0 (dot_of_place q h)
stays_in (places.Part i) h away = refl
stays_in (places.Import i) h away = absurd away
stays_in places.Result h away = refl
stays_in (places.Number n) h away = refl
stays_in (places.Node n) h away = refl

module _
    (law : NamePlanIsThere) (is : Imports) (t : Type') (w : ℕ) (m : Numbered) (p : Plan) (plan : IsPlanOf is t w m p) (type : t ≡ type_of_node m)
    (makes : MakesNoImport is m) where
  abbrev types : Types
  types = all_types is m

  abbrev ns : List ℕ
  ns = numbers_from 0 (length is)

  abbrev env : Supplies
  env = names_of law is

  abbrev own_ties : List point_ties.Tie
  own_ties = ties_of types 0 0 m (row places.Result 0 (count (type_of_node m)))

  abbrev ties : List Tie
  ties = wired_ties types 0 0 m ns env

  abbrev term_ties : List Tie
  term_ties = dot_ties (all_ties is m)

  -- a handshake of an import, in both webs
  module _ (n h : ℕ) (x : Imported) (at : slice_get is n ≡ Some x) (low : h < count x.ty) where
    named : IsNamePlan x (env n).plan
    named = name_at law is n x at

    number : Contains ns n
    number = numbered_import is n x at

    supplied : (u : Tie) → Contains (own_web (env n).plan).ties u → Contains ties (inside (suc n) u)
    supplied u has =
        Contains-append_right (within 0 (dot_ties own_ties)) (all_supply_ties types env ns) (inside (suc n) u)
        (in_supplies types env ns n (inside (suc n) u) number
        (Contains-append_left (within (suc n) (own_web (env n).plan).ties) (result_ties n 0 (count (types n))) (inside (suc n) u)
        (in_image (inside (suc n)) (own_web (env n).plan).ties u has)))

    own_tie : (c d : End) → Contains (env n).plan.joints (joint c d) → Contains (own_web (env n).plan).ties (tie (Of c) (Of d))
    own_tie c d has = in_image (λ (j : Joint). tie (Of j.asking) (Of j.serving)) (env n).plan.joints (joint c d) has

    through_name : Way ties (Within (suc n) (Of (ImportEnd 0 h))) (Within (suc n) (Of (ResultEnd h)))
    through_name = let (c, there) = element_at (contacts_of x.ty) h low in by_role c c.role (name_joint x (env n).plan named h c there)
      where
        by_role : (c : Contact) (y : Role) → Joined x (env n).plan named h c y
            → Way ties (Within (suc n) (Of (ImportEnd 0 h))) (Within (suc n) (Of (ResultEnd h)))
        by_role c Serve has =
            one_way ties (Within (suc n) (Of (ImportEnd 0 h))) (Within (suc n) (Of (ResultEnd h)))
            (inr (supplied (tie (Of (ResultEnd h)) (Of (ImportEnd 0 h))) (own_tie (ResultEnd h) (ImportEnd 0 h) has)))
        by_role c Ask has =
            one_way ties (Within (suc n) (Of (ImportEnd 0 h))) (Within (suc n) (Of (ResultEnd h)))
            (inl (supplied (tie (Of (ImportEnd 0 h)) (Of (ResultEnd h))) (own_tie (ImportEnd 0 h) (ResultEnd h) has)))

    result_there : Contains ties (result_tie n h)
    result_there =
        let same = type_is is m makes n x at in
        let small : h < 0 + count (types n) = (let less = subst (λ (u : Type'). h < count u) (sym same) low in omega (arith, less)) in
        Contains-append_right (within 0 (dot_ties own_ties)) (all_supply_ties types env ns) (result_tie n h)
        (in_supplies types env ns n (result_tie n h) number
        (Contains-append_right (within (suc n) (own_web (env n).plan).ties) (result_ties n 0 (count (types n))) (result_tie n h)
        (in_results n 0 (count (types n)) h (omega arith) small)))

    import_way : Way ties (Within (suc n) (Of (ImportEnd 0 h))) (Within 0 (Number n h))
    import_way =
        way_then ties (Within (suc n) (Of (ImportEnd 0 h))) (Within (suc n) (Of (ResultEnd h))) (Within 0 (Number n h)) through_name
        (one_way ties (Within (suc n) (Of (ResultEnd h))) (Within 0 (Number n h)) (inr result_there))

    term_way : Way term_ties (Of (ImportEnd n h)) (Number n h)
    term_way =
        let zeros : 0 + n ≡ n = omega arith in
        let among : Contains (all_ties is m) (import_tie n h) =
        Contains-append_left (import_ties 0 is) own_ties (import_tie n h)
        (subst (λ (k : ℕ). Contains (import_ties 0 is) (import_tie k h)) zeros (in_import_ties 0 is n h x at low))
        in
        one_way term_ties (Of (ImportEnd n h)) (Number n h) (inl (in_image dot_tie (all_ties is m) (import_tie n h) among))

  -- a tie of the term leads in the node's web
  Leads : Tie → Type 0
  Leads u = Way ties (inward u.one) (inward u.other)

  own_leads : (v : point_ties.Tie) → Contains own_ties v → Leads (dot_tie v)
  unfolding Leads
  own_leads v has =
      let (one, other) =
      tie_away own_ties v (ties_away types 0 0 m (row places.Result 0 (count (type_of_node m))) (row_away places.Result tt 0 (count (type_of_node m)))) has
      in
      let among : Contains ties (inside 0 (dot_tie v)) =
      Contains-append_left (within 0 (dot_ties own_ties)) (all_supply_ties types env ns) (inside 0 (dot_tie v))
      (in_image (inside 0) (dot_ties own_ties) (dot_tie v) (in_image dot_tie own_ties v has))
      in
      subst (λ (d : Dot). Way ties d (inward (dot_of v.other))) (sym (stays_in v.one.place v.one.shake one))
      (subst (λ (d : Dot). Way ties (Within 0 (dot_of v.one)) d) (sym (stays_in v.other.place v.other.shake other))
      (one_way ties (Within 0 (dot_of v.one)) (Within 0 (dot_of v.other)) (inl among)))

  import_leads : (v : point_ties.Tie) → OfImport 0 is v → Leads (dot_tie v)
  unfolding Leads
  import_leads v (i, h, x, at, low, same) =
      let zeros : i ≡ 0 + i = omega arith in
      subst (λ (u : point_ties.Tie). Way ties (inward (dot_of u.one)) (inward (dot_of u.other))) (sym same)
      (subst (λ (k : ℕ). Way ties (Within (suc k) (Of (ImportEnd 0 h))) (Within 0 (Number k h))) zeros (import_way i h x at low))

  leads : (u : Tie) → Contains term_ties u → Leads u
  leads u has =
      let (v, among, same) = of_image dot_tie (all_ties is m) u has in
      subst Leads same (by_part v (Contains-append_cases (import_ties 0 is) own_ties v among))
    where
      by_part : (v : point_ties.Tie) → Contains (import_ties 0 is) v ⊎ Contains own_ties v → Leads (dot_tie v)
      by_part v (inl h) = import_leads v (of_imports 0 is v h)
      by_part v (inr h) = own_leads v h

  -- and back
  Returns : Tie → Type 0
  Returns u = Way term_ties (outward u.one) (outward u.other)

  own_returns : (v : point_ties.Tie) → Contains own_ties v → Returns (inside 0 (dot_tie v))
  unfolding Returns
  own_returns v has =
      one_way term_ties (dot_of v.one) (dot_of v.other)
      (inl (in_image dot_tie (all_ties is m) v (Contains-append_right (import_ties 0 is) own_ties v has)))

  -- both ends of a joint of a name lead to the number
  end_returns : (n h : ℕ) (x : Imported) → slice_get is n ≡ Some x → (e : End) → IsShake x h e → Way term_ties (out_of n (Of e)) (Number n h)
  end_returns n h x at e (low, inl same) = subst (λ (y : End). Way term_ties (out_of n (Of y)) (Number n h)) same (term_way n h x at low)
  end_returns n h x at e (low, inr same) = subst (λ (y : End). Way term_ties (out_of n (Of y)) (Number n h)) same (here (Number n h))

  joint_returns : (n : ℕ) → Contains ns n → (c d : End) → Contains (env n).plan.joints (joint c d) → Way term_ties (out_of n (Of c)) (out_of n (Of d))
  joint_returns n has c d joined =
      let (x, at) = import_numbered is n has in
      let (h, one, other) = one_shake x (env n).plan (name_at law is n x at) c d joined in
      way_then term_ties (out_of n (Of c)) (Number n h) (out_of n (Of d)) (end_returns n h x at c one)
      (way_back term_ties (out_of n (Of d)) (Number n h) (end_returns n h x at d other))

  returns : (u : Tie) → Contains ties u → Returns u
  unfolding Returns
  returns u has = by_part (Contains-append_cases (within 0 (dot_ties own_ties)) (all_supply_ties types env ns) u has)
    where
      by_supply : (n : ℕ) → Contains ns n → Contains (within (suc n) (own_web (env n).plan).ties) u ⊎ Contains (result_ties n 0 (count (types n))) u → Returns u
      by_supply n is_n (inl h) =
          let (v, among, same) = of_image (inside (suc n)) (own_web (env n).plan).ties u h in
          let (j, joined, same_tie) = of_image (λ (j : Joint). tie (Of j.asking) (Of j.serving)) (env n).plan.joints v among in
          subst (λ (y : Tie). Way term_ties (outward y.one) (outward y.other)) same
          (subst (λ (y : Tie). Way term_ties (out_of n y.one) (out_of n y.other)) same_tie (joint_returns n is_n j.asking j.serving joined))
      by_supply n is_n (inr h) =
          let (g, low, high, same) = of_results n 0 (count (types n)) u h in
          subst (λ (y : Tie). Way term_ties (outward y.one) (outward y.other)) (sym same) (here (Number n g))

      of_some : OfSupplies types env ns u → Returns u
      of_some (n, is_n, among) =
          by_supply n is_n (Contains-append_cases (within (suc n) (own_web (env n).plan).ties) (result_ties n 0 (count (types n))) u among)

      by_part : Contains (within 0 (dot_ties own_ties)) u ⊎ Contains (all_supply_ties types env ns) u → Returns u
      by_part (inl h) =
          let (v, in_dots, same) = of_image (inside 0) (dot_ties own_ties) u h in
          let (z, among, same_tie) = of_image dot_tie own_ties v in_dots in
          subst (λ (y : Tie). Way term_ties (outward y.one) (outward y.other)) same
          (subst (λ (y : Tie). Way term_ties y.one y.other) same_tie (own_returns z among))
      by_part (inr h) = of_some (of_supplies types env ns u h)

  -- ends stand at the same dots
  stands_in_wired : (e : End) → inward (Of e) ≡ dot_at 0 each_named e
  stands_in_wired (PartEnd i h) = let zeros : i ≡ 0 + i = omega arith in ap (λ (k : ℕ). Within 0 (Of (PartEnd k h))) zeros
  stands_in_wired (ImportEnd i h) = refl
  stands_in_wired (ResultEnd h) = refl

  stands_in_term : (e : End) → outward (dot_at 0 each_named e) ≡ Of e
  stands_in_term (PartEnd i h) = let zeros : 0 + i ≡ i = omega arith in ap (λ (k : ℕ). Of (PartEnd k h)) zeros
  stands_in_term (ImportEnd i h) = refl
  stands_in_term (ResultEnd h) = refl

  same : SameWays (term_web is m) (wired_web types 0 0 m ns env each_named) p
  unfolding Leads Returns
  same a b c d at_a at_b = (
    λ way.
        subst (λ (x : Dot). Way ties x (dot_at 0 each_named b)) (stands_in_wired a)
        (subst (λ (x : Dot). Way ties (inward (Of a)) x) (stands_in_wired b) (mapped_way term_ties ties inward leads (Of a) (Of b) way)),
    λ way.
        subst (λ (x : Dot). Way term_ties x (Of b)) (stands_in_term a)
        (subst (λ (x : Dot). Way term_ties (outward (dot_at 0 each_named a)) x) (stands_in_term b)
        (mapped_way ties term_ties outward returns (dot_at 0 each_named a) (dot_at 0 each_named b) way)),
  )

  parts_there : (x : Part) (s : Source) → IsFrom (parts_of types m) ns env x s
      → (slice_get p.parts (placed each_named s) ≡ Some x) × (each_named.source (placed each_named s) ≡ s)
  parts_there x (Own k) from = (ap (λ (ps : List Part). slice_get ps k) plan.parts ∙ from, refl)
  parts_there x (Supplied n k) (has, at) =
      let (y, at_y) = import_numbered is n has in
      let never : None ≡ Some x = sym (ap (λ (ps : List Part). slice_get ps k) (name_at law is n y at_y).parts) ∙ at in
      absurd (cc never)

  imports_there : (n k : ℕ) (x : Imported) → Contains ns n → slice_get (env n).plan.imports k ≡ Some x
      → (slice_get p.imports (each_named.import n k) ≡ Some x) × (each_named.origin (each_named.import n k) ≡ record { number = n; import = k })
  imports_there n k x has at =
      let (y, at_y) = import_numbered is n has in
      by_number k y at_y (sym (ap (λ (xs : List Imported). slice_get xs k) (name_at law is n y at_y).imports) ∙ at)
    where
      by_number : (i : ℕ) (y : Imported) → slice_get is n ≡ Some y → slice_get (y ∷ []) i ≡ Some x
          → (slice_get p.imports n ≡ Some x) × (each_named.origin n ≡ record { number = n; import = i })
      by_number zero y at_y e = (ap (λ (xs : List Imported). slice_get xs n) plan.imports ∙ (at_y ∙ e), refl)
      by_number (suc i) y at_y e = absurd (cc e)

  import_is : (k : ℕ) (x : Imported) → slice_get p.imports k ≡ Some x
      → Contains ns k × (slice_get (env k).plan.imports 0 ≡ Some x) × (k ≡ k)
  import_is k x at =
      let here_x : slice_get is k ≡ Some x = sym (ap (λ (xs : List Imported). slice_get xs k) plan.imports) ∙ at in
      (numbered_import is k x here_x, ap (λ (xs : List Imported). slice_get xs 0) (name_at law is k x here_x).imports, refl)

  pub module_is_wired : PathsFit (all_ties is m) p → IsWired types 0 0 m ns env each_named p
  module_is_wired fit =
      record {
        outcome = plan.outcome ∙ type;
        parts = parts_there;
        no_more = λ k x at. (sym (ap (λ (ps : List Part). slice_get ps k) plan.parts) ∙ at, refl);
        imports = imports_there;
        no_import = import_is;
        web = same_ways (term_web is m) (wired_web types 0 0 m ns env each_named) p same (of_term is t w m p plan fit);
      }

  pub names_are_regular : NameIsRegular → NameRests → AreRegular types env ns
  names_are_regular regular rests n has =
      let (x, at) = import_numbered is n has in
      let named : IsNamePlan x (env n).plan = name_at law is n x at in
      record {
        right = named.right;
        outcome = named.outcome ∙ sym (type_is is m makes n x at);
        literals = subst (λ (ps : List Part). All LiteralFits ps) (sym named.parts) (All-nil LiteralFits);
        regular = regular x (env n).plan named;
        rests = rests x (env n).plan named;
      }

pub module_is_regular : NamePlanIsThere → NameIsRegular → NameRests → ModuleIsRegular
module_is_regular law regular rests is t w m p plan type makes fit differ literals wired =
    wired 0 0 (names_of law is) each_named p (module_is_wired law is t w m p plan type makes fit)
    (names_are_regular law is t w m p plan type makes regular rests) (subst NamesDiffer (sym plan.imports) differ) literals
