-- The wiring of a build is that of the tree below its root, but for the numbers of the plans.
use Rattle.std.specs.Prelude.{◌≡◌, ◌⊎◌, ◌<◌, ◌≤◌, ℕ, zero, suc, Bool, List, [], ◌∷◌, ◌++◌, length, map, Some, option_map, slice_get, if◌then◌else◌, Contains}
use Rattle.std.proofs.Common.{refl, sym, ◌∙◌, ap, subst, arith, inl, inr}
use Rattle.std.proofs.lemmas.Option.{slice_get-map}
use Rattle.std.proofs.lemmas.Bool.{eq-eqb, cases_lt}
use Rattle.gos_model.specs.Terms.{Term}
use Rattle.gos_plan.specs.Plans.{Plan, IsRight}
use Rattle.gos_plan.specs.Joining.{Place, place, Link, Linked, Wiring}
use Rattle.gos_link.specs.declared.services.Service.{Service}
use Rattle.gos_link.specs.Services.{HasService}
use Rattle.gos_link.specs.Linked.{outcome_of, links_of, links_from, shakes_at, wiring_of}
use Rattle.gos_joining.specs.webs.Renumbering.{IsRenumbered}
use Rattle.gos_joining.specs.renumbered.Rewired.{rewired, IsRewired}
use Rattle.gos_joining.specs.renumbered.SmallRewirings.{unchanged}
use Rattle.gos_joining.proofs.renumbered.HigherLemmas.{unchanged_end, unchanged_one, is_itself}
use Rattle.gos_supplies.specs.instances.Trees.{wired}
use Rattle.gos_linked.proofs.linked.CountLemmas.{In, back, forth, forth_back, back_forth, at_forth, back_at}
use Rattle.gos_linked.proofs.linked.ChainLemmas.{IsRooted, Below, reached, user_low, giver_low}
use Rattle.gos_linked.proofs.linked.NamedLemmas.{named, named_link}
use Rattle.gos_linked.proofs.linked.GrowLemmas.{RealisesTerm, plan_at, Grown, grow, IsGrown}
use Rattle.gos_linked.proofs.linked.WholeLemmas.{plan_is, plan_there, IsBelow, IsListed, grow_grown, grow_listed, all_numbers, all_services}

-- one of some links
abbrev HasLink : List Link → Link → Type 0
HasLink [] l = ⊥
HasLink (m ∷ ls) l = (m ≡ l) ⊎ HasLink ls l

has_contained : (ls : List Link) (l : Link) → Contains ls l → HasLink ls l
has_contained [] l (i, small, e) = absurd (omega (arith, small))
has_contained (m ∷ ls) l (zero, small, e) = inl e
has_contained (m ∷ ls) l (suc i, small, e) = inr (has_contained ls l (i, omega (arith, small), e))

contains_has : (ls : List Link) (l : Link) → HasLink ls l → Contains ls l
contains_has [] l h = absurd h
contains_has (m ∷ ls) l (inl e) = (0, omega arith, e)
contains_has (m ∷ ls) l (inr h) = let (i, small, e) = contains_has ls l h in (suc i, omega (arith, small), e)

has_first : (ls ms : List Link) (l : Link) → HasLink ls l → HasLink (ls ++ ms) l
has_first [] ms l h = absurd h
has_first (m ∷ ls) ms l (inl e) = inl e
has_first (m ∷ ls) ms l (inr h) = inr (has_first ls ms l h)

has_second : (ls ms : List Link) (l : Link) → HasLink ms l → HasLink (ls ++ ms) l
has_second [] ms l h = h
has_second (m ∷ ls) ms l h = inr (has_second ls ms l h)

has_either : (ls ms : List Link) (l : Link) → HasLink (ls ++ ms) l → HasLink ls l ⊎ HasLink ms l
has_either [] ms l h = inr h
has_either (m ∷ ls) ms l (inl e) = inl (inl e)
has_either (m ∷ ls) ms l (inr h) = elim (has_either ls ms l h) [ inl a ↦ inl (inr a) | inr b ↦ inr b ]

has_mapped : (f : Link → Link) (ls : List Link) (l : Link) → HasLink ls l → HasLink (map f ls) (f l)
has_mapped f [] l h = h
has_mapped f (m ∷ ls) l (inl e) = inl (ap f e)
has_mapped f (m ∷ ls) l (inr h) = inr (has_mapped f ls l h)

mapped_has : (f : Link → Link) (ls : List Link) (l : Link) → HasLink (map f ls) l → (m : Link) × HasLink ls m × (f m ≡ l)
mapped_has f [] l h = absurd h
mapped_has f (m ∷ ls) l (inl e) = (m, inl refl, e)
mapped_has f (m ∷ ls) l (inr h) = let (k, has, e) = mapped_has f ls l h in (k, inr has, e)

-- the links of services that are all among others
link_of : (ps : List Plan) (ss : List Service) (l : Link) → HasLink (links_of ps ss) l
    → (s : Service) × HasService ss s × HasLink (links_from s 0 (shakes_at ps s)) l
link_of ps [] l h = absurd h
link_of ps (s ∷ ss) l h =
    elim (has_either (links_from s 0 (shakes_at ps s)) (links_of ps ss) l h) [
      | inl a ↦ (s, inl refl, a)
      | inr b ↦ (let (t, has, at) = link_of ps ss l b in (t, inr has, at))
    ]

of_link : (ps : List Plan) (ss : List Service) (l : Link) (s : Service) → HasService ss s → HasLink (links_from s 0 (shakes_at ps s)) l
    → HasLink (links_of ps ss) l
of_link ps [] l s has h = absurd has
of_link ps (t ∷ ss) l s (inl e) h =
    has_first (links_from t 0 (shakes_at ps t)) (links_of ps ss) l (subst (λ (r : Service). HasLink (links_from r 0 (shakes_at ps r)) l) (sym e) h)
of_link ps (t ∷ ss) l s (inr has) h = has_second (links_from t 0 (shakes_at ps t)) (links_of ps ss) l (of_link ps ss l s has h)

links_among : (ps : List Plan) (ss ts : List Service) → ((s : Service) → HasService ss s → HasService ts s) → (l : Link) → HasLink (links_of ps ss) l
    → HasLink (links_of ps ts) l
links_among ps ss ts all l h = let (s, has, at) = link_of ps ss l h in of_link ps ts l s (all s has) at

there : (ns : List ℕ) (P : ℕ → Plan) (j : ℕ) (q : Plan) → slice_get (map P ns) j ≡ Some q → (k : ℕ) × (slice_get ns j ≡ Some k)
there [] P j q e = absurd (cc e)
there (k ∷ ns) P zero q e = (k, refl)
there (k ∷ ns) P (suc j) q e = there ns P j q e

below_low : (ps : List Plan) (ss : List Service) (root : ℕ) → IsRooted ps ss root → (i v u : ℕ) → u < length ps → Below ss i v u → v < length ps
below_low ps ss root rooted zero v u low e = subst (λ (n : ℕ). n < length ps) (sym e) low
below_low ps ss root rooted (suc i) v u low (s, has, e, up) = subst (λ (n : ℕ). n < length ps) e (giver_low ps ss root rooted s has)

module _ (ps : List Plan) (M : ℕ → Term) (ss : List Service) (root : ℕ) (rooted : IsRooted ps ss root)
    (realised : (k : ℕ) → k < length ps → RealisesTerm (plan_at ps k) (M k))
  where
    abbrev P : ℕ → Plan
    P = plan_at ps

    abbrev n : ℕ
    n = length ps

    abbrev pub root_grown : Grown
    root_grown = grow P M ss n root

    abbrev ns : List ℕ
    ns = root_grown.numbers

    abbrev of_tree : Wiring
    of_tree = wired root_grown.tree

    abbrev of_build : Wiring
    of_build = wiring_of ps ss root

    grown : IsGrown ps P M n root [] root_grown
    grown = grow_grown ps M ss root rooted realised n root rooted.low

    listed : IsListed ps M ss root rooted realised root 0 root_grown
    listed = grow_listed ps M ss root rooted realised n root

    numbers_low : (k : ℕ) → In ns k → k < n
    numbers_low k has = by_place (listed.below k has)
      where
        by_place : IsBelow ps M ss root rooted realised root 0 k → k < n
        by_place (inl e) = subst (λ (m : ℕ). m < n) (sym e) rooted.low
        by_place (inr (t, i, has_t, user, high, up)) = below_low ps ss root rooted i k t.giver (giver_low ps ss root rooted t has_t) up

    numbers_all : (k : ℕ) → k < n → In ns k
    numbers_all k low =
        let (i, few, up) = reached ps ss root rooted k low in
        all_numbers ps M ss root rooted realised n root i k rooted.low up (omega (arith, few))

    services_all : (s : Service) → HasService ss s → HasService root_grown.services s
    services_all s has =
        let (i, few, up) = reached ps ss root rooted s.user (user_low ps ss root rooted s has) in
        all_services ps M ss root rooted realised n root i s has up few

    abbrev pub to : ℕ → ℕ
    to = forth ns n

    abbrev pub from : ℕ → ℕ
    from = back ns n

    abbrev moves : Place → Place
    moves = rewired to (λ k. unchanged)

    from_to : (k : ℕ) → from (to k) ≡ k
    from_to k = back_forth n ns k (elim (cases_lt k n) as (λ _. In ns k ⊎ (n ≤ k)) [ inl low ↦ inl (numbers_all k low) | inr high ↦ inr high ])

    to_from : (k : ℕ) → to (from k) ≡ k
    to_from = forth_back n ns listed.distinct numbers_low

    named_moved : (a : Place) → named n ns (moves a) ≡ a
    named_moved a =
        let plan = from_to a.plan in
        let end = unchanged_end a.end in
        λ i. place (plan i) (end i)

    moved_named : (a : Place) → moves (named n ns a) ≡ a
    moved_named a =
        let plan = to_from a.plan in
        let end = unchanged_end a.end in
        λ i. place (plan i) (end i)

    plan_to : (k : ℕ) (p : Plan) → slice_get ps k ≡ Some p → k < n → slice_get of_tree.plans (to k) ≡ Some p
    plan_to k p at low =
        ap (λ (l : List Plan). slice_get l (to k)) grown.plans
        ∙ (slice_get-map P ns (to k) ∙ (ap (option_map P) (at_forth n ns k (numbers_all k low)) ∙ ap Some (plan_is ps k p at)))

    low_of : (qs : List Plan) (k : ℕ) (p : Plan) → slice_get qs k ≡ Some p → k < length qs
    low_of [] k p e = absurd (cc e)
    low_of (q ∷ qs) zero p e = omega arith
    low_of (q ∷ qs) (suc k) p e = let h = low_of qs k p e in omega (arith, h)

    abbrev PlanThere : ℕ → Plan → Type 0
    PlanThere k p = (q : Plan) × (slice_get of_tree.plans (to k) ≡ Some q) × IsRenumbered unchanged p q

    plans : (k : ℕ) (p : Plan) → slice_get of_build.plans k ≡ Some p → PlanThere k p
    plans k p at =
        let low : k < n = low_of ps k p at in
        let right = (realised k low).right in
        (p, plan_to k p at low, is_itself p (subst IsRight (plan_is ps k p at) right))

    no_more : (j : ℕ) (q : Plan) → slice_get of_tree.plans j ≡ Some q → (p : Plan) × (slice_get of_build.plans (from j) ≡ Some p)
    no_more j q at =
        let (k, found) = there ns P j q (ap (λ (l : List Plan). slice_get l j) (sym grown.plans) ∙ at) in
        let (is_k, has) = back_at n ns j k found in
        (P k, ap (slice_get ps) is_k ∙ plan_there ps k (numbers_low k has))

    link_there : (l : Link) → HasLink of_build.links l → (m : Link) × HasLink of_tree.links m × (named_link n ns m ≡ l)
    link_there l has =
        mapped_has (named_link n ns) of_tree.links l
        (subst (λ (ls : List Link). HasLink ls l) (sym grown.links) (links_among ps ss root_grown.services services_all l has))

    link_here : (m : Link) → HasLink of_tree.links m → HasLink of_build.links (named_link n ns m)
    link_here m has =
        links_among ps root_grown.services ss listed.services (named_link n ns m)
        (subst (λ (ls : List Link). HasLink ls (named_link n ns m)) grown.links (has_mapped (named_link n ns) of_tree.links m has))

    links_to : (a b : Place) → Linked of_build a b → Linked of_tree (moves a) (moves b)
    links_to a b (l, has, ends) =
        let (m, has_m, e) = link_there l (has_contained of_build.links l has) in
        let one : moves l.one ≡ m.one = ap (λ (r : Link). moves r.one) (sym e) ∙ moved_named m.one in
        let other : moves l.other ≡ m.other = ap (λ (r : Link). moves r.other) (sym e) ∙ moved_named m.other in (
          m,
          contains_has of_tree.links m has_m,
          elim ends as (λ _. ((moves a ≡ m.one) × (moves b ≡ m.other)) ⊎ ((moves a ≡ m.other) × (moves b ≡ m.one))) [
            | inl (f, g) ↦ inl (ap moves f ∙ one, ap moves g ∙ other)
            | inr (f, g) ↦ inr (ap moves f ∙ other, ap moves g ∙ one)
          ],
        )

    links_back : (a b : Place) → Linked of_tree (moves a) (moves b) → Linked of_build a b
    links_back a b (m, has, ends) =
        let l : Link = named_link n ns m in
        let name : (c d : Place) → moves c ≡ d → c ≡ named n ns d = λ c d e. sym (named_moved c) ∙ ap (named n ns) e in (
          l,
          contains_has of_build.links l (link_here m (has_contained of_tree.links m has)),
          elim ends as (λ _. ((a ≡ l.one) × (b ≡ l.other)) ⊎ ((a ≡ l.other) × (b ≡ l.one))) [
            | inl (f, g) ↦ inl (name a m.one f, name b m.other g)
            | inr (f, g) ↦ inr (name a m.other f, name b m.one g)
          ],
        )

    pub tree_rewired : IsRewired to from (λ k. unchanged) of_build of_tree
    tree_rewired =
        record {
          returns = from_to;
          comes = to_from;
          one_to_one = λ k. unchanged_one;
          plans = plans;
          no_more = no_more;
          links = λ a b. (links_to a b, links_back a b);
          giver =
              (let first : to root ≡ 0 =
              ap (λ (l : List ℕ). forth l n root) grown.first.1
              ∙ ap (λ (b : Bool). if b then zero else suc (forth grown.first.0 n root)) (eq-eqb root root refl)
              in
              grown.giver ∙ sym first);
          skipped = grown.skipped;
          outcome = grown.result ∙ ap outcome_of (sym (plan_there ps root rooted.low));
        }
