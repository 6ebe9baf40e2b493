-- What a wired node connects fits: what leads from a dot of its web is fair.
--
-- Read first: ChainLemmas, FairLemmas. From a dot lead the flows of the term, the joints of the supplies, and the ties between
-- numbers and the supplies' results.
use Rattle.std.specs.Prelude.{◌≡◌, ℕ, zero, suc, ◌+◌, ◌≤◌, ◌<◌, false, List, [], ◌∷◌, ◌++◌, ◌⊎◌, length, map, Option, Some, Contains, slice_get, option_map}
use Rattle.std.proofs.Common.{refl, sym, ◌∙◌, ap, subst, arith, inl, inr}
use Rattle.std.proofs.lemmas.List.Elements.{Contains-append_cases}
use Rattle.std.proofs.lemmas.Option.{slice_get-map}
use Rattle.gos_types.specs.declared.shakes.Role.{Role}
use Rattle.gos_types.specs.declared.shakes.Role.TheVariants.{Serve, Ask}
use Rattle.gos_types.specs.Handshakes.{turned}
use Rattle.gos_types.specs.Types.{Type'}
use Rattle.gos_model.specs.Typing.{Imported}
use Rattle.gos_check.specs.Nodes.{Numbered, type_of_node}
use Rattle.gos_plan.specs.Kinds as kinds
use Rattle.gos_plan.specs.Kinds.{Part, Contact, asks, contacts_of, turned_contact}
use Rattle.gos_plan.specs.Plans.{End, ResultEnd, Joint, Plan, contact_at, turned_if, IsRight}
use Rattle.gos_plan.proofs.JointLemmas.{fits, one_joint, contained}
use Rattle.gos_plan.proofs.ContactLemmas.{turned_contact_twice}
use Rattle.gos_ties.specs.declared.points.Place.TheVariants as places
use Rattle.gos_ties.specs.declared.points.Place as point_places
use Rattle.gos_ties.specs.declared.points.Point.{Point}
use Rattle.gos_ties.specs.declared.points.Tie as point_ties
use Rattle.gos_ties.specs.Ties.{point}
use Rattle.gos_ties.specs.Counted.{meetings}
use Rattle.gos_realises.specs.realises.Regular.{count}
use Rattle.gos_joining.specs.webs.Webs.{Dot, Of, Number, Node, Within, Tie, tie, joint, own_web}
use Rattle.gos_joining.proofs.webs.WebLemmas.{asks_there, serves_there}
use Rattle.gos_joining.specs.unions.Unions.{within}
use Rattle.gos_joining.proofs.unions.UnionLemmas.{Image, of_image}
use Rattle.gos_compile.specs.Wiring.{Types, row, parts_of, ties_of}
use Rattle.gos_compile.specs.Typed.{NodesTyped}
use Rattle.gos_compile.proofs.TallyLemmas as tallies
use Rattle.gos_compile.proofs.ThinLemmas.{span_once, part_tells, outside_tells}
use Rattle.gos_terms.specs.wired.Wired.{dot_of, dot_ties, Supplies, result_ties, all_supply_ties}
use Rattle.gos_terms.specs.wired.NodeFitting.{IsLinear, AreOfTypes}
use Rattle.gos_terms.proofs.wired.WayLemmas.{point_is}
use Rattle.gos_terms.proofs.wired.TieLemmas.{inside, of_results, OfSupplies, of_supplies}
use Rattle.gos_terms.proofs.wired.FlowLemmas.{Flow, tie_in, Leaves, leaves_back}
use Rattle.gos_terms.proofs.wired.FlowedLemmas.{seen, flows_of}
use Rattle.gos_terms.proofs.wired.OutLemmas.{seen_length}
use Rattle.gos_terms.proofs.wired.SightLemmas as sight
use Rattle.gos_terms.proofs.wired.TableLemmas.{table_of, table_fits}
use Rattle.gos_terms.proofs.wired.TermFlowLemmas.{flows_good}
use Rattle.gos_terms.proofs.wired.CountLemmas.{alike, meets, is_it}
use Rattle.gos_terms.proofs.wired.InnerCountLemmas.{number_once, number_made, node_once}
use Rattle.gos_terms.proofs.wired.FairLemmas.{leaves_counted, one_leaves, meets_few, leaves_have, either, through_at}
use Rattle.gos_terms.proofs.wired.ChainLemmas.{IsFair}

-- so many parts before those of the node
abbrev pub pads : ℕ → List Part
pads zero = []
pads (suc n) = kinds.Skip ∷ pads n

behind_pads : (i : ℕ) (ks : List Part) (k : ℕ) → slice_get (pads i ++ ks) (i + k) ≡ slice_get ks k
behind_pads zero ks k = let zeros : 0 + k ≡ k = omega arith in ap (slice_get ks) zeros
behind_pads (suc i) ks k = let sum : suc i + k ≡ suc (i + k) = omega arith in ap (slice_get (kinds.Skip ∷ (pads i ++ ks))) sum ∙ behind_pads i ks k

abbrev web_of : Dot → ℕ
web_of (Of e) = 0
web_of (Number n h) = 0
web_of (Node n h) = 0
web_of (Within k d) = k

pub other_webs : (n : ℕ) (a b : Dot) → Within 0 a ≡ Within (suc n) b → ⊥
other_webs n a b e = let no : 0 ≡ suc n = ap web_of e in omega (arith, no)

pub not_itself : (c : Contact) → c.role ≡ turned c.role → ⊥
not_itself c e = by c.role e
  where
    by : (r : Role) → r ≡ turned r → ⊥
    by Serve e = cc e
    by Ask e = cc e

not_alike : (r : Role) → alike r (turned r) ≡ false
not_alike Serve = refl
not_alike Ask = refl

seen_at : (t : Type') (h : ℕ) (c : Contact) → slice_get (contacts_of t) h ≡ Some c → slice_get (seen t) h ≡ Some (turned_contact c)
seen_at t h c e = slice_get-map turned_contact (contacts_of t) h ∙ ap (option_map turned_contact) e

pub one_contact : (o : Option Contact) (c d : Contact) → o ≡ Some c → o ≡ Some d → c ≡ d
one_contact o c d e f = let both : Some c ≡ Some d = sym e ∙ f in cc both

-- what an end of a joint meets
one_partner : (p : Plan) → IsRight p → (e f g : End) → Contains p.joints (joint e f) ⊎ Contains p.joints (joint f e)
    → Contains p.joints (joint e g) ⊎ Contains p.joints (joint g e) → f ≡ g
one_partner p right e f g (inl a) (inl b) =
    ap (λ (j : Joint). j.serving) (one_joint p [] p.joints (joint e f) (joint e g) e right (contained p.joints (joint e f) a) (contained p.joints (joint e g) b) (asks_there e f) (asks_there e g))
one_partner p right e f g (inr a) (inr b) =
    ap (λ (j : Joint). j.asking) (one_joint p [] p.joints (joint f e) (joint g e) e right (contained p.joints (joint f e) a) (contained p.joints (joint g e) b) (serves_there f e) (serves_there g e))
one_partner p right e f g (inl a) (inr b) =
    let same = one_joint p [] p.joints (joint e f) (joint g e) e right (contained p.joints (joint e f) a) (contained p.joints (joint g e) b) (asks_there e f) (serves_there g e) in
    ap (λ (j : Joint). j.serving) same ∙ ap (λ (j : Joint). j.asking) same
one_partner p right e f g (inr a) (inl b) =
    let same = one_joint p [] p.joints (joint f e) (joint e g) e right (contained p.joints (joint f e) a) (contained p.joints (joint e g) b) (serves_there f e) (asks_there e g) in
    ap (λ (j : Joint). j.asking) same ∙ ap (λ (j : Joint). j.serving) same

module _ (types : Types) (i j : ℕ) (m : Numbered) (ns : List ℕ) (env : Supplies) (typed : NodesTyped types m) (linear : IsLinear m ns)
    (supplies : AreOfTypes types env ns)
  where
    abbrev pub parts : List Part
    parts = pads i ++ parts_of types m

    abbrev pub table : ℕ → List Contact
    table = table_of j m

    abbrev pub outcome : Type'
    outcome = type_of_node m

    abbrev pub out : List Point
    out = row places.Result 0 (count (type_of_node m))

    abbrev pub fs : List Flow
    fs = flows_of types i j m out

    abbrev own_ties : List point_ties.Tie
    own_ties = ties_of types i j m out

    pub parts_at : sight.PartsAt parts [] outcome types table i (parts_of types m)
    parts_at k x there = behind_pads i (parts_of types m) k ∙ there

    sees : sight.See parts [] outcome types table (seen outcome) out
    sees =
        sight.see_row parts [] outcome types table places.Result 0 (seen outcome) (count outcome) (sym (seen_length outcome))
        (λ k c there. let start : 0 + k ≡ k = omega arith in ap (slice_get (seen outcome)) start ∙ there)

    good : sight.Good parts [] outcome types table fs own_ties
    good = flows_good parts [] outcome types table i j m out typed (table_fits j m) parts_at sees

    no_imports : (k : ℕ) (x : Imported) → slice_get [] k ≡ Some x → types (0 + k) ≡ x.ty
    no_imports k x there = absurd (cc there)

    -- each point of the term is met in each role once
    met_by_ties : (r : Role) (q : Point) → meetings q own_ties ≤ 1 → meets r q fs ≤ 1
    met_by_ties r q few =
        let all = meets_few r q fs in
        let same : meetings q (map tie_in fs) ≡ meetings q own_ties = ap (meetings q) good.1 in
        omega (arith, all, same, few)

    met_once : (r : Role) (q : Point) → meets r q fs ≤ 1
    met_once r q = by_place q.place q.shake refl
      where
        by_place : (x : point_places.Place) (h : ℕ) → q ≡ record { place = x; shake = h } → meets r q fs ≤ 1
        by_place (places.Part k) h e =
            subst (λ (x : Point). meets r x fs ≤ 1) (sym e)
            (met_by_ties r (point (places.Part k) h)
            (let all = tallies.tallied (point (places.Part k) h) types i j m out in
            let none = tallies.row_once (point (places.Part k) h) places.Result 0 (count outcome) in
            let tells = part_tells k types i j m in
            let few = span_once k i (length (parts_of types m)) in
            omega (arith, all, none, tells, few)))
        by_place (places.Import k) h e =
            subst (λ (x : Point). meets r x fs ≤ 1) (sym e)
            (met_by_ties r (point (places.Import k) h)
            (let all = tallies.tallied (point (places.Import k) h) types i j m out in
            let none = tallies.row_once (point (places.Import k) h) places.Result 0 (count outcome) in
            let tells = outside_tells (places.Import k) (λ n. refl) types i j m in
            omega (arith, all, none, tells)))
        by_place places.Result h e =
            subst (λ (x : Point). meets r x fs ≤ 1) (sym e)
            (met_by_ties r (point places.Result h)
            (let all = tallies.tallied (point places.Result h) types i j m out in
            let own = tallies.row_once (point places.Result h) places.Result 0 (count outcome) in
            let tells = outside_tells places.Result (λ n. refl) types i j m in
            omega (arith, all, own, tells)))
        by_place (places.Number k) h e =
            subst (λ (x : Point). meets r x fs ≤ 1) (sym e)
            (number_once parts [] outcome table types [] i j m typed (table_fits j m) parts_at sees no_imports r k h (linear.used_once k) (linear.made_once k)
            (λ some. omega arith))
        by_place (places.Node k) h e =
            subst (λ (x : Point). meets r x fs ≤ 1) (sym e)
            (node_once parts [] outcome table types [] i j m typed (table_fits j m) parts_at sees no_imports r k h)

    -- what leads from a dot
    abbrev pub OfTerm : Dot → Dot → Contact → Type 0
    OfTerm d x c = (q y : Point) × (d ≡ Within 0 (dot_of q)) × (x ≡ Within 0 (dot_of y)) × Leaves fs q y c

    abbrev pub OfJoint : Dot → Dot → Contact → Type 0
    OfJoint d x c =
        (n : ℕ) × (e f : End) × Contains ns n × (d ≡ Within (suc n) (Of e)) × (x ≡ Within (suc n) (Of f)) × (contact_at (env n).plan e ≡ Some c)
        × (contact_at (env n).plan f ≡ Some (turned_contact c)) × (Contains (env n).plan.joints (joint e f) ⊎ Contains (env n).plan.joints (joint f e))

    abbrev pub ToResult : Dot → Dot → Contact → Type 0
    ToResult d x c =
        (n h : ℕ) × Contains ns n × (d ≡ Within 0 (Number n h)) × (x ≡ Within (suc n) (Of (ResultEnd h))) × (slice_get (seen (types n)) h ≡ Some c)

    abbrev pub FromResult : Dot → Dot → Contact → Type 0
    FromResult d x c =
        (n h : ℕ) × Contains ns n × (d ≡ Within (suc n) (Of (ResultEnd h))) × (x ≡ Within 0 (Number n h)) × (slice_get (contacts_of (types n)) h ≡ Some c)

    abbrev pub Leads : Dot → Dot → Contact → Type 0
    Leads d x c = OfTerm d x c ⊎ OfJoint d x c ⊎ ToResult d x c ⊎ FromResult d x c

    pub back : (d x : Dot) (c : Contact) → Leads d x c → Leads x d (turned_contact c)
    back d x c (inl (q, y, at_d, at_x, leaves)) = inl (y, q, at_x, at_d, leaves_back fs q y c leaves)
    back d x c (inr (inl (n, e, f, among, at_d, at_x, at_e, at_f, joins))) =
        inr (inl (n, f, e, among, at_x, at_d, at_f, at_e ∙ ap (λ (k : Contact). Some k) (sym (turned_contact_twice c)), turn joins))
      where
        turn : Contains (env n).plan.joints (joint e f) ⊎ Contains (env n).plan.joints (joint f e)
            → Contains (env n).plan.joints (joint f e) ⊎ Contains (env n).plan.joints (joint e f)
        turn (inl a) = inr a
        turn (inr a) = inl a
    back d x c (inr (inr (inl (n, h, among, at_d, at_x, at_h)))) =
        inr (inr (inr (n, h, among, at_x, at_d, sight.turned_at (contacts_of (types n)) h c at_h)))
    back d x c (inr (inr (inr (n, h, among, at_d, at_x, at_h)))) = inr (inr (inl (n, h, among, at_x, at_d, seen_at (types n) h c at_h)))

    -- the point of a number, as a dot
    number_is : (q : Point) (n h : ℕ) → Within 0 (dot_of q) ≡ Within 0 (Number n h) → q ≡ point (places.Number n) h
    number_is q n h e = let inner : dot_of q ≡ Number n h = cc e in point_is q (point (places.Number n) h) inner

    point_same : (q y : Point) → Within 0 (dot_of q) ≡ Within 0 (dot_of y) → q ≡ y
    point_same q y e = let inner : dot_of q ≡ dot_of y = cc e in point_is q y inner

    -- a number that has a supply is not made in the term, so nothing leads on in that role
    not_made : (q y : Point) (n h : ℕ) (c d : Contact) → Contains ns n → q ≡ point (places.Number n) h → Leaves fs q y c → slice_get (seen (types n)) h ≡ Some d
        → c.role ≡ d.role → ⊥
    not_made q y n h c d among is leaves at_h e =
        let there : Leaves fs (point (places.Number n) h) y c = subst (λ (z : Point). Leaves fs z y c) is leaves in
        let some = leaves_counted fs (point (places.Number n) h) y c there in
        let own : slice_get (contacts_of (types n)) h ≡ Some (turned_contact d) = sight.turned_at (contacts_of (types n)) h d at_h in
        let differs : is_it c.role (slice_get (contacts_of (types n)) h) ≡ false =
        ap (is_it c.role) own ∙ (ap (λ (r : Role). alike r (turned d.role)) e ∙ not_alike d.role)
        in
        let few = number_made parts [] outcome table types [] i j m typed (table_fits j m) parts_at sees no_imports c.role n h differs in
        let none = linear.supplied n among in
        omega (arith, some, few, none)

    result_turned : (n h : ℕ) (c d : Contact) → Contains ns n → contact_at (env n).plan (ResultEnd h) ≡ Some c → slice_get (contacts_of (types n)) h ≡ Some d
        → c ≡ turned_contact d
    result_turned n h c d among at_c at_d =
        let type = (supplies n among).1 in
        let there : turned_if (slice_get (contacts_of (env n).plan.outcome) h) ≡ Some (turned_contact d) =
        ap (λ (t : Type'). turned_if (slice_get (contacts_of t) h)) type ∙ ap turned_if at_d
        in
        one_contact (contact_at (env n).plan (ResultEnd h)) c (turned_contact d) at_c there

    pub inner_is : (n k : ℕ) (e f : End) → Within (suc n) (Of e) ≡ Within (suc k) (Of f) → (n ≡ k) × (e ≡ f)
    inner_is n k e f is = (cc is, cc is)

    number_same : (n k h g : ℕ) → Within 0 (Number n h) ≡ Within 0 (Number k g) → (n ≡ k) × (h ≡ g)
    number_same n k h g is = (cc is, cc is)

    joint_moved : (n k : ℕ) (e f g : End) → n ≡ k → e ≡ f → Contains (env k).plan.joints (joint f g) ⊎ Contains (env k).plan.joints (joint g f)
        → Contains (env n).plan.joints (joint e g) ⊎ Contains (env n).plan.joints (joint g e)
    joint_moved n k e f g numbers ends joins =
        subst (λ (z : End). Contains (env n).plan.joints (joint z g) ⊎ Contains (env n).plan.joints (joint g z)) (sym ends)
        (subst (λ (l : ℕ). Contains (env l).plan.joints (joint f g) ⊎ Contains (env l).plan.joints (joint g f)) (sym numbers) joins)

    pub contact_moved : (n k : ℕ) (e f : End) (c : Contact) → n ≡ k → e ≡ f → contact_at (env n).plan e ≡ Some c → contact_at (env k).plan f ≡ Some c
    contact_moved n k e f c numbers ends at =
        subst (λ (l : ℕ). contact_at (env l).plan f ≡ Some c) numbers (subst (λ (z : End). contact_at (env n).plan z ≡ Some c) ends at)

    once : (d x y : Dot) (c k : Contact) → Leads d x c → Leads d y k → c.role ≡ k.role → x ≡ y
    once d x y c k (inl (q, u, at_d, at_x, leaves)) (inl (p, v, at_d', at_y, leaves')) e =
        let same = point_same q p (sym at_d ∙ at_d') in
        let there : Leaves fs q v k = subst (λ (z : Point). Leaves fs z v k) (sym same) leaves' in
        let points : u ≡ v = one_leaves fs q u v c k e (met_once c.role q) leaves there in
        at_x ∙ (ap (λ (z : Point). Within 0 (dot_of z)) points ∙ sym at_y)
    once d x y c k (inl (q, u, at_d, at_x, leaves)) (inr (inl (n, a, b, among, at_d', at_y, at_a, at_b, joins))) e =
        absurd (other_webs n (dot_of q) (Of a) (sym at_d ∙ at_d'))
    once d x y c k (inl (q, u, at_d, at_x, leaves)) (inr (inr (inl (n, h, among, at_d', at_y, at_h)))) e =
        absurd (not_made q u n h c k among (number_is q n h (sym at_d ∙ at_d')) leaves at_h e)
    once d x y c k (inl (q, u, at_d, at_x, leaves)) (inr (inr (inr (n, h, among, at_d', at_y, at_h)))) e =
        absurd (other_webs n (dot_of q) (Of (ResultEnd h)) (sym at_d ∙ at_d'))
    once d x y c k (inr (inl (n, a, b, among, at_d, at_x, at_a, at_b, joins))) (inl (p, v, at_d', at_y, leaves')) e =
        absurd (other_webs n (dot_of p) (Of a) (sym at_d' ∙ at_d))
    once d x y c k (inr (inl (n, a, b, among, at_d, at_x, at_a, at_b, joins))) (inr (inl (n', a', b', among', at_d', at_y, at_a', at_b', joins'))) e =
        let (numbers, ends) = inner_is n n' a a' (sym at_d ∙ at_d') in
        let partners : b ≡ b' = one_partner (env n).plan (supplies n among).0 a b b' joins (joint_moved n n' a a' b' numbers ends joins') in
        at_x ∙ ((λ t. Within (suc (numbers t)) (Of (partners t))) ∙ sym at_y)
    once d x y c k (inr (inl (n, a, b, among, at_d, at_x, at_a, at_b, joins))) (inr (inr (inl (n', h, among', at_d', at_y, at_h)))) e =
        absurd (other_webs n (Number n' h) (Of a) (sym at_d' ∙ at_d))
    once d x y c k (inr (inl (n, a, b, among, at_d, at_x, at_a, at_b, joins))) (inr (inr (inr (n', h, among', at_d', at_y, at_h)))) e =
        let (numbers, ends) = inner_is n n' a (ResultEnd h) (sym at_d ∙ at_d') in
        let turned_k : c ≡ turned_contact k = result_turned n' h c k among' (contact_moved n n' a (ResultEnd h) c numbers ends at_a) at_h in
        absurd (not_itself k (sym e ∙ ap (λ (z : Contact). z.role) turned_k))
    once d x y c k (inr (inr (inl (n, h, among, at_d, at_x, at_h)))) (inl (p, v, at_d', at_y, leaves')) e =
        absurd (not_made p v n h k c among (number_is p n h (sym at_d' ∙ at_d)) leaves' at_h (sym e))
    once d x y c k (inr (inr (inl (n, h, among, at_d, at_x, at_h)))) (inr (inl (n', a', b', among', at_d', at_y, at_a', at_b', joins'))) e =
        absurd (other_webs n' (Number n h) (Of a') (sym at_d ∙ at_d'))
    once d x y c k (inr (inr (inl (n, h, among, at_d, at_x, at_h)))) (inr (inr (inl (n', h', among', at_d', at_y, at_h')))) e =
        let (numbers, shakes) = number_same n n' h h' (sym at_d ∙ at_d') in
        at_x ∙ ((λ t. Within (suc (numbers t)) (Of (ResultEnd (shakes t)))) ∙ sym at_y)
    once d x y c k (inr (inr (inl (n, h, among, at_d, at_x, at_h)))) (inr (inr (inr (n', h', among', at_d', at_y, at_h')))) e =
        absurd (other_webs n' (Number n h) (Of (ResultEnd h')) (sym at_d ∙ at_d'))
    once d x y c k (inr (inr (inr (n, h, among, at_d, at_x, at_h)))) (inl (p, v, at_d', at_y, leaves')) e =
        absurd (other_webs n (dot_of p) (Of (ResultEnd h)) (sym at_d' ∙ at_d))
    once d x y c k (inr (inr (inr (n, h, among, at_d, at_x, at_h)))) (inr (inl (n', a', b', among', at_d', at_y, at_a', at_b', joins'))) e =
        let (numbers, ends) = inner_is n' n a' (ResultEnd h) (sym at_d' ∙ at_d) in
        let turned_c : k ≡ turned_contact c = result_turned n h k c among (contact_moved n' n a' (ResultEnd h) k numbers ends at_a') at_h in
        absurd (not_itself c (e ∙ ap (λ (z : Contact). z.role) turned_c))
    once d x y c k (inr (inr (inr (n, h, among, at_d, at_x, at_h)))) (inr (inr (inl (n', h', among', at_d', at_y, at_h')))) e =
        absurd (other_webs n (Number n' h') (Of (ResultEnd h)) (sym at_d' ∙ at_d))
    once d x y c k (inr (inr (inr (n, h, among, at_d, at_x, at_h)))) (inr (inr (inr (n', h', among', at_d', at_y, at_h')))) e =
        let (numbers, ends) = inner_is n n' (ResultEnd h) (ResultEnd h') (sym at_d ∙ at_d') in
        let shakes : h ≡ h' = cc ends in
        at_x ∙ ((λ t. Within 0 (Number (numbers t) (shakes t))) ∙ sym at_y)

    pub has_there : (q y : Point) (c : Contact) → Leaves fs q y c → sight.Has parts [] outcome types table q.place q.shake c
    has_there q y c leaves = leaves_have parts [] outcome types table fs good.0 q y c leaves

    has_number : (q y : Point) (n h : ℕ) (c : Contact) → q ≡ point (places.Number n) h → Leaves fs q y c
        → (slice_get (contacts_of (types n)) h ≡ Some c) ⊎ (slice_get (contacts_of (types n)) h ≡ Some (turned_contact c))
    has_number q y n h c is leaves = has_there (point (places.Number n) h) y c (subst (λ (z : Point). Leaves fs z y c) is leaves)

    both_same : (c k : Contact) → (c.role ≡ k.role → ⊥) → c ≡ k → k ≡ turned_contact c
    both_same c k differ e = absurd (differ (ap (λ (z : Contact). z.role) e))

    through : (d x y : Dot) (c k : Contact) → Leads d x c → Leads d y k → (c.role ≡ k.role → ⊥) → k ≡ turned_contact c
    through d x y c k (inl (q, u, at_d, at_x, leaves)) (inl (p, v, at_d', at_y, leaves')) differ =
        let same = point_same q p (sym at_d ∙ at_d') in
        through_at parts [] outcome types table q.place q.shake c k differ (has_there q u c leaves)
        (has_there q v k (subst (λ (z : Point). Leaves fs z v k) (sym same) leaves'))
    through d x y c k (inl (q, u, at_d, at_x, leaves)) (inr (inl (n, a, b, among, at_d', at_y, at_a, at_b, joins))) differ =
        absurd (other_webs n (dot_of q) (Of a) (sym at_d ∙ at_d'))
    through d x y c k (inl (q, u, at_d, at_x, leaves)) (inr (inr (inl (n, h, among, at_d', at_y, at_h)))) differ =
        either parts [] outcome types table (slice_get (contacts_of (types n)) h) c k differ (has_number q u n h c (number_is q n h (sym at_d ∙ at_d')) leaves)
        (inr (sight.turned_at (contacts_of (types n)) h k at_h))
    through d x y c k (inl (q, u, at_d, at_x, leaves)) (inr (inr (inr (n, h, among, at_d', at_y, at_h)))) differ =
        absurd (other_webs n (dot_of q) (Of (ResultEnd h)) (sym at_d ∙ at_d'))
    through d x y c k (inr (inl (n, a, b, among, at_d, at_x, at_a, at_b, joins))) (inl (p, v, at_d', at_y, leaves')) differ =
        absurd (other_webs n (dot_of p) (Of a) (sym at_d' ∙ at_d))
    through d x y c k (inr (inl (n, a, b, among, at_d, at_x, at_a, at_b, joins))) (inr (inl (n', a', b', among', at_d', at_y, at_a', at_b', joins'))) differ =
        let (numbers, ends) = inner_is n n' a a' (sym at_d ∙ at_d') in
        both_same c k differ (one_contact (contact_at (env n').plan a') c k (contact_moved n n' a a' c numbers ends at_a) at_a')
    through d x y c k (inr (inl (n, a, b, among, at_d, at_x, at_a, at_b, joins))) (inr (inr (inl (n', h, among', at_d', at_y, at_h)))) differ =
        absurd (other_webs n (Number n' h) (Of a) (sym at_d' ∙ at_d))
    through d x y c k (inr (inl (n, a, b, among, at_d, at_x, at_a, at_b, joins))) (inr (inr (inr (n', h, among', at_d', at_y, at_h)))) differ =
        let (numbers, ends) = inner_is n n' a (ResultEnd h) (sym at_d ∙ at_d') in
        let turned_k : c ≡ turned_contact k = result_turned n' h c k among' (contact_moved n n' a (ResultEnd h) c numbers ends at_a) at_h in
        sym (ap turned_contact turned_k ∙ turned_contact_twice k)
    through d x y c k (inr (inr (inl (n, h, among, at_d, at_x, at_h)))) (inl (p, v, at_d', at_y, leaves')) differ =
        either parts [] outcome types table (slice_get (contacts_of (types n)) h) c k differ (inr (sight.turned_at (contacts_of (types n)) h c at_h))
        (has_number p v n h k (number_is p n h (sym at_d' ∙ at_d)) leaves')
    through d x y c k (inr (inr (inl (n, h, among, at_d, at_x, at_h)))) (inr (inl (n', a', b', among', at_d', at_y, at_a', at_b', joins'))) differ =
        absurd (other_webs n' (Number n h) (Of a') (sym at_d ∙ at_d'))
    through d x y c k (inr (inr (inl (n, h, among, at_d, at_x, at_h)))) (inr (inr (inl (n', h', among', at_d', at_y, at_h')))) differ =
        let (numbers, shakes) = number_same n n' h h' (sym at_d ∙ at_d') in
        both_same c k differ (one_contact (slice_get (seen (types n)) h) c k at_h ((λ t. slice_get (seen (types (numbers t))) (shakes t)) ∙ at_h'))
    through d x y c k (inr (inr (inl (n, h, among, at_d, at_x, at_h)))) (inr (inr (inr (n', h', among', at_d', at_y, at_h')))) differ =
        absurd (other_webs n' (Number n h) (Of (ResultEnd h')) (sym at_d ∙ at_d'))
    through d x y c k (inr (inr (inr (n, h, among, at_d, at_x, at_h)))) (inl (p, v, at_d', at_y, leaves')) differ =
        absurd (other_webs n (dot_of p) (Of (ResultEnd h)) (sym at_d' ∙ at_d))
    through d x y c k (inr (inr (inr (n, h, among, at_d, at_x, at_h)))) (inr (inl (n', a', b', among', at_d', at_y, at_a', at_b', joins'))) differ =
        let (numbers, ends) = inner_is n' n a' (ResultEnd h) (sym at_d' ∙ at_d) in
        result_turned n h k c among (contact_moved n' n a' (ResultEnd h) k numbers ends at_a') at_h
    through d x y c k (inr (inr (inr (n, h, among, at_d, at_x, at_h)))) (inr (inr (inl (n', h', among', at_d', at_y, at_h')))) differ =
        absurd (other_webs n (Number n' h') (Of (ResultEnd h)) (sym at_d' ∙ at_d))
    through d x y c k (inr (inr (inr (n, h, among, at_d, at_x, at_h)))) (inr (inr (inr (n', h', among', at_d', at_y, at_h')))) differ =
        let (numbers, ends) = inner_is n n' (ResultEnd h) (ResultEnd h') (sym at_d ∙ at_d') in
        let shakes : h ≡ h' = cc ends in
        both_same c k differ (one_contact (slice_get (contacts_of (types n)) h) c k at_h ((λ t. slice_get (contacts_of (types (numbers t))) (shakes t)) ∙ at_h'))

    pub fair : IsFair Dot Leads
    fair = record { back = back; once = once; through = through }

    -- each tie leads from its one dot to the other
    abbrev Leading : Tie → Type 0
    Leading t = (c : Contact) × Leads t.one t.other c

    own_leads : (v : point_ties.Tie) → Image tie_in fs v → Leading (tie (Within 0 (dot_of v.one)) (Within 0 (dot_of v.other)))
    own_leads v (f, has, is) =
        subst (λ (w : point_ties.Tie). Leading (tie (Within 0 (dot_of w.one)) (Within 0 (dot_of w.other)))) is
        (f.contact, inl (f.one, f.other, refl, refl, (f, has, inl (refl, refl, refl))))

    term_leads : (u : Tie) → Image (λ (v : point_ties.Tie). tie (dot_of v.one) (dot_of v.other)) own_ties u → Leading (tie (Within 0 u.one) (Within 0 u.other))
    term_leads u (v, has, is) =
        subst (λ (w : Tie). Leading (tie (Within 0 w.one) (Within 0 w.other))) is
        (own_leads v (of_image tie_in fs v (subst (λ (ts : List point_ties.Tie). Contains ts v) (sym good.1) has)))

    joint_leads : (n : ℕ) (u : Tie) → Contains ns n → Image (λ (jn : Joint). tie (Of jn.asking) (Of jn.serving)) (env n).plan.joints u
        → Leading (tie (Within (suc n) u.one) (Within (suc n) u.other))
    joint_leads n u among (jn, has, is) =
        let there = fits (env n).plan [] (env n).plan.joints jn (supplies n among).0 (contained (env n).plan.joints jn has) in
        subst (λ (w : Tie). Leading (tie (Within (suc n) w.one) (Within (suc n) w.other))) is
        (asks there.0 there.1, inr (inl (n, jn.asking, jn.serving, among, refl, refl, there.2, there.3, inl has)))

    some_at : (cs : List Contact) (h : ℕ) → h < length cs → (c : Contact) × (slice_get cs h ≡ Some c)
    some_at [] h small = absurd (omega (arith, small))
    some_at (c ∷ cs) zero small = (c, refl)
    some_at (c ∷ cs) (suc h) small = some_at cs h (omega (arith, small))

    result_leads : (n h : ℕ) → Contains ns n → h < count (types n) → Leading (tie (Within 0 (Number n h)) (Within (suc n) (Of (ResultEnd h))))
    result_leads n h among small =
        let size = seen_length (types n) in
        let (c, at) = some_at (seen (types n)) h (omega (arith, small, size)) in
        (c, inr (inr (inl (n, h, among, refl, refl, at))))

    pub tie_leads : (t : Tie) → Contains (within 0 (dot_ties own_ties) ++ all_supply_ties types env ns) t → Leading t
    tie_leads t has = by_part (Contains-append_cases (within 0 (dot_ties own_ties)) (all_supply_ties types env ns) t has)
      where
        of_own : Image (inside 0) (dot_ties own_ties) t → Leading t
        of_own (u, among, is) = subst Leading is (term_leads u (of_image (λ (v : point_ties.Tie). tie (dot_of v.one) (dot_of v.other)) own_ties u among))

        of_web : (n : ℕ) → Contains ns n → Image (inside (suc n)) (own_web (env n).plan).ties t → Leading t
        of_web n number (u, among, is) =
            subst Leading is (joint_leads n u number (of_image (λ (jn : Joint). tie (Of jn.asking) (Of jn.serving)) (env n).plan.joints u among))

        of_result : (n : ℕ) → Contains ns n → Contains (result_ties n 0 (count (types n))) t → Leading t
        of_result n number among =
            let (g, low, high, is) = of_results n 0 (count (types n)) t among in subst Leading (sym is) (result_leads n g number (omega (arith, high)))

        by_supply : (n : ℕ) → Contains ns n → Contains (within (suc n) (own_web (env n).plan).ties) t ⊎ Contains (result_ties n 0 (count (types n))) t → Leading t
        by_supply n number (inl h) = of_web n number (of_image (inside (suc n)) (own_web (env n).plan).ties t h)
        by_supply n number (inr h) = of_result n number h

        of_some : OfSupplies types env ns t → Leading t
        of_some (n, number, among) =
            by_supply n number (Contains-append_cases (within (suc n) (own_web (env n).plan).ties) (result_ties n 0 (count (types n))) t among)

        by_part : Contains (within 0 (dot_ties own_ties)) t ⊎ Contains (all_supply_ties types env ns) t → Leading t
        by_part (inl h) = of_own (of_image (inside 0) (dot_ties own_ties) t h)
        by_part (inr h) = of_some (of_supplies types env ns t h)
