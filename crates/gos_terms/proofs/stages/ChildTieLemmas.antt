-- The ties of a child's web are ways of its node's, and back.
use Rattle.std.specs.Prelude.{◌≢◌, ◌+◌, ◌<◌, ◌≤◌, ◌⊎◌, map, Contains}
use Rattle.std.proofs.Common.{◌≡◌, ℕ, zero, suc, List, [], ◌∷◌, inl, inr, refl, sym, ◌∙◌, ap, subst, arith}
use Rattle.std.proofs.lemmas.List.{length-map}
use Rattle.std.proofs.lemmas.List.Elements.{Contains-append_cases}
use Rattle.gos_model.proofs.NumberLemmas.{number_cases}
use Rattle.gos_check.specs.Nodes.{type_of_node}
use Rattle.gos_plan.specs.Plans.{ResultEnd, Joint}
use Rattle.gos_realises.specs.realises.Regular.{count}
use Rattle.gos_ties.specs.declared.points.Place.TheVariants as places
use Rattle.gos_ties.specs.declared.points.Tie as point_ties
use Rattle.gos_joining.specs.webs.Webs.{Dot, Of, Number, Within, Tie, tie, Way, here, own_web}
use Rattle.gos_joining.specs.unions.Unions.{within}
use Rattle.gos_joining.proofs.unions.UnionLemmas.{of_image, in_image}
use Rattle.gos_compile.specs.Wiring.{Types, row, ties_of}
use Rattle.gos_terms.specs.wired.Wired.{Supplies, Placing, dot_of, dot_ties, result_ties, supply_ties, all_supply_ties}
use Rattle.gos_terms.specs.stages.Leading.{dot_leading}
use Rattle.gos_terms.specs.stages.Folding.{Child, lead_point, is_used, lodge, child_out, child_web, child_dot, own_ties, IsChild, ChildWays}
use Rattle.gos_terms.proofs.stages.FollowLemmas.{dots_lead}
use Rattle.gos_terms.proofs.stages.WayLemmas.{joints_are_ways, way_by_tie}
use Rattle.gos_terms.proofs.stages.LodgingLemmas.{lifted}

abbrev pub joint_tie : Joint → Tie
joint_tie j = tie (Of j.asking) (Of j.serving)

abbrev pub dot_tie : point_ties.Tie → Tie
dot_tie u = tie (dot_of u.one) (dot_of u.other)

abbrev pub put_in : ℕ → Tie → Tie
put_in k v = tie (Within k v.one) (Within k v.other)

-- ties of points, as those of a web
pub tie_of : (us : List point_ties.Tie) (t : Tie) → Contains (within 0 (dot_ties us)) t → (u : point_ties.Tie) × Contains us u × (lifted u ≡ t)
tie_of us t has =
    let (v, there, at_v) = of_image (put_in 0) (dot_ties us) t has in
    let (u, listed, at_u) = of_image dot_tie us v there in
    (u, listed, ap (put_in 0) at_u ∙ at_v)

pub tie_in : (us : List point_ties.Tie) (u : point_ties.Tie) → Contains us u → Contains (within 0 (dot_ties us)) (lifted u)
tie_in us u has = in_image (put_in 0) (dot_ties us) (dot_tie u) (in_image dot_tie us u has)

-- the ties of supplies, by number
pub of_supplies : (types : Types) (env : Supplies) (ns : List ℕ) (t : Tie) → Contains (all_supply_ties types env ns) t
    → (n : ℕ) × Contains ns n × Contains (supply_ties types env n) t
of_supplies types env [] t (k, lt, e) = absurd (omega (arith, lt))
of_supplies types env (n ∷ ns) t has =
    elim (Contains-append_cases (supply_ties types env n) (all_supply_ties types env ns) t has) [
      | inl own ↦ (n, (0, omega arith, refl), own)
      | inr rest ↦ (let (m, (k, low, is), there) = of_supplies types env ns t rest in (m, (suc k, omega (arith, low), is), there))
    ]

abbrev pub ResultTie : ℕ → ℕ → Tie
ResultTie n h = tie (Within 0 (Number n h)) (Within (suc n) (Of (ResultEnd h)))

pub of_results : (n g m : ℕ) (t : Tie) → Contains (result_ties n g m) t → (h : ℕ) × (h < g + m) × (ResultTie n h ≡ t)
of_results n g zero t (k, lt, e) = absurd (omega (arith, lt))
of_results n g (suc m) t (zero, lt, e) = (g, omega arith, e)
of_results n g (suc m) t (suc k, lt, e) =
    let (h, low, is) = of_results n (suc g) m t (k, omega (arith, lt), e) in (h, omega (arith, low), is)

pub in_results : (n g m h : ℕ) → g ≤ h → h < g + m → Contains (result_ties n g m) (ResultTie n h)
in_results n g zero h le lt = absurd (omega (arith, le, lt))
in_results n g (suc m) h le lt =
    number_cases h g
    (λ e t. (0, omega arith, ap (ResultTie n) (sym e)))
    (λ e t. let (k, low, is) = in_results n (suc g) m h (above e) (omega (arith, lt)) in (suc k, omega (arith, low), is))
  where
    above : h ≢ g → suc g ≤ h
    above e = grind (arith, le, e)

-- one supply's ties
pub of_supply : (types : Types) (env : Supplies) (n : ℕ) (t : Tie) → Contains (supply_ties types env n) t
    → ((j : Joint) × Contains (env n).plan.joints j × (tie (Within (suc n) (Of j.asking)) (Within (suc n) (Of j.serving)) ≡ t))
    ⊎ ((h : ℕ) × (h < count (types n)) × (ResultTie n h ≡ t))
of_supply types env n t has =
    elim (Contains-append_cases (within (suc n) (own_web (env n).plan).ties) (result_ties n 0 (count (types n))) t has) [
      | inl own ↦
          (let (v, there, is) = of_image (put_in (suc n)) (own_web (env n).plan).ties t own in
          let (j, listed, same) = of_image joint_tie (env n).plan.joints v there in inl (j, listed, ap (put_in (suc n)) same ∙ is))
      | inr result ↦ (let (h, low, is) = of_results n 0 (count (types n)) t result in inr (h, omega (arith, low), is))
    ]

module _ (f : Child) (ts : List Tie) (pl : Placing) (is : IsChild f ts) where
  abbrev web : List Tie
  web = (child_web f pl).ties

  abbrev mine : List point_ties.Tie
  mine = ties_of f.types (f.first + f.off) f.node f.term (row places.Result 0 (count (type_of_node f.term)))

  abbrev leads : Dot → Dot
  leads = dot_leading (child_out f)

  -- the child's ties, where its handshake leads to its own part
  led_ties : dot_ties (ties_of f.types (f.first + f.off) f.node f.term (child_out f)) ≡ map (λ (t : Tie). tie (leads t.one) (leads t.other)) (dot_ties mine)
  led_ties =
      dots_lead f.types (f.first + f.off) f.node f.term (child_out f)
      ∙ ap (λ (m : ℕ). map (λ (t : Tie). tie (leads t.one) (leads t.other)) (dot_ties (ties_of f.types (f.first + f.off) f.node f.term (row places.Result 0 m)))) (length-map f.out (lead_point (f.first + f.own)) ∙ is.long)

  led_in : (u : point_ties.Tie) → Contains mine u → Contains (own_ties f) (tie (Within 0 (leads (dot_of u.one))) (Within 0 (leads (dot_of u.other))))
  led_in u has =
      in_image (put_in 0) (dot_ties (ties_of f.types (f.first + f.off) f.node f.term (child_out f))) (tie (leads (dot_of u.one)) (leads (dot_of u.other)))
      (subst (λ (vs : List Tie). Contains vs (tie (leads (dot_of u.one)) (leads (dot_of u.other)))) (sym led_ties)
      (in_image (λ (t : Tie). tie (leads t.one) (leads t.other)) (dot_ties mine) (dot_tie u) (in_image dot_tie mine u has)))

  pub led_of : (t : Tie) → Contains (own_ties f) t → (u : point_ties.Tie) × Contains mine u × (tie (Within 0 (leads (dot_of u.one))) (Within 0 (leads (dot_of u.other))) ≡ t)
  led_of t has =
      let (v, there, at_v) = of_image (put_in 0) (dot_ties (ties_of f.types (f.first + f.off) f.node f.term (child_out f))) t has in
      let (w, listed, at_w) =
      of_image (λ (t : Tie). tie (leads t.one) (leads t.other)) (dot_ties mine) v (subst (λ (vs : List Tie). Contains vs v) led_ties there)
      in
      let (u, known, at_u) = of_image dot_tie mine w listed in
      (u, known, ap (λ (x : Tie). tie (Within 0 (leads x.one)) (Within 0 (leads x.other))) at_u ∙ (ap (put_in 0) at_w ∙ at_v))

  -- to the node
  own_way : (t : Tie) → Contains (within 0 (dot_ties mine)) t → Way ts (child_dot f t.one) (child_dot f t.other)
  own_way t has =
      let (v, there, at_v) = of_image (put_in 0) (dot_ties mine) t has in
      let (u, listed, at_u) = of_image dot_tie mine v there in
      subst (λ (x : Tie). Way ts (child_dot f x.one) (child_dot f x.other)) (ap (put_in 0) at_u ∙ at_v)
      (way_by_tie ts (Within 0 (leads (dot_of u.one))) (Within 0 (leads (dot_of u.other)))
      (is.has_own (tie (Within 0 (leads (dot_of u.one))) (Within 0 (leads (dot_of u.other)))) (led_in u listed)))

  supply_way : (n : ℕ) (t : Tie) → Contains f.uses n → Contains (supply_ties f.types (lodge f).env n) t → Way ts (child_dot f t.one) (child_dot f t.other)
  supply_way n t uses has =
      elim (of_supply f.types (lodge f).env n t has) [
        | inl joint ↦
            (let (j, listed, same) = joint in
            subst (λ (x : Tie). Way ts (child_dot f x.one) (child_dot f x.other)) same
            (joints_are_ways f.types f.first (is_used f) f.splits f.env f.numbers ts n j is.tidy is.agree is.split is.supplies is.has_shared
            (is.scope n uses).0 listed))
        | inr result ↦
            (let (h, low, same) = result in
            subst (λ (x : Tie). Way ts (child_dot f x.one) (child_dot f x.other)) same (here (Within 0 (Number n h))))
      ]

  pub ways_so : (t : Tie) → Contains (child_web f pl).ties t → Way ts (child_dot f t.one) (child_dot f t.other)
  ways_so t has =
      elim (Contains-append_cases (within 0 (dot_ties mine)) (all_supply_ties f.types (lodge f).env f.uses) t has) [
        | inl own ↦ own_way t own
        | inr supply ↦ (let (n, uses, there) = of_supplies f.types (lodge f).env f.uses t supply in supply_way n t uses there)
      ]

pub child_ways : ChildWays
child_ways f ts pl t is has = ways_so f ts pl is t has
