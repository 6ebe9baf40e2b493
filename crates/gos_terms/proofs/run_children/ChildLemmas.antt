-- A branch of a fork is a child of the node.
use Rattle.std.specs.Prelude.{◌≢◌, ◌+◌, ◌<◌, ◌≤◌, ◌⊎◌, length, None, Contains}
use Rattle.std.proofs.Common.{◌≡◌, ℕ, suc, Bool, false, List, ◌∷◌, ◌++◌, Some, inl, inr, refl, sym, ◌∙◌, ap, subst, arith, if◌then◌else◌}
use Rattle.std.proofs.lemmas.List.{length-append}
use Rattle.std.proofs.lemmas.List.Elements.{Contains-append_left, Contains-append_right, Contains-append_cases}
use Rattle.std.proofs.lemmas.Bool.{ne_eqb}
use Rattle.gos_check.specs.declared.linear.Split.{Split}
use Rattle.gos_check.specs.Nodes.{Numbered, type_of_node}
use Rattle.gos_check.specs.Linearity.{times}
use Rattle.gos_plan.specs.Kinds.{Part}
use Rattle.gos_plan.specs.Plans.{PartEnd, ResultEnd}
use Rattle.gos_realises.specs.realises.Regular.{count}
use Rattle.gos_ties.specs.declared.points.Place.{Place}
use Rattle.gos_ties.specs.declared.points.Place.TheVariants as places
use Rattle.gos_ties.specs.declared.points.Point.{Point}
use Rattle.gos_ties.specs.declared.points.Tie as point_ties
use Rattle.gos_realises.proofs.realises.CountLemmas.{done_count}
use Rattle.gos_joining.specs.webs.Webs.{Dot, Of, Within, Tie}
use Rattle.gos_joining.specs.unions.Unions.{within}
use Rattle.gos_compile.specs.Wiring.{Types, row, led, parts_of, nodes, ties_of, shares_ties}
use Rattle.gos_terms.specs.wired.Wired.{Supplies, dot_of_place, dot_ties, all_supply_ties, wired_ties}
use Rattle.gos_terms.specs.wired.NodeFitting.{AreOfTypes}
use Rattle.gos_terms.specs.stages.Lodging.{AreTidy}
use Rattle.gos_terms.specs.stages.Folding.{AtOwn, Child, is_used, child_out, in_range, child_back, shared_ties, own_ties, IsForeign, IsChild}
use Rattle.gos_terms.proofs.stages.LodgingLemmas.{lifted, led_listed}
use Rattle.gos_terms.proofs.stages.ChildTieLemmas.{tie_of, tie_in}
use Rattle.gos_terms.proofs.stages.NothingLemmas.{part_nothing, own_back, node_nothing, number_nothing}
use Rattle.gos_terms.proofs.stages.ChildBackLemmas.{one_lead, range_below, range_past}
use Rattle.gos_terms.specs.numbers.Inherited.{IsPart}
use Rattle.gos_terms.specs.run_children.Forks.{Branch, branch_parts, branch_nodes, branch_made, branch_uses, branch_ties, IsFork, AreBranches, branch_child, BranchIsChild}
use Rattle.gos_terms.proofs.run_children.BranchLemmas.{in_branches, of_branches, Knows, IsAside, ties_aside}
use Rattle.gos_terms.proofs.run_children.NumberLemmas.{all_made, all_uses, IsOthers, others_so}

pub amid : (before after : List Branch) (b : Branch) → Contains (before ++ b ∷ after) b
amid before after b = Contains-append_right before (b ∷ after) b (0, omega arith, refl)

-- What stands for nothing of a branch.
module _ (types : Types) (i j : ℕ) (ss : List Split) (env : Supplies) (ns : List ℕ) (before : List Branch) (b : Branch) where
  abbrev pub child : Child
  child = branch_child types i j ss env ns before b

  abbrev IsNothing : Dot → Type 0
  IsNothing d = child_back child (Within 0 d) ≡ None

  -- its own part, at another handshake
  own_nothing : (h : ℕ) → h ≢ length before → IsNothing (Of (PartEnd (i + length ss) h))
  own_nothing h far = own_back child h ∙ ap (λ (t : Bool). if t then Some (Within 0 (Of (ResultEnd 0))) else None) (ne_eqb h (length before) far)

  -- a part behind it that isn't the branch's
  behind_nothing : (k h : ℕ) → i + length ss < k → in_range (child.first + child.off) (length (parts_of types b.term)) k ≡ false
      → IsNothing (Of (PartEnd k h))
  behind_nothing k h lt out = part_nothing child k h (omega (arith, lt)) (λ e. let same : k ≡ i + length ss = e in omega (arith, same, lt)) out

  result_nothing : (h : ℕ) → IsNothing (Of (ResultEnd h))
  result_nothing h = refl

  -- Branches that it is none of: they are asked from handshake c on, and have parts from number x on, and nodes from y on.
  record AreApart (c x y : ℕ) (bs : List Branch) : Type 0 where
    pub shakes : (h : ℕ) → c ≤ h → h < c + length bs → h ≢ length before
    pub parts :
        (k : ℕ) → x ≤ k → k < x + length (branch_parts types bs)
        → (i + length ss < k) × (in_range (child.first + child.off) (length (parts_of types b.term)) k ≡ false)
    pub inner : (k : ℕ) → y ≤ k → k < y + branch_nodes bs → in_range (suc j + branch_nodes before) (nodes b.term) k ≡ false
    pub numbers : (k : ℕ) → 0 < times k (branch_made bs) + times k (branch_uses bs) → IsOthers ss b k

  module _ (tidy : AreTidy (is_used child) ss ns) (c x y : ℕ) (bs : List Branch) (apart : AreApart c x y bs) where
    aside_nothing : (p : Place) (h : ℕ) → IsAside types (i + length ss) c x y bs p h → IsNothing (dot_of_place p h)
    aside_nothing (places.Part k) h (inl (e, le, lt)) =
        subst (λ (n : ℕ). IsNothing (Of (PartEnd n h))) (sym e) (own_nothing h (apart.shakes h le lt))
    aside_nothing (places.Part k) h (inr (le, lt)) = let (far, out) = apart.parts k le lt in behind_nothing k h far out
    aside_nothing (places.Import k) h aside = absurd aside
    aside_nothing places.Result h aside = absurd aside
    aside_nothing (places.Number k) h aside =
        let others = apart.numbers k aside in number_nothing child k h tidy others.unused others.unmade others.unsplit
    aside_nothing (places.Node k) h (le, lt) = node_nothing child k h (apart.inner k le lt)

    foreign_ties : ((a : Branch) → Contains bs a → Knows a) → (u : point_ties.Tie) → Contains (branch_ties types (i + length ss) c x y bs) u
        → IsForeign child (lifted u)
    foreign_ties known u has =
        let (one, other) = ties_aside types (i + length ss) bs c x y known u has in
        (aside_nothing u.one.place u.one.shake one, aside_nothing u.other.place u.other.shake other)

module _ (types : Types) (i j : ℕ) (m : Numbered) (ss : List Split) (own : Part) (before after : List Branch) (b : Branch) (ns : List ℕ) (env : Supplies)
    (fork : IsFork types m ss own (before ++ b ∷ after)) (are : AreBranches types ss ns (before ++ b ∷ after)) where
  abbrev me : Child
  me = child types i j ss env ns before b

  abbrev out : List Point
  out = row places.Result 0 (count (type_of_node m))

  abbrev mine : List point_ties.Tie
  mine = ties_of types i j m out

  abbrev served : List point_ties.Tie
  served = led out (places.Part (i + length ss)) (length (before ++ b ∷ after))

  abbrev branches : List point_ties.Tie
  branches = branch_ties types (i + length ss) 0 (i + length ss + 1) (suc j) (before ++ b ∷ after)

  part : IsPart types ss ns b.uses b.term
  part = are.parts b (amid before after b)

  early : (a : Branch) → Contains before a → Contains (before ++ b ∷ after) a
  early a there = Contains-append_left before (b ∷ after) a there

  late : (a : Branch) → Contains after a → Contains (before ++ b ∷ after) a
  late a there = Contains-append_right before (b ∷ after) a (suc there.0, omega (arith, there.1), there.2)

  -- the branches before it, and those behind it
  before_apart : AreApart types i j ss env ns before b 0 (i + length ss + 1) (suc j) before
  before_apart =
      record {
        shakes = λ h le lt e. let same : h ≡ length before = e in omega (arith, same, lt);
        parts =
            λ k le lt.
            (omega (arith, le), range_below (me.first + me.off) (length (parts_of types b.term)) k (omega (arith, lt)));
        inner = λ k le lt. range_below (suc j + branch_nodes before) (nodes b.term) k lt;
        numbers =
            λ k some.
            let one = all_made before after b k in
            let other = all_uses before after b k in
            others_so types ss ns (before ++ b ∷ after) b k (times k (branch_made before)) (times k (branch_uses before)) are part.split
            (omega (arith, one)) (omega (arith, other)) some;
      }

  after_apart : AreApart types i j ss env ns before b (suc (length before)) (me.first + me.off + length (parts_of types b.term))
      (suc j + branch_nodes before + nodes b.term) after
  after_apart =
      record {
        shakes = λ h le lt e. let same : h ≡ length before = e in omega (arith, same, le);
        parts =
            λ k le lt.
            (omega (arith, le), range_past (me.first + me.off) (length (parts_of types b.term)) k le);
        inner = λ k le lt. range_past (suc j + branch_nodes before) (nodes b.term) k le;
        numbers =
            λ k some.
            let one = all_made before after b k in
            let other = all_uses before after b k in
            others_so types ss ns (before ++ b ∷ after) b k (times k (branch_made after)) (times k (branch_uses after)) are part.split
            (omega (arith, one)) (omega (arith, other)) some;
      }

  known : (a : Branch) → Contains (before ++ b ∷ after) a → Knows a
  known a there = (are.parts a there).covers

  -- the ties of the node's web
  in_node : (u : point_ties.Tie) → Contains (shares_ties i ss types ++ (served ++ branches)) u → Contains (wired_ties types i j m ns env) (lifted u)
  in_node u has =
      Contains-append_left (within 0 (dot_ties mine)) (all_supply_ties types env ns) (lifted u)
      (tie_in mine u (subst (λ (us : List point_ties.Tie). Contains us u) (sym (fork.ties i j out)) has))

  has_shared : (t : Tie) → Contains (shared_ties me) t → Contains (wired_ties types i j m ns env) t
  has_shared t has =
      elim (Contains-append_cases (within 0 (dot_ties (shares_ties i ss types))) (all_supply_ties types env ns) t has) [
        | inl share ↦
            (let (u, listed, same) = tie_of (shares_ties i ss types) t share in
            subst (Contains (wired_ties types i j m ns env)) same
            (in_node u (Contains-append_left (shares_ties i ss types) (served ++ branches) u listed)))
        | inr supply ↦ Contains-append_right (within 0 (dot_ties mine)) (all_supply_ties types env ns) t supply
      ]

  -- where its parts begin
  first_part : me.first + me.off ≡ i + length ss + 1 + length (branch_parts types before)
  first_part = omega arith

  has_own : (t : Tie) → Contains (own_ties me) t → Contains (wired_ties types i j m ns env) t
  has_own t has =
      let (u, listed, same) = tie_of (ties_of types (me.first + me.off) me.node b.term (child_out me)) t has in
      subst (Contains (wired_ties types i j m ns env)) same
      (in_node u
      (Contains-append_right (shares_ties i ss types) (served ++ branches) u
      (Contains-append_right served branches u
      (in_branches types (i + length ss) before after b 0 (i + length ss + 1) (suc j) (me.first + me.off) me.node (length before) u first_part refl (omega arith) listed))))

  served_foreign : (u : point_ties.Tie) → Contains served u → IsForeign me (lifted u)
  served_foreign u has =
      let (k, lt, same) =
      led_listed places.Result (i + length ss) 0 (count (type_of_node m)) (length (before ++ b ∷ after)) u has
      in
      let long = length-append before (b ∷ after) in
      subst (λ (v : point_ties.Tie). IsForeign me (lifted v)) same (
        result_nothing types i j ss env ns before b (0 + k),
        own_nothing types i j ss env ns before b (length (before ++ b ∷ after) + k)
            (λ e. let far : length (before ++ b ∷ after) + k ≡ length before = e in omega (arith, far, long)),
      )

  tie_kinds : (u : point_ties.Tie) → Contains (shares_ties i ss types ++ (served ++ branches)) u
      → Contains (shared_ties me) (lifted u) ⊎ Contains (own_ties me) (lifted u) ⊎ IsForeign me (lifted u)
  tie_kinds u has =
      elim (Contains-append_cases (shares_ties i ss types) (served ++ branches) u has) [
        | inl share ↦
            inl (Contains-append_left (within 0 (dot_ties (shares_ties i ss types))) (all_supply_ties types env ns) (lifted u)
            (tie_in (shares_ties i ss types) u share))
        | inr more ↦
            elim (Contains-append_cases served branches u more) [
              | inl one ↦ inr (inr (served_foreign u one))
              | inr rest ↦
                  elim (of_branches types (i + length ss) before after b 0 (i + length ss + 1) (suc j) (me.first + me.off) me.node (length before) u first_part refl (omega arith) rest) [
                    | inl first ↦
                        inr (inr (foreign_ties types i j ss env ns before b part.tidy 0 (i + length ss + 1) (suc j) before before_apart
                        (λ a there. known a (early a there)) u first))
                    | inr later ↦
                        elim later [
                          | inl its ↦ inr (inl (tie_in (ties_of types (me.first + me.off) me.node b.term (child_out me)) u its))
                          | inr last ↦
                              inr (inr (foreign_ties types i j ss env ns before b part.tidy (suc (length before)) (me.first + me.off + length (parts_of types b.term))
                              (suc j + branch_nodes before + nodes b.term) after after_apart (λ a there. known a (late a there)) u last))
                        ]
                  ]
            ]
      ]

  only : (t : Tie) → Contains (wired_ties types i j m ns env) t → Contains (shared_ties me) t ⊎ Contains (own_ties me) t ⊎ IsForeign me t
  only t has =
      elim (Contains-append_cases (within 0 (dot_ties mine)) (all_supply_ties types env ns) t has) [
        | inl node ↦
            (let (u, listed, same) = tie_of mine t node in
            subst (λ (v : Tie). Contains (shared_ties me) v ⊎ Contains (own_ties me) v ⊎ IsForeign me v) same
            (tie_kinds u (subst (λ (us : List point_ties.Tie). Contains us u) (fork.ties i j out) listed)))
        | inr supply ↦ inl (Contains-append_right (within 0 (dot_ties (shares_ties i ss types))) (all_supply_ties types env ns) t supply)
      ]

  child_so : AreOfTypes types env ns → IsChild me (wired_ties types i j m ns env)
  child_so supplies =
      record {
        tidy = part.tidy;
        agree = part.agree;
        split = part.split;
        supplies = supplies;
        scope = part.scope;
        covers = part.covers;
        unmade = part.unmade;
        shares_first = omega arith;
        off_first = omega arith;
        own_apart = inl (omega arith);
        has_shared = has_shared;
        has_own = has_own;
        only = only;
        long = sym (done_count (type_of_node b.term) (fork.done b (amid before after b)));
        distinct = one_lead (AtOwn (length before));
      }

pub branch_is_child : BranchIsChild
branch_is_child types i j m ss own bs before after b ns env fork are supplies e =
    child_so types i j m ss own before after b ns env (subst (IsFork types m ss own) e fork) (subst (AreBranches types ss ns) e are) supplies
