-- A joining has no more joints than its plans have together.
--
-- A joint of the joining leads from one end to another one along ties, so that both ends lie at points in ties. No end is in
-- two joints. So the joints have no more ends than ties have points, and both have two each.
use Rattle.std.specs.Prelude.{◌≡◌, ◌≢◌, ℕ, zero, suc, ◌+◌, ◌*◌, ◌≤◌, ◌<◌, ◌⊎◌, List, [], ◌∷◌, length, Some, nat_eq, if◌then◌else◌}
use Rattle.std.proofs.Common.{refl, sym, ◌∙◌, ap, subst, arith, inl, inr, length-append}
use Rattle.gos_types.proofs.RoleLemmas.{ask_is_not_serve}
use Rattle.gos_model.specs.Typing.{Imported}
use Rattle.gos_model.proofs.NumberLemmas.{number_cases}
use Rattle.gos_plan.specs.Kinds.{Part, asks, serves}
use Rattle.gos_plan.specs.Plans.{End, Joint, Plan, contact_at, IsRight}
use Rattle.gos_plan.specs.Size.{shakes_of, numbers_of, plan_size}
use Rattle.gos_plan.specs.Joining.{origin, IsJoining, IsSameButOrder}
use Rattle.gos_plan.proofs.JointLemmas.{same_itself}
use Rattle.gos_ties.specs.declared.points.Point.{Point}
use Rattle.gos_ties.specs.declared.points.Tie.{Tie}
use Rattle.gos_ties.specs.Ties.{at, Meet}
use Rattle.gos_ties.specs.Ties as tied
use Rattle.gos_ties.specs.Counted.{once, meetings}
use Rattle.gos_ties.proofs.ThinLemmas.{once_itself}
use Rattle.gos_ties.proofs.JointLemmas.{same_at}
use Rattle.gos_link.specs.declared.services.Service.{Service}
use Rattle.gos_link.specs.Linked.{wiring_of}
use Rattle.gos_link.specs.Answers.{all_joints}
use Rattle.gos_link.specs.inner.Wired.{rank, ties_in, ties_from, AllRight, AreJoinable}
use Rattle.gos_link.proofs.ServiceLemmas.{In, in_contained, contains_in}
use Rattle.gos_link.proofs.PointLemmas.{spot_of}
use Rattle.gos_link.proofs.PathLemmas.{path_tied}
use Rattle.gos_link.proofs.CountLemmas.{one_end, stands, role_or, seldom, once_cases}
use Rattle.gos_link.proofs.JoinedLemmas.{Bears, there_at}

-- how often a point is in a list
abbrev appears : Point → List Point → ℕ
appears q [] = 0
appears q (p ∷ ps) = once q p + appears q ps

-- a list that has each point at most as often as another is no longer
abbrev without : Point → List Point → List Point
without q [] = []
without q (p ∷ ps) = if nat_eq (once q p) 0 then p ∷ without q ps else ps

-- one point less
record OneLess (q : Point) (ps less : List Point) : Type 0 where
  counts : (p : Point) → appears p ps ≡ once p q + appears p less
  size : length ps ≡ suc (length less)

without_one : (q : Point) (ps : List Point) → 0 < appears q ps → OneLess q ps (without q ps)
without_one q [] some = absurd (omega (arith, some))
without_one q (p ∷ ps) some =
    number_cases (once q p) 0
    (λ none test.
    let rest = without_one q ps (omega (arith, some, none)) in
    let size = rest.size in
    rw test
    (record {
      counts = λ r. (let here = rest.counts r in omega (arith, here));
      size = omega (arith, size);
    }))
    (λ one test.
    elim (once_cases q p) [
      | inl none ↦ absurd (one none)
      | inr (same, few) ↦ rw test (record { counts = λ r. ap (λ (x : Point). once r x + appears r ps) (sym same); size = refl })
    ])

shorter : (ps qs : List Point) → ((q : Point) → appears q ps ≤ appears q qs) → length ps ≤ length qs
shorter [] qs few = omega arith
shorter (p ∷ ps) qs few =
    let self = once_itself p in
    let here = few p in
    let less = without_one p qs (omega (arith, self, here)) in
    let size = less.size in
    let rest = shorter ps (without p qs) (λ q. let all = few q in let counts = less.counts q in omega (arith, all, counts)) in
    omega (arith, size, rest)

-- the points of ties
abbrev points_in : List Tie → List Point
points_in [] = []
points_in (t ∷ ts) = t.one ∷ t.other ∷ points_in ts

points_count : (q : Point) (ts : List Tie) → appears q (points_in ts) ≡ meetings q ts
points_count q [] = refl
points_count q (t ∷ ts) = let rest = points_count q ts in omega (arith, rest)

points_length : (ts : List Tie) → length (points_in ts) ≡ 2 * length ts
points_length [] = omega arith
points_length (t ∷ ts) = let rest = points_length ts in omega (arith, rest)

-- the points of the ends of joints
abbrev spots_of : List Joint → List Point
spots_of [] = []
spots_of (j ∷ js) = at j.asking ∷ at j.serving ∷ spots_of js

spots_length : (js : List Joint) → length (spots_of js) ≡ 2 * length js
spots_length [] = omega arith
spots_length (j ∷ js) = let rest = spots_length js in omega (arith, rest)

end_once : (e f : End) → once (at e) (at f) ≤ one_end e f
end_once e f =
    elim (once_cases (at e) (at f)) [
      | inl none ↦ omega (arith, none)
      | inr (same, few) ↦
          (let here : one_end e f ≡ 1 = ap (λ (x : End). one_end e x) (sym (same_at e f same)) ∙ rw (same_itself e) refl in omega (arith, few, here))
    ]

spots_count : (e : End) (js : List Joint) → appears (at e) (spots_of js) ≤ stands e js
spots_count e [] = omega arith
spots_count e (j ∷ js) =
    let one = end_once e j.asking in let other = end_once e j.serving in let rest = spots_count e js in omega (arith, one, other, rest)

-- a point among them is one of an end
record EndOf (q : Point) (js : List Joint) : Type 0 where
  of : Joint
  has : In js of
  is : (q ≡ at of.asking) ⊎ (q ≡ at of.serving)

end_of : (q : Point) (js : List Joint) → 0 < appears q (spots_of js) → EndOf q js
end_of q [] some = absurd (omega (arith, some))
end_of q (j ∷ js) some =
    elim (once_cases q (at j.asking)) [
      | inr (same, few) ↦ record { of = j; has = inl refl; is = inl same }
      | inl none ↦
          elim (once_cases q (at j.serving)) [
            | inr (same, few) ↦ record { of = j; has = inl refl; is = inr same }
            | inl never ↦ (let rest = end_of q js (omega (arith, some, none, never)) in record { of = rest.of; has = inr rest.has; is = rest.is })
          ]
    ]

-- points that meet are in ties, and so are the ends of a path between two of them
meet_met : (ts : List Tie) (a b : Point) → Meet ts a b → (1 ≤ meetings a ts) × (1 ≤ meetings b ts)
meet_met [] a b m = absurd m
meet_met (t ∷ ts) a b (inl e) =
    let one : once a t.one ≡ 1 = ap (λ (u : Tie). once a u.one) e ∙ once_itself a in
    let other : once b t.other ≡ 1 = ap (λ (u : Tie). once b u.other) e ∙ once_itself b in
    (omega (arith, one), omega (arith, other))
meet_met (t ∷ ts) a b (inr (inl e)) =
    let one : once a t.other ≡ 1 = ap (λ (u : Tie). once a u.other) e ∙ once_itself a in
    let other : once b t.one ≡ 1 = ap (λ (u : Tie). once b u.one) e ∙ once_itself b in
    (omega (arith, one), omega (arith, other))
meet_met (t ∷ ts) a b (inr (inr m)) = let (one, other) = meet_met ts a b m in (omega (arith, one), omega (arith, other))

ends_met : (ts : List Tie) (a b : Point) → tied.Path ts a b → a ≢ b → (1 ≤ meetings a ts) × (1 ≤ meetings b ts)
ends_met ts a b path apart = by a b path apart
  where
    last : (c b : Point) → tied.Path ts c b → (c ≡ b) ⊎ (1 ≤ meetings b ts)
    last c b (tied.here _) = inl refl
    last c b (tied.along _ d _ m path) =
        elim (last d b path) [ inl e ↦ inr (subst (λ (x : Point). 1 ≤ meetings x ts) e (meet_met ts c d m).1) | inr h ↦ inr h ]

    by : (a b : Point) → tied.Path ts a b → a ≢ b → (1 ≤ meetings a ts) × (1 ≤ meetings b ts)
    by a b (tied.here _) apart = absurd (apart refl)
    by a b (tied.along _ c _ m path) apart =
        let (one, other) = meet_met ts a c m in
        elim (last c b path) [ inl e ↦ (one, subst (λ (x : Point). 1 ≤ meetings x ts) e other) | inr h ↦ (one, h) ]

-- there is a tie for each joint
ties_in_length : (ss : List Service) (root k P I : ℕ) (js : List Joint) → length (ties_in ss root k P I js) ≡ length js
ties_in_length ss root k P I [] = refl
ties_in_length ss root k P I (j ∷ js) = ap suc (ties_in_length ss root k P I js)

ties_length : (ss : List Service) (root k P I : ℕ) (ps : List Plan) → length (ties_from ss root k P I ps) ≡ all_joints ps
ties_length ss root k P I [] = refl
ties_length ss root k P I (p ∷ ps) =
    let parted = length-append (ties_in ss root k P I p.joints) (ties_from ss root (k + 1) (P + length p.parts) (I + rank ss k (length p.imports)) ps) in
    let one = ties_in_length ss root k P I p.joints in
    let rest = ties_length ss root (k + 1) (P + length p.parts) (I + rank ss k (length p.imports)) ps in
    omega (arith, parted, one, rest)

module _ (ps : List Plan) (ss : List Service) (root : ℕ) (known : AreJoinable ps ss root) (right : AllRight ps) where
  ties : List Tie
  ties = ties_from ss root 0 0 0 ps

  -- the ends of a joint of the joining are in ties
  joint_met : (r : Plan) → IsJoining (wiring_of ps ss root) r → (j : Joint) → In r.joints j
      → (1 ≤ meetings (at j.asking) (ties_from ss root 0 0 0 ps)) × (1 ≤ meetings (at j.serving) (ties_from ss root 0 0 0 ps))
  joint_met r joining j has =
      let bears : Bears ps ss root known right r = record { parts = joining.parts; imports = joining.imports; outcome = joining.outcome } in
      let (q, v, n, asked, served, way) = (joining.joints j.asking j.serving).0 (contains_in r.joints j has) in
      let one = there_at ps ss root known right r bears j.asking (asks q v) asked in
      let other = there_at ps ss root known right r bears j.serving (serves q v) served in
      let spots = path_tied ps ss root known right n (origin (wiring_of ps ss root) j.asking) (origin (wiring_of ps ss root) j.serving) way in
      let path : tied.Path (ties_from ss root 0 0 0 ps) (at j.asking) (at j.serving) =
      subst (λ (p : Point). tied.Path (ties_from ss root 0 0 0 ps) p (at j.serving)) one.spot
      (subst (λ (p : Point). tied.Path (ties_from ss root 0 0 0 ps) (spot_of ps ss root (origin (wiring_of ps ss root) j.asking)) p) other.spot spots) in
      ends_met (ties_from ss root 0 0 0 ps) (at j.asking) (at j.serving) path
      (λ e.
      let both : Some (asks q v) ≡ Some (serves q v) = sym asked ∙ (ap (contact_at r) (same_at j.asking j.serving e) ∙ served) in
      ask_is_not_serve (ap role_or both))

  -- the joints of the joining
  pub few_joined : (r : Plan) → IsJoining (wiring_of ps ss root) r → length r.joints ≤ all_joints ps
  few_joined r joining =
      let few = shorter (spots_of r.joints) (points_in (ties_from ss root 0 0 0 ps)) (λ q. by q (appears q (spots_of r.joints)) refl) in
      let ends = spots_length r.joints in
      let points = points_length (ties_from ss root 0 0 0 ps) in
      let size = ties_length ss root 0 0 0 ps in
      omega (arith, few, ends, points, size)
    where
      once_at : (q : Point) (e : End) → q ≡ at e → 1 ≤ meetings (at e) (ties_from ss root 0 0 0 ps)
          → appears q (spots_of r.joints) ≤ appears q (points_in (ties_from ss root 0 0 0 ps))
      once_at q e is met =
          let counted = spots_count e r.joints in
          let once_only = (seldom r [] r.joints e joining.right).0 in
          let same : appears q (spots_of r.joints) ≡ appears (at e) (spots_of r.joints) = ap (λ (p : Point). appears p (spots_of r.joints)) is in
          let there : appears q (points_in (ties_from ss root 0 0 0 ps)) ≡ meetings (at e) (ties_from ss root 0 0 0 ps) =
          points_count q (ties_from ss root 0 0 0 ps) ∙ ap (λ (p : Point). meetings p (ties_from ss root 0 0 0 ps)) is in
          omega (arith, counted, once_only, same, there, met)

      by : (q : Point) (n : ℕ) → appears q (spots_of r.joints) ≡ n → appears q (spots_of r.joints) ≤ appears q (points_in (ties_from ss root 0 0 0 ps))
      by q zero none = omega (arith, none)
      by q (suc n) some =
          let found = end_of q r.joints (omega (arith, some)) in
          let (one, other) = joint_met r joining found.of found.has in
          elim found.is [ inl e ↦ once_at q found.of.asking e one | inr e ↦ once_at q found.of.serving e other ]

-- plans of the same joints, each of which is right, are equally large
in_few : (r q : Plan) → IsRight r → IsRight q → ((j : Joint) → In r.joints j → In q.joints j) → length r.joints ≤ length q.joints
in_few r q right other within =
    let few = shorter (spots_of r.joints) (spots_of q.joints) (λ p. by p (appears p (spots_of r.joints)) refl) in
    let one = spots_length r.joints in
    let two = spots_length q.joints in
    omega (arith, few, one, two)
  where
    there : (p : Point) (j : Joint) (js : List Joint) → In js j → (p ≡ at j.asking) ⊎ (p ≡ at j.serving) → 1 ≤ appears p (spots_of js)
    there p j [] has is = absurd has
    there p j (k ∷ js) (inr has) is = let rest = there p j js has is in omega (arith, rest)
    there p j (k ∷ js) (inl same) (inl is) =
        let here : once p (at k.asking) ≡ 1 = ap (λ (x : Point). once p x) (ap (λ (i : Joint). at i.asking) same ∙ sym is) ∙ once_itself p in omega (arith, here)
    there p j (k ∷ js) (inl same) (inr is) =
        let here : once p (at k.serving) ≡ 1 = ap (λ (x : Point). once p x) (ap (λ (i : Joint). at i.serving) same ∙ sym is) ∙ once_itself p in omega (arith, here)

    at_end : (p : Point) (e : End) → p ≡ at e → appears p (spots_of r.joints) ≤ 1
    at_end p e is =
        let counted = spots_count e r.joints in
        let once_only = (seldom r [] r.joints e right).0 in
        let same : appears p (spots_of r.joints) ≡ appears (at e) (spots_of r.joints) = ap (λ (x : Point). appears x (spots_of r.joints)) is in
        omega (arith, counted, once_only, same)

    by : (p : Point) (n : ℕ) → appears p (spots_of r.joints) ≡ n → appears p (spots_of r.joints) ≤ appears p (spots_of q.joints)
    by p zero none = omega (arith, none)
    by p (suc n) some =
        let found = end_of p r.joints (omega (arith, some)) in
        let enough = there p found.of q.joints (within found.of found.has) found.is in
        let few = elim found.is as (λ _. appears p (spots_of r.joints) ≤ 1) [
          | inl e ↦ at_end p found.of.asking e
          | inr e ↦ at_end p found.of.serving e
        ] in
        omega (arith, enough, few)

pub same_size : (p q : Plan) → IsRight p → IsRight q → IsSameButOrder p q → plan_size p ≡ plan_size q
same_size p q right other same =
    let few = in_few p q right other (λ j h. in_contained q.joints j ((same.joints j).0 (contains_in p.joints j h))) in
    let many = in_few q p other right (λ j h. in_contained p.joints j ((same.joints j).1 (contains_in q.joints j h))) in
    let parts : length p.parts + shakes_of p.parts ≡ length q.parts + shakes_of q.parts = ap (λ (ks : List Part). length ks + shakes_of ks) same.parts in
    let imports : length p.imports ≡ length q.imports = ap (λ (xs : List Imported). length xs) same.imports in
    let numbers : numbers_of p.parts ≡ numbers_of q.parts = ap (λ (ks : List Part). numbers_of ks) same.parts in
    omega (arith, few, many, parts, numbers, imports)
