-- A node `m || n` that is wired to supplies is made of its sides, wired to theirs.
use Rattle.std.specs.Prelude.{◌≡◌, ℕ, zero, suc, ◌+◌, ◌<◌, ◌≤◌, ◌⊎◌, Bool, true, false, List, [], ◌∷◌, ◌++◌, length, Option, Some, slice_get, nat_lt, Contains}
use Rattle.std.proofs.Common.{refl, sym, ◌∙◌, ap, subst, arith, inl, inr, length-append}
use Rattle.std.proofs.lemmas.Option.{none-some, slice_get_within}
use Rattle.std.proofs.lemmas.List.Elements.{Contains-append_left, Contains-append_right, Contains-append_cases}
use Rattle.gos_types.specs.Types.{Type', Com}
use Rattle.gos_types.proofs.ListLemmas.{found_in_front, found_behind}
use Rattle.gos_check.specs.Nodes.{Numbered, Two, OfPar}
use Rattle.gos_check.specs.Linearity.{times}
use Rattle.gos_check.proofs.TimesLemmas.{some_times, listed_times}
use Rattle.gos_plan.specs.Kinds as kinds
use Rattle.gos_plan.specs.Kinds.{Part, asks, contacts_of, part_contacts}
use Rattle.gos_plan.specs.Plans.{End, PartEnd, ImportEnd, ResultEnd, Joint, Plan, contacts_of_part, turned_if, contact_at}
use Rattle.gos_plan.proofs.JointLemmas.{one_joint, contained}
use Rattle.gos_plan.proofs.ContactLemmas.{serves_is_not_asks, part_is_there}
use Rattle.gos_realises.specs.realises.Regular.{count}
use Rattle.gos_realises.specs.realises.Realises.{NamesDiffer, HaveOtherNames}
use Rattle.gos_realises.proofs.realises.ToldLemmas.{there_is}
use Rattle.gos_realises.proofs.realises.PlaceLemmas.{place_of, differ_at}
use Rattle.gos_ties.specs.declared.points.Place.TheVariants as places
use Rattle.gos_ties.specs.declared.points.Point.{Point}
use Rattle.gos_ties.specs.declared.points.Tie as point_ties
use Rattle.gos_ties.specs.Ties as paths
use Rattle.gos_ties.specs.Ties.{point}
use Rattle.gos_joining.specs.webs.Webs.{Dot, Of, Within, Tie, tie, Way, here, along, joint}
use Rattle.gos_joining.specs.webs.Cutting.{Cut}
use Rattle.gos_joining.proofs.webs.WebLemmas.{asks_there}
use Rattle.gos_joining.proofs.unions.UnionLemmas.{of_image, in_image}
use Rattle.gos_joining.specs.unions.Unions.{within}
use Rattle.gos_nodes.specs.folds.Folds.{joined_cut, with_joints}
use Rattle.gos_nodes.specs.parallel.Parallel.{IsJointOf, IsPartOf, IsParallel}
use Rattle.gos_compile.specs.Wiring.{Types, row, parts_of, nodes, type_of_node, ties_of}
use Rattle.gos_terms.specs.wired.Wired.{Supplies, Source, Own, Supplied, Placing, IsFrom, placed, source_dot, dot_of, dot_ties, all_supply_ties, IsWired}
use Rattle.gos_terms.specs.wired.Wired as origins
use Rattle.gos_terms.specs.regions.Frames.{AreParted, AreSides, ParallelIsWired}
use Rattle.gos_terms.proofs.regions.FrameLemmas.{Frame, kept, in_range_true, in_range_is, itself_true, kept_true, kept_is, own_part, back}
use Rattle.gos_terms.proofs.regions.ChildLemmas.{Sitting, IsSitting, HasPorts, child_placing, child_plan, number_of, its_cut, whole_web}
use Rattle.gos_terms.proofs.regions.FoldLemmas.{HasPlan}
use Rattle.gos_terms.proofs.regions.SideLemmas.{side_frame, side_sitting, IsSideOf, is_sitting, has_ports}
use Rattle.gos_terms.proofs.regions.RegionLemmas.{IsIn, in_number, number_in, in_back, side_plan, import_in, is_side, joint_of, keeps_imports}

module _
    (types : Types) (i j : ℕ) (m n : Numbered) (ns ms ks : List ℕ) (env : Supplies) (pl : Placing) (r : Plan)
    (is : IsWired types i j (Two Com [] OfPar m n) ns env pl r) (type_m : type_of_node m ≡ Com) (type_n : type_of_node n ≡ Com)
    (parted : AreParted m n ns ms ks) (differ : NamesDiffer r.imports) where
  abbrev whole : Numbered
  whole = Two Com [] OfPar m n

  abbrev pm : List Part
  pm = parts_of types m

  abbrev pn : List Part
  pn = parts_of types n

  abbrev lm : ℕ
  lm = length pm

  abbrev first : List Point
  first = point (places.Part i) 0 ∷ []

  abbrev second : List Point
  second = point (places.Part i) 1 ∷ []

  abbrev left_ties : List point_ties.Tie
  left_ties = ties_of types (i + 1) (suc j) m first

  abbrev right_ties : List point_ties.Tie
  right_ties = ties_of types (i + (1 + lm)) (suc j + nodes m) n second

  abbrev run_tie : point_ties.Tie
  run_tie = paths.tie (point places.Result 0) (point (places.Part i) 2)

  abbrev run : Tie
  run = tie (Of (ResultEnd 0)) (Of (PartEnd i 2))

  abbrev node_ties : ℕ → ℕ → List point_ties.Tie
  node_ties a b =
      paths.tie (point places.Result 0) (point (places.Part a) 2)
      ∷ (ties_of types (a + 1) (suc j) m (point (places.Part a) 0 ∷ []) ++ ties_of types b (suc j + nodes m) n (point (places.Part a) 1 ∷ []))

  node_is : ties_of types i j whole (row places.Result 0 (count Com)) ≡ run_tie ∷ (left_ties ++ right_ties)
  node_is =
      let none : i + 0 ≡ i = omega arith in
      let sum : i + 0 + 1 + lm ≡ i + (1 + lm) = omega arith in
      λ a. node_ties (none a) (sum a)

  abbrev whole_dots : List Tie
  whole_dots = dot_ties (ties_of types i j whole (row places.Result 0 (count (type_of_node whole))))

  dot_tie : point_ties.Tie → Tie
  dot_tie t = tie (dot_of t.one) (dot_of t.other)

  in_node : (t : Tie) → Contains (dot_ties (run_tie ∷ (left_ties ++ right_ties))) t → Contains whole_dots t
  in_node t has = subst (λ (ts : List point_ties.Tie). Contains (dot_ties ts) t) (sym node_is) has

  in_rest : (t : Tie) → Contains (dot_ties (left_ties ++ right_ties)) t → Contains whole_dots t
  in_rest t (a, lt, e) = in_node t (suc a, omega (arith, lt), e)

  in_left : (t : Tie) → Contains (dot_ties left_ties) t → Contains whole_dots t
  in_left t has =
      let (u, has_u, same) = of_image (λ (x : point_ties.Tie). tie (dot_of x.one) (dot_of x.other)) left_ties t has in
      subst (λ (x : Tie). Contains whole_dots x) same
      (in_rest (tie (dot_of u.one) (dot_of u.other))
      (in_image (λ (x : point_ties.Tie). tie (dot_of x.one) (dot_of x.other)) (left_ties ++ right_ties) u (Contains-append_left left_ties right_ties u has_u)))

  in_right : (t : Tie) → Contains (dot_ties right_ties) t → Contains whole_dots t
  in_right t has =
      let (u, has_u, same) = of_image (λ (x : point_ties.Tie). tie (dot_of x.one) (dot_of x.other)) right_ties t has in
      subst (λ (x : Tie). Contains whole_dots x) same
      (in_rest (tie (dot_of u.one) (dot_of u.other))
      (in_image (λ (x : point_ties.Tie). tie (dot_of x.one) (dot_of x.other)) (left_ties ++ right_ties) u (Contains-append_right left_ties right_ties u has_u)))

  abbrev Cases : Tie → Type 0
  Cases t = Contains (dot_ties left_ties) t ⊎ (Contains (dot_ties right_ties) t ⊎ (t ≡ run))

  which : (t : Tie) → Contains whole_dots t → Cases t
  which t has =
      let (u, has_u, same) =
      of_image (λ (x : point_ties.Tie). tie (dot_of x.one) (dot_of x.other)) (run_tie ∷ (left_ties ++ right_ties)) t
      (subst (λ (ts : List point_ties.Tie). Contains (dot_ties ts) t) node_is has) in
      subst Cases same (by_place u has_u)
    where
      by_list : (u : point_ties.Tie) → Contains left_ties u ⊎ Contains right_ties u → Cases (tie (dot_of u.one) (dot_of u.other))
      by_list u (inl has) = inl (in_image (λ (x : point_ties.Tie). tie (dot_of x.one) (dot_of x.other)) left_ties u has)
      by_list u (inr has) = inr (inl (in_image (λ (x : point_ties.Tie). tie (dot_of x.one) (dot_of x.other)) right_ties u has))

      by_place : (u : point_ties.Tie) → Contains (run_tie ∷ (left_ties ++ right_ties)) u → Cases (tie (dot_of u.one) (dot_of u.other))
      by_place u (zero, lt, e) = inr (inr (ap (λ (x : point_ties.Tie). tie (dot_of x.one) (dot_of x.other)) (sym e)))
      by_place u (suc a, lt, e) = by_list u (Contains-append_cases left_ties right_ties u (a, omega (arith, lt), e))

  swapped : (t : Tie) → Cases t → Contains (dot_ties right_ties) t ⊎ (Contains (dot_ties left_ties) t ⊎ (t ≡ run))
  swapped t (inl a) = inr (inl a)
  swapped t (inr (inl a)) = inl a
  swapped t (inr (inr a)) = inr (inr a)

  -- the parts of the node
  left_part : (a : ℕ) (x : Part) → slice_get pm a ≡ Some x → slice_get (parts_of types whole) (1 + a) ≡ Some x
  left_part a x e =
      let next : 1 + a ≡ suc a = omega arith in ap (slice_get (parts_of types whole)) next ∙ found_in_front pm pn a x e

  right_part : (a : ℕ) (x : Part) → slice_get pn a ≡ Some x → slice_get (parts_of types whole) (1 + lm + a) ≡ Some x
  right_part a x e =
      let next : 1 + lm + a ≡ suc (lm + a) = omega arith in ap (slice_get (parts_of types whole)) next ∙ (found_behind pm pn a ∙ e)

  abbrev LeftOf : Type 0
  LeftOf = IsSideOf types i 0 1 (suc j) m ms 1 (1 + lm) (suc j + nodes m) n ks j whole ns run

  abbrev RightOf : Type 0
  RightOf = IsSideOf types i 1 (1 + lm) (suc j + nodes m) n ks 0 1 (suc j) m ms j whole ns run

  abbrev fl : Frame
  fl = side_frame types i 0 1 (suc j) m ms

  abbrev fr : Frame
  fr = side_frame types i 1 (1 + lm) (suc j + nodes m) n ks

  left_of : LeftOf
  left_of =
      record {
        shifted = omega arith;
        type = type_m;
        parts = left_part;
        knows = parted.left;
        other_knows = parted.right;
        once = parted.once;
        split = parted.split;
        other_handshake = refl;
        other_shifted = omega arith;
        parts_apart = inl (omega arith);
        nodes_apart = inl (omega arith);
        ties = in_left;
        all = which;
        run_one = refl;
        run_other = own_part fl 2;
      }

  right_of : RightOf
  right_of =
      record {
        shifted = omega arith;
        type = type_n;
        parts = right_part;
        knows = parted.right;
        other_knows = parted.left;
        once = λ a. (let one = parted.once a in omega (arith, one));
        split = λ a. (let both = parted.split a in omega (arith, both));
        other_handshake = refl;
        other_shifted = omega arith;
        parts_apart = inr (omega arith);
        nodes_apart = inr (omega arith);
        ties = in_right;
        all = λ t has. swapped t (which t has);
        run_one = refl;
        run_other = own_part fr 2;
      }

  -- the node's own part
  driver : (slice_get r.parts (pl.own 0) ≡ Some kinds.Par) × (pl.source (pl.own 0) ≡ Own 0)
  driver = is.parts kinds.Par (Own 0) refl

  abbrev sl : Sitting
  sl = side_sitting types i 0 1 (suc j) m ms j whole ns env pl

  abbrev sr : Sitting
  sr = side_sitting types i 1 (1 + lm) (suc j + nodes m) n ks j whole ns env pl

  -- Whose a part is.
  abbrev Whose : Source → Type 0
  Whose o = (IsIn fl o ⊎ IsIn fr o) ⊎ (o ≡ Own 0)

  whose_number : (a : ℕ) → Contains ns a → (kept fl a ≡ true) ⊎ (kept fr a ≡ true)
  whose_number a has = tested (times a ms) refl
    where
      tested : (b : ℕ) → times a ms ≡ b → (kept fl a ≡ true) ⊎ (kept fr a ≡ true)
      tested zero e =
          let many = some_times a ns has in
          let both = parted.split a in
          inr (kept_true fr a (listed_times a ks (omega (arith, many, both, e))) refl)
      tested (suc b) e = inl (kept_true fl a (listed_times a ms (omega (arith, e))) refl)

  whose : (x : Part) (o : Source) → IsFrom (parts_of types whole) ns env x o → Whose o
  whose x (Own zero) has = inr refl
  whose x (Own (suc a)) has =
      let low = slice_get_within (parts_of types whole) (suc a) x has in
      let long = length-append pm pn in
      tested (nat_lt a lm) refl (omega (arith, low, long))
    where
      tested : (b : Bool) → nat_lt a lm ≡ b → suc a < 1 + (lm + length pn) → Whose (Own (suc a))
      tested true e low = let less : a < lm = grind (arith, e) in inl (inl (in_range_true 1 lm (suc a) (omega arith) (omega (arith, less))))
      tested false e low =
          let more : lm ≤ a = grind (arith, e) in
          inl (inr (in_range_true (1 + lm) (length pn) (suc a) (omega (arith, more)) (omega (arith, low))))
  whose x (Supplied a b) (has, at) = by_side (whose_number a has)
    where
      by_side : (kept fl a ≡ true) ⊎ (kept fr a ≡ true) → Whose (Supplied a b)
      by_side (inl e) = inl (inl e)
      by_side (inr e) = inl (inr e)

  -- no part is that of both
  number_apart : (a : ℕ) → Contains ms a → Contains ks a → ⊥
  number_apart a one other =
      let many = some_times a ms one in
      let more = some_times a ks other in
      let both = parted.split a in
      let once = parted.once a in omega (arith, many, more, both, once)

  source_apart : (o : Source) → IsIn fl o → IsIn fr o → ⊥
  source_apart (Own a) one other =
      let (low, high) = in_range_is 1 lm a one in
      let (low', high') = in_range_is (1 + lm) (length pn) a other in omega (arith, high, low')
  source_apart (Supplied a b) one other = number_apart a (kept_is fl a one).0 (kept_is fr a other).0

  run_way : Way (whole_web sl).ties (Within 0 (Of (ResultEnd 0))) (Within 0 (Of (PartEnd i 2)))
  run_way =
      along (Within 0 (Of (ResultEnd 0))) (Within 0 (Of (PartEnd i 2))) (Within 0 (Of (PartEnd i 2)))
      (inl (Contains-append_left (within 0 whole_dots) (all_supply_ties types env ns) (tie (Within 0 (Of (ResultEnd 0))) (Within 0 (Of (PartEnd i 2))))
      (in_image (λ (x : Tie). tie (Within 0 x.one) (Within 0 x.other)) whole_dots run (in_node run (0, omega arith, refl)))))
      (here (Within 0 (Of (PartEnd i 2))))

  own_dot : (h : ℕ) → (whole_web sl).at (PartEnd (pl.own 0) h) ≡ Within 0 (Of (PartEnd i h))
  own_dot h =
      let same : i + 0 ≡ i = omega arith in
      ap (λ (a : Source). source_dot i a h) driver.1 ∙ ap (λ (a : ℕ). Within 0 (Of (PartEnd a h))) same

  own_contact : (h : ℕ) → contact_at r (PartEnd (pl.own 0) h) ≡ slice_get (part_contacts kinds.Par) h
  own_contact h = ap (λ (x : Option Part). slice_get (contacts_of_part x) h) driver.0

  result_contact : (h : ℕ) → contact_at r (ResultEnd h) ≡ turned_if (slice_get (contacts_of Com) h)
  result_contact h = ap (λ (t : Type'). turned_if (slice_get (contacts_of t) h)) is.outcome

  run_joint : Contains r.joints (joint (ResultEnd 0) (PartEnd (pl.own 0) 2))
  run_joint =
      (is.web.joints (ResultEnd 0) (PartEnd (pl.own 0) 2)).1 (
        0,
        0,
        result_contact 0,
        own_contact 2,
        subst (λ (d : Dot). Way (whole_web sl).ties (Within 0 (Of (ResultEnd 0))) d) (sym (own_dot 2)) run_way,
      )

  only_run : (b : End) → Contains r.joints (joint (ResultEnd 0) b) → b ≡ PartEnd (pl.own 0) 2
  only_run b has =
      ap (λ (x : Joint). x.serving)
      (one_joint r [] r.joints (joint (ResultEnd 0) b) (joint (ResultEnd 0) (PartEnd (pl.own 0) 2)) (ResultEnd 0) is.web.right
      (contained r.joints (joint (ResultEnd 0) b) has) (contained r.joints (joint (ResultEnd 0) (PartEnd (pl.own 0) 2)) run_joint)
      (asks_there (ResultEnd 0) b) (asks_there (ResultEnd 0) (PartEnd (pl.own 0) 2)))

  -- What an end that asks stands for.
  abbrev Asker : End → Type 0
  Asker a =
      (((y : Dot) × (back fl ((whole_web sl).at a) ≡ Some y)) ⊎ ((y : Dot) × (back fr ((whole_web sl).at a) ≡ Some y)))
      ⊎ (a ≡ ResultEnd 0)

  own_asker : (h q v : ℕ) → slice_get (part_contacts kinds.Par) h ≡ Some (asks q v) → Asker (PartEnd (pl.own 0) h)
  own_asker zero q v e = inl (inl (Within 0 (Of (ResultEnd 0)), ap (back fl) (own_dot 0) ∙ own_part fl 0))
  own_asker (suc zero) q v e = inl (inr (Within 0 (Of (ResultEnd 0)), ap (back fr) (own_dot 1) ∙ own_part fr 1))
  own_asker (suc (suc zero)) q v e = absurd (serves_is_not_asks 0 0 q v e)
  own_asker (suc (suc (suc h))) q v e = absurd (none-some (asks q v) e)

  part_asker : (a h q v : ℕ) → contact_at r (PartEnd a h) ≡ Some (asks q v) → (pl.source a ≡ Own 0 → placed pl (pl.source a) ≡ a)
      → Whose (pl.source a) → Asker (PartEnd a h)
  part_asker a h q v con back_at (inl (inl one)) = inl (inl (in_back fl (omega arith) (pl.source a) h one))
  part_asker a h q v con back_at (inl (inr other)) = inl (inr (in_back fr (omega arith) (pl.source a) h other))
  part_asker a h q v con back_at (inr own) =
      let same : pl.own 0 ≡ a = ap (placed pl) (sym own) ∙ back_at own in
      subst (λ (b : ℕ). Asker (PartEnd b h)) same
      (own_asker h q v (sym (own_contact h) ∙ (ap (λ (b : ℕ). contact_at r (PartEnd b h)) same ∙ con)))

  result_asker : (h q v : ℕ) → turned_if (slice_get (contacts_of Com) h) ≡ Some (asks q v) → Asker (ResultEnd h)
  result_asker zero q v e = inr refl
  result_asker (suc h) q v e = absurd (none-some (asks q v) e)

  import_asker : (a h : ℕ) → (kept fl (pl.origin a).number ≡ true) ⊎ (kept fr (pl.origin a).number ≡ true) → Asker (ImportEnd a h)
  import_asker a h (inl e) =
      inl
      (inl (
        Within (suc (pl.origin a).number) (Of (ImportEnd (pl.origin a).import h)),
        itself_true (kept fl (pl.origin a).number) (Within (suc (pl.origin a).number) (Of (ImportEnd (pl.origin a).import h))) e,
      ))
  import_asker a h (inr e) =
      inl
      (inr (
        Within (suc (pl.origin a).number) (Of (ImportEnd (pl.origin a).import h)),
        itself_true (kept fr (pl.origin a).number) (Within (suc (pl.origin a).number) (Of (ImportEnd (pl.origin a).import h))) e,
      ))

  asker : (a : End) (q v : ℕ) → contact_at r a ≡ Some (asks q v) → Asker a
  asker (PartEnd a h) q v con =
      let (x, at) = part_is_there (slice_get r.parts a) h (asks q v) con in
      let (from, placed_at) = is.no_more a x at in
      part_asker a h q v con (λ own. placed_at) (whose x (pl.source a) from)
  asker (ImportEnd a h) q v con =
      let (x, at) = there_is r.imports a h (asks q v) con in
      import_asker a h (whose_number (pl.origin a).number (is.no_import a x at).0)
  asker (ResultEnd h) q v con = result_asker h q v (sym (result_contact h) ∙ con)

  -- The sides.
  abbrev sitting_left : IsSitting sl
  sitting_left = is_sitting types i 0 1 (suc j) m ms 1 (1 + lm) (suc j + nodes m) n ks j whole ns run env pl left_of

  abbrev ports_left : HasPorts sl r
  ports_left = has_ports types i 0 1 (suc j) m ms 1 (1 + lm) (suc j + nodes m) n ks j whole ns run env pl left_of r kinds.Par driver.0 driver.1 refl

  abbrev sitting_right : IsSitting sr
  sitting_right = is_sitting types i 1 (1 + lm) (suc j + nodes m) n ks 0 1 (suc j) m ms j whole ns run env pl right_of

  abbrev ports_right : HasPorts sr r
  ports_right = has_ports types i 1 (1 + lm) (suc j + nodes m) n ks 0 1 (suc j) m ms j whole ns run env pl right_of r kinds.Par driver.0 driver.1 refl

  module _
      (left : HasPlan sl r sitting_left ports_left is) (right : HasPlan sr r sitting_right ports_right is) where
    abbrev p : Plan
    p = with_joints (child_plan sl) left.joints

    abbrev q : Plan
    q = with_joints (child_plan sr) right.joints

    abbrev fc : Cut
    fc = joined_cut (its_cut sl r) left.joints

    abbrev gc : Cut
    gc = joined_cut (its_cut sr r) right.joints

    abbrev Joined : End → End → Type 0
    Joined a b = (IsJointOf fc p a b ⊎ IsJointOf gc q a b) ⊎ ((a ≡ ResultEnd 0) × (b ≡ PartEnd (pl.own 0) 2))

    joined : (a b : End) → Contains r.joints (joint a b) → Asker a → Joined a b
    joined a b has (inl (inl (y, stands))) = inl (inl (joint_of types i 0 1 (suc j) m ms 1 (1 + lm) (suc j + nodes m) n ks j whole ns run env pl left_of r is differ kinds.Par driver.0 driver.1 refl left a b y has stands))
    joined a b has (inl (inr (y, stands))) = inl (inr (joint_of types i 1 (1 + lm) (suc j + nodes m) n ks 0 1 (suc j) m ms j whole ns run env pl right_of r is differ kinds.Par driver.0 driver.1 refl right a b y has stands))
    joined a b has (inr same) = inr (same, only_run b (subst (λ (d : End). Contains r.joints (joint d b)) same has))

    part_of : (a : ℕ) (x : Part) → slice_get r.parts a ≡ Some x → Whose (pl.source a) → placed pl (pl.source a) ≡ a
        → (IsPartOf fc a ⊎ IsPartOf gc a) ⊎ (a ≡ pl.own 0)
    part_of a x at (inl (inl one)) back_at =
        let (b, e) = in_number fl (child_placing sl) x (pl.source a) one in
        inl (inl (b, ap (λ (o : Option Part). number_of fl (child_placing sl) o (pl.source a)) at ∙ e))
    part_of a x at (inl (inr other)) back_at =
        let (b, e) = in_number fr (child_placing sr) x (pl.source a) other in
        inl (inr (b, ap (λ (o : Option Part). number_of fr (child_placing sr) o (pl.source a)) at ∙ e))
    part_of a x at (inr own) back_at = inr (sym back_at ∙ ap (placed pl) own)

    names_apart : HaveOtherNames p.imports q.imports
    names_apart x y in_p in_q same =
        let (a, at_a) = place_of p.imports x in_p in
        let (b, at_b) = place_of q.imports y in_q in
        let one = import_in types i 0 1 (suc j) m ms 1 (1 + lm) (suc j + nodes m) n ks j whole ns run env pl left_of r is differ kinds.Par driver.0 driver.1 refl a x at_a in
        let other = import_in types i 1 (1 + lm) (suc j + nodes m) n ks 0 1 (suc j) m ms j whole ns run env pl right_of r is differ kinds.Par driver.0 driver.1 refl b y at_b in
        let place = differ_at r.imports differ (pl.import one.number one.import) (pl.import other.number other.import) x y one.at other.at same in
        let number : one.number ≡ other.number =
        ap (λ (o : origins.Origin). o.number) (sym one.origin ∙ (ap pl.origin place ∙ other.origin)) in
        number_apart other.number (subst (Contains ms) number one.has) other.has

    is_parallel : IsParallel (pl.own 0) fc gc r p q
    is_parallel =
        record {
          left = is_side types i 0 1 (suc j) m ms 1 (1 + lm) (suc j + nodes m) n ks j whole ns run env pl left_of r is differ kinds.Par driver.0 driver.1 refl left;
          right = is_side types i 1 (1 + lm) (suc j + nodes m) n ks 0 1 (suc j) m ms j whole ns run env pl right_of r is differ kinds.Par driver.0 driver.1 refl right;
          outcome = is.outcome;
          driver = driver.0;
          run = run_joint;
          joints = λ a b has. (let (c, v, con, con_b, way) = (is.web.joints a b).0 has in joined a b has (asker a c v con));
          parts =
              λ a x at.
              let (from, back_at) = is.no_more a x at in
              part_of a x at (whose x (pl.source a) from) back_at;
          apart =
              λ a (b, e) (c, d).
              source_apart (pl.source a) (number_in fl (child_placing sl) (slice_get r.parts a) (pl.source a) b e)
              (number_in fr (child_placing sr) (slice_get r.parts a) (pl.source a) c d);
          names = names_apart;
        }

  are_sides : AreSides types i j m n ms ks env (pl.own 0) r
  are_sides =
      let left : HasPlan sl r sitting_left ports_left is = side_plan types i 0 1 (suc j) m ms 1 (1 + lm) (suc j + nodes m) n ks j whole ns run env pl left_of r is differ kinds.Par driver.0 driver.1 refl in
      let right : HasPlan sr r sitting_right ports_right is = side_plan types i 1 (1 + lm) (suc j + nodes m) n ks 0 1 (suc j) m ms j whole ns run env pl right_of r is differ kinds.Par driver.0 driver.1 refl in
      let sum : i + (1 + lm) ≡ i + 1 + lm = omega arith in
      record {
        left = with_joints (child_plan sl) left.joints;
        right = with_joints (child_plan sr) right.joints;
        left_placing = child_placing sl;
        right_placing = child_placing sr;
        left_cut = joined_cut (its_cut sl r) left.joints;
        right_cut = joined_cut (its_cut sr r) right.joints;
        left_wired = left.wired;
        right_wired =
            subst
            (λ (a : ℕ). IsWired types a (suc j + nodes m) n ks env (child_placing sr) (with_joints (child_plan sr) right.joints)) sum right.wired;
        parallel = is_parallel left right;
        left_imports = keeps_imports sl r left.joints;
        right_imports = keeps_imports sr r right.joints;
      }

pub parallel_is_wired : ParallelIsWired
parallel_is_wired types i j m n ns ms ks env pl r is type_m type_n parted differ =
    are_sides types i j m n ns ms ks env pl r is type_m type_n parted differ
