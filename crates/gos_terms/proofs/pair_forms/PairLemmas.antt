-- The two halves of a wired pair are its children, cover its joints, and so are the two sides of its plan.
use Rattle.std.specs.Prelude.{◌+◌, ◌-◌, ◌<◌, ◌≤◌, ◌⊎◌, length, nat_lt, slice_get, Contains}
use Rattle.std.proofs.Common.{◌≡◌, ℕ, zero, suc, Bool, true, false, List, [], ◌∷◌, ◌++◌, Option, Some, inl, inr, refl, sym, ◌∙◌, ap, subst, arith}
use Rattle.std.proofs.lemmas.Bool.Decides.{nat_tests}
use Rattle.std.proofs.lemmas.List.{length-append}
use Rattle.std.proofs.lemmas.Option.{slice_get_within}
use Rattle.std.proofs.lemmas.Bool.{lt-ltb}
use Rattle.gos_types.specs.Types.{Type', Pair}
use Rattle.gos_types.proofs.ListLemmas.{found_in_front}
use Rattle.gos_check.specs.declared.linear.Split.{Split}
use Rattle.gos_check.specs.Nodes.{Numbered, Two, OfBoth, type_of_node}
use Rattle.gos_check.specs.Linearity.{times, split_in, made}
use Rattle.gos_check.proofs.TimesLemmas.{some_times, times-append}
use Rattle.gos_model.proofs.NumberLemmas.{either}
use Rattle.gos_plan.specs.Kinds.{Contact, Part, Share, contacts_of, part_contacts}
use Rattle.gos_plan.specs.Plans.{End, PartEnd, ImportEnd, ResultEnd, Plan, contact_at, contacts_of_part}
use Rattle.gos_plan.proofs.JointLemmas.{fits, contained}
use Rattle.gos_plan.proofs.ContactLemmas.{turned_some, part_is_there, import_is_there}
use Rattle.gos_realises.specs.realises.Regular.{count, IsRegular}
use Rattle.gos_realises.specs.realises.Realises.{NamesDiffer}
use Rattle.gos_realises.proofs.realises.CountLemmas.{count_pair, share_count}
use Rattle.gos_joining.specs.webs.Webs.{Dot, Of, Within, Tie, joint}
use Rattle.gos_compile.specs.Wiring.{Types, shares, parts_of, nodes}
use Rattle.gos_terms.specs.wired.Wired.{Supplies, Source, Own, Supplied, Placing, IsFrom, IsWired, source_dot, dot_at, wired_ties}
use Rattle.gos_terms.specs.wired.NodeFitting.{AreOfTypes}
use Rattle.gos_terms.specs.stages.Inside.{numbers_inside, AreOrdered}
use Rattle.gos_terms.specs.stages.Lodging.{live, AreInOrder}
use Rattle.gos_terms.specs.stages.Folding.{AtResult, Child, is_used, lodge, spot_dot, child_back, IsChild, IsLaid}
use Rattle.gos_terms.specs.stages.Regions.{HasParts, IsStaged}
use Rattle.gos_terms.proofs.stages.ServedLemmas.{servings_serve}
use Rattle.gos_terms.proofs.stages.ChildPartLemmas.{plain_source}
use Rattle.gos_terms.proofs.stages.ChildBackLemmas.{lead_stands}
use Rattle.gos_terms.proofs.stages.ChildStageLemmas.{child_is_staged}
use Rattle.gos_terms.proofs.stages.ContactLemmas.{shares_length}
use Rattle.gos_terms.proofs.stages.CoverLemmas.{live_is_covered, own_is_covered}
use Rattle.gos_terms.proofs.stages.SideLemmas.{served_side, AreUsed, AreOld, all_live, all_serve}
use Rattle.gos_terms.specs.numbers.Inherited.{IsPart}
use Rattle.gos_terms.specs.run_children.Forks.{Branch, AreBranches}
use Rattle.gos_terms.specs.run_children.Forms.{branch}
use Rattle.gos_terms.specs.run_children.Pairs.{pair_side, parts_end}
use Rattle.gos_terms.proofs.run_children.PairLemmas.{sides_are_children, sides_have_parts}
use Rattle.gos_nodes.specs.products.Both.{Side, IsSide, IsOfSide, IsBoth}
use Rattle.gos_terms.proofs.pair_forms.SideLemmas.{leads_at, side_of, joint_of, child_is_side}

-- a part of a pair is a Share, or one of a half's
abbrev IsOfPair : Types → List Split → List Part → List Part → Part → ℕ → Type 0
IsOfPair types ss ps qs y k =
    ((t : Type') × (y ≡ Share t) × (slice_get (shares ss types) k ≡ Some (Share t)))
    ⊎ (((x : ℕ) × (x < length ps) × (k ≡ length ss + x)) ⊎ ((x : ℕ) × (x < length qs) × (k ≡ length ss + length ps + x)))

of_pair : (types : Types) (ss : List Split) (ps qs : List Part) (y : Part) (k : ℕ) → slice_get (shares ss types ++ (ps ++ qs)) k ≡ Some y
    → IsOfPair types ss ps qs y k
of_pair types [] ps qs y k at = by_test (nat_lt k (length ps)) refl
  where
    lt : k < length (ps ++ qs)
    lt = slice_get_within (ps ++ qs) k y at

    by_test : (b : Bool) → nat_lt k (length ps) ≡ b → IsOfPair types [] ps qs y k
    by_test true t = inr (inl (k, grind (arith, nat_tests, t), omega arith))
    by_test false t =
        let high : length ps ≤ k = grind (arith, nat_tests, t) in
        let long = length-append ps qs in
        let small = lt in
        inr (inr (k - length ps, omega (arith, high, long, small), omega (arith, high)))
of_pair types (s ∷ ss) ps qs y zero at = let same : Share (types s.of) ≡ y = cc at in inl (types s.of, sym same, refl)
of_pair types (s ∷ ss) ps qs y (suc k) at = further (of_pair types ss ps qs y k at)
  where
    further : IsOfPair types ss ps qs y k → IsOfPair types (s ∷ ss) ps qs y (suc k)
    further (inl it) = inl it
    further (inr (inl (x, lt, is))) = inr (inl (x, lt, omega (arith, is)))
    further (inr (inr (x, lt, is))) = inr (inr (x, lt, omega (arith, is)))

module _ (types : Types) (i j : ℕ) (ss : List Split) (m n : Numbered) (ms ks ns : List ℕ) (env : Supplies) (pl : Placing) (r : Plan)
    (first : IsPart types ss ns ms m) (second : IsPart types ss ns ks n)
    (all_there : (k : ℕ) → times k (split_in ss) ≡ 0 → times k ms + times k ks ≡ times k (numbers_inside ss ns))
    (once : (k : ℕ) → times k (made m) + times k (made n) + times k (numbers_inside ss ns) ≤ 1)
    (wired : IsWired types i j (Two (Pair (type_of_node m) (type_of_node n)) ss OfBoth m n) ns env pl r) (supplies : AreOfTypes types env ns) where
  abbrev pub a : Type'
  a = type_of_node m

  abbrev pub b : Type'
  b = type_of_node n

  abbrev pub node : Numbered
  node = Two (Pair a b) ss OfBoth m n

  -- the two branches: the first one is called true
  abbrev pub half : Bool → Branch
  half true = branch m ms
  half false = branch n ks

  part_of : (p : Bool) → IsPart types ss ns (half p).uses (half p).term
  part_of true = first
  part_of false = second

  parts_two : (x : Branch) → Contains (half true ∷ half false ∷ []) x → IsPart types ss ns x.uses x.term
  parts_two x (zero, small, at) = subst (λ (y : Branch). IsPart types ss ns y.uses y.term) at first
  parts_two x (suc zero, small, at) = subst (λ (y : Branch). IsPart types ss ns y.uses y.term) at second
  parts_two x (suc (suc k), small, at) = absurd (omega (arith, small))

  branches : AreBranches types ss ns (half true ∷ half false ∷ [])
  branches =
      record {
        parts = parts_two;
        covers =
            λ k none.
            (let sum = all_there k none in let one = times-append k ms (ks ++ []) in let two = times-append k ks [] in omega (arith, sum, one, two));
        once =
            λ k.
            (let it = once k in let one = times-append k (made m) (made n ++ []) in let two = times-append k (made n) [] in omega (arith, it, one, two));
      }

  -- where their parts, nodes and handshakes begin
  abbrev off : Bool → ℕ
  off true = length ss
  off false = length ss + length (parts_of types m)

  abbrev first_node : Bool → ℕ
  first_node true = suc j
  first_node false = suc j + nodes m

  abbrev pub start : Bool → ℕ
  start true = 0
  start false = count a

  -- They are children.
  abbrev pub child : Bool → Child
  child p = pair_side types i ss env ns (off p) (first_node p) (start p) (parts_end types ss (half true) (half false)) (half p)

  abbrev pub ties : List Tie
  ties = wired_ties types i j node ns env

  pub is_child : (p : Bool) → IsChild (child p) ties
  is_child true = (sides_are_children types i j a b ss (half true) (half false) ns env refl refl branches supplies).0
  is_child false = (sides_are_children types i j a b ss (half true) (half false) ns env refl refl branches supplies).1

  abbrev pub all_parts : List Part
  all_parts = parts_of types node

  outcome : Pair a b ≡ r.outcome
  outcome = sym wired.outcome

  of_pairing : (p : Bool) → HasParts (child p) all_parts (Pair a b)
  of_pairing true = (sides_have_parts types i j a b ss (half true) (half false) ns env refl refl).0
  of_pairing false = (sides_have_parts types i j a b ss (half true) (half false) ns env refl refl).1

  pub has_parts : (p : Bool) → HasParts (child p) all_parts r.outcome
  has_parts p = subst (λ (t : Type'). HasParts (child p) all_parts t) outcome (of_pairing p)

  pub laid : IsLaid all_parts ns env pl r
  laid = record { parts = wired.parts; no_more = wired.no_more; imports = wired.imports; no_import = wired.no_import }

  pub used_once : (p : Bool) (k : ℕ) → times k (half p).uses ≤ 1
  used_once p k = let all = (part_of p).kept.once k in omega (arith, all)

  abbrev pub found : (p : Bool) → (plc : Placing) × (c : Plan) × IsStaged (child p) pl plc r c
  found p = child_is_staged (child p) all_parts ties pl r (is_child p) (has_parts p) (used_once p) laid wired.web

  -- What they cover.
  abbrev Covered : End → Type 0
  Covered x = (p : Bool) × (y : Dot) × (child_back (child p) (dot_at i pl x) ≡ Some y)

  abbrev user : Bool → ℕ → Bool
  user p = is_used (child p)

  all_used : AreUsed user ss ns []
  all_used k there none =
      let sum = all_there k (omega (arith, none)) in
      let is = some_times k (numbers_inside ss ns) there in
      elim (either (times k ms) (times k ks) (omega (arith, sum, is))) [
        | inl some ↦ (true, lt-ltb 0 (times k ms) some)
        | inr some ↦ (false, lt-ltb 0 (times k ks) some)
      ]

  order : AreInOrder ss
  order = first.tidy.in_order

  none_old : AreOld user ss []
  none_old k lt = refl

  live_number : (k : ℕ) → Contains ns k → (p : Bool) × (live ss (user p) k ≡ true)
  live_number k there = all_live user ss ns [] all_used order none_old k there refl

  supply_covered : (q h k x : ℕ) → pl.source q ≡ Supplied k x → Contains ns k → Covered (PartEnd q h)
  supply_covered q h k x from there =
      let (p, alive) = live_number k there in
      let (y, back) = live_is_covered (child p) k (PartEnd x h) alive in
      (p, y, ap (λ (s : Source). child_back (child p) (source_dot i s h)) from ∙ back)

  share_source : (x : ℕ) (y : Part) → slice_get (shares ss types) x ≡ Some y → pl.source (pl.own x) ≡ Own x
  share_source x y at = (wired.parts y (Own x) (found_in_front (shares ss types) (parts_of types m ++ parts_of types n) x y at)).1

  share_covered : (q h x : ℕ) (t : Type') → pl.source q ≡ Own x → slice_get (shares ss types) x ≡ Some (Share t) → h < count t + (count t + count t)
      → Covered (PartEnd q h)
  share_covered q h x t from share lt =
      let (c, two, serves) = served_side (count t) h lt in
      let (p, listed) =
      all_serve user types pl ss ns [] all_used order none_old (λ p. (is_child p).tidy.apart) 0 x x t c (omega arith) share two
      in
      let (y, same, seen) = servings_serve types i (user p) ss env ns pl (record { part = pl.own x; ty = t; side = c }) (is_child p).tidy listed in
      let (z, home) = seen.seen h serves in
      let one : pl.source (pl.own x) ≡ Own x = share_source x (Share t) share in
      let other : pl.source (pl.own y) ≡ Own y = share_source y (Share t) seen.share in
      let sources : Own y ≡ Own x = sym other ∙ (ap pl.source (sym same) ∙ one) in
      let at_x : (lodge (child p)).home (source_dot i (Own x) h) ≡ Some z =
      subst (λ (s : Source). (lodge (child p)).home (source_dot i s h) ≡ Some z) sources home in
      let within = slice_get_within (shares ss types) x (Share t) share in
      let size = shares_length types ss in
      let below : x < length ss = omega (arith, within, size) in (
        p,
        Within (suc z.number) (Of z.end),
        ap (λ (s : Source). child_back (child p) (source_dot i s h)) from
            ∙ (plain_source (child p) ties pl pl (is_child p) (Own x) h below ∙ ap spot_dot at_x),
      )

  own_covered : (q h x : ℕ) (p : Bool) → pl.source q ≡ Own (off p + x) → x < length (parts_of types (half p).term) → Covered (PartEnd q h)
  own_covered q h x p from lt =
      let (y, back) = (own_is_covered (child p) ties (is_child p)).0 x h lt in
      (p, y, ap (λ (s : Source). child_back (child p) (source_dot i s h)) from ∙ back)

  part_covered : (q h : ℕ) (y : Part) (s : Source) → pl.source q ≡ s → IsFrom all_parts ns env y s → h < length (part_contacts y) → Covered (PartEnd q h)
  part_covered q h y (Supplied k x) from (there, listed) lt = supply_covered q h k x from there
  part_covered q h y (Own k) from listed lt = by_kind (of_pair types ss (parts_of types m) (parts_of types n) y k listed)
    where
      by_kind : IsOfPair types ss (parts_of types m) (parts_of types n) y k → Covered (PartEnd q h)
      by_kind (inl (t, is, share)) =
          let size : length (part_contacts y) ≡ count t + (count t + count t) = ap (λ (x : Part). length (part_contacts x)) is ∙ share_count t in
          share_covered q h k t from share (omega (arith, lt, size))
      by_kind (inr (inl (x, less, at))) = own_covered q h x true (from ∙ ap Own at) less
      by_kind (inr (inr (x, less, at))) = own_covered q h x false (from ∙ ap Own at) less

  result_covered : (p : Bool) (h : ℕ) → h < count (type_of_node (half p).term) → Covered (ResultEnd (start p + h))
  result_covered p h lt = (
    p,
    Within 0 (Of (ResultEnd h)),
    lead_stands (child p) ties pl (is_child p) h (AtResult (start p + h)) (leads_at (start p) (count (type_of_node (half p).term)) h lt),
  )

  end_covered : (x : End) (k : Contact) → contact_at r x ≡ Some k → Covered x
  end_covered (PartEnd q h) k at =
      let (y, listed) = part_is_there (slice_get r.parts q) h k at in
      let there : slice_get (part_contacts y) h ≡ Some k = subst (λ (o : Option Part). slice_get (contacts_of_part o) h ≡ Some k) listed at in
      part_covered q h y (pl.source q) refl (wired.no_more q y listed).0 (slice_get_within (part_contacts y) h k there)
  end_covered (ImportEnd q h) k at =
      let (x, listed) = import_is_there (slice_get r.imports q) h k at in
      let there = (wired.no_import q x listed).0 in
      let (p, alive) = live_number (pl.origin q).number there in
      let (y, back) = live_is_covered (child p) (pl.origin q).number (ImportEnd (pl.origin q).import h) alive in
      (p, y, back)
  end_covered (ResultEnd h) k at = by_test (nat_lt h (count a)) refl
    where
      lt : h < count a + count b
      lt =
          let (c, there) = turned_some (slice_get (contacts_of r.outcome) h) k at in
          let within = slice_get_within (contacts_of r.outcome) h c there in
          let same : count r.outcome ≡ count (Pair a b) = ap count wired.outcome in
          let sum = count_pair a b in
          omega (arith, within, same, sum)

      by_test : (t : Bool) → nat_lt h (count a) ≡ t → Covered (ResultEnd h)
      by_test true t =
          let sum : 0 + h ≡ h = omega arith in
          subst (λ (x : ℕ). Covered (ResultEnd x)) sum (result_covered true h (grind (arith, nat_tests, t)))
      by_test false t =
          let high : count a ≤ h = grind (arith, nat_tests, t) in
          let all = lt in
          let sum : count a + (h - count a) ≡ h = omega (arith, high) in
          subst (λ (x : ℕ). Covered (ResultEnd x)) sum (result_covered false (h - count a) (omega (arith, high, all)))

  -- So they are the sides.
  abbrev pub side : Bool → Side
  side p = side_of (child p) all_parts ties pl (found p).0 r (found p).1 (is_child p) (has_parts p) laid (found p).2 wired.web

  joint_covered : (c d : End) → Contains r.joints (joint c d) → IsOfSide (side true) c d ⊎ IsOfSide (side false) c d
  joint_covered c d listed =
      let it = fits r [] r.joints (joint c d) wired.web.right (contained r.joints (joint c d) listed) in
      by_half (end_covered c _ it.2)
    where
      by_half : Covered c → IsOfSide (side true) c d ⊎ IsOfSide (side false) c d
      by_half (true, y, back) =
          inl (joint_of (child true) all_parts ties pl (found true).0 r (found true).1 (is_child true) (has_parts true) laid (found true).2 wired.web c d y listed back)
      by_half (false, y, back) =
          inr (joint_of (child false) all_parts ties pl (found false).0 r (found false).1 (is_child false) (has_parts false) laid (found false).2 wired.web c d y listed back)

  pub is_side : (p : Bool) → IsRegular (found p).1 → AreOrdered env ns → NamesDiffer r.imports → IsSide r (start p) (side p)
  is_side p regular ordered differ =
      child_is_side (child p) all_parts ties pl (found p).0 r (found p).1 (is_child p) (has_parts p) laid (found p).2 wired.web (start p) refl regular ordered differ

  pub is_both : ((p : Bool) → IsRegular (found p).1) → AreOrdered env ns → NamesDiffer r.imports → IsBoth a b r (side true) (side false)
  is_both regular ordered differ =
      record {
        outcome = wired.outcome;
        names = differ;
        first = is_side true (regular true) ordered differ;
        first_type = (found true).2.wired.outcome;
        second = is_side false (regular false) ordered differ;
        second_type = (found false).2.wired.outcome;
        joints = joint_covered;
      }
