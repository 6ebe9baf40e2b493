-- Each end and each part of a wired fork is a branch's, but for those at which it is run.
use Rattle.std.specs.Prelude.{◌≢◌, ◌+◌, ◌-◌, ◌<◌, ◌≤◌, ◌⊎◌, length, nat_lt, slice_get, None, Option, Contains}
use Rattle.std.proofs.Common.{◌≡◌, ℕ, suc, Bool, true, false, List, [], ◌∷◌, Some, inl, inr, refl, sym, ◌∙◌, ap, subst, arith, if◌then◌else◌}
use Rattle.std.proofs.lemmas.Bool.Decides.{nat_tests}
use Rattle.std.proofs.lemmas.Option.{slice_get_within, none-some}
use Rattle.std.proofs.lemmas.Bool.{lt-ltb}
use Rattle.gos_types.specs.Types.{Type', Com, Exp, Var, Pair, Fun, IsDone}
use Rattle.gos_types.proofs.ListLemmas.{found_in_front}
use Rattle.gos_check.specs.declared.linear.Split.{Split}
use Rattle.gos_check.specs.Nodes.{Numbered}
use Rattle.gos_check.specs.Linearity.{times}
use Rattle.gos_check.proofs.TimesLemmas.{some_times}
use Rattle.gos_plan.specs.Kinds.{Contact, Part, Share, contacts_of, part_contacts}
use Rattle.gos_plan.specs.Plans.{End, PartEnd, ImportEnd, ResultEnd, Plan, contacts_of_part, contact_at}
use Rattle.gos_plan.proofs.ContactLemmas.{turned_some, part_is_there, import_is_there}
use Rattle.gos_realises.specs.realises.Regular.{count}
use Rattle.gos_realises.proofs.realises.CountLemmas.{some_shake, share_count}
use Rattle.gos_joining.specs.webs.Webs.{Dot, Of, Within, Tie}
use Rattle.gos_nodes.specs.sessions.Sessions.{Form, own_part, run_shake}
use Rattle.gos_compile.specs.Wiring.{Types, shares, parts_of}
use Rattle.gos_terms.specs.wired.Wired.{Supplies, Source, Own, Supplied, Placing, IsFrom, IsWired, placed, source_dot, dot_at, wired_ties}
use Rattle.gos_terms.specs.wired.NodeFitting.{AreOfTypes}
use Rattle.gos_terms.specs.stages.Inside.{numbers_inside}
use Rattle.gos_terms.specs.stages.Lodging.{Spot, live, AreInOrder}
use Rattle.gos_terms.specs.stages.Housing.{IsOutsider, IsThere}
use Rattle.gos_terms.specs.stages.Folding.{Child, is_used, lodge, spot_dot, child_back, child_cut, part_of_dot, IsChild}
use Rattle.gos_terms.specs.stages.Nodes.{Cared, AreCovering}
use Rattle.gos_terms.proofs.stages.HousingLemmas.{homes_are_there}
use Rattle.gos_terms.proofs.stages.ServedLemmas.{servings_serve}
use Rattle.gos_terms.proofs.stages.ChildPartLemmas.{plain_source, own_source_back}
use Rattle.gos_terms.proofs.stages.ContactLemmas.{shares_length}
use Rattle.gos_terms.proofs.stages.CoverLemmas.{live_is_covered, own_is_covered}
use Rattle.gos_terms.proofs.stages.SideLemmas.{served_side, AreUsed, AreOld, all_live, all_serve}
use Rattle.gos_terms.specs.run_children.Forks.{Branch, IsFork, AreBranches, BranchIsChild, branch_parts, branch_child}
use Rattle.gos_terms.specs.branches.Covers.{AreBranchChildren, BranchesCover}
use Rattle.gos_terms.proofs.branches.BranchLemmas.{Standing, IsOfFork, some_standing, standing_at, standing_used, of_fork, child_of}

pub of_spot : (a : Option Spot) (x : Dot) → spot_dot a ≡ Some x → (z : Spot) × (a ≡ Some z)
of_spot None x e = absurd (none-some x e)
of_spot (Some z) x e = (z, refl)

one_contact : (t : Type') → IsDone t → length (contacts_of t) ≡ 1
one_contact Com done = refl
one_contact (Exp w) done = refl
one_contact (Var w) done = absurd done
one_contact (Pair a b) done = absurd done
one_contact (Fun a b) done = absurd done

module _ (f : Form) (types : Types) (i j : ℕ) (m : Numbered) (ss : List Split) (bs : List Branch) (ns : List ℕ) (env : Supplies) (pl : Placing) (r : Plan)
    (es : List Cared) (children : BranchIsChild) (fork : IsFork types m ss (own_part f) bs) (are : AreBranches types ss ns bs)
    (supplied : AreOfTypes types env ns) (some : bs ≢ []) (wired : IsWired types i j m ns env pl r)
    (cared : AreBranchChildren types i j ss env ns [] bs es) where
  abbrev ties : List Tie
  ties = wired_ties types i j m ns env

  abbrev child : Standing bs → Child
  child p = branch_child types i j ss env ns p.before p.here

  its_child : (p : Standing bs) → IsChild (child p) ties
  its_child p = children types i j m ss (own_part f) bs p.before p.after p.here ns env fork are supplied p.is

  abbrev d : ℕ
  d = pl.own (length ss)

  -- what a child covers
  abbrev Covered : End → Type 0
  Covered a = (e : Cared) × (x : Dot) × Contains es e × (child_back e.child (dot_at i pl a) ≡ Some x)

  by_child : (p : Standing bs) (a : End) (x : Dot) → child_back (child p) (dot_at i pl a) ≡ Some x → Covered a
  by_child p a x at =
      let (e, listed, same) = child_of types i j ss env ns bs es p cared in
      (e, x, listed, subst (λ (c : Child). child_back c (dot_at i pl a) ≡ Some x) (sym same) at)

  abbrev Counted : ℕ → Type 0
  Counted q = (e : Cared) × (x : ℕ) × Contains es e × ((child_cut e.child pl e.placing (length r.parts)).number q ≡ Some x)

  abbrev Told : Standing bs → Source → Type 0
  Told p s = (plc : Placing) → (x : ℕ) × (part_of_dot (child p) plc (child_back (child p) (source_dot i s 0)) ≡ Some x)

  counted_by : (p : Standing bs) (q : ℕ) (y : Part) → slice_get r.parts q ≡ Some y → Told p (pl.source q) → Counted q
  counted_by p q y at told =
      let (e, listed, same) = child_of types i j ss env ns bs es p cared in
      let (x, number) = told e.placing in (
        e,
        x,
        listed,
        subst (λ (c : Child). (child_cut c pl e.placing (length r.parts)).number q ≡ Some x) (sym same)
            (ap (λ (b : Bool). if b then part_of_dot (child p) e.placing (child_back (child p) (source_dot i (pl.source q) 0)) else None)
            (lt-ltb q (length r.parts) (slice_get_within r.parts q y at))
            ∙ number),
      )

  -- what stands for the numbers, and the Shares
  abbrev user : Standing bs → ℕ → Bool
  user p = is_used (child p)

  all_used : AreUsed user ss ns []
  all_used k there none =
      let few = are.covers k (omega (arith, none)) in
      let is = some_times k (numbers_inside ss ns) there in
      let (p, lt) = standing_used bs k (omega (arith, few, is)) in
      (p, lt-ltb 0 (times k p.here.uses) lt)

  order : AreInOrder ss
  order = (its_child (some_standing bs some)).tidy.in_order

  none_old : AreOld user ss []
  none_old k lt = refl

  record IsHoused (s : Source) (h : ℕ) : Type 0 where
    pub standing : Standing bs
    pub at : Spot
    pub home : (lodge (child standing)).home (source_dot i s h) ≡ Some at

  live_number : (n : ℕ) → Contains ns n → (p : Standing bs) × (live ss (user p) n ≡ true)
  live_number n there = all_live user ss ns [] all_used order none_old n there refl

  supply_housed : (n k h : ℕ) → Contains ns n → IsHoused (Supplied n k) h
  supply_housed n k h there =
      let (p, alive) = live_number n there in
      let (x, back) = live_is_covered (child p) n (PartEnd k h) alive in
      let (z, home) = of_spot ((lodge (child p)).home (source_dot i (Supplied n k) h)) x back in
      record { standing = p; at = z; home = home }

  share_source : (x : ℕ) (y : Part) → slice_get (shares ss types) x ≡ Some y → pl.source (pl.own x) ≡ Own x
  share_source x y at =
      let all : slice_get (parts_of types m) x ≡ Some y =
      subst (λ (ps : List Part). slice_get ps x ≡ Some y) (sym fork.parts) (found_in_front (shares ss types) (own_part f ∷ branch_parts types bs) x y at)
      in
      (wired.parts y (Own x) all).1

  share_housed : (x h : ℕ) (t : Type') → slice_get (shares ss types) x ≡ Some (Share t) → h < count t + (count t + count t) → IsHoused (Own x) h
  share_housed x h t share lt =
      let (c, two, serves) = served_side (count t) h lt in
      let (p, listed) =
      all_serve user types pl ss ns [] all_used order none_old (λ p. (its_child p).tidy.apart) 0 x x t c (omega arith) share two
      in
      let (y, same, seen) = servings_serve types i (user p) ss env ns pl (record { part = pl.own x; ty = t; side = c }) (its_child p).tidy listed in
      let (z, home) = seen.seen h serves in
      let one : pl.source (pl.own x) ≡ Own x = share_source x (Share t) share in
      let other : pl.source (pl.own y) ≡ Own y = share_source y (Share t) seen.share in
      let sources : Own y ≡ Own x = sym other ∙ (ap pl.source (sym same) ∙ one) in
      record { standing = p; at = z; home = subst (λ (s : Source). (lodge (child p)).home (source_dot i s h) ≡ Some z) sources home }

  housed_covered : (q h : ℕ) → IsOutsider (length ss) (pl.source q) → IsHoused (pl.source q) h → Covered (PartEnd q h)
  housed_covered q h outside it =
      by_child it.standing (PartEnd q h) (Within (suc it.at.number) (Of it.at.end))
      (plain_source (child it.standing) ties pl pl (its_child it.standing) (pl.source q) h outside ∙ ap spot_dot it.home)

  housed_counted : (q : ℕ) (y : Part) → slice_get r.parts q ≡ Some y → IsOutsider (length ss) (pl.source q) → IsThere (length ss) ns env (pl.source q)
      → IsHoused (pl.source q) 0 → Counted q
  housed_counted q y at outside there it =
      let p = it.standing in
      let home = homes_are_there types i (user p) ss env ns (pl.source q) 0 it.at (its_child p).tidy there it.home in
      counted_by p q y at
      (λ plc. (
        plc.supplied it.at.number home.part,
        ap (part_of_dot (child p) plc) (plain_source (child p) ties pl pl (its_child p) (pl.source q) 0 outside ∙ ap spot_dot it.home)
            ∙ ap (λ (a : End). part_of_dot (child p) plc (Some (Within (suc it.at.number) (Of a)))) home.end,
      ))

  -- the parts of the branches, and where they are asked
  branch_covered : (q h : ℕ) (p : Standing bs) (x : ℕ) → x < length (parts_of types p.here.term)
      → pl.source q ≡ Own (length ss + 1 + length (branch_parts types p.before) + x) → Covered (PartEnd q h)
  branch_covered q h p x lt from =
      let (y, back) = (own_is_covered (child p) ties (its_child p)).0 x h lt in
      by_child p (PartEnd q h) y (ap (λ (s : Source). child_back (child p) (source_dot i s h)) from ∙ back)

  branch_counted : (q : ℕ) (y : Part) (p : Standing bs) (x : ℕ) → slice_get r.parts q ≡ Some y → x < length (parts_of types p.here.term)
      → pl.source q ≡ Own (length ss + 1 + length (branch_parts types p.before) + x) → Counted q
  branch_counted q y p x at lt from =
      counted_by p q y at
      (λ plc. (
        plc.own (i + (child p).off + x - (i + (child p).off)),
        ap (λ (s : Source). part_of_dot (child p) plc (child_back (child p) (source_dot i s 0))) from
            ∙ ap (part_of_dot (child p) plc) (own_source_back (child p) ties pl pl (its_child p) x 0 lt),
      ))

  -- the own part, by handshake
  abbrev IsRun : End → Type 0
  IsRun a = a ≡ PartEnd d (run_shake (own_part f))

  own_covered : (q h : ℕ) → pl.source q ≡ Own (length ss) → q ≡ d → h < suc (length bs) → IsRun (PartEnd q h) ⊎ Covered (PartEnd q h)
  own_covered q h from at lt = by_test (nat_lt h (length bs)) refl
    where
      by_test : (t : Bool) → nat_lt h (length bs) ≡ t → IsRun (PartEnd q h) ⊎ Covered (PartEnd q h)
      by_test true t =
          let (p, asked) = standing_at bs h (grind (arith, nat_tests, t)) in
          let (y, back) = (own_is_covered (child p) ties (its_child p)).1 0 (length p.before) refl in
          inr (by_child p (PartEnd q h) y
          (ap (λ (s : Source). child_back (child p) (source_dot i s h)) from
          ∙ (ap (λ (g : ℕ). child_back (child p) (source_dot i (Own (length ss)) g)) (sym asked) ∙ back)))
      by_test false t =
          let high : length bs ≤ h = grind (arith, nat_tests, t) in
          let size = fork.shakes in
          let last : h ≡ run_shake (own_part f) = omega (arith, lt, high, size) in
          inl (ap (λ (k : ℕ). PartEnd k h) at ∙ ap (PartEnd d) last)

  -- each handshake of a part, and the part
  abbrev AreAll : ℕ → Part → Type 0
  AreAll q y = ((h : ℕ) → h < length (part_contacts y) → IsRun (PartEnd q h) ⊎ Covered (PartEnd q h)) × ((q ≡ d) ⊎ Counted q)

  housed_all : (q : ℕ) (y : Part) (s : Source) → slice_get r.parts q ≡ Some y → pl.source q ≡ s → IsOutsider (length ss) s → IsThere (length ss) ns env s
      → ((h : ℕ) → h < length (part_contacts y) → IsHoused s h) → IsHoused s 0 → AreAll q y
  housed_all q y s at from outside there each first = (
    (λ h lt. inr (housed_covered q h (subst (IsOutsider (length ss)) (sym from) outside) (subst (λ (z : Source). IsHoused z h) (sym from) (each h lt)))),
    inr (housed_counted q y at (subst (IsOutsider (length ss)) (sym from) outside) (subst (IsThere (length ss) ns env) (sym from) there)
        (subst (λ (z : Source). IsHoused z 0) (sym from) first)),
  )

  share_all : (q : ℕ) (y : Part) (k : ℕ) (t : Type') → slice_get r.parts q ≡ Some y → pl.source q ≡ Own k → y ≡ Share t
      → slice_get (shares ss types) k ≡ Some (Share t) → AreAll q y
  share_all q y k t at from is share =
      let lt = slice_get_within (shares ss types) k (Share t) share in
      let size = shares_length types ss in
      let below : k < length ss = omega (arith, lt, size) in
      let contacts : length (part_contacts y) ≡ count t + (count t + count t) = ap (λ (x : Part). length (part_contacts x)) is ∙ share_count t in
      let many = some_shake t in
      housed_all q y (Own k) at from below below (λ h less. share_housed k h t share (omega (arith, less, contacts)))
      (share_housed k 0 t share (omega (arith, many)))

  by_kind : (q : ℕ) (y : Part) (k : ℕ) → slice_get r.parts q ≡ Some y → pl.source q ≡ Own k → pl.own k ≡ q → IsOfFork types ss bs (own_part f) y k → AreAll q y
  by_kind q y k at from back (inl (s, is, share)) = share_all q y k (types s.of) at from is share
  by_kind q y k at from back (inr (inl (e, is))) =
      let here : q ≡ d = sym back ∙ ap pl.own e in
      let size : length (part_contacts y) ≡ suc (length bs) = ap (λ (x : Part). length (part_contacts x)) is ∙ fork.shakes in
      ((λ h lt. own_covered q h (from ∙ ap Own e) here (omega (arith, lt, size))), inl here)
  by_kind q y k at from back (inr (inr (p, x, lt, e))) = (
    (λ h less. inr (branch_covered q h p x lt (from ∙ ap Own e))),
    inr (branch_counted q y p x at lt (from ∙ ap Own e)),
  )

  by_source : (q : ℕ) (y : Part) (s : Source) → slice_get r.parts q ≡ Some y → pl.source q ≡ s → placed pl s ≡ q
      → IsFrom (parts_of types m) ns env y s → AreAll q y
  by_source q y (Own k) at from back listed =
      by_kind q y k at from back (of_fork types ss bs (own_part f) y k (subst (λ (ps : List Part). slice_get ps k ≡ Some y) fork.parts listed))
  by_source q y (Supplied n k) at from back (there, listed) =
      housed_all q y (Supplied n k) at from tt (there, slice_get_within (env n).plan.parts k y listed) (λ h lt. supply_housed n k h there)
      (supply_housed n k 0 there)

  part_all : (q : ℕ) (y : Part) → slice_get r.parts q ≡ Some y → AreAll q y
  part_all q y at = let (from, back) = wired.no_more q y at in by_source q y (pl.source q) at refl back from

  end_covered : (a : End) (k : Contact) → contact_at r a ≡ Some k → (a ≡ ResultEnd 0) ⊎ (IsRun a ⊎ Covered a)
  end_covered (PartEnd q h) k at =
      let (y, listed) = part_is_there (slice_get r.parts q) h k at in
      let there : slice_get (part_contacts y) h ≡ Some k = subst (λ (o : Option Part). slice_get (contacts_of_part o) h ≡ Some k) listed at in
      inr ((part_all q y listed).0 h (slice_get_within (part_contacts y) h k there))
  end_covered (ImportEnd q h) k at =
      let (x, listed) = import_is_there (slice_get r.imports q) h k at in
      let there = (wired.no_import q x listed).0 in
      let (p, alive) = live_number (pl.origin q).number there in
      let (y, back) = live_is_covered (child p) (pl.origin q).number (ImportEnd (pl.origin q).import h) alive in
      inr (inr (by_child p (ImportEnd q h) y back))
  end_covered (ResultEnd h) k at =
      let (c, there) = turned_some (slice_get (contacts_of r.outcome) h) k at in
      let lt = slice_get_within (contacts_of r.outcome) h c there in
      let one = one_contact r.outcome (subst IsDone (sym wired.outcome) fork.outcome) in
      let none : h ≡ 0 = omega (arith, lt, one) in
      inl (ap ResultEnd none)

  pub covering : AreCovering f i pl r d es
  covering = record { ends = end_covered; parts = λ q y at. (part_all q y at).1 }

pub branches_cover : BranchIsChild → BranchesCover
branches_cover children f types i j m ss bs ns env pl r es fork are supplied some wired cared =
    covering f types i j m ss bs ns env pl r es children fork are supplied some wired cared
