-- A build whose lines pass a test has no fault of linking, whatever its plans are but for their imports, results and weights.
--
-- The root is the first instance and gives a command, and one import is left: a command of the root's, of another name.
use Rattle.std.proofs.Common.{◌≡◌, ◌≢◌, inl, inr, ℕ, ◌<◌, ◌≤◌, zero, suc, true, false, true≢false, nat_lt, List, [], ◌∷◌, length, map, Some, None, slice_get, sym, ◌∙◌, ap, subst, arith}
use Rattle.std.specs.Prelude.{codes}
use Rattle.std.specs.Str.{bytes_eq}
use Rattle.std.proofs.lemmas.Slice.Eq.{bytes_eq-Decides}
use Rattle.std.proofs.lemmas.List.{length-map}
use Rattle.gos_types.specs.Types.{Type', Com, IsGround, IsDone}
use Rattle.gos_lex.specs.Lines.{Word}
use Rattle.gos_model.specs.Typing.{Imported}
use Rattle.gos_plan.specs.Plans.{Plan}
use Rattle.gos_plan.specs.Seen.{SeenPlan}
use Rattle.gos_plan.specs.Size.{shakes_of, numbers_of, plan_size}
use Rattle.gos_plan.specs.Joining.{Link, LeftImport, left_among, all_left, all_parts, all_weight, IsJoining}
use Rattle.gos_link.specs.declared.build.Instance.{Instance}
use Rattle.gos_link.specs.declared.build.Bind.{Bind}
use Rattle.gos_link.specs.declared.build.Build.{Build}
use Rattle.gos_link.specs.declared.services.Service.{Service}
use Rattle.gos_link.specs.declared.fault.LinkFault.{LinkFault}
use Rattle.gos_link.specs.declared.fault.LinkFault.TheVariants as faults
use Rattle.gos_link.specs.Services.{instance_named, BindsOn}
use Rattle.gos_link.specs.Linked.{links_of, plans_of, whole_of, outcome_of, Port, port_of, IsSecond, IsFirstHigher, first_unplaced, IsPlaced, count_ports, IsLinked, IsWrongWhole, IsUnlinked}
use Rattle.gos_link.specs.Answers.{JointsAreFew}
use Rattle.gos_tool.proofs.lemmas.demo.TestLemmas.{less_by, some_none}
use Rattle.gos_tool.proofs.lemmas.demo.SortLemmas.{Sort, AreOf, bare_plans, same_links, same_left, same_outcome, same_weight, each_right, few_parts, few_joints}
use Rattle.gos_tool.proofs.lemmas.demo.BindLemmas.{binds, binds_by, binds_once}

-- the import that is left
abbrev pub command_c : Imported
command_c = record { name = codes "c"; ty = Com }

abbrev pub left_c : LeftImport
left_c = record { plan = 0; number = 1; import = command_c }

-- the test of a build
pub record IsLinkable (is : List Instance) (bs : List Bind) (root : Word) (ss : List Sort) (services : List Service) : Type 0 where
  pub lines : binds is ss [] bs services ≡ true
  pub finds_root : instance_named is root ≡ Some 0
  pub other_name : bytes_eq root (codes "c") ≡ false
  pub placed : first_unplaced 0 services 0 is ≡ None
  pub left : left_among (links_of (bare_plans ss) services) 0 (bare_plans ss) ≡ left_c ∷ []
  pub done : outcome_of (slice_get (bare_plans ss) 0) ≡ Com
  pub light : nat_lt (all_weight (bare_plans ss)) 32769 ≡ true

names_differ : (a b : Word) → bytes_eq a b ≡ false → a ≢ b
names_differ a b e same = true≢false (sym ((bytes_eq-Decides a b).1 same) ∙ e)

-- of two ports with different names none is the second of its name
not_second : (p q one other : Port) → p.name ≢ q.name → IsSecond (p ∷ q ∷ []) one other → ⊥
not_second p q one other differ second = by second.first second.second second.before second.at_first second.at_second
  where
    by : (i j : ℕ) → i < j → slice_get (p ∷ q ∷ []) i ≡ Some one → slice_get (p ∷ q ∷ []) j ≡ Some other → ⊥
    by i zero low at_first at_second = omega (arith, low)
    by zero (suc zero) low at_first at_second =
        let first : p ≡ one = cc at_first in
        let last : q ≡ other = cc at_second in
        differ (ap (λ (r : Port). r.name) first ∙ (second.same ∙ ap (λ (r : Port). r.name) (sym last)))
    by (suc i) (suc zero) low at_first at_second = omega (arith, low)
    by i (suc (suc j)) low at_first at_second = absurd (cc at_second)

-- of one import that is ground none is higher
not_higher : (l m : LeftImport) → IsGround l.import.ty → IsFirstHigher (l ∷ []) m → ⊥
not_higher l m ground first = by first.number first.at
  where
    by : (i : ℕ) → slice_get (l ∷ []) i ≡ Some m → ⊥
    by zero at = let same : l ≡ m = cc at in first.higher (subst (λ (n : LeftImport). IsGround n.import.ty) same ground)
    by (suc i) at = absurd (cc at)

module _ (few_of : JointsAreFew) (b : Build) (ps : List SeenPlan) (ss : List Sort) (services : List Service)
    (able : IsLinkable b.instances.items b.binds.items b.root ss services) (are : AreOf ps ss) (each : length ps ≡ length b.instances.items) where
  left_is : (root : ℕ) → all_left (whole_of ps services root) ≡ left_c ∷ []
  left_is root =
      ap (λ (ls : List Link). left_among ls 0 (plans_of ps)) (same_links ps ss services are)
      ∙ (same_left (links_of (bare_plans ss) services) 0 ps ss are ∙ able.left)

  is_root : (root : ℕ) → instance_named b.instances.items b.root ≡ Some root → root ≡ 0
  is_root root finds = let h : Some root ≡ Some 0 = sym finds ∙ able.finds_root in cc h

  is_done : (root : ℕ) → root ≡ 0 → IsDone (outcome_of (slice_get (plans_of ps) root))
  is_done root first =
      let is : outcome_of (slice_get (plans_of ps) root) ≡ Com =
      ap (λ (k : ℕ). outcome_of (slice_get (plans_of ps) k)) first ∙ (same_outcome ps ss 0 are ∙ able.done) in
      subst (λ (t : Type'). IsDone t) (sym is) tt

  weight_is : all_weight (plans_of ps) ≤ 32768
  weight_is =
      let same = same_weight ps ss are in
      let light = less_by _ _ able.light in
      omega (arith, same, light)

  right_lines : BindsOn b.instances.items ps [] b.binds.items services None
  right_lines = binds_by b.instances.items ps ss [] b.binds.items services are tt able.lines

  -- the whole is small
  size_is : (root : ℕ) (p : Plan) → IsPlaced b services root → IsJoining (whole_of ps services root) p → (plan_size p ≤ 5000000) × (count_ports p ≤ 65536)
  size_is root p placed joining =
      let heavy = weight_is in
      let parts = few_parts ps ss are in
      let joints = few_of b ps services root p (record { each = each; right = each_right ps ss are }) right_lines placed joining in
      let all = few_joints ps ss are in
      let one : length p.imports ≡ 1 =
      ap length joining.imports ∙ (length-map (all_left (whole_of ps services root)) (λ (l : LeftImport). l.import) ∙ ap length (left_is root)) in
      let of_parts : length p.parts ≡ length (all_parts (plans_of ps)) = ap length joining.parts in
      let of_shakes : shakes_of p.parts ≡ shakes_of (all_parts (plans_of ps)) = ap shakes_of joining.parts in
      let of_numbers : numbers_of p.parts ≡ numbers_of (all_parts (plans_of ps)) = ap numbers_of joining.parts in
      (omega (arith, heavy, parts, joints, all, one, of_parts, of_shakes, of_numbers), omega (arith, one))

  whole_is_right : (fault : LinkFault) → IsWrongWhole b ps services fault → ⊥
  whole_is_right (faults.NoInstance line name) (same, is_name, none) = some_none _ 0 able.finds_root none
  whole_is_right (faults.Unplaced name) (root, finds, unplaced) =
      some_none (first_unplaced root services 0 b.instances.items) name unplaced
      (ap (λ (k : ℕ). first_unplaced k services 0 b.instances.items) (is_root root finds) ∙ able.placed)
  whole_is_right (faults.OpenTwice name first second) (root, one, other, placed, twice, is_name, is_first, is_second) =
      let main : Port = record { name = b.root; instance = b.root } in
      not_second main (port_of b.instances.items left_c) one other (names_differ b.root (codes "c") able.other_name)
      (subst (λ (ls : List LeftImport). IsSecond (main ∷ map (port_of b.instances.items) ls) one other) (left_is root) twice)
  whole_is_right (faults.NotGround name) (root, named, inl (higher, is_name)) = higher (is_done root (is_root root named.placed.finds_root))
  whole_is_right (faults.NotGround name) (root, named, inr (done, l, first, is_name)) =
      not_higher left_c l tt (subst (λ (ls : List LeftImport). IsFirstHigher ls l) (left_is root) first)
  whole_is_right (faults.TooHeavy weight) (root, grounded, is, heavy) = let light = weight_is in omega (arith, light, is, heavy)
  whole_is_right (faults.TooLarge size ports) (root, p, light, joining, is_size, is_ports, inl large) =
      let small = size_is root p light.grounded.named.placed joining in let most = small.0 in omega (arith, most, is_size, large)
  whole_is_right (faults.TooLarge size ports) (root, p, light, joining, is_size, is_ports, inr large) =
      let small = size_is root p light.grounded.named.placed joining in let most = small.1 in omega (arith, most, is_ports, large)
  whole_is_right (faults.Form line) wrong = wrong
  whole_is_right (faults.NoImport line name) wrong = wrong
  whole_is_right (faults.TypeDiffers line want got) wrong = wrong
  whole_is_right (faults.BoundTwice first second) wrong = wrong
  whole_is_right (faults.UsedTwice first second) wrong = wrong
  whole_is_right (faults.Loop line) wrong = wrong
  whole_is_right faults.NoMemory wrong = wrong

  pub not_unlinked : (fault : LinkFault) → IsUnlinked b ps fault → ⊥
  not_unlinked fault (inl (ts, wrong)) =
      let same : Some fault ≡ None = (binds_once b.instances.items ps [] b.binds.items services ts (Some fault) right_lines wrong).1 in
      absurd (cc same)
  not_unlinked fault (inr (ts, right, wrong)) =
      let same : services ≡ ts = (binds_once b.instances.items ps [] b.binds.items services ts None right_lines right).0 in
      whole_is_right fault (subst (λ (us : List Service). IsWrongWhole b ps us fault) (sym same) wrong)

  -- the linked plan gives a command, and is left with a command to be given
  pub linked_ports : (p : Plan) → IsLinked b ps p → (p.outcome ≡ Com) × (p.imports ≡ command_c ∷ [])
  linked_ports p linked =
      let same : services ≡ linked.services = (binds_once b.instances.items ps [] b.binds.items services linked.services None right_lines linked.binds).0 in
      let first = is_root linked.root linked.light.grounded.named.placed.finds_root in
      let joining : IsJoining (whole_of ps services linked.root) p =
      subst (λ (us : List Service). IsJoining (whole_of ps us linked.root) p) (sym same) linked.joining in (
        joining.outcome ∙ (ap (λ (k : ℕ). outcome_of (slice_get (plans_of ps) k)) first ∙ (same_outcome ps ss 0 are ∙ able.done)),
        joining.imports ∙ ap (λ (ls : List LeftImport). map (λ l. l.import) ls) (left_is linked.root),
      )
