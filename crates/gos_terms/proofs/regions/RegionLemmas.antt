-- A side of a node of two parts is a region of its plan, asked by the own part of the node.
use Rattle.std.specs.Prelude.{◌≡◌, ℕ, suc, ◌+◌, ◌-◌, ◌<◌, Bool, true, false, List, [], Option, Some, None, slice_get, Contains}
use Rattle.std.proofs.Common.{refl, sym, ◌∙◌, ap, arith, inl}
use Rattle.std.proofs.lemmas.Option.{none-some}
use Rattle.gos_model.specs.Typing.{Imported}
use Rattle.gos_check.specs.Nodes.{Numbered}
use Rattle.gos_plan.specs.Kinds.{Part, asks, part_contacts}
use Rattle.gos_plan.specs.Plans as plans
use Rattle.gos_plan.specs.Plans.{End, PartEnd, ImportEnd, ResultEnd, Plan}
use Rattle.gos_realises.specs.realises.Realises.{NamesDiffer}
use Rattle.gos_realises.proofs.realises.PlaceLemmas.{contains_at, place_of}
use Rattle.gos_realises.proofs.realises.ToldLemmas.{there_is}
use Rattle.gos_joining.specs.webs.Webs.{Dot, Of, Within, Tie, joint}
use Rattle.gos_joining.specs.webs.Cutting.{Cut, lies_at}
use Rattle.gos_nodes.proofs.windows.PortLemmas.{stands_contact}
use Rattle.gos_nodes.proofs.nodes.PortLemmas.{among}
use Rattle.gos_nodes.specs.folds.Folds.{joined_cut, with_joints}
use Rattle.gos_nodes.proofs.folds.RegionLemmas.{folded_joint}
use Rattle.gos_nodes.specs.parallel.Parallel.{IsSide, IsJointOf}
use Rattle.gos_compile.specs.Wiring.{Types}
use Rattle.gos_terms.specs.wired.Wired.{Supplies, Source, Own, Supplied, Placing, source_dot, IsWired}
use Rattle.gos_terms.specs.regions.Frames.{KeepsImports}
use Rattle.gos_terms.proofs.regions.FrameLemmas.{Frame, kept, size, in_range, in_range_is, itself_true, part_held, back}
use Rattle.gos_terms.proofs.regions.ChildLemmas.{Sitting, port_of, child_placing, child_plan, number_of, number_if, its_cut, its_fold, its_web, whole_web, IsSitting, HasPorts}
use Rattle.gos_terms.proofs.regions.ChildLemmas as children
use Rattle.gos_terms.proofs.regions.FoldLemmas.{HasPlan, has_plan}
use Rattle.gos_terms.proofs.regions.CutLemmas.{region_is_cut}
use Rattle.gos_terms.proofs.regions.SideLemmas.{side_sitting, IsSideOf, is_sitting, has_ports, own_outside}

pub lies_joined : (f : Cut) (js : List plans.Joint) (e : End) → lies_at (joined_cut f js) e ≡ lies_at f e
lies_joined f js (PartEnd i h) = refl
lies_joined f js (ImportEnd i h) = refl
lies_joined f js (ResultEnd h) = refl

-- an import of the child leads to the node's own part, or to an import of the node
port_kept : (b : Bool) (own q h k n : ℕ) → port_of b own h (ImportEnd q h) ≡ ImportEnd k h → port_of b own n (ImportEnd q n) ≡ ImportEnd k n
port_kept true own q h k n at = absurd (cc at)
port_kept false own q h k n at = let same : q ≡ k = cc at in ap (λ (x : ℕ). ImportEnd x n) same

pub keeps_imports : (s : Sitting) (r : Plan) (js : List plans.Joint) → KeepsImports (joined_cut (its_cut s r) js)
keeps_imports s r js i h k n at =
    port_kept (s.frame.named ((child_placing s).origin i).number) (s.placing.own 0)
    (s.placing.import ((child_placing s).origin i).number ((child_placing s).origin i).import) h k n at

-- a source is the child's
abbrev pub IsIn : Frame → Source → Type 0
IsIn f (Own k) = in_range f.shift (size f) k ≡ true
IsIn f (Supplied n k) = kept f n ≡ true

pub in_number : (f : Frame) (pl : Placing) (x : Part) (o : Source) → IsIn f o → (k : ℕ) × (number_of f pl (Some x) o ≡ Some k)
in_number f pl x (Own k) e = (k - f.shift, ap (λ (b : Bool). number_if b (k - f.shift)) e)
in_number f pl x (Supplied n k) e = (pl.supplied n k, ap (λ (b : Bool). number_if b (pl.supplied n k)) e)

pub number_in : (f : Frame) (pl : Placing) (p : Option Part) (o : Source) (k : ℕ) → number_of f pl p o ≡ Some k → IsIn f o
number_in f pl None o k e = absurd (none-some k e)
number_in f pl (Some x) (Own a) k e = by_test (in_range f.shift (size f) a) e
  where
    by_test : (b : Bool) → number_if b (a - f.shift) ≡ Some k → b ≡ true
    by_test true e = refl
    by_test false e = absurd (none-some k e)
number_in f pl (Some x) (Supplied n a) k e = by_test (kept f n) e
  where
    by_test : (b : Bool) → number_if b (pl.supplied n a) ≡ Some k → b ≡ true
    by_test true e = refl
    by_test false e = absurd (none-some k e)

pub in_back : (f : Frame) → 0 < f.shift → (o : Source) (h : ℕ) → IsIn f o → (y : Dot) × (back f (source_dot f.first o h) ≡ Some y)
in_back f some (Own k) h e =
    let (low, high) = in_range_is f.shift (size f) k e in
    (Within 0 (Of (PartEnd (f.first + k) h)), part_held f some (f.first + k) h (omega (arith, low)) (omega (arith, high)))
in_back f some (Supplied n k) h e = (Within (suc n) (Of (PartEnd k h)), itself_true (kept f n) (Within (suc n) (Of (PartEnd k h))) e)

-- One side is a region that is asked.
module _
    (types : Types) (i asked shift l : ℕ) (m : Numbered) (ms : List ℕ) (other_asked other_shift k : ℕ) (o : Numbered) (ks : List ℕ)
    (j : ℕ) (whole : Numbered) (ns : List ℕ) (run : Tie) (env : Supplies) (pl : Placing)
    (of : IsSideOf types i asked shift l m ms other_asked other_shift k o ks j whole ns run)
    (r : Plan) (wired : IsWired types i j whole ns env pl r) (differ : NamesDiffer r.imports)
    (x : Part) (own : slice_get r.parts (pl.own 0) ≡ Some x) (source : pl.source (pl.own 0) ≡ Own 0)
    (asked_there : slice_get (part_contacts x) asked ≡ Some (asks 0 0)) where
  abbrev s : Sitting
  s = side_sitting types i asked shift l m ms j whole ns env pl

  abbrev sits : IsSitting s
  sits = is_sitting types i asked shift l m ms other_asked other_shift k o ks j whole ns run env pl of

  abbrev ports : HasPorts s r
  ports = has_ports types i asked shift l m ms other_asked other_shift k o ks j whole ns run env pl of r x own source asked_there

  pub side_plan : HasPlan s r sits ports wired
  side_plan = has_plan s r sits ports wired

  -- an import of the side is one of the whole
  pub record ImportIn (a : ℕ) (y : Imported) : Type 0 where
    pub number : ℕ
    pub import : ℕ
    pub has : Contains ms number
    pub at : slice_get r.imports (pl.import number import) ≡ Some y
    pub origin : pl.origin (pl.import number import) ≡ record { number = number; import = import }

  pub import_in : (a : ℕ) (y : Imported) → slice_get (child_plan s).imports a ≡ Some y → ImportIn a y
  import_in a y e =
      let there = children.its_import s r sits ports wired a y e refl in
      record {
        number = ((child_placing s).origin a).number;
        import = ((child_placing s).origin a).import;
        has = there.own;
        at = there.at;
        origin = there.from;
      }

  pub is_side : (h : HasPlan s r sits ports wired)
      → IsSide (pl.own 0) asked (joined_cut (its_cut s r) h.joints) r (with_joints (child_plan s) h.joints)
  is_side h =
      record {
        cut = region_is_cut (joined_cut (its_cut s r) h.joints) r (with_joints (child_plan s) h.joints) h.region;
        outcome = of.type;
        outside = own_outside types i asked shift l m ms other_asked other_shift k o ks j whole ns run env pl of r x own source asked_there;
        result = refl;
        imports =
            λ a g stands.
            let (con, at) = stands_contact (with_joints (child_plan s) h.joints) h.region.right (ImportEnd a g) stands in
            let (y, there) = there_is (child_plan s).imports a g con at in
            let one = children.its_import s r sits ports wired a y there refl in (
              pl.import ((child_placing s).origin a).number ((child_placing s).origin a).import,
              refl,
              there ∙ sym one.at,
            );
        among =
            among (child_plan s).imports r.imports differ
            (λ y has.
            (let (a, at) = place_of (child_plan s).imports y has in
            let one = import_in a y at in contains_at r.imports (pl.import one.number one.import) y one.at));
      }

  pub joint_of : (h : HasPlan s r sits ports wired) (a b : End) (y : Dot)
      → Contains r.joints (joint a b) → back s.frame ((whole_web s).at a) ≡ Some y
      → IsJointOf (joined_cut (its_cut s r) h.joints) (with_joints (child_plan s) h.joints) a b
  joint_of h a b y has stands =
      let (d, e, there, lies_d, lies_e) =
      folded_joint (its_fold s r) [] (whole_web s) (its_web s) r (with_joints (child_plan s) h.joints) a b y h.fold h.wired.web has (inl stands) in
      (d, e, there, lies_joined (its_cut s r) h.joints d ∙ lies_d, lies_joined (its_cut s r) h.joints e ∙ lies_e)
