-- The plans of a tree of instances, joined, realise what its terms make of the supplies: one serving after another.
use Rattle.std.specs.Prelude.{◌≡◌, ℕ, zero, suc, ◌+◌, List, [], ◌∷◌, ◌++◌, length, Option, Some, None, slice_get, if◌then◌else◌}
use Rattle.std.specs.Str.{bytes_eq}
use Rattle.std.proofs.Common.{refl, sym, ◌∙◌, ap, subst, arith, inl, inr}
use Rattle.gos_types.specs.Types.{Type'}
use Rattle.gos_types.proofs.ListLemmas.{found_behind}
use Rattle.gos_model.specs.Terms.{Name, Term}
use Rattle.gos_model.specs.Typing.{Imported}
use Rattle.gos_model.specs.Linking.{supplied}
use Rattle.gos_plan.specs.Kinds.{contacts_of}
use Rattle.gos_plan.specs.Plans.{End, ImportEnd, ResultEnd, Plan, IsRight}
use Rattle.gos_plan.specs.Joining.{Place, Link, Wiring, IsJoining}
use Rattle.gos_realises.specs.realises.Regular.{count}
use Rattle.gos_realises.specs.realises.Links.{StandsIn, IsJoined}
use Rattle.gos_realises.specs.realises.Wirings.{side}
use Rattle.gos_realises.specs.realises.Realises.{Realises}
use Rattle.gos_realises.specs.realises.Modules.{Supply, term_for, RealisesOpen}
use Rattle.gos_realises.proofs.joined.JoiningLemmas.{fitting_is_joined}
use Rattle.gos_joining.specs.unions.Flat.{flat, IsBare, LinkedPartsAreBare}
use Rattle.gos_joining.proofs.unions.FlatFitLemmas.{joined_is_flat}
use Rattle.gos_supplies.proofs.applications.SingleLemmas.{alone_joins}
use Rattle.gos_supplies.specs.instances.Served.{serving}
use Rattle.gos_supplies.specs.instances.Trees.{terms_of, term_among, RealisesBy, Tree, Alone, Serve, left_of, type_of, meaning, bound, wired, IsTree, TreeIsJoined, TreeIsRealised}
use Rattle.gos_supplies.proofs.instances.BoundLemmas.{bound_link, of_bound}
use Rattle.gos_supplies.proofs.instances.FitLemmas.{serving_fits}
use Rattle.gos_supplies.proofs.instances.TogetherLemmas.{served_leaves}
use Rattle.gos_supplies.proofs.instances.ByLemmas.{served_is_by}
use Rattle.gos_supplies.proofs.instances.SameLemmas.{joinings_same, same_by}

-- the term for a name, of the supplies and of their terms
among_same : (is : List Imported) (ss : List Supply) (x : Name) → term_for is ss x ≡ term_among is (terms_of ss) x
among_same [] ss x = refl
among_same (i ∷ is) [] x = refl
among_same (i ∷ is) (s ∷ ss) x = ap (λ (o : Option Term). if bytes_eq i.name x then Some s.term else o) (among_same is ss x)

open_by : (p : Plan) (m : Term) → RealisesOpen p m → RealisesBy p (meaning (Alone p m))
open_by p m realised ss r are of_r names =
    subst (λ (n : Term). Realises p.outcome r n) (λ i. supplied (λ x. among_same p.imports ss x i) m) (realised ss r are of_r names)

-- a plan alone
pub alone_joined : (p : Plan) → IsRight p → IsJoined (side 0 p.outcome p) p
alone_joined p right =
    record {
      fits =
          record {
            right = rights;
            each = λ k l at. absurd (cc at);
            once = λ j k l m a at also. absurd (cc at);
            left = λ h c there. (
              (let zeros : 0 + h ≡ h = omega arith in ap (λ (n : ℕ). slice_get (contacts_of p.outcome) n) zeros ∙ there),
              λ k l at. absurd (cc at),
            );
          };
      joining = alone_joins p right;
    }
  where
    rights : (k : ℕ) (u : Plan) → slice_get (p ∷ []) k ≡ Some u → IsRight u
    rights zero u at = let same : p ≡ u = cc at in subst IsRight same right
    rights (suc k) u at = absurd (cc at)

-- no part's end is linked
port_bare : (o : Option Wiring) (k h : ℕ) → IsBare o (ImportEnd k h)
port_bare None k h = tt
port_bare (Some v) k h = tt

result_bare : (o : Option Wiring) (h : ℕ) → IsBare o (ResultEnd h)
result_bare None h = tt
result_bare (Some v) h = tt

serving_bare : (k : ℕ) (x : Imported) (p q : Plan) (vs : List Wiring) → LinkedPartsAreBare (serving k x.ty p q) vs
serving_bare k x p q vs l a has stands = by_link (of_bound k 0 (count x.ty) l has) stands
  where
    by_link : (h : ℕ) × Rattle.std.specs.Prelude.◌<◌ h (0 + count x.ty) × (l ≡ bound_link k h) → StandsIn a l → IsBare (slice_get vs a.plan) a.end
    by_link (h, small, same) (inl e) =
        let at : a.end ≡ ImportEnd k h = ap (λ (b : Place). b.end) (e ∙ ap (λ (m : Link). m.one) same) in
        subst (λ (b : End). IsBare (slice_get vs a.plan) b) (sym at) (port_bare (slice_get vs a.plan) k h)
    by_link (h, small, same) (inr e) =
        let at : a.end ≡ ResultEnd h = ap (λ (b : Place). b.end) (e ∙ ap (λ (m : Link). m.other) same) in
        subst (λ (b : End). IsBare (slice_get vs a.plan) b) (sym at) (result_bare (slice_get vs a.plan) h)

-- a joining of a tree
pub record JoinedTree (t : Tree) : Type 0 where
  pub plan : Plan
  pub joined : IsJoined (wired t) plan
  pub imports : plan.imports ≡ left_of t
  pub outcome : plan.outcome ≡ type_of t

abbrev pub alone_tree : (p : Plan) (m : Term) → IsRight p → JoinedTree (Alone p m)
alone_tree p m right = record { plan = p; joined = alone_joined p right; imports = refl; outcome = refl }

-- one of a tree that serves an import of another, by joinings of both
pub record ServedTree (is js : List Imported) (x : Imported) (t u : Tree) (p q : Plan) : Type 0 where
  pub imports : p.imports ≡ is ++ (x ∷ js)
  pub served : slice_get p.imports (length is) ≡ Some x
  pub fitting : q.outcome ≡ x.ty
  pub tree : JoinedTree (Serve is js x t u)
  pub serves : IsJoined (serving (length is) x.ty p q) tree.plan

pub serve_tree : (is js : List Imported) (x : Imported) (t u : Tree) (of_t : JoinedTree t) (of_u : JoinedTree u)
    → left_of t ≡ is ++ (x ∷ js) → type_of u ≡ x.ty → ServedTree is js x t u of_t.plan of_u.plan
serve_tree is js x t u of_t of_u lefts types =
    let p : Plan = of_t.plan in
    let q : Plan = of_u.plan in
    let imports : p.imports ≡ is ++ (x ∷ js) = of_t.imports ∙ lefts in
    let type_q : q.outcome ≡ x.ty = of_u.outcome ∙ types in
    let zeros : length is ≡ length is + 0 = omega arith in
    let at_k : slice_get p.imports (length is) ≡ Some x = (λ l. slice_get (imports l) (zeros l)) ∙ found_behind is (x ∷ js) 0 in
    let (s, of_s) =
    fitting_is_joined (serving (length is) x.ty p q) (serving_fits (length is) x p q of_t.joined.joining.right of_u.joined.joining.right at_k type_q)
    in
    let flat_joined =
    joined_is_flat (serving (length is) x.ty p q) (wired t ∷ wired u ∷ []) s (of_t.joined, (of_u.joined, tt))
    (serving_bare (length is) x p q (wired t ∷ wired u ∷ [])) of_s
    in
    record {
      imports = imports;
      served = at_k;
      fitting = type_q;
      tree =
          record {
            plan = s;
            joined = subst (λ (o : Type'). IsJoined (flat (bound (length is) x o) (wired t ∷ wired u ∷ [])) s) of_t.outcome flat_joined;
            imports = served_leaves is js x p q s imports of_s ∙ ap (λ (l : List Imported). (is ++ js) ++ l) of_u.imports;
            outcome = of_s.joining.outcome ∙ of_t.outcome;
          };
      serves = of_s;
    }

-- one that does what the tree means
record Holds (t : Tree) : Type 0 where
  tree : JoinedTree t
  by : RealisesBy tree.plan (meaning t)

serve_holds : (is js : List Imported) (x : Imported) (t u : Tree) → Holds t → Holds u → left_of t ≡ is ++ (x ∷ js) → type_of u ≡ x.ty → Holds (Serve is js x t u)
serve_holds is js x t u of_t of_u lefts types =
    let whole = serve_tree is js x t u of_t.tree of_u.tree lefts types in
    record {
      tree = whole.tree;
      by =
          served_is_by is js x of_t.tree.plan of_u.tree.plan whole.tree.plan (meaning t) (meaning u) whole.imports whole.fitting
          whole.serves of_t.by of_u.by;
    }

tree_holds : (t : Tree) → IsTree t → Holds t
tree_holds (Alone p m) (right, realised) = record { tree = alone_tree p m right; by = open_by p m realised }
tree_holds (Serve is js x t u) (of_t, of_u, lefts, types) = serve_holds is js x t u (tree_holds t of_t) (tree_holds u of_u) lefts types

pub tree_is_joined : TreeIsJoined
tree_is_joined t is = let there = (tree_holds t is).tree in (there.plan, there.joined)

pub tree_is_realised : TreeIsRealised
tree_is_realised t r is joining =
    let there = tree_holds t is in
    let whole = there.tree in
    same_by r whole.plan (joinings_same (wired t) r whole.plan joining whole.joined.joining) joining.right whole.joined.joining.right (meaning t) there.by

pub tree_imports : (t : Tree) (r : Plan) → IsTree t → IsJoining (wired t) r → r.imports ≡ left_of t
tree_imports t r is joining = let there = (tree_holds t is).tree in joining.imports ∙ (sym there.joined.joining.imports ∙ there.imports)
