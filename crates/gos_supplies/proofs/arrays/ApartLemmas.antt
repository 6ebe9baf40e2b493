-- The ends of an access' own plan and of the plan of its index are apart in the whole, and so are those of each.
use Rattle.std.specs.Prelude.{◌≡◌, ◌⊎◌, ℕ, zero, suc, List, Option, Some, None, slice_get}
use Rattle.std.proofs.Common.{refl, sym, ◌∙◌, ap, subst, inl, inr}
use Rattle.std.proofs.lemmas.Option.{none-some, same_Some}
use Rattle.gos_types.specs.Types.{Type'}
use Rattle.gos_model.specs.Terms.{Name}
use Rattle.gos_model.specs.Typing.{Imported}
use Rattle.gos_plan.specs.Kinds.{Part, contacts_of}
use Rattle.gos_plan.specs.Plans.{End, PartEnd, ImportEnd, ResultEnd, Plan, contacts_of_import, turned_if}
use Rattle.gos_plan.specs.Tokens.{IsPortEnd, places_of}
use Rattle.gos_plan.proofs.JointLemmas.{found, listed, contained, has_place}
use Rattle.gos_joining.specs.webs.Cutting.{Cut, lies_at, StandsIn}
use Rattle.gos_supplies.specs.arrays.Made.{IsAccess}
use Rattle.gos_supplies.proofs.arrays.ElementLemmas.{own_name, index_name, own_named, index_named, apart, side_of}
use Rattle.gos_supplies.proofs.arrays.OrderLemmas.{There, IsSideOf}

part_no_port : (e : End) (k h : ℕ) → IsPortEnd e → PartEnd k h ≡ e → ⊥
part_no_port e k h port same = subst IsPortEnd (sym same) port

standing : (c : Plan) (e : End) → StandsIn c e → places_of c e ≡ None → ⊥
standing c e (j, has, stands) none = has_place c.joints j e (contained c.joints j has) stands none

module _ (i w : ℕ) (x : Name) (f g : Cut) (r p q : Plan) (is : IsAccess i w x f g r p q) where
  -- the names of ports that there are
  own_known : (d : End) → IsPortEnd d → There p d → own_name (lies_at f d) ≡ Some d
  own_known (PartEnd k h) port there = absurd port
  own_known (ImportEnd zero h) port there = ap own_name (is.accesses 0 h)
  own_known (ImportEnd (suc k) h) port (c, at) =
      absurd (none-some c (sym (ap (λ (us : List Imported). slice_get (contacts_of_import (slice_get us (suc k))) h) is.variable) ∙ at))
  own_known (ResultEnd h) port there = ap own_name (is.result h)

  index_known : (d : End) → IsPortEnd d → There q d → index_name (lies_at g d) ≡ Some d
  index_known (PartEnd k h) port there = absurd port
  index_known (ImportEnd k h) port there = ap index_name (is.others k h)
  index_known (ResultEnd zero) port there = ap index_name (is.asked 0)
  index_known (ResultEnd (suc h)) port (c, at) =
      absurd (none-some c (sym (ap (λ (t : Type'). turned_if (slice_get (contacts_of t) (suc h))) is.number) ∙ at))

  own_port : (d : End) → IsPortEnd d → IsPortEnd (lies_at f d)
  own_port (PartEnd k h) port = absurd port
  own_port (ImportEnd k h) port = subst IsPortEnd (sym (is.accesses k h)) tt
  own_port (ResultEnd h) port = subst IsPortEnd (sym (is.result h)) tt

  index_port : (d : End) → IsPortEnd d → IsPortEnd (lies_at g d)
  index_port (PartEnd k h) port = absurd port
  index_port (ImportEnd k h) port = subst IsPortEnd (sym (is.others k h)) tt
  index_port (ResultEnd h) port = subst IsPortEnd (sym (is.asked h)) tt

  numbers_of : (k h l m : ℕ) → PartEnd k h ≡ PartEnd l m → (k ≡ l) × (h ≡ m)
  numbers_of k h l m e = (cc e, cc e)

  one_port : (name : End → Option End) (a b d e : End) → name a ≡ Some d → name b ≡ Some e → a ≡ b → d ≡ e
  one_port name a b d e one other same = same_Some d e (sym one ∙ (ap name same ∙ other))

  -- ends of one side are apart
  own_one : (d e : End) → There p d → There p e → lies_at f d ≡ lies_at f e → d ≡ e
  own_one (PartEnd k h) (PartEnd l m) (u, there) (v, also) same =
      let both = numbers_of (f.part k) h (f.part l) m same in
      let number : k ≡ l = same_Some k l (sym (is.own.parts k u there).1 ∙ (ap f.number both.0 ∙ (is.own.parts l v also).1)) in
      λ z. PartEnd (number z) (both.1 z)
  own_one (PartEnd k h) (ImportEnd l m) there also same = absurd (part_no_port (lies_at f (ImportEnd l m)) (f.part k) h (own_port (ImportEnd l m) tt) same)
  own_one (PartEnd k h) (ResultEnd m) there also same = absurd (part_no_port (lies_at f (ResultEnd m)) (f.part k) h (own_port (ResultEnd m) tt) same)
  own_one (ImportEnd k h) (PartEnd l m) there also same = absurd (part_no_port (lies_at f (ImportEnd k h)) (f.part l) m (own_port (ImportEnd k h) tt) (sym same))
  own_one (ResultEnd h) (PartEnd l m) there also same = absurd (part_no_port (lies_at f (ResultEnd h)) (f.part l) m (own_port (ResultEnd h) tt) (sym same))
  own_one (ImportEnd k h) (ImportEnd l m) there also same =
      one_port own_name (lies_at f (ImportEnd k h)) (lies_at f (ImportEnd l m)) (ImportEnd k h) (ImportEnd l m) (own_known (ImportEnd k h) tt there) (own_known (ImportEnd l m) tt also) same
  own_one (ImportEnd k h) (ResultEnd m) there also same =
      one_port own_name (lies_at f (ImportEnd k h)) (lies_at f (ResultEnd m)) (ImportEnd k h) (ResultEnd m) (own_known (ImportEnd k h) tt there) (own_known (ResultEnd m) tt also) same
  own_one (ResultEnd h) (ImportEnd l m) there also same =
      one_port own_name (lies_at f (ResultEnd h)) (lies_at f (ImportEnd l m)) (ResultEnd h) (ImportEnd l m) (own_known (ResultEnd h) tt there) (own_known (ImportEnd l m) tt also) same
  own_one (ResultEnd h) (ResultEnd m) there also same =
      one_port own_name (lies_at f (ResultEnd h)) (lies_at f (ResultEnd m)) (ResultEnd h) (ResultEnd m) (own_known (ResultEnd h) tt there) (own_known (ResultEnd m) tt also) same

  index_one : (d e : End) → There q d → There q e → lies_at g d ≡ lies_at g e → d ≡ e
  index_one (PartEnd k h) (PartEnd l m) (u, there) (v, also) same =
      let both = numbers_of (g.part k) h (g.part l) m same in
      let number : k ≡ l = same_Some k l (sym (is.index.parts k u there).1 ∙ (ap g.number both.0 ∙ (is.index.parts l v also).1)) in
      λ z. PartEnd (number z) (both.1 z)
  index_one (PartEnd k h) (ImportEnd l m) there also same = absurd (part_no_port (lies_at g (ImportEnd l m)) (g.part k) h (index_port (ImportEnd l m) tt) same)
  index_one (PartEnd k h) (ResultEnd m) there also same = absurd (part_no_port (lies_at g (ResultEnd m)) (g.part k) h (index_port (ResultEnd m) tt) same)
  index_one (ImportEnd k h) (PartEnd l m) there also same = absurd (part_no_port (lies_at g (ImportEnd k h)) (g.part l) m (index_port (ImportEnd k h) tt) (sym same))
  index_one (ResultEnd h) (PartEnd l m) there also same = absurd (part_no_port (lies_at g (ResultEnd h)) (g.part l) m (index_port (ResultEnd h) tt) (sym same))
  index_one (ImportEnd k h) (ImportEnd l m) there also same =
      one_port index_name (lies_at g (ImportEnd k h)) (lies_at g (ImportEnd l m)) (ImportEnd k h) (ImportEnd l m) (index_known (ImportEnd k h) tt there) (index_known (ImportEnd l m) tt also) same
  index_one (ImportEnd k h) (ResultEnd m) there also same =
      one_port index_name (lies_at g (ImportEnd k h)) (lies_at g (ResultEnd m)) (ImportEnd k h) (ResultEnd m) (index_known (ImportEnd k h) tt there) (index_known (ResultEnd m) tt also) same
  index_one (ResultEnd h) (ImportEnd l m) there also same =
      one_port index_name (lies_at g (ResultEnd h)) (lies_at g (ImportEnd l m)) (ResultEnd h) (ImportEnd l m) (index_known (ResultEnd h) tt there) (index_known (ImportEnd l m) tt also) same
  index_one (ResultEnd h) (ResultEnd m) there also same =
      one_port index_name (lies_at g (ResultEnd h)) (lies_at g (ResultEnd m)) (ResultEnd h) (ResultEnd m) (index_known (ResultEnd h) tt there) (index_known (ResultEnd m) tt also) same

  -- and ends of two
  ports_apart : (d e : End) → IsPortEnd d → IsPortEnd e → There p d → There q e → lies_at f d ≡ lies_at g e → ⊥
  ports_apart d e port also there too same =
      apart i w x f g r p q is (lies_at f d) d e (own_known d port there) (ap index_name same ∙ index_known e also too)

  parts_apart : (k l h m : ℕ) (u v : Part) → slice_get p.parts k ≡ Some u → slice_get q.parts l ≡ Some v → PartEnd (f.part k) h ≡ PartEnd (g.part l) m → ⊥
  parts_apart k l h m u v there also same = by_part (is.parts (f.part k) u (is.own.parts k u there).0)
    where
      one : f.part k ≡ g.part l
      one = (numbers_of (f.part k) h (g.part l) m same).0

      by_part : ((j : ℕ) × (f.number (f.part k) ≡ Some j) × (g.number (f.part k) ≡ None)) ⊎ ((j : ℕ) × (g.number (f.part k) ≡ Some j) × (f.number (f.part k) ≡ None)) → ⊥
      by_part (inl (j, number, none)) = none-some l (sym none ∙ (ap g.number one ∙ (is.index.parts l v also).1))
      by_part (inr (j, number, none)) = none-some k (sym none ∙ (is.own.parts k u there).1)

  pub sides_apart : (d e : End) → There p d → There q e → lies_at f d ≡ lies_at g e → ⊥
  sides_apart (PartEnd k h) (PartEnd l m) (u, there) (v, also) same = parts_apart k l h m u v there also same
  sides_apart (PartEnd k h) (ImportEnd l m) there also same = part_no_port (lies_at g (ImportEnd l m)) (f.part k) h (index_port (ImportEnd l m) tt) same
  sides_apart (PartEnd k h) (ResultEnd m) there also same = part_no_port (lies_at g (ResultEnd m)) (f.part k) h (index_port (ResultEnd m) tt) same
  sides_apart (ImportEnd k h) (PartEnd l m) there also same = part_no_port (lies_at f (ImportEnd k h)) (g.part l) m (own_port (ImportEnd k h) tt) (sym same)
  sides_apart (ResultEnd h) (PartEnd l m) there also same = part_no_port (lies_at f (ResultEnd h)) (g.part l) m (own_port (ResultEnd h) tt) (sym same)
  sides_apart (ImportEnd k h) (ImportEnd l m) there also same = ports_apart (ImportEnd k h) (ImportEnd l m) tt tt there also same
  sides_apart (ImportEnd k h) (ResultEnd m) there also same = ports_apart (ImportEnd k h) (ResultEnd m) tt tt there also same
  sides_apart (ResultEnd h) (ImportEnd l m) there also same = ports_apart (ResultEnd h) (ImportEnd l m) tt tt there also same
  sides_apart (ResultEnd h) (ResultEnd m) there also same = ports_apart (ResultEnd h) (ResultEnd m) tt tt there also same

  -- a port without a joint has none in the whole
  own_unjoined : (d : End) → IsPortEnd d → There p d → places_of p d ≡ None → places_of r (lies_at f d) ≡ None
  own_unjoined d port there none = by_place (places_of r (lies_at f d)) refl
    where
      by_place : (o : Option End) → places_of r (lies_at f d) ≡ o → o ≡ None
      by_place None at = refl
      by_place (Some a) at = (let j = found r.joints (lies_at f d) a at in
          absurd (by_side (side_of i w x f g r p q is (lies_at f d) (own_port d port) (j.joint, listed r.joints j.joint j.is_in, j.stands))))
        where
          by_side : ((e : End) × (f.inner (lies_at f d) ≡ Some e)) ⊎ ((e : End) × (g.inner (lies_at f d) ≡ Some e)) → ⊥
          by_side (inl (e, inner)) =
              let same : e ≡ d = same_Some e d (sym (own_named i w x f g r p q is (lies_at f d) e inner) ∙ own_known d port there) in
              standing p d (subst (StandsIn p) same (is.own.inners (lies_at f d) e inner).1) none
          by_side (inr (e, inner)) = apart i w x f g r p q is (lies_at f d) d e (own_known d port there) (index_named i w x f g r p q is (lies_at f d) e inner)

  index_unjoined : (d : End) → IsPortEnd d → There q d → places_of q d ≡ None → places_of r (lies_at g d) ≡ None
  index_unjoined d port there none = by_place (places_of r (lies_at g d)) refl
    where
      by_place : (o : Option End) → places_of r (lies_at g d) ≡ o → o ≡ None
      by_place None at = refl
      by_place (Some a) at = (let j = found r.joints (lies_at g d) a at in
          absurd (by_side (side_of i w x f g r p q is (lies_at g d) (index_port d port) (j.joint, listed r.joints j.joint j.is_in, j.stands))))
        where
          by_side : ((e : End) × (f.inner (lies_at g d) ≡ Some e)) ⊎ ((e : End) × (g.inner (lies_at g d) ≡ Some e)) → ⊥
          by_side (inl (e, inner)) = apart i w x f g r p q is (lies_at g d) e d (own_named i w x f g r p q is (lies_at g d) e inner) (index_known d port there)
          by_side (inr (e, inner)) =
              let same : e ≡ d = same_Some e d (sym (index_named i w x f g r p q is (lies_at g d) e inner) ∙ index_known d port there) in
              standing q d (subst (StandsIn q) same (is.index.inners (lies_at g d) e inner).1) none

  pub own_is_side : IsSideOf f r p
  own_is_side = record { cut = is.own; one = own_one; unjoined = own_unjoined }

  pub index_is_side : IsSideOf g r q
  index_is_side = record { cut = is.index; one = index_one; unjoined = index_unjoined }

  pub apart_back : (d e : End) → There q d → There p e → lies_at g d ≡ lies_at f e → ⊥
  apart_back d e there also same = sides_apart e d also there (sym same)
