-- A plan without imports, joined to no supplies, is itself.
use Rattle.std.specs.Prelude.{◌≡◌, List, [], ◌∷◌, Option, None, Contains, slice_get}
use Rattle.std.proofs.Common.{refl, sym, ◌∙◌, ap, subst}
use Rattle.gos_types.specs.Types.{Type'}
use Rattle.gos_model.specs.Terms.{Name, Term, Skip, Lit, Bound, Import, Lam, App, Both, Fst, Snd, Seq, Par, If, While, Assign, Deref, New, NewArray, Not, Bin, Loc, Arr, Scope, Wait, Held, Put}
use Rattle.gos_model.specs.Typing.{Imported}
use Rattle.gos_model.specs.Linking.{or_import, supplied}
use Rattle.gos_plan.specs.Kinds.{Part, contacts_of}
use Rattle.gos_plan.specs.Plans.{End, PartEnd, ImportEnd, ResultEnd, Plan, contact_at, contacts_of_part, contacts_of_import, turned_if, IsRight}
use Rattle.gos_plan.specs.Joining.{Wiring, IsJoining}
use Rattle.gos_realises.specs.realises.Realises.{Realises}
use Rattle.gos_realises.specs.realises.Modules.{RealisesOpen}
use Rattle.gos_realises.specs.realises.Wirings.{side}
use Rattle.gos_joining.specs.webs.Webs.{joint}
use Rattle.gos_joining.specs.webs.Renumbering.{moved_end, IsRenumbered}
use Rattle.gos_joining.specs.renumbered.SmallRewirings.{unchanged}
use Rattle.gos_joining.proofs.renumbered.HigherLemmas.{unchanged_end, unchanged_one, renumbered_is_realised}
use Rattle.gos_supplies.proofs.applications.SingleLemmas.{alone_joins}
use Rattle.gos_supplies.specs.literals.Literals.{ClosedIsOpen}

-- with nothing put in a term is itself
module _ (f : Name → Option Term) (none : (x : Name) → f x ≡ None) where
  pub nothing_put : (m : Term) → supplied f m ≡ m
  nothing_put Skip = refl
  nothing_put (Lit k w) = refl
  nothing_put (Bound n) = refl
  nothing_put (Import x) = ap (or_import x) (none x)
  nothing_put (Lam a m) = ap (Lam a) (nothing_put m)
  nothing_put (App m n) = let one = nothing_put m in let two = nothing_put n in λ i. App (one i) (two i)
  nothing_put (Both m n) = let one = nothing_put m in let two = nothing_put n in λ i. Both (one i) (two i)
  nothing_put (Fst m) = ap Fst (nothing_put m)
  nothing_put (Snd m) = ap Snd (nothing_put m)
  nothing_put (Seq m n) = let one = nothing_put m in let two = nothing_put n in λ i. Seq (one i) (two i)
  nothing_put (Par m n) = let one = nothing_put m in let two = nothing_put n in λ i. Par (one i) (two i)
  nothing_put (If m n p) =
      let one = nothing_put m in let two = nothing_put n in let three = nothing_put p in λ i. If (one i) (two i) (three i)
  nothing_put (While m n) = let one = nothing_put m in let two = nothing_put n in λ i. While (one i) (two i)
  nothing_put (Assign m n) = let one = nothing_put m in let two = nothing_put n in λ i. Assign (one i) (two i)
  nothing_put (Deref m) = ap Deref (nothing_put m)
  nothing_put (New w m) = ap (New w) (nothing_put m)
  nothing_put (NewArray n w m) = ap (NewArray n w) (nothing_put m)
  nothing_put (Not m) = ap Not (nothing_put m)
  nothing_put (Bin op m n) = let one = nothing_put m in let two = nothing_put n in λ i. Bin op (one i) (two i)
  nothing_put (Loc l) = refl
  nothing_put (Arr l) = refl
  nothing_put (Scope l m) = ap (Scope l) (nothing_put m)
  nothing_put (Wait x s) = refl
  nothing_put (Held k op n) = ap (Held k op) (nothing_put n)
  nothing_put (Put m k) = ap (λ (x : Term). Put x k) (nothing_put m)

-- plans that are one but for their weights and the order of joints
pub same_renumbered : (r q : Plan) → r.parts ≡ q.parts → r.imports ≡ q.imports → r.outcome ≡ q.outcome
    → ((a b : End) → (Contains r.joints (joint a b) → Contains q.joints (joint a b)) × (Contains q.joints (joint a b) → Contains r.joints (joint a b)))
    → IsRight r → IsRight q → IsRenumbered unchanged r q
same_renumbered r q parts imports outcome joints right also =
    record {
      one_to_one = unchanged_one;
      parts = λ i. ap (λ (ks : List Part). slice_get ks i) (sym parts);
      imports = λ i. ap (λ (is : List Imported). slice_get is i) (sym imports);
      outcome = sym outcome;
      joints = λ a b. (
        λ has. subst (λ (x : End). Contains q.joints (joint x (moved_end unchanged b))) (sym (unchanged_end a))
            (subst (λ (y : End). Contains q.joints (joint a y)) (sym (unchanged_end b)) ((joints a b).0 has)),
        λ has. (joints a b).1
            (subst (λ (x : End). Contains q.joints (joint x b)) (unchanged_end a)
            (subst (λ (y : End). Contains q.joints (joint (moved_end unchanged a) y)) (unchanged_end b) has)),
      );
      right = right;
      also_right = also;
    }

-- two joinings of one wiring
module _ (w : Wiring) (r q : Plan) (one : IsJoining w r) (other : IsJoining w q) where
  same_parts : r.parts ≡ q.parts
  same_parts = one.parts ∙ sym other.parts

  same_imports : r.imports ≡ q.imports
  same_imports = one.imports ∙ sym other.imports

  same_outcome : r.outcome ≡ q.outcome
  same_outcome = one.outcome ∙ sym other.outcome

  same_contact : (e : End) → contact_at r e ≡ contact_at q e
  same_contact (PartEnd i h) = ap (λ (ks : List Part). slice_get (contacts_of_part (slice_get ks i)) h) same_parts
  same_contact (ImportEnd i h) = ap (λ (is : List Imported). slice_get (contacts_of_import (slice_get is i)) h) same_imports
  same_contact (ResultEnd h) = ap (λ (t : Type'). turned_if (slice_get (contacts_of t) h)) same_outcome

  pub joinings_renumbered : IsRenumbered unchanged r q
  joinings_renumbered =
      same_renumbered r q same_parts same_imports same_outcome
      (λ a b. (
        λ has. (let (x, y, n, asked, served, path) = (one.joints a b).0 has in
            (other.joints a b).1 (x, y, n, sym (same_contact a) ∙ asked, sym (same_contact b) ∙ served, path)),
        λ has. (let (x, y, n, asked, served, path) = (other.joints a b).0 has in
            (one.joints a b).1 (x, y, n, same_contact a ∙ asked, same_contact b ∙ served, path)),
      ))
      one.right other.right

-- with its imports written out
shut_open : (p : Plan) (m : Term) → Realises p.outcome (record p { imports = [] }) m → RealisesOpen (record p { imports = [] }) m
shut_open p m real (s ∷ ss) r supplies join names = absurd supplies
shut_open p m real [] r supplies join names =
    let q : Plan = record p { imports = [] } in
    let renumbered : IsRenumbered unchanged r q = joinings_renumbered (side 0 p.outcome q) r q join.joining (alone_joins q real.suits.right) in
    subst (Realises p.outcome r) (sym (nothing_put (λ x. None) (λ x. refl) m)) (renumbered_is_realised unchanged r q p.outcome m renumbered real)

pub closed_is_open : ClosedIsOpen
closed_is_open p m none real =
    let same : record p { imports = [] } ≡ p = λ i. record p { imports = sym none i } in
    subst (λ (q : Plan). RealisesOpen q m) same (shut_open p m (subst (λ (q : Plan). Realises p.outcome q m) (sym same) real))
