-- Ports of plans with a command or an expression for their result.
use Rattle.std.specs.Prelude.{None, slice_get, Contains}
use Rattle.std.proofs.Common.{◌≡◌, ℕ, zero, suc, List, [], ◌∷◌, ◌⊎◌, Option, Some, inl, inr, refl, sym, ◌∙◌, ap, subst, arith}
use Rattle.std.proofs.lemmas.Option.{none-some, slice_get-get_or, same_Some}
use Rattle.gos_types.specs.declared.shakes.Role.TheVariants.{Serve, Ask}
use Rattle.gos_types.specs.Types.{Type', Com, Exp, Var, Pair, Fun, IsGround, IsDone}
use Rattle.gos_model.specs.Typing.{Imported}
use Rattle.gos_plan.specs.Kinds.{Contact, contacts_of}
use Rattle.gos_plan.specs.Plans.{End, PartEnd, ImportEnd, ResultEnd, Plan, IsRight, contact_at, contacts_of_import, turned_if}
use Rattle.gos_plan.specs.Tokens.{Tokens, Element, IsPortEnd, places_of, Does, Runs}
use Rattle.gos_plan.proofs.JointLemmas.{joined, stands_there, contained}
use Rattle.gos_realises.specs.realises.Realises.{AllGround, NamesDiffer}
use Rattle.gos_realises.proofs.realises.InputLemmas.{result_asks, import_serves, one_ground}
use Rattle.gos_realises.proofs.realises.ToldLemmas.{there_is, contains_at}
use Rattle.gos_joining.specs.webs.Cutting.{StandsIn}

-- which ports there are
pub port_end : (p : Plan) → IsDone p.outcome → (e : End) (c : Contact) → IsPortEnd e → contact_at p e ≡ Some c
    → ((e ≡ ResultEnd 0) × (c.role ≡ Ask)) ⊎ ((i h : ℕ) × (e ≡ ImportEnd i h))
port_end p done (PartEnd i h) c port is = absurd port
port_end p done (ImportEnd i h) c port is = inr (i, h, refl)
port_end p done (ResultEnd h) c port is =
    let (none, role) = result_asks p.outcome done h c is in inl (ap ResultEnd none, sym role)

-- with ground imports
pub port_role : (p : Plan) → AllGround p.imports → IsDone p.outcome → (e : End) (c : Contact) → IsPortEnd e → contact_at p e ≡ Some c
    → ((e ≡ ResultEnd 0) × (c.role ≡ Ask)) ⊎ ((i h : ℕ) × (e ≡ ImportEnd i h) × (c.role ≡ Serve))
port_role p ground done (PartEnd i h) c port is = absurd port
port_role p ground done (ImportEnd i h) c port is =
    let (x, there) = there_is p.imports i h c is in
    let role = import_serves x.ty (one_ground p.imports ground i x there) h c (sym (ap (λ (o : Option Imported). slice_get (contacts_of_import o) h) there) ∙ is) in
    inr (i, h, refl, sym role)
port_role p ground done (ResultEnd h) c port is =
    let (none, role) = result_asks p.outcome done h c is in inl (ap ResultEnd none, sym role)

-- what stands in a joint has a handshake and a place
pub stands_contact : (p : Plan) → IsRight p → (e : End) → StandsIn p e → (c : Contact) × (contact_at p e ≡ Some c)
stands_contact p right e (j, listing, stands) =
    let one = joined p e j.asking right (stands_there p j e right (contained p.joints j listing) stands) in (one.here, one.is_here)

pub stands_place : (p : Plan) → IsRight p → (e : End) → StandsIn p e → (a : End) × (places_of p e ≡ Some a)
stands_place p right e (j, listing, stands) = (j.asking, stands_there p j e right (contained p.joints j listing) stands)

pub result_there : (t : Type') → IsDone t → turned_if (slice_get (contacts_of t) 0) ≡ None → ⊥
result_there Com done none = cc none
result_there (Exp w) done none = cc none
result_there (Var w) done none = done
result_there (Pair a b) done none = done
result_there (Fun a b) done none = done

-- imports among ground ones
one_of : (js : List Imported) (x : Imported) → AllGround js → Contains js x → IsGround x.ty
one_of js x ground (n, within, is) = one_ground js ground n x (slice_get-get_or js n x within ∙ ap Some is)

first_in : (x : Imported) (xs : List Imported) → Contains (x ∷ xs) x
first_in x xs = (0, omega arith, refl)

later_in : (x y : Imported) (xs : List Imported) → Contains xs y → Contains (x ∷ xs) y
later_in x y xs (n, within, is) = (suc n, omega (arith, within), is)

pub ground_within : (is js : List Imported) → AllGround js → ((x : Imported) → Contains is x → Contains js x) → AllGround is
ground_within [] js ground within = tt
ground_within (x ∷ xs) js ground within =
    (one_of js x ground (within x (first_in x xs)), ground_within xs js ground (λ y there. within y (later_in x y xs there)))

-- imports with different names are at one place each
pub one_place : (is : List Imported) → NamesDiffer is → (i j : ℕ) (x : Imported) → slice_get is i ≡ Some x → slice_get is j ≡ Some x → i ≡ j
one_place [] differ i j x at_i at_j = absurd (none-some x at_i)
one_place (y ∷ ys) differ zero zero x at_i at_j = refl
one_place (y ∷ ys) differ zero (suc j) x at_i at_j =
    absurd (differ.0 x (contains_at ys j x at_j) (ap (λ (z : Imported). z.name) (same_Some y x at_i)))
one_place (y ∷ ys) differ (suc i) zero x at_i at_j =
    absurd (differ.0 x (contains_at ys i x at_i) (ap (λ (z : Imported). z.name) (same_Some y x at_j)))
one_place (y ∷ ys) differ (suc i) (suc j) x at_i at_j = ap suc (one_place ys differ.1 i j x at_i at_j)

-- a list of one element
pub run_one : (p : Plan) (x : Element) (s t : Tokens) → Runs p (x ∷ []) s t → Does p x s t
run_one p x s t (w, does, is) = subst (λ (y : Tokens). Does p x s y) (sym is) does
