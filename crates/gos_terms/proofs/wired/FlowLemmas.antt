-- Flows: ties with the handshake that is seen at their one side.
use Rattle.std.specs.Prelude.{◌≡◌, suc, List, [], ◌∷◌, ◌⊎◌, map, Contains}
use Rattle.std.proofs.Common.{refl, sym, ◌∙◌, ap, arith, inl, inr}
use Rattle.gos_types.specs.declared.shakes.Role.{Role}
use Rattle.gos_types.specs.declared.shakes.Role.TheVariants.{Serve, Ask}
use Rattle.gos_plan.specs.Kinds.{Contact, turned_contact}
use Rattle.gos_plan.proofs.ContactLemmas.{turned_contact_twice}
use Rattle.gos_ties.specs.declared.points.Point.{Point}
use Rattle.gos_ties.specs.declared.points.Tie.{Tie}
use Rattle.gos_ties.specs.Ties.{tie, Meet}

-- a tie, with the handshake that is seen at its one side
pub record Flow : Type 0 where
  pub one : Point
  pub other : Point
  pub contact : Contact

abbrev pub tie_in : Flow → Tie
tie_in f = tie f.one f.other

-- a flow leads from a point, where it has this handshake, to another
abbrev pub Leaves : List Flow → Point → Point → Contact → Type 0
Leaves fs q x c =
    (f : Flow) × Contains fs f × (((f.one ≡ q) × (f.other ≡ x) × (f.contact ≡ c)) ⊎ ((f.other ≡ q) × (f.one ≡ x) × (turned_contact f.contact ≡ c)))

-- two roles are one or not
pub data Alike (r s : Role) : Type 0 where
  same : r ≡ s → Alike r s
  apart : (r ≡ s → ⊥) → Alike r s

pub role_cases : (r s : Role) → Alike r s
role_cases Serve Serve = same refl
role_cases Serve Ask = apart (λ e. cc e)
role_cases Ask Serve = apart (λ e. cc e)
role_cases Ask Ask = same refl

pub leaves_back : (fs : List Flow) (q x : Point) (c : Contact) → Leaves fs q x c → Leaves fs x q (turned_contact c)
leaves_back fs q x c (f, has, inl (a, b, e)) = (f, has, inr (b, a, ap turned_contact e))
leaves_back fs q x c (f, has, inr (a, b, e)) =
    (f, has, inl (b, a, sym (turned_contact_twice f.contact) ∙ ap turned_contact e))

pub flow_of : (fs : List Flow) (a b : Point) → Meet (map tie_in fs) a b → (c : Contact) × Leaves fs a b c
flow_of [] a b meets = absurd meets
flow_of (f ∷ fs) a b (inl e) =
    (f.contact, (f, (0, omega arith, refl), inl (ap (λ (t : Tie). t.one) e, ap (λ (t : Tie). t.other) e, refl)))
flow_of (f ∷ fs) a b (inr (inl e)) =
    (turned_contact f.contact, (f, (0, omega arith, refl), inr (ap (λ (t : Tie). t.other) e, ap (λ (t : Tie). t.one) e, refl)))
flow_of (f ∷ fs) a b (inr (inr meets)) = further (flow_of fs a b meets)
  where
    further : (c : Contact) × Leaves fs a b c → (c : Contact) × Leaves (f ∷ fs) a b c
    further (c, (g, (n, small, e), ways)) = (c, (g, (suc n, omega (arith, small), e), ways))
