-- The result of which an Assign asks one handshake: its contact and its turns.
use Rattle.std.specs.Prelude.{◌<◌, slice_get}
use Rattle.std.proofs.Common.{◌≡◌, ℕ, zero, suc, Bool, true, false, Some, refl, sym, ◌∙◌, ap, subst, arith}
use Rattle.gos_types.specs.Types.{Type', Var, IsGround}
use Rattle.gos_plan.specs.Kinds.{asks, contacts_of}
use Rattle.gos_plan.specs.Plans.{Plan, turned_if}
use Rattle.gos_realises.specs.realises.Regular.{KeepsTurnsOf}
use Rattle.gos_nodes.proofs.windows.AskedLemmas.{IsAskedAt}
use Rattle.gos_nodes.specs.assignments.Writes.{asked_type, request_bits, answer_bits}

type_contact : (h w : ℕ) → h < 2 → turned_if (slice_get (contacts_of (asked_type h w)) h) ≡ Some (asks (request_bits h w) (answer_bits h w))
type_contact zero w low = refl
type_contact (suc zero) w low = refl
type_contact (suc (suc h)) w low = absurd (omega (arith, low))

type_ground : (h w : ℕ) → IsGround (asked_type h w)
type_ground zero w = tt
type_ground (suc h) w = tt

-- where the result is closed, or only its handshake that is asked is open
keeps_result : (h w : ℕ) (f : ℕ → Bool) → ((k : ℕ) → f k ≡ true → k ≡ h) → KeepsTurnsOf (asked_type h w) f
keeps_result zero w f only = tt
keeps_result (suc h) w f only = by_test (f 0) refl
  where
    by_test : (b : Bool) → f 0 ≡ b → KeepsTurnsOf (Var w) f
    by_test false t = rw t refl
    by_test true t = let none : 0 ≡ suc h = only 0 t in absurd (omega (arith, none))

-- a plan whose result is asked at handshake h, by an Assign of w bits
pub asked_by : (p : Plan) (h w : ℕ) → h < 2 → p.outcome ≡ asked_type h w → IsAskedAt p h (request_bits h w) (answer_bits h w)
asked_by p h w low is =
    record {
      contact = ap (λ (t : Type'). turned_if (slice_get (contacts_of t) h)) is ∙ type_contact h w low;
      ground = subst IsGround (sym is) (type_ground h w);
      keeps = λ f only. subst (λ (t : Type'). KeepsTurnsOf t f) (sym is) (keeps_result h w f only);
    }
