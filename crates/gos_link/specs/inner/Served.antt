-- Which service is the first of an import or by a giver, as the program finds it.
use Rattle.std.specs.Prelude.{◌≡◌, ◌<◌, ◌&&◌, ℕ, Bool, List, Some, length, nat_eq, unwrap_or}
use Rattle.std.specs.Map.{lookup}
use Rattle.gos_link.specs.declared.services.Service.{Service}
use Rattle.gos_link.specs.inner.Opens.{number_bound}
use Rattle.gos_link.specs.inner.Tops.{top_at}
use Rattle.gos_link.specs.inner.Wired.{number_used}

-- whether both are one import of one user
abbrev pub same_import : ℕ × ℕ → ℕ × ℕ → Bool
same_import x y = nat_eq x.0 y.0 && nat_eq x.1 y.1

-- the entries of tables have the number of the first service of each import, and of the first by each giver
pub record AreServed (ss : List Service) (imports : List ((ℕ × ℕ) × ℕ)) (givers : List (ℕ × ℕ)) : Type 0 where
  pub bound : (user import : ℕ) → lookup (same_import (user, import)) imports ≡ number_bound ss user import
  pub used : (giver : ℕ) → lookup (nat_eq giver) givers ≡ number_used ss giver

-- the number of the first service by an instance, or how many services there are
abbrev pub lateness : List Service → ℕ → ℕ
lateness ss k = unwrap_or (number_used ss k) (length ss)

-- for each service an instance that its giver leads to: it has the giver's top, and serves later than that one, or not at all
pub record AreAbove (ss : List Service) (tops above : List ℕ) : Type 0 where
  pub each : length above ≡ length ss
  pub on :
      (k t : ℕ) → number_used ss k ≡ Some t
      → (top_at tops (top_at above t) ≡ top_at tops k) × (t < lateness ss (top_at above t))
