-- What tables of services have, once there is a service more; and the lines of the services that they tell.
use Rattle.std.specs.Prelude.{◌≡◌, ◌<◌, ◌≤◌, ◌&&◌, ℕ, zero, suc, ◌+◌, Bool, true, false, List, [], ◌∷◌, ◌++◌, length, Option, Some, None, IfSome, position, slice_get, nat_eq, if◌then◌else◌}
use Rattle.std.specs.List.{position_from}
use Rattle.std.specs.Map.{lookup}
use Rattle.std.proofs.Common.{refl, sym, ap, ◌∙◌, cond, arith}
use Rattle.std.proofs.lemmas.Bool.Decides.{nat_tests}
use Rattle.std.proofs.lemmas.Iterator.Adapters.{position_from-zero}
use Rattle.std.proofs.lemmas.Option.{slice_get_within}
use Rattle.gos_link.specs.declared.services.Service.{Service}
use Rattle.gos_link.specs.Services.{first_bound, first_used}
use Rattle.gos_link.specs.inner.Firsts.{or_first}
use Rattle.gos_link.specs.inner.Opens.{number_bound}
use Rattle.gos_link.specs.inner.Served.{same_import, AreServed}
use Rattle.gos_link.specs.inner.Wired.{number_used}
use Rattle.gos_link.proofs.ServiceLemmas.{bound_tells, used_tells}

-- an entry behind the others
pub lookup_last : {K : Type 0} (test : K → Bool) (entries : List (K × ℕ)) (key : K) (n : ℕ)
    → lookup test (entries ++ (key, n) ∷ []) ≡ or_first (lookup test entries) (test key) n
lookup_last test [] key n = refl
lookup_last test (e ∷ entries) key n = by (test e.0) (lookup_last test entries key n)
  where
    by : (b : Bool) → lookup test (entries ++ (key, n) ∷ []) ≡ or_first (lookup test entries) (test key) n
        → cond b (Some e.1) (lookup test (entries ++ (key, n) ∷ [])) ≡ or_first (cond b (Some e.1) (lookup test entries)) (test key) n
    by true rest = refl
    by false rest = rest

-- a service behind the others
last_from : (test : Service → Bool) (n : ℕ) (ss : List Service) (s : Service)
    → position_from test n (ss ++ s ∷ []) ≡ or_first (position_from test n ss) (test s) (n + length ss)
last_from test n [] s = let same : n ≡ n + 0 = omega arith in ap (λ (k : ℕ). cond (test s) (Some k) None) same
last_from test n (x ∷ ss) s = by (test x) (last_from test (n + 1) ss s)
  where
    more : (n + 1) + length ss ≡ n + suc (length ss)
    more = omega arith

    by : (b : Bool) → position_from test (n + 1) (ss ++ s ∷ []) ≡ or_first (position_from test (n + 1) ss) (test s) ((n + 1) + length ss)
        → cond b (Some n) (position_from test (n + 1) (ss ++ s ∷ [])) ≡ or_first (cond b (Some n) (position_from test (n + 1) ss)) (test s) (n + suc (length ss))
    by true rest = refl
    by false rest = rest ∙ ap (or_first (position_from test (n + 1) ss) (test s)) more

pub position_last : (test : Service → Bool) (ss : List Service) (s : Service) → position test (ss ++ s ∷ []) ≡ or_first (position test ss) (test s) (length ss)
position_last test ss s =
    let size : 0 + length ss ≡ length ss = omega arith in
    position_from-zero test (ss ++ s ∷ [])
    ∙ (last_from test 0 ss s ∙ (λ i. or_first (sym (position_from-zero test ss) i) (test s) (size i)))

same_test : (a b : ℕ) → nat_eq a b ≡ nat_eq b a
same_test a b = grind (arith, nat_tests)

pub served_more : (ss : List Service) (s : Service) (imports more_imports : List ((ℕ × ℕ) × ℕ)) (givers more_givers : List (ℕ × ℕ)) → AreServed ss imports givers
    → ((other : ℕ × ℕ) → lookup (same_import other) more_imports ≡ or_first (lookup (same_import other) imports) (same_import other (s.user, s.import)) (length ss))
    → ((other : ℕ) → lookup (nat_eq other) more_givers ≡ or_first (lookup (nat_eq other) givers) (nat_eq other s.giver) (length ss))
    → AreServed (ss ++ s ∷ []) more_imports more_givers
served_more ss s imports more_imports givers more_givers known adds_import adds_giver = record { bound = bound; used = used }
  where
    bound : (user import : ℕ) → lookup (same_import (user, import)) more_imports ≡ number_bound (ss ++ s ∷ []) user import
    bound user import =
        adds_import (user, import)
        ∙ ((λ i. or_first (known.bound user import i) (same_test user s.user i && same_test import s.import i) (length ss))
        ∙ sym (position_last (λ x. nat_eq x.user user && nat_eq x.import import) ss s))

    used : (giver : ℕ) → lookup (nat_eq giver) more_givers ≡ number_used (ss ++ s ∷ []) giver
    used giver =
        adds_giver giver
        ∙ ((λ i. or_first (known.used giver i) (same_test giver s.giver i) (length ss)) ∙ sym (position_last (λ x. nat_eq x.giver giver) ss s))

bound_low : (ss : List Service) (user import t : ℕ) → number_bound ss user import ≡ Some t → t < length ss
bound_low ss user import t e = let (s, at, one, other) = bound_tells ss user import t e in slice_get_within ss t s at

pub used_low : (ss : List Service) (giver t : ℕ) → number_used ss giver ≡ Some t → t < length ss
used_low ss giver t e = let (s, at, same) = used_tells ss giver t e in slice_get_within ss t s at

pub bound_within : (ss : List Service) (user import : ℕ) (found : Option ℕ) → found ≡ number_bound ss user import → IfSome found (λ t. t < length ss)
bound_within ss user import None e = tt
bound_within ss user import (Some t) e = bound_low ss user import t (sym e)

-- the line of the first service that passes a test
module _ (test : Service → Bool) (line_of : List Service → Option ℕ) (none : line_of [] ≡ None)
    (first : (s : Service) (ss : List Service) → line_of (s ∷ ss) ≡ (if test s then Some s.line else line_of ss)) where
  no_line : (n : ℕ) (ss : List Service) → position_from test n ss ≡ None → line_of ss ≡ None
  no_line n [] e = none
  no_line n (s ∷ ss) e = first s ss ∙ by (test s) e (no_line (n + 1) ss)
    where
      by : (b : Bool) → cond b (Some n) (position_from test (n + 1) ss) ≡ None → (position_from test (n + 1) ss ≡ None → line_of ss ≡ None)
          → (if b then Some s.line else line_of ss) ≡ None
      by true e rest = absurd (cc e)
      by false e rest = rest e

  found_low : (n : ℕ) (ss : List Service) (t : ℕ) → position_from test n ss ≡ Some t → n ≤ t
  found_low n [] t e = absurd (cc e)
  found_low n (s ∷ ss) t e = by (test s) e (found_low (n + 1) ss t)
    where
      by : (b : Bool) → cond b (Some n) (position_from test (n + 1) ss) ≡ Some t → (position_from test (n + 1) ss ≡ Some t → n + 1 ≤ t) → n ≤ t
      by true e rest = let same : n ≡ t = cc e in omega (arith, same)
      by false e rest = let low = rest e in omega (arith, low)

  line_at : (n : ℕ) (ss : List Service) (m : ℕ) (s : Service) → position_from test n ss ≡ Some (n + m) → slice_get ss m ≡ Some s → line_of ss ≡ Some s.line
  line_at n [] m s e at = absurd (cc e)
  line_at n (x ∷ ss) zero s e at = first x ss ∙ by (test x) e (found_low (n + 1) ss (n + 0))
    where
      by : (b : Bool) → cond b (Some n) (position_from test (n + 1) ss) ≡ Some (n + 0) → (position_from test (n + 1) ss ≡ Some (n + 0) → n + 1 ≤ n + 0)
          → (if b then Some x.line else line_of ss) ≡ Some s.line
      by true e low = let same : x ≡ s = cc at in ap (λ (y : Service). Some y.line) same
      by false e low = let wrong = low e in absurd (omega (arith, wrong))
  line_at n (x ∷ ss) (suc m) s e at = first x ss ∙ by (test x) e (λ h. line_at (n + 1) ss m s h at)
    where
      by : (b : Bool) → cond b (Some n) (position_from test (n + 1) ss) ≡ Some (n + suc m) → (position_from test (n + 1) ss ≡ Some ((n + 1) + m) → line_of ss ≡ Some s.line)
          → (if b then Some x.line else line_of ss) ≡ Some s.line
      by true e rest = let same : n ≡ n + suc m = cc e in absurd (omega (arith, same))
      by false e rest = let same : n + suc m ≡ (n + 1) + m = omega arith in rest (e ∙ ap Some same)

  pub line_none : (ss : List Service) → position test ss ≡ None → line_of ss ≡ None
  line_none ss e = no_line 0 ss (sym (position_from-zero test ss) ∙ e)

  pub line_found : (ss : List Service) (t : ℕ) (s : Service) → position test ss ≡ Some t → slice_get ss t ≡ Some s → line_of ss ≡ Some s.line
  line_found ss t s e at = let same : t ≡ 0 + t = omega arith in line_at 0 ss t s (sym (position_from-zero test ss) ∙ (e ∙ ap Some same)) at

pub bound_none : (ss : List Service) (user import : ℕ) → number_bound ss user import ≡ None → first_bound ss user import ≡ None
bound_none ss user import e = line_none (λ s. nat_eq s.user user && nat_eq s.import import) (λ ts. first_bound ts user import) refl (λ s ts. refl) ss e

pub bound_line : (ss : List Service) (user import t : ℕ) (s : Service) → number_bound ss user import ≡ Some t → slice_get ss t ≡ Some s → first_bound ss user import ≡ Some s.line
bound_line ss user import t s e at = line_found (λ s. nat_eq s.user user && nat_eq s.import import) (λ ts. first_bound ts user import) refl (λ s ts. refl) ss t s e at

pub used_none : (ss : List Service) (giver : ℕ) → number_used ss giver ≡ None → first_used ss giver ≡ None
used_none ss giver e = line_none (λ s. nat_eq s.giver giver) (λ ts. first_used ts giver) refl (λ s ts. refl) ss e

pub used_line : (ss : List Service) (giver t : ℕ) (s : Service) → number_used ss giver ≡ Some t → slice_get ss t ≡ Some s → first_used ss giver ≡ Some s.line
used_line ss giver t s e at = line_found (λ s. nat_eq s.giver giver) (λ ts. first_used ts giver) refl (λ s ts. refl) ss t s e at
