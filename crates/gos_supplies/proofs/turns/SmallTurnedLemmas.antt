-- Small plans that are joined, or are plans of names, and one that is none.
use Rattle.std.specs.Prelude.{ℕ, zero, suc, Some, Contains, slice_get}
use Rattle.std.proofs.Common.{◌≡◌, refl, ◌∙◌, ap, arith}
use Rattle.gos_types.specs.declared.shakes.Role.TheVariants.{Serve, Ask}
use Rattle.gos_types.specs.Types.{Com}
use Rattle.gos_plan.specs.Kinds.{Contact, serves, contacts_of}
use Rattle.gos_plan.specs.Plans.{ImportEnd, ResultEnd}
use Rattle.gos_plan.specs.SmallPlans.{skip_plan, same_plan}
use Rattle.gos_plan.specs.SmallCalls.{call_plan}
use Rattle.gos_joining.specs.webs.Webs.{joint}
use Rattle.gos_realises.specs.realises.SmallRealisers.{SkipIsRealised}
use Rattle.gos_realises.specs.realises.Functions.{SameIsRealised}
use Rattle.gos_supplies.specs.turns.SmallTurned.{SameOfSkipIsRegular, CallIsName, UnjoinedIsNone}
use Rattle.gos_supplies.proofs.turns.ApplyLemmas.{applying_is_regular}

pub same_of_skip_is_regular : SameIsRealised → SkipIsRealised → SameOfSkipIsRegular
same_of_skip_is_regular same skip r joined =
    applying_is_regular Com Com same_plan skip_plan r refl refl same.suits.literals skip.suits.literals same.suits.regular skip.suits.regular joined

pub call_is_name : CallIsName
call_is_name =
    record {
      right = (((0, 0, refl, refl), refl, refl), tt);
      imports = refl;
      outcome = refl;
      parts = refl;
      serving = serving;
      asking = asking;
    }
  where
    serving : (h : ℕ) (c : Contact) → slice_get (contacts_of Com) h ≡ Some c → c.role ≡ Serve → Contains call_plan.joints (joint (ResultEnd h) (ImportEnd 0 h))
    serving zero c there role = (0, omega arith, refl)
    serving (suc h) c there role = absurd (cc there)

    asking : (h : ℕ) (c : Contact) → slice_get (contacts_of Com) h ≡ Some c → c.role ≡ Ask → Contains call_plan.joints (joint (ImportEnd 0 h) (ResultEnd h))
    asking zero c there role =
        let same : serves 0 0 ≡ c = cc there in
        let never : Serve ≡ Ask = ap (λ (x : Contact). x.role) same ∙ role in absurd (cc never)
    asking (suc h) c there role = absurd (cc there)

pub unjoined_is_none : UnjoinedIsNone
unjoined_is_none is = let (n, small, at) = is.serving 0 (serves 0 0) refl refl in omega (arith, small)
