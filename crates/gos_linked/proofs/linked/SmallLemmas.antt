-- Small links.
use Rattle.std.proofs.Common.{refl, arith}
use Rattle.gos_types.specs.Types.{Com}
use Rattle.gos_realises.specs.realises.SmallRealisers as small
use Rattle.gos_linked.specs.linked.SmallLinks.{ServedIsSubstituted, UnservedStays, UseIsRealised, SkipRealisesNoUse, UseIsTyped, SkipTypesNoUse}

pub served_is_substituted : ServedIsSubstituted
served_is_substituted = refl

pub unserved_stays : UnservedStays
unserved_stays = refl

pub use_is_typed : UseIsTyped
use_is_typed =
    record {
      imports = refl;
      names = (λ j has same. (let (k, small, at) = has in omega (arith, small)), tt);
      typed = (Com, refl, refl, λ t in_f in_skip. (let (k, small, at) = in_skip in omega (arith, small)));
    }

pub use_is_realised : small.UseIsRealised → UseIsRealised
use_is_realised opens =
    record {
      imports = refl;
      right = (((0, 0, refl, refl), refl, refl), (((0, 0, refl, refl), refl, refl), tt));
      names = use_is_typed.names;
      typed = use_is_typed.typed;
      open_imports = opens;
    }

pub skip_realises_no_use : SkipRealisesNoUse
skip_realises_no_use realised = let (a, function, argument, apart) = realised.typed in absurd (cc function)

pub skip_types_no_use : SkipTypesNoUse
skip_types_no_use typed = let (a, function, argument, apart) = typed.typed in absurd (cc function)
