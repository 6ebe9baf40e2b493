-- Small configurations that are proper, and others that aren't.
use Rattle.std.specs.Prelude.{◌≡◌, ℕ, [], ◌∷◌, Contains}
use Rattle.std.proofs.Common.{arith, refl, sym, ap, ◌∙◌}
use Rattle.std.proofs.lemmas.Option.{none-some}
use Rattle.gos_model.specs.Terms.{Import, Seq, Loc, Put}
use Rattle.gos_model.specs.Typing.{Thing, Variable, Named, Place, Apart}
use Rattle.gos_model.specs.SmallPrograms.{c, d}
use Rattle.gos_programs.specs.contexts.SmallContexts.{block, one_at}
use Rattle.gos_programs.proofs.contexts.SmallLemmas.{stores_keep_scopes, locations_stand, locations_are_scoped}
use Rattle.gos_swaps.specs.proper.Proper.{IsClosed, IsProper}
use Rattle.gos_swaps.specs.proper.SmallProper.{NamesAreApart, BodiesAreOpen, BlockIsProper}
use Rattle.gos_swaps.proofs.proper.ThingLemmas.{only_one, there, nothing, by_parts}

-- the first byte of a port's name
abbrev first_byte : Thing → ℕ
first_byte (Named (b ∷ bs)) = b
first_byte t = 0

differ : (k n : ℕ) → k ≡ 99 → n ≡ 100 → k ≡ n → ⊥
differ k n a b e = omega (arith, a, b, e)

two_names : Apart (Import c) (Import d)
two_names x h k =
    differ (first_byte (Named c)) (first_byte (Named d)) refl refl (ap first_byte (sym (only_one (Named c) x h) ∙ only_one (Named d) x k))

pub names_are_apart : NamesAreApart
names_are_apart = (
  (two_names, tt, tt),
  λ h. h.0 (Named c) (there (Named c)) (there (Named c)),
  (tt, tt),
  λ h. h.0 (Variable 0) (there (Variable 0)) (there (Variable 0)),
)

pub bodies_are_open : BodiesAreOpen
bodies_are_open = (λ n h. nothing (Variable n) h, λ h. h 0 (there (Variable 0)))

no_variable : (n : ℕ) → Contains (Place 0 ∷ []) (Variable n) → ⊥
no_variable n h = let bad : Variable n ≡ Place 0 = only_one (Place 0) (Variable n) h in absurd (cc bad)

block_closed : IsClosed block
block_closed n h = by_parts (Place 0 ∷ []) (Place 0 ∷ []) (Variable n) (no_variable n) (no_variable n) h

block_proper : IsProper block (one_at 0)
block_proper =
    record {
      apart = tt;
      closed = block_closed;
      scopes = stores_keep_scopes.0;
      within = locations_are_scoped.0;
      differ = (λ h. h, tt);
      standing = locations_stand.0;
    }

not_standing : IsProper block [] → ⊥
not_standing p = none-some p.standing.0.0 p.standing.0.1

not_within : IsProper (Seq block (Put (Loc 0) 1)) (one_at 0) → ⊥
not_within p = p.within.1

pub block_is_proper : BlockIsProper
block_is_proper = (block_proper, not_standing, not_within)
