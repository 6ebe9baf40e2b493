-- The plan of a product of two sides realises the pair of two terms where the regions realise these.
use Rattle.std.specs.Prelude.{[], All}
use Rattle.std.proofs.Common.{◌≡◌, ℕ, List, refl, sym, subst}
use Rattle.gos_types.specs.Types.{Type', Pair}
use Rattle.gos_model.specs.Terms.{Term, Both}
use Rattle.gos_model.specs.Typing.{Imported, Typed}
use Rattle.gos_plan.specs.Kinds.{Part}
use Rattle.gos_plan.specs.Plans.{Plan}
use Rattle.gos_plan.specs.TokenBits.{LiteralFits}
use Rattle.gos_realises.specs.realises.Regular.{count}
use Rattle.gos_realises.specs.realises.Links.{IsJoined}
use Rattle.gos_realises.specs.realises.Wirings.{side}
use Rattle.gos_realises.specs.realises.Realises.{AllPorts, NamesDiffer, Suits, Realises}
use Rattle.gos_supplies.proofs.unjoined.ImportLemmas.{among, typed_more}
use Rattle.gos_supplies.proofs.unfoldings.PairLemmas.{both_is_realised}
use Rattle.gos_sharing.proofs.cores.HigherLemmas.{core_realises}
use Rattle.gos_nodes.specs.products.Both.{Side, IsSide}
use Rattle.gos_nodes.specs.products.Cores.{IsStillCore}
use Rattle.gos_nodes.specs.products.Realised.{SidesRealiseBoth}
use Rattle.gos_nodes.proofs.products.CoreLemmas.{sides_are_cores}
use Rattle.gos_nodes.proofs.products.SideLemmas.{same_parts, same_imports}

pub sides_realise_both : SidesRealiseBoth
sides_realise_both a b r g e m n both regular literals ports one other =
    both_is_realised a b r m n suits
    (λ s joined. of_core 0 a s m g.plan joined (cores_so.0 s joined) one)
    (λ s joined. of_core (count a) b s n e.plan joined (cores_so.1 s joined) other)
  where
    typed : (k : ℕ) (x : Side) (t : Type') (z : Term) → IsSide r k x → Realises t x.plan z → Typed r.imports [] z t
    typed k x t z is realised =
        typed_more x.plan.imports r.imports (among x.plan.imports r.imports both.names is.imports) [] z t realised.suits.typed

    suits : Suits (Pair a b) r (Both m n)
    suits =
        record {
          right = both.first.region.whole_right;
          literals = literals;
          outcome = both.outcome;
          all_ports = ports;
          names = both.names;
          typed = (a, b, refl, typed 0 g a m both.first one, typed (count a) e b n both.second other);
          regular = regular;
        }

    cores_so : ((s : Plan) → IsJoined (side 0 a r) s → IsStillCore s g.plan) × ((s : Plan) → IsJoined (side (count a) b r) s → IsStillCore s e.plan)
    cores_so = sides_are_cores a b r g e both

    of_core : (k : ℕ) (t : Type') (s : Plan) (x : Term) (c : Plan) → IsJoined (side k t r) s → IsStillCore s c → Realises t c x → Realises t s x
    of_core k t s x c joined (f, core, still) realised =
        core_realises f s c t x core still (subst (λ (ks : List Part). All LiteralFits ks) parts literals)
        (subst (λ (is : List Imported). AllPorts is) imports ports) (subst (λ (is : List Imported). NamesDiffer is) imports both.names) realised
      where
        imports : r.imports ≡ s.imports
        imports = sym (same_imports k t r both.first.region.whole_right s joined.joining)

        parts : r.parts ≡ s.parts
        parts = sym (same_parts k t r both.first.region.whole_right s joined.joining)
