-- A plan of any type realises behind a Share what it realises without, by recursion on the type.
use Rattle.std.specs.Prelude.{List, All}
use Rattle.std.proofs.Common.{subst}
use Rattle.gos_types.specs.Types.{Type', Com, Exp, Var, Pair, Fun}
use Rattle.gos_model.specs.Terms.{Term, App, Fst, Snd}
use Rattle.gos_plan.specs.Kinds.{Part}
use Rattle.gos_plan.specs.Plans.{Plan}
use Rattle.gos_plan.specs.TokenBits.{LiteralFits}
use Rattle.gos_realises.specs.realises.Realises.{AllPorts, NamesDiffer, Realises}
use Rattle.gos_realises.proofs.joined.WholeLemmas.{applied_is_joined, sides_are_joined}
use Rattle.gos_sharing.specs.ground_types.Joints.{BufferedGroundIsRealised}
use Rattle.gos_sharing.specs.behind.Behind.{passing, GroundIsBuffered}
use Rattle.gos_sharing.proofs.function_types.PassingLemmas.{suits_behind, applied_realises, at_ground}
use Rattle.gos_sharing.proofs.parts_of_types.MeansLemmas.{narrow_is_realised}
use Rattle.gos_sharing.specs.cores.Cores.{CoreIsRealised}
use Rattle.gos_sharing.specs.pair_types.Passing.{AnyPassingIsRealised}
use Rattle.gos_sharing.specs.pair_types.Sides.{HasNarrowCore, SidesHaveCores}

module _ (cores : CoreIsRealised) where
  side_realises : (s : Type') (x u : Plan) (m : Term) → HasNarrowCore x u → Realises s u m → Realises s x m
  side_realises s x u m (f, h, z, narrow, core, still, parts, imports) realised =
      let whole = narrow_is_realised f z u s m narrow realised in
      cores h x z s m core still (subst (λ (ks : List Part). All LiteralFits ks) parts whole.suits.literals) (subst AllPorts imports whole.suits.all_ports)
      (subst NamesDiffer imports whole.suits.names) whole

  module _ (sides : SidesHaveCores) (ground : GroundIsBuffered) (realises : BufferedGroundIsRealised) where
    pub any_passing_is_realised : AnyPassingIsRealised
    any_passing_is_realised Com c p m two realised = at_ground ground realises Com c p m two tt realised
    any_passing_is_realised (Exp w) c p m two realised = at_ground ground realises (Exp w) c p m two tt realised
    any_passing_is_realised (Var w) c p m two realised = at_ground ground realises (Var w) c p m two tt realised
    any_passing_is_realised (Pair a b) c p m two realised =
        let both = sides a b c p two realised.suits.right realised.suits.outcome realised.suits.literals realised.suits.regular in
        let joined = sides_are_joined a b p realised.suits.right realised.suits.outcome in
        record {
          suits = suits_behind (Pair a b) c p m two realised.suits;
          means = (
            λ x of_x.
                (let (v, of_v) = joined.0 in
                let (also, meant) = realised.means.0 v of_v in
                let done =
                side_realises a x (passing a c v) (Fst m) (both.0 x v of_x of_v) (any_passing_is_realised a c v (Fst m) two (record { suits = also; means = meant }))
                in
                (done.suits, done.means)),
            λ x of_x.
                (let (v, of_v) = joined.1 in
                let (also, meant) = realised.means.1 v of_v in
                let done =
                side_realises b x (passing b c v) (Snd m) (both.1 x v of_x of_v) (any_passing_is_realised b c v (Snd m) two (record { suits = also; means = meant }))
                in
                (done.suits, done.means)),
          );
        }
    any_passing_is_realised (Fun a b) c p m two realised =
        record {
          suits = suits_behind (Fun a b) c p m two realised.suits;
          means = λ q x n names of_q meant_q joined.
              (let behind_q = any_passing_is_realised a c q n two (record { suits = of_q; means = meant_q }) in
              let (y, joined_y) = applied_is_joined a b p (passing a c q) realised.suits.right behind_q.suits.right realised.suits.outcome behind_q.suits.outcome in
              let (also, meant) = realised.means (passing a c q) y n names behind_q.suits behind_q.means joined_y in
              let whole = any_passing_is_realised b c y (App m n) two (record { suits = also; means = meant }) in
              let done = applied_realises a b c p q y x m n two realised.suits of_q joined_y.joining joined.joining also whole in
              (done.suits, done.means));
        }
