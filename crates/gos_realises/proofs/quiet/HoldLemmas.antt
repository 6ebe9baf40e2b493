-- Ranks hold where the firing rules tie what a part puts to what it takes.
use Rattle.std.proofs.Common.{◌≡◌, ℕ, suc, true, false, List, [], ◌∷◌, ◌++◌, refl, sym, ◌∙◌, ap, subst, arith}
use Rattle.gos_types.specs.Events.{Request, Answer}
use Rattle.gos_plan.specs.Firing.{Slot}
use Rattle.gos_plan.specs.Plans.{End, PartEnd, ImportEnd, ResultEnd, Plan, IsRight, same_end}
use Rattle.gos_plan.specs.Tokens.{Tokens, Element, Fire, IsPortEnd, end_of, IsIdle}
use Rattle.gos_plan.specs.Orderly.{handshake_at, Open, none_open, OrderlyFrom}
use Rattle.gos_plan.specs.Made.{PartFiring}
use Rattle.gos_plan.proofs.HeldLemmas.{AllFit, all_fit}
use Rattle.gos_plan.proofs.ElementLemmas.{orderly_then}
use Rattle.gos_realises.specs.quiet.Ranks.{Ranks, no_ranks, Stepped, Steps, HasRank, RanksHold}
use Rattle.gos_realises.proofs.quiet.StepLemmas.{step_fits}
use Rattle.gos_realises.proofs.quiet.LadderLemmas.{Ladders, rank_elsewhere}
use Rattle.gos_realises.proofs.quiet.LadderStepLemmas.{Law, Firing, firing_facts, ladders_step}

-- the rules tie, wherever an orderly list leads
abbrev pub AlwaysTies : Plan → Type 0
AlwaysTies p = (first s : Tokens) (xs : List Element) (o : Open) → IsIdle p first → OrderlyFrom p xs none_open first o s → Law p o s

abbrev PortsFlat : Ranks → Type 0
PortsFlat f = (e : End) → IsPortEnd e → f e ≡ 0

ports_step : (p : Plan) (j : ℕ) (slot : Slot) (o m : Open) (f h : Ranks) (s w : Tokens) → IsRight p → AllFit o s → Stepped p j slot o f s m h w
    → PortsFlat f → PortsFlat h
ports_step p j slot o m f h s w right fit step flat e port =
    ap (λ (y : Ranks). y e) x.step.ranks
    ∙ (rank_elsewhere p j (suc (f (handshake_at p (end_of j slot)))) x.kind (x.step.row.puts x.step.value) f e right x.is x.puts_asking (apart e port) ∙ flat e port)
  where
    x : Firing p j slot o f s m h w
    x = firing_facts p j slot o m f h s w right fit step

    apart : (e : End) → IsPortEnd e → (c : ℕ) → same_end e (PartEnd j c) ≡ false
    apart (PartEnd i b) port c = absurd port
    apart (ImportEnd i b) port c = refl
    apart (ResultEnd b) port c = refl

all_steps : (p : Plan) (first : Tokens) (xs : List Element) (fs : List PartFiring) (o u : Open) (f g : Ranks) (s t : Tokens) → IsRight p → AlwaysTies p
    → IsIdle p first → OrderlyFrom p xs none_open first o s → Steps p fs o f s u g t → AllFit o s → Ladders p o f s → PortsFlat f
    → Ladders p u g t × PortsFlat g
all_steps p first xs [] o u f g s t right ties idle orderly (a, b, c) fit ladders flat = (
  subst (λ (y : Open). Ladders p y g t) (sym a)
      (subst (λ (y : Ranks). Ladders p o y t) (sym b) (subst (λ (y : Tokens). Ladders p o f y) (sym c) ladders)),
  subst PortsFlat (sym b) flat,
)
all_steps p first xs (y ∷ fs) o u f g s t right ties idle orderly (m, h, w, one, rest) fit ladders flat =
    all_steps p first (xs ++ Fire y.part y.takes ∷ []) fs m u h g w t right ties idle
    (orderly_then p xs (Fire y.part y.takes ∷ []) none_open o m first s w orderly
    (m, w, (one.value, one.row, one.lies, one.fires, one.leads), one.comes, one.welcome, (refl, refl))) rest
    (step_fits p y.part y.takes o m f h s w one fit)
    (ladders_step p y.part y.takes o m f h s w right fit (ties first s xs o idle orderly) one ladders)
    (ports_step p y.part y.takes o m f h s w right fit one flat)

pub ranks_hold : (p : Plan) → IsRight p → AlwaysTies p → RanksHold p
ranks_hold p right ties first s t xs fs o u g idle orderly steps = by_end
  where
    all : Ladders p u g t × PortsFlat g
    all = all_steps p first xs fs o u no_ranks g s t right ties idle orderly steps
        (all_fit p xs none_open o first s orderly (λ a. (idle.0 Request a, idle.0 Answer a))) (λ i a r opened ranked. absurd (grind (arith, ranked)))
        (λ e port. refl)

    by_end : (e : End) (r : ℕ) → u e ≡ true → g e ≡ suc r → HasRank p u g r
    by_end (PartEnd i a) r opened ranked =
        let below = all.0 i a r opened ranked in
        let busy = below.busy in
        (PartEnd i below.server, below.place, below.there, busy.is_open, below.rank)
    by_end (ImportEnd i a) r opened ranked = let never : 0 ≡ suc r = sym (all.1 (ImportEnd i a) tt) ∙ ranked in absurd (grind (arith, never))
    by_end (ResultEnd a) r opened ranked = let never : 0 ≡ suc r = sym (all.1 (ResultEnd a) tt) ∙ ranked in absurd (grind (arith, never))
