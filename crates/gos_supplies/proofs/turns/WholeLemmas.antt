-- A joining of regular plans is regular where turns pass through its wiring.
use Rattle.std.specs.Prelude.{ℕ, zero, suc, ◌+◌, Bool, true, false, ◌&&◌, ◌||◌, List, Some, None, All, slice_get}
use Rattle.std.proofs.Common.{◌≡◌, [], ◌∷◌, refl, sym, ◌∙◌, ap, subst}
use Rattle.std.proofs.lemmas.Bool.{false≢true}
use Rattle.gos_types.specs.Types.{Type', Com, Exp, Var, Pair, Fun}
use Rattle.gos_types.proofs.ListLemmas.{some_is_not_none}
use Rattle.gos_plan.specs.Plans.{Plan}
use Rattle.gos_plan.specs.Tokens.{Tokens, Element, Fire, Out, In, Does, Runs, IsIdle}
use Rattle.gos_plan.specs.TokenBits.{LiteralFits}
use Rattle.gos_plan.specs.Orderly.{Open, none_open, OrderlyFrom}
use Rattle.gos_plan.specs.Joining.{Wiring, IsJoining}
use Rattle.gos_realises.specs.realises.Regular.{Pass, count, some_open, beyond, KeepsTurnsOf, whole_type, InputsKeepTurns, OutputsKeepTurns, IsRegular}
use Rattle.gos_realises.specs.realises.Links.{LinksFit}
use Rattle.gos_realises.proofs.realises.InputLemmas.{passed}
use Rattle.gos_realises.proofs.realises.RingLemmas.{after}
use Rattle.gos_realises.proofs.joined.OriginLemmas.{before}
use Rattle.gos_supplies.proofs.turns.RunLemmas.{at_first}
use Rattle.gos_supplies.proofs.turns.TrailLemmas.{LinksArePorts}
use Rattle.gos_supplies.proofs.turns.FollowLemmas.{Family}
use Rattle.gos_supplies.proofs.turns.GoesLemmas.{IsTurned, PassesTurns, Goes}
use Rattle.gos_supplies.proofs.turns.ElementLemmas.{stand, Went, went_out, went_in}
use Rattle.gos_supplies.proofs.turns.FireLemmas.{went_fire}

-- where nothing is open turns are kept
pub none_some : (n : ℕ) (f : ℕ → Bool) → ((h : ℕ) → f h ≡ false) → some_open n f ≡ false
none_some zero f shut = refl
none_some (suc n) f shut = let rest = none_some n f shut in λ i. shut n i || rest i

pub shut_turned : (t : Type') (f : ℕ → Bool) → ((h : ℕ) → f h ≡ false) → KeepsTurnsOf t f
shut_turned Com f shut = tt
shut_turned (Exp w) f shut = tt
shut_turned (Var w) f shut = λ i. shut 0 i && f 1
shut_turned (Pair a b) f shut = (
  shut_turned a f shut,
  shut_turned b (beyond (count a) f) (λ h. shut (count a + h)),
  λ i. none_some (count a) f shut i && some_open (count b) (beyond (count a) f),
)
shut_turned (Fun a b) f shut = (
  shut_turned a f shut,
  shut_turned b (beyond (count a) f) (λ h. shut (count a + h)),
  λ busy. (let never : false ≡ true = sym (none_some (count a) f shut) ∙ busy in absurd (cc never)),
)

pub first_turned : (p : Plan) → IsTurned p []
first_turned p = shut_turned (whole_type p.imports p.outcome) _ (λ h. refl)

-- the plans' tokens at first
abbrev first_family : Wiring → Tokens → Family
first_family w s k = stand none_open [] (record { in_place = λ way e. None; state = λ j. s.state (before w.plans k + j) })

outputs_then : (r : Plan) (x : Element) (xs : List Element) (past : List Pass) → OutputsKeepTurns r past (x ∷ []) → OutputsKeepTurns r (after r x past) xs
    → OutputsKeepTurns r past (x ∷ xs)
outputs_then r (Fire i t) xs past one rest = rest
outputs_then r (Out e v) xs past one rest = (one.0, rest)
outputs_then r (In e v) xs past one rest = rest

module _ (w : Wiring) (r : Plan) (fit : LinksFit w) (ported : LinksArePorts w) (whole : IsJoining w r)
    (regular : (k : ℕ) (p : Plan) → slice_get w.plans k ≡ Some p → IsRegular p)
    (literals : (k : ℕ) (p : Plan) → slice_get w.plans k ≡ Some p → All LiteralFits p.parts) (passes : PassesTurns w r) where
  goes_first : (s : Tokens) → IsIdle r s → Goes w r (first_family w s) none_open [] s
  goes_first s idle =
      record {
        follows =
            record {
              stands = λ k p is.
                  record {
                    fit = λ a. (refl, refl);
                    asks_open = λ e c port there role. refl;
                    serves_open = λ e c port there role up. absurd (false≢true up);
                    only_asks = λ e c there role. refl;
                  };
              agree = λ a b linked. refl;
              opens = λ e c there role. refl;
              lies = λ a b joined way v held. absurd (some_is_not_none v (s.in_place way a) held (idle.0 way a));
              source = λ c asks up. absurd (false≢true up);
              lost = λ i h f is none. refl;
              ports = λ e c port there. refl;
              dead = λ a port loose. refl;
            };
        reached = λ k p is. at_first p (first_family w s k).tokens ((λ way e. refl), (λ j. idle.1 (before w.plans k + j)));
        turned = λ k p is. first_turned p;
        outer = first_turned r;
        states = λ i f t is. ap s.state t.number;
      }

  went : (F : Family) (o : Open) (past : List Pass) (s t : Tokens) (x : Element) (xs : List Element) → Goes w r F o past s → Does r x s t
      → InputsKeepTurns r past (x ∷ xs) → Went w r x o past s t × InputsKeepTurns r (after r x past) xs
  went F o past s t (Fire i slot) xs so does inputs = (went_fire w r fit ported whole regular literals passes F o past s t i slot so does, inputs)
  went F o past s t (Out e v) xs so does inputs = (went_out w r fit ported whole regular literals passes F o past s t e v so does, inputs)
  went F o past s t (In e v) xs so does inputs = (went_in w r fit ported whole regular literals passes F o past s t e v so does inputs.0, inputs.1)

  all_go : (xs : List Element) (F : Family) (o : Open) (past : List Pass) (s t : Tokens) → Goes w r F o past s → Runs r xs s t → InputsKeepTurns r past xs
      → ((u : Open) × (z : Tokens) × OrderlyFrom r xs o s u z) × OutputsKeepTurns r past xs
  all_go [] F o past s t so runs inputs = ((o, s, (refl, refl)), tt)
  all_go (x ∷ xs) F o past s t so (y, does, runs) inputs =
      let (one, rest) = went F o past s y x xs so does inputs in
      let ((u, z, list), outputs) = all_go xs one.family one.open_then (after r x past) y t one.goes runs rest in
      ((u, z, (one.open_then, y, does, one.comes, one.welcome, list)), outputs_then r x xs past one.outputs outputs)

  pub joining_is_regular : IsRegular r
  joining_is_regular s t xs idle runs inputs = all_go xs (first_family w s) none_open [] s t (goes_first s idle) runs inputs

  -- how the whole stands after a list
  ends_so : (xs : List Element) (F : Family) (o : Open) (past : List Pass) (s t : Tokens) → Goes w r F o past s → Runs r xs s t → InputsKeepTurns r past xs
      → (G : Family) × (u : Open) × Goes w r G u (passed r past xs) t
  ends_so [] F o past s t so runs inputs = (F, o, subst (Goes w r F o past) (sym runs) so)
  ends_so (x ∷ xs) F o past s t so (y, does, runs) inputs =
      let (one, rest) = went F o past s y x xs so does inputs in ends_so xs one.family one.open_then (after r x past) y t one.goes runs rest

  pub goes_all : (s t : Tokens) (xs : List Element) → IsIdle r s → Runs r xs s t → InputsKeepTurns r [] xs
      → (G : Family) × (u : Open) × Goes w r G u (passed r [] xs) t
  goes_all s t xs idle runs inputs = ends_so xs (first_family w s) none_open [] s t (goes_first s idle) runs inputs
