-- A plan of which each session is matched rests after the answer, since the program is idle then.
use Rattle.std.specs.Prelude.{◌^◌, ◌<◌}
use Rattle.std.proofs.Common.{◌≡◌, ℕ, List, [], ◌∷◌, ◌++◌, Option, inr, refl, sym, ap, subst}
use Rattle.gos_types.specs.Events.{Direction, Request}
use Rattle.gos_model.specs.Terms.{Term}
use Rattle.gos_model.specs.Moves.{Program, Config}
use Rattle.gos_plan.specs.Kinds.{Contact}
use Rattle.gos_plan.specs.Plans.{End, ResultEnd, Plan}
use Rattle.gos_plan.specs.Tokens.{Tokens, Element, Fire, Out, In, bits_of, way_put, Passes, Does, Runs, IsIdle}
use Rattle.gos_realises.specs.realises.Regular.{InputsKeepTurns}
use Rattle.gos_realises.specs.realises.Matched.{program_of}
use Rattle.gos_realises.proofs.realises.InputLemmas.{in_there}
use Rattle.gos_nodes.specs.windows.OneSession.{IsRestfulAt}
use Rattle.gos_nodes.specs.assignments.Writes.{asked_type, request_bits}
use Rattle.gos_nodes.specs.assignments.Realised.{IsSessionMatched, SessionIsRealised}
use Rattle.gos_nodes.proofs.windows.AskedLemmas.{asked_is, asked_role}
use Rattle.gos_nodes.proofs.assignments.AskedLemmas.{asked_by}
use Rattle.gos_nodes.proofs.nodes.RestLemmas.{ends_idle}

rests_at : (p : Plan) (g : Program) (h v : ℕ) (xs : List Element) (s t : Tokens) (c : Config) → IsSessionMatched p g (xs ++ Out (ResultEnd h) v ∷ []) s c
    → Runs p (xs ++ Out (ResultEnd h) v ∷ []) s t → IsIdle p t
rests_at p g h v [] s t c (agrees, next) (u, does, e) =
    let n = next u does in subst (λ (x : Tokens). IsIdle p x) (sym e) (n.5.1 (ends_idle g n.0 c n.1 v n.2 n.3))
rests_at p g h v (x ∷ xs) s t c (agrees, next) (u, does, runs) = let n = next u does in rests_at p g h v xs u t n.1 n.5 runs

-- the number that is asked with fits
asked_fits : (p : Plan) (h w : ℕ) → h < 2 → p.outcome ≡ asked_type h w → (n : ℕ) (s u : Tokens) → Does p (In (ResultEnd h) n) s u → n < 2 ^ request_bits h w
asked_fits p h w low is n s u does =
    let (c, at) = in_there p (ResultEnd h) n s u does in
    let passes = subst (λ (o : Option Contact). Passes p (In (ResultEnd h) n) o s u) at does.1 in
    let small : n < 2 ^ bits_of c Request =
    subst (λ (way : Direction). n < 2 ^ bits_of c way) (sym (ap way_put (asked_role p h _ _ (asked_by p h w low is) c at))) passes.0 in
    subst (λ (x : Contact). n < 2 ^ x.ask_bits) (sym (asked_is p h _ _ (asked_by p h w low is) c at)) small

-- the plan rests, where each session that may be asked is matched
pub sessions_rest : (p : Plan) (h w : ℕ) (term : ℕ → Term) → h < 2 → p.outcome ≡ asked_type h w
    → ((k : ℕ) → k < 2 ^ request_bits h w → SessionIsRealised p h k (term k)) → IsRestfulAt h p
sessions_rest p h w term low is realised s t [] v tidy idle begun runs turns = absurd begun
sessions_rest p h w term low is realised s t (Fire i slot ∷ xs) v tidy idle begun runs turns = absurd begun
sessions_rest p h w term low is realised s t (Out e n ∷ xs) v tidy idle begun runs turns = absurd begun
sessions_rest p h w term low is realised s t (In e n ∷ xs) v tidy idle (at, all) runs turns =
    of_end e n at runs turns
  where
    of_end : (e : End) (n : ℕ) → e ≡ ResultEnd h → Runs p (In e n ∷ (xs ++ Out (ResultEnd h) v ∷ [])) s t
        → InputsKeepTurns p [] (In e n ∷ (xs ++ Out (ResultEnd h) v ∷ [])) → IsIdle p t
    of_end e n at runs turns =
        let ran = subst (λ (x : End). Runs p (In x n ∷ (xs ++ Out (ResultEnd h) v ∷ [])) s t) at runs in
        let kept = subst (λ (x : End). InputsKeepTurns p [] (In x n ∷ (xs ++ Out (ResultEnd h) v ∷ []))) at turns in
        let (u, does, later) = ran in
        let found = realised n (asked_fits p h w low is n s u does) s u t (xs ++ Out (ResultEnd h) v ∷ []) tidy idle (inr (xs, v, all, refl)) does later kept in
        rests_at p (program_of p (term n)) h v xs u t found.1 found.5 later
