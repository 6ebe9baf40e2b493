-- What holds after every list whose inputs keep turns holds all along one.
use Rattle.std.specs.Prelude.{List, [], ◌∷◌, ◌++◌}
use Rattle.std.proofs.Common.{◌≡◌, refl, sym, ◌∙◌, ap, subst}
use Rattle.gos_plan.specs.Plans.{Plan}
use Rattle.gos_plan.specs.Tokens.{Tokens, Element, Does, Runs, IsIdle}
use Rattle.gos_realises.specs.realises.Regular.{Pass, InputsKeepTurns}
use Rattle.gos_realises.proofs.realises.InputLemmas.{passed, passed_then, inputs_then, first_turns, later_turns, runs_then}
use Rattle.gos_realises.proofs.realises.RingLemmas.{after}
use Rattle.gos_sharing.specs.cores.Clear.{AllAlong}

-- after every list from an idle state whose inputs keep turns
abbrev pub Always : Plan → (Tokens → Type 0) → Type 0
Always p Q = (s t : Tokens) (xs : List Element) → IsIdle p s → Runs p xs s t → InputsKeepTurns p [] xs → Q t

pub along_map : (p : Plan) (Q R : Tokens → Type 0) → ((s : Tokens) → Q s → R s) → (xs : List Element) (s : Tokens) → AllAlong p Q xs s → AllAlong p R xs s
along_map p Q R f [] s along = f s along
along_map p Q R f (x ∷ xs) s along = (f s along.0, λ w does. along_map p Q R f xs w (along.1 w does))

module _ (p : Plan) (Q : Tokens → Type 0) (always : Always p Q) where
  along_from : (xs done : List Element) (past : List Pass) (first s : Tokens) → IsIdle p first → Runs p done first s → InputsKeepTurns p [] done
      → passed p [] done ≡ past → InputsKeepTurns p past xs → AllAlong p Q xs s
  along_from [] done past first s idle runs turns is_past keeps = always first s done idle runs turns
  along_from (x ∷ xs) done past first s idle runs turns is_past keeps = (
    always first s done idle runs turns,
    λ w does.
        along_from xs (done ++ x ∷ []) (after p x past) first w idle (runs_then p done x first s w runs does)
        (inputs_then p [] done (x ∷ []) turns (subst (λ (b : List Pass). InputsKeepTurns p b (x ∷ [])) (sym is_past) (first_turns p past x xs keeps)))
        (passed_then p [] done x ∙ ap (after p x) is_past) (later_turns p past x xs keeps),
  )

  pub all_along : (xs : List Element) (s : Tokens) → IsIdle p s → InputsKeepTurns p [] xs → AllAlong p Q xs s
  all_along xs s idle keeps = along_from xs [] [] s s idle refl tt refl keeps

-- the last state, and one element more
pub along_last : (p : Plan) (Q : Tokens → Type 0) (xs : List Element) (s t : Tokens) → AllAlong p Q xs s → Runs p xs s t → Q t
along_last p Q [] s t along runs = subst Q (sym runs) along
along_last p Q (x ∷ xs) s t along (w, does, runs) = along_last p Q xs w t (along.1 w does) runs

along_then : (p : Plan) (Q : Tokens → Type 0) (xs : List Element) (x : Element) (s : Tokens) → AllAlong p Q xs s
    → ((t w : Tokens) → Runs p xs s t → Does p x t w → Q w) → AllAlong p Q (xs ++ (x ∷ [])) s
along_then p Q [] x s along more = (along, λ w does. more s w refl does)
along_then p Q (y ∷ ys) x s along more = (
  along.0,
  λ w does. along_then p Q ys x w (along.1 w does) (λ t u runs next. more t u (w, does, runs) next),
)

-- what holds at first, and after one more element of a list along which it holds, holds always
module _ (p : Plan) (Q : Tokens → Type 0) (first_so : (s : Tokens) → IsIdle p s → Q s)
    (step : (s t u : Tokens) (xs : List Element) (x : Element)
    → IsIdle p s → Runs p xs s t → InputsKeepTurns p [] (xs ++ (x ∷ [])) → AllAlong p Q xs s → Does p x t u → Q u) where
  steps : (xs done : List Element) (past : List Pass) (first s t : Tokens) → IsIdle p first → Runs p done first s → InputsKeepTurns p [] done
      → passed p [] done ≡ past → InputsKeepTurns p past xs → AllAlong p Q done first → Runs p xs s t → Q t
  steps [] done past first s t idle before turns is_past keeps along runs = subst Q (sym runs) (along_last p Q done first s along before)
  steps (x ∷ xs) done past first s t idle before turns is_past keeps along (w, does, runs) =
      let more =
      inputs_then p [] done (x ∷ []) turns (subst (λ (b : List Pass). InputsKeepTurns p b (x ∷ [])) (sym is_past) (first_turns p past x xs keeps))
      in
      steps xs (done ++ x ∷ []) (after p x past) first w t idle (runs_then p done x first s w before does) more
      (passed_then p [] done x ∙ ap (after p x) is_past) (later_turns p past x xs keeps)
      (along_then p Q done x first along (λ y u ran next. step first y u done x idle ran more along next)) runs

  pub always_by_step : Always p Q
  always_by_step s t xs idle runs keeps = steps xs [] [] s s t idle refl tt refl keeps (first_so s idle) runs
