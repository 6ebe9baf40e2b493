-- What a source becomes in a run has its type, and so has what the run ends with.
use Rattle.std.specs.Prelude.{◌≡◌, ◌^◌, ◌<◌, ℕ, List, [], ◌∷◌, ◌++◌}
use Rattle.std.proofs.Common.{refl, sym, ap, subst, inl, inr, ◌∙◌}
use Rattle.std.proofs.lemmas.Option.{none-some}
use Rattle.gos_types.specs.Types.{Type'}
use Rattle.gos_model.specs.Terms.{Term, Lit}
use Rattle.gos_model.specs.Typing.{Imports, Typed}
use Rattle.gos_model.specs.Stores.{Store}
use Rattle.gos_model.specs.Steps.{Computes, IsValue}
use Rattle.gos_model.specs.Labels.{given}
use Rattle.gos_model.specs.Moves.{Program, Config, Idle, Running, Act, Computing, Showing, Acts, Answers, Move, Moves}
pub use Rattle.gos_model.proofs.MoveLemmas.{moves_then}
use Rattle.gos_programs.proofs.contexts.BackwardLemmas.{OneLabel}
use Rattle.gos_programs.proofs.contexts.PluggedLemmas.{acts_of}
use Rattle.gos_programs.proofs.contexts.ReachedLemmas.{reached_lifted}
use Rattle.gos_programs.proofs.contexts.StandingLemmas.{runs_stay}
use Rattle.gos_programs.specs.results.HasTypes.{Widths, widths_of, HasType, RunsAs}
use Rattle.gos_programs.specs.results.Results.{IsResult, RunsKeepTypes, ResultsAreTyped, AnswersAreTyped}
use Rattle.gos_programs.proofs.results.TypeLemmas.{settled, sources_have}
use Rattle.gos_programs.proofs.results.PutLemmas.{KeepsType, keeps_in, unfoldings_typed}
use Rattle.gos_programs.proofs.results.StepLemmas.{either, Kept, kept_in, same_store, row_kept, label_keeps}

acts_keep : (i : Imports) (a : Act) (s u : Store) (m b : Term) → Acts i a s u m b → Kept i s u m b
acts_keep i Computing s u m b h = reached_lifted (Computes s u) (Kept i s u) (row_kept i s u) (kept_in i s u) m b h
acts_keep i (Showing o) s u m b (h, e) =
    λ t k f.
    same_store i s u b t e f
    (reached_lifted (OneLabel i o) (KeepsType (widths_of s) i) (label_keeps (widths_of s) i o) (keeps_in (widths_of s) i) m b h t k)

abbrev Has : Program → Type' → Config → Type 0
Has p ty Idle = Unit {0}
Has p ty (Running m s) = RunsAs p.imports m s ty

begun : (p : Program) (ty : Type') → Typed p.imports [] p.body ty → RunsAs p.imports p.body [] ty
begun p ty typed = (sources_have (widths_of []) p.imports [] p.body ty typed, λ l e h. absurd (none-some e h))

one_move : (p : Program) (ty : Type') (before : List Act) (a : Act) (c d : Config)
    → Typed p.imports [] p.body ty → Moves p before Idle c → Move p a c d → Has p ty c → Has p ty d
one_move p ty before a Idle d typed hs (e, is) k = subst (Has p ty) (sym is) (begun p ty typed)
one_move p ty before a (Running m s) Idle typed hs h k = tt
one_move p ty before a (Running m s) (Running b u) typed hs (n, v, us, h) k =
    let r = acts_keep p.imports a s u v b (acts_of p.imports a s u v b h) ty (unfoldings_typed (widths_of s) p.imports n m v us ty k.0) k.1 in
    let all : Moves p (before ++ a ∷ []) Idle (Running b u) =
    moves_then p before (a ∷ []) Idle (Running m s) (Running b u) hs (Running b u, (n, v, us, h), refl) in (
      settled (either s u) (widths_of u) p.imports u (λ l n w x here. elim x [ inl y ↦ r.2 l n w y here | inr y ↦ y ]) b [] ty
          (runs_stay p (before ++ a ∷ []) b u ty typed all).2 r.0,
      r.1,
    )

all_moves : (p : Program) (ty : Type') (acts before : List Act) (c d : Config)
    → Typed p.imports [] p.body ty → Moves p before Idle c → Moves p acts c d → Has p ty c → Has p ty d
all_moves p ty [] before c d typed hs h k = subst (Has p ty) h k
all_moves p ty (a ∷ acts) before c d typed hs (b, h, rest) k =
    all_moves p ty acts (before ++ a ∷ []) b d typed (moves_then p before (a ∷ []) Idle c b hs (b, h, refl)) rest
    (one_move p ty before a c b typed hs h k)

pub runs_keep_types : RunsKeepTypes
runs_keep_types p ty acts m s typed h = all_moves p ty acts [] Idle (Running m s) typed refl h tt

-- a value of a type is a result of it
value_typed : (ws : Widths) (i : Imports) (v : Term) (t : Type') → IsValue v → HasType ws i [] v t → (k : ℕ) × IsResult t v k
value_typed ws i v t (inl e) h = (0, inl (subst (λ (x : Term). HasType ws i [] x t) e h, e, refl))
value_typed ws i v t (inr (k, w, e)) h =
    let here : HasType ws i [] (Lit k w) t = subst (λ (x : Term). HasType ws i [] x t) e h in
    (k, inr (w, here.0, e, here.1))

pub results_are_typed : ResultsAreTyped
results_are_typed p ty acts m v s n typed h us value =
    value_typed (widths_of s) p.imports v ty value
    (unfoldings_typed (widths_of s) p.imports n m v us ty (runs_keep_types p ty acts m s typed h).0)

answer_is : (ws : Widths) (i : Imports) (v : Term) (t : Type') (k : ℕ) → Answers (given 1 k) v → HasType ws i [] v t → IsResult t v k
answer_is ws i v t k (inl (e, o)) h = inl (subst (λ (x : Term). HasType ws i [] x t) e h, e, ap (λ x. x.value) o)
answer_is ws i v t k (inr (j, w, e, o)) h =
    let same : k ≡ j = ap (λ x. x.value) o in
    let here : HasType ws i [] (Lit j w) t = subst (λ (x : Term). HasType ws i [] x t) e h in
    inr (w, here.0, e ∙ ap (λ x. Lit x w) (sym same), subst (λ (x : ℕ). x < 2 ^ w) (sym same) here.1)

pub answers_are_typed : AnswersAreTyped
answers_are_typed p ty acts m s k typed h (n, v, us, answers) = (
  n,
  v,
  us,
  answer_is (widths_of s) p.imports v ty k answers
      (unfoldings_typed (widths_of s) p.imports n m v us ty (runs_keep_types p ty acts m s typed h).0),
)
