-- Where imports are ground no running term has a port that asks for an index: what such a port leaves would have no type.
use Rattle.std.specs.Prelude.{◌≡◌, ℕ, List, [], ◌∷◌, Option, Some, None}
use Rattle.std.proofs.Common.{arith, refl, subst, inl, inr}
use Rattle.gos_types.specs.Types.{Type', Com, Exp, Var, Pair, Fun, IsGround}
use Rattle.gos_model.specs.Terms.{Term, Skip, Lit, Bound, Import, Lam, App, Both, Fst, Snd, Seq, Par, If, While, Assign, Deref, New, NewArray, Not, Bin, Loc, Arr, Scope, Wait, Held, Put}
use Rattle.gos_model.specs.Typing.{Imports, import_type}
use Rattle.gos_model.specs.Labels.{given, taken}
use Rattle.gos_model.specs.Moves.{Running, Showing}
use Rattle.gos_model.specs.ArrayPorts.{AreGround, a, b, read_at}
use Rattle.gos_programs.specs.results.HasTypes.{Widths, widths_of, AnswersWith, HasType}
use Rattle.gos_programs.specs.results.GroundImports.{AsksIndex, NoIndexIsAsked, ArraysAsk}
use Rattle.gos_programs.proofs.results.PutLemmas.{unfoldings_typed}
use Rattle.gos_programs.proofs.results.ResultLemmas.{runs_keep_types}

-- event 0 of a ground port is no answer, nor is that of a port that isn't there
no_answer : (o : Option Type') (t : Type') → ((u : Type') → o ≡ Some u → IsGround u) → AnswersWith o 0 t → ⊥
no_answer None t ground h = h
no_answer (Some Com) t ground h = h
no_answer (Some (Exp w)) t ground h = h
no_answer (Some (Var w)) t ground h = h
no_answer (Some (Pair c d)) t ground h = h
no_answer (Some (Fun c d)) t ground h = ground (Fun c d) refl

never : (ws : Widths) (i : Imports) → AreGround i → (m : Term) (g : List Type') (t : Type') → HasType ws i g m t → AsksIndex m → ⊥
never ws i ground (Lam c m) g t (b, e, h) = never ws i ground m (c ∷ g) b h
never ws i ground (App m n) g t (c, h, k) = λ x. elim x [ inl y ↦ never ws i ground m g (Fun c t) h y | inr y ↦ never ws i ground n g c k y ]
never ws i ground (Both m n) g t (c, d, e, h, k) = λ x. elim x [ inl y ↦ never ws i ground m g c h y | inr y ↦ never ws i ground n g d k y ]
never ws i ground (Fst m) g t (d, h) = never ws i ground m g (Pair t d) h
never ws i ground (Snd m) g t (c, h) = never ws i ground m g (Pair c t) h
never ws i ground (Seq m n) g t (e, h, k) = λ x. elim x [ inl y ↦ never ws i ground m g Com h y | inr y ↦ never ws i ground n g t k y ]
never ws i ground (Par m n) g t (e, h, k) = λ x. elim x [ inl y ↦ never ws i ground m g Com h y | inr y ↦ never ws i ground n g Com k y ]
never ws i ground (If m n p) g t (e, h, k, l) =
    λ x. elim x [
      | inl y ↦ never ws i ground m g (Exp 1) h y
      | inr z ↦ elim z [ inl y ↦ never ws i ground n g t k y | inr y ↦ never ws i ground p g t l y ]
    ]
never ws i ground (While m n) g t (e, h, k) = λ x. elim x [ inl y ↦ never ws i ground m g (Exp 1) h y | inr y ↦ never ws i ground n g Com k y ]
never ws i ground (Assign m n) g t (w, e, h, k) =
    λ x. elim x [ inl y ↦ never ws i ground m g (Var w) h y | inr y ↦ never ws i ground n g (Exp w) k y ]
never ws i ground (Deref m) g t (w, e, h) = never ws i ground m g (Var w) h
never ws i ground (New w m) g t (e, h) = never ws i ground m (Var w ∷ g) t h
never ws i ground (NewArray n w m) g t (e, l, h) = never ws i ground m _ t h
never ws i ground (Not m) g t (w, e, h) = never ws i ground m g (Exp w) h
never ws i ground (Bin op m n) g t (w, e, h, k) =
    λ x. elim x [ inl y ↦ never ws i ground m g (Exp w) h y | inr y ↦ never ws i ground n g (Exp w) k y ]
never ws i ground (Scope l m) g t (e, h) = never ws i ground m g t h
never ws i ground (Wait x n) g t h =
    λ none. no_answer (import_type i x) t (ground x) (subst (λ (j : ℕ). AnswersWith (import_type i x) j t) none h)
never ws i ground (Held k op n) g t (w, e, small, h) = never ws i ground n g (Exp w) h
never ws i ground (Put m k) g t (w, e, small, h) = never ws i ground m g (Var w) h
never ws i ground Skip g t h = λ x. x
never ws i ground (Lit k w) g t h = λ x. x
never ws i ground (Bound n) g t h = λ x. x
never ws i ground (Import x) g t h = λ y. y
never ws i ground (Loc l) g t h = λ x. x
never ws i ground (Arr l) g t h = λ x. x

pub no_index_is_asked : NoIndexIsAsked
no_index_is_asked p ty acts m u s n ground typed h us =
    never (widths_of s) p.imports ground u [] ty
    (unfoldings_typed (widths_of s) p.imports n m u us ty (runs_keep_types p ty acts m s typed h).0)

-- an access that waits, at its index as it was written
abbrev waiting : ℕ → Term
waiting s = Deref (App (Wait a s) (Both (Import b) (Import b)))

pub arrays_ask : ArraysAsk
arrays_ask = (
  (
    Showing (given 0 0) ∷ Showing (taken a 2 0) ∷ Showing (taken a 1 0) ∷ [],
    waiting 0,
    (
      Running (read_at.body) [],
      (refl, refl),
      (
        Running (waiting 1) [],
        (0, (read_at.body), refl, (inl (inl (inr (a, refl, (1, 8, Import b, refl, inl (refl, refl, refl, refl))))), refl)),
        (
          Running (waiting 0) [],
          (0, waiting 1, refl, (inl (inr (a, refl, (1, 8, Import b, Import b, refl, refl, inl (refl, refl, refl)))), refl)),
          refl,
        ),
      ),
    ),
    inl refl,
  ),
  inl refl,
  λ x. elim x [ inl y ↦ omega (arith, y) | inr y ↦ elim y [ inl z ↦ z | inr z ↦ z ] ],
)
