-- A whole move of a context comes from its term, or from a row of its own.
use Rattle.std.specs.Prelude.{◌≡◌, ◌⊎◌}
use Rattle.std.proofs.Common.{refl, subst, inl, inr}
use Rattle.gos_model.specs.Terms.{Term, Skip, Par}
use Rattle.gos_model.specs.Typing.{Imports}
use Rattle.gos_model.specs.Stores.{Store}
use Rattle.gos_model.specs.Steps.{Computes, IsValue}
use Rattle.gos_model.specs.Moves.{Act, Computing, Showing, Acts, Unfoldings}
use Rattle.gos_programs.specs.contexts.Contexts.{Context, plug, IsAlone}
use Rattle.gos_programs.specs.contexts.Backward.{MoveOfContext, NoAnswerOfContext, MoveOfBoth}
use Rattle.gos_programs.proofs.contexts.PluggedLemmas.{acts_of, acts_to}
use Rattle.gos_programs.proofs.contexts.BackwardLemmas.{no_value, unfoldings_within, unfoldings_of_both, steps_within, steps_of_both, labels_within, labels_of_both}

-- of a move that has unfolded
acts_within : (i : Imports) (a : Act) (c : Context) (s u : Store) (x v : Term) → IsAlone c → Acts i a s u (plug c x) v
    → ((t : Term) × (v ≡ plug c t) × Acts i a s u x t) ⊎ ((a ≡ Computing) × IsValue x × Computes s u (plug c x) v)
acts_within i Computing c s u x v alone h = elim (steps_within c s u x v alone h) [ inl g ↦ inl g | inr g ↦ inr (refl, g.1, g.0) ]
acts_within i (Showing o) c s u x v alone h = inl (labels_within i o c s u x v alone h)

pub move_of_context : MoveOfContext
move_of_context p q a c s u m v e alone (n, w, hs, h) =
    let b = unfoldings_within c n m w alone hs in
    let acts : Acts p.imports a s u (plug c b.0) v =
    subst (λ (x : Term). Acts p.imports a s u x v) b.1
    (subst (λ (i : Imports). Acts i a s u w v) e (acts_of q.imports a s u w v h)) in
    elim (acts_within p.imports a c s u b.0 v alone acts) [
      | inl g ↦ inl (g.0, g.1, (n, b.0, b.2, acts_to p.imports a s u b.0 g.0 g.2))
      | inr g ↦ inr (g.0, n, b.0, b.2, g.1, g.2)
    ]

pub no_answer_of_context : NoAnswerOfContext
no_answer_of_context q Computing c s m alone (n, w, hs, h) = h
no_answer_of_context q (Showing o) c s m alone (n, w, hs, inl (is, g)) =
    let b = unfoldings_within c n m w alone hs in no_value c b.0 (subst IsValue b.1 (inl is))
no_answer_of_context q (Showing o) c s m alone (n, w, hs, inr (k, j, is, g)) =
    let b = unfoldings_within c n m w alone hs in no_value c b.0 (subst IsValue b.1 (inr (k, j, is)))

acts_of_both : (i : Imports) (a : Act) (s u : Store) (l r v : Term) → Acts i a s u (Par l r) v
    → (((t : Term) × (v ≡ Par t r) × Acts i a s u l t) ⊎ ((t : Term) × (v ≡ Par l t) × Acts i a s u r t))
    ⊎ ((a ≡ Computing) × (l ≡ Skip) × (r ≡ Skip) × (v ≡ Skip) × (u ≡ s))
acts_of_both i Computing s u l r v h = elim (steps_of_both s u l r v h) [ inl g ↦ inl g | inr g ↦ inr (refl, g.0, g.1, g.2, g.3) ]
acts_of_both i (Showing o) s u l r v h = inl (labels_of_both i o s u l r v h)

pub move_of_both : MoveOfBoth
move_of_both p q a s u l r v e (n, w, hs, h) =
    let b = unfoldings_of_both n l r w hs in
    let acts : Acts p.imports a s u (Par b.2 b.3) v =
    subst (λ (x : Term). Acts p.imports a s u x v) b.4
    (subst (λ (i : Imports). Acts i a s u w v) e (acts_of q.imports a s u w v h)) in
    elim (acts_of_both p.imports a s u b.2 b.3 v acts) [
      | inl g ↦ inl (elim g [
        | inl k ↦ inl (k.0, b.3, b.1, k.1, b.6, (b.0, b.2, b.5, acts_to p.imports a s u b.2 k.0 k.2))
        | inr k ↦ inr (b.2, k.0, b.0, k.1, b.5, (b.1, b.3, b.6, acts_to p.imports a s u b.3 k.0 k.2))
      ])
      | inr g ↦ inr
          (g.0, b.0, b.1, subst (λ (x : Term). Unfoldings b.0 l x) g.1 b.5, subst (λ (x : Term). Unfoldings b.1 r x) g.2 b.6, g.3, g.4)
    ]
