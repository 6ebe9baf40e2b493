-- Lists that are matched are traces. What matches no list does not realise: the empty plan, and the other order.
use Rattle.std.specs.Prelude.{◌≡◌, ℕ, zero, suc, List, [], ◌∷◌, ◌++◌, Some, None}
use Rattle.std.proofs.Common.{refl, sym, ◌∙◌, subst, arith, inl}
use Rattle.gos_types.specs.Events.{Request}
use Rattle.gos_model.specs.Terms as terms
use Rattle.gos_model.specs.Terms.{Term}
use Rattle.gos_model.specs.Reach.{Unfolds}
use Rattle.gos_model.specs.Labels.{given}
use Rattle.gos_model.specs.Moves.{Program, Config, Idle, Running, Act, Computing, Showing, Moves, labels, Unfoldings, ActsTo, Stalled}
use Rattle.gos_model.specs.SmallPrograms.{one_then_other}
use Rattle.gos_model.proofs.MoveLemmas.{moves_then, labels_then}
use Rattle.gos_model.proofs.SequenceLemmas.{seq_waits}
use Rattle.gos_plan.specs.Firing.{First, Slot, Req, Row, row, at, put}
use Rattle.gos_plan.specs.Plans.{End, PartEnd, ImportEnd, ResultEnd, Plan}
use Rattle.gos_plan.specs.Tokens.{Tokens, Element, Fire, Out, In, fired, with_token, Does, Runs, IsIdle, IsQuiet}
use Rattle.gos_plan.specs.SmallPlans.{at_first}
use Rattle.gos_realises.specs.realises.Regular.{InputsKeepTurns}
use Rattle.gos_realises.specs.realises.Matched.{all_shown, IsMatched, program_of}
use Rattle.gos_realises.specs.realises.SmallRealisers.{ListsAreTraces}
use Rattle.gos_realises.specs.realises.OtherPlans.{empty_plan, EmptyIsNotSkip, other_first, OrderIsTold}

traced : (p : Plan) (g : Program) (xs : List Element) (s t : Tokens) (a : Config) → IsMatched p g xs s a → Runs p xs s t
    → (acts : List Act) × (b : Config) × Moves g acts a b × (labels acts ≡ all_shown p xs)
traced p g [] s t a matched runs = ([], a, refl, refl)
traced p g (x ∷ xs) s t a matched (w, does, runs) =
    let (acts, b, moves, shown, goes, rest) = matched.1 w does in
    let (others, e, then, told) = traced p g xs w t b rest runs in
    (acts ++ others, e, moves_then g acts others a b e moves then, labels_then acts others ∙ (λ i. shown i ++ told i))

pub lists_are_traces : ListsAreTraces
lists_are_traces p m xs s t done idle runs keeps = traced p (program_of p m) xs s t Idle (done s t xs idle runs keeps).0 runs

-- the empty plan is quiet after a run, and the program is not stalled
abbrev skip : Program
skip = program_of empty_plan terms.Skip

pub unfolds_none : (n : ℕ) (u : Term) → Unfoldings n terms.Skip u → terms.Skip ≡ u
unfolds_none zero u h = h
unfolds_none (suc n) u h = absurd (no_unfolding h.0 h.1)
  where
    no_unfolding : (u : Term) → Unfolds terms.Skip u → ⊥
    no_unfolding u h = grind (arith, h)

pub computes_none : (e : Config) → ActsTo [] Computing [] terms.Skip e → ⊥
computes_none Idle h = h
computes_none (Running m s) h = grind (arith, h)

no_moves : (acts : List Act) (e : Config) → Moves skip acts (Running terms.Skip []) e → labels acts ≡ [] → e ≡ Running terms.Skip []
no_moves [] e m l = sym m
no_moves (Computing ∷ acts) e (b, (n, u, us, h), m) l =
    absurd (computes_none b (subst (λ v. ActsTo [] Computing [] v b) (sym (unfolds_none n u us)) h))
no_moves (Showing o ∷ acts) e m l = absurd cc

first_moves : (acts : List Act) (e : Config) → Moves skip acts Idle e → labels acts ≡ given 0 0 ∷ [] → e ≡ Running terms.Skip []
first_moves [] e m l = absurd cc
first_moves (Computing ∷ acts) e (b, (is, at_body), m) l = absurd cc
first_moves (Showing o ∷ acts) e (b, (is, at_body), m) l =
    let rest : labels acts ≡ [] = cc in
    no_moves acts e (subst (λ x. Moves skip acts x e) at_body m) rest

can_answer : Stalled skip (Running terms.Skip []) → ⊥
can_answer stalled = stalled.1 (given 1 0) Idle refl (0, terms.Skip, refl, inl (refl, refl))

empty_is_quiet : (s : Tokens) → IsQuiet empty_plan s
empty_is_quiet s = (no_firing, no_output)
  where
    no_firing : (i : ℕ) (t : Slot) (w : Tokens) → Does empty_plan (Fire i t) s w → ⊥
    no_firing i t w (v, r, lies, fires, leads) = cc fires

    no_output : (e : End) (v : ℕ) (w : Tokens) → Does empty_plan (Out e v) s w → ⊥
    no_output (PartEnd i h) v w does = does.0
    no_output (ImportEnd i h) v w does = does.1
    no_output (ResultEnd zero) v w does = let none = does.1.0 in cc none
    no_output (ResultEnd (suc h)) v w does = does.1

pub first_is_idle : (p : Plan) → IsIdle p at_first
first_is_idle p = ((λ way e. refl), λ i. refl)

pub empty_is_not_skip : EmptyIsNotSkip
empty_is_not_skip r =
    let comes : Does empty_plan (In (ResultEnd 0) 0) at_first at_first = (tt, (omega arith, refl)) in
    let both = r.means at_first at_first (In (ResultEnd 0) 0 ∷ []) (first_is_idle empty_plan) (at_first, comes, refl) ((refl, tt), tt) in
    let (acts, e, moves, shown, goes, last) = both.0.1 at_first comes in
    can_answer (subst (λ x. Stalled skip x) (first_moves acts e moves shown) (last.0 (empty_is_quiet at_first)))

-- The plan of the other order asks d first, which `c ; d` does not: run, the part fires, and d is asked.
abbrev d_first : List Element
d_first = In (ResultEnd 0) 0 ∷ Fire 0 (Req 2) ∷ Out (ImportEnd 1 0) 0 ∷ []

abbrev begins : Row
begins = row (Req 2) (at First 0) (λ v. put (Req 0) 0)

abbrev asked : Tokens
asked = with_token other_first (ResultEnd 0) Request (Some 0) at_first

abbrev started : Tokens
started = fired other_first 0 begins 0 asked

abbrev gone : Tokens
gone = with_token other_first (ImportEnd 1 0) Request None started

in_turn : InputsKeepTurns other_first [] d_first
in_turn = ((refl, (tt, (tt, tt, λ asked. absurd (cc asked)), λ asked. absurd (cc asked))), tt)

pub order_is_told : OrderIsTold
order_is_told r =
    let runs : Runs other_first d_first at_first gone =
    (asked, (tt, (omega arith, refl)), (started, (0, begins, refl, refl, refl), (gone, (tt, (refl, refl)), refl))) in
    let (acts, b, moves, told) =
    traced other_first one_then_other d_first at_first gone Idle (r.means at_first gone d_first (first_is_idle other_first) runs in_turn).0 runs in
    seq_waits (acts, b, moves, told)
